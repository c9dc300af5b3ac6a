-- Document 01, "What a connection has seen": visible time and the two bounds. Assumes nothing.
use Rattle.std.specs.Prelude.{ℕ, min}
use Rattle.tables.specs.Times.{least_time, least_open, keep_time, least_keep, least_awaited}
use Rattle.desk.specs.declared.Desk.{Desk}
use Rattle.desk.specs.Desk.{time_of, inputs_of, connection_at}

-- "Visible time of a thread: the smallest of its virtual time and of all timestamps OPEN on its input connections."
-- It is VIS(t) of 000, section 3.2.1.
unfoldable pub visible_time : Desk → ℕ → ℕ
visible_time d thread = min (time_of d thread) (least_open (inputs_of d thread) (connection_at d) d.timestamps)

-- "Weak bound (000, section 4): the smallest of all virtual times of living threads and all keep times."
-- It is minKV of theorem 4.0, with the mark for the keep time: an item consumed by name does not move it, as it does in 000.
unfoldable pub weak_bound : Desk → ℕ
weak_bound d = min (least_time d.living d.times) (least_keep d.inputs (λ connection. keep_time (connection_at d connection)))

-- "Strong bound (000, section 5): the smallest of all virtual times and of all timestamps of present items that are UNSEEN or OPEN on some
-- input connection." It is minO of theorem 5.0, read so that it is sound: the theorem as printed takes minK where minV is at most minK,
-- and would let the bound fall at the first attach, from never, where there is no input connection yet, to the new connection's mark.
-- "With no living thread both bounds are never": a thread's end frees its connections, so nothing is left to take a smallest of.
unfoldable pub strong_bound : Desk → ℕ
strong_bound d = min (least_time d.living d.times) (least_awaited d.inputs (connection_at d) d.timestamps)
