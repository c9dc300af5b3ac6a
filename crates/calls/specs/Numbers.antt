-- Document 01, "Numbers": the sizes of the desk, and never. Assumes nothing.
use Rattle.std.specs.Prelude.{ℕ}

-- "Threads 16 (0..15), channels 8 (0..7), connections 32 (0..31), both directions together; items 64 in all channels together."
abbrev pub thread_places : ℕ
thread_places = 16

abbrev pub channel_places : ℕ
channel_places = 8

abbrev pub connection_places : ℕ
connection_places = 32

abbrev pub item_places : ℕ
item_places = 64

-- "The value 4,294,967,295 is called never. It is no timestamp; a virtual time, a mark or a bound may be never."
abbrev pub never : ℕ
never = 4294967295
