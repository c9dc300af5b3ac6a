-- The threads stay in order where one of them takes another virtual time, as it begins to live, lives on or ends, or other connections. Assumes nothing.
use Rattle.obeys.proofs.Basis.{false, true, List, ◌≡◌, ◌<◌, ◌≤◌, ℕ, arith, set, has, Elsewhere, same_elsewhere, true_not_false, never, thread_places}
use Rattle.obeys.proofs.Basis.{Tidy, tidy_set, ended, ThreadsInOrder}
use Rattle.tables.proofs.At.{at-set_all}
use Rattle.tables.proofs.Tidy.{inside_elsewhere}

module _ {living : ℕ} {times owned : List ℕ} (o : ThreadsInOrder living times owned) (thread : ℕ) (below : thread < thread_places) where
  pub time-set : {word : ℕ} {others : List ℕ} → Elsewhere word living thread → Tidy thread_places word others
      → (time : ℕ) → time ≤ never → (has word thread ≡ false → time ≡ 0) → ThreadsInOrder word (set times thread time) others
  time-set else tidy time top ended = record {
    living = inside_elsewhere living o.living else below;
    times = tidy_set o.times (omega arith) else below time ended;
    owned = tidy;
    top = at-set_all thread_places times thread time below o.times.sized (λ other number. number ≤ never) top (λ other apart. o.top other);
  }

  pub owned-set : has living thread ≡ true → (word : ℕ) → ThreadsInOrder living times (set owned thread word)
  owned-set lives word = record {
    living = o.living;
    times = o.times;
    owned = tidy_set o.owned (omega arith) (same_elsewhere living thread) below word (λ dead. absurd (true_not_false lives dead));
    top = o.top;
  }
