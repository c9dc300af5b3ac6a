-- Document 01: "Questions without effect, refused by the same codes but never counted as accepted calls". Assumes nothing.
use Rattle.std.specs.Prelude.{List, [], ◌∷◌, ℕ}
use Rattle.calls.specs.Calls.{Call, Passable}

-- "a thread's visible time (1); both bounds; a timestamp's state on an input connection (..); the number of items present"
pub data Question : Type 0 where
  ask_visible_time : (thread : ℕ) → Question
  ask_weak_bound : Question
  ask_strong_bound : Question
  ask_state_of : (connection timestamp : ℕ) → Question
  ask_items_present : Question

-- what a program asks of a desk: a call, or a question
pub data Request : Type 0 where
  make : (call : Call) → Request
  ask : (question : Question) → Request

-- a question may name any number
abbrev pub PassableRequests : List Request → Type 0
PassableRequests [] = Unit {0}
PassableRequests (make call ∷ requests) = Passable call × PassableRequests requests
PassableRequests (ask question ∷ requests) = PassableRequests requests
