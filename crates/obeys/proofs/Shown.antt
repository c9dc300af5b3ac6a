-- What the view says of a connection follows from what the words and columns say of its number, its own columns and those of the items: so it is the
-- same where these say the same, and an input connection alone changes where what it has seen does. Assumes nothing.
use Rattle.obeys.proofs.Basis.{◌≡◌, ◌≢◌, Bool, Connection, Desk, List, Row, State, at, bool_cases, cond, connection_at, eq-eqb, has, is_input, is_output}
use Rattle.obeys.proofs.Basis.{leads_to, ne_eqb, output, owned_by, owner_of, refl, thread_places, true, unused, view_of, with_items, with_seen, ℕ, ℕ_discrete}
use Rattle.words.proofs.Laws.{lowest_ext}
use Rattle.rules.specs.Rules.{if_input}
use Rattle.obeys.proofs.Rows.{input_of}

-- a connection of the view, by what the words and columns say of its number
abbrev pub shown : (reads writes : Bool) (thread channel : ℕ) → List ℕ → Row → Connection
shown reads writes thread channel timestamps row = cond reads (input_of timestamps thread channel row) (cond writes (output thread channel) unused)

-- those of two desks say the same of it
pub record Alike (d e : Desk) (connection : ℕ) : Type 0 where
  pub reads : is_input e connection ≡ is_input d connection
  pub writes : is_output e connection ≡ is_output d connection
  pub owner : (thread : ℕ) → has (owned_by e thread) connection ≡ has (owned_by d thread) connection
  pub channel : leads_to e connection ≡ leads_to d connection
  pub timestamps : e.timestamps ≡ d.timestamps
  pub row : connection_at e connection ≡ connection_at d connection

module _ {d e : Desk} {connection : ℕ} (a : Alike d e connection) where
  same-owner : owner_of e connection ≡ owner_of d connection
  unfolding owner_of
  same-owner = lowest_ext _ _ thread_places (λ thread inside. a.owner thread)

  pub alike_view : (view_of e).connection connection ≡ (view_of d).connection connection
  unfolding view_of
  alike_view = λ i. shown (a.reads i) (a.writes i) (same-owner i) (a.channel i) (a.timestamps i) (a.row i)

-- one number stands for another connection, and what is said of the others is the same
pub one_connection : (d e : Desk) (number : ℕ) (new : Connection) → ((k : ℕ) → k ≢ number → Alike d e k) → (view_of e).connection number ≡ new
    → (k : ℕ) → (view_of e).connection k ≡ at (view_of d).connection number new k
one_connection d e number new others here k =
    elim (ℕ_discrete k number) [
      | yes same ↦ rw (same, eq-eqb number number refl) here
      | no apart ↦ rw (ne_eqb k number apart) (alike_view (others k apart))
    ]

-- ---- what the input connections have seen, and the items

module _ (d : Desk) (marks opened consumed : List ℕ) (present : ℕ) (held timestamps tickets : List ℕ) where
  abbrev seeing : Desk
  seeing = with_items (with_seen d marks opened consumed) present held timestamps tickets

  -- every input connection changes by a rule, and what is none stays
  pub inputs_changed : (change : (thread channel mark : ℕ) (seen : ℕ → State) → Connection)
      → ((k : ℕ) → is_input d k ≡ true
      → input_of timestamps (owner_of d k) (leads_to d k) (connection_at seeing k)
      ≡ if_input change (input_of d.timestamps (owner_of d k) (leads_to d k) (connection_at d k)))
      → (k : ℕ) → (view_of seeing).connection k ≡ if_input change ((view_of d).connection k)
  unfolding view_of owner_of
  inputs_changed change changed k =
      bool_cases (is_input d k)
      (λ reads. rw reads (changed k reads))
      (λ other. rw other (bool_cases (is_output d k) (λ writes. rw writes) (λ neither. rw neither)))
