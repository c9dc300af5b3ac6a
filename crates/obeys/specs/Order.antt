-- What is in order on every reached desk, in the columns and words of each kind: so that "A free place holds zeros only.", and that nothing stands in a
-- column or a word that no call puts there. Assumes nothing.
use Rattle.std.specs.Prelude.{◌≡◌, true, false, List, ℕ, ◌≤◌, ◌<◌}
use Rattle.words.specs.Words.{either, has}
use Rattle.rows.specs.Numbers.{never}
use Rattle.tables.specs.Columns.{at, thread_places, channel_places, connection_places, item_places}
use Rattle.tables.specs.Order.{Inside, Tidy, Shared, ConnectionInOrder}
use Rattle.desk.specs.declared.Desk.{Desk}
use Rattle.desk.specs.Desk.{connection_at}
use Rattle.obeys.specs.Reached.{Reached}

-- a thread that does not live has virtual time 0 and no connections; no virtual time passes never
pub record ThreadsInOrder (living_word : ℕ) (times_column owned_column : List ℕ) : Type 0 where
  pub living : Inside thread_places living_word
  pub times : Tidy thread_places living_word times_column
  pub owned : Tidy thread_places living_word owned_column
  pub top : (thread : ℕ) → at thread_places times_column thread ≤ never

-- each connection goes one way, is one thread's, and leads to a channel that there is; an output has neither mark nor facts
pub record ConnectionsInOrder (channels_word : ℕ) (owned_column : List ℕ) (outputs_word : ℕ) (leads_column : List ℕ) (inputs_word : ℕ)
    (marks_column opened_column consumed_column : List ℕ) : Type 0 where
  pub outputs : Inside connection_places outputs_word
  pub inputs : Inside connection_places inputs_word
  pub apart : (connection : ℕ) → has inputs_word connection ≡ true → has outputs_word connection ≡ false
  pub owned : Shared thread_places owned_column (either inputs_word outputs_word)
  pub leads : Tidy connection_places (either inputs_word outputs_word) leads_column
  pub led : (connection : ℕ) → has (either inputs_word outputs_word) connection ≡ true → has channels_word (at connection_places leads_column connection) ≡ true
  pub marks : Tidy connection_places inputs_word marks_column
  pub opened : Tidy connection_places inputs_word opened_column
  pub consumed : Tidy connection_places inputs_word consumed_column

-- each item lies in one channel, at a timestamp, and no two of a channel share it
pub record ItemsInOrder (channels_word present_word : ℕ) (held_column timestamps_column tickets_column : List ℕ) : Type 0 where
  pub channels : Inside channel_places channels_word
  pub present : Inside item_places present_word
  pub held : Tidy channel_places channels_word held_column
  pub lies : Shared channel_places held_column present_word
  pub timestamps : Tidy item_places present_word timestamps_column
  pub tickets : Tidy item_places present_word tickets_column
  pub stamped : (place : ℕ) → has present_word place ≡ true → at item_places timestamps_column place < never
  pub one_item_a_pair : (channel place other : ℕ)
      → has (at channel_places held_column channel) place ≡ true → has (at channel_places held_column channel) other ≡ true
      → at item_places timestamps_column place ≡ at item_places timestamps_column other → place ≡ other

-- all of these, and of each input connection what its facts say of the items in its channel
pub record DeskInOrder (d : Desk) : Type 0 where
  pub threads : ThreadsInOrder d.living d.times d.owned
  pub connections : ConnectionsInOrder d.channels d.owned d.outputs d.leads d.inputs d.marks d.opened d.consumed
  pub items : ItemsInOrder d.channels d.present d.held d.timestamps d.tickets
  pub seen : (connection : ℕ) → has d.inputs connection ≡ true → ConnectionInOrder (connection_at d connection)

-- `every_desk_in_order`
abbrev pub EveryDeskInOrder : Type 0
EveryDeskInOrder = (d : Desk) → Reached d → DeskInOrder d
