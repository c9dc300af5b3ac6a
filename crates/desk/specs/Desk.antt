-- Document 01, "What the desk is" and "Numbers": the desk's columns and words, what they say of a thread, a channel, a connection and an item, and the
-- fresh desk. Assumes nothing.
use Rattle.std.specs.Prelude.{Bool, List, ◌≡◌, ℕ, replicate}
use Rattle.words.specs.Words.{both, either}
use Rattle.rows.specs.declared.Connection.{Connection}
use Rattle.tables.specs.Columns.{at, in_use, connection_in, thread_places, channel_places, connection_places, item_places}
use Rattle.tables.specs.declared.columns.Seen.{Seen}
use Rattle.desk.specs.declared.Desk.{Desk}

-- "The desk keeps threads (reading programs), channels, connections and items."

-- a living thread, its virtual time, and the word of its connections
abbrev pub is_living : Desk → ℕ → Bool
is_living d thread = in_use d.living thread thread_places

abbrev pub time_of : Desk → ℕ → ℕ
time_of d thread = at thread_places d.times thread

abbrev pub owned_by : Desk → ℕ → ℕ
owned_by d thread = at thread_places d.owned thread

-- a channel, and the word of the places of its items
abbrev pub is_channel : Desk → ℕ → Bool
is_channel d channel = in_use d.channels channel channel_places

abbrev pub items_in : Desk → ℕ → ℕ
items_in d channel = at channel_places d.held channel

-- a connection: "both directions together" they are the attached ones
abbrev pub is_input : Desk → ℕ → Bool
is_input d connection = in_use d.inputs connection connection_places

abbrev pub is_output : Desk → ℕ → Bool
is_output d connection = in_use d.outputs connection connection_places

abbrev pub attached : Desk → ℕ
attached d = either d.inputs d.outputs

abbrev pub is_connection : Desk → ℕ → Bool
is_connection d connection = in_use (attached d) connection connection_places

-- a connection of the thread, in either direction; the word of its inputs
abbrev pub owns : Desk → ℕ → ℕ → Bool
owns d thread connection = in_use (owned_by d thread) connection connection_places

abbrev pub inputs_of : Desk → ℕ → ℕ
inputs_of d thread = both d.inputs (owned_by d thread)

-- the channel that a connection leads to, and what the connection has seen of its items
abbrev pub leads_to : Desk → ℕ → ℕ
leads_to d connection = at connection_places d.leads connection

abbrev pub connection_at : Desk → ℕ → Connection
connection_at d connection = connection_in d.leads d.held d.marks d.opened d.consumed connection

-- the columns of which that is read, lent by the code together
pub record SeenOf (d : Desk) (seen : Seen) : Type 0 where
  pub leads : seen.leads.now ≡ d.leads
  pub held : seen.held.now ≡ d.held
  pub marks : seen.marks.now ≡ d.marks
  pub opened : seen.opened.now ≡ d.opened
  pub consumed : seen.consumed.now ≡ d.consumed
  pub timestamps : seen.timestamps.now ≡ d.timestamps

-- the timestamp and the ticket of the item in a place
abbrev pub timestamp_at : Desk → ℕ → ℕ
timestamp_at d place = at item_places d.timestamps place

abbrev pub ticket_at : Desk → ℕ → ℕ
ticket_at d place = at item_places d.tickets place

-- ---- the desk with other columns and words of its threads, of its channels, of its connections, of its items

abbrev pub with_threads : Desk → (living : ℕ) (times : List ℕ) → Desk
with_threads d living times =
    record { times = times; living = living; owned = d.owned; outputs = d.outputs; leads = d.leads; inputs = d.inputs; marks = d.marks; opened = d.opened; consumed = d.consumed; channels = d.channels; present = d.present; held = d.held; timestamps = d.timestamps; tickets = d.tickets }

abbrev pub with_channels : Desk → (channels : ℕ) → Desk
with_channels d channels =
    record { times = d.times; living = d.living; owned = d.owned; outputs = d.outputs; leads = d.leads; inputs = d.inputs; marks = d.marks; opened = d.opened; consumed = d.consumed; channels = channels; present = d.present; held = d.held; timestamps = d.timestamps; tickets = d.tickets }

abbrev pub with_connections : Desk → (owned : List ℕ) (outputs : ℕ) (leads : List ℕ) (inputs : ℕ) (marks opened consumed : List ℕ) → Desk
with_connections d owned outputs leads inputs marks opened consumed =
    record { times = d.times; living = d.living; owned = owned; outputs = outputs; leads = leads; inputs = inputs; marks = marks; opened = opened; consumed = consumed; channels = d.channels; present = d.present; held = d.held; timestamps = d.timestamps; tickets = d.tickets }

-- what the connections have seen alone
abbrev pub with_seen : Desk → (marks opened consumed : List ℕ) → Desk
with_seen d marks opened consumed = with_connections d d.owned d.outputs d.leads d.inputs marks opened consumed

abbrev pub with_items : Desk → (present : ℕ) (held timestamps tickets : List ℕ) → Desk
with_items d present held timestamps tickets =
    record { times = d.times; living = d.living; owned = d.owned; outputs = d.outputs; leads = d.leads; inputs = d.inputs; marks = d.marks; opened = d.opened; consumed = d.consumed; channels = d.channels; present = present; held = held; timestamps = timestamps; tickets = tickets }

-- "A fresh desk has thread 0 with virtual time 0 and nothing else." The word 1 is that of place 0 alone.
unfoldable pub fresh : Desk
fresh = record {
  times = replicate thread_places 0;
  living = 1;
  owned = replicate thread_places 0;
  outputs = 0;
  leads = replicate connection_places 0;
  inputs = 0;
  marks = replicate connection_places 0;
  opened = replicate connection_places 0;
  consumed = replicate connection_places 0;
  channels = 0;
  present = 0;
  held = replicate channel_places 0;
  timestamps = replicate item_places 0;
  tickets = replicate item_places 0;
}
