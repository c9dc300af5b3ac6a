-- Document 01, "Numbers": the sizes of the tables, and never. Assumes nothing.
pub use Rattle.calls.specs.Numbers.{thread_places, channel_places, connection_places, item_places, never}
