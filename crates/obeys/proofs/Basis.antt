-- The names that the proofs share: of the library, of the crates below and of what is stated here. Assumes nothing.
pub use mathlib.Core.Bool.{Bool, ◌&&◌, and-false, cond, false, false≢true, true}
pub use mathlib.Core.List.{List, [], ◌++◌, ◌∷◌}
pub use mathlib.Core.Logic.{◌↔◌, ◌≢◌, ◌⊎◌, inl, inr, ⊎_elim}
pub use mathlib.Core.Option.{Option, none-ne-some as Option·none-ne-some, some-injective as Option·some-injective, none, some}
pub use mathlib.Core.Path.{◌∙◌, ◌≡◌, ap, ap₂, fun_ext, refl, subst, sym}
pub use Prim.Native.Nat.{◌+◌, ◌<◌, ◌≤◌, max, suc, zero, ℕ}
pub use native.Mathlib.Decide.{dec_lt, ℕ_discrete}
pub use native.Mathlib.Nat.{le_refl, not-suc-le-zero}
pub use native.Mathlib.Omega.{arith}
pub use lib.Dec.{eqb, leb, ltb}
pub use lib.ListN.{length, set}
pub use borrow.Author.Tests.{eq-eqb, eqb-true, le-leb, le-ltb, leb-false, leb-true, lt-leb, lt-ltb, ltb-false, ltb-true, ne_eqb}
unfoldable pub use Rattle.words.specs.Words.{count, has}
pub use Rattle.words.specs.Words.{either, except, lowest_free, with, without, word_places}
pub use Rattle.words.proofs.Changes.{Elsewhere, with_was, with_there, without_apart, without_was, same_elsewhere, with_elsewhere, without_elsewhere, except_was, except-kept, except-stays}
pub use Rattle.words.proofs.Changes.{both_left, both_right, in_both, either_left, either_right}
pub use Rattle.words.proofs.Digits.{has_none, has_from}
pub use Rattle.words.proofs.Laws.{with-same, without-same, without_other, lowest_none, free_lacks, free_below, count_le, count-without, fewer_free}
pub use Rattle.words.proofs.Walk.{each_keeps, and_this}
pub use Rattle.words.proofs.YesOrNo.{true_not_false, and_left, and_right, bool_cases, not_then}
pub use Rattle.calls.specs.Calls.{AllPassable, Call, Passable, by, slice_of, sweep}
pub use Rattle.calls.specs.Questions.{PassableRequests, Question, Request, ask, ask_items_present, make, ask_state_of, ask_strong_bound, ask_visible_time, ask_weak_bound}
pub use Rattle.calls.specs.States.{is_open, is_pending, is_unseen, state_number}
pub use Rattle.calls.specs.declared.Bound.{Bound}
pub use Rattle.calls.specs.declared.Bound.TheVariants.{Strong, Weak}
pub use Rattle.calls.specs.declared.Deed.TheVariants.{AttachInput, AttachOutput, Channel, Consume, ConsumeUntil, Detach, End, Get, NewThread, Put, Set}
pub use Rattle.calls.specs.declared.State.{State}
pub use Rattle.calls.specs.declared.State.TheVariants.{Absent, Consumed, Open, Unseen}
pub use Rattle.calls.specs.declared.Which.{Which}
pub use Rattle.calls.specs.declared.Which.TheVariants.{Earliest, Latest, Named}
pub use Rattle.calls.proofs.Known.{is_open_lem, is_unseen_lem, is_pending_lem}
pub use Rattle.calls.proofs.Passable.{passable_more}
unfoldable pub use Rattle.rows.specs.Answers.{decided, passes}
pub use Rattle.rows.specs.declared.Told.{Told}
pub use Rattle.rows.specs.Answers.{Check, accepted, answer, needs, refusal}
pub use Rattle.std.proofs.Common.{Option as OptionOf, Some, None}
pub use Rattle.rows.specs.Choices.{found_at, is_found, place_found}
pub use Rattle.rows.specs.Numbers.{never}
unfoldable pub use Rattle.rows.specs.States.{state_of}
pub use Rattle.rows.specs.States.{by_name}
pub use Rattle.rows.specs.declared.Connection.{Connection as Row}
pub use Rattle.rows.specs.declared.Found.{Found}
unfoldable pub use Rattle.rows.proofs.Changed.{cleared as cleared_row, consumed_by_name as consumed_row, got as got_row, raised as raised_row}
pub use Rattle.rows.proofs.Changed.{same_facts, got_here, got_beside, consumed_here, consumed_beside, raised_as}
pub use Rattle.rows.proofs.Checks.{Pass, passed, pass_decided}
pub use Rattle.rows.proofs.Seen.{unconsumed, open_fact, unseen_facts}
-- what stands in a place of a column; `at` is a view's, changed at one number
pub use Rattle.tables.specs.Columns.{at as number_at, connection_in, connection_places, channel_places, item_places, set_at, thread_places}
unfoldable pub use Rattle.tables.specs.Columns.{in_use}
pub use Rattle.tables.specs.Order.{ConnectionInOrder, Inside, Shared, Tidy}
pub use Rattle.tables.specs.Search.{is_wanted}
unfoldable pub use Rattle.tables.specs.Seen.{is_item, is_open_at, is_pending_at, is_unseen_at, place_of, state}
pub use Rattle.tables.specs.Seen.{state_at}
unfoldable pub use Rattle.tables.specs.Times.{least_awaited, least_keep, least_open, least_time, open_time, pending_time, smallest}
pub use Rattle.tables.proofs.At.{at_set_other, at_set_same, at-set_at_other, at-set_at-same, at-zeros}
pub use Rattle.tables.proofs.Chosen.{Sought, sought-found, sought_some}
pub use Rattle.tables.proofs.Connections.{connection_is, new_in_order, got_in_order, consumed_in_order, raised_in_order, standing, cleared_in_order}
pub use Rattle.tables.proofs.Items.{Distinct, Holds, found-holds, holds-place, holds-state, place_apart, seen_at, at_seen}
pub use Rattle.tables.proofs.Shared.{lowest-with, lowest-with-has, not_beside, shared_none}
pub use Rattle.tables.proofs.Stored.{beside_place, new_place, old_place}
pub use Rattle.tables.proofs.Tidy.{tidy_set, tidy_zeros}
pub use Rattle.tables.proofs.Used.{used_below, in_use_lem, in_use-has, used_inside, none_used, in_use_elsewhere, in_use-except, in_use-left, in_use_right, in_use_one}
unfoldable pub use Rattle.leaving.specs.Leaving.{handed_back, tickets_in_line}
pub use Rattle.leaving.specs.Leaving.{cleared, lessened, raised}
pub use Rattle.leaving.proofs.Kept.{lessened-at, shared_lessened, tidy_cleared, tidy_lessened, tidy_raised}
unfoldable pub use Rattle.desk.specs.Calls.{adopted, after, attached_to, becomes_open, checks, consumed_by_name, effect, ended, freed, left, outcome, raised_mark, raised_to, slice_after, step, stored, swept, told}
pub use Rattle.desk.specs.Calls.{bound_of, channel_exists, connection_owned, connection_reads, connection_writes, found_told, free_channel, free_connection, free_item, free_thread, item_fits, item_found, item_open, leaving}
pub use Rattle.desk.specs.Calls.{place_free, slice_long, sought_by, thread_lives, time_visible, timestamp_absent, which_given}
unfoldable pub use Rattle.desk.specs.Desk.{fresh}
pub use Rattle.desk.specs.Desk.{attached, connection_at, inputs_of, is_channel, is_connection, is_input, is_living, is_output, items_in, leads_to, owned_by, owns, ticket_at, time_of, timestamp_at}
pub use Rattle.desk.specs.Desk.{with_channels, with_items, with_seen, with_threads}
unfoldable pub use Rattle.desk.specs.Times.{strong_bound, visible_time, weak_bound}
pub use Rattle.desk.specs.declared.Desk.{Desk}
pub use Rattle.desk.proofs.Outcome.{Passed, passing}
pub use Rattle.desk.proofs.Owned.{owned_below}
pub use Rattle.rules.specs.Rules.{Before, BoundOf, Connection, Does, FreeChannel, FreeConnection, FreeThread, InLine, IsPresent, IsTime, KeepTime, Listed, Lowest, NoneOf, Not, Outcome, Refusal, Refuses, Says, Smallest, StrongBound}
pub use Rattle.rules.specs.Rules.{TakesUnseen, View, VisibleTime, WeakBound, ◌∈◌, asked_of, at, consumed_below, desk_full, done, first_seen, freed_from, fresh_view, input, input_from, named_never, no_channel, no_input, no_output}
pub use Rattle.rules.specs.Rules.{no_thread, not_its_own, not_open, nothing_unseen, noticed, noticing, output, output_to, owner, refuse, rule, seen_as, slice_short, state_on, sweep_row, table_full, taken, tickets}
pub use Rattle.rules.specs.Rules.{too_early, unseen_if, unused, with_channel, with_item, with_thread}
pub use Rattle.obeys.specs.Claims.{DeskAccountsBalance, DeskBounds, DeskBoundsNeverFall, DeskDoes, DeskGives, DeskGivesNoOther, DeskSays, DeskSweepsExactly, ReachedReachable, StartsFresh}
pub use Rattle.obeys.specs.Order.{ConnectionsInOrder, DeskInOrder, EveryDeskInOrder, ItemsInOrder, ThreadsInOrder}
pub use Rattle.obeys.specs.Reached.{Reached}
unfoldable pub use Rattle.obeys.specs.View.{desk_after, outcome_of, owner_of, replies_of, view_of}
pub use Rattle.obeys.specs.View.{item_of}
