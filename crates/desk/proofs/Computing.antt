-- Every definition that a run computes with, under one name. Assumes nothing.
use Rattle.words.specs.Places.{fold_to, each, count_of, lowest_of, word_of}
use Rattle.words.specs.Words.{has, with, without, both, either, except, lowest, lowest_free, count}
use Rattle.rows.specs.States.{state_of}
use Rattle.rows.specs.Answers.{passes, decided}
use Rattle.tables.specs.Columns.{reads, set_at, in_use}
use Rattle.tables.specs.Seen.{is_item, place_of, state, is_unseen_at, is_open_at, is_pending_at}
use Rattle.tables.specs.Times.{smallest, least_time, open_time, least_open, least_keep, pending_time, least_awaited}
use Rattle.tables.specs.Search.{chosen, sought}
use Rattle.leaving.specs.Leaving.{changed_over, is_below, items_below, first_channel, first_place, tickets_in_line, handed_back}
use Rattle.desk.specs.Desk.{fresh}
use Rattle.desk.specs.Times.{visible_time, weak_bound, strong_bound}
use Rattle.desk.specs.Calls.{checks, adopted, attached_to, freed, ended, stored, becomes_open, consumed_by_name, raised_mark, left, raised_to, swept, effect, told, outcome, step, slice_after}
use Rattle.desk.specs.Questions.{question_checks, question_told, reply}
use Rattle.desk.specs.Calls.{after}

-- named on an `unfolding` line, it opens them all
unfoldable pub computing : Unit {0}
unfolding fold_to each count_of lowest_of word_of has with without both either except lowest lowest_free count state_of passes decided reads set_at in_use is_item place_of state is_unseen_at is_open_at is_pending_at smallest least_time open_time least_open least_keep pending_time least_awaited chosen sought changed_over is_below items_below first_channel first_place tickets_in_line handed_back fresh visible_time weak_bound strong_bound checks adopted attached_to freed ended stored becomes_open consumed_by_name raised_mark left raised_to swept effect told outcome step slice_after question_checks question_told reply after
computing = tt
