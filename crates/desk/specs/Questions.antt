-- Document 01: "Questions without effect, refused by the same codes but never counted as accepted calls". Assumes nothing.
use Rattle.std.specs.Prelude.{List, [], ◌∷◌, ℕ}
use Rattle.calls.specs.Questions.{Question, ask_visible_time, ask_weak_bound, ask_strong_bound, ask_state_of, ask_items_present}
use Rattle.calls.specs.States.{state_number}
use Rattle.rows.specs.declared.Answer.{Answer}
use Rattle.rows.specs.declared.Told.{Told}
use Rattle.rows.specs.Answers.{tells, refusal, Check, needs, decided}
use Rattle.tables.specs.Seen.{state}
use Rattle.desk.specs.declared.Desk.{Desk}
use Rattle.desk.specs.Desk.{connection_at, is_connection}
use Rattle.desk.specs.Times.{visible_time, weak_bound, strong_bound}
use Rattle.desk.specs.Calls.{thread_lives, connection_reads, timestamp_given, items_present}

-- "3 where there is no such connection, 4, 5; no thread is named"
abbrev pub connection_exists : Desk → ℕ → Check
connection_exists d connection = needs (is_connection d connection) (refusal 3)

-- "refused by the same codes"
unfoldable pub question_checks : Desk → Question → List Check
question_checks d (ask_visible_time thread) = thread_lives d thread ∷ []
question_checks d ask_weak_bound = []
question_checks d ask_strong_bound = []
question_checks d (ask_state_of connection timestamp) =
    connection_exists d connection ∷ connection_reads d connection ∷ timestamp_given timestamp ∷ []
question_checks d ask_items_present = []

-- "A visible time or a bound stands in the time, with value 0. A state stands in the value, .., and the number of items stands in the value, both with
-- time 0."
unfoldable pub question_told : Desk → Question → Told
question_told d (ask_visible_time thread) = tells 0 (visible_time d thread)
question_told d ask_weak_bound = tells 0 (weak_bound d)
question_told d ask_strong_bound = tells 0 (strong_bound d)
question_told d (ask_state_of connection timestamp) =
    tells (state_number (state d.timestamps (connection_at d connection) timestamp)) 0
question_told d ask_items_present = tells (items_present d) 0

-- what a question is answered: every contract of a question is an equality with this
unfoldable pub reply : Desk → Question → Answer
reply d question = decided (question_checks d question) (question_told d question)
