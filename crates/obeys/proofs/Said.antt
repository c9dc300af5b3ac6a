-- The desk answers each question as its view says: its checks agree with the refusals, and its answer is read off the view. Assumes nothing.
use Rattle.obeys.proofs.Basis.{ap, refl, sym, inl, inr, Question, ask_items_present, ask_state_of, ask_strong_bound, ask_visible_time, ask_weak_bound, state_number, Pass, pass_decided, Desk, Says, asked_of, DeskSays}
use Rattle.obeys.proofs.Basis.{DeskInOrder, view_of, never, passed}
use Rattle.desk.specs.Questions.{question_checks, question_told, reply}
use Rattle.obeys.proofs.Order.{every_desk_in_order}
use Rattle.obeys.proofs.Lookup.{unused_view, state_view, used_not_free}
use Rattle.obeys.proofs.Bounds.{visible, weak, strong}
use Rattle.obeys.proofs.Listed.{present, present_listed}
use Rattle.obeys.proofs.Agreed.{agree_thread, agree_below, agree_input}
use Rattle.obeys.proofs.Frame.{Agree, plain, check, either_way}

module _ (d : Desk) (o : DeskInOrder d) where
  question_agree : (q : Question) → Agree (question_checks d q) (asked_of (view_of d) q).refusals
  unfolding question_checks
  question_agree (ask_visible_time thread) = check (agree_thread d o thread) (λ _. tt)
  question_agree ask_weak_bound = tt
  question_agree ask_strong_bound = tt
  question_agree (ask_state_of connection timestamp) =
      check (plain _ 3 _ (unused_view d connection) (used_not_free d connection)) (λ used.
      check (agree_input d o connection) (λ reads. check (agree_below d o 5 timestamp never) (λ _. tt)))
  question_agree ask_items_present = tt

  question_answers : (q : Question) → Pass (question_checks d q) → (asked_of (view_of d) q).Tells (question_told d q).value (question_told d q).time
  unfolding question_checks question_told
  question_answers (ask_visible_time thread) p = (refl, visible d o thread p.0)
  question_answers ask_weak_bound p = (refl, weak d o)
  question_answers ask_strong_bound p = (refl, strong d o)
  question_answers (ask_state_of connection timestamp) p =
      (ap state_number (sym (state_view d connection timestamp p.1.0)), refl)
  question_answers ask_items_present p = ((present d o).items, present_listed d o, sym (present d o).counts, refl)

  says : (q : Question) → Says (view_of d) q (reply d q).code (reply d q).value (reply d q).time
  unfolding reply
  says q =
      either_way (question_told d q) (question_checks d q) (asked_of (view_of d) q).refusals (question_agree q)
      (λ e none. let pass = passed (question_checks d q) e in rw (pass_decided (question_checks d q) (question_told d q) pass) (inr (none, refl, question_answers q pass)))
      (λ e refused. inl refused)

pub desk_says : DeskSays
desk_says d r q = says d (every_desk_in_order d r) q
