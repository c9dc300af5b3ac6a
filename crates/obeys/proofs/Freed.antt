-- The view after a detach and an end: the numbers of the freed connections stand for nothing, and what is said of the others is the same. Assumes
-- nothing.
use Rattle.obeys.proofs.Basis.{◌<◌, ◌∙◌, ◌≡◌, Bool, Connection, Desk, DeskInOrder, Option·none-ne-some, Option·some-injective, View, ap, arith, attached}
use Rattle.obeys.proofs.Basis.{bool_cases, cond, connection_at, connection_places, ended, eq-eqb, eqb, except, except-stays, except_was, false, freed}
use Rattle.obeys.proofs.Basis.{freed_from, fun_ext, has, has_none, in_use-except, in_use-has, input, is_connection, is_input, is_output, leads_to}
use Rattle.obeys.proofs.Basis.{lowest-with-has, ne_eqb, none, not_beside, not_then, output, owned_by, owner, owner_of, refl, some, sym, thread_places, true}
use Rattle.obeys.proofs.Basis.{unused, view_of, with, with-same, with_was, with_thread, without_elsewhere, without-same, ℕ, ℕ_discrete}
use Rattle.words.proofs.YesOrNo.{cond_same}
use Rattle.tables.proofs.At.{at-set-has}
use Rattle.leaving.proofs.Changed.{kept_at}
use Rattle.leaving.proofs.Connections.{connection_kept}
use Rattle.rules.specs.Rules as Rules
use Rattle.obeys.proofs.Effects.{view_thread}
use Rattle.obeys.proofs.Frame.{view_ext}
use Rattle.obeys.proofs.Lookup.{attached_view, unused_view}
use Rattle.obeys.proofs.Order.Connections.{owned_in_word}
use Rattle.obeys.proofs.Shown.{Alike, alike_view, shown}

-- what an end makes of a connection, by its owner
freed_of : (thread its : ℕ) (connection : Connection) → owner connection ≡ some its → freed_from thread connection ≡ cond (eqb its thread) unused connection
freed_of thread its unused owned = absurd (Option·none-ne-some its owned)
freed_of thread its (output whose channel) owned =
    ap (λ (t : ℕ). cond (eqb t thread) unused (output whose channel)) (Option·some-injective whose its owned)
freed_of thread its (input whose channel mark seen) owned =
    ap (λ (t : ℕ). cond (eqb t thread) unused (input whose channel mark seen)) (Option·some-injective whose its owned)

module _ (d : Desk) (o : DeskInOrder d) where
  -- ---- some connections of a thread are freed

  module _ (thread gone : ℕ) (lives : thread < thread_places) where
    abbrev fewer : Desk
    fewer = freed d thread gone

    kept : (k : ℕ) → has gone k ≡ false → Alike d fewer k
    unfolding freed
    kept k stays = record {
      reads = in_use-except d.inputs gone k connection_places (omega arith) ∙ rw stays;
      writes = in_use-except d.outputs gone k connection_places (omega arith) ∙ rw stays;
      owner = at-set-has thread_places d.owned thread (except (owned_by d thread) gone) lives o.threads.owned.sized k
          (except_was (owned_by d thread) gone k) (λ its. except-stays (owned_by d thread) gone k (owned_in_word o.connections thread k its) its stays);
      channel = kept_at connection_places gone d.leads o.connections.leads.sized k stays;
      timestamps = refl;
      row = connection_kept gone k stays d.leads d.held d.marks d.opened d.consumed
          o.connections.leads.sized o.connections.marks.sized o.connections.opened.sized o.connections.consumed.sized;
    }

    none_there : (k : ℕ) → has gone k ≡ true → (view_of fewer).connection k ≡ unused
    unfolding view_of freed
    none_there k leaves =
        let reads : is_input fewer k ≡ false = in_use-except d.inputs gone k connection_places (omega arith) ∙ rw leaves in
        let writes : is_output fewer k ≡ false = in_use-except d.outputs gone k connection_places (omega arith) ∙ rw leaves in
        λ i. shown (reads i) (writes i) (owner_of fewer k) (leads_to fewer k) d.timestamps (connection_at fewer k)

    freed_view : (k : ℕ) → (view_of fewer).connection k ≡ cond (has gone k) unused ((view_of d).connection k)
    freed_view k = bool_cases (has gone k) (λ leaves. none_there k leaves ∙ rw leaves) (λ stays. alike_view (kept k stays) ∙ rw stays)

    view_freed : view_of fewer ≡ Rules.with_connections (view_of d) (λ k. cond (has gone k) unused ((view_of d).connection k))
    unfolding view_of freed
    view_freed = view_ext (λ t. refl) (λ c. refl) freed_view (λ c t. refl)

  -- one of them
  pub view_detached : (thread connection : ℕ) → thread < thread_places → connection < connection_places
      → view_of (freed d thread (with 0 connection)) ≡ Rules.with_connection (view_of d) connection unused
  view_detached thread connection lives inside =
      view_freed thread (with 0 connection) lives
      ∙ ap (Rules.with_connections (view_of d)) (fun_ext (λ k. ap (λ (its : Bool). cond its unused ((view_of d).connection k)) (only k)))
    where
      only : (k : ℕ) → has (with 0 connection) k ≡ eqb k connection
      only k =
          elim (ℕ_discrete k connection) [
            | yes same ↦ rw (same, eq-eqb connection connection refl) (with-same 0 (omega arith))
            | no apart ↦ rw (ne_eqb k connection apart) (not_then (with_was 0 connection k apart) (has_none k))
          ]

  -- all of them, and the thread itself
  module _ (thread : ℕ) where
    -- a connection is the thread's where the thread is its owner
    its_own : (k : ℕ) → has (attached d) k ≡ true → has (owned_by d thread) k ≡ eqb (owner_of d k) thread
    unfolding owner_of
    its_own k there =
        let its = lowest-with-has o.connections.owned k there in
        elim (ℕ_discrete (owner_of d k) thread) [
          | yes same ↦ rw (eq-eqb _ thread same) (ap (λ (t : ℕ). has (owned_by d t) k) (sym same) ∙ its)
          | no other ↦ rw (ne_eqb _ thread other) (not_beside o.connections.owned (owner_of d k) thread k its (λ same. other (sym same)))
        ]

    freed_from_lem : (k : ℕ) → cond (has (owned_by d thread) k) unused ((view_of d).connection k) ≡ freed_from thread ((view_of d).connection k)
    freed_from_lem k =
        bool_cases (is_connection d k)
        (λ used. ap (λ (its : Bool). cond its unused ((view_of d).connection k)) (its_own k (in_use-has (attached d) k connection_places used))
        ∙ sym (freed_of thread (owner_of d k) ((view_of d).connection k) (attached_view d k used)))
        (λ free. rw (unused_view d k free) (cond_same (has (owned_by d thread) k) unused))

  pub view_ended : (thread : ℕ) → thread < thread_places → view_of (ended d thread) ≡ Rules.ended (view_of d) thread
  unfolding ended freed
  view_ended thread lives =
      view_thread (freed d thread (owned_by d thread)) thread 0 none (without_elsewhere d.living thread) lives o.threads.times.sized
      (rw (without-same d.living thread))
      ∙ ap (λ (v : View). with_thread v thread none)
      (view_freed thread (owned_by d thread) lives ∙ ap (Rules.with_connections (view_of d)) (fun_ext (freed_from_lem thread)))
