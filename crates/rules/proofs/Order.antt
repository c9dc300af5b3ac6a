-- Every view that calls reach is in order: a start is, and each of the six ways and leaving keep it so. Assumes nothing.
use Rattle.rules.proofs.Basis.{◌≡◌, ◌∙◌, refl, sym, ap, subst, true, none, some, Option·none-ne-some, ℕ, ◌≤◌, ◌<◌, arith, Call, Ticket, Passable}
use Rattle.rules.specs.Claims.{ViewInOrder, EveryViewInOrder}
use Rattle.rules.specs.Rules.{never, channel_places, thread_places, Pairs, View, at, left, Outcome, Does}
use Rattle.rules.specs.Runs.{Run, stop, next}
use Rattle.rules.proofs.Connections.{fits_on, ConnectionFitsIn, fits_freed, fits_noticing, fits_raised}
use Rattle.rules.proofs.Laws.{at_elim, item_elim}
use Rattle.rules.proofs.Leaving.{left_in_order}
use Rattle.rules.proofs.Starts.{starts_in_order}
use Rattle.rules.proofs.Ways.{Kind, makes, sets, changes, ends, stocks, raises, MayLeave, Leads, rests, by_way, leaving, does_leads}

pub kind_in_order : (v : View) → ViewInOrder v → (w : View) → Kind v w → ViewInOrder w
kind_in_order v o w (makes number inside) =
    let more : (c : ℕ) → v.channel c ≡ true → at v.channel number true c ≡ true = λ c h. at_elim (λ b. b ≡ true) v.channel number true c (λ e. refl) (λ ne. h) in
    record {
      threads = o.threads;
      channels = λ c. at_elim (λ b. b ≡ true → c < channel_places) v.channel number true c (λ e h. omega arith) (λ ne. o.channels c);
      connections = λ k. fits_on v k v.thread (at v.channel number true) (v.connection k) (λ t own l. l) more (o.connections k);
      items = λ c t n h. (let (there, early, carried) = o.items c t n h in (more c there, early, carried));
    }
kind_in_order v o w (sets number time inside top may) = record {
  threads = λ t x. at_elim (λ s. s ≡ some x → (t < thread_places) × (x ≤ never)) v.thread number (some time) t
      (λ e h. (let q : time ≡ x = cc in (omega arith, omega arith))) (λ ne. o.threads t x);
  channels = o.channels;
  connections = λ k. fits_on v k (at v.thread number (some time)) v.channel (v.connection k)
      (λ t own l. at_elim (λ s. (x : ℕ) × (s ≡ some x)) v.thread number (some time) t (λ e. (time, refl)) (λ ne. l)) (λ c h. h) (o.connections k);
  items = o.items;
}
kind_in_order v o w (changes number new fits turned) = record {
  threads = o.threads;
  channels = o.channels;
  connections = λ k. at_elim (ConnectionFitsIn v k) v.connection number new k (λ e. subst (λ (n : ℕ). ConnectionFitsIn v n new) (sym e) fits) (λ ne. o.connections k);
  items = o.items;
}
kind_in_order v o w (ends thread) = record {
  threads = λ t x. at_elim (λ s. s ≡ some x → (t < thread_places) × (x ≤ never)) v.thread thread none t (λ e h. absurd (Option·none-ne-some x h)) (λ ne. o.threads t x);
  channels = o.channels;
  connections = λ k. fits_freed v k thread (v.connection k) (o.connections k);
  items = o.items;
}
kind_in_order v o w (stocks channel timestamp ticket exists early carried may lacks) = record {
  threads = o.threads;
  channels = o.channels;
  connections = λ k. fits_noticing v k channel timestamp ticket (v.connection k) (o.connections k);
  items = λ c t n. item_elim (λ i. i ≡ some n → (v.channel c ≡ true) × (t < never) × Ticket n) v channel timestamp ticket c t
      (λ same same_time h. (let q : ticket ≡ n = cc in (ap v.channel same ∙ exists, omega arith, subst Ticket q carried))) (o.items c t n);
}
kind_in_order v o w (raises bound top) = record {
  threads = o.threads;
  channels = o.channels;
  connections = λ k. fits_raised v k bound top (v.connection k) (o.connections k);
  items = o.items;
}

-- ---- what the six ways and leaving keep

pub record Kept (P : View → Type 0) : Type 0 where
  pub by_ways : (v : View) → ViewInOrder v → P v → (w : View) → Kind v w → P w
  pub by_leaving : (v : View) → ViewInOrder v → P v → (gone : Pairs) → MayLeave v gone → P (left v gone)

pub leads_keep : {P : View → Type 0} → Kept P → {v w : View} → Leads v w → ViewInOrder v → P v → P w
leads_keep kept rests o here = here
leads_keep kept (by_way {v} {w} kind) o here = kept.by_ways v o here w kind
leads_keep kept (leaving {v} {w} gone may rest) o here = leads_keep kept rest (left_in_order v o gone) (kept.by_leaving v o here gone may)

order_kept : Kept ViewInOrder
order_kept = record { by_ways = λ v o here. kind_in_order v o; by_leaving = λ v o here gone may. left_in_order v o gone }

pub does_in_order : (v : View) → ViewInOrder v → (call : Call) → Passable call → (out : Outcome) → Does v call out → ViewInOrder out.view
does_in_order v o call fits out does = leads_keep order_kept (does_leads v o call fits out does) o o

-- so it holds after any calls
pub by_calls : {P : View → Type 0} → Kept P → {v w : View} → Run v w → ViewInOrder v → P v → P w
by_calls kept stop o here = here
by_calls kept (next {v} {w} call out fits does rest) o here =
    by_calls kept rest (does_in_order v o call fits out does) (leads_keep kept (does_leads v o call fits out does) o here)

pub calls_in_order : {v w : View} → Run v w → ViewInOrder v → ViewInOrder w
calls_in_order calls o = by_calls order_kept calls o o

pub every_view_in_order : EveryViewInOrder
every_view_in_order v reached = calls_in_order reached.run (starts_in_order reached.starts)
