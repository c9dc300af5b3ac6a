-- The desk's replies are those of the rules, and what holds of every run under the rules holds of the desk. Assumes nothing.
use Rattle.obeys.proofs.Basis.{◌≡◌, ◌∙◌, ap, subst, inl, inr, length, List, [], ◌∷◌, AllPassable, Call, sweep, PassableRequests, Request, ask, ask_items_present, make, Bound, Strong, Weak, never, ℕ, ◌+◌, bound_of, after, step}
use Rattle.obeys.proofs.Basis.{fresh, Desk, View, fresh_view, DeskAccountsBalance, DeskBounds, DeskBoundsNeverFall, DeskGives, DeskGivesNoOther, DeskSweepsExactly, ReachedReachable, Reached, desk_after, outcome_of, replies_of}
use Rattle.obeys.proofs.Basis.{view_of}
use Rattle.calls.specs.Calls.{put}
use Rattle.rules.specs.Rules.{everything, Item, Listed, Says}
use Rattle.rules.specs.Runs.{Run, stop, next, Gives, accepted_puts}
use Rattle.rules.specs.Claims.{HandsBack, PutBy}
use Rattle.rules.proofs.One.{gives_once}
use Rattle.rules.proofs.Bounds.{bounds_never_fall}
use Rattle.rules.proofs.Accounts.{accounts_balance, fresh_accounts_balance}
use Rattle.rules.proofs.Swept.{swept_exactly_the_unreachable, weakly_swept_only_the_unreachable}
use Rattle.rules.proofs.Ways.{bound_one}
use Rattle.rules.proofs.Deserted.{never_without_threads, refused_without_threads}
use Rattle.rules.proofs.Seen.{seen_moves_forward}
use Rattle.rules.proofs.Twice.{no_pair_twice}
use Rattle.obeys.specs.Claims.{DeskHandsBack, PutAccepted, DeskSweepsOnly, DeskNeverWithoutThreads, DeskRefusedWithoutThreads, DeskMovesForward, DeskNoPairTwice, FreshDeskAccountsBalance}
use Rattle.obeys.proofs.Lookup.{dead_view}
use Rattle.obeys.proofs.Reached.{reached-step, reached-after, start-reached, fresh-reached}
use Rattle.obeys.proofs.Order.{every_desk_in_order}
use Rattle.obeys.proofs.Bounds.{bound_is}
use Rattle.obeys.proofs.Does.{desk_does}
use Rattle.obeys.proofs.Said.{desk_says}
use Rattle.obeys.proofs.Fresh.{starts_fresh, desk_starts}

-- ---- replies

gives_from : (d : Desk) → Reached d → (requests : List Request) → PassableRequests requests → Gives (view_of d) requests (replies_of d requests) (view_of (desk_after d requests))
unfolding replies_of outcome_of desk_after
gives_from d r [] all = Gives.stop
gives_from d r (make call ∷ requests) all =
    Gives.called (outcome_of d call) (desk_does d r call all.0) (gives_from (step d call).desk (reached-step d r call all.0) requests all.1)
gives_from d r (ask question ∷ requests) all = Gives.questioned _ _ _ (desk_says d r question) (gives_from d r requests all)

fresh_gives : (requests : List Request) → PassableRequests requests → Gives fresh_view requests (replies_of fresh requests) (view_of (desk_after fresh requests))
fresh_gives requests all =
    subst (λ (v : View). Gives v requests (replies_of fresh requests) (view_of (desk_after fresh requests))) starts_fresh (gives_from fresh fresh-reached requests all)

pub desk_gives : DeskGives
desk_gives requests all = (_, fresh_gives requests all)

pub desk_gives_no_other : DeskGivesNoOther
desk_gives_no_other requests all replies v gives = gives_once fresh_view _ _ requests replies (replies_of fresh requests) gives (fresh_gives requests all)

-- ---- runs

calls_from : (d : Desk) → Reached d → (calls : List Call) → AllPassable calls → Run (view_of d) (view_of (after d calls))
unfolding outcome_of after
calls_from d r [] all = stop
calls_from d r (call ∷ calls) all = next call (outcome_of d call) all.0 (desk_does d r call all.0) (calls_from (step d call).desk (reached-step d r call all.0) calls all.1)

pub reached_reachable : ReachedReachable
reached_reachable d r = record {
  start = view_of r.start;
  starts = desk_starts r.start r.starts;
  run = subst (λ (e : Desk). Run (view_of r.start) (view_of e)) r.reaches (calls_from r.start (start-reached r.start r.starts) r.calls r.passable);
}

-- ---- each claim in a line

pub desk_bounds : DeskBounds
desk_bounds d r = bound_is d (every_desk_in_order d r)

pub desk_bounds_never_fall : DeskBoundsNeverFall
desk_bounds_never_fall d r calls all bound =
    bounds_never_fall (view_of d) (view_of (after d calls)) (reached_reachable d r) (calls_from d r calls all) bound _ _ (desk_bounds d r bound)
    (desk_bounds (after d calls) (reached-after d r calls all) bound)

-- what a sweep hands back under the rules, the code hands back
desk_hands_back : (d : Desk) → Reached d → (bound : Bound) (items : List Item) → HandsBack (view_of d) bound items → DeskHandsBack d bound items
desk_hands_back d r bound items handed = record {
  in_line = handed.in_line;
  long = λ slice fits enough. handed.long slice enough (outcome_of d (sweep bound slice)) (desk_does d r (sweep bound slice) fits);
  short = λ slice fits few. handed.short slice few (outcome_of d (sweep bound slice)) (desk_does d r (sweep bound slice) fits);
}

pub desk_sweeps_exactly : DeskSweepsExactly
desk_sweeps_exactly d r =
    let swept = swept_exactly_the_unreachable (view_of d) (reached_reachable d r) in
    record { items = swept.items; hands_back = desk_hands_back d r Strong swept.items swept.hands_back; exactly = swept.exactly; kept = swept.kept }

pub desk_sweeps_only : DeskSweepsOnly
desk_sweeps_only d r =
    let swept = weakly_swept_only_the_unreachable (view_of d) (reached_reachable d r) in
    record {
      items = swept.items;
      hands_back = desk_hands_back d r Weak swept.items swept.hands_back;
      below = swept.below (bound_of d Weak) (desk_bounds d r Weak);
      only = swept.only;
    }

pub desk_never_without_threads : DeskNeverWithoutThreads
desk_never_without_threads d r dead bound =
    bound_one (view_of d) bound (bound_of d bound) never (desk_bounds d r bound) (never_without_threads (view_of d) (reached_reachable d r) (λ t. dead_view d t (dead t)) bound)

pub desk_refused_without_threads : DeskRefusedWithoutThreads
unfolding outcome_of
desk_refused_without_threads d r dead calls all call fits quiet =
    let told = refused_without_threads (view_of d) (view_of (after d calls)) (λ t. dead_view d t (dead t)) (calls_from d r calls all) call quiet
    (outcome_of (after d calls) call) (desk_does (after d calls) (reached-after d r calls all) call fits) in
    λ i. record { code = told.0 i; value = told.1 i; time = told.2 i }

pub desk_moves_forward : DeskMovesForward
unfolding outcome_of
desk_moves_forward d r call fits = seen_moves_forward (view_of d) (reached_reachable d r) call fits (outcome_of d call) (desk_does d r call fits)

put_by : (d : Desk) → Reached d → (channel thread connection timestamp ticket : ℕ) → PutAccepted d channel thread connection timestamp ticket
    → PutBy (view_of d) channel timestamp ticket (outcome_of d (put thread connection timestamp ticket))
unfolding outcome_of
put_by d r channel thread connection timestamp ticket (fits, ok, into) = record {
  thread = thread;
  connection = connection;
  passable = fits;
  does = desk_does d r (put thread connection timestamp ticket) fits;
  accepted = ok;
  into = into;
}

pub desk_no_pair_twice : DeskNoPairTwice
unfolding outcome_of
desk_no_pair_twice d r calls all channel timestamp thread connection ticket thread' connection' ticket' first again =
    let between = reached-step d r (put thread connection timestamp ticket) first.0 in
    let later = after (step d (put thread connection timestamp ticket)).desk calls in
    no_pair_twice (view_of d) (view_of later) (reached_reachable d r) channel timestamp ticket ticket' (outcome_of d (put thread connection timestamp ticket))
    (outcome_of later (put thread' connection' timestamp ticket')) (put_by d r channel thread connection timestamp ticket first) (calls_from _ between calls all)
    (put_by later (reached-after _ between calls all) channel thread' connection' timestamp ticket' again)

requests_reached : (d : Desk) → Reached d → (requests : List Request) → PassableRequests requests → Reached (desk_after d requests)
unfolding desk_after
requests_reached d r [] all = r
requests_reached d r (make call ∷ requests) all = requests_reached (step d call).desk (reached-step d r call all.0) requests all.1
requests_reached d r (ask question ∷ requests) all = requests_reached d r requests all

-- the items that a desk answers to have are listed
own_items : {v : View} {code value time : ℕ} → Says v ask_items_present code value time → (own : List Item) × Listed v everything own × (value ≡ length own)
own_items (inl refused) = absurd refused
own_items (inr (clear, zero_is, (own, those, counted, nought))) = (own, those, counted)

pub desk_accounts_balance : DeskAccountsBalance
desk_accounts_balance d starts requests all =
    let r = start-reached d starts in
    let e = desk_after d requests in
    let (own, those, counted) = own_items (desk_says d r ask_items_present) in
    ap (λ (n : ℕ). n + accepted_puts requests (replies_of d requests)) counted
    ∙ accounts_balance (view_of d) (view_of e) own those requests (replies_of d requests) _ _ _ (gives_from d r requests all)
    (desk_says e (requests_reached d r requests all) ask_items_present)

pub fresh_desk_accounts_balance : FreshDeskAccountsBalance
fresh_desk_accounts_balance requests all =
    fresh_accounts_balance requests (replies_of fresh requests) (view_of (desk_after fresh requests)) _ _ _ (fresh_gives requests all)
    (desk_says (desk_after fresh requests) (requests_reached fresh fresh-reached requests all) ask_items_present)
