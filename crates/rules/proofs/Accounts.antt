-- The accounts balance: the items present are one list, and every call changes its length by what its answer says. Assumes nothing.
use mathlib.Core.List.{sum, zip_with}
use Rattle.calls.specs.Questions.{Request}
use Rattle.rules.proofs.Basis.{◌≡◌, sym, ap, subst, Bool, not, List, [], inl, inr, by_cases, ℕ, ◌+◌, ◌≤◌, ℕ_discrete, arith, length, Deed, Bound, Call, by, sweep, is_put, is_sweep}
use Rattle.rules.specs.Claims.{ItemsAreListed, AccountsBalance, FreshAccountsBalance}
use Rattle.rules.specs.Rules.{item_places, everything, below, View, Item, Listed, Outcome, rule, Does}
use Rattle.rules.specs.Runs.{Run, stop, next, Reply, reply_of, Gives, if_accepted, accepted_puts, tickets_back}
use Rattle.rules.proofs.Clear.{Clear, cleared}
use Rattle.rules.proofs.Made.{Made, quietly, puts, made}
use Rattle.rules.proofs.One.{refuses_coded, all_settled}
use Rattle.rules.proofs.OneList.{listed_one}
use Rattle.rules.proofs.Starts.{fresh_listed, starts_listed}
use Rattle.rules.proofs.Stock.{some_of, halves, is_among, listed_among, stock_left, stock_added}
use Rattle.rules.proofs.Ways.{untaken}

-- the stock after a call, against the stock before it
pub record Tally (call : Call) (items : List Item) (out : Outcome) : Type 0 where
  pub more : List Item
  pub those : Listed out.view everything more
  pub balance : if_accepted (reply_of out) (is_put call) 1 + length items ≡ length more + if_accepted (reply_of out) (is_sweep call) out.value
  pub fits : length items ≤ item_places → length more ≤ item_places

module _ (v : View) (items : List Item) (those : Listed v everything items) where
  same_listed : (w : View) → ((channel timestamp : ℕ) → w.item channel timestamp ≡ v.item channel timestamp) → Listed w everything items
  same_listed w same = record { in_line = those.in_line; exactly = λ item. rw (same item.channel item.timestamp) (those.exactly item) }

  deed_tally : (thread : ℕ) (deed : Deed) (out : Outcome) → Made v deed out → Clear v (by thread deed) → Tally (by thread deed) items out
  deed_tally thread deed out (quietly its value time w calm same) clear =
      record { more = items; those = same_listed w same; balance = rw calm (omega arith); fits = λ q. q }
  deed_tally thread deed out (puts connection channel timestamp ticket into) clear =
      let (more, now, one_more) = stock_added v channel timestamp ticket (untaken v connection channel timestamp (clear 7) into) items those in
      record {
        more = more;
        those = now;
        balance = omega (arith, one_more);
        fits = λ q. by_cases (ℕ_discrete (length items) item_places) (λ full. absurd (clear 8 (items, those, full))) (λ room. omega (arith, one_more));
      }

  swept_tally : (bound : Bound) (slice : List ℕ) (out : Outcome) → (rule v (sweep bound slice)).Accepts out → Tally (sweep bound slice) items out
  swept_tally bound slice out (time, handed, is, low, e) =
      let gone : Item → Bool = is_among (below time) in
      let same : handed ≡ some_of gone items = listed_one low (listed_among v (below time) items those) in
      let both = halves gone items in
      let stays = stock_left v (below time) items those in
      subst (Tally (sweep bound slice) items) (sym e) (record {
        more = some_of (λ item. not (gone item)) items;
        those = record { in_line = stays.in_line; exactly = stays.exactly };
        balance = omega (arith, both, ap length same);
        fits = λ q. omega (arith, both);
      })

  pub does_tally : (call : Call) (out : Outcome) → Does v call out → Tally call items out
  does_tally call out (inl (refused, view, lent)) =
      let code = refuses_coded (rule v call).refusals (all_settled v call) out.code out.value out.time refused in
      record { more = items; those = subst (λ (w : View). Listed w everything items) (sym view) those; balance = rw code (omega arith); fits = λ q. q }
  does_tally (by thread deed) out (inr (free, accepts)) = deed_tally thread deed out (made v thread deed out accepts) (cleared v (by thread deed) free)
  does_tally (sweep bound slice) out (inr (clear, accepts)) = swept_tally bound slice out accepts

over_calls : {v w : View} → Run v w → (items : List Item) → Listed v everything items → length items ≤ item_places → (more : List Item) × Listed w everything more × (length more ≤ item_places)
over_calls stop items those fits = (items, those, fits)
over_calls (next {v} {w} call out pass does rest) items those fits =
    let t = does_tally v items those call out does in
    over_calls rest t.more t.those (t.fits fits)

over_replies : {v w : View} {requests : List Request} {replies : List Reply} → Gives v requests replies w → (items : List Item) → Listed v everything items
    → (more : List Item) × Listed w everything more × (accepted_puts requests replies + length items ≡ length more + tickets_back requests replies)
unfolding accepted_puts tickets_back sum zip_with
over_replies Gives.stop items those = (items, those, omega arith)
over_replies (Gives.called {v} {w} {call} out does rest) items those =
    let t = does_tally v items those call out does in
    let (more, now, balance) = over_replies rest t.more t.those in
    (more, now, omega (arith, balance, t.balance))
over_replies (Gives.questioned code value time says rest) items those =
    let (more, now, balance) = over_replies rest items those in
    (more, now, omega (arith, balance))

pub accounts_balance : AccountsBalance
accounts_balance start v own those requests replies code value time gives (inl refused) = absurd refused
accounts_balance start v own those requests replies code value time gives (inr (clear, zero_is, (items, present, counted, nought))) =
    let (more, now, balance) = over_replies gives own those in
    omega (arith, balance, counted, ap length (listed_one present now))

pub fresh_accounts_balance : FreshAccountsBalance
fresh_accounts_balance requests replies v code value time gives says =
    omega (arith, accounts_balance _ v [] fresh_listed requests replies code value time gives says)

pub items_are_listed : ItemsAreListed
items_are_listed v reached =
    let (items, those, few) = starts_listed reached.starts in
    over_calls reached.run items those few
