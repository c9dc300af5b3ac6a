-- Check by check the code's are 01's; 3 says that the connection is one of the table's, and the words that are stored there are those of an item consumed by name. Assumes nothing.
use mathlib.Core.Path.{◌≡◌, refl, ap, ◌∙◌}
use mathlib.Core.Bool.{Bool}
use Prim.Native.Nat.{ℕ}
use Rattle.std.proofs.Common.{Option, Err, []}
use Rattle.calls.specs.declared.State.{State}
use Rattle.calls.specs.States.{is_open}
use Rattle.rows.specs.declared.Connection.{Connection}
use Rattle.rows.specs.declared.Refusal.TheVariants.{NotOpen}
use Rattle.rows.specs.States.{state_of}
use Rattle.rows.proofs.Checks.{checked}
use Rattle.tables.specs.Seen.{place_if_any, place_of, state}
use Rattle.desk.specs.declared.Desk.{Desk}
use Rattle.desk.specs.Desk.{connection_at}
use Rattle.desk.specs.Calls.{checks, effect, step, told, item_open}
use Rattle.desk.proofs.Outcome.{done, on, out}
use Rattle.desk.proofs.Owned.{owned_below}
use Rattle.desk.proofs.Stores.{consumes_is, none_open, row_is, some_place}
use Rattle.desk.proofs.Desk.try_consume.Goals as goal

pub returns-in_err-thread_lives : goal.returns-in_err-thread_lives
unfolding step checks
returns-in_err-thread_lives c =
    out _ _ _ _ _ _ _ c.from_residual.ensures.1 c.in_err-thread_lives.ensures

pub returns-in_err-connection_owned : goal.returns-in_err-connection_owned
unfolding step checks
returns-in_err-connection_owned c =
    on _ _ _ _ _ c.in_ok-thread_lives.ensures
    (out _ _ _ _ _ _ _ c.from_residual-in_err-connection_owned.ensures.1 c.in_err-connection_owned.ensures)

pub returns-in_err-connection_reads : goal.returns-in_err-connection_reads
unfolding step checks
returns-in_err-connection_reads c =
    on _ _ _ _ _ c.in_ok-thread_lives.ensures (on _ _ _ _ _ c.in_ok-connection_owned.ensures
    (out _ _ _ _ _ _ _ c.from_residual-in_err-connection_reads.ensures.1 c.in_err-connection_reads.ensures))

pub returns-in_err-timestamp_given : goal.returns-in_err-timestamp_given
unfolding step checks
returns-in_err-timestamp_given c =
    on _ _ _ _ _ c.in_ok-thread_lives.ensures (on _ _ _ _ _ c.in_ok-connection_owned.ensures (on _ _ _ _ _ c.in_ok-connection_reads.ensures
    (out _ _ _ _ _ _ _ c.from_residual-in_err-timestamp_given.ensures.1 c.in_err-timestamp_given.ensures)))

pub bounds-self-connection : goal.bounds-self-connection
bounds-self-connection c = owned_below c.args.self.now _ _ c.in_ok-connection_owned.ensures

pub bounds-self-connection-2 : goal.bounds-self-connection-2
bounds-self-connection-2 c = owned_below c.args.self.now _ _ c.in_ok-connection_owned.ensures

-- the place of the item, from the row that was read
place_is : (d : Desk) (connection timestamp : ℕ) {row : Connection} {found : Option ℕ} → row ≡ connection_at d connection
    → found ≡ place_if_any (place_of d.timestamps row.items timestamp)
    → found ≡ place_if_any (place_of d.timestamps (connection_at d connection).items timestamp)
place_is d connection timestamp reads is = is ∙ ap (λ (row : Connection). place_if_any (place_of d.timestamps row.items timestamp)) reads

-- what was tested of it
open_is : (d : Desk) (connection timestamp : ℕ) {row : Connection} {place : ℕ} {found : State} {test : Bool} → row ≡ connection_at d connection
    → place ≡ place_of d.timestamps (connection_at d connection).items timestamp
    → found ≡ state_of row timestamp place
    → test ≡ is_open found
    → test ≡ is_open (state d.timestamps (connection_at d connection) timestamp)
unfolding state
open_is d connection timestamp reads is found tests = rw (tests, found, is, reads)

pub returns-in_default : goal.returns-in_default
unfolding step checks state
returns-in_default c =
    let d = c.args.self.now in
    let reads = row_is d c.args.connection c.seen.ensures c.connection-row.ensures in
    let none = none_open (connection_at d c.args.connection) c.args.timestamp _ (place_is d c.args.connection c.args.timestamp reads c.in_default.ensures) in
    on _ _ _ _ _ c.in_ok-thread_lives.ensures (on _ _ _ _ _ c.in_ok-connection_owned.ensures (on _ _ _ _ _ c.in_ok-connection_reads.ensures
    (on _ _ _ _ _ c.in_ok-timestamp_given.ensures
    (out d (item_open d c.args.connection c.args.timestamp) [] _ _ (Err NotOpen) NotOpen refl (none, refl)))))

pub returns-in_err-needs : goal.returns-in_err-needs
unfolding step checks
returns-in_err-needs c =
    let d = c.args.self.now in
    let reads = row_is d c.args.connection c.seen.ensures c.connection-row.ensures in
    let place = some_place _ (place_is d c.args.connection c.args.timestamp reads c.in-Some.ensures) in
    let tests = open_is d c.args.connection c.args.timestamp reads place c.state_of.ensures c.is_open.ensures in
    on _ _ _ _ _ c.in_ok-thread_lives.ensures (on _ _ _ _ _ c.in_ok-connection_owned.ensures (on _ _ _ _ _ c.in_ok-connection_reads.ensures
    (on _ _ _ _ _ c.in_ok-timestamp_given.ensures
    (out _ _ _ _ _ _ _ c.from_residual-in_err-needs.ensures.1 (checked (item_open d c.args.connection c.args.timestamp) NotOpen c.in_err-needs.ensures tests refl)))))

pub returns : goal.returns
unfolding step checks told effect
returns c =
    let d = c.args.self.now in
    let reads = row_is d c.args.connection c.seen.ensures c.connection-row.ensures in
    let place = some_place _ (place_is d c.args.connection c.args.timestamp reads c.in-Some.ensures) in
    let tests = open_is d c.args.connection c.args.timestamp reads place c.state_of.ensures c.is_open.ensures in
    on _ _ _ _ _ c.in_ok-thread_lives.ensures (on _ _ _ _ _ c.in_ok-connection_owned.ensures (on _ _ _ _ _ c.in_ok-connection_reads.ensures (on _ _ _ _ _ c.in_ok-timestamp_given.ensures
    (on _ _ _ _ _ (checked (item_open d c.args.connection c.args.timestamp) NotOpen c.in_ok-needs.ensures tests refl)
    (done _ _ _ refl (consumes_is d c.args.connection reads place c.without.ensures c.with.ensures))))))
