-- Check by check the code's are 01's, and what is told is what the search found. 3 says that the connection is one of the table's. Assumes nothing.
use mathlib.Core.Path.{◌≡◌, refl, sym, ap, ◌∙◌}
use Prim.Native.Nat.{ℕ}
use Rattle.std.proofs.Common.{Option, Some, Err, []}
use Rattle.calls.specs.declared.Which.{Which}
use Rattle.rows.specs.declared.Refusal.TheVariants.{NothingUnseen}
use Rattle.rows.specs.declared.Told.{Told}
use Rattle.rows.specs.Answers.{tells}
use Rattle.rows.specs.declared.Connection.{Connection}
use Rattle.rows.specs.declared.Found.{Found}
use Rattle.rows.specs.Choices.{is_found, place_found}
use Rattle.tables.specs.Search.{sought}
use Rattle.desk.specs.declared.Desk.{Desk}
use Rattle.desk.specs.Desk.{connection_at, ticket_at}
use Rattle.desk.specs.Calls.{checks, effect, step, told, found_told, item_found, sought_by}
use Rattle.desk.proofs.Outcome.{done, on, out}
use Rattle.desk.proofs.Owned.{owned_below}
use Rattle.desk.proofs.Stores.{opens_is, row_is}
use Rattle.desk.proofs.Desk.try_get.Goals as goal

pub returns-in_err-thread_lives : goal.returns-in_err-thread_lives
unfolding step checks
returns-in_err-thread_lives c =
    out _ _ _ _ _ _ _ c.from_residual.ensures.1 c.in_err-thread_lives.ensures

pub returns-in_err-connection_owned : goal.returns-in_err-connection_owned
unfolding step checks
returns-in_err-connection_owned c =
    on _ _ _ _ _ c.in_ok-thread_lives.ensures
    (out _ _ _ _ _ _ _ c.from_residual-in_err-connection_owned.ensures.1 c.in_err-connection_owned.ensures)

pub returns-in_err-connection_reads : goal.returns-in_err-connection_reads
unfolding step checks
returns-in_err-connection_reads c =
    on _ _ _ _ _ c.in_ok-thread_lives.ensures (on _ _ _ _ _ c.in_ok-connection_owned.ensures
    (out _ _ _ _ _ _ _ c.from_residual-in_err-connection_reads.ensures.1 c.in_err-connection_reads.ensures))

pub returns-in_err-which_given : goal.returns-in_err-which_given
unfolding step checks
returns-in_err-which_given c =
    on _ _ _ _ _ c.in_ok-thread_lives.ensures (on _ _ _ _ _ c.in_ok-connection_owned.ensures (on _ _ _ _ _ c.in_ok-connection_reads.ensures
    (out _ _ _ _ _ _ _ c.from_residual-in_err-which_given.ensures.1 c.in_err-which_given.ensures)))

pub bounds-self-connection : goal.bounds-self-connection
bounds-self-connection c = owned_below c.args.self.now _ _ c.in_ok-connection_owned.ensures

-- what the search through the connection found
found_of : (d : Desk) (connection : ℕ) (which : Which) {row : Connection} {found : Option Found} → row ≡ connection_at d connection
    → found ≡ sought d.timestamps row which
    → found ≡ sought_by d connection which
found_of d connection which reads is = is ∙ ap (λ (row : Connection). sought d.timestamps row which) reads

-- what is told of it
told_of : (d : Desk) (found : Found) {sought_found : Option Found} {ticket : ℕ} → Some found ≡ sought_found → ticket ≡ ticket_at d found.place
    → ◌≡◌ {A = Told} (tells ticket found.timestamp) (found_told d sought_found)
told_of d found is read = rw read (ap (found_told d) is)

pub returns-in_default : goal.returns-in_default
unfolding step checks
returns-in_default c =
    let d = c.args.self.now in
    let none = found_of d c.args.connection c.args.which (row_is d c.args.connection c.seen.ensures c.connection-row.ensures) c.in_default.ensures in
    on _ _ _ _ _ c.in_ok-thread_lives.ensures (on _ _ _ _ _ c.in_ok-connection_owned.ensures (on _ _ _ _ _ c.in_ok-connection_reads.ensures
    (on _ _ _ _ _ c.in_ok-which_given.ensures
    (out d (item_found d c.args.connection c.args.which) [] _ _ (Err NothingUnseen) NothingUnseen refl (sym (ap is_found none), refl)))))

pub returns : goal.returns
unfolding step checks told effect
returns c =
    let d = c.args.self.now in
    let reads = row_is d c.args.connection c.seen.ensures c.connection-row.ensures in
    let found = found_of d c.args.connection c.args.which reads c.in-Some.ensures in
    on _ _ _ _ _ c.in_ok-thread_lives.ensures (on _ _ _ _ _ c.in_ok-connection_owned.ensures (on _ _ _ _ _ c.in_ok-connection_reads.ensures (on _ _ _ _ _ c.in_ok-which_given.ensures
    (on _ _ _ _ _ (sym (ap is_found found)) (done _ _ _ (told_of d c.in-Some.found found c.at.ensures)
    (opens_is d c.args.connection c.in-Some.found reads (ap place_found found) c.with.ensures))))))
