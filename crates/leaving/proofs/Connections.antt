-- A connection read across the columns, once some connections are freed, items have left or marks are raised: each column by its own law. Assumes nothing.
use mathlib.Core.Bool.{cond, false}
use mathlib.Core.List.{List}
use mathlib.Core.Path.{◌≡◌}
use Prim.Native.Nat.{max, ℕ}
use lib.ListN.{length}
use Rattle.words.specs.Words.{has}
use Rattle.words.proofs.YesOrNo.{bool_cases}
use Rattle.rows.specs.declared.Connection.{Connection}
use Rattle.rows.proofs.Changed as Row
use Rattle.tables.specs.Columns.{at, channel_places, connection_in, connection_places}
use Rattle.tables.specs.Order.{Inside}
use Rattle.leaving.specs.Leaving.{cleared, lessened, raised}
use Rattle.leaving.proofs.Changed.{changed_elsewhere, changed_there, kept_at}
use Rattle.leaving.proofs.Kept.{lessened-at}

-- ---- some connections are freed, but not this one

module _ (gone connection : ℕ) (kept : has gone connection ≡ false) where
  abbrev freed : List ℕ → List ℕ
  freed column = cleared connection_places gone column

  as_it_was : (column : List ℕ) → length column ≡ connection_places → at connection_places (freed column) connection ≡ at connection_places column connection
  as_it_was column sized = kept_at connection_places gone column sized connection kept

  pub connection_kept : (leads held marks opened consumed : List ℕ)
      → length leads ≡ connection_places
      → length marks ≡ connection_places
      → length opened ≡ connection_places
      → length consumed ≡ connection_places
      → connection_in (freed leads) held (freed marks) (freed opened) (freed consumed) connection ≡ connection_in leads held marks opened consumed connection
  connection_kept leads held marks opened consumed leads_sized marks_sized opened_sized consumed_sized =
      rw (as_it_was leads leads_sized, as_it_was marks marks_sized, as_it_was opened opened_sized, as_it_was consumed consumed_sized)

module _ (leads held marks opened consumed : List ℕ) (connection : ℕ) where
  abbrev before : Connection
  before = connection_in leads held marks opened consumed connection

  -- ---- the items of some places leave

  pub connection_left : length held ≡ channel_places → length opened ≡ connection_places → length consumed ≡ connection_places → (gone : ℕ)
      → connection_in leads (lessened channel_places gone held) marks (lessened connection_places gone opened) (lessened connection_places gone consumed) connection
      ≡ Row.cleared before gone
  unfolding Row.cleared
  connection_left held_sized opened_sized consumed_sized gone =
      rw (
        lessened-at channel_places gone held held_sized (at connection_places leads connection),
        lessened-at connection_places gone opened opened_sized connection,
        lessened-at connection_places gone consumed consumed_sized connection,
      )

  -- ---- the marks of inputs are raised

  pub connection_raised : length marks ≡ connection_places → (inputs : ℕ) → Inside connection_places inputs → (bound : ℕ)
      → connection_in leads held (raised inputs bound marks) opened consumed connection ≡ cond (has inputs connection) (Row.raised before bound) before
  unfolding Row.raised
  connection_raised sized inputs inside bound =
      bool_cases (has inputs connection)
      (λ reads. rw (reads, changed_there connection_places (has inputs) (λ mark. max mark bound) marks sized connection (inside connection reads) reads))
      (λ writes. rw (writes, changed_elsewhere connection_places (has inputs) (λ mark. max mark bound) marks sized connection writes))
