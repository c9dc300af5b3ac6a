-- The channel's word is read, the place joins it, and it is written back; a number past the table changes nothing. Assumes nothing.
use mathlib.Core.Path.{ap, sym, ◌∙◌}
use Prim.Native.Nat.{ℕ}
use lib.ListN.{set}
use Rattle.words.specs.Words.{with}
use Rattle.tables.specs.Columns.{channel_places}
use Rattle.tables.proofs.At.{at_inside, set_inside, set_past}
use Rattle.tables.proofs.columns.hold.Goals as goal

pub returns-then-channel-lt-CHANNELS : goal.returns-then-channel-lt-CHANNELS
returns-then-channel-lt-CHANNELS c =
    let args = c.args in
    let held = args.held.now in
    ap (set held args.channel) (c.with.ensures ∙ ap (λ (word : ℕ). with word args.place) (sym (at_inside channel_places held c.if-channel-lt-CHANNELS.true)))
    ∙ sym (set_inside channel_places held args.channel _ c.if-channel-lt-CHANNELS.true)

pub returns-else-channel-lt-CHANNELS : goal.returns-else-channel-lt-CHANNELS
returns-else-channel-lt-CHANNELS c = sym (set_past channel_places c.args.held.now c.args.channel _ c.if-channel-lt-CHANNELS.false)
