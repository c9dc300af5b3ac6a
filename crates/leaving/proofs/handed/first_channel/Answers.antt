-- Below the channel that the loop comes to none holds an item in one of the places, so that the first that does is the lowest. Assumes nothing.
use mathlib.Core.Bool.{Bool, false, not}
use mathlib.Core.List.{List}
use mathlib.Core.Path.{◌∙◌, ◌≡◌, ap, sym}
use Prim.Native.Nat.{ℕ}
use native.Mathlib.Numerals.{add-one}
use native.Mathlib.Omega.{arith}
use lib.Dec.{eqb}
use borrow.Author.Tests.{eq-eqb, ne_eqb}
use Rattle.words.specs.Words.{both}
use Rattle.words.proofs.Laws.{lowest_none, lowest_unique}
use Rattle.words.proofs.Walk.{and_this}
use Rattle.tables.specs.Columns.{at, channel_places}
use Rattle.leaving.specs.Leaving.{first_channel, holds_one}
use Rattle.leaving.proofs.handed.first_channel.Goals as goal

-- the test of a channel, from the word that was read and the places of it that count
held_one : (held : List ℕ) (places channel : ℕ) {word among : ℕ} {none : Bool} → word ≡ at channel_places held channel → among ≡ both word places
    → eqb among 0 ≡ none → holds_one held places channel ≡ not none
held_one held places channel read kept test =
    ap (λ (word : ℕ). not (eqb (both word places) 0)) (sym read) ∙ ap (λ (among : ℕ). not (eqb among 0)) (sym kept) ∙ ap not test

pub returns-then-both-ne0 : goal.returns-then-both-ne0
unfolding first_channel
returns-then-both-ne0 c =
    let args = c.args in
    sym
    (lowest_unique (holds_one args.held.now args.places) c.loop-channel-test.true
    (held_one _ _ _ c.at.ensures c.both.ensures (ne_eqb _ 0 c.if-both-ne0.true)) c.loop-channel.invariant)

pub loop-channel-preserved : goal.loop-channel-preserved
loop-channel-preserved c =
    let args = c.args in
    let fails = held_one _ _ _ c.at.ensures c.both.ensures (eq-eqb _ 0 c.if-both-ne0.false) in
    rw add-one (and_this (λ earlier. holds_one args.held.now args.places earlier ≡ false) fails c.loop-channel.invariant)

pub returns : goal.returns
unfolding first_channel
returns c =
    let args = c.args in
    let end = c.loop-channel-test.false in
    sym (lowest_none (holds_one args.held.now args.places) channel_places (λ earlier below. c.loop-channel.invariant earlier (omega arith)))
