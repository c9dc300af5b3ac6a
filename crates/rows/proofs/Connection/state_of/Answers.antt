-- The tests are those of the definition, in its order, so each of the ways out is one of its cases. Assumes nothing.
use Rattle.std.proofs.Common.{sym, ◌∙◌}
use borrow.Author.Tests.{lt-ltb, le-ltb, le-leb, lt-leb}
use Rattle.rows.specs.States.{state_of}
use Rattle.rows.proofs.Connection.state_of.Goals as goal

pub returns-then-timestamp-self : goal.returns-then-timestamp-self
unfolding state_of
returns-then-timestamp-self c = simp (lt-ltb _ _ c.if-timestamp-self.true)

pub returns-in_default : goal.returns-in_default
unfolding state_of
returns-in_default c = simp (le-ltb _ _ c.if-timestamp-self.false, c.in_default.is)

pub returns-then-place-ge-ITEMS : goal.returns-then-place-ge-ITEMS
unfolding state_of
returns-then-place-ge-ITEMS c = simp (le-ltb _ _ c.if-timestamp-self.false, c.in-Some.is, le-leb _ _ c.if-place-ge-ITEMS.true)

pub returns-then-has : goal.returns-then-has
unfolding state_of
returns-then-has c =
    simp (le-ltb _ _ c.if-timestamp-self.false, c.in-Some.is, lt-leb _ _ c.if-place-ge-ITEMS.false, sym c.has.ensures ∙ c.if-has.true)

pub returns-then-has-2 : goal.returns-then-has-2
unfolding state_of
returns-then-has-2 c =
    simp (
      le-ltb _ _ c.if-timestamp-self.false,
      c.in-Some.is,
      lt-leb _ _ c.if-place-ge-ITEMS.false,
      sym c.has.ensures ∙ c.if-has.false,
      sym c.has-2.ensures ∙ c.if-has-2.true,
    )

pub returns : goal.returns
unfolding state_of
returns c =
    simp (
      le-ltb _ _ c.if-timestamp-self.false,
      c.in-Some.is,
      lt-leb _ _ c.if-place-ge-ITEMS.false,
      sym c.has.ensures ∙ c.if-has.false,
      sym c.has-2.ensures ∙ c.if-has-2.false,
    )
