use borrow.Author.Rules.{rules}
use mathlib.Core.Path.{sym, ◌∙◌}
use borrow.Author.Tests.{lt-ltb, le-ltb, not-true, not-false}
use Rattle.text_chars.specs.Scalars.{scalar_from}
use Rattle.text_chars.proofs.scalars.scalar_from.Goals as goal

pub returns-then-a-lt128 : goal.returns-then-a-lt128
unfolding scalar_from
returns-then-a-lt128 c = simp (lt-ltb _ _ c.if-a-lt128.true)

pub returns-then-a-lt192 : goal.returns-then-a-lt192
unfolding scalar_from
returns-then-a-lt192 c = simp (le-ltb _ _ c.if-a-lt128.false, lt-ltb _ _ c.if-a-lt192.true)

pub returns-then-not-is_tail : goal.returns-then-not-is_tail
unfolding scalar_from
returns-then-not-is_tail c = simp (le-ltb _ _ c.if-a-lt128.false, le-ltb _ _ c.if-a-lt192.false, sym c.is_tail.ensures ∙ c.if-not-is_tail.true)

pub returns-then-a-lt224 : goal.returns-then-a-lt224
unfolding scalar_from
returns-then-a-lt224 c = simp (le-ltb _ _ c.if-a-lt128.false, le-ltb _ _ c.if-a-lt192.false, sym c.is_tail.ensures ∙ c.if-not-is_tail.false, lt-ltb _ _ c.if-a-lt224.true) c.shortest_form.ensures

pub returns-then-not-is_tail-2 : goal.returns-then-not-is_tail-2
unfolding scalar_from
returns-then-not-is_tail-2 c = simp (le-ltb _ _ c.if-a-lt128.false, le-ltb _ _ c.if-a-lt192.false, sym c.is_tail.ensures ∙ c.if-not-is_tail.false, le-ltb _ _ c.if-a-lt224.false, sym c.is_tail-2.ensures ∙ c.if-not-is_tail-2.true)

pub returns-then-a-lt240 : goal.returns-then-a-lt240
unfolding scalar_from
returns-then-a-lt240 c = simp (le-ltb _ _ c.if-a-lt128.false, le-ltb _ _ c.if-a-lt192.false, sym c.is_tail.ensures ∙ c.if-not-is_tail.false, le-ltb _ _ c.if-a-lt224.false, sym c.is_tail-2.ensures ∙ c.if-not-is_tail-2.false, lt-ltb _ _ c.if-a-lt240.true) c.shortest_form-then-a-lt240.ensures

pub returns-then-not-is_tail-3 : goal.returns-then-not-is_tail-3
unfolding scalar_from
returns-then-not-is_tail-3 c = simp (le-ltb _ _ c.if-a-lt128.false, le-ltb _ _ c.if-a-lt192.false, sym c.is_tail.ensures ∙ c.if-not-is_tail.false, le-ltb _ _ c.if-a-lt224.false, sym c.is_tail-2.ensures ∙ c.if-not-is_tail-2.false, le-ltb _ _ c.if-a-lt240.false, sym c.is_tail-3.ensures ∙ c.if-not-is_tail-3.true)

pub returns-then-a-lt248 : goal.returns-then-a-lt248
unfolding scalar_from
returns-then-a-lt248 c = simp (le-ltb _ _ c.if-a-lt128.false, le-ltb _ _ c.if-a-lt192.false, sym c.is_tail.ensures ∙ c.if-not-is_tail.false, le-ltb _ _ c.if-a-lt224.false, sym c.is_tail-2.ensures ∙ c.if-not-is_tail-2.false, le-ltb _ _ c.if-a-lt240.false, sym c.is_tail-3.ensures ∙ c.if-not-is_tail-3.false, lt-ltb _ _ c.if-a-lt248.true) c.shortest_form-then-a-lt248.ensures

pub returns : goal.returns
unfolding scalar_from
returns c = simp (le-ltb _ _ c.if-a-lt128.false, le-ltb _ _ c.if-a-lt192.false, sym c.is_tail.ensures ∙ c.if-not-is_tail.false, le-ltb _ _ c.if-a-lt224.false, sym c.is_tail-2.ensures ∙ c.if-not-is_tail-2.false, le-ltb _ _ c.if-a-lt240.false, sym c.is_tail-3.ensures ∙ c.if-not-is_tail-3.false, le-ltb _ _ c.if-a-lt248.false)
