use borrow.Author.Rules.{rules}
use mathlib.Core.Path.{◌≡◌, sym, ap, ◌∙◌}
use Prim.Native.Nat.{ℕ, ◌-◌, ◌≤◌}
use mathlib.Core.Bool.{Bool}
use native.Mathlib.Omega.{arith}
use Rattle.name_tables.specs.Names.{first_from}
use Rattle.pattern_images.specs.Drafts.{alike}
use Rattle.draft_types.specs.Types.{type_from, found}
use Rattle.draft_types.proofs.Firsts.{first_start, first_here, first_later, first_none}
use Rattle.draft_types.proofs.like_type.Goals as goal

pub loop-t-init : goal.loop-t-init
loop-t-init c = (omega arith, first_start (λ k. alike c.args.row (type_from c.args.sheet.now c.args.draft.now k)) c.args.many)

pub returns-then-is_alike : goal.returns-then-is_alike
unfolding found
returns-then-is_alike c =
    let s = c.args in
    let test : ℕ → Bool = λ k. alike s.row (type_from s.sheet.now s.draft.now k) in
    sym (first_here test c.loop-t.t s.many c.loop-t-test.true (sym (ap (alike s.row) c.type_from.ensures) ∙ sym c.is_alike.ensures ∙ c.if-is_alike.true)) ∙ c.loop-t.invariant.1

pub loop-t-preserved : goal.loop-t-preserved
loop-t-preserved c =
    let s = c.args in
    let test : ℕ → Bool = λ k. alike s.row (type_from s.sheet.now s.draft.now k) in
    (omega (arith, c.loop-t-test.true), sym (first_later test c.loop-t.t s.many c.loop-t-test.true (sym (ap (alike s.row) c.type_from.ensures) ∙ sym c.is_alike.ensures ∙ c.if-is_alike.false)) ∙ c.loop-t.invariant.1)

pub returns : goal.returns
unfolding found
returns c =
    let s = c.args in
    let test : ℕ → Bool = λ k. alike s.row (type_from s.sheet.now s.draft.now k) in
    sym (first_none test c.loop-t.t s.many c.loop-t-test.false) ∙ c.loop-t.invariant.1
