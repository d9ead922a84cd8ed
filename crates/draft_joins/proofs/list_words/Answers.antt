use Prim.Native.Nat.{◌*◌}
use mathlib.Core.Path.{ap}
use mathlib.Core.Bool.{Bool, cond}
use native.Mathlib.Omega.{arith}
use borrow.Author.Tests.{eq-eqb, ne_eqb}
use Rattle.draft_joins.proofs.list_words.Goals as goal

pub overflow_mul-result : goal.overflow_mul-result
overflow_mul-result c =
    let s = c.args in
    let is = ap (λ (b : Bool). cond b 2 1 * s.parts) (eq-eqb s.kind 6 c.if-kind-eq6.true) in
    omega (arith, is, c.requires)

pub returns-then-kind-eq6 : goal.returns-then-kind-eq6
returns-then-kind-eq6 c = let s = c.args in ap (λ (b : Bool). cond b 2 1 * s.parts) (eq-eqb s.kind 6 c.if-kind-eq6.true)

pub returns : goal.returns
returns c =
    let s = c.args in
    let is = ap (λ (b : Bool). cond b 2 1 * s.parts) (ne_eqb s.kind 6 c.if-kind-eq6.false) in
    omega (arith, is)
