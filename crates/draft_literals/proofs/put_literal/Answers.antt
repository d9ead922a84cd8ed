use borrow.Author.Rules.{rules}
use Prim.Native.Nat.{◌-◌}
use native.Mathlib.Omega.{arith}
use Rattle.draft_literals.proofs.Literals.{low_counts, literal_stops, literal_stepped}
use Rattle.draft_literals.proofs.put_literal.Goals as goal

pub returns-in_err-added : goal.returns-in_err-added
returns-in_err-added c = rw c.from_residual.ensures (let s = c.args in
    let p = c.requires in
    λ v is sheet whole. literal_stops s.tables s.draft.now p.0 s.c p.1.0 s.parts p.1.1.1.0 v sheet whole s.ty s.derefs ((rw c.in_err-added.was at c.add_operand.ensures).1 v is sheet whole))

pub put_pattern-requires : goal.put_pattern-requires
put_pattern-requires c =
    let s = c.args in
    let p = c.requires in
    let low = low_counts s.tables s.c c.in_ok-added.added c.at_height.result (s.c.height - s.parts) 1 (rw c.in_ok-added.was at c.add_operand.ensures).0 c.at_height.ensures (omega (arith, p.1.1.0)) in
    (omega (arith, c.add_operand.auto, p.0), (low.0, omega (arith, low.1)))

pub returns : goal.returns
returns c =
    let s = c.args in
    let p = c.requires in
    λ v is sheet whole. literal_stepped s.tables s.draft.now p.0 s.c p.1.0 s.parts p.1.1.1.0 v sheet whole s.ty s.derefs c.in_ok-added.added c.at_height.result _ c.put_pattern.result _ (rw c.in_ok-added.was at c.add_operand.ensures).0.1 ((rw c.in_ok-added.was at c.add_operand.ensures).1 v is sheet whole) c.at_height.ensures (c.put_pattern.ensures sheet whole)
