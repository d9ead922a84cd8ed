use borrow.Author.Rules.{rules}
use Prim.Native.Nat.{◌-◌}
use mathlib.Core.Path.{refl}
use native.Mathlib.Omega.{arith}
use Rattle.draft_tables.proofs.Counted.{room_within}
use Rattle.draft_literals.proofs.Literals.{low_counts, operand_stops, operand_put}
use Rattle.draft_literals.proofs.put_operand.Goals as goal

pub returns-in_err-added : goal.returns-in_err-added
returns-in_err-added c = rw c.from_residual.ensures (let s = c.args in
    let p = c.requires in
    λ v is sheet whole. operand_stops s.tables s.draft.now p.0 s.c p.1.0 s.parts p.1.1.1.0 v sheet whole ((rw c.in_err-added.was at c.add_operand.ensures).1 v is sheet whole))

pub push_stack-requires : goal.push_stack-requires
push_stack-requires c =
    let s = c.args in
    let p = c.requires in
    let low = low_counts s.tables s.c c.in_ok-added.added c.at_height-low.result (s.c.height - s.parts) 1 (rw c.in_ok-added.was at c.add_operand.ensures).0 c.at_height-low.ensures (omega (arith, p.1.1.0)) in
    ((omega (arith, c.add_operand.auto, p.0), refl), (room_within s.tables c.at_height-low.result low.0, low.1))

pub returns : goal.returns
returns c =
    let s = c.args in
    let p = c.requires in
    λ v is sheet whole. operand_put s.tables s.draft.now p.0 s.c p.1.0 s.parts p.1.1.1.0 v sheet whole c.in_ok-added.added c.at_height-low.result c.push_stack.result _ _ (rw c.in_ok-added.was at c.add_operand.ensures).0.1 ((rw c.in_ok-added.was at c.add_operand.ensures).1 v is sheet whole) c.at_height-low.ensures (omega (arith, p.1.1.0)) c.push_stack.ensures.0 c.push_stack.ensures.1
