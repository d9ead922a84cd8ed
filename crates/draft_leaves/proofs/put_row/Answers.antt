use borrow.Author.Rules.{rules}
use Prim.Native.Nat.{◌<◌}
use mathlib.Core.Path.{sym, subst}
use native.Mathlib.Omega.{arith}
use Rattle.pattern_typing.specs.Making.{pattern_row}
use Rattle.draft_tables.specs.declared.DraftCounts.{DraftCounts}
use Rattle.draft_nodes.proofs.Words.{low_room}
use Rattle.draft_leaves.proofs.Leaves.{row_put}
use Rattle.draft_leaves.proofs.put_row.Goals as goal

pub put_pattern-requires : goal.put_pattern-requires
put_pattern-requires c =
    let s = c.args in
    let p = c.requires in
    (p.0, (low_room s.tables s.draft.now p.0 s.c p.1.0 s.row.parts p.1.1.1 c.at_height-low.result c.at_height-low.ensures, subst (λ (d : DraftCounts). d.height < 16384) (sym c.at_height-low.ensures) (omega (arith, p.1.1.0))))

pub returns : goal.returns
returns c =
    let s = c.args in
    let p = c.requires in
    let m = s.row in
    λ sheet whole. row_put s.tables s.draft.now p.0 s.c p.1.0 m.parts p.1.1.1 sheet c.at_height-low.result c.at_height-low.ensures (pattern_row m.a m.ty m.derefs m.b m.c 0 0) c.put_pattern.result _ (c.put_pattern.ensures sheet whole)
