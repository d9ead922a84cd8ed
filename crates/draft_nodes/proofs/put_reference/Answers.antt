use borrow.Author.Rules.{rules}
use mathlib.Core.Path.{sym, subst}
use Prim.Native.Nat.{◌<◌}
use native.Mathlib.Omega.{arith}
use Rattle.draft_tables.specs.declared.DraftCounts.{DraftCounts}
use Rattle.draft_nodes.proofs.Words.{low_room, reference_stepped}
use Rattle.draft_nodes.proofs.put_reference.Goals as goal

pub put_pattern-requires : goal.put_pattern-requires
put_pattern-requires c =
    let s = c.args in
    let p = c.requires in
    (p.0, (low_room s.tables s.draft.now p.0 s.c p.1.0 s.parts p.1.1.1 c.at_height.result c.at_height.ensures, subst (λ (d : DraftCounts). d.height < 16384) (sym c.at_height.ensures) (omega (arith, p.1.1.0))))

pub returns : goal.returns
returns c =
    let s = c.args in
    let p = c.requires in
    λ sheet whole. reference_stepped s.tables s.draft.now p.0 s.c p.1.0 s.parts p.1.1.1 sheet s.ty c.at_height.result c.first_word.result c.put_pattern.result _ c.at_height.ensures c.first_word.ensures (c.put_pattern.ensures sheet whole)
