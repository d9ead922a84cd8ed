use borrow.Author.Rules.{rules}
use Prim.Native.Nat.{ℕ, ◌-◌, ◌<◌}
use mathlib.Core.Path.{sym, ap, subst, ◌∙◌}
use native.Mathlib.Omega.{arith}
use Rattle.pattern_images.specs.Emitting.{with_list}
use Rattle.draft_tables.specs.declared.DraftCounts.{DraftCounts}
use Rattle.draft_lists.proofs.Listing.{cut_room, past_list, list_stepped}
use Rattle.draft_lists.proofs.put_list.Goals as goal

pub returns-then-next-many-gt2048 : goal.returns-then-next-many-gt2048
returns-then-next-many-gt2048 c =
    let s = c.args in
    λ taken sheet whole. past_list s.tables s.draft.now c.requires.0 s.c c.requires.1.0 sheet whole s.row s.parts s.many taken c.requires.1.1.1 c.if-next-many-gt2048.true

pub put_pattern-requires : goal.put_pattern-requires
put_pattern-requires c =
    let s = c.args in
    let room = cut_room s.tables s.draft.now c.requires.0 s.c c.requires.1.0 c.push_list-listed.result c.at_height.result s.many (s.c.height - s.many) c.push_list-listed.ensures.0 c.at_height.ensures (omega (arith, c.if-next-many-gt2048.false)) (omega arith) in
    (omega (arith, c.push_list-listed.auto, c.requires.0), (room, subst (λ (d : DraftCounts). d.height < 16384) (sym c.at_height.ensures) (omega (arith, c.requires.1.1.0))))

pub returns : goal.returns
returns c =
    let s = c.args in
    λ taken sheet whole. list_stepped s.tables s.draft.now c.requires.0 s.c c.requires.1.0 sheet whole s.row s.parts s.many taken c.requires.1.1.1 c.push_list-listed.result c.at_height.result c.with_list-whole.result _ c.put_pattern.result _ c.push_list-listed.ensures.0 c.push_list-listed.ensures.1 c.at_height.ensures (omega (arith, c.if-next-many-gt2048.false)) (c.with_list-whole.ensures ∙ ap (λ (k : ℕ). with_list s.row k s.parts) c.list_start.ensures) (c.put_pattern.ensures sheet whole)
