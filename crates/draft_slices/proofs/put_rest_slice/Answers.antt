use borrow.Author.Rules.{rules}
use Prim.Native.Nat.{ℕ, ◌-◌, ◌<◌}
use mathlib.Core.Path.{refl, sym, ap₂, subst}
use native.Mathlib.Omega.{arith}
use Rattle.pattern_typing.specs.Making.{pattern_row}
use Rattle.draft_tables.specs.declared.DraftCounts.{DraftCounts}
use Rattle.draft_lists.proofs.Listing.{cut_room}
use Rattle.draft_slices.proofs.Slicing.{first_room, runs_counts, past_slice, slice_stepped}
use Rattle.draft_slices.proofs.put_rest_slice.Goals as goal

pub returns-then-next-many-gt2048 : goal.returns-then-next-many-gt2048
returns-then-next-many-gt2048 c =
    let s = c.args in
    let p = c.requires in
    λ sheet whole. past_slice s.tables s.draft.now p.0 s.c p.1.0 s.parts s.before p.1.1.1.0 p.1.1.1.1 sheet whole s.ty s.derefs c.if-next-many-gt2048.true

pub push_list-listed-requires : goal.push_list-listed-requires
push_list-listed-requires c =
    let s = c.args in
    let p = c.requires in
    ((omega (arith, c.push_list-first.auto, p.0), omega (arith, p.1.1.0, p.1.1.1.0, p.1.1.1.1)), first_room s.tables s.draft.now p.0 s.c p.1.0 s.parts s.before p.1.1.1.0 p.1.1.1.1 c.push_list-first.result (s.parts - 1 - s.before) c.push_list-first.ensures.0 (omega (arith, c.if-next-many-gt2048.false)) refl)

pub put_pattern-requires : goal.put_pattern-requires
put_pattern-requires c =
    let s = c.args in
    let p = c.requires in
    let counts = runs_counts s.tables s.draft.now p.0 s.c p.1.0 s.parts s.before p.1.1.1.0 p.1.1.1.1 c.push_list-first.result c.push_list-listed.result (s.parts - 1 - s.before) c.push_list-first.ensures.0 c.push_list-listed.ensures.0 refl in
    let room = cut_room s.tables s.draft.now p.0 s.c p.1.0 c.push_list-listed.result c.at_height.result (s.parts - 1) (s.c.height - s.parts) counts c.at_height.ensures (omega (arith, c.if-next-many-gt2048.false)) (omega arith) in
    (omega (arith, c.push_list-listed.auto, c.push_list-first.auto, p.0), (room, subst (λ (d : DraftCounts). d.height < 16384) (sym c.at_height.ensures) (omega (arith, p.1.1.0))))

pub returns : goal.returns
returns c =
    let s = c.args in
    let p = c.requires in
    λ sheet whole. slice_stepped s.tables s.draft.now p.0 s.c p.1.0 s.parts s.before p.1.1.1.0 p.1.1.1.1 sheet whole s.ty s.derefs c.push_list-first.result c.push_list-listed.result c.at_height.result _ _ _ (s.parts - 1 - s.before) c.put_pattern.result _ c.push_list-first.ensures.0 refl c.push_list-first.ensures.1 c.push_list-listed.ensures.0 c.push_list-listed.ensures.1 c.at_height.ensures (omega (arith, c.if-next-many-gt2048.false)) (ap₂ (λ (k l : ℕ). pattern_row 8 s.ty s.derefs k s.before (s.parts - 1 - s.before) l) c.list_start.ensures c.stack_word-rest.ensures) (c.put_pattern.ensures sheet whole)
