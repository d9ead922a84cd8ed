-- The last pattern of the image is the whole pattern's. Assumes nothing.
use Prim.Native.Nat.{ℕ, ◌-◌}
use mathlib.Core.Path.{◌≡◌, refl, sym, ap, ◌∙◌}
use mathlib.Core.Bool.{true, ◌&&◌}
use mathlib.Core.Option.{none}
use mathlib.Core.List.{List, [], ◌∷◌}
use native.Mathlib.Omega.{arith}
use lib.ListN.{length-append}
use Rattle.image.specs.declared.rows.PatRow.{PatRow}
use Rattle.image.specs.Tables.{pattern_count}
use Rattle.image.proofs.Bools.{and_left}
use Rattle.type_sheets.specs.Sheets.{sheet_holds}
use Rattle.name_tables.specs.Names.{names_hold}
use Rattle.pattern_syntax.specs.Written.{Written, written, part_count}
use Rattle.pattern_syntax.specs.Formed.{node_formed, Stand, in_pattern, stands_in, may_stand, rest_place, node_in, rest_part_formed, formed, parts_formed}
use Rattle.pattern_typing.specs.Crossing.{by_value}
use Rattle.pattern_typing.specs.Contexts.{Context, typed}
use Rattle.pattern_typing.specs.Making.{Making}
use Rattle.pattern_typing.specs.Resolving.{resolved}
use Rattle.pattern_typing.specs.Failing.{refused_in, refused_among}
use Rattle.pattern_images.specs.Drafts.{Draft, empty_draft, next_pattern, add_pattern}
use Rattle.pattern_images.specs.Emitting.{with_pattern, emit_node, emitted, emitted_parts}
use Rattle.pattern_images.specs.Imaging.{image_with}
use Rattle.pattern_reading.specs.Reads.{draft_of}
use Rattle.image_growth.specs.Growing.{IsBytes, Grown}
use Rattle.image_growth.proofs.Grows.{grown}
use Rattle.image_validity.specs.Validity.{Readable}
use Rattle.image_validity.proofs.Tests.{and_first, and_second, and_third}
use Rattle.image_validity.proofs.Emits.{Sound, sound_row, sound_literal, sound_operand, sound_named, sound_range, sound_bind, sound_reference, sound_items, sound_fields, sound_slice, sound_field}
use Rattle.image_validity.proofs.Contexts.{Fits}
use Rattle.image_validity.proofs.Nodes.{resolves}
use Rattle.image_validity.proofs.Whole.{neither}

-- a pattern that is added is the last
pattern_last : (sheet : List ℕ) (row : PatRow) (d : Draft) → (with_pattern sheet row d).stands ≡ (next_pattern sheet (with_pattern sheet row d).draft - 1) ∷ []
unfolding add_pattern
pattern_last sheet row d =
    let e : next_pattern sheet d ≡ next_pattern sheet (add_pattern row d) - 1 = omega (arith, length-append d.patterns (row ∷ [])) in
    ap (λ (n : ℕ). n ∷ []) e

-- what is made of a node that stands in a pattern is a pattern
node_last : (sheet image : List ℕ) (making : Making) (many : ℕ) (s p : Stand) (stands : List ℕ) (d : Draft) → Sound sheet image making many s p → s ≡ in_pattern →
    (emit_node sheet making many stands d).stands ≡ (next_pattern sheet (emit_node sheet making many stands d).draft - 1) ∷ []
unfolding emit_node
node_last sheet image _ _ _ _ stands d (sound_row row many p t shape bare) e = pattern_last sheet _ _
node_last sheet image _ _ _ _ stands d (sound_literal t derefs v many p h f) e = pattern_last sheet _ _
node_last sheet image _ _ _ _ stands d (sound_operand v many p f) e =
    let z : ◌≡◌ {A = ℕ} 0 1 = cc in
    absurd (omega arith)
node_last sheet image _ _ _ _ stands d (sound_named o many p h) e =
    let z : ◌≡◌ {A = ℕ} 0 1 = cc in
    absurd (omega arith)
node_last sheet image _ _ _ _ stands d (sound_range t derefs lower upper dots many h c) e = pattern_last sheet _ _
node_last sheet image _ _ _ _ stands d (sound_bind t mode annotation name at many h m a b f) e = pattern_last sheet _ _
node_last sheet image _ _ _ _ stands d (sound_reference t many h c) e = pattern_last sheet _ _
node_last sheet image _ _ _ _ stands d (sound_items row many t shape subs) e = pattern_last sheet _ _
node_last sheet image _ _ _ _ stands d (sound_fields row many t shape subs) e = pattern_last sheet _ _
node_last sheet image _ _ _ _ stands d (sound_slice t derefs before many h r) e = pattern_last sheet _ _
node_last sheet image _ _ _ _ stands d (sound_field number many c) e =
    let z : ◌≡◌ {A = ℕ} 0 1 = cc in
    absurd (omega arith)

module _ (sheet names : List ℕ) (whole : Draft) (image : List ℕ) (g : Grown sheet whole image) (holds : sheet_holds sheet ≡ true) (named : names_hold sheet names ≡ true)
    (bytes : IsBytes sheet) where
  tree_last : (w : Written) (c : Context) (d : Draft) → formed w in_pattern ≡ true → Fits sheet c (node_in w) in_pattern → refused_in sheet names w c ≡ none →
      (emitted sheet names w c d).stands ≡ (next_pattern sheet (emitted sheet names w c d).draft - 1) ∷ []
  unfolding node_in formed parts_formed refused_in refused_among emitted emitted_parts
  tree_last (written at n ps) c d form fits taken =
      let r = resolved sheet names at n (part_count ps) c in
      let m = emitted_parts sheet names ps r.reads d in
      let free = neither r.refused_at (refused_among sheet names ps r.reads) taken in
      let stands = may_stand n in_pattern in
      let node = node_formed n (part_count ps) in
      let rest = rest_part_formed (rest_place n) ps in
      let own = and_left (stands && node && rest) (parts_formed ps (stands_in n)) form in
      let fit =
      resolves sheet names whole image g holds named bytes c in_pattern n at ps fits (and_first stands node rest own) (and_second stands node rest own)
      (and_third stands node rest own) free.0
      in
      node_last sheet image r.making (part_count ps) in_pattern (stands_in n) m.stands m.draft fit.sound refl

-- The theorem: what stands for the whole pattern is the last number of the image's patterns.
pub root_last : (sheet names : List ℕ) (expected : ℕ) (w : Written) → Readable sheet names expected w →
    (emitted sheet names w (typed expected by_value) empty_draft).stands ≡ (pattern_count (image_with sheet (draft_of sheet names expected w)) - 1) ∷ []
root_last sheet names expected w readable =
    let whole = draft_of sheet names expected w in
    let g = grown sheet whole readable.sheet_holds_lem in
    tree_last sheet names whole (image_with sheet whole) g readable.sheet_holds_lem readable.names_hold_lem readable.bytes w (typed expected by_value) empty_draft
    readable.is_formed (readable.exists, omega arith) readable.taken
    ∙ ap (λ (n : ℕ). (n - 1) ∷ []) (sym g.patterns_are)
