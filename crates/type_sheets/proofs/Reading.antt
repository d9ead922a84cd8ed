-- The ways through `read_sheet`, over the parts of the test. Assumes nothing.
use Rattle.std.specs.Prelude.{Some, None}
use Prim.Native.Nat.{ℕ}
use mathlib.Core.Path.{◌≡◌, refl, sym, ap, ◌∙◌}
use mathlib.Core.Bool.{Bool, true, false, ◌&&◌, true≢false}
use mathlib.Core.List.{List, [], ◌∷◌}
use Rattle.image.specs.declared.Tables.{Tables}
use Rattle.image.specs.Tables.{type_count, variant_count, pattern_count, binding_count, tables_of}
use Rattle.image.specs.Lists.{all_below, all_true}
use Rattle.image.specs.Rules.{type_holds, variant_holds, binding_holds, adts_share_no_variant}
use Rattle.image.specs.Patterns.{pattern_holds, subpatterns_below, used_once}
use Rattle.image.proofs.Bools.{and_left, and_right, and_true, all_true_at}
use Rattle.image_tables.specs.Parts.{rows_hold}
use Rattle.type_sheets.specs.Sheets.{sheet_rules, sheet_holds}
use Rattle.type_sheets.specs.Reading.{sheet_of, sheet_framed}
use Rattle.type_sheets.proofs.Frames.{frame_rules}

module _ (sheet : List ℕ) where
  -- the rules on single rows of types, variants and bindings
  abbrev row_rules : List Bool
  row_rules =
      all_below (type_holds sheet) (type_count sheet)
      ∷ all_below (variant_holds sheet) (variant_count sheet)
      ∷ all_below (binding_holds sheet) (binding_count sheet)
      ∷ []

  -- the rules on patterns: on their rows, and on subpatterns' numbers
  abbrev shapes : Bool
  shapes = all_below (pattern_holds sheet) (pattern_count sheet)

  abbrev uses : Bool
  uses = all_below (subpatterns_below sheet) (pattern_count sheet) && used_once sheet

  -- a part of the test that fails, and that holds of every sheet that keeps its rules
  fails : (part : Bool) → (sheet_holds sheet ≡ true → part ≡ true) → part ≡ false → None ≡ sheet_of sheet
  unfolding sheet_of
  fails part follows e = rw (go (sheet_holds sheet) refl)
    where
      go : (v : Bool) → sheet_holds sheet ≡ v → v ≡ false
      go true q = absurd (true≢false (sym (follows q) ∙ e))
      go false q = refl

  pub no_frame : sheet_framed sheet ≡ false → None ≡ sheet_of sheet
  unfolding sheet_holds sheet_framed all_true
  no_frame e = fails (sheet_framed sheet) (λ v. rw (all_true_at (sheet_rules sheet) 0 v, all_true_at (sheet_rules sheet) 1 v, all_true_at (sheet_rules sheet) 2 v, all_true_at (sheet_rules sheet) 10 v)) e

  pub no_rows : rows_hold sheet ≡ false → None ≡ sheet_of sheet
  unfolding sheet_holds rows_hold all_true
  no_rows e = fails (rows_hold sheet) (λ v. rw (all_true_at (sheet_rules sheet) 3 v, all_true_at (sheet_rules sheet) 4 v, all_true_at (sheet_rules sheet) 7 v)) e

  pub shared_variant : adts_share_no_variant sheet ≡ false → None ≡ sheet_of sheet
  unfolding sheet_holds
  shared_variant e = fails (adts_share_no_variant sheet) (λ v. all_true_at (sheet_rules sheet) 5 v) e

  pub no_patterns : shapes && uses ≡ false → None ≡ sheet_of sheet
  unfolding sheet_holds
  no_patterns e = fails (shapes && uses) (λ v. and_true shapes uses (all_true_at (sheet_rules sheet) 6 v) (and_true (all_below (subpatterns_below sheet) (pattern_count sheet)) (used_once sheet) (all_true_at (sheet_rules sheet) 8 v) (all_true_at (sheet_rules sheet) 9 v))) e

  -- what the tests of the rows have shown
  pub types_hold : rows_hold sheet ≡ true → all_below (type_holds sheet) (type_count sheet) ≡ true
  unfolding rows_hold
  types_hold r = all_true_at row_rules 0 r

  all_rules : sheet_framed sheet ≡ true → rows_hold sheet ≡ true → adts_share_no_variant sheet ≡ true → shapes && uses ≡ true → sheet_holds sheet ≡ true
  unfolding sheet_holds sheet_framed rows_hold all_true
  all_rules f r a p =
      rw (
        all_true_at (frame_rules sheet) 0 f,
        all_true_at (frame_rules sheet) 1 f,
        all_true_at (frame_rules sheet) 2 f,
        all_true_at (frame_rules sheet) 3 f,
        all_true_at row_rules 0 r,
        all_true_at row_rules 1 r,
        all_true_at row_rules 2 r,
        a,
        and_left shapes uses p,
        and_left (all_below (subpatterns_below sheet) (pattern_count sheet)) (used_once sheet) (and_right shapes uses p),
        and_right (all_below (subpatterns_below sheet) (pattern_count sheet)) (used_once sheet) (and_right shapes uses p),
      )

  pub read : (tables : Tables) → tables ≡ tables_of sheet → sheet_framed sheet ≡ true → rows_hold sheet ≡ true → adts_share_no_variant sheet ≡ true → shapes && uses ≡ true → Some tables ≡ sheet_of sheet
  unfolding sheet_of
  read tables same f r a p = let v = all_rules f r a p in ap Some same ∙ rw v
