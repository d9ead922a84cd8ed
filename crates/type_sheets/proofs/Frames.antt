-- The ways through the test of a sheet's frame. Assumes nothing.
use Rattle.std.specs.Prelude.{Some, None}
use Prim.Native.Nat.{ℕ, ◌+◌, ◌*◌, ◌-◌, ◌≤◌, ◌<◌}
use mathlib.Core.Path.{◌≡◌, refl}
use mathlib.Core.Bool.{Bool, true, false, cond, ◌&&◌}
use mathlib.Core.List.{List, [], ◌∷◌}
use native.Mathlib.Omega.{arith}
use borrow.Author.Tests.{ne_eqb, eq-eqb, eqb-true, leb-true}
use lib.Dec.{eqb, leb}
use lib.ListN.{length}
use Rattle.image.specs.declared.Tables.{Tables}
use Rattle.image.specs.Bytes.{word_at, long_at, byte_at}
use Rattle.image.specs.Tables.{type_count, variant_count, pattern_count, binding_count, list_count, data_count, data_at, tables_end, tables_of, Whole}
use Rattle.image.specs.Lists.{all_true}
use Rattle.image.specs.Rules.{counts_what_follows, version_is_one, tables_fill_the_rest}
use Rattle.image.proofs.Bools.{and_left, and_right, and_false_right, all_true_at, one_false}
use Rattle.read_image.specs.Parts.{Begun}
use Rattle.type_sheets.specs.Sheets.{within_sheet_limits}
use Rattle.type_sheets.specs.Reading.{sheet_limits, sheet_framed, sheet_frame_of}

-- the rules of the frame
abbrev pub frame_rules : List ℕ → List Bool
frame_rules sheet = counts_what_follows sheet ∷ version_is_one sheet ∷ tables_fill_the_rest sheet ∷ within_sheet_limits sheet ∷ []

module _ (sheet : List ℕ) where
  refused : sheet_framed sheet ≡ false → None ≡ sheet_frame_of sheet
  unfolding sheet_frame_of
  refused e = rw e

  unfilled : (length sheet ≡ tables_end sheet → ⊥) → None ≡ sheet_frame_of sheet
  unfolding sheet_framed tables_fill_the_rest
  unfilled ne = refused (one_false (frame_rules sheet) 2 (ne_eqb _ _ ne))

  pub short : length sheet < 17 → None ≡ sheet_frame_of sheet
  short h = unfilled (λ e. omega arith)

  pub miscounted : (length sheet ≡ 4 + (word_at sheet 0 * 65536 + word_at sheet 2) → ⊥) → None ≡ sheet_frame_of sheet
  unfolding sheet_framed counts_what_follows
  miscounted ne = refused (one_false (frame_rules sheet) 0 (and_false_right (leb 4 (length sheet)) (eqb (length sheet) (4 + long_at sheet 0)) (ne_eqb _ _ ne)))

  pub other_version : (byte_at sheet 4 ≡ 1 → ⊥) → None ≡ sheet_frame_of sheet
  unfolding sheet_framed version_is_one
  other_version ne = refused (one_false (frame_rules sheet) 1 (ne_eqb _ _ ne))

  pub cut : length sheet < data_at sheet → None ≡ sheet_frame_of sheet
  cut h = unfilled (λ e. omega arith)

  pub loose : data_at sheet ≤ length sheet → (length sheet - data_at sheet ≡ data_count sheet → ⊥) → None ≡ sheet_frame_of sheet
  loose h ne = unfilled (λ e. ne (omega arith))

  abbrev counts_hold : Bool
  counts_hold = sheet_limits (type_count sheet) (variant_count sheet) (pattern_count sheet) (binding_count sheet) (list_count sheet) (data_count sheet)

  pub over_a_limit : counts_hold ≡ false → None ≡ sheet_frame_of sheet
  unfolding sheet_framed within_sheet_limits
  over_a_limit e = refused (one_false (frame_rules sheet) 3 e)

  pub whole_frame : Begun sheet → data_at sheet ≤ length sheet → length sheet - data_at sheet ≡ data_count sheet → counts_hold ≡ true → Some (tables_of sheet) ≡ sheet_frame_of sheet
  unfolding sheet_frame_of sheet_framed within_sheet_limits tables_fill_the_rest all_true
  whole_frame B h e l = rw (B.counted, B.version, eq-eqb (length sheet) (tables_end sheet) (omega arith), l)

  -- what is known of tables that the frame gave
  pub record Framed (tables : Tables) : Type 0 where
    pub same : tables ≡ tables_of sheet
    pub whole : Whole sheet tables
    pub holds : sheet_framed sheet ≡ true
    pub types : type_count sheet ≤ 256
    pub variants : variant_count sheet ≤ 512
    pub patterns : pattern_count sheet ≤ 512
    pub list : list_count sheet ≤ 2048

  pub whole_of : tables_end sheet ≤ length sheet → Whole sheet (tables_of sheet)
  unfolding tables_of
  whole_of h =
      record {
        types = refl;
        type_count_lem = refl;
        variants = refl;
        variant_count_lem = refl;
        patterns = refl;
        pattern_count_lem = refl;
        bindings = refl;
        binding_count_lem = refl;
        list = refl;
        list_count_lem = refl;
        bytes = refl;
        data_count_lem = refl;
        within = h;
      }

  pub fills : sheet_framed sheet ≡ true → tables_end sheet ≤ length sheet
  unfolding sheet_framed tables_fill_the_rest
  fills e = omega (arith, eqb-true (length sheet) (tables_end sheet) (all_true_at (frame_rules sheet) 2 e))

  pub within : sheet_framed sheet ≡ true → (type_count sheet ≤ 256) × (variant_count sheet ≤ 512) × (pattern_count sheet ≤ 512) × (list_count sheet ≤ 2048)
  unfolding sheet_framed within_sheet_limits
  within e =
      let all : counts_hold ≡ true = all_true_at (frame_rules sheet) 3 e in
      let t = leb (type_count sheet) 256 in
      let v = leb (variant_count sheet) 512 in
      let p = leb (pattern_count sheet) 512 in
      let b = leb (binding_count sheet) 256 in
      let l = leb (list_count sheet) 2048 in
      let d = leb (data_count sheet) 16384 in
      let first5 = and_left (t && v && p && b && l) d all in
      let first3 = and_left (t && v && p) b (and_left (t && v && p && b) l first5) in
      let first2 = and_left (t && v) p first3 in (
        leb-true _ _ (and_left t v first2),
        leb-true _ _ (and_right t v first2),
        leb-true _ _ (and_right (t && v) p first3),
        leb-true _ _ (and_right (t && v && p && b) l first5),
      )

  pub known : (tables : Tables) → Some tables ≡ sheet_frame_of sheet → Framed tables
  unfolding sheet_frame_of
  known tables e = go (sheet_framed sheet) refl e
    where
      go : (b : Bool) → sheet_framed sheet ≡ b → Some tables ≡ cond b (Some (tables_of sheet)) None → Framed tables
      go true f q =
          let same : tables ≡ tables_of sheet = cc in
          record {
            same = same;
            whole = rw same (whole_of (fills f));
            holds = f;
            types = (within f).0;
            variants = (within f).1;
            patterns = (within f).2;
            list = (within f).3;
          }
      go false f q = absurd (let z : ◌≡◌ {A = ℕ} 0 1 = cc in omega arith)

  pub unknown : None ≡ sheet_frame_of sheet → sheet_framed sheet ≡ false
  unfolding sheet_frame_of
  unknown e = go (sheet_framed sheet) e
    where
      go : (b : Bool) → None ≡ cond b (Some (tables_of sheet)) None → b ≡ false
      go true q = absurd (let z : ◌≡◌ {A = ℕ} 0 1 = cc in omega arith)
      go false q = refl
