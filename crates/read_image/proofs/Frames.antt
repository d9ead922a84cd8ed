-- The ways through the test of an image's frame. Assumes nothing.
use Rattle.std.specs.Prelude.{Some, None}
use Prim.Native.Nat.{ℕ, ◌+◌, ◌*◌, ◌-◌, ◌≤◌, ◌<◌}
use mathlib.Core.Path.{◌≡◌, refl}
use mathlib.Core.Bool.{Bool, true, false, cond, ◌&&◌}
use mathlib.Core.List.{List, [], ◌∷◌}
use native.Mathlib.Omega.{arith}
use borrow.Author.Tests.{ne_eqb, eq-eqb, le-leb, eqb-true, leb-true}
use lib.Dec.{eqb, leb}
use lib.ListN.{length}
use Rattle.image.specs.declared.Tables.{Tables}
use Rattle.image.specs.Bytes.{word_at, long_at, byte_at}
use Rattle.image.specs.Tables.{type_count, variant_count, pattern_count, binding_count, list_count, data_count, data_at, tables_end, tables_of, Whole}
use Rattle.image.specs.Lists.{all_true}
use Rattle.image.specs.Rules.{counts_what_follows, version_is_one, tables_fill_the_rest, within_limits}
use Rattle.image.proofs.Bools.{and_left, and_right, and_true, and_false_right, all_true_at, one_false}
use Rattle.read_image.specs.Parts.{limits, framed, Begun, frame_of}

-- the rules of the frame
abbrev pub frame_rules : List ℕ → List Bool
frame_rules image = counts_what_follows image ∷ version_is_one image ∷ tables_fill_the_rest image ∷ within_limits image ∷ []

module _ (image : List ℕ) where
  refused : framed image ≡ false → None ≡ frame_of image
  unfolding frame_of
  refused e = rw e

  unfilled : (length image ≡ tables_end image → ⊥) → None ≡ frame_of image
  unfolding framed tables_fill_the_rest
  unfilled ne = refused (one_false (frame_rules image) 2 (ne_eqb _ _ ne))

  pub short : length image < 17 → None ≡ frame_of image
  short h = unfilled (λ e. omega arith)

  pub miscounted : (length image ≡ 4 + (word_at image 0 * 65536 + word_at image 2) → ⊥) → None ≡ frame_of image
  unfolding framed counts_what_follows
  miscounted ne = refused (one_false (frame_rules image) 0 (and_false_right (leb 4 (length image)) (eqb (length image) (4 + long_at image 0)) (ne_eqb _ _ ne)))

  pub other_version : (byte_at image 4 ≡ 1 → ⊥) → None ≡ frame_of image
  unfolding framed version_is_one
  other_version ne = refused (one_false (frame_rules image) 1 (ne_eqb _ _ ne))

  pub begun : 17 ≤ length image → length image ≡ 4 + (word_at image 0 * 65536 + word_at image 2) → byte_at image 4 ≡ 1 → Begun image
  unfolding counts_what_follows version_is_one
  begun long e v =
      record {
        long = long;
        counted = and_true (leb 4 (length image)) (eqb (length image) (4 + long_at image 0)) (le-leb 4 (length image) (omega arith)) (eq-eqb _ _ e);
        version = eq-eqb _ _ v;
      }

  pub cut : length image < data_at image → None ≡ frame_of image
  cut h = unfilled (λ e. omega arith)

  pub loose : data_at image ≤ length image → (length image - data_at image ≡ data_count image → ⊥) → None ≡ frame_of image
  loose h ne = unfilled (λ e. ne (omega arith))

  abbrev counts_hold : Bool
  counts_hold = limits (type_count image) (variant_count image) (pattern_count image) (binding_count image) (list_count image) (data_count image)

  pub over_a_limit : counts_hold ≡ false → None ≡ frame_of image
  unfolding framed within_limits
  over_a_limit e = refused (one_false (frame_rules image) 3 e)

  pub whole_frame : Begun image → data_at image ≤ length image → length image - data_at image ≡ data_count image → counts_hold ≡ true → Some (tables_of image) ≡ frame_of image
  unfolding frame_of framed within_limits tables_fill_the_rest all_true
  whole_frame B h e l = rw (B.counted, B.version, eq-eqb (length image) (tables_end image) (omega arith), l)

  -- what is known of tables that the frame gave
  pub record Framed (tables : Tables) : Type 0 where
    pub same : tables ≡ tables_of image
    pub whole : Whole image tables
    pub holds : framed image ≡ true
    pub variants : variant_count image ≤ 512
    pub patterns : pattern_count image ≤ 512
    pub list : list_count image ≤ 2048

  whole_of : tables_end image ≤ length image → Whole image (tables_of image)
  unfolding tables_of
  whole_of h =
      record {
        types = refl;
        type_count_lem = refl;
        variants = refl;
        variant_count_lem = refl;
        patterns = refl;
        pattern_count_lem = refl;
        bindings = refl;
        binding_count_lem = refl;
        list = refl;
        list_count_lem = refl;
        bytes = refl;
        data_count_lem = refl;
        within = h;
      }

  fills : framed image ≡ true → tables_end image ≤ length image
  unfolding framed tables_fill_the_rest
  fills e = omega (arith, eqb-true (length image) (tables_end image) (all_true_at (frame_rules image) 2 e))

  within : framed image ≡ true → (variant_count image ≤ 512) × (pattern_count image ≤ 512) × (list_count image ≤ 2048)
  unfolding framed within_limits
  within e =
      let all : counts_hold ≡ true = all_true_at (frame_rules image) 3 e in
      let t = leb (type_count image) 256 in
      let v = leb (variant_count image) 512 in
      let p = leb 1 (pattern_count image) && leb (pattern_count image) 512 in
      let b = leb (binding_count image) 256 in
      let l = leb (list_count image) 2048 in
      let d = leb (data_count image) 16384 in
      let first5 = and_left (t && v && p && b && l) d all in
      let first3 = and_left (t && v && p) b (and_left (t && v && p && b) l first5) in (
        leb-true _ _ (and_right t v (and_left (t && v) p first3)),
        leb-true _ _ (and_right (leb 1 (pattern_count image)) (leb (pattern_count image) 512) (and_right (t && v) p first3)),
        leb-true _ _ (and_right (t && v && p && b) l first5),
      )

  pub known : (tables : Tables) → Some tables ≡ frame_of image → Framed tables
  unfolding frame_of
  known tables e = go (framed image) refl e
    where
      go : (b : Bool) → framed image ≡ b → Some tables ≡ cond b (Some (tables_of image)) None → Framed tables
      go true f q =
          let same : tables ≡ tables_of image = cc in
          record {
            same = same;
            whole = rw same (whole_of (fills f));
            holds = f;
            variants = (within f).0;
            patterns = (within f).1;
            list = (within f).2;
          }
      go false f q = absurd (let z : ◌≡◌ {A = ℕ} 0 1 = cc in omega arith)

  pub unknown : None ≡ frame_of image → framed image ≡ false
  unfolding frame_of
  unknown e = go (framed image) e
    where
      go : (b : Bool) → None ≡ cond b (Some (tables_of image)) None → b ≡ false
      go true q = absurd (let z : ◌≡◌ {A = ℕ} 0 1 = cc in omega arith)
      go false q = refl
