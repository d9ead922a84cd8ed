-- The ways through `read_image`, over the parts of the test. Assumes nothing.
use Rattle.std.specs.Prelude.{Some, None}
use Prim.Native.Nat.{ℕ}
use mathlib.Core.Path.{◌≡◌, refl, sym, ap, ◌∙◌}
use mathlib.Core.Bool.{Bool, true, false, true≢false}
use mathlib.Core.List.{List, [], ◌∷◌}
use Rattle.image.specs.declared.Tables.{Tables}
use Rattle.image.specs.Tables.{pattern_count, tables_of}
use Rattle.image.specs.Lists.{all_below, all_true}
use Rattle.image.specs.Rules.{adts_share_no_variant}
use Rattle.image.specs.Patterns.{subpatterns_below, used_once}
use Rattle.image.specs.Valid.{rules, valid}
use Rattle.image.proofs.Bools.{and_left, and_right, and_true, all_true_at}
use Rattle.image_tables.proofs.Walking.{types, variants, bindings, shapes, uses, patterns}
use Rattle.read_image.specs.Parts.{framed}
use Rattle.image_tables.specs.Parts.{rows_hold}
use Rattle.read_image.specs.Read.{read_of, Reads}
use Rattle.read_image.proofs.Frames.{frame_rules}

module _ (image : List ℕ) where
  -- the rules on single rows of types, variants and bindings
  abbrev row_rules : List Bool
  row_rules = types image ∷ variants image ∷ bindings image ∷ []

  refused : valid image ≡ false → Reads image None
  unfolding read_of
  refused e = record { answer = rw e; refusal = rw e }

  -- a part of the test that fails, and that holds of every valid image
  fails : (part : Bool) → (valid image ≡ true → part ≡ true) → part ≡ false → Reads image None
  fails part follows e = refused (go (valid image) refl)
    where
      go : (v : Bool) → valid image ≡ v → v ≡ false
      go true q = absurd (true≢false (sym (follows q) ∙ e))
      go false q = refl

  pub no_frame : framed image ≡ false → Reads image None
  unfolding valid framed all_true
  no_frame e = fails (framed image) (λ v. rw (all_true_at (rules image) 0 v, all_true_at (rules image) 1 v, all_true_at (rules image) 2 v, all_true_at (rules image) 10 v)) e

  pub no_rows : rows_hold image ≡ false → Reads image None
  unfolding valid rows_hold all_true
  no_rows e = fails (rows_hold image) (λ v. rw (all_true_at (rules image) 3 v, all_true_at (rules image) 4 v, all_true_at (rules image) 7 v)) e

  pub shared_variant : adts_share_no_variant image ≡ false → Reads image None
  unfolding valid
  shared_variant e = fails (adts_share_no_variant image) (λ v. all_true_at (rules image) 5 v) e

  pub no_patterns : patterns image ≡ false → Reads image None
  unfolding valid
  no_patterns e = fails (patterns image) (λ v. and_true (shapes image) (uses image) (all_true_at (rules image) 6 v) (and_true (all_below (subpatterns_below image) (pattern_count image)) (used_once image) (all_true_at (rules image) 8 v) (all_true_at (rules image) 9 v))) e

  -- what the tests of the rows have shown
  pub types_hold : rows_hold image ≡ true → types image ≡ true
  unfolding rows_hold
  types_hold r = all_true_at row_rules 0 r

  all_rules : framed image ≡ true → rows_hold image ≡ true → adts_share_no_variant image ≡ true → patterns image ≡ true → valid image ≡ true
  unfolding valid framed rows_hold all_true
  all_rules f r a p =
      rw (
        all_true_at (frame_rules image) 0 f,
        all_true_at (frame_rules image) 1 f,
        all_true_at (frame_rules image) 2 f,
        all_true_at (frame_rules image) 3 f,
        all_true_at row_rules 0 r,
        all_true_at row_rules 1 r,
        all_true_at row_rules 2 r,
        a,
        and_left (shapes image) (uses image) p,
        and_left (all_below (subpatterns_below image) (pattern_count image)) (used_once image) (and_right (shapes image) (uses image) p),
        and_right (all_below (subpatterns_below image) (pattern_count image)) (used_once image) (and_right (shapes image) (uses image) p),
      )

  pub read : (tables : Tables) → tables ≡ tables_of image → framed image ≡ true → rows_hold image ≡ true → adts_share_no_variant image ≡ true → patterns image ≡ true → Reads image (Some tables)
  unfolding read_of
  read tables same f r a p = let v = all_rules f r a p in record { answer = ap Some same ∙ rw v; refusal = rw v }
