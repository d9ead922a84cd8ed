-- What is known of the row of a pattern of a valid image. Assumes nothing.
use Prim.Native.Nat.{ℕ, ◌≤◌, ◌<◌}
use mathlib.Core.Path.{◌≡◌, refl}
use mathlib.Core.Bool.{Bool, true, false, cond, ◌&&◌}
use mathlib.Core.Logic.{inl, inr}
use mathlib.Core.List.{List, [], ◌∷◌}
use borrow.Author.Tests.{eqb-true, leb-true, ltb-true}
use lib.Dec.{eqb, leb, ltb}
use Rattle.image.specs.declared.rows.PatRow.{PatRow}
use Rattle.image.specs.Tables.{type_count, variant_count, pattern_count, binding_count, list_count, data_count}
use Rattle.image.specs.Kinds.{pat_kind}
use Rattle.image.specs.Rows.{pat_at}
use Rattle.image.specs.Lists.{all_in}
use Rattle.image.specs.Rules.{absent, names_type, within_limits}
use Rattle.image.specs.Subpatterns.{if_present, subpatterns_by}
use Rattle.image.specs.Patterns.{pattern_shape_holds, pattern_holds, subpatterns_below}
use Rattle.image.specs.Valid.{rules, valid}
use Rattle.image.proofs.Bools.{and_left, and_right, all_true_at, below_at}
use Rattle.image.proofs.Known.{pattern_holds_lem}
use Rattle.pattern_nodes.specs.Arguments.{SubpatternBelow}

-- limits of the tables
pub record Limits (image : List ℕ) : Type 0 where
  pub variants : variant_count image ≤ 512
  pub patterns : pattern_count image ≤ 512
  pub list : list_count image ≤ 2048

-- they hold in a valid image
pub limits : (image : List ℕ) → valid image ≡ true → Limits image
unfolding valid within_limits
limits image v =
    let e = all_true_at (rules image) 10 v in
    let a = leb (type_count image) 256 in
    let b = leb (variant_count image) 512 in
    let c = leb (pattern_count image) 512 in
    let some = leb 1 (pattern_count image) in
    let d = leb (binding_count image) 256 in
    let l = leb (list_count image) 2048 in
    let m = leb (data_count image) 16384 in
    let five = and_left (a && b && (some && c) && d && l) m e in
    let three = and_left (a && b && (some && c)) d (and_left (a && b && (some && c) && d) l five) in
    record {
      variants = leb-true (variant_count image) 512 (and_right a b (and_left (a && b) (some && c) three));
      patterns = leb-true (pattern_count image) 512 (and_right some c (and_right (a && b) (some && c) three));
      list = leb-true (list_count image) 2048 (and_right (a && b && (some && c) && d) l five);
    }

-- the row of a pattern, in a valid image
module _ (image : List ℕ) (p : ℕ) (row : PatRow) (v : valid image ≡ true) (h : p < pattern_count image) (same : row ≡ pat_at image p) where
  -- what is asked of it
  row_holds_lem : names_type image row.ty && leb row.derefs 16 && pattern_shape_holds (pat_kind row.kind) image row ≡ true
  unfolding pattern_holds
  row_holds_lem = rw same (pattern_holds_lem image p v h)

  -- its type
  pub row_typed : row.ty < type_count image
  row_typed =
      let named = names_type image row.ty in
      let few = leb row.derefs 16 in
      let shape = pattern_shape_holds (pat_kind row.kind) image row in
      ltb-true row.ty (type_count image) (and_left named few (and_left (named && few) shape row_holds_lem))

  -- its derefs
  pub row_derefs : row.derefs ≤ 16
  row_derefs =
      let named = names_type image row.ty in
      let few = leb row.derefs 16 in
      let shape = pattern_shape_holds (pat_kind row.kind) image row in
      leb-true row.derefs 16 (and_right named few (and_left (named && few) shape row_holds_lem))

  -- what its kind asks
  pub row_shape : pattern_shape_holds (pat_kind row.kind) image row ≡ true
  row_shape = and_right (names_type image row.ty && leb row.derefs 16) (pattern_shape_holds (pat_kind row.kind) image row) row_holds_lem

  -- its subpatterns' numbers are below its own
  pub row_falls : all_in (λ q. ltb q p) (subpatterns_by (pat_kind row.kind) image row) ≡ true
  unfolding valid subpatterns_below
  row_falls = rw same (below_at (subpatterns_below image) (pattern_count image) p (all_true_at (rules image) 8 v) h)

-- a number that may be absent, and is below p if it is there
pub present_below : (p q : ℕ) → all_in (λ q. ltb q p) (if_present q) ≡ true → SubpatternBelow q p
unfolding if_present all_in
present_below p q e = by (eqb q absent) (eqb-true q absent) e
  where
    by : (b : Bool) → (b ≡ true → q ≡ 65535) → all_in (λ q. ltb q p) (cond b [] (q ∷ [])) ≡ true → SubpatternBelow q p
    by true d e = inl (d refl)
    by false d e = inr (ltb-true q p (and_left (ltb q p) true e))
