-- The counts of a valid image that the start of a listing depends on. Assumes nothing.
use Prim.Native.Nat.{ℕ, ◌≤◌}
use mathlib.Core.Path.{◌≡◌}
use mathlib.Core.Bool.{true, ◌&&◌}
use mathlib.Core.List.{List}
use borrow.Author.Tests.{leb-true}
use lib.Dec.{leb}
use Rattle.image.specs.Tables.{type_count, variant_count, pattern_count, binding_count, list_count, data_count}
use Rattle.image.specs.Rules.{within_limits}
use Rattle.image.specs.Valid.{rules, valid}
use Rattle.image.proofs.Bools.{and_left, and_right, all_true_at}

-- there is a pattern, and there are at most 256 bindings
pub record Limits (image : List ℕ) : Type 0 where
  pub patterns : 1 ≤ pattern_count image
  pub bindings : binding_count image ≤ 256

pub limits : (image : List ℕ) → valid image ≡ true → Limits image
unfolding valid within_limits
limits image v =
    let e = all_true_at (rules image) 10 v in
    let a = leb (type_count image) 256 in
    let b = leb (variant_count image) 512 in
    let c = leb 1 (pattern_count image) && leb (pattern_count image) 512 in
    let d = leb (binding_count image) 256 in
    let l = leb (list_count image) 2048 in
    let m = leb (data_count image) 16384 in
    let four = and_left (a && b && c && d) l (and_left (a && b && c && d && l) m e) in
    record {
      patterns = leb-true 1 (pattern_count image) (and_left (leb 1 (pattern_count image)) (leb (pattern_count image) 512) (and_right (a && b) c (and_left (a && b && c) d four)));
      bindings = leb-true (binding_count image) 256 (and_right (a && b && c) d four);
    }
