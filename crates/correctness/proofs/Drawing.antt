-- The trees of a valid image are drawn from it: their operands are its operands, and their lists are short. Assumes nothing.
use Prim.Native.Nat.{ℕ, zero, suc, ◌+◌, ◌≤◌, ◌<◌}
use native.Mathlib.Nat.{lt_trans}
use native.Mathlib.Omega.{arith}
use mathlib.Core.Path.{◌≡◌, refl, ap}
use mathlib.Core.Bool.{Bool, true, false, cond, ◌&&◌, ◌||◌, false≢true}
use mathlib.Core.Option.{none, some}
use mathlib.Core.List.{List, [], ◌∷◌, ◌++◌}
use borrow.Author.Tests.{eqb-true, leb-true, ltb-true}
use lib.Dec.{eqb, leb, ltb}
use lib.ListN.{length, drop, length-take}
use Rattle.image.specs.declared.kinds.PatKind.{PatKind}
use Rattle.image.specs.declared.kinds.PathKind.{PathKind}
use Rattle.image.specs.declared.rows.PatRow.{PatRow}
use Rattle.image.specs.Tables.{type_count, variant_count, pattern_count, binding_count, list_count, data_count, data_at}
use Rattle.image.specs.Kinds.{pat_kind, path_kind, operand_kind}
use Rattle.image.specs.Rows.{pat_at, operand_at, operand_bytes}
use Rattle.image.specs.Lists.{all_in}
use Rattle.image.specs.Rules.{absent, is_flag, names_type, listed, within_limits}
use Rattle.image.specs.Operands.{operand_lies, operand_value_holds, operand_holds}
use Rattle.image.specs.Subpatterns.{if_present, subpatterns_by}
use Rattle.image.specs.Patterns.{operand_or_absent, path_holds, pattern_shape_holds, pattern_holds, subpatterns_below}
use Rattle.image.specs.Valid.{rules, valid}
use Rattle.image.specs.Types.{operand_of}
use Rattle.image.specs.Tree.{Head, Pat, no, sub, operand?, trees, tree?, target, node_by, node, tree_of, tree}
use Rattle.image.proofs.Bools.{and_left, and_right, all_true_at, below_at, all_in_left, all_in_right}
use Rattle.image.proofs.Known.{pattern_holds_lem}
use Rattle.meaning.specs.Fit.{pat_count}
use Rattle.meaning.proofs.Cutting.{Bytes}
use Rattle.meaning.proofs.Constants.{operand_lies_lem}
use Rattle.correctness.proofs.Halving.{Drawn}
use Rattle.correctness.proofs.OfImages.{Drawn?, OfTarget, OfImage, AllOfImage, OfImage?}

-- the limits of the list and of the data
record Limits (image : List ℕ) : Type 0 where
  list : list_count image ≤ 2048
  data_count_lem : data_count image ≤ 16384

-- they hold in a valid image
limits : (image : List ℕ) → valid image ≡ true → Limits image
unfolding valid within_limits
limits image v =
    let e = all_true_at (rules image) 10 v in
    let a = leb (type_count image) 256 in
    let b = leb (variant_count image) 512 in
    let c = leb 1 (pattern_count image) && leb (pattern_count image) 512 in
    let d = leb (binding_count image) 256 in
    let l = leb (list_count image) 2048 in
    let m = leb (data_count image) 16384 in
    record {
      list = leb-true (list_count image) 2048 (and_right (a && b && c && d) l (and_left (a && b && c && d && l) m e));
      data_count_lem = leb-true (data_count image) 16384 (and_right (a && b && c && d && l) m e);
    }

-- an operand of the image
drawn : (image : List ℕ) (k : ℕ) → valid image ≡ true → Bytes image → operand_holds image k ≡ true → Drawn image (operand_of image k)
unfolding operand_of operand_holds operand_bytes
drawn image k v small e =
    let row = operand_at image k in
    let room = leb (k + 3) (list_count image) in
    let lies = operand_lies image row in
    let value = operand_value_holds (operand_kind row.kind) (operand_bytes image row) in
    let inside = leb-true (row.offset + row.count) (data_count image) (and_right room lies (and_left (room && lies) value e)) in
    record { lies = operand_lies_lem image k small e; short = omega (arith, length-take row.count (drop (data_at image + row.offset) image), (limits image v).data_count_lem) }

-- as many trees as numbers
patterns_counted : (g : ℕ → Pat) (qs : List ℕ) → pat_count (trees g qs) ≡ length qs
unfolding pat_count trees
patterns_counted g [] = refl
patterns_counted g (q ∷ qs) = let n = patterns_counted g qs in omega arith

-- as many numbers as are listed
listed_counted : (image : List ℕ) (step from count : ℕ) → length (listed image step from count) ≡ count
unfolding listed
listed_counted image step from zero = refl
listed_counted image step from (suc count) = ap suc (listed_counted image step (from + step) count)

module _ (image : List ℕ) (v : valid image ≡ true) (small : Bytes image) where
  -- an operand that may be absent
  drawn? : (k : ℕ) → operand_or_absent image k ≡ true → Drawn? image (operand? image k)
  unfolding operand?
  drawn? k e = by (eqb k absent) e
    where
      by : (b : Bool) → b || operand_holds image k ≡ true → Drawn? image (cond b none (some (operand_of image k)))
      by true e = tt
      by false e = drawn image k v small e

  -- what a path names
  target_drawn : (kind : PathKind) (b : ℕ) → path_holds kind image b ≡ true → OfTarget image (target kind image b)
  unfolding target path_holds operand_of
  target_drawn PathKind.Unresolved b e = tt
  target_drawn PathKind.Variant b e = tt
  target_drawn PathKind.Local b e = tt
  target_drawn PathKind.Constant b e =
      let holds = operand_holds image b in
      let eight = eqb (operand_at image b).kind 8 in
      (drawn image b v small (and_left holds eight e), ap operand_kind (eqb-true (operand_at image b).kind 8 (and_right holds eight e)))
  target_drawn PathKind.Other b e = tt
  target_drawn PathKind.Unknown b e = absurd (false≢true e)

  -- a node over trees that are drawn from the image
  module _ (g : ℕ → Pat) (p : ℕ) (here : (q : ℕ) → q < p → OfImage image (g q)) where
    -- subpatterns in a row
    all_drawn : (qs : List ℕ) → all_in (λ q. ltb q p) qs ≡ true → AllOfImage image (trees g qs)
    unfolding all_in trees OfImage
    all_drawn [] e = tt
    all_drawn (q ∷ qs) e = (here q (ltb-true q p (and_left (ltb q p) (all_in (λ q. ltb q p) qs) e)), all_drawn qs (and_right (ltb q p) (all_in (λ q. ltb q p) qs) e))

    -- a subpattern that may be absent
    maybe_drawn : (q : ℕ) → all_in (λ q. ltb q p) (if_present q) ≡ true → OfImage? image (tree? g q)
    unfolding tree? if_present all_in OfImage
    maybe_drawn q e = by (eqb q absent) e
      where
        by : (b : Bool) → all_in (λ q. ltb q p) (cond b [] (q ∷ [])) ≡ true → OfImage? image (cond b no (sub (g q)))
        by true e = tt
        by false e = here q (ltb-true q p (and_left (ltb q p) true e))

    -- a node by its kind
    node_drawn : (k : PatKind) (head : Head) (row : PatRow) → all_in (λ q. ltb q p) (subpatterns_by k image row) ≡ true → pattern_shape_holds k image row ≡ true →
        OfImage image (node_by k g image head row)
    unfolding node_by subpatterns_by pattern_shape_holds OfImage all_in
    node_drawn PatKind.Missing head row b e = tt
    node_drawn PatKind.Rest head row b e = tt
    node_drawn PatKind.NotNull head row b e = tt
    node_drawn PatKind.Wild head row b e = tt
    node_drawn PatKind.Tuple head row b e = all_drawn (listed image 1 row.a row.b) b
    node_drawn PatKind.Or head row b e = all_drawn (listed image 1 row.a row.b) b
    node_drawn PatKind.Record head row b e = all_drawn (listed image 2 (row.a + 1) row.b) b
    node_drawn PatKind.Range head row b e =
        let start = operand_or_absent image row.a in
        let end = operand_or_absent image row.b in
        let flag = is_flag row.c in
        (drawn? row.a (and_left start end (and_left (start && end) flag e)), drawn? row.b (and_right start end (and_left (start && end) flag e)))
    node_drawn PatKind.Slice head row b e =
        let prefix = listed image 1 row.a row.b in
        let suffix = listed image 1 (row.a + row.b) row.c in
        let behind = all_in_right (λ q. ltb q p) prefix (suffix ++ if_present row.d) b in
        let inside = leb-true (row.a + (row.b + row.c)) (list_count image) e in (
          omega (arith, inside, (limits image v).list, patterns_counted g prefix, patterns_counted g suffix, listed_counted image 1 row.a row.b, listed_counted image 1 (row.a + row.b) row.c),
          all_drawn prefix (all_in_left (λ q. ltb q p) prefix (suffix ++ if_present row.d) b),
          all_drawn suffix (all_in_left (λ q. ltb q p) suffix (if_present row.d) behind),
        )
    node_drawn PatKind.Path head row b e = target_drawn (path_kind row.a) row.b e
    node_drawn PatKind.Lit head row b e = drawn image row.a v small e
    node_drawn PatKind.Bind head row b e = maybe_drawn row.b b
    node_drawn PatKind.TupleStruct head row b e = all_drawn (listed image 1 row.a row.b) b
    node_drawn PatKind.Ref head row b e = here row.a (ltb-true row.a p (and_left (ltb row.a p) true b))
    node_drawn PatKind.Expr head row b e = tt
    node_drawn PatKind.Box head row b e = tt
    node_drawn PatKind.Deref head row b e = tt
    node_drawn PatKind.Unknown head row b e = tt

  -- a tree so many levels deep
  levels_drawn : (levels p : ℕ) → p < pattern_count image → OfImage image (tree_of levels image p)
  unfolding tree_of node OfImage valid subpatterns_below pattern_holds
  levels_drawn zero p h = tt
  levels_drawn (suc levels) p h =
      let row = pat_at image p in
      let named = names_type image row.ty in
      let few = leb row.derefs 16 in
      let shape = pattern_shape_holds (pat_kind row.kind) image row in
      node_drawn (tree_of levels image) p (λ q lt. levels_drawn levels q (lt_trans lt h)) (pat_kind row.kind) _ row
      (below_at (subpatterns_below image) (pattern_count image) p (all_true_at (rules image) 8 v) h) (and_right (named && few) shape (pattern_holds_lem image p v h))

  -- the tree of a pattern
  pub tree_drawn : (p : ℕ) → p < pattern_count image → OfImage image (tree image p)
  unfolding tree
  tree_drawn p h = levels_drawn (suc p) p h
