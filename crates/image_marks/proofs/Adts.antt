-- What a type that holds tells of its variants, the walk over the types, and each way through the functions that make it. Assumes nothing.
use Prim.Native.Nat.{ℕ, zero, suc, ◌+◌, ◌-◌, ◌≤◌, ◌<◌}
use mathlib.Core.Path.{◌≡◌, refl, ap, ◌∙◌}
use mathlib.Core.Bool.{Bool, true, false, ◌&&◌}
use mathlib.Core.List.{List, [], ◌∷◌}
use native.Mathlib.Omega.{arith}
use borrow.Author.Tests.{lt-ltb}
use types.Run.{OneOf, miss}
use Rattle.image.specs.declared.kinds.TypeKind.{TypeKind}
use Rattle.image.specs.declared.rows.TypeRow.{TypeRow}
use Rattle.image.specs.Tables.{type_count, variant_count}
use Rattle.image.specs.Kinds.{type_kind}
use Rattle.image.specs.Rows.{type_at}
use Rattle.image.specs.Lists.{all_below, all_in, up_from, distinct, gather}
use Rattle.image.specs.Rules.{type_shape_holds, type_holds, variants_by, variants_of, adts_share_no_variant}
use Rattle.image.proofs.Bools.{and_true, below_at}
use Rattle.image.proofs.Known.{type_shape, adt_variants_lem}
use Rattle.marks.specs.Marks.{Taken}
use Rattle.marks.proofs.Takes.{taken_none}
use Rattle.image_marks.proofs.Fresh.{all_under, zeros}
use Rattle.image_marks.proofs.Walk.{walk, walk_more, walk_refused, walk_end, walk_from_zeros}

-- a range that ends at a limit or before lies below it
up_from_under : (limit from count : ℕ) → from + count ≤ limit → all_under limit (up_from from count) ≡ true
unfolding all_in up_from
up_from_under limit from zero h = refl
up_from_under limit from (suc n) h = and_true _ _ (lt-ltb from limit (omega arith)) (up_from_under limit (from + 1) n (omega arith))

-- the variants of a type that holds lie in the table
variants_under : (kind : TypeKind) (image : List ℕ) (row : TypeRow) → type_shape_holds kind image row ≡ true → all_under (variant_count image) (variants_by kind row) ≡ true
unfolding variants_by all_in
variants_under TypeKind.Integer image row e = refl
variants_under TypeKind.Bool image row e = refl
variants_under TypeKind.Char image row e = refl
variants_under TypeKind.Str image row e = refl
variants_under TypeKind.Tuple image row e = refl
variants_under TypeKind.Adt image row e = up_from_under (variant_count image) row.a row.b (adt_variants_lem image row refl e).1
variants_under TypeKind.Reference image row e = refl
variants_under TypeKind.Array image row e = refl
variants_under TypeKind.Slice image row e = refl
variants_under TypeKind.Unknown image row e = refl

-- a test that holds of each number below n
all_below_lem : (f : ℕ → Bool) (n : ℕ) → ((k : ℕ) → k < n → f k ≡ true) → all_below f n ≡ true
unfolding all_below
all_below_lem f zero h = refl
all_below_lem f (suc n) h = and_true _ _ (all_below_lem f n (λ k lt. h k (omega arith))) (h n (omega arith))

-- the walk over the types, with one bound for all variants
abbrev pub variants_from : List ℕ → ℕ → ℕ → List ℕ → Bool
variants_from image t n marks = walk (λ t. variant_count image) (variants_of image) t n marks

-- The theorem: where all types hold, the walk over them tells whether ADTs share no variant.
adts_all : (image : List ℕ) → variant_count image ≤ 512 → all_below (type_holds image) (type_count image) ≡ true →
    variants_from image 0 (type_count image) (zeros 512) ≡ adts_share_no_variant image
unfolding adts_share_no_variant
adts_all image h e =
    walk_from_zeros (λ t. variant_count image) (variants_of image) 512 (type_count image) (λ k lt. h)
    ∙ ap (λ (b : Bool). b && distinct (gather (variants_of image) 0 (type_count image))) all_lie
  where
    all_lie : all_below (λ t. all_under (variant_count image) (variants_of image t)) (type_count image) ≡ true
    all_lie = all_below_lem _ (type_count image) (λ t lt. variants_under (type_kind (type_at image t).kind) image (type_at image t) (type_shape image t (below_at (type_holds image) (type_count image) t e lt)))

-- In `take_adts`' loop: the walk that is left from t on tells the answer.
abbrev pub AdtsLeft : List ℕ → ℕ → List ℕ → Type 0
AdtsLeft image t marks = variants_from image t (type_count image - t) marks ≡ adts_share_no_variant image

-- where the loop begins
pub adts_start : (image : List ℕ) {marks : List ℕ} → marks ≡ zeros 512 → variant_count image ≤ 512 → all_below (type_holds image) (type_count image) ≡ true → AdtsLeft image 0 marks
adts_start image e h holds = let all : type_count image - 0 ≡ type_count image = omega arith in rw (all, e) (adts_all image h holds)

module _ (image : List ℕ) (t : ℕ) (marks : List ℕ) (left : AdtsLeft image t marks) where
  -- a turn that takes the variants of t
  pub adts_more : {next : List ℕ} {r : Bool} → t < type_count image → r ≡ true → Taken (variant_count image) marks next (variants_of image t) r → AdtsLeft image (t + 1) next
  adts_more {next} h e taken = walk_more (λ t. variant_count image) (variants_of image) t (type_count image) marks next h (rw e at taken) ∙ left

  -- a turn that refuses them
  pub adts_refused : {next : List ℕ} {r : Bool} → t < type_count image → r ≡ false → Taken (variant_count image) marks next (variants_of image t) r → false ≡ adts_share_no_variant image
  adts_refused {next} h e taken = walk_refused (λ t. variant_count image) (variants_of image) t (type_count image) marks next h (rw e at taken) ∙ left

  -- the loop's end
  pub adts_end : type_count image ≤ t → true ≡ adts_share_no_variant image
  adts_end h = walk_end (λ t. variant_count image) (variants_of image) t (type_count image) marks h ∙ left

-- a type that is no ADT has no variants
no_variants : (kind : TypeKind) (row : TypeRow) → (kind ≡ TypeKind.Adt → ⊥) → variants_by kind row ≡ []
unfolding variants_by
no_variants TypeKind.Integer row h = refl
no_variants TypeKind.Bool row h = refl
no_variants TypeKind.Char row h = refl
no_variants TypeKind.Str row h = refl
no_variants TypeKind.Tuple row h = refl
no_variants TypeKind.Adt row h = absurd (h refl)
no_variants TypeKind.Reference row h = refl
no_variants TypeKind.Array row h = refl
no_variants TypeKind.Slice row h = refl
no_variants TypeKind.Unknown row h = refl

-- an ADT, number 5 of the enum of kinds, is none of the others
pub not_another_kind : OneOf (0 ∷ 1 ∷ 2 ∷ 3 ∷ 4 ∷ 6 ∷ 7 ∷ 8 ∷ 9 ∷ []) 5 → ⊥
not_another_kind = miss (0 ∷ 1 ∷ 2 ∷ 3 ∷ 4 ∷ 6 ∷ 7 ∷ 8 ∷ 9 ∷ []) 5 tt

-- In `take_variants`: the row and the kind are those of t.
module _ (image : List ℕ) (t : ℕ) {row : TypeRow} {kind : TypeKind} (row_is : row ≡ type_at image t) (kind_is : kind ≡ type_kind row.kind) where
  -- an ADT's range lies in the table
  pub adt_range : kind ≡ TypeKind.Adt → type_holds image t ≡ true → row.a + row.b ≤ variant_count image
  adt_range e h = (adt_variants_lem image row e shape).1
    where
      shape : type_shape_holds kind image row ≡ true
      shape = rw (kind_is, row_is) (type_shape image t h)

  -- the variants of an ADT are its range
  pub adt_taken_lem : {bound : ℕ} {marks after : List ℕ} {r : Bool} → kind ≡ TypeKind.Adt → bound ≡ variant_count image →
      Taken bound marks after (up_from row.a row.b) r → Taken (variant_count image) marks after (variants_of image t) r
  unfolding variants_by
  adt_taken_lem {bound} {marks} {after} {r} e same taken = rw (kind_is, row_is) at whole
    where
      whole : Taken (variant_count image) marks after (variants_by kind row) r
      whole = rw e (rw same at taken)

  -- nothing is taken of a type that is no ADT
  pub other_taken : (bound : ℕ) (marks : List ℕ) → (kind ≡ TypeKind.Adt → ⊥) → Taken bound marks marks (variants_of image t) true
  other_taken bound marks not-adt = rw (kind_is, row_is) at whole
    where
      whole : Taken bound marks marks (variants_by kind row) true
      whole = rw (no_variants kind row not-adt) (taken_none bound marks)
