-- What the type at a place decides, as the code is cut: a definition by the type is a step by what is looked at. Assumes nothing.
use Prim.Native.Nat.{ℕ, ◌≤◌}
use mathlib.Core.Path.{◌≡◌, refl, sym}
use mathlib.Core.Bool.{Bool, true, false, cond, ◌&&◌}
use mathlib.Core.Option.{Option, none, some}
use mathlib.Core.List.{List, [], ◌∷◌, map}
use native.Mathlib.Omega.{arith}
use borrow.Author.Tests.{le-ltb, eqb-true}
use lib.Dec.{eqb, ltb}
use lib.ListN.{length}
use Rattle.image.specs.declared.kinds.AdtKind.{AdtKind}
use Rattle.image.specs.Lists.{all_in, member}
use Rattle.image.specs.Rows.{variant_at}
use Rattle.image.specs.Rules.{absent}
use Rattle.image.specs.Tree.{word?}
use Rattle.image.specs.Types.{Shape, integer, bool, char, str, tuple, adt, reference, array, slice, unknown, variant_of}
use Rattle.refusals.specs.declared.MirLowerError.{MirLowerError}
use Rattle.refusals.specs.Refusals.{Result}
use Rattle.place.specs.declared.Place.{Place}
use Rattle.place.specs.declared.elems.ProjectionElem.{ProjectionElem}
use Rattle.place.proofs.Fields.{length_listed}
use Rattle.mir.specs.declared.BasicBlockId.{BasicBlockId}
use Rattle.lower_spec.specs.Results.{OptBlock}
use Rattle.pattern_matching.specs.declared.MatchingMode.{MatchingMode}
use Rattle.pattern_matching.specs.Walking.{Ctx, refused, Lowering, step, project}
use Rattle.pattern_matching.specs.Variants.{needed, pattern_match_tuple_like, ellipsis_at, tuple_on, ref_on, AdtPatternShape, resolved, variant_on, adt_on}
use Rattle.pattern_parts.specs.Parts.{tuple_at, reference_at, adt_taken, adt_has, adt_at}

module _ (p : ℕ) (mode : MatchingMode) (ctx : Ctx) (current : BasicBlockId) (els : OptBlock) (place : Place) where
  -- a Tuple pattern, by how many fields the tuple has
  pub tuple_needed : (shape : Option Shape) (args : List Lowering) (ellipsis : Option ℕ) →
      needed p shape (λ s. tuple_on s p args ellipsis mode ctx current els place) ≡ step p (tuple_at shape) (λ n. pattern_match_tuple_like p args (ellipsis_at ellipsis args) n mode ctx current els place)
  unfolding tuple_on tuple_at
  tuple_needed none args ellipsis = refl
  tuple_needed (some (integer size signed)) args ellipsis = refl
  tuple_needed (some bool) args ellipsis = refl
  tuple_needed (some char) args ellipsis = refl
  tuple_needed (some str) args ellipsis = refl
  tuple_needed (some (tuple fields)) args ellipsis = refl
  tuple_needed (some (adt kind variants)) args ellipsis = refl
  tuple_needed (some (reference t)) args ellipsis = refl
  tuple_needed (some (array t n)) args ellipsis = refl
  tuple_needed (some (slice t)) args ellipsis = refl
  tuple_needed (some unknown) args ellipsis = refl

  -- a Ref pattern, by whether there is a reference
  pub reference_needed : (shape : Option Shape) (sub : Lowering) →
      needed p shape (λ s. ref_on s p sub mode ctx current els place) ≡ step p (reference_at shape) (λ there. step p (project place ProjectionElem.Deref) (λ onward. sub mode ctx current els onward))
  unfolding ref_on reference_at
  reference_needed none sub = refl
  reference_needed (some (integer size signed)) sub = refl
  reference_needed (some bool) sub = refl
  reference_needed (some char) sub = refl
  reference_needed (some str) sub = refl
  reference_needed (some (tuple fields)) sub = refl
  reference_needed (some (adt kind variants)) sub = refl
  reference_needed (some (reference t)) sub = refl
  reference_needed (some (array t n)) sub = refl
  reference_needed (some (slice t)) sub = refl
  reference_needed (some unknown) sub = refl

  module _ (image : List ℕ) (v : ℕ) (args : AdtPatternShape) where
    -- a struct or an enum is taken, and a union refused
    adt_taken_lem : (kind : AdtKind) → variant_on kind image p v args mode ctx current els place ≡ step p (adt_taken kind) (λ k. variant_on k image p v args mode ctx current els place)
    unfolding variant_on adt_taken
    adt_taken_lem AdtKind.Struct = refl
    adt_taken_lem AdtKind.Enum = refl
    adt_taken_lem AdtKind.Union = refl
    adt_taken_lem AdtKind.Unknown = refl

    -- one that has the variant
    adt_has_lem : (kind : AdtKind) (variants : List ℕ) → adt_on (adt kind variants) image p v args mode ctx current els place ≡ step p (adt_has kind variants v) (λ k. variant_on k image p v args mode ctx current els place)
    unfolding adt_on adt_has
    adt_has_lem kind variants = go (member v variants)
      where
        go : (t : Bool) →
            cond t (variant_on kind image p v args mode ctx current els place) (refused (MirLowerError.TypeError 5) p)
            ≡ step p (cond t (adt_taken kind) (Result.stopped (MirLowerError.TypeError 5))) (λ k. variant_on k image p v args mode ctx current els place)
        go true = adt_taken_lem kind
        go false = refl

    -- a pattern that names a variant, by the ADT
    pub adt_needed : (shape : Option Shape) →
        needed p shape (λ s. adt_on s image p v args mode ctx current els place) ≡ step p (adt_at shape v) (λ kind. variant_on kind image p v args mode ctx current els place)
    unfolding adt_on adt_at
    adt_needed none = refl
    adt_needed (some (integer size signed)) = refl
    adt_needed (some bool) = refl
    adt_needed (some char) = refl
    adt_needed (some str) = refl
    adt_needed (some (tuple fields)) = refl
    adt_needed (some (adt kind variants)) = adt_has_lem kind variants
    adt_needed (some (reference t)) = refl
    adt_needed (some (array t n)) = refl
    adt_needed (some (slice t)) = refl
    adt_needed (some unknown) = refl

-- the fields of a Record as elements
abbrev pub field_elems : List ℕ → List ProjectionElem
field_elems ws = map (λ w. ProjectionElem.Field w) ws

-- the numbers of a Record's fields are resolved where each is below the count
pub resolved_there : (n : ℕ) (ws : List ℕ) → n ≤ 65535 → resolved n (map word? ws) ≡ cond (all_in (λ w. ltb w n) ws) (some (field_elems ws)) none
unfolding resolved all_in word?
resolved_there n [] h = refl
resolved_there n (w ∷ ws) h = go (eqb w absent) refl (all_in (λ x. ltb x n) ws) (resolved_there n ws h)
  where
    present : (t : Bool) → ltb w n ≡ t → (u : Bool) → resolved n (map word? ws) ≡ cond u (some (field_elems ws)) none →
        resolved n (some w ∷ map word? ws) ≡ cond (t && u) (some (field_elems (w ∷ ws))) none
    present true r true later = rw (r, later)
    present true r false later = rw (r, later)
    present false r u later = rw r

    go : (t : Bool) → eqb w absent ≡ t → (u : Bool) → resolved n (map word? ws) ≡ cond u (some (field_elems ws)) none →
        resolved n (cond t none (some w) ∷ map word? ws) ≡ cond (ltb w n && u) (some (field_elems (w ∷ ws))) none
    go true q u later = rw (le-ltb w n (omega (arith, eqb-true w absent q))) refl
    go false q u later = present (ltb w n) refl u later

-- a variant's row counts its fields
pub variant_count_lem : (image : List ℕ) (v : ℕ) → (variant_at image v).count ≡ length (variant_of image v).fields
unfolding variant_of
variant_count_lem image v = sym (length_listed image 1 (variant_at image v).fields (variant_at image v).count)
