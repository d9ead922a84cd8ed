-- Patterns that name a variant add what is counted of them. Assumes nothing.
use mathlib.Core.Path.{◌≡◌, refl, ap, subst}
use mathlib.Core.Bool.{Bool, true, false, cond, ◌||◌}
use mathlib.Core.Option.{Option, none, some}
use mathlib.Core.List.{List, [], ◌∷◌, ◌++◌}
use Prim.Native.Nat.{ℕ}
use native.Mathlib.Omega.{arith}
use lib.ListN.{length}
use Rattle.image.specs.declared.kinds.AdtKind.{AdtKind}
use Rattle.image.specs.Lists.{member}
use Rattle.image.specs.Types.{Shape, integer, bool, char, str, tuple, adt, reference, array, slice, unknown, variant_of}
use Rattle.image.specs.Tree.{Head}
use Rattle.refusals.specs.declared.MirLowerError.{MirLowerError}
use Rattle.place.specs.declared.Place.{Place}
use Rattle.place.specs.declared.elems.ProjectionElem.{ProjectionElem}
use Rattle.place.specs.declared.place_ty.PlaceTy.{PlaceTy}
use Rattle.place.specs.PlaceTypes.{projection_ty, multi_projection_ty}
use Rattle.mir.specs.declared.BasicBlockId.{BasicBlockId}
use Rattle.lower_spec.specs.Results.{OptBlock}
use Rattle.pattern_matching.specs.Walking.{Ctx, Out, Walk, refused, Lowering, step, out, project, visited, in_check}
use Rattle.pattern_matching.specs.Variants.{AdtPatternShape, needed, variant_fields, discriminant_test, variant_on, adt_on}
use Rattle.counting.specs.Reaching.{Argument, is_enum, downcast, in_a_row, by_fields, some_argument, Reaching, Reached, naming, through_arguments}
use Rattle.counting.proofs.Holding.{Holds, holds, refuses, holds_next, holds_step, holds_as}
use Rattle.counting.proofs.Going.{built_none, went_built}
use Rattle.counting.proofs.Stepping.{steps_plain}
use Rattle.counting.proofs.Passing.{Pass, checks, binds, mode_of, Small, After, after_none, after_more, after_head, after_plain}
use Rattle.counting.proofs.Typed.{On, on_project, on_unvisited}
use Rattle.counting.proofs.Testing.{holds_discriminant}
use Rattle.counting.proofs.Arguments.{Each, on_after}
use Rattle.counting.proofs.Rows.{AfterArguments, holds_row, holds_fields}

-- the fields of a variant with n add what their patterns add
pub record Fielded (image : List ℕ) (shape : AdtPatternShape) (fs : ℕ → List (Argument (PlaceTy → Bool))) (rs : ℕ → List (Argument Reaching)) : Type 0 where
  pub goes : (p n : ℕ) (pass : Pass) (c : Ctx) (current : BasicBlockId) (els : OptBlock) (place : Place) (ty : PlaceTy) (k : ℕ) → On image c place ty →
      Holds (AfterArguments image pass c els ty k (fs n) (rs n)) (variant_fields shape p n (mode_of pass) c current els place)

-- arguments in a row
pub fielded_row : {image : List ℕ} {ls : List Lowering} {fs : List (PlaceTy → Bool)} {rs : List Reaching} (ellipsis : Option ℕ) → Each image ls fs rs →
    Fielded image (AdtPatternShape.Tuple ls ellipsis) (λ n. in_a_row ellipsis n fs) (λ n. in_a_row ellipsis n rs)
unfolding variant_fields
fielded_row {image = image} ellipsis e = record { goes = λ p n pass c current els place ty k o. holds_row image p n pass c current els place ty k ellipsis e o }

-- arguments by fields
pub fielded_record : {image : List ℕ} {ls : List Lowering} {fs : List (PlaceTy → Bool)} {rs : List Reaching} (fields : List (Option ℕ)) → Each image ls fs rs →
    Fielded image (AdtPatternShape.Record fields ls) (λ n. by_fields fields fs) (λ n. by_fields fields rs)
unfolding variant_fields
fielded_record fields e = record { goes = λ p n pass c current els place ty k o. holds_fields p n pass c current els place ty k fields e o }

-- no arguments
pub fielded_unit : (image : List ℕ) → Fielded image AdtPatternShape.Unit (λ n. []) (λ n. [])
unfolding variant_fields through_arguments some_argument
fielded_unit image = record { goes = λ p n pass c current els place ty k o. holds (After pass c els false k false []) _ (after_none pass c current els k) }

-- behind a Downcast
pub through_downcast : (image : List ℕ) (ty : PlaceTy) (k v : ℕ) (args : List (Argument Reaching)) →
    through_arguments image (projection_ty ty image (ProjectionElem.Downcast v)) k args ≡ through_arguments image ty k (downcast true v args)
unfolding through_arguments downcast multi_projection_ty
through_downcast image ty k v [] = refl
through_downcast image ty k v (arg ∷ args) =
    ap {B = List Reached} (λ l. arg.what (multi_projection_ty image (projection_ty ty image (ProjectionElem.Downcast v)) arg.elems) k false ++ l) (through_downcast image ty k v args)

-- what holds of one of them behind a Downcast
pub some_downcast : (image : List ℕ) (ty : PlaceTy) (v : ℕ) (args : List (Argument (PlaceTy → Bool))) →
    some_argument image (projection_ty ty image (ProjectionElem.Downcast v)) args ≡ some_argument image ty (downcast true v args)
unfolding some_argument downcast multi_projection_ty
some_downcast image ty v [] = refl
some_downcast image ty v (arg ∷ args) =
    ap {B = Bool} (λ b. arg.what (multi_projection_ty image (projection_ty ty image (ProjectionElem.Downcast v)) arg.elems) || b) (some_downcast image ty v args)

module _ {image : List ℕ} {shape : AdtPatternShape} {fs : ℕ → List (Argument (PlaceTy → Bool))} {rs : ℕ → List (Argument Reaching)} (fielded : Fielded image shape fs rs) (h : Head) (v : ℕ) (pass : Pass)
    (c : Ctx) (current : BasicBlockId) (els : OptBlock) (place : Place) (ty : PlaceTy) (k : ℕ) (f : Bool) (on : On image (visited c h.number) place ty) where
  -- how many fields the variant has
  abbrev count : ℕ
  count = length (variant_of image v).fields

  -- the patterns that are reached
  abbrev reached_by : Bool → List Reached
  reached_by enum = naming h k f enum ∷ through_arguments image ty k (downcast enum v (rs count))

  -- what is added for them
  abbrev pub Names : Bool → Out → Type 0
  Names enum r = After pass c els (enum || some_argument image ty (downcast enum v (fs count))) k f (reached_by enum) r

  -- on a struct nothing is tested
  named_struct : Holds (Names false) (variant_fields shape h.number count (mode_of pass) (visited c h.number) current els place)
  unfolding downcast
  named_struct =
      let visit = after_plain pass h k f c current els in
      holds_as (λ r a. after_more visit a) (fielded.goes h.number count pass (visited c h.number) current els place ty k on)

  -- the test of an enum
  enum_tested : Holds (After pass c els true k f (naming h k f true ∷ []))
      (in_check (mode_of pass) (discriminant_test image h.number v (visited c h.number) current els place) (out (visited c h.number) current els))
  enum_tested = by pass
    where
      small : Small (naming h k f true)
      small = record { tests = omega arith; test_statements = omega arith }

      by : (pass : Pass) → Holds (After pass c els true k f (naming h k f true ∷ []))
          (in_check (mode_of pass) (discriminant_test image h.number v (visited c h.number) current els place) (out (visited c h.number) current els))
      by checks = holds_as (λ r s. after_head checks (naming h k f true) small s) (holds_discriminant image h.number v (visited c h.number) current els place)
      by binds = holds (After binds c els true k f (naming h k f true ∷ [])) _ (after_head binds (naming h k f true) small (steps_plain current els (went_built (built_none _) refl)))

  -- an enum: the test, and then the fields behind a Downcast
  named_enum : Holds (Names true) (variant_on AdtKind.Enum image h.number v shape (mode_of pass) (visited c h.number) current els place)
  unfolding variant_on
  named_enum =
      let p = h.number in
      let ty' = projection_ty ty image (ProjectionElem.Downcast v) in
      holds_next {Q = Names true} (in_check (mode_of pass) (discriminant_test image p v (visited c p) current els place) (out (visited c p) current els)) behind enum_tested (λ r a.
      holds_step {Q = Names true} p (project place (ProjectionElem.Downcast v)) (fields r) (on_project (ProjectionElem.Downcast v) tt (kept r a)) (λ place' o'.
      holds_as (λ r' a'. join r r' a a')
      (fielded.goes p count pass r.ctx r.then r.else place' ty' k o')))
    where
      fields : Out → Place → Walk Out
      fields r place' = variant_fields shape h.number count (mode_of pass) r.ctx r.then r.else place'

      behind : Out → Walk Out
      behind r = step h.number (project place (ProjectionElem.Downcast v)) (fields r)

      kept : (r : Out) → After pass c els true k f (naming h k f true ∷ []) r → On image r.ctx place ty
      kept r a = on_after a (on_unvisited h.number on)

      join : (r r' : Out) → After pass c els true k f (naming h k f true ∷ []) r →
          AfterArguments image pass r.ctx r.else (projection_ty ty image (ProjectionElem.Downcast v)) k (fs count) (rs count) r' → Names true r'
      join r r' a a' =
          after_more a
          (subst (λ (l : List Reached). After pass r.ctx r.else (some_argument image ty (downcast true v (fs count))) k false l r') (through_downcast image ty k v (rs count))
          (subst (λ (x : Bool). After pass r.ctx r.else x k false (through_arguments image (projection_ty ty image (ProjectionElem.Downcast v)) k (rs count)) r') (some_downcast image ty v (fs count)) a'))

  -- an ADT by its kind
  named_kind : (kind : AdtKind) (variants : List ℕ) → Holds (Names (is_enum (some (adt kind variants)))) (variant_on kind image h.number v shape (mode_of pass) (visited c h.number) current els place)
  unfolding variant_on is_enum
  named_kind AdtKind.Struct variants = named_struct
  named_kind AdtKind.Enum variants = named_enum
  named_kind AdtKind.Union variants = refuses (Names false) (MirLowerError.TypeError 6) h.number
  named_kind AdtKind.Unknown variants = refuses (Names false) (MirLowerError.TypeError 6) h.number

  -- one that has the variant
  named_member : (kind : AdtKind) (variants : List ℕ) (has : Bool) → Holds (Names (is_enum (some (adt kind variants))))
      (cond has (variant_on kind image h.number v shape (mode_of pass) (visited c h.number) current els place) (refused (MirLowerError.TypeError 5) h.number))
  named_member kind variants true = named_kind kind variants
  named_member kind variants false = refuses (Names (is_enum (some (adt kind variants)))) (MirLowerError.TypeError 5) h.number

  -- a pattern that names a variant, by what the type of its place is
  pub holds_variant : (o : Option Shape) → Holds (Names (is_enum o)) (needed h.number o (λ s. adt_on s image h.number v shape (mode_of pass) (visited c h.number) current els place))
  unfolding adt_on
  holds_variant none = refuses (Names (is_enum none)) MirLowerError.PlaceType h.number
  holds_variant (some (integer size signed)) = refuses (Names (is_enum (some (integer size signed)))) (MirLowerError.TypeError 4) h.number
  holds_variant (some bool) = refuses (Names (is_enum (some bool))) (MirLowerError.TypeError 4) h.number
  holds_variant (some char) = refuses (Names (is_enum (some char))) (MirLowerError.TypeError 4) h.number
  holds_variant (some str) = refuses (Names (is_enum (some str))) (MirLowerError.TypeError 4) h.number
  holds_variant (some (tuple fields)) = refuses (Names (is_enum (some (tuple fields)))) (MirLowerError.TypeError 4) h.number
  holds_variant (some (adt kind variants)) = named_member kind variants (member v variants)
  holds_variant (some (reference t)) = refuses (Names (is_enum (some (reference t)))) (MirLowerError.TypeError 4) h.number
  holds_variant (some (array t n)) = refuses (Names (is_enum (some (array t n)))) (MirLowerError.TypeError 4) h.number
  holds_variant (some (slice t)) = refuses (Names (is_enum (some (slice t)))) (MirLowerError.TypeError 4) h.number
  holds_variant (some unknown) = refuses (Names (is_enum (some unknown))) (MirLowerError.TypeError 4) h.number
