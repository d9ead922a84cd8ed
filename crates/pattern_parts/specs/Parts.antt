-- What a walk does besides testing, cut where the code is cut. Assumes nothing: these are definitions.
use Rattle.std.specs.Prelude.{Some, None, Ok, Err}
use Rattle.std.specs.Prelude.{ℕ, Bool, true, false, cond, List, ltb, length}
use Rattle.std.proofs.Math.Option.{Option, none, some}
use Rattle.image.specs.declared.kinds.AdtKind.{AdtKind}
use Rattle.image.specs.declared.kinds.BindingMode.{BindingMode}
use Rattle.image.specs.declared.kinds.PatKind.{PatKind}
use Rattle.image.specs.Lists.{all_in, member}
use Rattle.image.specs.Rules.{listed}
use Rattle.image.specs.Types.{Shape}
use Rattle.cases_spec.specs.Cases.{if_tuple, if_adt, if_reference}
use Rattle.refusals.specs.declared.MirLowerError.{MirLowerError}
use Rattle.refusals.specs.Refusals.{Result, done, stopped}
use Rattle.place.specs.declared.Place.{Place}
use Rattle.place.specs.declared.elems.ProjectionElem.{ProjectionElem}
use Rattle.place.specs.declared.place_ty.PlaceTy.{PlaceTy}
use Rattle.mir.specs.declared.BasicBlockId.{BasicBlockId}
use Rattle.lower_spec.specs.Results.{OptBlock}
use Rattle.pattern_matching.specs.Walking.{Ctx, Out, Walk, step, project}
use Rattle.pattern_matching.specs.Tests.{pattern_match_binding}
use Rattle.pattern_parts.specs.Results.{NeededTy, TupleAt, ReferenceAt, AdtAt}
use Rattle.pattern_parts.specs.declared.adts.VariantOf.{VariantOf}

-- the type of the table at a place
unfoldable pub needed_ty : PlaceTy → NeededTy
needed_ty (PlaceTy.Ty t) = Ok (Some t)
needed_ty (PlaceTy.Variant e v) = Ok (Some e)
needed_ty (PlaceTy.Part t) = Ok None
needed_ty PlaceTy.Bool = Ok None
needed_ty PlaceTy.Usize = Ok None
needed_ty PlaceTy.I128 = Ok None
needed_ty PlaceTy.Inapplicable = Err MirLowerError.PlaceType

-- how many fields the tuple at a place has
unfoldable pub tuple_at : Option Shape → Result ℕ
tuple_at none = stopped MirLowerError.PlaceType
tuple_at (some shape) = if_tuple shape (λ fields. done (length fields)) (stopped (MirLowerError.TypeError 1))

abbrev pub tuple_result : TupleAt → Result ℕ
tuple_result (Ok n) = done n
tuple_result (Err e) = stopped e

-- whether a reference is at a place
unfoldable pub reference_at : Option Shape → Result Bool
reference_at none = stopped MirLowerError.PlaceType
reference_at (some shape) = if_reference shape (λ t. done true) (stopped (MirLowerError.TypeError 3))

abbrev pub reference_result : ReferenceAt → Result Bool
reference_result (Ok there) = done true
reference_result (Err e) = stopped e

-- a struct or an enum; a union is refused
unfoldable pub adt_taken : AdtKind → Result AdtKind
adt_taken AdtKind.Struct = done AdtKind.Struct
adt_taken AdtKind.Enum = done AdtKind.Enum
adt_taken AdtKind.Union = stopped (MirLowerError.TypeError 6)
adt_taken AdtKind.Unknown = stopped (MirLowerError.TypeError 6)

-- one that has the variant v
unfoldable pub adt_has : AdtKind → List ℕ → ℕ → Result AdtKind
adt_has kind variants v = cond (member v variants) (adt_taken kind) (stopped (MirLowerError.TypeError 5))

-- the ADT at a place
unfoldable pub adt_at : Option Shape → ℕ → Result AdtKind
adt_at none v = stopped MirLowerError.PlaceType
adt_at (some shape) v = if_adt shape (λ kind variants. adt_has kind variants v) (stopped (MirLowerError.TypeError 4))

abbrev pub adt_result : AdtAt → Result AdtKind
adt_result (Ok VariantOf.Struct) = done AdtKind.Struct
adt_result (Ok VariantOf.Enum) = done AdtKind.Enum
adt_result (Err e) = stopped e

-- each field of a Record is below the count of fields
unfoldable pub fields_there : List ℕ → ℕ → ℕ → ℕ → Bool
fields_there image from count fields = all_in (λ w. ltb w fields) (listed image 2 from count)

-- a Bind
unfoldable pub is_bind : PatKind → Bool
is_bind PatKind.Missing = false
is_bind PatKind.Rest = false
is_bind PatKind.NotNull = false
is_bind PatKind.Wild = false
is_bind PatKind.Tuple = false
is_bind PatKind.Or = false
is_bind PatKind.Record = false
is_bind PatKind.Range = false
is_bind PatKind.Slice = false
is_bind PatKind.Path = false
is_bind PatKind.Lit = false
is_bind PatKind.Bind = true
is_bind PatKind.TupleStruct = false
is_bind PatKind.Ref = false
is_bind PatKind.Expr = false
is_bind PatKind.Box = false
is_bind PatKind.Deref = false
is_bind PatKind.Unknown = false

-- a rest that binds, beyond Check
unfoldable pub rest_filled : List ℕ → ℕ → ℕ → ℕ → BindingMode → ℕ → ℕ → Ctx → BasicBlockId → OptBlock → Place → Walk Out
rest_filled bindings p q b how front end ctx current els place =
    step p (project place (ProjectionElem.Subslice front end)) (λ part. pattern_match_binding bindings p q b how ctx current els part)
