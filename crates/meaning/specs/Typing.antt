-- The types of the parts of a value of a type, by their numbers. Assumes nothing: these are definitions.
use Rattle.std.specs.Prelude.{ℕ, cond, List, [], ltb, length, get_or}
use Rattle.std.proofs.Math.Option.{Option, none, some}
use Rattle.image.specs.Lists.{member}
use Rattle.image.specs.Types.{Shape, variant_of}
use Rattle.cases_spec.specs.Cases.{if_adt, if_sequence}

-- a type by its number, where there is one
abbrev pub TypeNumber : Type 0
TypeNumber = Option ℕ

-- the variants of an ADT
unfoldable pub adt_variants : Shape → List ℕ
adt_variants shape = if_adt shape (λ kind variants. variants) []

-- the types of the fields of a variant that the ADT has
unfoldable pub variant_fields : List ℕ → Shape → Option ℕ → List ℕ
variant_fields image shape none = []
variant_fields image shape (some v) = cond (member v (adt_variants shape)) (variant_of image v).fields []

-- the type of the field i
unfoldable pub field_type : List ℕ → Option ℕ → TypeNumber
field_type ts none = none
field_type ts (some i) = cond (ltb i (length ts)) (some (get_or ts i 0)) none

-- the type of the elements of an array or a slice
unfoldable pub element_type : Shape → TypeNumber
element_type shape = if_sequence shape (λ t n. some t) (λ t. some t) none
