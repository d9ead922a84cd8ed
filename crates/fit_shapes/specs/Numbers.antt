-- Types by their numbers, as the code has them: at a place, and in the list. Assumes nothing: these are definitions.
use Rattle.std.specs.Prelude.{Some, None}
use Rattle.std.specs.Prelude.{ℕ, ◌+◌, ◌≤◌, ◌≡◌, Bool, true, false, List}
use Rattle.std.proofs.Math.Option.{Option, none, some}
use Rattle.image.specs.Tables.{list_count}
use Rattle.image.specs.Lists.{all_in, member}
use Rattle.image.specs.Rules.{names_type, listed}
use Rattle.meaning.specs.Fit.{field_numbers}
use Rattle.fit_shapes.specs.Results.{TypeNumber}
use Rattle.fit_shapes.specs.declared.fields.Fields.{Fields}

-- a type's number, if there is one
abbrev pub type_number : TypeNumber → Option ℕ
type_number None = none
type_number (Some t) = some t

-- it names a type, if there is one
abbrev pub names_type? : List ℕ → Option ℕ → Bool
names_type? image none = true
names_type? image (some t) = names_type image t

-- a number of the code that is the definition's, and names a type
pub record Numbers (image : List ℕ) (r : TypeNumber) (t : Option ℕ) : Type 0 where
  pub is : type_number r ≡ t
  pub named : names_type? image t ≡ true

-- a range of the list that names types
pub record TypesAt (image : List ℕ) (from count : ℕ) : Type 0 where
  pub within : from + count ≤ list_count image
  pub named : all_in (names_type image) (listed image 1 from count) ≡ true

-- the range of the list that has the types of these fields
pub record FieldsOf (image : List ℕ) (r : Fields) (ts : List ℕ) : Type 0 where
  pub are : listed image 1 r.from r.count ≡ ts
  pub types : TypesAt image r.from r.count

-- a Record's field stands again among those behind it
abbrev pub stands_again : Option ℕ → List (Option ℕ) → Bool
stands_again none fields = false
stands_again (some i) fields = member i (field_numbers fields)
