-- Values: finite trees. A value fits when it is one of a type. Assumes nothing: these are definitions.
use Rattle.std.specs.Prelude.{ℕ, ◌-◌, Bool, true, false, ◌&&◌, List, [], ◌∷◌, eqb, ltb, ℤ, length, get_or, take, drop}
use Rattle.std.proofs.Math.Option.{Option, some}
use Rattle.image.specs.declared.kinds.AdtKind.{AdtKind}
use Rattle.image.specs.Lists.{member}
use Rattle.image.specs.Operands.{is_scalar_value}
use Rattle.image.specs.Integers.{in_range}
use Rattle.image.specs.Types.{Shape, ty_of, variant_of}
use Rattle.place.specs.declared.elems.ProjectionElem.{ProjectionElem}
use Rattle.cases_spec.specs.Cases.{if_there, kind_number, if_scalar, tuple_fields, by_adt_kind, if_adt, referent, if_array, if_slice}

mutual
  pub data Value : Type 0 where
    Int : ℤ → Value
    Bool' : Bool → Value
    -- a Unicode scalar value
    Char : ℕ → Value
    -- its bytes
    Str : List ℕ → Value
    Tuple : Values → Value
    -- a variant of a struct or an enum, by its number in the table, and its fields
    Adt : ℕ → Values → Value
    -- what it refers to
    Reference : Value → Value
    Array : Values → Value
    Slice : Values → Value

  -- values in a row
  pub data Values : Type 0 where
    no_more : Values
    more : Value → Values → Values

-- the values that tests compare: integers, bools, chars and references to a str
pub data Comparable : Value → Type 0 where
  int : (z : ℤ) → Comparable (Int z)
  bool' : (b : Bool) → Comparable (Bool' b)
  char' : (c : ℕ) → Comparable (Char c)
  string : (bytes : List ℕ) → Comparable (Reference (Str bytes))

unfoldable pub items : Values → List Value
items no_more = []
items (more v vs) = v ∷ items vs

unfoldable pub values : List Value → Values
values [] = no_more
values (v ∷ vs) = more v (values vs)

-- what is read where there is nothing to read: no fitting value has such a place
abbrev pub unit_value : Value
unit_value = Tuple no_more

-- what is made of a str by its bytes, of a tuple by its fields, of a variant by its number and its fields, of a reference by what it refers to, and of an array
-- and of a slice by their elements; or of every other value
abbrev pub by_parts : {A : Type 0} → Value → (List ℕ → A) → (Values → A) → (ℕ → Values → A) → (Value → A) → (Values → A) → (Values → A) → A → A
by_parts (Int z) ofStr ofTuple ofAdt ofReference ofArray of_slice other = other
by_parts (Bool' b) ofStr ofTuple ofAdt ofReference ofArray of_slice other = other
by_parts (Char c) ofStr ofTuple ofAdt ofReference ofArray of_slice other = other
by_parts (Str bytes) ofStr ofTuple ofAdt ofReference ofArray of_slice other = ofStr bytes
by_parts (Tuple vs) ofStr ofTuple ofAdt ofReference ofArray of_slice other = ofTuple vs
by_parts (Adt v vs) ofStr ofTuple ofAdt ofReference ofArray of_slice other = ofAdt v vs
by_parts (Reference v) ofStr ofTuple ofAdt ofReference ofArray of_slice other = ofReference v
by_parts (Array vs) ofStr ofTuple ofAdt ofReference ofArray of_slice other = ofArray vs
by_parts (Slice vs) ofStr ofTuple ofAdt ofReference ofArray of_slice other = of_slice vs

-- what is made of a variant by its number, or of every other value
abbrev pub if_variant : {A : Type 0} → Value → (ℕ → A) → A → A
if_variant v made other = by_parts v (λ bytes. other) (λ vs. other) (λ n vs. made n) (λ w. other) (λ vs. other) (λ vs. other) other

-- what a reference refers to
unfoldable pub derefed : Value → Value
derefed v = by_parts v (λ bytes. unit_value) (λ vs. unit_value) (λ n vs. unit_value) (λ w. w) (λ vs. unit_value) (λ vs. unit_value) unit_value

-- the fields of a tuple or a variant, or the elements of an array or a slice
unfoldable pub parts_of : Value → List Value
parts_of v = by_parts v (λ bytes. []) (λ vs. items vs) (λ n vs. items vs) (λ w. []) (λ vs. items vs) (λ vs. items vs) []

-- what is left without so many in front and so many at the end
unfoldable pub middle : ℕ → ℕ → List Value → List Value
middle front end vs = take (length vs - front - end) (drop front vs)

-- a part of an array or a slice
unfoldable pub subslice : ℕ → ℕ → Value → Value
subslice front end v =
    let part : Values → Values = λ vs. values (middle front end (items vs)) in
    by_parts v (λ bytes. unit_value) (λ vs. unit_value) (λ n vs. unit_value) (λ w. unit_value) (λ vs. Array (part vs)) (λ vs. Slice (part vs)) unit_value

-- what lies one element on
unfoldable pub part_at : ProjectionElem → Value → Value
part_at ProjectionElem.Deref v = derefed v
part_at (ProjectionElem.Field i) v = get_or (parts_of v) i unit_value
part_at (ProjectionElem.Index i) v = get_or (parts_of v) i unit_value
part_at (ProjectionElem.IndexFromEnd i) v = get_or (parts_of v) (length (parts_of v) - 1 - i) unit_value
part_at (ProjectionElem.Subslice front end) v = subslice front end v
part_at (ProjectionElem.Downcast w) v = v
part_at ProjectionElem.Unknown v = unit_value

-- what lies at the end of a projection
unfoldable pub place_in : List ProjectionElem → Value → Value
place_in [] v = v
place_in (elem ∷ elems) v = place_in elems (part_at elem v)

-- "every slice and str in it shorter than 2^64"
abbrev pub shorter : ℕ → Bool
shorter n = ltb n 18446744073709551616

-- "a union has no value"
abbrev pub has_values : AdtKind → Bool
has_values kind = by_adt_kind kind true true false false

unfoldable pub int_fits : Shape → ℤ → Bool
int_fits shape z = if_scalar shape (λ size signed. in_range size signed z) false false false

-- a struct or an enum that has the variant: not refused as 4, nor as 6 for want of a variant
unfoldable pub has_variant : Shape → Option ℕ → Bool
has_variant shape v = if_adt shape (λ kind variants. if_there v (λ w. has_values kind && member w variants) false) false

-- document 01: "A value fits when it is a finite tree of the place's type .., every slice and str in it shorter than 2^64; a union has no value."
module _ (image : List ℕ) where
  unfoldable mutual
    -- the value is one of the type t
    pub value_fits : Value → ℕ → Bool
    value_fits (Int z) t = int_fits (ty_of image t).shape z
    value_fits (Bool' b) t = eqb (kind_number (ty_of image t).shape) 2
    value_fits (Char c) t = eqb (kind_number (ty_of image t).shape) 3 && is_scalar_value c
    value_fits (Str bytes) t = eqb (kind_number (ty_of image t).shape) 4 && shorter (length bytes)
    value_fits (Tuple vs) t = eqb (kind_number (ty_of image t).shape) 5 && fields_fit vs (tuple_fields (ty_of image t).shape)
    value_fits (Adt v vs) t = has_variant (ty_of image t).shape (some v) && fields_fit vs (variant_of image v).fields
    value_fits (Reference v) t = if_there (referent (ty_of image t).shape) (λ u. value_fits v u) false
    value_fits (Array vs) t = if_array (ty_of image t).shape (λ u n. eqb (length (items vs)) n && elements_fit vs u) false
    value_fits (Slice vs) t = if_slice (ty_of image t).shape (λ u. shorter (length (items vs)) && elements_fit vs u) false

    -- as many values as types, each of its own
    pub fields_fit : Values → List ℕ → Bool
    fields_fit no_more [] = true
    fields_fit no_more (t ∷ ts) = false
    fields_fit (more v vs) [] = false
    fields_fit (more v vs) (t ∷ ts) = value_fits v t && fields_fit vs ts

    -- values all of one type
    pub elements_fit : Values → ℕ → Bool
    elements_fit no_more t = true
    elements_fit (more v vs) t = value_fits v t && elements_fit vs t
