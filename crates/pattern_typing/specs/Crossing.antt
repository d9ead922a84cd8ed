-- The types of a sheet as patterns meet them: references that are crossed with the default binding mode (patterns.ident.binding), and the
-- fields, elements and targets that a type has. Assumes nothing: these are definitions.
use Rattle.std.specs.Prelude.{ℕ, zero, suc, ◌+◌, Bool, not, cond, ◌&&◌, ◌||◌, List, eqb, leb, ltb}
use Rattle.image.specs.Rows.{type_at, variant_at}
use Rattle.image.specs.Types.{is_set}

-- a type's kind, by document 01's number
abbrev pub is_kind : List ℕ → ℕ → ℕ → Bool
is_kind sheet kind t = eqb (type_at sheet t).kind kind

abbrev pub is_tuple : List ℕ → ℕ → Bool
is_tuple sheet t = is_kind sheet 5 t

abbrev pub is_adt : List ℕ → ℕ → Bool
is_adt sheet t = is_kind sheet 6 t

abbrev pub is_reference : List ℕ → ℕ → Bool
is_reference sheet t = is_kind sheet 7 t

abbrev pub is_array : List ℕ → ℕ → Bool
is_array sheet t = is_kind sheet 8 t

abbrev pub is_slice : List ℕ → ℕ → Bool
is_slice sheet t = is_kind sheet 9 t

-- "a reference type with copy flag 0 is `&mut` and no `&`": the type is what `&` or `&mut` is written for
unfoldable pub is_written_as : List ℕ → Bool → ℕ → Bool
is_written_as sheet mutable t = is_reference sheet t && cond mutable (not (is_set (type_at sheet t).copy)) (is_set (type_at sheet t).copy)

-- how a name binds: by value, by reference, by mutable reference
abbrev pub by_value : ℕ
by_value = 0

abbrev pub by_ref : ℕ
by_ref = 1

abbrev pub by_ref_mut : ℕ
by_ref_mut = 2

-- a type behind so many references, and the default binding mode there
pub record Crossed : Type 0 where
  pub ty : ℕ
  pub derefs : ℕ
  pub mode : ℕ

-- "References will set the default binding mode to ref. Mutable references will set the mode to ref mut unless the mode is already ref"
-- (patterns.ident.binding.ref, patterns.ident.binding.ref-mut)
unfoldable pub behind_reference : Bool → ℕ → ℕ
behind_reference shared mode = cond (shared || eqb mode by_ref) by_ref by_ref_mut

-- one reference is crossed
unfoldable pub cross_one : List ℕ → Crossed → Crossed
cross_one sheet c =
    record {
      ty = (type_at sheet c.ty).a;
      derefs = suc c.derefs;
      mode = behind_reference (is_set (type_at sheet c.ty).copy) c.mode;
    }

-- references are crossed while there are any, at most so many
unfoldable pub cross_up_to : ℕ → List ℕ → Crossed → Crossed
cross_up_to zero sheet c = c
cross_up_to (suc most) sheet c = cond (is_reference sheet c.ty) (cross_up_to most sheet (cross_one sheet c)) c

-- "Each time a reference is matched using a non-reference pattern, it will automatically dereference the value", and "If the automatically
-- dereferenced value is still a reference, .. this process repeats" (patterns.ident.binding.auto-deref, patterns.ident.binding.nested-references).
-- A sheet has at most 256 types, so what is a reference behind 257 goes round
unfoldable pub crossed : List ℕ → ℕ → ℕ → Crossed
crossed sheet t mode = cross_up_to 257 sheet (record { ty = t; derefs = 0; mode = mode })

-- the types of fields: so many list words from a start
pub record FieldTypes : Type 0 where
  pub start : ℕ
  pub count : ℕ

abbrev pub no_fields : FieldTypes
no_fields = record { start = 0; count = 0 }

-- of a tuple
unfoldable pub tuple_fields : List ℕ → ℕ → FieldTypes
tuple_fields sheet t = cond (is_tuple sheet t) (record { start = (type_at sheet t).a; count = (type_at sheet t).b }) no_fields

-- an ADT has a variant
unfoldable pub has_variant_of : List ℕ → ℕ → ℕ → Bool
has_variant_of sheet t v = is_adt sheet t && leb (type_at sheet t).a v && ltb v ((type_at sheet t).a + (type_at sheet t).b)

-- of a variant that the type has
unfoldable pub variant_fields_of : List ℕ → ℕ → ℕ → FieldTypes
variant_fields_of sheet t v =
    cond (has_variant_of sheet t v) (record { start = (variant_at sheet v).fields; count = (variant_at sheet v).count }) no_fields
