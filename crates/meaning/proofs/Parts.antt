-- A value that fits a type is of the type's kind, and its parts fit. Assumes nothing.
use Prim.Native.Nat.{ℕ, zero, suc, ◌<◌}
use mathlib.Core.Path.{◌≡◌, refl, sym, ap, ◌∙◌, subst}
use mathlib.Core.Bool.{Bool, true, false, ◌&&◌, false≢true}
use mathlib.Core.Option.{some}
use mathlib.Core.List.{List, [], ◌∷◌}
use native.Mathlib.Omega.{arith}
use borrow.Author.Tests.{eqb-true, ltb-true}
use lib.Dec.{eqb}
use lib.IntN.{ℤ}
use lib.ListN.{length, get_or}
use Rattle.image.specs.declared.kinds.AdtKind.{AdtKind}
use Rattle.image.specs.Lists.{member}
use Rattle.image.specs.Operands.{is_scalar_value}
use Rattle.image.specs.Integers.{in_range}
use Rattle.image.specs.Types.{Shape, integer, bool, char, str, tuple, adt, reference, array, slice, unknown, ty_of, variant_of}
use Rattle.image.proofs.Bools.{and_left, and_right}
use Rattle.cases_spec.specs.Cases.{if_there, kind_number, tuple_fields, referent, if_array, if_slice}
use Rattle.meaning.specs.Values.{Value, Int, Bool', Char, Str, Tuple, Adt, Reference, Array, Slice, Values, no_more, more, items, unit_value, has_values, shorter, int_fits, has_variant, value_fits, fields_fit, elements_fit}

-- the kind of a value, by the numbers of types' kinds
kind_of : Value → ℕ
kind_of (Int z) = 1
kind_of (Bool' b) = 2
kind_of (Char c) = 3
kind_of (Str bytes) = 4
kind_of (Tuple vs) = 5
kind_of (Adt v vs) = 6
kind_of (Reference v) = 7
kind_of (Array vs) = 8
kind_of (Slice vs) = 9

-- what a value of each kind is
abbrev Kinds : Value → List (Type 0)
Kinds v =
    ⊥
    ∷ ((z : ℤ) × (v ≡ Int z))
    ∷ ((b : Bool) × (v ≡ Bool' b))
    ∷ ((c : ℕ) × (v ≡ Char c))
    ∷ ((bytes : List ℕ) × (v ≡ Str bytes))
    ∷ ((vs : Values) × (v ≡ Tuple vs))
    ∷ ((w : ℕ) × (vs : Values) × (v ≡ Adt w vs))
    ∷ ((w : Value) × (v ≡ Reference w))
    ∷ ((vs : Values) × (v ≡ Array vs))
    ∷ ((vs : Values) × (v ≡ Slice vs))
    ∷ []

abbrev Is : ℕ → Value → Type 0
Is k v = get_or (Kinds v) k ⊥

is_kind_lem : (v : Value) → Is (kind_of v) v
unfolding kind_of
is_kind_lem (Int z) = (z, refl)
is_kind_lem (Bool' b) = (b, refl)
is_kind_lem (Char c) = (c, refl)
is_kind_lem (Str bytes) = (bytes, refl)
is_kind_lem (Tuple vs) = (vs, refl)
is_kind_lem (Adt w vs) = (w, vs, refl)
is_kind_lem (Reference w) = (w, refl)
is_kind_lem (Array vs) = (vs, refl)
is_kind_lem (Slice vs) = (vs, refl)

int_kind : (s : Shape) (z : ℤ) → int_fits s z ≡ true → kind_number s ≡ 1
unfolding int_fits kind_number
int_kind (integer size signed) z e = refl
int_kind bool z e = absurd (false≢true e)
int_kind char z e = absurd (false≢true e)
int_kind str z e = absurd (false≢true e)
int_kind (tuple fields) z e = absurd (false≢true e)
int_kind (adt kind variants) z e = absurd (false≢true e)
int_kind (reference t) z e = absurd (false≢true e)
int_kind (array t n) z e = absurd (false≢true e)
int_kind (slice t) z e = absurd (false≢true e)
int_kind unknown z e = absurd (false≢true e)

adt_kind_lem : (s : Shape) (w : ℕ) → has_variant s (some w) ≡ true → kind_number s ≡ 6
unfolding has_variant kind_number
adt_kind_lem (integer size signed) w e = absurd (false≢true e)
adt_kind_lem bool w e = absurd (false≢true e)
adt_kind_lem char w e = absurd (false≢true e)
adt_kind_lem str w e = absurd (false≢true e)
adt_kind_lem (tuple fields) w e = absurd (false≢true e)
adt_kind_lem (adt kind variants) w e = refl
adt_kind_lem (reference t) w e = absurd (false≢true e)
adt_kind_lem (array t n) w e = absurd (false≢true e)
adt_kind_lem (slice t) w e = absurd (false≢true e)
adt_kind_lem unknown w e = absurd (false≢true e)

reference_kind : (s : Shape) (test : ℕ → Bool) → if_there (referent s) test false ≡ true → kind_number s ≡ 7
unfolding referent kind_number
reference_kind (integer size signed) test e = absurd (false≢true e)
reference_kind bool test e = absurd (false≢true e)
reference_kind char test e = absurd (false≢true e)
reference_kind str test e = absurd (false≢true e)
reference_kind (tuple fields) test e = absurd (false≢true e)
reference_kind (adt kind variants) test e = absurd (false≢true e)
reference_kind (reference t) test e = refl
reference_kind (array t n) test e = absurd (false≢true e)
reference_kind (slice t) test e = absurd (false≢true e)
reference_kind unknown test e = absurd (false≢true e)

array_kind : (s : Shape) (test : ℕ → ℕ → Bool) → if_array s test false ≡ true → kind_number s ≡ 8
unfolding kind_number
array_kind (integer size signed) test e = absurd (false≢true e)
array_kind bool test e = absurd (false≢true e)
array_kind char test e = absurd (false≢true e)
array_kind str test e = absurd (false≢true e)
array_kind (tuple fields) test e = absurd (false≢true e)
array_kind (adt kind variants) test e = absurd (false≢true e)
array_kind (reference t) test e = absurd (false≢true e)
array_kind (array t n) test e = refl
array_kind (slice t) test e = absurd (false≢true e)
array_kind unknown test e = absurd (false≢true e)

slice_kind : (s : Shape) (test : ℕ → Bool) → if_slice s test false ≡ true → kind_number s ≡ 9
unfolding kind_number
slice_kind (integer size signed) test e = absurd (false≢true e)
slice_kind bool test e = absurd (false≢true e)
slice_kind char test e = absurd (false≢true e)
slice_kind str test e = absurd (false≢true e)
slice_kind (tuple fields) test e = absurd (false≢true e)
slice_kind (adt kind variants) test e = absurd (false≢true e)
slice_kind (reference t) test e = absurd (false≢true e)
slice_kind (array t n) test e = absurd (false≢true e)
slice_kind (slice t) test e = refl
slice_kind unknown test e = absurd (false≢true e)

module _ (image : List ℕ) where
  -- a value that fits is of the type's kind
  fits_kind : (v : Value) (t : ℕ) → value_fits image v t ≡ true → kind_number (ty_of image t).shape ≡ kind_of v
  unfolding value_fits kind_of
  fits_kind (Int z) t e = int_kind (ty_of image t).shape z e
  fits_kind (Bool' b) t e = eqb-true (kind_number (ty_of image t).shape) 2 e
  fits_kind (Char c) t e = eqb-true (kind_number (ty_of image t).shape) 3 (and_left (eqb (kind_number (ty_of image t).shape) 3) (is_scalar_value c) e)
  fits_kind (Str bytes) t e = eqb-true (kind_number (ty_of image t).shape) 4 (and_left (eqb (kind_number (ty_of image t).shape) 4) (shorter (length bytes)) e)
  fits_kind (Tuple vs) t e =
      eqb-true (kind_number (ty_of image t).shape) 5 (and_left (eqb (kind_number (ty_of image t).shape) 5) (fields_fit image vs (tuple_fields (ty_of image t).shape)) e)
  fits_kind (Adt w vs) t e =
      adt_kind_lem (ty_of image t).shape w (and_left (has_variant (ty_of image t).shape (some w)) (fields_fit image vs (variant_of image w).fields) e)
  fits_kind (Reference w) t e = reference_kind (ty_of image t).shape (λ u. value_fits image w u) e
  fits_kind (Array vs) t e = array_kind (ty_of image t).shape (λ u n. eqb (length (items vs)) n && elements_fit image vs u) e
  fits_kind (Slice vs) t e = slice_kind (ty_of image t).shape (λ u. shorter (length (items vs)) && elements_fit image vs u) e

  -- so it is what a value of that kind is
  is_of : (v : Value) (t : ℕ) {s : Shape} → (ty_of image t).shape ≡ s → value_fits image v t ≡ true → Is (kind_number s) v
  is_of v t e fits = subst (λ (k : ℕ). Is k v) (sym (fits_kind v t fits) ∙ ap kind_number e) (is_kind_lem v)

  same_fits : {v w : Value} (t : ℕ) → v ≡ w → value_fits image v t ≡ true → value_fits image w t ≡ true
  same_fits t e fits = subst (λ (x : Value). value_fits image x t ≡ true) e fits

  int_part : (z : ℤ) (t size : ℕ) (signed : Bool) → (ty_of image t).shape ≡ integer size signed → value_fits image (Int z) t ≡ true → in_range size signed z ≡ true
  unfolding value_fits int_fits
  int_part z t size signed e h = rw e at h

  char_part : (c t : ℕ) → value_fits image (Char c) t ≡ true → is_scalar_value c ≡ true
  unfolding value_fits
  char_part c t h = and_right (eqb (kind_number (ty_of image t).shape) 3) (is_scalar_value c) h

  str_part : (bytes : List ℕ) (t : ℕ) → value_fits image (Str bytes) t ≡ true → length bytes < 18446744073709551616
  unfolding value_fits
  str_part bytes t h = ltb-true (length bytes) 18446744073709551616 (and_right (eqb (kind_number (ty_of image t).shape) 4) (shorter (length bytes)) h)

  tuple_part : (vs : Values) (t : ℕ) (fields : List ℕ) → (ty_of image t).shape ≡ tuple fields → value_fits image (Tuple vs) t ≡ true → fields_fit image vs fields ≡ true
  unfolding value_fits kind_number tuple_fields
  tuple_part vs t fields e h = rw e at h

  variant_part : (w : ℕ) (vs : Values) (t : ℕ) (kind : AdtKind) (variants : List ℕ) → (ty_of image t).shape ≡ adt kind variants → value_fits image (Adt w vs) t ≡ true
      → (has_values kind ≡ true) × (member w variants ≡ true) × (fields_fit image vs (variant_of image w).fields ≡ true)
  unfolding value_fits has_variant
  variant_part w vs t kind variants e h =
      let b = has_values kind in
      let m = member w variants in
      let f = fields_fit image vs (variant_of image w).fields in
      let all : b && m && f ≡ true = rw e at h in
      (and_left b m (and_left (b && m) f all), and_right b m (and_left (b && m) f all), and_right (b && m) f all)

  reference_part : (w : Value) (t u : ℕ) → (ty_of image t).shape ≡ reference u → value_fits image (Reference w) t ≡ true → value_fits image w u ≡ true
  unfolding value_fits referent
  reference_part w t u e h = rw e at h

  array_part : (vs : Values) (t u n : ℕ) → (ty_of image t).shape ≡ array u n → value_fits image (Array vs) t ≡ true → (length (items vs) ≡ n) × (elements_fit image vs u ≡ true)
  unfolding value_fits
  array_part vs t u n e h =
      let both : eqb (length (items vs)) n && elements_fit image vs u ≡ true = rw e at h in
      (eqb-true (length (items vs)) n (and_left (eqb (length (items vs)) n) (elements_fit image vs u) both), and_right (eqb (length (items vs)) n) (elements_fit image vs u) both)

  slice_part : (vs : Values) (t u : ℕ) → (ty_of image t).shape ≡ slice u → value_fits image (Slice vs) t ≡ true → (length (items vs) < 18446744073709551616) × (elements_fit image vs u ≡ true)
  unfolding value_fits
  slice_part vs t u e h =
      let both : shorter (length (items vs)) && elements_fit image vs u ≡ true = rw e at h in
      (ltb-true (length (items vs)) 18446744073709551616 (and_left (shorter (length (items vs))) (elements_fit image vs u) both), and_right (shorter (length (items vs))) (elements_fit image vs u) both)

  -- values in a row that fit types in a row: as many, each its own
  pub fields_length : (vs : Values) (ts : List ℕ) → fields_fit image vs ts ≡ true → length (items vs) ≡ length ts
  unfolding fields_fit items
  fields_length no_more [] e = refl
  fields_length no_more (t ∷ ts) e = absurd (false≢true e)
  fields_length (more v vs) [] e = absurd (false≢true e)
  fields_length (more v vs) (t ∷ ts) e = ap suc (fields_length vs ts (and_right (value_fits image v t) (fields_fit image vs ts) e))

  pub field_fits : (vs : Values) (ts : List ℕ) (i : ℕ) → fields_fit image vs ts ≡ true → i < length ts → value_fits image (get_or (items vs) i unit_value) (get_or ts i 0) ≡ true
  unfolding fields_fit items
  field_fits no_more [] i e h = absurd (omega arith)
  field_fits no_more (t ∷ ts) i e h = absurd (false≢true e)
  field_fits (more v vs) [] i e h = absurd (false≢true e)
  field_fits (more v vs) (t ∷ ts) zero e h = and_left (value_fits image v t) (fields_fit image vs ts) e
  field_fits (more v vs) (t ∷ ts) (suc i) e h = field_fits vs ts i (and_right (value_fits image v t) (fields_fit image vs ts) e) (omega arith)

  -- values that all fit one type
  pub item_fits : (vs : Values) (t i : ℕ) → elements_fit image vs t ≡ true → i < length (items vs) → value_fits image (get_or (items vs) i unit_value) t ≡ true
  unfolding elements_fit items
  item_fits no_more t i e h = absurd (omega arith)
  item_fits (more v vs) t zero e h = and_left (value_fits image v t) (elements_fit image vs t) e
  item_fits (more v vs) t (suc i) e h = item_fits vs t i (and_right (value_fits image v t) (elements_fit image vs t) e) (omega arith)

  -- a value that fits an integer type, bool, char or str
  pub fits_integer : (v : Value) (t size : ℕ) (signed : Bool) → (ty_of image t).shape ≡ integer size signed → value_fits image v t ≡ true → (z : ℤ) × (v ≡ Int z) × (in_range size signed z ≡ true)
  unfolding kind_number
  fits_integer v t size signed e h = let (z, q) = is_of v t e h in (z, q, int_part z t size signed e (same_fits t q h))

  pub fits_bool : (v : Value) (t : ℕ) → (ty_of image t).shape ≡ bool → value_fits image v t ≡ true → (b : Bool) × (v ≡ Bool' b)
  unfolding kind_number
  fits_bool v t e h = is_of v t e h

  pub fits_char : (v : Value) (t : ℕ) → (ty_of image t).shape ≡ char → value_fits image v t ≡ true → (c : ℕ) × (v ≡ Char c) × (is_scalar_value c ≡ true)
  unfolding kind_number
  fits_char v t e h = let (c, q) = is_of v t e h in (c, q, char_part c t (same_fits t q h))

  pub fits_str : (v : Value) (t : ℕ) → (ty_of image t).shape ≡ str → value_fits image v t ≡ true → (bytes : List ℕ) × (v ≡ Str bytes) × (length bytes < 18446744073709551616)
  unfolding kind_number
  fits_str v t e h = let (bytes, q) = is_of v t e h in (bytes, q, str_part bytes t (same_fits t q h))

  -- a tuple's fields fit
  pub fits_tuple : (v : Value) (t : ℕ) (fields : List ℕ) → (ty_of image t).shape ≡ tuple fields → value_fits image v t ≡ true → (vs : Values) × (v ≡ Tuple vs) × (fields_fit image vs fields ≡ true)
  unfolding kind_number
  fits_tuple v t fields e h = let (vs, q) = is_of v t e h in (vs, q, tuple_part vs t fields e (same_fits t q h))

  -- a struct or an enum has the value's variant, whose fields fit
  pub fits_adt : (v : Value) (t : ℕ) (kind : AdtKind) (variants : List ℕ) → (ty_of image t).shape ≡ adt kind variants → value_fits image v t ≡ true
      → (w : ℕ) × (vs : Values) × (v ≡ Adt w vs) × (has_values kind ≡ true) × (member w variants ≡ true) × (fields_fit image vs (variant_of image w).fields ≡ true)
  unfolding kind_number
  fits_adt v t kind variants e h =
      let (w, vs, q) = is_of v t e h in
      let (b, m, f) = variant_part w vs t kind variants e (same_fits t q h) in
      (w, vs, q, b, m, f)

  -- what a reference refers to fits
  pub fits_reference : (v : Value) (t u : ℕ) → (ty_of image t).shape ≡ reference u → value_fits image v t ≡ true → (w : Value) × (v ≡ Reference w) × (value_fits image w u ≡ true)
  unfolding kind_number
  fits_reference v t u e h = let (w, q) = is_of v t e h in (w, q, reference_part w t u e (same_fits t q h))

  -- the elements of an array or a slice fit
  pub fits_array : (v : Value) (t u n : ℕ) → (ty_of image t).shape ≡ array u n → value_fits image v t ≡ true → (vs : Values) × (v ≡ Array vs) × (length (items vs) ≡ n) × (elements_fit image vs u ≡ true)
  unfolding kind_number
  fits_array v t u n e h = let (vs, q) = is_of v t e h in let (l, f) = array_part vs t u n e (same_fits t q h) in (vs, q, l, f)

  pub fits_slice : (v : Value) (t u : ℕ) → (ty_of image t).shape ≡ slice u → value_fits image v t ≡ true → (vs : Values) × (v ≡ Slice vs) × (length (items vs) < 18446744073709551616) × (elements_fit image vs u ≡ true)
  unfolding kind_number
  fits_slice v t u e h = let (vs, q) = is_of v t e h in let (l, f) = slice_part vs t u e (same_fits t q h) in (vs, q, l, f)
