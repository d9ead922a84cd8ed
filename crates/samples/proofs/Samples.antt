-- The samples, computed: which of them are valid, by the definition. The bytes are those of samples/*.img, written out by samples/theorems.py.
-- Assumes nothing.
use Prim.Native.Nat.{ℕ}
use mathlib.Core.Path.{◌≡◌, refl}
use mathlib.Core.Bool.{true, false}
use mathlib.Core.List.{List, [], ◌∷◌}
use Rattle.image.specs.Bytes.{word_at, little_endian}
use Rattle.image.specs.Tables.{tables_of}
use Rattle.image.specs.Rows.{type_at, variant_at, pat_at, binding_at, list_at, operand_at, operand_bytes}
use Rattle.image.specs.Lists.{all_below, all_in, all_true, member, distinct, up_from, gather}
use Rattle.image.specs.Operands.{is_scalar_value, operand_value_holds, operand_holds}
use Rattle.image.specs.Rules.{counts_what_follows, version_is_one, tables_fill_the_rest, listed, types_listed, is_integer_size, adt_may_have, type_shape_holds, type_holds, variants_by, adts_share_no_variant, variant_holds, binding_holds, within_limits}
use Rattle.image.specs.Subpatterns.{if_present, subpatterns_by}
use Rattle.image.specs.Patterns.{path_holds, pattern_shape_holds, pattern_holds, subpatterns_below, used_once}
use Rattle.image.specs.Valid.{valid}

abbrev pub array : List ℕ
array = 0 ∷ 0 ∷ 0 ∷ 83 ∷ 1 ∷ 0 ∷ 2 ∷ 0 ∷ 0 ∷ 0 ∷ 3 ∷ 0 ∷ 1 ∷ 0 ∷ 2 ∷ 0 ∷ 0 ∷ 0 ∷ 1 ∷ 0 ∷ 1 ∷ 0 ∷ 0 ∷ 0 ∷ 0 ∷ 0 ∷ 1 ∷ 0 ∷ 8 ∷ 0 ∷ 0 ∷ 0 ∷ 2 ∷ 0 ∷ 0 ∷ 0 ∷ 1 ∷ 0 ∷ 11 ∷ 0 ∷ 0 ∷ 0 ∷ 0 ∷ 0 ∷ 0 ∷ 255 ∷ 255 ∷ 0 ∷ 0 ∷ 0 ∷ 0 ∷ 0 ∷ 3 ∷ 0 ∷ 0 ∷ 0 ∷ 0 ∷ 0 ∷ 0 ∷ 0 ∷ 0 ∷ 0 ∷ 0 ∷ 0 ∷ 0 ∷ 0 ∷ 8 ∷ 0 ∷ 1 ∷ 0 ∷ 0 ∷ 0 ∷ 0 ∷ 0 ∷ 2 ∷ 0 ∷ 0 ∷ 255 ∷ 255 ∷ 0 ∷ 0 ∷ 0 ∷ 1 ∷ 0 ∷ 0 ∷ 0 ∷ 1 ∷ []

array_valid : valid array ≡ true
unfolding word_at little_endian tables_of type_at variant_at pat_at binding_at list_at operand_at operand_bytes all_below all_in all_true member distinct up_from gather is_scalar_value operand_value_holds operand_holds counts_what_follows version_is_one tables_fill_the_rest listed types_listed is_integer_size adt_may_have type_shape_holds type_holds variants_by adts_share_no_variant variant_holds binding_holds within_limits if_present subpatterns_by path_holds pattern_shape_holds pattern_holds subpatterns_below used_once valid
array_valid = refl

abbrev pub binding_sub : List ℕ
binding_sub = 0 ∷ 0 ∷ 0 ∷ 99 ∷ 1 ∷ 0 ∷ 1 ∷ 0 ∷ 0 ∷ 0 ∷ 2 ∷ 0 ∷ 1 ∷ 0 ∷ 6 ∷ 0 ∷ 32 ∷ 0 ∷ 1 ∷ 0 ∷ 1 ∷ 0 ∷ 0 ∷ 0 ∷ 0 ∷ 0 ∷ 1 ∷ 0 ∷ 7 ∷ 0 ∷ 0 ∷ 0 ∷ 0 ∷ 0 ∷ 0 ∷ 0 ∷ 3 ∷ 0 ∷ 0 ∷ 0 ∷ 0 ∷ 0 ∷ 11 ∷ 0 ∷ 0 ∷ 0 ∷ 0 ∷ 0 ∷ 0 ∷ 0 ∷ 0 ∷ 0 ∷ 0 ∷ 0 ∷ 0 ∷ 0 ∷ 0 ∷ 0 ∷ 1 ∷ 0 ∷ 1 ∷ 0 ∷ 0 ∷ 0 ∷ 16 ∷ 0 ∷ 1 ∷ 0 ∷ 16 ∷ 0 ∷ 16 ∷ 1 ∷ 0 ∷ 0 ∷ 0 ∷ 0 ∷ 0 ∷ 0 ∷ 0 ∷ 0 ∷ 0 ∷ 0 ∷ 0 ∷ 0 ∷ 0 ∷ 0 ∷ 0 ∷ 3 ∷ 0 ∷ 0 ∷ 0 ∷ 0 ∷ 0 ∷ 0 ∷ 0 ∷ 0 ∷ 0 ∷ 0 ∷ 0 ∷ 0 ∷ 0 ∷ 0 ∷ 0 ∷ []

binding_sub_valid : valid binding_sub ≡ true
unfolding word_at little_endian tables_of type_at variant_at pat_at binding_at list_at operand_at operand_bytes all_below all_in all_true member distinct up_from gather is_scalar_value operand_value_holds operand_holds counts_what_follows version_is_one tables_fill_the_rest listed types_listed is_integer_size adt_may_have type_shape_holds type_holds variants_by adts_share_no_variant variant_holds binding_holds within_limits if_present subpatterns_by path_holds pattern_shape_holds pattern_holds subpatterns_below used_once valid
binding_sub_valid = refl

abbrev pub char_range : List ℕ
char_range = 0 ∷ 0 ∷ 0 ∷ 57 ∷ 1 ∷ 0 ∷ 1 ∷ 0 ∷ 0 ∷ 0 ∷ 1 ∷ 0 ∷ 0 ∷ 0 ∷ 6 ∷ 0 ∷ 8 ∷ 0 ∷ 3 ∷ 0 ∷ 0 ∷ 0 ∷ 0 ∷ 0 ∷ 0 ∷ 0 ∷ 1 ∷ 0 ∷ 7 ∷ 0 ∷ 0 ∷ 0 ∷ 0 ∷ 0 ∷ 0 ∷ 0 ∷ 3 ∷ 0 ∷ 0 ∷ 0 ∷ 0 ∷ 0 ∷ 3 ∷ 0 ∷ 0 ∷ 0 ∷ 4 ∷ 0 ∷ 3 ∷ 0 ∷ 4 ∷ 0 ∷ 4 ∷ 97 ∷ 0 ∷ 0 ∷ 0 ∷ 122 ∷ 0 ∷ 0 ∷ 0 ∷ []

char_range_valid : valid char_range ≡ true
unfolding word_at little_endian tables_of type_at variant_at pat_at binding_at list_at operand_at operand_bytes all_below all_in all_true member distinct up_from gather is_scalar_value operand_value_holds operand_holds counts_what_follows version_is_one tables_fill_the_rest listed types_listed is_integer_size adt_may_have type_shape_holds type_holds variants_by adts_share_no_variant variant_holds binding_holds within_limits if_present subpatterns_by path_holds pattern_shape_holds pattern_holds subpatterns_below used_once valid
char_range_valid = refl

abbrev pub constant : List ℕ
constant = 0 ∷ 0 ∷ 0 ∷ 44 ∷ 1 ∷ 0 ∷ 1 ∷ 0 ∷ 0 ∷ 0 ∷ 1 ∷ 0 ∷ 0 ∷ 0 ∷ 3 ∷ 0 ∷ 1 ∷ 0 ∷ 1 ∷ 0 ∷ 1 ∷ 0 ∷ 0 ∷ 0 ∷ 0 ∷ 0 ∷ 1 ∷ 0 ∷ 9 ∷ 0 ∷ 0 ∷ 0 ∷ 0 ∷ 0 ∷ 3 ∷ 0 ∷ 0 ∷ 0 ∷ 0 ∷ 0 ∷ 0 ∷ 0 ∷ 8 ∷ 0 ∷ 0 ∷ 0 ∷ 1 ∷ 5 ∷ []

constant_valid : valid constant ≡ true
unfolding word_at little_endian tables_of type_at variant_at pat_at binding_at list_at operand_at operand_bytes all_below all_in all_true member distinct up_from gather is_scalar_value operand_value_holds operand_holds counts_what_follows version_is_one tables_fill_the_rest listed types_listed is_integer_size adt_may_have type_shape_holds type_holds variants_by adts_share_no_variant variant_holds binding_holds within_limits if_present subpatterns_by path_holds pattern_shape_holds pattern_holds subpatterns_below used_once valid
constant_valid = refl

abbrev pub damaged : List ℕ
damaged = 0 ∷ 0 ∷ 0 ∷ 245 ∷ 1 ∷ 0 ∷ 4 ∷ 0 ∷ 3 ∷ 0 ∷ 6 ∷ 0 ∷ 0 ∷ 0 ∷ 13 ∷ 0 ∷ 64 ∷ 0 ∷ 1 ∷ 0 ∷ 1 ∷ 0 ∷ 0 ∷ 0 ∷ 0 ∷ 0 ∷ 1 ∷ 0 ∷ 1 ∷ 0 ∷ 2 ∷ 0 ∷ 0 ∷ 0 ∷ 0 ∷ 0 ∷ 1 ∷ 0 ∷ 1 ∷ 0 ∷ 4 ∷ 0 ∷ 0 ∷ 0 ∷ 0 ∷ 0 ∷ 1 ∷ 0 ∷ 6 ∷ 0 ∷ 0 ∷ 0 ∷ 3 ∷ 0 ∷ 1 ∷ 0 ∷ 0 ∷ 0 ∷ 0 ∷ 0 ∷ []

damaged_valid : valid damaged ≡ false
unfolding word_at little_endian tables_of type_at variant_at pat_at binding_at list_at operand_at operand_bytes all_below all_in all_true member distinct up_from gather is_scalar_value operand_value_holds operand_holds counts_what_follows version_is_one tables_fill_the_rest listed types_listed is_integer_size adt_may_have type_shape_holds type_holds variants_by adts_share_no_variant variant_holds binding_holds within_limits if_present subpatterns_by path_holds pattern_shape_holds pattern_holds subpatterns_below used_once valid
damaged_valid = refl

abbrev pub enum_fields : List ℕ
enum_fields = 0 ∷ 0 ∷ 0 ∷ 245 ∷ 1 ∷ 0 ∷ 4 ∷ 0 ∷ 3 ∷ 0 ∷ 6 ∷ 0 ∷ 0 ∷ 0 ∷ 13 ∷ 0 ∷ 64 ∷ 0 ∷ 1 ∷ 0 ∷ 1 ∷ 0 ∷ 0 ∷ 0 ∷ 0 ∷ 0 ∷ 1 ∷ 0 ∷ 1 ∷ 0 ∷ 2 ∷ 0 ∷ 0 ∷ 0 ∷ 0 ∷ 0 ∷ 1 ∷ 0 ∷ 1 ∷ 0 ∷ 4 ∷ 0 ∷ 0 ∷ 0 ∷ 0 ∷ 0 ∷ 1 ∷ 0 ∷ 6 ∷ 0 ∷ 0 ∷ 0 ∷ 3 ∷ 0 ∷ 1 ∷ 0 ∷ 0 ∷ 0 ∷ 0 ∷ 0 ∷ 2 ∷ 0 ∷ 0 ∷ 0 ∷ 2 ∷ 0 ∷ 0 ∷ 0 ∷ 16 ∷ 0 ∷ 2 ∷ 0 ∷ 1 ∷ 0 ∷ 32 ∷ 0 ∷ 10 ∷ 0 ∷ 1 ∷ 0 ∷ 0 ∷ 0 ∷ 3 ∷ 0 ∷ 0 ∷ 0 ∷ 0 ∷ 0 ∷ 0 ∷ 0 ∷ 3 ∷ 0 ∷ 2 ∷ 0 ∷ 0 ∷ 0 ∷ 0 ∷ 0 ∷ 0 ∷ 0 ∷ 0 ∷ 0 ∷ 0 ∷ 0 ∷ 6 ∷ 0 ∷ 3 ∷ 0 ∷ 0 ∷ 0 ∷ 6 ∷ 0 ∷ 2 ∷ 0 ∷ 0 ∷ 0 ∷ 0 ∷ 0 ∷ 3 ∷ 0 ∷ 0 ∷ 0 ∷ 0 ∷ 0 ∷ 0 ∷ 0 ∷ 0 ∷ 0 ∷ 0 ∷ 0 ∷ 0 ∷ 0 ∷ 12 ∷ 0 ∷ 3 ∷ 0 ∷ 0 ∷ 0 ∷ 10 ∷ 0 ∷ 1 ∷ 255 ∷ 255 ∷ 0 ∷ 2 ∷ 0 ∷ 5 ∷ 0 ∷ 3 ∷ 0 ∷ 0 ∷ 0 ∷ 11 ∷ 0 ∷ 2 ∷ 0 ∷ 0 ∷ 0 ∷ 0 ∷ 0 ∷ 1 ∷ 0 ∷ 2 ∷ 0 ∷ 0 ∷ 0 ∷ 1 ∷ 0 ∷ 48 ∷ 0 ∷ 16 ∷ 0 ∷ 0 ∷ 0 ∷ 0 ∷ 0 ∷ 1 ∷ 0 ∷ 1 ∷ 0 ∷ 3 ∷ 0 ∷ 2 ∷ 0 ∷ 4 ∷ 0 ∷ 0 ∷ 0 ∷ 0 ∷ 0 ∷ 0 ∷ 0 ∷ 0 ∷ 0 ∷ 0 ∷ 0 ∷ 0 ∷ 0 ∷ 0 ∷ 0 ∷ 0 ∷ 1 ∷ 0 ∷ 0 ∷ 0 ∷ 0 ∷ 0 ∷ 0 ∷ 0 ∷ 0 ∷ 0 ∷ 0 ∷ 0 ∷ 0 ∷ 0 ∷ 0 ∷ 0 ∷ 2 ∷ 0 ∷ 0 ∷ 0 ∷ 0 ∷ 0 ∷ 0 ∷ 0 ∷ 0 ∷ 0 ∷ 0 ∷ 0 ∷ 0 ∷ 0 ∷ 0 ∷ 0 ∷ 1 ∷ 0 ∷ 0 ∷ 0 ∷ 0 ∷ 0 ∷ 0 ∷ 0 ∷ 0 ∷ 0 ∷ 0 ∷ 0 ∷ 0 ∷ 0 ∷ 0 ∷ 0 ∷ []

enum_fields_valid : valid enum_fields ≡ true
unfolding word_at little_endian tables_of type_at variant_at pat_at binding_at list_at operand_at operand_bytes all_below all_in all_true member distinct up_from gather is_scalar_value operand_value_holds operand_holds counts_what_follows version_is_one tables_fill_the_rest listed types_listed is_integer_size adt_may_have type_shape_holds type_holds variants_by adts_share_no_variant variant_holds binding_holds within_limits if_present subpatterns_by path_holds pattern_shape_holds pattern_holds subpatterns_below used_once valid
enum_fields_valid = refl

abbrev pub enum_unit : List ℕ
enum_unit = 0 ∷ 0 ∷ 0 ∷ 139 ∷ 1 ∷ 0 ∷ 4 ∷ 0 ∷ 3 ∷ 0 ∷ 1 ∷ 0 ∷ 0 ∷ 0 ∷ 3 ∷ 0 ∷ 48 ∷ 0 ∷ 1 ∷ 0 ∷ 1 ∷ 0 ∷ 0 ∷ 0 ∷ 0 ∷ 0 ∷ 1 ∷ 0 ∷ 1 ∷ 0 ∷ 2 ∷ 0 ∷ 0 ∷ 0 ∷ 0 ∷ 0 ∷ 1 ∷ 0 ∷ 1 ∷ 0 ∷ 4 ∷ 0 ∷ 0 ∷ 0 ∷ 0 ∷ 0 ∷ 1 ∷ 0 ∷ 6 ∷ 0 ∷ 0 ∷ 0 ∷ 3 ∷ 0 ∷ 1 ∷ 0 ∷ 0 ∷ 0 ∷ 0 ∷ 0 ∷ 2 ∷ 0 ∷ 0 ∷ 0 ∷ 2 ∷ 0 ∷ 0 ∷ 0 ∷ 16 ∷ 0 ∷ 2 ∷ 0 ∷ 1 ∷ 0 ∷ 32 ∷ 0 ∷ 9 ∷ 0 ∷ 3 ∷ 0 ∷ 0 ∷ 0 ∷ 1 ∷ 0 ∷ 1 ∷ 0 ∷ 0 ∷ 0 ∷ 0 ∷ 0 ∷ 1 ∷ 0 ∷ 2 ∷ 0 ∷ 0 ∷ 0 ∷ 0 ∷ 0 ∷ 0 ∷ 0 ∷ 0 ∷ 0 ∷ 0 ∷ 0 ∷ 0 ∷ 0 ∷ 0 ∷ 0 ∷ 0 ∷ 0 ∷ 0 ∷ 1 ∷ 0 ∷ 0 ∷ 0 ∷ 0 ∷ 0 ∷ 0 ∷ 0 ∷ 0 ∷ 0 ∷ 0 ∷ 0 ∷ 0 ∷ 0 ∷ 0 ∷ 0 ∷ 2 ∷ 0 ∷ 0 ∷ 0 ∷ 0 ∷ 0 ∷ 0 ∷ 0 ∷ 0 ∷ 0 ∷ 0 ∷ 0 ∷ 0 ∷ 0 ∷ 0 ∷ 0 ∷ []

enum_unit_valid : valid enum_unit ≡ true
unfolding word_at little_endian tables_of type_at variant_at pat_at binding_at list_at operand_at operand_bytes all_below all_in all_true member distinct up_from gather is_scalar_value operand_value_holds operand_holds counts_what_follows version_is_one tables_fill_the_rest listed types_listed is_integer_size adt_may_have type_shape_holds type_holds variants_by adts_share_no_variant variant_holds binding_holds within_limits if_present subpatterns_by path_holds pattern_shape_holds pattern_holds subpatterns_below used_once valid
enum_unit_valid = refl

abbrev pub first_three : List ℕ
first_three = 0 ∷ 0 ∷ 0 ∷ 81 ∷ 1 ∷ 0 ∷ 1 ∷ 0 ∷ 0 ∷ 0 ∷ 1 ∷ 0 ∷ 0 ∷ 0 ∷ 6 ∷ 0 ∷ 32 ∷ 0 ∷ 1 ∷ 0 ∷ 1 ∷ 0 ∷ 0 ∷ 0 ∷ 0 ∷ 0 ∷ 1 ∷ 0 ∷ 7 ∷ 0 ∷ 0 ∷ 0 ∷ 0 ∷ 0 ∷ 0 ∷ 0 ∷ 3 ∷ 0 ∷ 1 ∷ 0 ∷ 0 ∷ 0 ∷ 1 ∷ 0 ∷ 0 ∷ 0 ∷ 16 ∷ 0 ∷ 1 ∷ 0 ∷ 16 ∷ 0 ∷ 16 ∷ 1 ∷ 0 ∷ 0 ∷ 0 ∷ 0 ∷ 0 ∷ 0 ∷ 0 ∷ 0 ∷ 0 ∷ 0 ∷ 0 ∷ 0 ∷ 0 ∷ 0 ∷ 0 ∷ 4 ∷ 0 ∷ 0 ∷ 0 ∷ 0 ∷ 0 ∷ 0 ∷ 0 ∷ 0 ∷ 0 ∷ 0 ∷ 0 ∷ 0 ∷ 0 ∷ 0 ∷ 0 ∷ []

first_three_valid : valid first_three ≡ true
unfolding word_at little_endian tables_of type_at variant_at pat_at binding_at list_at operand_at operand_bytes all_below all_in all_true member distinct up_from gather is_scalar_value operand_value_holds operand_holds counts_what_follows version_is_one tables_fill_the_rest listed types_listed is_integer_size adt_may_have type_shape_holds type_holds variants_by adts_share_no_variant variant_holds binding_holds within_limits if_present subpatterns_by path_holds pattern_shape_holds pattern_holds subpatterns_below used_once valid
first_three_valid = refl

abbrev pub half_open : List ℕ
half_open = 0 ∷ 0 ∷ 0 ∷ 59 ∷ 1 ∷ 0 ∷ 1 ∷ 0 ∷ 0 ∷ 0 ∷ 1 ∷ 0 ∷ 0 ∷ 0 ∷ 3 ∷ 0 ∷ 16 ∷ 0 ∷ 1 ∷ 0 ∷ 1 ∷ 0 ∷ 0 ∷ 0 ∷ 0 ∷ 0 ∷ 1 ∷ 0 ∷ 7 ∷ 0 ∷ 0 ∷ 0 ∷ 0 ∷ 0 ∷ 0 ∷ 255 ∷ 255 ∷ 0 ∷ 1 ∷ 0 ∷ 0 ∷ 0 ∷ 1 ∷ 0 ∷ 0 ∷ 0 ∷ 16 ∷ 1 ∷ 0 ∷ 0 ∷ 0 ∷ 0 ∷ 0 ∷ 0 ∷ 0 ∷ 0 ∷ 0 ∷ 0 ∷ 0 ∷ 0 ∷ 0 ∷ 0 ∷ 0 ∷ []

half_open_valid : valid half_open ≡ true
unfolding word_at little_endian tables_of type_at variant_at pat_at binding_at list_at operand_at operand_bytes all_below all_in all_true member distinct up_from gather is_scalar_value operand_value_holds operand_holds counts_what_follows version_is_one tables_fill_the_rest listed types_listed is_integer_size adt_may_have type_shape_holds type_holds variants_by adts_share_no_variant variant_holds binding_holds within_limits if_present subpatterns_by path_holds pattern_shape_holds pattern_holds subpatterns_below used_once valid
half_open_valid = refl

abbrev pub last_two : List ℕ
last_two = 0 ∷ 0 ∷ 0 ∷ 101 ∷ 1 ∷ 0 ∷ 2 ∷ 0 ∷ 0 ∷ 0 ∷ 4 ∷ 0 ∷ 2 ∷ 0 ∷ 2 ∷ 0 ∷ 0 ∷ 0 ∷ 1 ∷ 0 ∷ 1 ∷ 0 ∷ 0 ∷ 0 ∷ 0 ∷ 0 ∷ 1 ∷ 0 ∷ 9 ∷ 0 ∷ 0 ∷ 0 ∷ 0 ∷ 0 ∷ 0 ∷ 0 ∷ 0 ∷ 0 ∷ 11 ∷ 0 ∷ 0 ∷ 0 ∷ 0 ∷ 0 ∷ 0 ∷ 255 ∷ 255 ∷ 0 ∷ 0 ∷ 0 ∷ 0 ∷ 0 ∷ 11 ∷ 0 ∷ 0 ∷ 0 ∷ 0 ∷ 0 ∷ 1 ∷ 255 ∷ 255 ∷ 0 ∷ 0 ∷ 0 ∷ 0 ∷ 0 ∷ 1 ∷ 0 ∷ 1 ∷ 0 ∷ 0 ∷ 0 ∷ 0 ∷ 0 ∷ 0 ∷ 0 ∷ 0 ∷ 0 ∷ 0 ∷ 0 ∷ 8 ∷ 0 ∷ 1 ∷ 0 ∷ 0 ∷ 0 ∷ 0 ∷ 0 ∷ 0 ∷ 0 ∷ 2 ∷ 0 ∷ 2 ∷ 0 ∷ 0 ∷ 0 ∷ 1 ∷ 0 ∷ 0 ∷ 0 ∷ 1 ∷ 0 ∷ 0 ∷ 0 ∷ 1 ∷ []

last_two_valid : valid last_two ≡ true
unfolding word_at little_endian tables_of type_at variant_at pat_at binding_at list_at operand_at operand_bytes all_below all_in all_true member distinct up_from gather is_scalar_value operand_value_holds operand_holds counts_what_follows version_is_one tables_fill_the_rest listed types_listed is_integer_size adt_may_have type_shape_holds type_holds variants_by adts_share_no_variant variant_holds binding_holds within_limits if_present subpatterns_by path_holds pattern_shape_holds pattern_holds subpatterns_below used_once valid
last_two_valid = refl

abbrev pub literal7 : List ℕ
literal7 = 0 ∷ 0 ∷ 0 ∷ 59 ∷ 1 ∷ 0 ∷ 1 ∷ 0 ∷ 0 ∷ 0 ∷ 1 ∷ 0 ∷ 0 ∷ 0 ∷ 3 ∷ 0 ∷ 16 ∷ 0 ∷ 1 ∷ 0 ∷ 1 ∷ 0 ∷ 0 ∷ 0 ∷ 0 ∷ 0 ∷ 1 ∷ 0 ∷ 10 ∷ 0 ∷ 0 ∷ 0 ∷ 0 ∷ 0 ∷ 0 ∷ 0 ∷ 0 ∷ 0 ∷ 0 ∷ 0 ∷ 0 ∷ 0 ∷ 1 ∷ 0 ∷ 0 ∷ 0 ∷ 16 ∷ 7 ∷ 0 ∷ 0 ∷ 0 ∷ 0 ∷ 0 ∷ 0 ∷ 0 ∷ 0 ∷ 0 ∷ 0 ∷ 0 ∷ 0 ∷ 0 ∷ 0 ∷ 0 ∷ []

literal7_valid : valid literal7 ≡ true
unfolding word_at little_endian tables_of type_at variant_at pat_at binding_at list_at operand_at operand_bytes all_below all_in all_true member distinct up_from gather is_scalar_value operand_value_holds operand_holds counts_what_follows version_is_one tables_fill_the_rest listed types_listed is_integer_size adt_may_have type_shape_holds type_holds variants_by adts_share_no_variant variant_holds binding_holds within_limits if_present subpatterns_by path_holds pattern_shape_holds pattern_holds subpatterns_below used_once valid
literal7_valid = refl

abbrev pub name_list : List ℕ
name_list = 0 ∷ 0 ∷ 0 ∷ 199 ∷ 1 ∷ 0 ∷ 3 ∷ 0 ∷ 3 ∷ 0 ∷ 5 ∷ 0 ∷ 1 ∷ 0 ∷ 8 ∷ 0 ∷ 48 ∷ 0 ∷ 1 ∷ 0 ∷ 1 ∷ 0 ∷ 0 ∷ 0 ∷ 0 ∷ 0 ∷ 1 ∷ 0 ∷ 6 ∷ 0 ∷ 0 ∷ 0 ∷ 1 ∷ 0 ∷ 0 ∷ 0 ∷ 0 ∷ 0 ∷ 6 ∷ 0 ∷ 1 ∷ 0 ∷ 2 ∷ 0 ∷ 1 ∷ 0 ∷ 0 ∷ 0 ∷ 0 ∷ 0 ∷ 2 ∷ 0 ∷ 0 ∷ 0 ∷ 2 ∷ 0 ∷ 1 ∷ 0 ∷ 16 ∷ 0 ∷ 3 ∷ 0 ∷ 1 ∷ 0 ∷ 32 ∷ 0 ∷ 11 ∷ 0 ∷ 1 ∷ 0 ∷ 0 ∷ 0 ∷ 0 ∷ 255 ∷ 255 ∷ 0 ∷ 0 ∷ 0 ∷ 0 ∷ 0 ∷ 12 ∷ 0 ∷ 2 ∷ 0 ∷ 0 ∷ 0 ∷ 4 ∷ 0 ∷ 1 ∷ 255 ∷ 255 ∷ 0 ∷ 1 ∷ 0 ∷ 11 ∷ 0 ∷ 1 ∷ 0 ∷ 0 ∷ 0 ∷ 0 ∷ 255 ∷ 255 ∷ 0 ∷ 0 ∷ 0 ∷ 0 ∷ 0 ∷ 12 ∷ 0 ∷ 2 ∷ 0 ∷ 0 ∷ 0 ∷ 5 ∷ 0 ∷ 1 ∷ 255 ∷ 255 ∷ 0 ∷ 2 ∷ 0 ∷ 5 ∷ 0 ∷ 2 ∷ 0 ∷ 0 ∷ 0 ∷ 6 ∷ 0 ∷ 2 ∷ 0 ∷ 0 ∷ 0 ∷ 0 ∷ 0 ∷ 1 ∷ 0 ∷ 1 ∷ 0 ∷ 0 ∷ 0 ∷ 0 ∷ 0 ∷ 1 ∷ 0 ∷ 1 ∷ 0 ∷ 0 ∷ 0 ∷ 2 ∷ 0 ∷ 1 ∷ 0 ∷ 3 ∷ 0 ∷ 0 ∷ 0 ∷ 0 ∷ 0 ∷ 0 ∷ 0 ∷ 0 ∷ 0 ∷ 0 ∷ 0 ∷ 0 ∷ 0 ∷ 0 ∷ 0 ∷ 0 ∷ 0 ∷ 0 ∷ 0 ∷ 0 ∷ 0 ∷ 0 ∷ 0 ∷ 0 ∷ 0 ∷ 0 ∷ 0 ∷ 0 ∷ 0 ∷ 0 ∷ 0 ∷ 0 ∷ 1 ∷ 0 ∷ 0 ∷ 0 ∷ 0 ∷ 0 ∷ 0 ∷ 0 ∷ 0 ∷ 0 ∷ 0 ∷ 0 ∷ 0 ∷ 0 ∷ 0 ∷ 0 ∷ []

name_list_valid : valid name_list ≡ true
unfolding word_at little_endian tables_of type_at variant_at pat_at binding_at list_at operand_at operand_bytes all_below all_in all_true member distinct up_from gather is_scalar_value operand_value_holds operand_holds counts_what_follows version_is_one tables_fill_the_rest listed types_listed is_integer_size adt_may_have type_shape_holds type_holds variants_by adts_share_no_variant variant_holds binding_holds within_limits if_present subpatterns_by path_holds pattern_shape_holds pattern_holds subpatterns_below used_once valid
name_list_valid = refl

abbrev pub negative : List ℕ
negative = 0 ∷ 0 ∷ 0 ∷ 59 ∷ 1 ∷ 0 ∷ 1 ∷ 0 ∷ 0 ∷ 0 ∷ 1 ∷ 0 ∷ 0 ∷ 0 ∷ 3 ∷ 0 ∷ 16 ∷ 0 ∷ 1 ∷ 0 ∷ 1 ∷ 0 ∷ 1 ∷ 0 ∷ 0 ∷ 0 ∷ 1 ∷ 0 ∷ 10 ∷ 0 ∷ 0 ∷ 0 ∷ 0 ∷ 0 ∷ 0 ∷ 0 ∷ 0 ∷ 0 ∷ 0 ∷ 0 ∷ 0 ∷ 0 ∷ 1 ∷ 0 ∷ 0 ∷ 0 ∷ 16 ∷ 255 ∷ 255 ∷ 255 ∷ 255 ∷ 255 ∷ 255 ∷ 255 ∷ 255 ∷ 255 ∷ 255 ∷ 255 ∷ 255 ∷ 255 ∷ 255 ∷ 255 ∷ 255 ∷ []

negative_valid : valid negative ≡ true
unfolding word_at little_endian tables_of type_at variant_at pat_at binding_at list_at operand_at operand_bytes all_below all_in all_true member distinct up_from gather is_scalar_value operand_value_holds operand_holds counts_what_follows version_is_one tables_fill_the_rest listed types_listed is_integer_size adt_may_have type_shape_holds type_holds variants_by adts_share_no_variant variant_holds binding_holds within_limits if_present subpatterns_by path_holds pattern_shape_holds pattern_holds subpatterns_below used_once valid
negative_valid = refl

abbrev pub or_1_2 : List ℕ
or_1_2 = 0 ∷ 0 ∷ 0 ∷ 113 ∷ 1 ∷ 0 ∷ 1 ∷ 0 ∷ 0 ∷ 0 ∷ 3 ∷ 0 ∷ 0 ∷ 0 ∷ 8 ∷ 0 ∷ 32 ∷ 0 ∷ 1 ∷ 0 ∷ 1 ∷ 0 ∷ 0 ∷ 0 ∷ 0 ∷ 0 ∷ 1 ∷ 0 ∷ 10 ∷ 0 ∷ 0 ∷ 0 ∷ 0 ∷ 0 ∷ 0 ∷ 0 ∷ 0 ∷ 0 ∷ 0 ∷ 0 ∷ 0 ∷ 0 ∷ 10 ∷ 0 ∷ 0 ∷ 0 ∷ 0 ∷ 0 ∷ 3 ∷ 0 ∷ 0 ∷ 0 ∷ 0 ∷ 0 ∷ 0 ∷ 0 ∷ 5 ∷ 0 ∷ 0 ∷ 0 ∷ 0 ∷ 0 ∷ 6 ∷ 0 ∷ 2 ∷ 0 ∷ 0 ∷ 0 ∷ 0 ∷ 0 ∷ 1 ∷ 0 ∷ 0 ∷ 0 ∷ 16 ∷ 0 ∷ 1 ∷ 0 ∷ 16 ∷ 0 ∷ 16 ∷ 0 ∷ 0 ∷ 0 ∷ 1 ∷ 1 ∷ 0 ∷ 0 ∷ 0 ∷ 0 ∷ 0 ∷ 0 ∷ 0 ∷ 0 ∷ 0 ∷ 0 ∷ 0 ∷ 0 ∷ 0 ∷ 0 ∷ 0 ∷ 2 ∷ 0 ∷ 0 ∷ 0 ∷ 0 ∷ 0 ∷ 0 ∷ 0 ∷ 0 ∷ 0 ∷ 0 ∷ 0 ∷ 0 ∷ 0 ∷ 0 ∷ 0 ∷ []

or_1_2_valid : valid or_1_2 ≡ true
unfolding word_at little_endian tables_of type_at variant_at pat_at binding_at list_at operand_at operand_bytes all_below all_in all_true member distinct up_from gather is_scalar_value operand_value_holds operand_holds counts_what_follows version_is_one tables_fill_the_rest listed types_listed is_integer_size adt_may_have type_shape_holds type_holds variants_by adts_share_no_variant variant_holds binding_holds within_limits if_present subpatterns_by path_holds pattern_shape_holds pattern_holds subpatterns_below used_once valid
or_1_2_valid = refl

abbrev pub range : List ℕ
range = 0 ∷ 0 ∷ 0 ∷ 81 ∷ 1 ∷ 0 ∷ 1 ∷ 0 ∷ 0 ∷ 0 ∷ 1 ∷ 0 ∷ 0 ∷ 0 ∷ 6 ∷ 0 ∷ 32 ∷ 0 ∷ 1 ∷ 0 ∷ 1 ∷ 0 ∷ 0 ∷ 0 ∷ 0 ∷ 0 ∷ 1 ∷ 0 ∷ 7 ∷ 0 ∷ 0 ∷ 0 ∷ 0 ∷ 0 ∷ 0 ∷ 0 ∷ 3 ∷ 0 ∷ 0 ∷ 0 ∷ 0 ∷ 0 ∷ 2 ∷ 0 ∷ 0 ∷ 0 ∷ 16 ∷ 0 ∷ 2 ∷ 0 ∷ 16 ∷ 0 ∷ 16 ∷ 1 ∷ 0 ∷ 0 ∷ 0 ∷ 0 ∷ 0 ∷ 0 ∷ 0 ∷ 0 ∷ 0 ∷ 0 ∷ 0 ∷ 0 ∷ 0 ∷ 0 ∷ 0 ∷ 3 ∷ 0 ∷ 0 ∷ 0 ∷ 0 ∷ 0 ∷ 0 ∷ 0 ∷ 0 ∷ 0 ∷ 0 ∷ 0 ∷ 0 ∷ 0 ∷ 0 ∷ 0 ∷ []

range_valid : valid range ≡ true
unfolding word_at little_endian tables_of type_at variant_at pat_at binding_at list_at operand_at operand_bytes all_below all_in all_true member distinct up_from gather is_scalar_value operand_value_holds operand_holds counts_what_follows version_is_one tables_fill_the_rest listed types_listed is_integer_size adt_may_have type_shape_holds type_holds variants_by adts_share_no_variant variant_holds binding_holds within_limits if_present subpatterns_by path_holds pattern_shape_holds pattern_holds subpatterns_below used_once valid
range_valid = refl

abbrev pub reference : List ℕ
reference = 0 ∷ 0 ∷ 0 ∷ 65 ∷ 1 ∷ 0 ∷ 2 ∷ 0 ∷ 0 ∷ 0 ∷ 2 ∷ 0 ∷ 1 ∷ 0 ∷ 0 ∷ 0 ∷ 0 ∷ 0 ∷ 1 ∷ 0 ∷ 1 ∷ 0 ∷ 0 ∷ 0 ∷ 0 ∷ 0 ∷ 1 ∷ 0 ∷ 7 ∷ 0 ∷ 0 ∷ 0 ∷ 0 ∷ 0 ∷ 0 ∷ 0 ∷ 1 ∷ 0 ∷ 11 ∷ 0 ∷ 0 ∷ 0 ∷ 0 ∷ 0 ∷ 0 ∷ 255 ∷ 255 ∷ 0 ∷ 0 ∷ 0 ∷ 0 ∷ 0 ∷ 13 ∷ 0 ∷ 1 ∷ 0 ∷ 0 ∷ 0 ∷ 0 ∷ 0 ∷ 0 ∷ 0 ∷ 0 ∷ 0 ∷ 0 ∷ 0 ∷ 0 ∷ 0 ∷ 1 ∷ []

reference_valid : valid reference ≡ true
unfolding word_at little_endian tables_of type_at variant_at pat_at binding_at list_at operand_at operand_bytes all_below all_in all_true member distinct up_from gather is_scalar_value operand_value_holds operand_holds counts_what_follows version_is_one tables_fill_the_rest listed types_listed is_integer_size adt_may_have type_shape_holds type_holds variants_by adts_share_no_variant variant_holds binding_holds within_limits if_present subpatterns_by path_holds pattern_shape_holds pattern_holds subpatterns_below used_once valid
reference_valid = refl

abbrev pub slice_rest : List ℕ
slice_rest = 0 ∷ 0 ∷ 0 ∷ 139 ∷ 1 ∷ 0 ∷ 4 ∷ 0 ∷ 0 ∷ 0 ∷ 5 ∷ 0 ∷ 3 ∷ 0 ∷ 2 ∷ 0 ∷ 0 ∷ 0 ∷ 1 ∷ 0 ∷ 1 ∷ 0 ∷ 0 ∷ 0 ∷ 0 ∷ 0 ∷ 1 ∷ 0 ∷ 9 ∷ 0 ∷ 0 ∷ 0 ∷ 0 ∷ 0 ∷ 0 ∷ 0 ∷ 0 ∷ 0 ∷ 7 ∷ 0 ∷ 0 ∷ 0 ∷ 0 ∷ 0 ∷ 0 ∷ 0 ∷ 1 ∷ 0 ∷ 7 ∷ 0 ∷ 1 ∷ 0 ∷ 0 ∷ 0 ∷ 0 ∷ 0 ∷ 1 ∷ 0 ∷ 11 ∷ 0 ∷ 0 ∷ 0 ∷ 0 ∷ 0 ∷ 0 ∷ 255 ∷ 255 ∷ 0 ∷ 1 ∷ 0 ∷ 0 ∷ 0 ∷ 1 ∷ 0 ∷ 1 ∷ 0 ∷ 0 ∷ 0 ∷ 0 ∷ 0 ∷ 0 ∷ 0 ∷ 0 ∷ 0 ∷ 0 ∷ 0 ∷ 11 ∷ 0 ∷ 1 ∷ 0 ∷ 0 ∷ 0 ∷ 1 ∷ 0 ∷ 1 ∷ 0 ∷ 1 ∷ 0 ∷ 0 ∷ 0 ∷ 11 ∷ 0 ∷ 0 ∷ 0 ∷ 0 ∷ 0 ∷ 2 ∷ 255 ∷ 255 ∷ 0 ∷ 1 ∷ 0 ∷ 0 ∷ 0 ∷ 8 ∷ 0 ∷ 1 ∷ 0 ∷ 1 ∷ 0 ∷ 0 ∷ 0 ∷ 1 ∷ 0 ∷ 1 ∷ 0 ∷ 2 ∷ 0 ∷ 2 ∷ 0 ∷ 1 ∷ 0 ∷ 3 ∷ 0 ∷ 1 ∷ 0 ∷ 2 ∷ 0 ∷ 1 ∷ 0 ∷ 0 ∷ 0 ∷ 3 ∷ []

slice_rest_valid : valid slice_rest ≡ true
unfolding word_at little_endian tables_of type_at variant_at pat_at binding_at list_at operand_at operand_bytes all_below all_in all_true member distinct up_from gather is_scalar_value operand_value_holds operand_holds counts_what_follows version_is_one tables_fill_the_rest listed types_listed is_integer_size adt_may_have type_shape_holds type_holds variants_by adts_share_no_variant variant_holds binding_holds within_limits if_present subpatterns_by path_holds pattern_shape_holds pattern_holds subpatterns_below used_once valid
slice_rest_valid = refl

abbrev pub string : List ℕ
string = 0 ∷ 0 ∷ 0 ∷ 56 ∷ 1 ∷ 0 ∷ 2 ∷ 0 ∷ 0 ∷ 0 ∷ 1 ∷ 0 ∷ 0 ∷ 0 ∷ 3 ∷ 0 ∷ 3 ∷ 0 ∷ 4 ∷ 0 ∷ 0 ∷ 0 ∷ 0 ∷ 0 ∷ 0 ∷ 0 ∷ 0 ∷ 0 ∷ 7 ∷ 0 ∷ 0 ∷ 0 ∷ 0 ∷ 0 ∷ 0 ∷ 0 ∷ 1 ∷ 0 ∷ 10 ∷ 0 ∷ 1 ∷ 0 ∷ 0 ∷ 0 ∷ 0 ∷ 0 ∷ 0 ∷ 0 ∷ 0 ∷ 0 ∷ 0 ∷ 0 ∷ 5 ∷ 0 ∷ 0 ∷ 0 ∷ 3 ∷ 82 ∷ 69 ∷ 84 ∷ []

string_valid : valid string ≡ true
unfolding word_at little_endian tables_of type_at variant_at pat_at binding_at list_at operand_at operand_bytes all_below all_in all_true member distinct up_from gather is_scalar_value operand_value_holds operand_holds counts_what_follows version_is_one tables_fill_the_rest listed types_listed is_integer_size adt_may_have type_shape_holds type_holds variants_by adts_share_no_variant variant_holds binding_holds within_limits if_present subpatterns_by path_holds pattern_shape_holds pattern_holds subpatterns_below used_once valid
string_valid = refl

abbrev pub struct_fields : List ℕ
struct_fields = 0 ∷ 0 ∷ 0 ∷ 105 ∷ 1 ∷ 0 ∷ 3 ∷ 0 ∷ 1 ∷ 0 ∷ 2 ∷ 0 ∷ 1 ∷ 0 ∷ 4 ∷ 0 ∷ 16 ∷ 0 ∷ 1 ∷ 0 ∷ 2 ∷ 0 ∷ 0 ∷ 0 ∷ 0 ∷ 0 ∷ 1 ∷ 0 ∷ 2 ∷ 0 ∷ 0 ∷ 0 ∷ 0 ∷ 0 ∷ 0 ∷ 0 ∷ 1 ∷ 0 ∷ 6 ∷ 0 ∷ 0 ∷ 0 ∷ 1 ∷ 0 ∷ 0 ∷ 0 ∷ 0 ∷ 0 ∷ 0 ∷ 0 ∷ 2 ∷ 0 ∷ 0 ∷ 0 ∷ 11 ∷ 0 ∷ 0 ∷ 0 ∷ 0 ∷ 0 ∷ 0 ∷ 255 ∷ 255 ∷ 0 ∷ 0 ∷ 0 ∷ 0 ∷ 0 ∷ 6 ∷ 0 ∷ 2 ∷ 0 ∷ 0 ∷ 0 ∷ 2 ∷ 0 ∷ 1 ∷ 0 ∷ 0 ∷ 0 ∷ 0 ∷ 0 ∷ 0 ∷ 0 ∷ 1 ∷ 0 ∷ 0 ∷ 0 ∷ 1 ∷ 0 ∷ 0 ∷ 0 ∷ 0 ∷ 0 ∷ 0 ∷ 0 ∷ 0 ∷ 0 ∷ 0 ∷ 0 ∷ 0 ∷ 0 ∷ 0 ∷ 0 ∷ 0 ∷ 0 ∷ 0 ∷ 0 ∷ 0 ∷ []

struct_fields_valid : valid struct_fields ≡ true
unfolding word_at little_endian tables_of type_at variant_at pat_at binding_at list_at operand_at operand_bytes all_below all_in all_true member distinct up_from gather is_scalar_value operand_value_holds operand_holds counts_what_follows version_is_one tables_fill_the_rest listed types_listed is_integer_size adt_may_have type_shape_holds type_holds variants_by adts_share_no_variant variant_holds binding_holds within_limits if_present subpatterns_by path_holds pattern_shape_holds pattern_holds subpatterns_below used_once valid
struct_fields_valid = refl

abbrev pub tuple_ellipsis : List ℕ
tuple_ellipsis = 0 ∷ 0 ∷ 0 ∷ 115 ∷ 1 ∷ 0 ∷ 2 ∷ 0 ∷ 0 ∷ 0 ∷ 4 ∷ 0 ∷ 3 ∷ 0 ∷ 7 ∷ 0 ∷ 0 ∷ 0 ∷ 1 ∷ 0 ∷ 1 ∷ 0 ∷ 0 ∷ 0 ∷ 0 ∷ 0 ∷ 1 ∷ 0 ∷ 5 ∷ 0 ∷ 0 ∷ 0 ∷ 4 ∷ 0 ∷ 0 ∷ 0 ∷ 1 ∷ 0 ∷ 11 ∷ 0 ∷ 0 ∷ 0 ∷ 0 ∷ 0 ∷ 0 ∷ 255 ∷ 255 ∷ 0 ∷ 0 ∷ 0 ∷ 0 ∷ 0 ∷ 11 ∷ 0 ∷ 0 ∷ 0 ∷ 0 ∷ 0 ∷ 1 ∷ 255 ∷ 255 ∷ 0 ∷ 0 ∷ 0 ∷ 0 ∷ 0 ∷ 11 ∷ 0 ∷ 0 ∷ 0 ∷ 0 ∷ 0 ∷ 2 ∷ 255 ∷ 255 ∷ 0 ∷ 0 ∷ 0 ∷ 0 ∷ 0 ∷ 4 ∷ 0 ∷ 1 ∷ 0 ∷ 0 ∷ 0 ∷ 4 ∷ 0 ∷ 3 ∷ 0 ∷ 1 ∷ 0 ∷ 0 ∷ 0 ∷ 0 ∷ 0 ∷ 1 ∷ 0 ∷ 0 ∷ 0 ∷ 1 ∷ 0 ∷ 0 ∷ 0 ∷ 1 ∷ 0 ∷ 0 ∷ 0 ∷ 0 ∷ 0 ∷ 0 ∷ 0 ∷ 0 ∷ 0 ∷ 0 ∷ 0 ∷ 1 ∷ 0 ∷ 2 ∷ []

tuple_ellipsis_valid : valid tuple_ellipsis ≡ true
unfolding word_at little_endian tables_of type_at variant_at pat_at binding_at list_at operand_at operand_bytes all_below all_in all_true member distinct up_from gather is_scalar_value operand_value_holds operand_holds counts_what_follows version_is_one tables_fill_the_rest listed types_listed is_integer_size adt_may_have type_shape_holds type_holds variants_by adts_share_no_variant variant_holds binding_holds within_limits if_present subpatterns_by path_holds pattern_shape_holds pattern_holds subpatterns_below used_once valid
tuple_ellipsis_valid = refl

abbrev pub used_twice : List ℕ
used_twice = 0 ∷ 0 ∷ 0 ∷ 69 ∷ 1 ∷ 0 ∷ 2 ∷ 0 ∷ 0 ∷ 0 ∷ 2 ∷ 0 ∷ 0 ∷ 0 ∷ 4 ∷ 0 ∷ 0 ∷ 0 ∷ 1 ∷ 0 ∷ 1 ∷ 0 ∷ 0 ∷ 0 ∷ 0 ∷ 0 ∷ 1 ∷ 0 ∷ 5 ∷ 0 ∷ 0 ∷ 0 ∷ 2 ∷ 0 ∷ 0 ∷ 0 ∷ 1 ∷ 0 ∷ 3 ∷ 0 ∷ 0 ∷ 0 ∷ 0 ∷ 0 ∷ 0 ∷ 0 ∷ 0 ∷ 0 ∷ 0 ∷ 0 ∷ 0 ∷ 0 ∷ 4 ∷ 0 ∷ 1 ∷ 0 ∷ 0 ∷ 0 ∷ 2 ∷ 0 ∷ 2 ∷ 255 ∷ 255 ∷ 0 ∷ 0 ∷ 0 ∷ 0 ∷ 0 ∷ 0 ∷ 0 ∷ 0 ∷ 0 ∷ 0 ∷ []

used_twice_valid : valid used_twice ≡ false
unfolding word_at little_endian tables_of type_at variant_at pat_at binding_at list_at operand_at operand_bytes all_below all_in all_true member distinct up_from gather is_scalar_value operand_value_holds operand_holds counts_what_follows version_is_one tables_fill_the_rest listed types_listed is_integer_size adt_may_have type_shape_holds type_holds variants_by adts_share_no_variant variant_holds binding_holds within_limits if_present subpatterns_by path_holds pattern_shape_holds pattern_holds subpatterns_below used_once valid
used_twice_valid = refl
