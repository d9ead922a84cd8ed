-- The type sheet: a byte string in the image's form, in which the count of patterns may be 0; every other rule of an image holds of it.
-- Assumes nothing: these are definitions.
use Rattle.std.specs.Prelude.{ℕ, Bool, ◌&&◌, List, [], ◌∷◌, leb}
use Rattle.image.specs.Tables.{type_count, variant_count, pattern_count, binding_count, list_count, data_count}
use Rattle.image.specs.Lists.{all_below, all_true}
use Rattle.image.specs.Rules.{counts_what_follows, version_is_one, tables_fill_the_rest, type_holds, adts_share_no_variant, variant_holds, binding_holds}
use Rattle.image.specs.Patterns.{pattern_holds, subpatterns_below, used_once}

-- "At most T 256, V 512, P 512 .., B 256, L 2,048, D 16,384."
unfoldable pub within_sheet_limits : List ℕ → Bool
within_sheet_limits sheet =
    leb (type_count sheet) 256
    && leb (variant_count sheet) 512
    && leb (pattern_count sheet) 512
    && leb (binding_count sheet) 256
    && leb (list_count sheet) 2048
    && leb (data_count sheet) 16384

-- the rules, in the document's order
abbrev pub sheet_rules : List ℕ → List Bool
sheet_rules sheet =
    counts_what_follows sheet
    ∷ version_is_one sheet
    ∷ tables_fill_the_rest sheet
    ∷ all_below (type_holds sheet) (type_count sheet)
    ∷ all_below (variant_holds sheet) (variant_count sheet)
    ∷ adts_share_no_variant sheet
    ∷ all_below (pattern_holds sheet) (pattern_count sheet)
    ∷ all_below (binding_holds sheet) (binding_count sheet)
    ∷ all_below (subpatterns_below sheet) (pattern_count sheet)
    ∷ used_once sheet
    ∷ within_sheet_limits sheet
    ∷ []

-- the sheet keeps its rules
unfoldable pub sheet_holds : List ℕ → Bool
sheet_holds sheet = all_true (sheet_rules sheet)
