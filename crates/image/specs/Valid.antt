-- An image is valid when each rule of document 01's section "The image", and of the paragraph after it, holds. Assumes nothing: these are definitions.
use Rattle.std.specs.Prelude.{ℕ, Bool, List, [], ◌∷◌}
use Rattle.image.specs.Tables.{type_count, variant_count, pattern_count, binding_count}
use Rattle.image.specs.Lists.{all_below, all_true}
use Rattle.image.specs.Rules.{counts_what_follows, version_is_one, tables_fill_the_rest, type_holds, adts_share_no_variant, variant_holds, binding_holds, within_limits}
use Rattle.image.specs.Patterns.{pattern_holds, subpatterns_below, used_once}

-- the rules, in the document's order
abbrev pub rules : List ℕ → List Bool
rules image =
    counts_what_follows image
    ∷ version_is_one image
    ∷ tables_fill_the_rest image
    ∷ all_below (type_holds image) (type_count image)
    ∷ all_below (variant_holds image) (variant_count image)
    ∷ adts_share_no_variant image
    ∷ all_below (pattern_holds image) (pattern_count image)
    ∷ all_below (binding_holds image) (binding_count image)
    ∷ all_below (subpatterns_below image) (pattern_count image)
    ∷ used_once image
    ∷ within_limits image
    ∷ []

-- "image .. breaks a rule above": where this is false the image is refused with number 1
unfoldable pub valid : List ℕ → Bool
valid image = all_true (rules image)
