-- A part of the test of an image: some of the rules of `valid`. Assumes nothing: these are definitions.
use Rattle.std.specs.Prelude.{ℕ, Bool, List, [], ◌∷◌}
use Rattle.image.specs.Tables.{type_count, variant_count, binding_count}
use Rattle.image.specs.Lists.{all_below, all_true}
use Rattle.image.specs.Rules.{type_holds, variant_holds, binding_holds}

-- the rules on single rows of types, variants and bindings
unfoldable pub rows_hold : List ℕ → Bool
rows_hold image =
    all_true (
    all_below (type_holds image) (type_count image)
    ∷ all_below (variant_holds image) (variant_count image)
    ∷ all_below (binding_holds image) (binding_count image)
    ∷ []
    )
