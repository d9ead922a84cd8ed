-- The discriminants of variants, as the code reads them. Assumes nothing: these are definitions.
use Rattle.std.specs.Prelude.{ℕ, ◌+◌, ◌*◌, List, map}
use Rattle.image.specs.Integers.{value_count}
use Rattle.image.specs.Lists.{up_from}
use Rattle.image.specs.Types.{variant_of}
use Rattle.fit_variants.specs.declared.discriminants.Discriminant.{Discriminant}

-- the number of a discriminant's two halves
abbrev pub discriminant_number : Discriminant → ℕ
discriminant_number d = d.low + value_count 8 * d.high

-- the discriminants of the variants from `from` on
unfoldable pub discriminants : List ℕ → ℕ → ℕ → List ℕ
discriminants image from count = map (λ v. (variant_of image v).discriminant) (up_from from count)
