-- What a default arm answers, for each kind that it stands for. Assumes nothing.
use Prim.Native.Nat.{ℕ}
use mathlib.Core.Path.{◌≡◌, refl}
use mathlib.Core.Bool.{true}
use mathlib.Core.List.{List, [], ◌∷◌}
use types.Run.{OneOf, miss}
use denote.Enum.Declared as Declared
use Rattle.image.specs.declared.kinds.AdtKind.{AdtKind}
use Rattle.image.specs.declared.kinds.PathKind.{PathKind}
use Rattle.image.specs.Types.{Shape, adt}
use Rattle.image.specs.Tree.{target}
use Rattle.image.specs.contracts.kinds.AdtKind as adt_kind_lem
use Rattle.image.specs.contracts.kinds.PathKind as path-kind
use Rattle.meaning.specs.Fit.{discriminants_differ, path_fits}

-- `discriminants_differ`
pub no_discriminants : (kind : AdtKind) (image variants : List ℕ) → OneOf (0 ∷ 2 ∷ 3 ∷ []) (Declared.tag_of adt_kind_lem.the_type kind) → true ≡ discriminants_differ image (adt kind variants)
unfolding discriminants_differ
no_discriminants AdtKind.Struct image variants h = refl
no_discriminants AdtKind.Enum image variants h = absurd (miss (0 ∷ 2 ∷ 3 ∷ []) 1 tt h)
no_discriminants AdtKind.Union image variants h = refl
no_discriminants AdtKind.Unknown image variants h = refl

-- `path_fits`
pub path_asks_nothing : (kind : PathKind) (image : List ℕ) (shape : Shape) (b : ℕ) → OneOf (0 ∷ 2 ∷ 4 ∷ 5 ∷ []) (Declared.tag_of path-kind.the_type kind) → true ≡ path_fits image shape (target kind image b)
unfolding path_fits target
path_asks_nothing PathKind.Unresolved image shape b h = refl
path_asks_nothing PathKind.Variant image shape b h = absurd (miss (0 ∷ 2 ∷ 4 ∷ 5 ∷ []) 1 tt h)
path_asks_nothing PathKind.Local image shape b h = refl
path_asks_nothing PathKind.Constant image shape b h = absurd (miss (0 ∷ 2 ∷ 4 ∷ 5 ∷ []) 3 tt h)
path_asks_nothing PathKind.Other image shape b h = refl
path_asks_nothing PathKind.Unknown image shape b h = refl
