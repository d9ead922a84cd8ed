-- What a default arm answers, for each kind that it stands for. Assumes nothing.
use Prim.Native.Nat.{ℕ}
use mathlib.Core.Path.{◌≡◌, refl}
use mathlib.Core.Bool.{true, false}
use mathlib.Core.List.{List, [], ◌∷◌}
use types.Run.{OneOf, miss}
use denote.Enum.Declared as Declared
use Rattle.image.specs.declared.kinds.PatKind.{PatKind}
use Rattle.image.specs.declared.kinds.PathKind.{PathKind}
use Rattle.image.specs.declared.rows.PatRow.{PatRow}
use Rattle.image.specs.Types.{Shape}
use Rattle.image.specs.Tree.{target}
use Rattle.image.specs.contracts.kinds.PatKind as pat-kind
use Rattle.image.specs.contracts.kinds.PathKind as path-kind
use Rattle.meaning.specs.Fit.{path_taken}
use Rattle.fit_own.specs.declared.Reached.{Reached}
use Rattle.fit_own.specs.Rows.{path_kind_fails, rest_kind_taken, own_taken, own_test, below_reached}

-- `rest_kind_taken`
pub no_binding_lem : (kind : PatKind) (bindings : List ℕ) (a : ℕ) → OneOf (0 ∷ 1 ∷ 2 ∷ 3 ∷ 4 ∷ 5 ∷ 6 ∷ 7 ∷ 8 ∷ 9 ∷ 10 ∷ 12 ∷ 13 ∷ 14 ∷ 15 ∷ 16 ∷ 17 ∷ []) (Declared.tag_of pat-kind.the_type kind) → true ≡ rest_kind_taken bindings kind a
no_binding_lem PatKind.Missing bindings a h = refl
no_binding_lem PatKind.Rest bindings a h = refl
no_binding_lem PatKind.NotNull bindings a h = refl
no_binding_lem PatKind.Wild bindings a h = refl
no_binding_lem PatKind.Tuple bindings a h = refl
no_binding_lem PatKind.Or bindings a h = refl
no_binding_lem PatKind.Record bindings a h = refl
no_binding_lem PatKind.Range bindings a h = refl
no_binding_lem PatKind.Slice bindings a h = refl
no_binding_lem PatKind.Path bindings a h = refl
no_binding_lem PatKind.Lit bindings a h = refl
no_binding_lem PatKind.Bind bindings a h = absurd (miss (0 ∷ 1 ∷ 2 ∷ 3 ∷ 4 ∷ 5 ∷ 6 ∷ 7 ∷ 8 ∷ 9 ∷ 10 ∷ 12 ∷ 13 ∷ 14 ∷ 15 ∷ 16 ∷ 17 ∷ []) 11 tt h)
no_binding_lem PatKind.TupleStruct bindings a h = refl
no_binding_lem PatKind.Ref bindings a h = refl
no_binding_lem PatKind.Expr bindings a h = refl
no_binding_lem PatKind.Box bindings a h = refl
no_binding_lem PatKind.Deref bindings a h = refl
no_binding_lem PatKind.Unknown bindings a h = refl

-- `path_taken` and `path_fails`
module _ (shape : Shape) where
  pub path_refused : (kind : PathKind) (image : List ℕ) (b : ℕ) → OneOf (0 ∷ 2 ∷ 4 ∷ 5 ∷ []) (Declared.tag_of path-kind.the_type kind) → false ≡ path_taken shape (target kind image b)
  unfolding path_taken target
  path_refused PathKind.Unresolved image b h = refl
  path_refused PathKind.Variant image b h = absurd (miss (0 ∷ 2 ∷ 4 ∷ 5 ∷ []) 1 tt h)
  path_refused PathKind.Local image b h = refl
  path_refused PathKind.Constant image b h = absurd (miss (0 ∷ 2 ∷ 4 ∷ 5 ∷ []) 3 tt h)
  path_refused PathKind.Other image b h = refl
  path_refused PathKind.Unknown image b h = refl

  pub path_sure : (kind : PathKind) → OneOf (0 ∷ 2 ∷ 4 ∷ 5 ∷ []) (Declared.tag_of path-kind.the_type kind) → false ≡ path_kind_fails shape kind
  path_sure PathKind.Unresolved h = refl
  path_sure PathKind.Variant h = absurd (miss (0 ∷ 2 ∷ 4 ∷ 5 ∷ []) 1 tt h)
  path_sure PathKind.Local h = refl
  path_sure PathKind.Constant h = absurd (miss (0 ∷ 2 ∷ 4 ∷ 5 ∷ []) 3 tt h)
  path_sure PathKind.Other h = refl
  path_sure PathKind.Unknown h = refl

-- `own_test`, `own_taken` and `below`
module _ (image : List ℕ) (row : PatRow) where
  pub own_sure : (kind : PatKind) → OneOf (0 ∷ 1 ∷ 2 ∷ 3 ∷ 4 ∷ 5 ∷ 11 ∷ 13 ∷ 14 ∷ 15 ∷ 16 ∷ 17 ∷ []) (Declared.tag_of pat-kind.the_type kind) → false ≡ own_test image kind row
  unfolding own_test
  own_sure PatKind.Missing h = refl
  own_sure PatKind.Rest h = refl
  own_sure PatKind.NotNull h = refl
  own_sure PatKind.Wild h = refl
  own_sure PatKind.Tuple h = refl
  own_sure PatKind.Or h = refl
  own_sure PatKind.Record h = absurd (miss (0 ∷ 1 ∷ 2 ∷ 3 ∷ 4 ∷ 5 ∷ 11 ∷ 13 ∷ 14 ∷ 15 ∷ 16 ∷ 17 ∷ []) 6 tt h)
  own_sure PatKind.Range h = absurd (miss (0 ∷ 1 ∷ 2 ∷ 3 ∷ 4 ∷ 5 ∷ 11 ∷ 13 ∷ 14 ∷ 15 ∷ 16 ∷ 17 ∷ []) 7 tt h)
  own_sure PatKind.Slice h = absurd (miss (0 ∷ 1 ∷ 2 ∷ 3 ∷ 4 ∷ 5 ∷ 11 ∷ 13 ∷ 14 ∷ 15 ∷ 16 ∷ 17 ∷ []) 8 tt h)
  own_sure PatKind.Path h = absurd (miss (0 ∷ 1 ∷ 2 ∷ 3 ∷ 4 ∷ 5 ∷ 11 ∷ 13 ∷ 14 ∷ 15 ∷ 16 ∷ 17 ∷ []) 9 tt h)
  own_sure PatKind.Lit h = absurd (miss (0 ∷ 1 ∷ 2 ∷ 3 ∷ 4 ∷ 5 ∷ 11 ∷ 13 ∷ 14 ∷ 15 ∷ 16 ∷ 17 ∷ []) 10 tt h)
  own_sure PatKind.Bind h = refl
  own_sure PatKind.TupleStruct h = absurd (miss (0 ∷ 1 ∷ 2 ∷ 3 ∷ 4 ∷ 5 ∷ 11 ∷ 13 ∷ 14 ∷ 15 ∷ 16 ∷ 17 ∷ []) 12 tt h)
  own_sure PatKind.Ref h = refl
  own_sure PatKind.Expr h = refl
  own_sure PatKind.Box h = refl
  own_sure PatKind.Deref h = refl
  own_sure PatKind.Unknown h = refl

  module _ (bindings : List ℕ) where
    pub own_refused : (kind : PatKind) → OneOf (0 ∷ 1 ∷ 2 ∷ 14 ∷ 15 ∷ 16 ∷ 17 ∷ []) (Declared.tag_of pat-kind.the_type kind) → false ≡ own_taken image bindings kind row
    unfolding own_taken
    own_refused PatKind.Missing h = refl
    own_refused PatKind.Rest h = refl
    own_refused PatKind.NotNull h = refl
    own_refused PatKind.Wild h = absurd (miss (0 ∷ 1 ∷ 2 ∷ 14 ∷ 15 ∷ 16 ∷ 17 ∷ []) 3 tt h)
    own_refused PatKind.Tuple h = absurd (miss (0 ∷ 1 ∷ 2 ∷ 14 ∷ 15 ∷ 16 ∷ 17 ∷ []) 4 tt h)
    own_refused PatKind.Or h = absurd (miss (0 ∷ 1 ∷ 2 ∷ 14 ∷ 15 ∷ 16 ∷ 17 ∷ []) 5 tt h)
    own_refused PatKind.Record h = absurd (miss (0 ∷ 1 ∷ 2 ∷ 14 ∷ 15 ∷ 16 ∷ 17 ∷ []) 6 tt h)
    own_refused PatKind.Range h = absurd (miss (0 ∷ 1 ∷ 2 ∷ 14 ∷ 15 ∷ 16 ∷ 17 ∷ []) 7 tt h)
    own_refused PatKind.Slice h = absurd (miss (0 ∷ 1 ∷ 2 ∷ 14 ∷ 15 ∷ 16 ∷ 17 ∷ []) 8 tt h)
    own_refused PatKind.Path h = absurd (miss (0 ∷ 1 ∷ 2 ∷ 14 ∷ 15 ∷ 16 ∷ 17 ∷ []) 9 tt h)
    own_refused PatKind.Lit h = absurd (miss (0 ∷ 1 ∷ 2 ∷ 14 ∷ 15 ∷ 16 ∷ 17 ∷ []) 10 tt h)
    own_refused PatKind.Bind h = absurd (miss (0 ∷ 1 ∷ 2 ∷ 14 ∷ 15 ∷ 16 ∷ 17 ∷ []) 11 tt h)
    own_refused PatKind.TupleStruct h = absurd (miss (0 ∷ 1 ∷ 2 ∷ 14 ∷ 15 ∷ 16 ∷ 17 ∷ []) 12 tt h)
    own_refused PatKind.Ref h = absurd (miss (0 ∷ 1 ∷ 2 ∷ 14 ∷ 15 ∷ 16 ∷ 17 ∷ []) 13 tt h)
    own_refused PatKind.Expr h = refl
    own_refused PatKind.Box h = refl
    own_refused PatKind.Deref h = refl
    own_refused PatKind.Unknown h = refl

    pub none_below : (kind : PatKind) → OneOf (0 ∷ 1 ∷ 2 ∷ 3 ∷ 7 ∷ 9 ∷ 10 ∷ 14 ∷ 15 ∷ 16 ∷ 17 ∷ []) (Declared.tag_of pat-kind.the_type kind) → Reached.Sure ≡ below_reached image bindings kind row
    unfolding below_reached
    none_below PatKind.Missing h = refl
    none_below PatKind.Rest h = refl
    none_below PatKind.NotNull h = refl
    none_below PatKind.Wild h = refl
    none_below PatKind.Tuple h = absurd (miss (0 ∷ 1 ∷ 2 ∷ 3 ∷ 7 ∷ 9 ∷ 10 ∷ 14 ∷ 15 ∷ 16 ∷ 17 ∷ []) 4 tt h)
    none_below PatKind.Or h = absurd (miss (0 ∷ 1 ∷ 2 ∷ 3 ∷ 7 ∷ 9 ∷ 10 ∷ 14 ∷ 15 ∷ 16 ∷ 17 ∷ []) 5 tt h)
    none_below PatKind.Record h = absurd (miss (0 ∷ 1 ∷ 2 ∷ 3 ∷ 7 ∷ 9 ∷ 10 ∷ 14 ∷ 15 ∷ 16 ∷ 17 ∷ []) 6 tt h)
    none_below PatKind.Range h = refl
    none_below PatKind.Slice h = absurd (miss (0 ∷ 1 ∷ 2 ∷ 3 ∷ 7 ∷ 9 ∷ 10 ∷ 14 ∷ 15 ∷ 16 ∷ 17 ∷ []) 8 tt h)
    none_below PatKind.Path h = refl
    none_below PatKind.Lit h = refl
    none_below PatKind.Bind h = absurd (miss (0 ∷ 1 ∷ 2 ∷ 3 ∷ 7 ∷ 9 ∷ 10 ∷ 14 ∷ 15 ∷ 16 ∷ 17 ∷ []) 11 tt h)
    none_below PatKind.TupleStruct h = absurd (miss (0 ∷ 1 ∷ 2 ∷ 3 ∷ 7 ∷ 9 ∷ 10 ∷ 14 ∷ 15 ∷ 16 ∷ 17 ∷ []) 12 tt h)
    none_below PatKind.Ref h = absurd (miss (0 ∷ 1 ∷ 2 ∷ 3 ∷ 7 ∷ 9 ∷ 10 ∷ 14 ∷ 15 ∷ 16 ∷ 17 ∷ []) 13 tt h)
    none_below PatKind.Expr h = refl
    none_below PatKind.Box h = refl
    none_below PatKind.Deref h = refl
    none_below PatKind.Unknown h = refl
