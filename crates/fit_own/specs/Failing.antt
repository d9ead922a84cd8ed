-- Whether a pattern whose types fit can fail, by its own types alone. Assumes nothing: these are definitions.
use Rattle.std.specs.Prelude.{ℕ, Bool, true, false, ◌||◌, List, [], ◌∷◌, length, take}
use Rattle.std.proofs.Math.Option.{some}
use Rattle.image.specs.Lists.{all_true}
use Rattle.image.specs.Types.{Shape, ty_of}
use Rattle.image.specs.Tree.{Target, unresolved, variant, local, constant, other, Pat, Pats, nil, cons, PatOpt, no, sub}
use Rattle.counting.specs.Reaching.{is_enum, is_slice_shape}
use Rattle.meaning.specs.Fit.{is_there}

-- one of them is true
unfoldable pub some_true : List Bool → Bool
some_true [] = false
some_true (b ∷ bs) = b || some_true bs

-- a Path that has a test
unfoldable pub path_fails : Shape → Target → Bool
path_fails shape unresolved = false
path_fails shape (variant v) = is_enum (some shape)
path_fails shape (local b) = false
path_fails shape (constant operand) = true
path_fails shape other = false

module _ (image : List ℕ) where
  unfoldable mutual
    -- a pattern can fail
    pub fails_by : Pat → Bool
    fails_by (Pat.Missing h) = false
    fails_by (Pat.Rest h) = false
    fails_by (Pat.NotNull h) = false
    fails_by (Pat.Wild h) = false
    fails_by (Pat.Tuple h args ellipsis) = some_true (failures args)
    fails_by (Pat.Or h alts) = all_true (failures alts)
    fails_by (Pat.Record h fields args v) = is_enum (some (ty_of image h.ty).shape) || some_true (take (length fields) (failures args))
    fails_by (Pat.Range h start end halfOpen) = is_there start || is_there end
    fails_by (Pat.Slice h prefix rest suffix) = is_slice_shape (ty_of image h.ty).shape || (some_true (failures prefix) || some_true (failures suffix))
    fails_by (Pat.Path h target) = path_fails (ty_of image h.ty).shape target
    fails_by (Pat.Lit h operand) = true
    fails_by (Pat.Bind h b s how annotation) = fails_by? s
    fails_by (Pat.TupleStruct h args ellipsis v) = is_enum (some (ty_of image h.ty).shape) || some_true (failures args)
    fails_by (Pat.Ref h s) = fails_by s
    fails_by (Pat.Expr h) = false
    fails_by (Pat.Box h) = false
    fails_by (Pat.Deref h) = false

    -- of each of some patterns
    pub failures : Pats → List Bool
    failures nil = []
    failures (cons q qs) = fails_by q ∷ failures qs

    pub fails_by? : PatOpt → Bool
    fails_by? no = false
    fails_by? (sub s) = fails_by s
