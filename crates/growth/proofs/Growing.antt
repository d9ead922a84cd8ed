-- Every lowering of a pattern grows a body well: by induction on the pattern. Assumes nothing.
use Prim.Native.Nat.{ℕ}
use mathlib.Core.Bool.{Bool}
use mathlib.Core.Option.{Option}
use mathlib.Core.List.{List}
use Rattle.image.specs.declared.kinds.BindingMode.{BindingMode}
use Rattle.image.specs.Types.{Operand, ty_of}
use Rattle.image.specs.Tree.{Target, unresolved, variant, local, constant, other, Pat, Pats, nil, cons, PatOpt, no, sub}
use Rattle.refusals.specs.declared.MirLowerError.{MirLowerError}
use Rattle.mir.specs.declared.rvalues.BinOp.{BinOp}
use Rattle.pattern_matching.specs.declared.MatchingMode.{MatchingMode}
use Rattle.pattern_matching.specs.Walking.{Lowering}
use Rattle.pattern_matching.specs.Tests.{range_end?}
use Rattle.pattern_matching.specs.Variants.{AdtPatternShape, tuple_pattern, ref_pattern, variant_pattern}
use Rattle.pattern_matching.specs.Slices.{slice_on}
use Rattle.pattern_matching.specs.Tests.{lit_by}
use Rattle.pattern_matching.specs.Patterns.{refusing, passing, or_pattern, end_op, range_pattern, path_pattern, bind_pattern, rest_of, pattern_match_inner, lowerings, lowering?}
use Rattle.growth.proofs.Walks.{good_next, good_out, good_check, Grows, refuses, grows_entered, AllGrow}
use Rattle.growth.proofs.Testing.{grows_lit, grows_constant, good_range_end, good_binding, grows_local}
use Rattle.growth.proofs.Fields.{grows_tuple, grows_ref, grows_variant, grows_variant?, grows_slice}
use Rattle.growth.proofs.Joining.{grows_or}

-- nothing to test and nothing to bind
grows_passing : Grows passing
grows_passing mode ctx c els place = good_out ctx c els

-- a Range: one end after the other
grows_range : (image : List ℕ) (p ty : ℕ) (start end : Option Operand) (halfOpen : Bool) → Grows (range_pattern image p ty start end halfOpen)
unfolding range_pattern
grows_range image p ty start end halfOpen mode ctx c els place =
    good_check mode _ _
    (good_next (range_end? image p ty BinOp.Le start ctx c els place) _ (good_range_end image p ty BinOp.Le start ctx c els place) (λ r.
    good_range_end image p ty (end_op halfOpen) end r.ctx r.then r.else place))
    (λ b. good_out ctx c els)

-- a Path by what it names
grows_path : (target : Target) (image bindings : List ℕ) (p ty : ℕ) → Grows (path_pattern target image bindings p ty)
unfolding path_pattern
grows_path unresolved image bindings p ty = refuses MirLowerError.UnresolvedName p
grows_path (variant v) image bindings p ty = grows_variant image p v AdtPatternShape.Unit tt
grows_path (local b) image bindings p ty = grows_local bindings p b
grows_path (constant operand) image bindings p ty = grows_constant image p ty operand
grows_path other image bindings p ty = λ mode ctx c els place.
    good_check mode _ _ (refuses MirLowerError.NotSupported p MatchingMode.Check ctx c els place) (λ b. good_out ctx c els)

-- a Bind: its subpattern, and then the binding
grows_bind : (bindings : List ℕ) (p b : ℕ) (how : BindingMode) (s : Lowering) → Grows s → Grows (bind_pattern bindings p b how s)
unfolding bind_pattern
grows_bind bindings p b how s g mode ctx c els place =
    good_next (s mode ctx c els place) _ (g mode ctx c els place) (λ r.
    good_check mode _ _ (good_out r.ctx r.then r.else) (λ m. good_binding bindings p p b how r.ctx r.then r.else place))

module _ (image bindings : List ℕ) where
  mutual
    unfolding pattern_match_inner

    pub grows : (pat : Pat) → Grows (pattern_match_inner image bindings pat)
    grows (Pat.Missing h) = grows_entered h.number h.derefs (refusing MirLowerError.IncompletePattern h.number) (refuses MirLowerError.IncompletePattern h.number)
    grows (Pat.Rest h) = grows_entered h.number h.derefs (refusing MirLowerError.IncompletePattern h.number) (refuses MirLowerError.IncompletePattern h.number)
    grows (Pat.NotNull h) = grows_entered h.number h.derefs (refusing MirLowerError.IncompletePattern h.number) (refuses MirLowerError.IncompletePattern h.number)
    grows (Pat.Wild h) = grows_entered h.number h.derefs passing grows_passing
    grows (Pat.Tuple h args ellipsis) =
        grows_entered h.number h.derefs (tuple_pattern image h.number (lowerings image bindings args) ellipsis)
        (grows_tuple image h.number (lowerings image bindings args) ellipsis (all_grow args))
    grows (Pat.Or h alts) =
        grows_entered h.number h.derefs (or_pattern h.number (lowerings image bindings alts)) (grows_or h.number (lowerings image bindings alts) (all_grow alts))
    grows (Pat.Record h fields args v) =
        grows_entered h.number h.derefs (variant_pattern image h.number v (AdtPatternShape.Record fields (lowerings image bindings args)))
        (grows_variant? image h.number v (AdtPatternShape.Record fields (lowerings image bindings args)) (all_grow args))
    grows (Pat.Range h start end halfOpen) =
        grows_entered h.number h.derefs (range_pattern image h.number h.ty start end halfOpen) (grows_range image h.number h.ty start end halfOpen)
    grows (Pat.Slice h prefix rest suffix) =
        grows_entered h.number h.derefs
        (slice_on (ty_of image h.ty).shape image bindings h.number (lowerings image bindings prefix) (rest_of rest) (lowerings image bindings suffix))
        (grows_slice (ty_of image h.ty).shape image bindings h.number (lowerings image bindings prefix) (rest_of rest) (lowerings image bindings suffix) (all_grow prefix) (all_grow suffix))
    grows (Pat.Path h target) =
        grows_entered h.number h.derefs (path_pattern target image bindings h.number h.ty) (grows_path target image bindings h.number h.ty)
    grows (Pat.Lit h operand) =
        grows_entered h.number h.derefs (lit_by operand.kind image h.number h.ty operand) (grows_lit operand.kind image h.number h.ty operand)
    grows (Pat.Bind h b s how annotation) =
        grows_entered h.number h.derefs (bind_pattern bindings h.number b how (lowering? image bindings s))
        (grows_bind bindings h.number b how (lowering? image bindings s) (grows? s))
    grows (Pat.TupleStruct h args ellipsis v) =
        grows_entered h.number h.derefs (variant_pattern image h.number v (AdtPatternShape.Tuple (lowerings image bindings args) ellipsis))
        (grows_variant? image h.number v (AdtPatternShape.Tuple (lowerings image bindings args) ellipsis) (all_grow args))
    grows (Pat.Ref h s) =
        grows_entered h.number h.derefs (ref_pattern image h.number (pattern_match_inner image bindings s))
        (grows_ref image h.number (pattern_match_inner image bindings s) (grows s))
    grows (Pat.Expr h) = grows_entered h.number h.derefs (refusing MirLowerError.Expr h.number) (refuses MirLowerError.Expr h.number)
    grows (Pat.Box h) = grows_entered h.number h.derefs (refusing MirLowerError.NotSupported h.number) (refuses MirLowerError.NotSupported h.number)
    grows (Pat.Deref h) = grows_entered h.number h.derefs (refusing MirLowerError.NotSupported h.number) (refuses MirLowerError.NotSupported h.number)

    pub all_grow : (ps : Pats) → AllGrow (lowerings image bindings ps)
    all_grow nil = tt
    all_grow (cons q qs) = (grows q, all_grow qs)

    pub grows? : (s : PatOpt) → Grows (lowering? image bindings s)
    grows? no = grows_passing
    grows? (sub s) = grows s
