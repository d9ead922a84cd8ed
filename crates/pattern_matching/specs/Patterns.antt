-- The lowering of patterns, as pattern_matching.rs does it but for requests S-1, S-4 and S-5: a transcription by recursion over the tree. Refusals come in the order in which it meets them.
-- Assumes nothing: these are definitions.
use Rattle.std.specs.Prelude.{Some, None}
use Rattle.std.specs.Prelude.{ℕ, Bool, true, false, List, [], ◌∷◌}
use Rattle.std.proofs.Math.Option.{Option, none}
use Rattle.image.specs.declared.kinds.BindingMode.{BindingMode}
use Rattle.image.specs.Types.{Operand, ty_of}
use Rattle.image.specs.Tree.{Target, unresolved, variant, local, constant, other, Pat, Pats, nil, cons, PatOpt, no, sub}
use Rattle.refusals.specs.declared.MirLowerError.{MirLowerError}
use Rattle.refusals.specs.Refusals.{no_pattern}
use Rattle.place.specs.declared.LocalId.{LocalId}
use Rattle.place.specs.declared.Place.{Place}
use Rattle.mir.specs.declared.BasicBlockId.{BasicBlockId}
use Rattle.mir.specs.declared.blocks.Terminator.{Terminator}
use Rattle.mir.specs.declared.rvalues.BinOp.{BinOp}
use Rattle.state.specs.Steps.{next_block, try_block, set_terminator}
use Rattle.lower_spec.specs.Results.{OptBlock}
use Rattle.lower_spec.specs.Merging.{set_goto}
use Rattle.pattern_matching.specs.declared.MatchingMode.{MatchingMode}
use Rattle.pattern_matching.specs.Walking.{Ctx, Out, Walk, ok, refused, Lowering, next, step, out, with_state, local_place, else_state, else_block, entered, in_check}
use Rattle.pattern_matching.specs.Tests.{lit_by, constant_path, range_end?, pattern_match_binding, local_path}
use Rattle.pattern_matching.specs.Variants.{AdtPatternShape, tuple_pattern, ref_pattern, pattern_matching_variant, variant_pattern}
use Rattle.pattern_matching.specs.Slices.{RestOf, slice_on}

-- a pattern that the walk refuses whenever it reaches it
abbrev pub refusing : MirLowerError → ℕ → Lowering
refusing e p mode ctx current else place = refused e p

-- a pattern that has nothing to test and nothing to bind
abbrev pub passing : Lowering
passing mode ctx current else place = out ctx current else

-- what the loop over alternatives leaves: the block where the last of them does not match, if it can fail
pub record Alternatives : Type 0 where
  pub ctx : Ctx
  pub left : OptBlock

-- an alternative that matched goes on at `join`; the next one starts where it does not match, and behind one that cannot fail none is lowered
abbrev pub behind : OptBlock → Ctx → (BasicBlockId → Walk Alternatives) → Walk Alternatives
behind None ctx rest = ok (record { ctx = ctx; left = None })
behind (Some b) ctx rest = rest b

-- beyond Check an alternative is tested, and then walked again in the mode that is asked for
abbrev pub alternative : Lowering → MatchingMode → Ctx → BasicBlockId → Place → Walk Out
alternative alt mode ctx current place =
    next (alt MatchingMode.Check ctx current None place) (λ c.
    in_check mode (ok c)
    (next (alt mode c.ctx c.then None place) (λ b. out b.ctx b.then c.else)))

unfoldable pub alternatives : ℕ → List Lowering → MatchingMode → Ctx → BasicBlockId → BasicBlockId → Place → Walk Alternatives
alternatives p [] mode ctx join current place = ok (record { ctx = ctx; left = Some current })
alternatives p (alt ∷ alts) mode ctx join current place =
    next (alternative alt mode ctx current place) (λ r.
    behind r.else (with_state r.ctx (set_goto r.ctx.state r.then join)) (λ b.
    alternatives p alts mode (with_state r.ctx (set_goto r.ctx.state r.then join)) join b place))

-- where all alternatives can fail, a mismatch goes on at the else in Check, and cannot be otherwise
unfoldable pub alternatives_end : ℕ → MatchingMode → Alternatives → BasicBlockId → OptBlock → Walk Out
alternatives_end p mode alts join else = ended alts.left
  where
    ended : OptBlock → Walk Out
    ended None = out alts.ctx join else
    ended (Some b) =
        in_check mode
        (step p (else_state alts.ctx.state else) (λ st.
        out (with_state alts.ctx (set_goto st b (else_block alts.ctx.state else))) join (Some (else_block alts.ctx.state else))))
        (out (with_state alts.ctx (set_terminator alts.ctx.state b Terminator.Unreachable)) join else)

unfoldable pub or_pattern : ℕ → List Lowering → Lowering
or_pattern p alts mode ctx current else place =
    step p (try_block ctx.state) (λ st.
    next (alternatives p alts mode (with_state ctx st) (next_block ctx.state) current place) (λ r.
    alternatives_end p mode r (next_block ctx.state) else))

-- the test of a range's end: it is not below the value, and of a half-open range it is above it (request S-1)
unfoldable pub end_op : Bool → BinOp
end_op true = BinOp.Gt
end_op false = BinOp.Ge

-- the start is tested whole before the end is looked at
unfoldable pub range_pattern : List ℕ → ℕ → ℕ → Option Operand → Option Operand → Bool → Lowering
range_pattern image p ty start end halfOpen mode ctx current else place =
    in_check mode
    (next (range_end? image p ty BinOp.Le start ctx current else place) (λ r.
    range_end? image p ty (end_op halfOpen) end r.ctx r.then r.else place))
    (out ctx current else)

-- a Path by what it names
unfoldable pub path_pattern : Target → List ℕ → List ℕ → ℕ → ℕ → Lowering
path_pattern unresolved image bindings p ty mode ctx current else place = refused MirLowerError.UnresolvedName p
path_pattern (variant v) image bindings p ty mode ctx current else place =
    pattern_matching_variant image p v AdtPatternShape.Unit mode ctx current else place
path_pattern (local b) image bindings p ty mode ctx current else place = local_path bindings p b mode ctx current else place
path_pattern (constant operand) image bindings p ty mode ctx current else place = constant_path image p ty operand mode ctx current else place
path_pattern other image bindings p ty mode ctx current else place = in_check mode (refused MirLowerError.NotSupported p) (out ctx current else)

-- a Bind: its subpattern first, and then, beyond Check, the binding
unfoldable pub bind_pattern : List ℕ → ℕ → ℕ → BindingMode → Lowering → Lowering
bind_pattern bindings p b how subpattern mode ctx current else place =
    next (subpattern mode ctx current else place) (λ r.
    in_check mode (ok r) (pattern_match_binding bindings p p b how r.ctx r.then r.else place))

-- a rest: a Bind of any subpattern is filled, and anything else is not looked at
unfoldable pub rest_by : Pat → RestOf
rest_by (Pat.Missing h) = RestOf.ignores
rest_by (Pat.Rest h) = RestOf.ignores
rest_by (Pat.NotNull h) = RestOf.ignores
rest_by (Pat.Wild h) = RestOf.ignores
rest_by (Pat.Tuple h args ellipsis) = RestOf.ignores
rest_by (Pat.Or h alts) = RestOf.ignores
rest_by (Pat.Record h fields args v) = RestOf.ignores
rest_by (Pat.Range h start end halfOpen) = RestOf.ignores
rest_by (Pat.Slice h prefix rest suffix) = RestOf.ignores
rest_by (Pat.Path h target) = RestOf.ignores
rest_by (Pat.Lit h operand) = RestOf.ignores
rest_by (Pat.Bind h b s how annotation) = RestOf.binds h.number b how
rest_by (Pat.TupleStruct h args ellipsis v) = RestOf.ignores
rest_by (Pat.Ref h s) = RestOf.ignores
rest_by (Pat.Expr h) = RestOf.ignores
rest_by (Pat.Box h) = RestOf.ignores
rest_by (Pat.Deref h) = RestOf.ignores

unfoldable pub rest_of : PatOpt → RestOf
rest_of no = RestOf.none
rest_of (sub rest) = rest_by rest

-- `pattern_match_inner`, on the patterns of an image, whose bindings' locals are `bindings`
module _ (image bindings : List ℕ) where
  unfoldable mutual
    pub pattern_match_inner : Pat → Lowering
    pattern_match_inner (Pat.Missing h) = entered h.number h.derefs (refusing MirLowerError.IncompletePattern h.number)
    pattern_match_inner (Pat.Rest h) = entered h.number h.derefs (refusing MirLowerError.IncompletePattern h.number)
    pattern_match_inner (Pat.NotNull h) = entered h.number h.derefs (refusing MirLowerError.IncompletePattern h.number)
    pattern_match_inner (Pat.Wild h) = entered h.number h.derefs passing
    pattern_match_inner (Pat.Tuple h args ellipsis) = entered h.number h.derefs (tuple_pattern image h.number (lowerings args) ellipsis)
    pattern_match_inner (Pat.Or h alts) = entered h.number h.derefs (or_pattern h.number (lowerings alts))
    pattern_match_inner (Pat.Record h fields args v) =
        entered h.number h.derefs (variant_pattern image h.number v (AdtPatternShape.Record fields (lowerings args)))
    pattern_match_inner (Pat.Range h start end halfOpen) = entered h.number h.derefs (range_pattern image h.number h.ty start end halfOpen)
    pattern_match_inner (Pat.Slice h prefix rest suffix) =
        entered h.number h.derefs (slice_on (ty_of image h.ty).shape image bindings h.number (lowerings prefix) (rest_of rest) (lowerings suffix))
    pattern_match_inner (Pat.Path h target) = entered h.number h.derefs (path_pattern target image bindings h.number h.ty)
    pattern_match_inner (Pat.Lit h operand) = entered h.number h.derefs (lit_by operand.kind image h.number h.ty operand)
    pattern_match_inner (Pat.Bind h b s how annotation) = entered h.number h.derefs (bind_pattern bindings h.number b how (lowering? s))
    pattern_match_inner (Pat.TupleStruct h args ellipsis v) =
        entered h.number h.derefs (variant_pattern image h.number v (AdtPatternShape.Tuple (lowerings args) ellipsis))
    pattern_match_inner (Pat.Ref h s) = entered h.number h.derefs (ref_pattern image h.number (pattern_match_inner s))
    pattern_match_inner (Pat.Expr h) = entered h.number h.derefs (refusing MirLowerError.Expr h.number)
    pattern_match_inner (Pat.Box h) = entered h.number h.derefs (refusing MirLowerError.NotSupported h.number)
    pattern_match_inner (Pat.Deref h) = entered h.number h.derefs (refusing MirLowerError.NotSupported h.number)

    -- the lowerings of patterns in a row
    pub lowerings : Pats → List Lowering
    lowerings nil = []
    lowerings (cons q qs) = pattern_match_inner q ∷ lowerings qs

    -- a subpattern that may be absent
    pub lowering? : PatOpt → Lowering
    lowering? no = passing
    lowering? (sub s) = pattern_match_inner s

  -- `pattern_match`: the pattern is walked in Check, and then in Bind
  unfoldable pub pattern_match : Pat → Ctx → BasicBlockId → OptBlock → Place → Walk Out
  pattern_match pat ctx current else place =
      next (pattern_match_inner pat MatchingMode.Check ctx current else place) (λ r.
      pattern_match_inner pat MatchingMode.Bind r.ctx r.then r.else place)

  -- `pattern_match_assignment`: it is walked in Assign, with no else
  unfoldable pub pattern_match_assignment : Pat → Ctx → BasicBlockId → Place → Walk Out
  pattern_match_assignment pat ctx current place = pattern_match_inner pat MatchingMode.Assign ctx current None place

  -- `match_self_param`: a binding is filled with a copy of a local
  unfoldable pub match_self_param : ℕ → Ctx → BasicBlockId → LocalId → Walk Out
  match_self_param b ctx current l = pattern_match_binding bindings no_pattern no_pattern b BindingMode.Value ctx current None (local_place l)
