-- No walk over a pattern names a local that there is not: by induction over the tree. Assumes nothing.
use Rattle.std.specs.Prelude.{Some, None}
use Prim.Native.Nat.{ℕ, zero, suc, ◌+◌, ◌<◌}
use mathlib.Core.Bool.{Bool, true, false, cond}
use mathlib.Core.Option.{Option, none, some}
use mathlib.Core.List.{List, [], ◌∷◌, map, reverse, reverse_aux}
use lib.Dec.{leb}
use lib.ListN.{length, take, drop}
use Rattle.refusals.specs.declared.MirLowerError.{MirLowerError}
use Rattle.image.specs.declared.kinds.AdtKind.{AdtKind}
use Rattle.image.specs.declared.kinds.BindingMode.{BindingMode}
use Rattle.image.specs.Lists.{member, up_from}
use Rattle.image.specs.Types.{Shape, integer, bool, char, str, tuple, adt, reference, array, slice, unknown, ty_of, variant_of, Operand}
use Rattle.image.specs.Tree.{Target, unresolved, variant, local, constant, other, Pat, Pats, nil, cons, PatOpt, no, sub}
use Rattle.place.specs.declared.Place.{Place}
use Rattle.place.specs.declared.elems.ProjectionElem.{ProjectionElem}
use Rattle.mir.specs.declared.BasicBlockId.{BasicBlockId}
use Rattle.mir.specs.declared.blocks.Terminator.{Terminator}
use Rattle.mir.specs.declared.rvalues.BinOp.{BinOp}
use Rattle.state.specs.State.{State}
use Rattle.state.specs.Steps.{next_block, try_block}
use Rattle.lower_spec.specs.Results.{OptBlock}
use Rattle.lower_spec.specs.Merging.{set_goto}
use Rattle.pattern_matching.specs.declared.MatchingMode.{MatchingMode}
use Rattle.pattern_matching.specs.Walking.{Ctx, Out, Walk, refused, Lowering, out, with_state, visited, project, derefed, entered, else_state, else_block, in_check}
use Rattle.pattern_matching.specs.Tests.{range_end?, lit_by}
use Rattle.pattern_matching.specs.Variants.{place_ty, shape_of, needed, pattern_match_adt, fields_up_to, pattern_match_tuple_like, ellipsis_at, tuple_on, tuple_pattern, ref_on, ref_pattern, AdtPatternShape, resolved, record_fields, variant_fields, discriminant_test, variant_on, adt_on, pattern_matching_variant, variant_pattern}
use Rattle.pattern_matching.specs.Slices.{RestOf, length_test, rest_bound, slice_items, slice_on, suffix_items}
use Rattle.pattern_matching.specs.Patterns.{refusing, passing, Alternatives, behind, alternative, alternatives, alternatives_end, or_pattern, end_op, range_pattern, path_pattern, bind_pattern, rest_of, pattern_match_inner, lowerings, lowering?}
use Rattle.counting.proofs.Holding.{Holds, holds, refuses, holds_next, holds_step}
use Rattle.named.proofs.Keeping.{Kept, kept_terminator, keeps_block, keeps_else}
use Rattle.named.specs.Named.{WordsBelow}
use Rattle.named.proofs.Testing.{KeptBehind, Keeps, in_check_lem, keeps_out, same_root, keeps_constant, keeps_end, keeps_discriminant, keeps_length, keeps_binding, keeps_local, keeps_lit}

-- one that refuses always
keeps_refused : {s₀ : State} {n : ℕ} (x : MirLowerError) (p : ℕ) → Keeps s₀ n (λ mode ctx c els place. refused x p)
keeps_refused {s₀} {n} x p mode ctx c els place h k = refuses (KeptBehind s₀ n) x p

-- nothing to test, and nothing to bind
keeps_passing : {s₀ : State} {n : ℕ} → Keeps s₀ n passing
keeps_passing mode ctx c els place h k = keeps_out ctx c els k

-- what needs the type of a place
keeps_needed : {s₀ : State} {n : ℕ} (p : ℕ) (x : Option Shape) (f : Shape → Walk Out) → ((s : Shape) → Holds (KeptBehind s₀ n) (f s)) → Holds (KeptBehind s₀ n) (needed p x f)
keeps_needed {s₀} {n} p none f h = refuses (KeptBehind s₀ n) MirLowerError.PlaceType p
keeps_needed p (some s) f h = h s

-- one of two walks
keeps_cond : {s₀ : State} {n : ℕ} (b : Bool) (w w' : Walk Out) → Holds (KeptBehind s₀ n) w → Holds (KeptBehind s₀ n) w' → Holds (KeptBehind s₀ n) (cond b w w')
keeps_cond true w w' g h = g
keeps_cond false w w' g h = h

-- references crossed
keeps_derefed : {s₀ : State} {n : ℕ} (p m : ℕ) (place : Place) (f : Place → Walk Out) → place.local.0 < n → ((place : Place) → place.local.0 < n → Holds (KeptBehind s₀ n) (f place)) →
    Holds (KeptBehind s₀ n) (derefed p place f m)
unfolding derefed
keeps_derefed p zero place f h g = g place h
keeps_derefed p (suc m) place f h g = holds_step p (project place ProjectionElem.Deref) _ (same_root place ProjectionElem.Deref h) (λ place' h'. keeps_derefed p m place' f h' g)

-- a visit changes no state
kept_visited : {s₀ : State} {n : ℕ} (ctx : Ctx) (p : ℕ) → Kept s₀ n ctx.state → Kept s₀ n (visited ctx p).state
unfolding visited
kept_visited ctx p k = k

-- a pattern is entered
keeps_entered : {s₀ : State} {n : ℕ} (p m : ℕ) (l : Lowering) → Keeps s₀ n l → Keeps s₀ n (entered p m l)
unfolding entered
keeps_entered p m l g mode ctx c els place h k =
    keeps_derefed p m place (l mode (visited ctx p) c els) h (λ place' h'. g mode (visited ctx p) c els place' h' (kept_visited ctx p k))

-- lowerings in a row
abbrev AllKeep : State → ℕ → List Lowering → Type 0
AllKeep s₀ n [] = Unit {0}
AllKeep s₀ n (l ∷ ls) = Keeps s₀ n l × AllKeep s₀ n ls

-- the first of them
keep_take : (s₀ : State) (n i : ℕ) (ls : List Lowering) → AllKeep s₀ n ls → AllKeep s₀ n (take i ls)
keep_take s₀ n zero ls h = tt
keep_take s₀ n (suc i) [] h = tt
keep_take s₀ n (suc i) (l ∷ ls) h = (h.0, keep_take s₀ n i ls h.1)

-- those behind the first
keep_drop : (s₀ : State) (n i : ℕ) (ls : List Lowering) → AllKeep s₀ n ls → AllKeep s₀ n (drop i ls)
keep_drop s₀ n zero ls h = h
keep_drop s₀ n (suc i) [] h = tt
keep_drop s₀ n (suc i) (l ∷ ls) h = keep_drop s₀ n i ls h.1

-- the last first
keep_reverse : (s₀ : State) (n : ℕ) (ls : List Lowering) → AllKeep s₀ n ls → AllKeep s₀ n (reverse ls)
keep_reverse s₀ n ls h = go ls [] h tt
  where
    go : (ls rs : List Lowering) → AllKeep s₀ n ls → AllKeep s₀ n rs → AllKeep s₀ n (reverse_aux ls rs)
    go [] rs h k = k
    go (l ∷ ls) rs h k = go ls (l ∷ rs) h.1 (h.0, k)

-- the arguments of a pattern that names a variant
abbrev ShapeKeeps : State → ℕ → AdtPatternShape → Type 0
ShapeKeeps s₀ n (AdtPatternShape.Tuple args ellipsis) = AllKeep s₀ n args
ShapeKeeps s₀ n (AdtPatternShape.Record fields args) = AllKeep s₀ n args
ShapeKeeps s₀ n AdtPatternShape.Unit = Unit {0}

module _ (s₀ : State) (n : ℕ) where
  -- arguments in turn
  keeps_adt : (p : ℕ) (elems : List ProjectionElem) (args : List Lowering) → AllKeep s₀ n args → Keeps s₀ n (pattern_match_adt p elems args)
  unfolding pattern_match_adt
  keeps_adt p [] args g mode ctx c els place h k = keeps_out ctx c els k
  keeps_adt p (elem ∷ elems) [] g mode ctx c els place h k = keeps_out ctx c els k
  keeps_adt p (elem ∷ elems) (arg ∷ args) g mode ctx c els place h k =
      holds_step p (project place elem) _ (same_root place elem h) (λ place' h'.
      holds_next (arg mode ctx c els place') _ (g.0 mode ctx c els place' h' k) (λ r k₁. keeps_adt p elems args g.1 mode r.ctx r.then r.else place h k₁))

  -- arguments before an ellipsis, and behind it
  keeps_tuple_like : (p : ℕ) (args : List Lowering) (at fields : ℕ) → AllKeep s₀ n args → Keeps s₀ n (pattern_match_tuple_like p args at fields)
  unfolding pattern_match_tuple_like
  keeps_tuple_like p args at fields g mode ctx c els place h k =
      keeps_cond (leb at (length args)) _ _
      (holds_next (pattern_match_adt p (fields_up_to fields) (take at args) mode ctx c els place) _
      (keeps_adt p (fields_up_to fields) (take at args) (keep_take s₀ n at args g) mode ctx c els place h k) (λ r k₁.
      keeps_adt p (reverse (fields_up_to fields)) (reverse (drop at args)) (keep_reverse s₀ n (drop at args) (keep_drop s₀ n at args g)) mode r.ctx r.then r.else place h k₁))
      (keeps_refused MirLowerError.Ellipsis p mode ctx c els place h k)

  -- a Tuple by what the type of its place is
  keeps_tuple_on : (shape : Shape) (p : ℕ) (args : List Lowering) (ellipsis : Option ℕ) → AllKeep s₀ n args → Keeps s₀ n (tuple_on shape p args ellipsis)
  unfolding tuple_on
  keeps_tuple_on (integer size signed) p args ellipsis g = keeps_refused (MirLowerError.TypeError 1) p
  keeps_tuple_on bool p args ellipsis g = keeps_refused (MirLowerError.TypeError 1) p
  keeps_tuple_on char p args ellipsis g = keeps_refused (MirLowerError.TypeError 1) p
  keeps_tuple_on str p args ellipsis g = keeps_refused (MirLowerError.TypeError 1) p
  keeps_tuple_on (tuple fields) p args ellipsis g = keeps_tuple_like p args (ellipsis_at ellipsis args) (length fields) g
  keeps_tuple_on (adt kind variants) p args ellipsis g = keeps_refused (MirLowerError.TypeError 1) p
  keeps_tuple_on (reference t) p args ellipsis g = keeps_refused (MirLowerError.TypeError 1) p
  keeps_tuple_on (array t n) p args ellipsis g = keeps_refused (MirLowerError.TypeError 1) p
  keeps_tuple_on (slice t) p args ellipsis g = keeps_refused (MirLowerError.TypeError 1) p
  keeps_tuple_on unknown p args ellipsis g = keeps_refused (MirLowerError.TypeError 1) p

  -- a Tuple
  keeps_tuple : (image : List ℕ) (p : ℕ) (args : List Lowering) (ellipsis : Option ℕ) → AllKeep s₀ n args → Keeps s₀ n (tuple_pattern image p args ellipsis)
  unfolding tuple_pattern
  keeps_tuple image p args ellipsis g mode ctx c els place h k =
      keeps_needed p (shape_of image (place_ty image ctx.state place)) _ (λ shape. keeps_tuple_on shape p args ellipsis g mode ctx c els place h k)

  -- a Ref by what the type of its place is
  keeps_ref_on : (shape : Shape) (p : ℕ) (under : Lowering) → Keeps s₀ n under → Keeps s₀ n (ref_on shape p under)
  unfolding ref_on
  keeps_ref_on (integer size signed) p under g = keeps_refused (MirLowerError.TypeError 3) p
  keeps_ref_on bool p under g = keeps_refused (MirLowerError.TypeError 3) p
  keeps_ref_on char p under g = keeps_refused (MirLowerError.TypeError 3) p
  keeps_ref_on str p under g = keeps_refused (MirLowerError.TypeError 3) p
  keeps_ref_on (tuple fields) p under g = keeps_refused (MirLowerError.TypeError 3) p
  keeps_ref_on (adt kind variants) p under g = keeps_refused (MirLowerError.TypeError 3) p
  keeps_ref_on (reference t) p under g = λ mode ctx c els place h k.
      holds_step p (project place ProjectionElem.Deref) _ (same_root place ProjectionElem.Deref h) (λ place' h'. g mode ctx c els place' h' k)
  keeps_ref_on (array t n) p under g = keeps_refused (MirLowerError.TypeError 3) p
  keeps_ref_on (slice t) p under g = keeps_refused (MirLowerError.TypeError 3) p
  keeps_ref_on unknown p under g = keeps_refused (MirLowerError.TypeError 3) p

  -- a Ref
  keeps_ref : (image : List ℕ) (p : ℕ) (under : Lowering) → Keeps s₀ n under → Keeps s₀ n (ref_pattern image p under)
  unfolding ref_pattern
  keeps_ref image p under g mode ctx c els place h k =
      keeps_needed p (shape_of image (place_ty image ctx.state place)) _ (λ shape. keeps_ref_on shape p under g mode ctx c els place h k)

  -- the fields of a Record, if each is there
  keeps_record : (elems : Option (List ProjectionElem)) (p : ℕ) (args : List Lowering) → AllKeep s₀ n args → Keeps s₀ n (record_fields elems p args)
  unfolding record_fields
  keeps_record none p args g = keeps_refused MirLowerError.UnresolvedField p
  keeps_record (some elems) p args g = keeps_adt p elems args g

  -- the fields of a variant
  keeps_fields : (shape : AdtPatternShape) (p m : ℕ) → ShapeKeeps s₀ n shape → Keeps s₀ n (variant_fields shape p m)
  unfolding variant_fields
  keeps_fields (AdtPatternShape.Tuple args ellipsis) p m g = keeps_tuple_like p args (ellipsis_at ellipsis args) m g
  keeps_fields (AdtPatternShape.Record fields args) p m g = keeps_record (resolved m fields) p args g
  keeps_fields AdtPatternShape.Unit p m g = keeps_passing

  -- a variant of a struct or an enum
  keeps_variant_on : (kind : AdtKind) (image : List ℕ) (p v : ℕ) (shape : AdtPatternShape) → ShapeKeeps s₀ n shape → Keeps s₀ n (variant_on kind image p v shape)
  unfolding variant_on
  keeps_variant_on AdtKind.Struct image p v shape g = keeps_fields shape p (length (variant_of image v).fields) g
  keeps_variant_on AdtKind.Enum image p v shape g = λ mode ctx c els place h k.
      holds_next (in_check mode (discriminant_test image p v ctx c els place) (out ctx c els)) _
      (in_check_lem mode _ _ (keeps_discriminant image p ctx c v els place h k) (keeps_out ctx c els k)) (λ r k₁.
      holds_step p (project place (ProjectionElem.Downcast v)) _ (same_root place (ProjectionElem.Downcast v) h) (λ place' h'.
      keeps_fields shape p (length (variant_of image v).fields) g mode r.ctx r.then r.else place' h' k₁))
  keeps_variant_on AdtKind.Union image p v shape g = keeps_refused (MirLowerError.TypeError 6) p
  keeps_variant_on AdtKind.Unknown image p v shape g = keeps_refused (MirLowerError.TypeError 6) p

  -- a variant by what the type of its place is
  keeps_adt_on : (s : Shape) (image : List ℕ) (p v : ℕ) (shape : AdtPatternShape) → ShapeKeeps s₀ n shape → Keeps s₀ n (adt_on s image p v shape)
  unfolding adt_on
  keeps_adt_on (integer size signed) image p v shape g = keeps_refused (MirLowerError.TypeError 4) p
  keeps_adt_on bool image p v shape g = keeps_refused (MirLowerError.TypeError 4) p
  keeps_adt_on char image p v shape g = keeps_refused (MirLowerError.TypeError 4) p
  keeps_adt_on str image p v shape g = keeps_refused (MirLowerError.TypeError 4) p
  keeps_adt_on (tuple fields) image p v shape g = keeps_refused (MirLowerError.TypeError 4) p
  keeps_adt_on (adt kind variants) image p v shape g = λ mode ctx c els place h k.
      keeps_cond (member v variants) _ _ (keeps_variant_on kind image p v shape g mode ctx c els place h k) (keeps_refused (MirLowerError.TypeError 5) p mode ctx c els place h k)
  keeps_adt_on (reference t) image p v shape g = keeps_refused (MirLowerError.TypeError 4) p
  keeps_adt_on (array t n) image p v shape g = keeps_refused (MirLowerError.TypeError 4) p
  keeps_adt_on (slice t) image p v shape g = keeps_refused (MirLowerError.TypeError 4) p
  keeps_adt_on unknown image p v shape g = keeps_refused (MirLowerError.TypeError 4) p

  -- a pattern that names a variant
  keeps_variant : (image : List ℕ) (p v : ℕ) (shape : AdtPatternShape) → ShapeKeeps s₀ n shape → Keeps s₀ n (pattern_matching_variant image p v shape)
  unfolding pattern_matching_variant
  keeps_variant image p v shape g mode ctx c els place h k =
      keeps_needed p (shape_of image (place_ty image ctx.state place)) _ (λ s. keeps_adt_on s image p v shape g mode ctx c els place h k)

  -- the same, where the variant may be absent
  keeps_variant? : (image : List ℕ) (p : ℕ) (v : Option ℕ) (shape : AdtPatternShape) → ShapeKeeps s₀ n shape → Keeps s₀ n (variant_pattern image p v shape)
  unfolding variant_pattern
  keeps_variant? image p none shape g = keeps_refused MirLowerError.NotSupported p
  keeps_variant? image p (some v) shape g = keeps_variant image p v shape g

  -- a Range
  keeps_range : (image : List ℕ) (p ty : ℕ) (start end : Option Operand) (halfOpen : Bool) → Keeps s₀ n (range_pattern image p ty start end halfOpen)
  unfolding range_pattern
  keeps_range image p ty start end halfOpen mode ctx c els place h k =
      in_check_lem mode _ _
      (holds_next (range_end? image p ty BinOp.Le start ctx c els place) _ (keeps_end image p ctx c ty BinOp.Le start els place h k) (λ r k₁.
      keeps_end image p r.ctx r.then ty (end_op halfOpen) end r.else place h k₁))
      (keeps_out ctx c els k)

  -- an alternative
  keeps_alternative : (alt : Lowering) → Keeps s₀ n alt → (mode : MatchingMode) (ctx : Ctx) (c : BasicBlockId) (place : Place) → place.local.0 < n → Kept s₀ n ctx.state →
      Holds (KeptBehind s₀ n) (alternative alt mode ctx c place)
  keeps_alternative alt g mode ctx c place h k =
      holds_next (alt MatchingMode.Check ctx c None place) _ (g MatchingMode.Check ctx c None place h k) (λ r k₁.
      in_check_lem mode _ _ (keeps_out r.ctx r.then r.else k₁)
      (holds_next (alt mode r.ctx r.then None place) _ (g mode r.ctx r.then None place h k₁) (λ b k₂. keeps_out b.ctx b.then r.else k₂)))

  -- behind an alternative
  keeps_behind : (els : OptBlock) (ctx : Ctx) (rest : BasicBlockId → Walk Alternatives) → Kept s₀ n ctx.state →
      ((b : BasicBlockId) → Holds (λ (a : Alternatives). Kept s₀ n a.ctx.state) (rest b)) → Holds (λ (a : Alternatives). Kept s₀ n a.ctx.state) (behind els ctx rest)
  keeps_behind None ctx rest k f = holds (λ (a : Alternatives). Kept s₀ n a.ctx.state) _ k
  keeps_behind (Some b) ctx rest k f = f b

  -- alternatives
  keeps_alternatives : (p : ℕ) (alts : List Lowering) → AllKeep s₀ n alts → (mode : MatchingMode) (ctx : Ctx) (join c : BasicBlockId) (place : Place) → place.local.0 < n → Kept s₀ n ctx.state →
      Holds (λ (a : Alternatives). Kept s₀ n a.ctx.state) (alternatives p alts mode ctx join c place)
  unfolding alternatives
  keeps_alternatives p [] g mode ctx join c place h k = holds (λ (a : Alternatives). Kept s₀ n a.ctx.state) _ k
  keeps_alternatives p (alt ∷ alts) g mode ctx join c place h k =
      holds_next (alternative alt mode ctx c place) _ (keeps_alternative alt g.0 mode ctx c place h k) (λ r k₁.
      let ctx₁ = with_state r.ctx (set_goto r.ctx.state r.then join) in
      let k₂ : Kept s₀ n ctx₁.state = kept_terminator r.ctx.state r.then (Terminator.Goto join) tt k₁ in
      keeps_behind r.else ctx₁ _ k₂ (λ b. keeps_alternatives p alts g.1 mode ctx₁ join b place h k₂))

  -- the end of the alternatives
  keeps_ended : (p : ℕ) (mode : MatchingMode) (a : Ctx) (left : OptBlock) (join : BasicBlockId) (els : OptBlock) → Kept s₀ n a.state →
      Holds (KeptBehind s₀ n) (alternatives_end p mode (record { ctx = a; left = left }) join els)
  unfolding alternatives_end
  keeps_ended p mode a None join els k = keeps_out a join els k
  keeps_ended p mode a (Some b) join els k =
      in_check_lem mode _ _
      (holds_step p (else_state a.state els) _ (keeps_else a.state k els) (λ st k₁.
      holds (KeptBehind s₀ n) _ (kept_terminator st b (Terminator.Goto (else_block a.state els)) tt k₁)))
      (holds (KeptBehind s₀ n) _ (kept_terminator a.state b Terminator.Unreachable tt k))

  -- an Or
  keeps_or : (p : ℕ) (alts : List Lowering) → AllKeep s₀ n alts → Keeps s₀ n (or_pattern p alts)
  unfolding or_pattern
  keeps_or p alts g mode ctx c els place h k =
      holds_step p (try_block ctx.state) _ (keeps_block ctx.state k) (λ st k₁.
      holds_next (alternatives p alts mode (with_state ctx st) (next_block ctx.state) c place) _
      (keeps_alternatives p alts g mode (with_state ctx st) (next_block ctx.state) c place h k₁) (λ a k₂.
      keeps_ended p mode a.ctx a.left (next_block ctx.state) els k₂))

  module _ (bindings : List ℕ) (below : WordsBelow bindings n) where
    -- a rest
    keeps_rest : (rest : RestOf) (p front end : ℕ) → Keeps s₀ n (rest_bound rest bindings p front end)
    unfolding rest_bound
    keeps_rest RestOf.none p front end = keeps_passing
    keeps_rest RestOf.ignores p front end = keeps_passing
    keeps_rest (RestOf.binds q b how) p front end = λ mode ctx c els place h k.
        in_check_lem mode _ _ (keeps_out ctx c els k)
        (holds_step p (project place (ProjectionElem.Subslice front end)) _ (same_root place (ProjectionElem.Subslice front end) h) (λ place' h'.
        keeps_binding bindings below p q b how ctx c els place' h' k))

    -- the items of a slice
    keeps_items : (p : ℕ) (prefix : List Lowering) (rest : RestOf) (suffix : List Lowering) → AllKeep s₀ n prefix → AllKeep s₀ n suffix → Keeps s₀ n (slice_items bindings p prefix rest suffix)
    unfolding slice_items
    keeps_items p prefix rest suffix g g' mode ctx c els place h k =
        let front = map (λ i. ProjectionElem.Index i) (up_from 0 (length prefix)) in
        let back = suffix_items (length suffix) in
        holds_next (pattern_match_adt p front prefix mode ctx c els place) _ (keeps_adt p front prefix g mode ctx c els place h k) (λ r k₁.
        holds_next (rest_bound rest bindings p (length prefix) (length suffix) mode r.ctx r.then r.else place) _
        (keeps_rest rest p (length prefix) (length suffix) mode r.ctx r.then r.else place h k₁) (λ s k₂.
        keeps_adt p back suffix g' mode s.ctx s.then s.else place h k₂))

    -- a Slice
    keeps_slice : (shape : Shape) (image : List ℕ) (p : ℕ) (prefix : List Lowering) (rest : RestOf) (suffix : List Lowering) → AllKeep s₀ n prefix → AllKeep s₀ n suffix →
        Keeps s₀ n (slice_on shape image bindings p prefix rest suffix)
    unfolding slice_on
    keeps_slice (integer size signed) image p prefix rest suffix g g' = keeps_refused (MirLowerError.TypeError 2) p
    keeps_slice bool image p prefix rest suffix g g' = keeps_refused (MirLowerError.TypeError 2) p
    keeps_slice char image p prefix rest suffix g g' = keeps_refused (MirLowerError.TypeError 2) p
    keeps_slice str image p prefix rest suffix g g' = keeps_refused (MirLowerError.TypeError 2) p
    keeps_slice (tuple fields) image p prefix rest suffix g g' = keeps_refused (MirLowerError.TypeError 2) p
    keeps_slice (adt kind variants) image p prefix rest suffix g g' = keeps_refused (MirLowerError.TypeError 2) p
    keeps_slice (reference t) image p prefix rest suffix g g' = keeps_refused (MirLowerError.TypeError 2) p
    keeps_slice (array t many) image p prefix rest suffix g g' = keeps_items p prefix rest suffix g g'
    keeps_slice (slice t) image p prefix rest suffix g g' = λ mode ctx c els place h k.
        holds_next (in_check mode (length_test rest image p (length prefix + length suffix) ctx c els place) (out ctx c els)) _
        (in_check_lem mode _ _ (keeps_length rest image p (length prefix + length suffix) ctx c els place h k) (keeps_out ctx c els k)) (λ r k₁.
        keeps_items p prefix rest suffix g g' mode r.ctx r.then r.else place h k₁)
    keeps_slice unknown image p prefix rest suffix g g' = keeps_refused (MirLowerError.TypeError 2) p

    -- a Path by what it names
    keeps_path_lem : (target : Target) (image : List ℕ) (p ty : ℕ) → Keeps s₀ n (path_pattern target image bindings p ty)
    unfolding path_pattern
    keeps_path_lem unresolved image p ty = keeps_refused MirLowerError.UnresolvedName p
    keeps_path_lem (variant v) image p ty = keeps_variant image p v AdtPatternShape.Unit tt
    keeps_path_lem (local b) image p ty = keeps_local bindings below p b
    keeps_path_lem (constant operand) image p ty = λ mode ctx c els place h k. keeps_constant image p ctx c ty operand mode els place h k
    keeps_path_lem other image p ty = λ mode ctx c els place h k. in_check_lem mode _ _ (keeps_refused MirLowerError.NotSupported p mode ctx c els place h k) (keeps_out ctx c els k)

    -- a Bind
    keeps_bind : (p b : ℕ) (how : BindingMode) (s : Lowering) → Keeps s₀ n s → Keeps s₀ n (bind_pattern bindings p b how s)
    unfolding bind_pattern
    keeps_bind p b how s g mode ctx c els place h k =
        holds_next (s mode ctx c els place) _ (g mode ctx c els place h k) (λ r k₁.
        in_check_lem mode _ _ (keeps_out r.ctx r.then r.else k₁) (keeps_binding bindings below p p b how r.ctx r.then r.else place h k₁))

    module _ (image : List ℕ) where
      mutual
        unfolding pattern_match_inner lowerings lowering?

        -- every pattern, in every mode
        pub keeps : (pat : Pat) → Keeps s₀ n (pattern_match_inner image bindings pat)
        keeps (Pat.Missing h) = keeps_entered h.number h.derefs (refusing MirLowerError.IncompletePattern h.number) (keeps_refused MirLowerError.IncompletePattern h.number)
        keeps (Pat.Rest h) = keeps_entered h.number h.derefs (refusing MirLowerError.IncompletePattern h.number) (keeps_refused MirLowerError.IncompletePattern h.number)
        keeps (Pat.NotNull h) = keeps_entered h.number h.derefs (refusing MirLowerError.IncompletePattern h.number) (keeps_refused MirLowerError.IncompletePattern h.number)
        keeps (Pat.Wild h) = keeps_entered h.number h.derefs passing keeps_passing
        keeps (Pat.Tuple h args ellipsis) =
            keeps_entered h.number h.derefs (tuple_pattern image h.number (lowerings image bindings args) ellipsis)
            (keeps_tuple image h.number (lowerings image bindings args) ellipsis (all_keep args))
        keeps (Pat.Or h alts) = keeps_entered h.number h.derefs (or_pattern h.number (lowerings image bindings alts)) (keeps_or h.number (lowerings image bindings alts) (all_keep alts))
        keeps (Pat.Record h fields args v) =
            keeps_entered h.number h.derefs (variant_pattern image h.number v (AdtPatternShape.Record fields (lowerings image bindings args)))
            (keeps_variant? image h.number v (AdtPatternShape.Record fields (lowerings image bindings args)) (all_keep args))
        keeps (Pat.Range h start end halfOpen) =
            keeps_entered h.number h.derefs (range_pattern image h.number h.ty start end halfOpen) (keeps_range image h.number h.ty start end halfOpen)
        keeps (Pat.Slice h prefix rest suffix) =
            keeps_entered h.number h.derefs
            (slice_on (ty_of image h.ty).shape image bindings h.number (lowerings image bindings prefix) (rest_of rest) (lowerings image bindings suffix))
            (keeps_slice (ty_of image h.ty).shape image h.number (lowerings image bindings prefix) (rest_of rest) (lowerings image bindings suffix) (all_keep prefix) (all_keep suffix))
        keeps (Pat.Path h target) = keeps_entered h.number h.derefs (path_pattern target image bindings h.number h.ty) (keeps_path_lem target image h.number h.ty)
        keeps (Pat.Lit h operand) =
            keeps_entered h.number h.derefs (lit_by operand.kind image h.number h.ty operand) (keeps_lit operand.kind image h.number h.ty operand)
        keeps (Pat.Bind h b s how annotation) =
            keeps_entered h.number h.derefs (bind_pattern bindings h.number b how (lowering? image bindings s)) (keeps_bind h.number b how (lowering? image bindings s) (keep? s))
        keeps (Pat.TupleStruct h args ellipsis v) =
            keeps_entered h.number h.derefs (variant_pattern image h.number v (AdtPatternShape.Tuple (lowerings image bindings args) ellipsis))
            (keeps_variant? image h.number v (AdtPatternShape.Tuple (lowerings image bindings args) ellipsis) (all_keep args))
        keeps (Pat.Ref h s) =
            keeps_entered h.number h.derefs (ref_pattern image h.number (pattern_match_inner image bindings s)) (keeps_ref image h.number (pattern_match_inner image bindings s) (keeps s))
        keeps (Pat.Expr h) = keeps_entered h.number h.derefs (refusing MirLowerError.Expr h.number) (keeps_refused MirLowerError.Expr h.number)
        keeps (Pat.Box h) = keeps_entered h.number h.derefs (refusing MirLowerError.NotSupported h.number) (keeps_refused MirLowerError.NotSupported h.number)
        keeps (Pat.Deref h) = keeps_entered h.number h.derefs (refusing MirLowerError.NotSupported h.number) (keeps_refused MirLowerError.NotSupported h.number)

        -- patterns in a row
        all_keep : (ps : Pats) → AllKeep s₀ n (lowerings image bindings ps)
        all_keep nil = tt
        all_keep (cons q qs) = (keeps q, all_keep qs)

        -- a subpattern that may be absent
        keep? : (s : PatOpt) → Keeps s₀ n (lowering? image bindings s)
        keep? no = keeps_passing
        keep? (sub s) = keeps s
