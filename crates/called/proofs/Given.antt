-- What a call gives whose image, body and numbers were taken: where the walk starts, the place that it is about, and the pattern. Assumes nothing.
use Rattle.std.specs.Prelude.{Some, None}
use Prim.Native.Nat.{ℕ, zero, suc, ◌+◌, ◌*◌, ◌≤◌, ◌<◌}
use mathlib.Core.Path.{◌≡◌, sym, ap, subst, ◌∙◌}
use mathlib.Core.Bool.{Bool, true, not, ◌&&◌, false≢true}
use mathlib.Core.List.{List, [], ◌∷◌, map, map-append}
use native.Mathlib.Omega.{arith}
use borrow.Author.Tests.{ltb-true, leb-true, eqb-true, eq-eqb}
use lib.Dec.{eqb, ltb, leb}
use lib.ListN.{length, get_or, drop, get_or-map}
use lib.Seq.{get_or-take, get_or-drop}
use Rattle.row_tables.specs.Rows.{row_at, rows_of}
use Rattle.row_tables.proofs.Tables.{row_of}
use Rattle.image.specs.Tables.{type_count, variant_count, pattern_count, binding_count, list_count, data_count}
use Rattle.image.specs.Lists.{all_below, all_in}
use Rattle.image.specs.Rules.{within_limits}
use Rattle.image.specs.Valid.{rules, valid}
use Rattle.image.proofs.Bools.{and_left, and_right, all_true_at, below_at}
use Rattle.place.specs.Elems.{elem_of}
use Rattle.mir.specs.declared.BasicBlockId.{BasicBlockId}
use Rattle.mir.specs.declared.Counts.{Counts}
use Rattle.mir.specs.declared.blocks.Terminator.{Terminator}
use Rattle.mir.specs.Blocks.{is_open, block_width}
use Rattle.mir.specs.Statements.{statement_width}
use Rattle.state.specs.State.{Body, decode}
use Rattle.state.proofs.Answering.{block_count_lem}
use Rattle.state.proofs.Words.{length_words}
use Rattle.body_row_rules.specs.Bodies.{is_block, is_local, counts_within, block_holds, elem_holds, rvalue_holds, statement_holds, local_holds, scope_holds, entry_holds, entries_belong, body_holds}
use Rattle.body_row_rules.proofs.Checked.{within}
use Rattle.lower_spec.specs.Results.{OptBlock}
use Rattle.views.specs.Views.{terminator_of, line_of, mir_of}
use Rattle.body_calls_spec.specs.Calls.{body_taken}
use Rattle.growth.specs.Opened.{terminator, lines, Below, ElseReady, Ready, Starts}
use Rattle.growth.proofs.Working.{below_append}
use Rattle.handed.specs.Handed.{start_holds, else_holds, place_holds, binding_local_holds, bindings_hold, match_holds}
use Rattle.named.specs.Named.{WordsBelow}
use Rattle.param_runs.proofs.Words.{all_below_lem}
use Rattle.called.specs.Call.{Call, before, start_of}
use Rattle.called.specs.Acceptance.{Taken}

-- what a taken call gives
pub record Given (call : Call) : Type 0 where
  pub image_valid : valid call.image ≡ true
  pub there : call.pattern < pattern_count call.image
  pub few : pattern_count call.image ≤ 512
  pub starts : Starts (start_of call) call.start call.else
  pub within : call.place.len ≤ 16
  pub root : call.place.local.0 < length (before call).locals
  pub bound : WordsBelow call.bindings (length (before call).locals)

-- a valid image has at most 512 patterns
pub few_patterns : (image : List ℕ) → valid image ≡ true → pattern_count image ≤ 512
unfolding valid within_limits
few_patterns image v =
    let a = leb (type_count image) 256 in
    let b = leb (variant_count image) 512 in
    let some = leb 1 (pattern_count image) in
    let few = leb (pattern_count image) 512 in
    let d = leb (binding_count image) 256 in
    let l = leb (list_count image) 2048 in
    let m = leb (data_count image) 16384 in
    let e = and_left (a && b && (some && few)) d (and_left (a && b && (some && few) && d) l (and_left (a && b && (some && few) && d && l) m (all_true_at (rules image) 10 v))) in
    leb-true (pattern_count image) 512 (and_right some few (and_right (a && b) (some && few) e))

-- a row that is open is read as an open terminator
open_row_lem : (row : List ℕ) → is_open row ≡ true → terminator_of row ≡ Terminator.Open
unfolding is_open terminator_of
open_row_lem row e = rw (eqb-true (get_or row 0 0) 0 e)

-- the terminator of a block is that of its row
terminator_row : (b : Body) (c : Counts) (i : ℕ) → i < c.blocks → terminator (decode b c) i ≡ terminator_of (row_at block_width b.blocks i)
unfolding decode mir_of terminator_of
terminator_row b c i h = get_or-map terminator_of (rows_of block_width b.blocks c.blocks) i [] ∙ ap terminator_of (row_of 12 b.blocks c.blocks i h)

-- the block of a line is the first word of its row
line_block : (table : List ℕ) (i : ℕ) → (line_of (row_at statement_width table i)).block ≡ get_or table (statement_width * i + 0) 0
unfolding line_of row_at
line_block table i = get_or-take statement_width (drop (statement_width * i) table) 0 0 (omega arith) ∙ get_or-drop (statement_width * i) table 0 0

-- lines below a bound, where the first words of their rows are
lines_below : (table : List ℕ) (n m : ℕ) → ((i : ℕ) → i < m → get_or table (statement_width * i + 0) 0 < n) → Below n (map line_of (rows_of statement_width table m))
unfolding rows_of
lines_below table n zero h = tt
lines_below table n (suc m) h =
    subst (Below n) (sym (map-append line_of (rows_of statement_width table m) (row_at statement_width table m ∷ [])))
    (below_append n (map line_of (rows_of statement_width table m)) (line_of (row_at statement_width table m) ∷ []) (lines_below table n m (λ i l. h i (omega (arith, l))))
    (let a = h m (omega arith) in let e = line_block table m in (omega (arith, a, e), tt)))

-- a statement of a body that may be handed in stands in a block that there is
statement_block : (types variants : ℕ) (b : Body) (c : Counts) → body_holds types variants b.blocks b.statements b.locals b.scopes b.entries c ≡ true →
    (i : ℕ) → i < c.statements → get_or b.statements (statement_width * i + 0) 0 < c.blocks
unfolding body_holds statement_holds
statement_block types variants b c h i l =
    let tests =
    counts_within c
    ∷ all_below (block_holds b.blocks c) c.blocks
    ∷ all_below (statement_holds types variants b.statements c) c.statements
    ∷ all_below (local_holds types b.locals) c.locals
    ∷ all_below (scope_holds b.scopes c) c.scopes
    ∷ all_below (entry_holds b.entries c) c.entries
    ∷ entries_belong b.scopes c
    ∷ []
    in
    let block = is_block c (get_or b.statements (statement_width * i + 0) 0) in
    let about = is_local c (get_or b.statements (statement_width * i + 2) 0) in
    let rest = rvalue_holds types variants b.statements c i (get_or b.statements (statement_width * i + 1) 0) in
    ltb-true _ _ (and_left block about (and_left (block && about) rest (below_at (statement_holds types variants b.statements c) c.statements i (all_true_at tests 2 h) l)))

-- an else that is taken is another block, or none
else_ready : (b : Body) (c : Counts) (current : BasicBlockId) (els : OptBlock) → else_holds c current els ≡ true → ElseReady (decode b c) current els
unfolding else_holds
else_ready b c current None e = tt
else_ready b c current (Some x) e =
    let inside = ltb-true x.0 c.blocks (and_left (is_block c x.0) (not (eqb x.0 current.0)) e) in
    let n = block_count_lem b c in
    (omega (arith, inside, n), λ same. false≢true (subst (λ (t : Bool). not t ≡ true) (eq-eqb x.0 current.0 same) (and_right (is_block c x.0) (not (eqb x.0 current.0)) e)))

-- a walk may start in a body, from a block and with an else that are taken
pub may_start : (image : List ℕ) (b : Body) (c : Counts) (current : BasicBlockId) (els : OptBlock) → body_taken image b c ≡ true → start_holds b.blocks c current ≡ true →
    else_holds c current els ≡ true → Ready (decode b c) current els
unfolding start_holds decode mir_of
may_start image b c current els taken start else =
    let s = current.0 in
    let first = is_block c s in
    let second = is_open (row_at block_width b.blocks s) in
    let inside = ltb-true s c.blocks (and_left first second start) in
    let n = block_count_lem b c in
    record {
      inside = omega (arith, inside, n);
      opened = terminator_row b c s inside ∙ open_row_lem (row_at block_width b.blocks s) (and_right first second start);
      else = else_ready b c current els else;
      lines = subst (λ (m : ℕ). Below m (lines (decode b c))) (sym n) (lines_below b.statements c.blocks c.statements (statement_block (type_count image) (variant_count image) b c taken));
    }

module _ (call : Call) (T : Taken call) where
  abbrev c : Counts
  c = call.counts

  -- the tests of what the call names
  abbrev tests : List Bool
  tests =
      ltb call.pattern (pattern_count call.image)
      ∷ bindings_hold (binding_count call.image) c call.bindings
      ∷ start_holds call.body.blocks c call.start
      ∷ else_holds c call.start call.else
      ∷ place_holds (variant_count call.image) c call.place
      ∷ []

  -- each is passed
  test : (k : ℕ) → get_or tests k true ≡ true
  unfolding match_holds
  test k = all_true_at tests k T.names

  pattern_there : call.pattern < pattern_count call.image
  pattern_there = ltb-true _ _ (test 0)

  starts : Starts (start_of call) call.start call.else
  starts = may_start call.image call.body c call.start call.else T.body (test 2) (test 3)

  place_there : (call.place.local.0 < c.locals) × (call.place.len ≤ 16)
  unfolding place_holds
  place_there =
      let place = call.place in
      let root = is_local c place.local.0 in
      let short = leb place.len 16 in
      let elems = all_below (λ i. elem_holds (variant_count call.image) (elem_of (get_or place.elems i 0))) place.len in
      let both = and_left (root && short) elems (test 4) in
      (ltb-true _ _ (and_left root short both), leb-true _ _ (and_right root short both))

  -- there are as many locals as the counts say
  locals_counted : length (before call).locals ≡ c.locals
  unfolding decode
  locals_counted =
      let b = call.body in
      let long = call.lengths.locals in
      let few = (within _ _ b.blocks b.statements b.locals b.scopes b.entries c T.body).locals in
      length_words b.locals c.locals (omega (arith, long, few))

  -- the bindings' locals are there
  bound_there : WordsBelow call.bindings c.locals
  unfolding bindings_hold
  bound_there = all_below_lem c call.bindings (and_right (eqb (length call.bindings) (binding_count call.image)) (all_in (binding_local_holds c) call.bindings) (test 1))

  -- all of it
  pub given : Given call
  given =
      let (root, short) = place_there in
      let n = locals_counted in
      record { image_valid = T.image_valid; there = pattern_there; few = few_patterns call.image T.image_valid; starts = starts; within = short; root = omega (arith, root, n); bound = subst (WordsBelow call.bindings) (sym n) bound_there }
