-- The tests, and what fills a binding, name no local that there is not. Assumes nothing.
use Prim.Native.Nat.{ℕ, suc, ◌≤◌, ◌<◌}
use native.Mathlib.Nat.{lt_of_lt_of_le}
use native.Mathlib.Omega.{arith}
use mathlib.Core.Path.{refl}
use mathlib.Core.Bool.{Bool, true, false, cond}
use mathlib.Core.Option.{Option, none, some}
use mathlib.Core.List.{List}
use lib.Dec.{ltb}
use lib.ListN.{length}
use Rattle.refusals.specs.declared.MirLowerError.{MirLowerError}
use Rattle.refusals.specs.Refusals.{Result}
use Rattle.refusals.specs.Refusals.{done, stopped}
use Rattle.image.specs.declared.kinds.BindingMode.{BindingMode}
use Rattle.image.specs.declared.kinds.OperandKind.{OperandKind}
use Rattle.image.specs.Types.{Operand}
use Rattle.place.specs.declared.Place.{Place}
use Rattle.place.specs.declared.elems.ProjectionElem.{ProjectionElem}
use Rattle.place.specs.Places.{onward}
use Rattle.mir.specs.declared.BasicBlockId.{BasicBlockId}
use Rattle.mir.specs.declared.blocks.Terminator.{Terminator}
use Rattle.mir.specs.declared.rvalues.BinOp.{BinOp}
use Rattle.mir.specs.declared.rvalues.Left.{Left}
use Rattle.mir.specs.declared.rvalues.PlaceRvalue.{PlaceRvalue}
use Rattle.mir.specs.Rvalues.{place_rvalue_row, constant_row, binary_row}
use Rattle.state.specs.State.{State}
use Rattle.state.specs.Steps.{next_local, next_block, try_block, try_statement}
use Rattle.literals.specs.Literals.{lower_const_to_operand, lower_literal_to_operand, lower_literal_or_const_to_operand}
use Rattle.lower_spec.specs.Results.{OptBlock}
use Rattle.lower_spec.specs.Temps.{is_held, temp, binding_local, push_storage_live_for_local, discr_temp_place}
use Rattle.pattern_matching.specs.declared.MatchingMode.{MatchingMode}
use Rattle.pattern_matching.specs.Walking.{Ctx, Out, Walk, Lowering, out, project, local_place, else_state, else_block, in_check}
use Rattle.pattern_matching.specs.Tests.{bool_word, usize_word, compare, pattern_match_const, literal, lit_by, constant_path, range_end, range_end?, binding_rvalue, pattern_match_binding, local_path}
use Rattle.pattern_matching.specs.Variants.{discriminant_switch, discriminant_test}
use Rattle.pattern_matching.specs.Slices.{RestOf, length_constant, length_compared, length_test}
use Rattle.counting.proofs.Holding.{Holds, Gives, holds, gives, refuses, stops, holds_step, holds_as}
use Rattle.named.specs.Named.{LeftBelow, WordsBelow}
use Rattle.named.proofs.Rows.{left_more, place_row, constant_row_lem, binary_row_lem}
use Rattle.named.proofs.Keeping.{Kept, kept_less, kept_terminator, keeps_block, keeps_statement, keeps_else, keeps_live, keeps_temp, bound_local}

-- of an accepted walk: there are at least n locals, nothing names one that there is not, and what was made is recorded
abbrev pub KeptBehind : State → ℕ → Out → Type 0
KeptBehind s₀ n r = Kept s₀ n r.ctx.state

-- a lowering from such a state, on a place with its root below n, comes to one
abbrev pub Keeps : State → ℕ → Lowering → Type 0
Keeps s₀ n l =
    (mode : MatchingMode) (ctx : Ctx) (c : BasicBlockId) (els : OptBlock) (place : Place) → place.local.0 < n → Kept s₀ n ctx.state → Holds (KeptBehind s₀ n) (l mode ctx c els place)

-- of what a step gives nothing need be known
anything : {A : Type 0} (x : Result A) → Gives (λ _. Unit {0}) x
anything x = record { at = λ a e. tt }

-- what only a walk in Check does
pub in_check_lem : {s₀ : State} {n : ℕ} (mode : MatchingMode) (test skip : Walk Out) → Holds (KeptBehind s₀ n) test → Holds (KeptBehind s₀ n) skip → Holds (KeptBehind s₀ n) (in_check mode test skip)
in_check_lem MatchingMode.Check test skip g h = g
in_check_lem MatchingMode.Bind test skip g h = h
in_check_lem MatchingMode.Assign test skip g h = h

-- nothing done
pub keeps_out : {s₀ : State} {n : ℕ} (ctx : Ctx) (c : BasicBlockId) (els : OptBlock) → Kept s₀ n ctx.state → Holds (KeptBehind s₀ n) (out ctx c els)
keeps_out {s₀} {n} ctx c els k = holds (KeptBehind s₀ n) (record { ctx = ctx; then = c; else = els }) k

-- the root of a place one element on is its root
pub same_root : {n : ℕ} (place : Place) (elem : ProjectionElem) → place.local.0 < n → Gives (λ (place' : Place). place'.local.0 < n) (project place elem)
unfolding project
same_root {n} place elem h = by (ltb place.len 16)
  where
    by : (b : Bool) → Gives (λ (place' : Place). place'.local.0 < n) (cond b (done (onward place elem)) (stopped MirLowerError.Limit))
    by true = gives (λ (place' : Place). place'.local.0 < n) (onward place elem) h
    by false = stops (λ (place' : Place). place'.local.0 < n) MirLowerError.Limit

module _ {s₀ : State} {n : ℕ} (image : List ℕ) (p : ℕ) (ctx : Ctx) (c : BasicBlockId) where
  -- an operator's test
  keeps_compare : (op : BinOp) (left : Left) (place : Place) (st : State) (t e : BasicBlockId) → LeftBelow n left → place.local.0 < n → Kept s₀ n st →
      Holds (KeptBehind s₀ n) (compare image p op left place ctx st c t e)
  unfolding compare
  keeps_compare op left place st t e i h k =
      let more = k.more in
      let low : n ≤ suc (length st.locals) = omega (arith, more) in
      holds_step p (temp image st bool_word c) _ (keeps_temp image st bool_word c k) (λ st₁ k₁.
      holds_step p (try_statement st₁ (binary_row c (next_local st) op left place)) _
      (keeps_statement st₁ k₁ (binary_row c (next_local st) op left place) (binary_row_lem c (next_local st) op left place (omega arith) (left_more low left i) (lt_of_lt_of_le h low))) (λ st₂ k₂.
      holds (KeptBehind s₀ n) _ (kept_less low (kept_terminator st₂ c (Terminator.Switch (next_local st) 1 0 t e) (omega arith) k₂))))

  -- a literal's test
  pub keeps_literal : (ty : ℕ) (operand : Operand) (mode : MatchingMode) (els : OptBlock) (place : Place) → place.local.0 < n → Kept s₀ n ctx.state →
      Holds (KeptBehind s₀ n) (literal image p ty operand mode ctx c els place)
  unfolding literal pattern_match_const
  keeps_literal ty operand mode els place h k =
      in_check_lem mode _ _
      (holds_step p (lower_literal_to_operand image ty operand) _ (anything (lower_literal_to_operand image ty operand)) (λ x _.
      holds_step p (try_block ctx.state) _ (keeps_block ctx.state k) (λ st₁ k₁.
      holds_step p (else_state st₁ els) _ (keeps_else st₁ k₁ els) (λ st₂ k₂.
      keeps_compare BinOp.Eq (Left.Constant x) place st₂ (next_block ctx.state) (else_block st₁ els) tt h k₂))))
      (keeps_out ctx c els k)

  -- a constant path's
  pub keeps_constant : (ty : ℕ) (operand : Operand) (mode : MatchingMode) (els : OptBlock) (place : Place) → place.local.0 < n → Kept s₀ n ctx.state →
      Holds (KeptBehind s₀ n) (constant_path image p ty operand mode ctx c els place)
  unfolding constant_path
  keeps_constant ty operand mode els place h k =
      let st = ctx.state in
      let x = lower_const_to_operand ty operand in
      let more = k.more in
      in_check_lem mode _ _
      (holds_step p (temp image st ty c) _ (keeps_temp image st ty c k) (λ st₁ k₁.
      holds_step p (try_statement st₁ (constant_row c (next_local st) x)) _ (keeps_statement st₁ k₁ (constant_row c (next_local st) x) (constant_row_lem c (next_local st) x (omega arith))) (λ st₂ k₂.
      let less = k₂.more in
      let low : n ≤ suc (length st₂.locals) = omega (arith, more, less) in
      holds_step p (temp image st₂ bool_word c) _ (keeps_temp image st₂ bool_word c k₂) (λ st₃ k₃.
      holds_step p (try_statement st₃ (binary_row c (next_local st₂) BinOp.Eq (Left.Local (next_local st)) place)) _
      (keeps_statement st₃ k₃ (binary_row c (next_local st₂) BinOp.Eq (Left.Local (next_local st)) place)
      (binary_row_lem c (next_local st₂) BinOp.Eq (Left.Local (next_local st)) place (omega arith) (omega (arith, less)) (lt_of_lt_of_le h low))) (λ st₄ k₄.
      holds_step p (try_block st₄) _ (keeps_block st₄ k₄) (λ st₅ k₅.
      holds_step p (else_state st₅ els) _ (keeps_else st₅ k₅ els) (λ st₆ k₆.
      holds (KeptBehind s₀ n) _ (kept_less low (kept_terminator st₆ c (Terminator.Switch (next_local st₂) 1 0 (next_block st₄) (else_block st₅ els)) (omega arith) k₆)))))))))
      (keeps_out ctx c els k)

  -- one end of a range
  pub keeps_end : (ty : ℕ) (op : BinOp) (end : Option Operand) (els : OptBlock) (place : Place) → place.local.0 < n → Kept s₀ n ctx.state →
      Holds (KeptBehind s₀ n) (range_end? image p ty op end ctx c els place)
  unfolding range_end? range_end
  keeps_end ty op none els place h k = keeps_out ctx c els k
  keeps_end ty op (some operand) els place h k =
      holds_step p (lower_literal_or_const_to_operand image ty operand) _ (anything (lower_literal_or_const_to_operand image ty operand)) (λ x _.
      holds_step p (else_state ctx.state els) _ (keeps_else ctx.state k els) (λ st₁ k₁.
      holds_step p (try_block st₁) _ (keeps_block st₁ k₁) (λ st₂ k₂.
      keeps_compare op (Left.Constant x) place st₂ (next_block st₁) (else_block ctx.state els) tt h k₂)))

  -- the test of an enum: its local is the one that comes next
  pub keeps_discriminant : (v : ℕ) (els : OptBlock) (place : Place) → place.local.0 < n → Kept s₀ n ctx.state → Holds (KeptBehind s₀ n) (discriminant_test image p v ctx c els place)
  unfolding discriminant_test
  keeps_discriminant v els place h k =
      let st = ctx.state in
      let l = next_local st in
      let more = k.more in
      let low : n ≤ suc (length st.locals) = omega (arith, more) in
      holds_step p (discr_temp_place image st c) _ (keeps_temp image st 258 c k) (λ st₁ k₁.
      holds_step p (try_statement st₁ (place_rvalue_row c l PlaceRvalue.Discr place)) _
      (keeps_statement st₁ k₁ (place_rvalue_row c l PlaceRvalue.Discr place) (place_row c l PlaceRvalue.Discr place (omega arith) (lt_of_lt_of_le h low))) (λ st₂ k₂.
      holds_step p (try_block st₂) _ (keeps_block st₂ k₂) (λ st₃ k₃.
      holds_step p (else_state st₃ els) _ (keeps_else st₃ k₃ els) (λ st₄ k₄.
      holds (KeptBehind s₀ n) _ (kept_less low (kept_terminator st₄ c (discriminant_switch image v l (next_block st₂) (else_block st₃ els)) (omega arith) k₄))))))

-- the end of a length's test, where the length is a local below m
keeps_compared : {s₀ : State} {m : ℕ} (rest : RestOf) (image : List ℕ) (p n : ℕ) (ctx : Ctx) (st₀ st : State) (c t e : BasicBlockId) → length st₀.locals < m → Kept s₀ m st →
    Holds (KeptBehind s₀ m) (length_compared rest image p n ctx st₀ st c t e)
unfolding length_compared local_place
keeps_compared {s₀} {m} RestOf.none image p n ctx st₀ st c t e h k = holds (KeptBehind s₀ m) _ (kept_terminator st c (Terminator.Switch (next_local st₀) n 0 t e) h k)
keeps_compared (RestOf.binds q b how) image p n ctx st₀ st c t e h k = keeps_compare image p ctx c BinOp.Le (Left.Constant (length_constant n)) (local_place (next_local st₀)) st t e tt h k
keeps_compared RestOf.ignores image p n ctx st₀ st c t e h k = keeps_compare image p ctx c BinOp.Le (Left.Constant (length_constant n)) (local_place (next_local st₀)) st t e tt h k

-- the test of a slice's length
pub keeps_length : {s₀ : State} {n : ℕ} (rest : RestOf) (image : List ℕ) (p many : ℕ) (ctx : Ctx) (c : BasicBlockId) (els : OptBlock) (place : Place) → place.local.0 < n → Kept s₀ n ctx.state →
    Holds (KeptBehind s₀ n) (length_test rest image p many ctx c els place)
unfolding length_test
keeps_length {s₀} {n} rest image p many ctx c els place h k =
    let st = ctx.state in
    let l = next_local st in
    let more = k.more in
    let low : n ≤ suc (length st.locals) = omega (arith, more) in
    holds_as (λ r q. kept_less low q)
    (holds_step p (temp image st usize_word c) _ (keeps_temp image st usize_word c k) (λ st₁ k₁.
    holds_step p (try_statement st₁ (place_rvalue_row c l PlaceRvalue.Len place)) _
    (keeps_statement st₁ k₁ (place_rvalue_row c l PlaceRvalue.Len place) (place_row c l PlaceRvalue.Len place (omega arith) (lt_of_lt_of_le h low))) (λ st₂ k₂.
    holds_step p (else_state st₂ els) _ (keeps_else st₂ k₂ els) (λ st₃ k₃.
    holds_step p (try_block st₃) _ (keeps_block st₃ k₃) (λ st₄ k₄.
    keeps_compared rest image p many ctx st st₄ c (next_block st₃) (else_block st₂ els) (omega arith) k₄)))))

module _ {s₀ : State} {n : ℕ} (bindings : List ℕ) (below : WordsBelow bindings n) where
  -- what fills a binding
  pub keeps_binding : (p q b : ℕ) (how : BindingMode) (ctx : Ctx) (c : BasicBlockId) (els : OptBlock) (place : Place) → place.local.0 < n → Kept s₀ n ctx.state →
      Holds (KeptBehind s₀ n) (pattern_match_binding bindings p q b how ctx c els place)
  unfolding pattern_match_binding
  keeps_binding p q b how ctx c els place h k =
      holds_step q (binding_local bindings b) _ (bound_local bindings b below) (λ l i.
      holds_step p (push_storage_live_for_local ctx.state l c) _ (keeps_live ctx.state l i k c (is_held ctx.state l) refl) (λ st₁ k₁.
      holds_step p (try_statement st₁ (place_rvalue_row c l (binding_rvalue how) place)) _
      (keeps_statement st₁ k₁ (place_rvalue_row c l (binding_rvalue how) place) (place_row c l (binding_rvalue how) place i h)) (λ st₂ k₂.
      holds (KeptBehind s₀ n) _ k₂)))

  -- a path that names a local
  pub keeps_local : (p b : ℕ) → Keeps s₀ n (local_path bindings p b)
  unfolding local_path
  keeps_local p b MatchingMode.Check ctx c els place h k = refuses (KeptBehind s₀ n) MirLowerError.NotSupported p
  keeps_local p b MatchingMode.Bind ctx c els place h k = keeps_out ctx c els k
  keeps_local p b MatchingMode.Assign ctx c els place h k =
      holds_step p (binding_local bindings b) _ (bound_local bindings b below) (λ l i.
      holds_step p (try_statement ctx.state (place_rvalue_row c l PlaceRvalue.Copy place)) _
      (keeps_statement ctx.state k (place_rvalue_row c l PlaceRvalue.Copy place) (place_row c l PlaceRvalue.Copy place i h)) (λ st₁ k₁.
      holds (KeptBehind s₀ n) _ k₁))

-- a Lit by its operand's kind
pub keeps_lit : {s₀ : State} {n : ℕ} (kind : OperandKind) (image : List ℕ) (p ty : ℕ) (operand : Operand) → Keeps s₀ n (lit_by kind image p ty operand)
unfolding lit_by
keeps_lit OperandKind.Int image p ty operand mode ctx c els place h k = keeps_literal image p ctx c ty operand mode els place h k
keeps_lit OperandKind.Uint image p ty operand mode ctx c els place h k = keeps_literal image p ctx c ty operand mode els place h k
keeps_lit OperandKind.Char image p ty operand mode ctx c els place h k = keeps_literal image p ctx c ty operand mode els place h k
keeps_lit OperandKind.Bool image p ty operand mode ctx c els place h k = keeps_literal image p ctx c ty operand mode els place h k
keeps_lit OperandKind.Str image p ty operand mode ctx c els place h k = keeps_literal image p ctx c ty operand mode els place h k
keeps_lit OperandKind.CStr image p ty operand mode ctx c els place h k = keeps_literal image p ctx c ty operand mode els place h k
keeps_lit OperandKind.ByteStr image p ty operand mode ctx c els place h k = keeps_literal image p ctx c ty operand mode els place h k
keeps_lit {s₀} {n} OperandKind.Constant image p ty operand mode ctx c els place h k = refuses (KeptBehind s₀ n) MirLowerError.NotSupported p
keeps_lit OperandKind.Float image p ty operand mode ctx c els place h k = keeps_literal image p ctx c ty operand mode els place h k
keeps_lit {s₀} {n} OperandKind.Other image p ty operand mode ctx c els place h k = refuses (KeptBehind s₀ n) MirLowerError.NotSupported p
keeps_lit {s₀} {n} OperandKind.Unknown image p ty operand mode ctx c els place h k = refuses (KeptBehind s₀ n) MirLowerError.NotSupported p
