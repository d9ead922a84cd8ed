-- Each test grows a body well, and so does what fills a binding. Assumes nothing.
use Rattle.std.specs.Prelude.{Some, None}
use Prim.Native.Nat.{ℕ, suc, ◌%◌, ◌/◌}
use native.Mathlib.Omega.{arith}
use mathlib.Core.Path.{◌≡◌, refl, sym, subst}
use mathlib.Core.Option.{Option, none, some}
use mathlib.Core.List.{List}
use Rattle.image.specs.declared.kinds.BindingMode.{BindingMode}
use Rattle.image.specs.declared.kinds.OperandKind.{OperandKind}
use Rattle.image.specs.Types.{Operand, variant_of}
use Rattle.refusals.specs.declared.MirLowerError.{MirLowerError}
use Rattle.place.specs.declared.Place.{Place}
use Rattle.mir.specs.declared.BasicBlockId.{BasicBlockId}
use Rattle.mir.specs.declared.blocks.Terminator.{Terminator}
use Rattle.mir.specs.declared.rvalues.Constant.{Constant}
use Rattle.mir.specs.declared.rvalues.BinOp.{BinOp}
use Rattle.mir.specs.declared.rvalues.Left.{Left}
use Rattle.mir.specs.declared.rvalues.PlaceRvalue.{PlaceRvalue}
use Rattle.mir.specs.Rvalues.{place_rvalue_row, constant_row, binary_row}
use Rattle.state.specs.State.{State}
use Rattle.state.specs.Steps.{next_block, next_local, try_block, try_statement, set_terminator}
use Rattle.literals.specs.Literals.{lower_literal_to_operand, lower_const_to_operand, lower_literal_or_const_to_operand}
use Rattle.lower_spec.specs.Results.{OptBlock}
use Rattle.lower_spec.specs.Temps.{is_held, temp, binding_local, push_storage_live_for_local, discr_temp_place}
use Rattle.views.specs.Growing.{Closed}
use Rattle.pattern_matching.specs.declared.MatchingMode.{MatchingMode}
use Rattle.pattern_matching.specs.Walking.{Ctx, ok, local_place, else_state, else_block}
use Rattle.pattern_matching.specs.Tests.{bool_word, usize_word, compare, pattern_match_const, literal, lit_by, constant_path, range_end, range_end?, binding_rvalue, pattern_match_binding, local_path}
use Rattle.pattern_matching.specs.Variants.{discriminant_test}
use Rattle.pattern_matching.specs.Slices.{RestOf, length_constant, length_compared, length_test}
use Rattle.growth.specs.Opened.{count}
use Rattle.growth.proofs.Opening.{Opens, Adds, opens_seq, adds_seq, opens_block, count_tried, adds_statement, place_block, constant_block, binary_block, adds_live, adds_temp, opens_else, WithElse, count_else}
use Rattle.growth.proofs.Leaving.{result, Forks, leaves_fork}
use Rattle.growth.proofs.Walks.{Good, good_refused, good_ok, good_lines, good_step, good_out, good_check, Grows}

-- the end of a test
good_fork : {st st₁ : State} {c : BasicBlockId} {els : OptBlock} (v : List ℕ) (t e : BasicBlockId) (end : Terminator) → Closed end → Opens st c.0 st₁ →
    Forks (count st) els (count st₁) t.0 e.0 → Good MatchingMode.Check st c els (ok (result (set_terminator st₁ c end) v t (Some e)))
good_fork {st₁} {c} v t e end z o f = good_ok (result (set_terminator st₁ c end) v t (Some e)) (λ h. leaves_fork t e end z h o f) (λ b. absurd b)

-- the block where a match goes on was made before an else
then_else_lem : (n t : ℕ) (els : OptBlock) (s : State) (m : ℕ) → t ≡ n → count s ≡ suc t → WithElse els (count s) m → Forks n els m t (else_block s els).0
unfolding else_block
then_else_lem n t None s m h k w = (omega arith, omega arith, omega arith, omega arith, omega arith, omega arith)
then_else_lem n t (Some e) s m h k w = (omega arith, omega arith, refl)

-- and behind it
else_then_lem : (n t : ℕ) (els : OptBlock) (s : State) (m : ℕ) → count s ≡ n → WithElse els (count s) t → m ≡ suc t → Forks n els m t (else_block s els).0
unfolding else_block
else_then_lem n t None s m h w k = (omega arith, omega arith, omega arith, omega arith, omega arith, omega arith)
else_then_lem n t (Some e) s m h w k = (omega arith, omega arith, refl)

-- two blocks made, and then lines
fork_lines : (n : ℕ) (els : OptBlock) (t e : ℕ) {st st₁ : State} {c : ℕ} → Adds st c st₁ → Forks n els (count st) t e → Forks n els (count st₁) t e
fork_lines n els t e a f = subst (λ (m : ℕ). Forks n els m t e) (sym a.same) f

-- an operator's test, where both blocks are made
pub good_compare : (image : List ℕ) (p : ℕ) (op : BinOp) (left : Left) (place : Place) (ctx : Ctx) {start st : State} {c : BasicBlockId} {els : OptBlock} (t e : BasicBlockId) →
    Opens start c.0 st → Forks (count start) els (count st) t.0 e.0 → Good MatchingMode.Check start c els (compare image p op left place ctx st c t e)
unfolding compare
good_compare image p op left place ctx {start} {st} {c} {els} t e o f =
    good_step p (temp image st bool_word c) _ (λ st₁ e₁.
    good_step p (try_statement st₁ (binary_row c (next_local st) op left place)) _ (λ st₂ e₂.
    let a = adds_seq (adds_temp image st st₁ bool_word c e₁) (adds_statement st₁ st₂ c.0 (binary_row c (next_local st) op left place) (binary_block c (next_local st) op left place) e₂) in
    good_fork ctx.visits t e (Terminator.Switch (next_local st) 1 0 t e) tt (opens_seq o a.opens) (fork_lines (count start) els t.0 e.0 a f)))

-- a constant's test
pub good_const : (image : List ℕ) (p : ℕ) (k : Constant) (ctx : Ctx) (c : BasicBlockId) (els : OptBlock) (place : Place) →
    Good MatchingMode.Check ctx.state c els (pattern_match_const image p k ctx c els place)
unfolding pattern_match_const
good_const image p k ctx c els place =
    let st = ctx.state in
    good_step p (try_block st) _ (λ st₁ e₁.
    good_step p (else_state st₁ els) _ (λ st₂ e₂.
    good_compare image p BinOp.Eq (Left.Constant k) place ctx (next_block st) (else_block st₁ els)
    (opens_seq (opens_block st st₁ c.0 e₁) (opens_else st₁ st₂ c.0 els e₂))
    (then_else_lem (count st) (count st) els st₁ (count st₂) refl (count_tried st st₁ e₁) (count_else st₁ st₂ els e₂))))

-- a literal
grows_literal : (image : List ℕ) (p ty : ℕ) (operand : Operand) → Grows (literal image p ty operand)
unfolding literal
grows_literal image p ty operand mode ctx c els place =
    good_check mode _ _ (good_step p (lower_literal_to_operand image ty operand) _ (λ k e. good_const image p k ctx c els place)) (λ b. good_out ctx c els)

-- a Lit by its operand's kind
pub grows_lit : (kind : OperandKind) (image : List ℕ) (p ty : ℕ) (operand : Operand) → Grows (lit_by kind image p ty operand)
unfolding lit_by
grows_lit OperandKind.Int image p ty operand = grows_literal image p ty operand
grows_lit OperandKind.Uint image p ty operand = grows_literal image p ty operand
grows_lit OperandKind.Char image p ty operand = grows_literal image p ty operand
grows_lit OperandKind.Bool image p ty operand = grows_literal image p ty operand
grows_lit OperandKind.Str image p ty operand = grows_literal image p ty operand
grows_lit OperandKind.CStr image p ty operand = grows_literal image p ty operand
grows_lit OperandKind.ByteStr image p ty operand = grows_literal image p ty operand
grows_lit OperandKind.Constant image p ty operand = λ mode ctx c els place. good_refused MirLowerError.NotSupported p
grows_lit OperandKind.Float image p ty operand = grows_literal image p ty operand
grows_lit OperandKind.Other image p ty operand = λ mode ctx c els place. good_refused MirLowerError.NotSupported p
grows_lit OperandKind.Unknown image p ty operand = λ mode ctx c els place. good_refused MirLowerError.NotSupported p

-- a constant path
pub grows_constant : (image : List ℕ) (p ty : ℕ) (operand : Operand) → Grows (constant_path image p ty operand)
unfolding constant_path
grows_constant image p ty operand mode ctx c els place =
    let st = ctx.state in
    let k = lower_const_to_operand ty operand in
    good_check mode _ _
    (good_step p (temp image st ty c) _ (λ st₁ e₁.
    good_step p (try_statement st₁ (constant_row c (next_local st) k)) _ (λ st₂ e₂.
    good_step p (temp image st₂ bool_word c) _ (λ st₃ e₃.
    good_step p (try_statement st₃ (binary_row c (next_local st₂) BinOp.Eq (Left.Local (next_local st)) place)) _ (λ st₄ e₄.
    good_step p (try_block st₄) _ (λ st₅ e₅.
    good_step p (else_state st₅ els) _ (λ st₆ e₆.
    let a = adds_seq (adds_seq (adds_temp image st st₁ ty c e₁) (adds_statement st₁ st₂ c.0 (constant_row c (next_local st) k) (constant_block c (next_local st) k) e₂))
    (adds_seq (adds_temp image st₂ st₃ bool_word c e₃)
    (adds_statement st₃ st₄ c.0 (binary_row c (next_local st₂) BinOp.Eq (Left.Local (next_local st)) place) (binary_block c (next_local st₂) BinOp.Eq (Left.Local (next_local st)) place) e₄)) in
    good_fork ctx.visits (next_block st₄) (else_block st₅ els) (Terminator.Switch (next_local st₂) 1 0 (next_block st₄) (else_block st₅ els)) tt
    (opens_seq a.opens (opens_seq (opens_block st₄ st₅ c.0 e₅) (opens_else st₅ st₆ c.0 els e₆)))
    (then_else_lem (count st) (count st₄) els st₅ (count st₆) a.same (count_tried st₄ st₅ e₅) (count_else st₅ st₆ els e₆)))))))))
    (λ b. good_out ctx c els)

-- one end of a range
pub good_range_end : (image : List ℕ) (p ty : ℕ) (op : BinOp) (operand : Option Operand) (ctx : Ctx) (c : BasicBlockId) (els : OptBlock) (place : Place) →
    Good MatchingMode.Check ctx.state c els (range_end? image p ty op operand ctx c els place)
unfolding range_end? range_end
good_range_end image p ty op none ctx c els place = good_out ctx c els
good_range_end image p ty op (some operand) ctx c els place =
    let st = ctx.state in
    good_step p (lower_literal_or_const_to_operand image ty operand) _ (λ k e.
    good_step p (else_state st els) _ (λ st₁ e₁.
    good_step p (try_block st₁) _ (λ st₂ e₂.
    good_compare image p op (Left.Constant k) place ctx (next_block st₁) (else_block st els)
    (opens_seq (opens_else st st₁ c.0 els e₁) (opens_block st₁ st₂ c.0 e₂))
    (else_then_lem (count st) (count st₁) els st (count st₂) refl (count_else st st₁ els e₁) (count_tried st₁ st₂ e₂)))))

-- the end of a length's test
good_length_end : (rest : RestOf) (image : List ℕ) (p n : ℕ) (ctx : Ctx) (st₀ : State) {start st : State} {c : BasicBlockId} {els : OptBlock} (t e : BasicBlockId) →
    Opens start c.0 st → Forks (count start) els (count st) t.0 e.0 → Good MatchingMode.Check start c els (length_compared rest image p n ctx st₀ st c t e)
unfolding length_compared
good_length_end RestOf.none image p n ctx st₀ t e o f = good_fork ctx.visits t e (Terminator.Switch (next_local st₀) n 0 t e) tt o f
good_length_end (RestOf.binds q b how) image p n ctx st₀ t e o f =
    good_compare image p BinOp.Le (Left.Constant (length_constant n)) (local_place (next_local st₀)) ctx t e o f
good_length_end RestOf.ignores image p n ctx st₀ t e o f = good_compare image p BinOp.Le (Left.Constant (length_constant n)) (local_place (next_local st₀)) ctx t e o f

-- the test of a slice's length
pub good_length : (rest : RestOf) (image : List ℕ) (p n : ℕ) (ctx : Ctx) (c : BasicBlockId) (els : OptBlock) (place : Place) →
    Good MatchingMode.Check ctx.state c els (length_test rest image p n ctx c els place)
unfolding length_test
good_length rest image p n ctx c els place =
    let st = ctx.state in
    good_step p (temp image st usize_word c) _ (λ st₁ e₁.
    good_step p (try_statement st₁ (place_rvalue_row c (next_local st) PlaceRvalue.Len place)) _ (λ st₂ e₂.
    good_step p (else_state st₂ els) _ (λ st₃ e₃.
    good_step p (try_block st₃) _ (λ st₄ e₄.
    let a = adds_seq (adds_temp image st st₁ usize_word c e₁)
    (adds_statement st₁ st₂ c.0 (place_rvalue_row c (next_local st) PlaceRvalue.Len place) (place_block c (next_local st) PlaceRvalue.Len place) e₂) in
    good_length_end rest image p n ctx st (next_block st₃) (else_block st₂ els)
    (opens_seq a.opens (opens_seq (opens_else st₂ st₃ c.0 els e₃) (opens_block st₃ st₄ c.0 e₄)))
    (else_then_lem (count st) (count st₃) els st₂ (count st₄) a.same (count_else st₂ st₃ els e₃) (count_tried st₃ st₄ e₄))))))

-- the test of an enum
pub good_discriminant : (image : List ℕ) (p v : ℕ) (ctx : Ctx) (c : BasicBlockId) (els : OptBlock) (place : Place) →
    Good MatchingMode.Check ctx.state c els (discriminant_test image p v ctx c els place)
unfolding discriminant_test
good_discriminant image p v ctx c els place =
    let st = ctx.state in
    let l = next_local st in
    good_step p (discr_temp_place image st c) _ (λ st₁ e₁.
    good_step p (try_statement st₁ (place_rvalue_row c l PlaceRvalue.Discr place)) _ (λ st₂ e₂.
    good_step p (try_block st₂) _ (λ st₃ e₃.
    good_step p (else_state st₃ els) _ (λ st₄ e₄.
    let a = adds_seq (adds_temp image st st₁ 258 c e₁)
    (adds_statement st₁ st₂ c.0 (place_rvalue_row c l PlaceRvalue.Discr place) (place_block c l PlaceRvalue.Discr place) e₂) in
    let value = (variant_of image v).discriminant in
    good_fork ctx.visits (next_block st₂) (else_block st₃ els)
    (Terminator.Switch l (value % 18446744073709551616) (value / 18446744073709551616) (next_block st₂) (else_block st₃ els)) tt
    (opens_seq a.opens (opens_seq (opens_block st₂ st₃ c.0 e₃) (opens_else st₃ st₄ c.0 els e₄)))
    (then_else_lem (count st) (count st₂) els st₃ (count st₄) a.same (count_tried st₂ st₃ e₃) (count_else st₃ st₄ els e₄))))))

-- what fills a binding
pub good_binding : {mode : MatchingMode} (bindings : List ℕ) (p q b : ℕ) (how : BindingMode) (ctx : Ctx) (c : BasicBlockId) (els : OptBlock) (place : Place) →
    Good mode ctx.state c els (pattern_match_binding bindings p q b how ctx c els place)
unfolding pattern_match_binding
good_binding bindings p q b how ctx c els place =
    let st = ctx.state in
    good_step q (binding_local bindings b) _ (λ l e.
    good_step p (push_storage_live_for_local st l c) _ (λ st₁ e₁.
    good_step p (try_statement st₁ (place_rvalue_row c l (binding_rvalue how) place)) _ (λ st₂ e₂.
    good_lines ctx.visits (adds_seq (adds_live (is_held st l) st st₁ l c e₁)
    (adds_statement st₁ st₂ c.0 (place_rvalue_row c l (binding_rvalue how) place) (place_block c l (binding_rvalue how) place) e₂)))))

-- a path that names a local
pub grows_local : (bindings : List ℕ) (p b : ℕ) → Grows (local_path bindings p b)
unfolding local_path
grows_local bindings p b MatchingMode.Check ctx c els place = good_refused MirLowerError.NotSupported p
grows_local bindings p b MatchingMode.Bind ctx c els place = good_out ctx c els
grows_local bindings p b MatchingMode.Assign ctx c els place =
    good_step p (binding_local bindings b) _ (λ l e.
    good_step p (try_statement ctx.state (place_rvalue_row c l PlaceRvalue.Copy place)) _ (λ st₁ e₁.
    good_lines ctx.visits (adds_statement ctx.state st₁ c.0 (place_rvalue_row c l PlaceRvalue.Copy place) (place_block c l PlaceRvalue.Copy place) e₁)))
