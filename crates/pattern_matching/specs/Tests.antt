-- The tests: literals, constants, ranges, and what a binding is filled with. Assumes nothing: these are definitions.
use Rattle.std.specs.Prelude.{Some}
use Rattle.std.specs.Prelude.{ℕ, List}
use Rattle.std.proofs.Math.Option.{Option, none, some}
use Rattle.image.specs.declared.kinds.BindingMode.{BindingMode}
use Rattle.image.specs.declared.kinds.OperandKind.{OperandKind}
use Rattle.image.specs.Types.{Operand}
use Rattle.refusals.specs.declared.MirLowerError.{MirLowerError}
use Rattle.place.specs.declared.LocalId.{LocalId}
use Rattle.place.specs.declared.Place.{Place}
use Rattle.mir.specs.declared.BasicBlockId.{BasicBlockId}
use Rattle.mir.specs.declared.blocks.Terminator.{Terminator}
use Rattle.mir.specs.declared.rvalues.Constant.{Constant}
use Rattle.mir.specs.declared.rvalues.BinOp.{BinOp}
use Rattle.mir.specs.declared.rvalues.Left.{Left}
use Rattle.mir.specs.declared.rvalues.PlaceRvalue.{PlaceRvalue}
use Rattle.mir.specs.Rvalues.{place_rvalue_row, constant_row, binary_row}
use Rattle.state.specs.State.{State}
use Rattle.state.specs.Steps.{next_block, next_local, try_block, try_statement, set_terminator}
use Rattle.literals.specs.Literals.{lower_literal_to_operand, lower_const_to_operand, lower_literal_or_const_to_operand}
use Rattle.lower_spec.specs.Results.{OptBlock}
use Rattle.lower_spec.specs.Temps.{temp, binding_local, push_storage_live_for_local}
use Rattle.pattern_matching.specs.declared.MatchingMode.{MatchingMode}
use Rattle.pattern_matching.specs.Walking.{Ctx, Out, Walk, refused, Lowering, step, out, with_state, else_state, else_block, in_check}

-- the words of the types of locals that a test makes: bool and usize
abbrev pub bool_word : ℕ
bool_word = 256

abbrev pub usize_word : ℕ
usize_word = 257

-- the end of a test: a block goes on at `then` where the local is 1, and else at `else`
abbrev pub if_true : State → BasicBlockId → LocalId → BasicBlockId → BasicBlockId → State
if_true st current l then else = set_terminator st current (Terminator.Switch l 1 0 then else)

-- a new local of type bool is what an operator makes of two operands, and the block goes on by it
unfoldable pub compare : List ℕ → ℕ → BinOp → Left → Place → Ctx → State → BasicBlockId → BasicBlockId → BasicBlockId → Walk Out
compare image p op left place ctx st current then else =
    step p (temp image st bool_word current) (λ st₁.
    step p (try_statement st₁ (binary_row current (next_local st) op left place)) (λ st₂.
    out (with_state ctx (if_true st₂ current (next_local st) then else)) then (Some else)))

-- `pattern_match_const`: `then` is made before an else
unfoldable pub pattern_match_const : List ℕ → ℕ → Constant → Ctx → BasicBlockId → OptBlock → Place → Walk Out
pattern_match_const image p c ctx current else place =
    step p (try_block ctx.state) (λ st₁.
    step p (else_state st₁ else) (λ st₂.
    compare image p BinOp.Eq (Left.Constant c) place ctx st₂ current (next_block ctx.state) (else_block st₁ else)))

-- a literal pattern tests in Check
unfoldable pub literal : List ℕ → ℕ → ℕ → Operand → Lowering
literal image p ty operand mode ctx current else place =
    in_check mode (step p (lower_literal_to_operand image ty operand) (λ c. pattern_match_const image p c ctx current else place)) (out ctx current else)

-- Lit by its operand's kind: what is no literal is refused in every mode
unfoldable pub lit_by : OperandKind → List ℕ → ℕ → ℕ → Operand → Lowering
lit_by OperandKind.Int image p ty operand mode ctx current else place = literal image p ty operand mode ctx current else place
lit_by OperandKind.Uint image p ty operand mode ctx current else place = literal image p ty operand mode ctx current else place
lit_by OperandKind.Char image p ty operand mode ctx current else place = literal image p ty operand mode ctx current else place
lit_by OperandKind.Bool image p ty operand mode ctx current else place = literal image p ty operand mode ctx current else place
lit_by OperandKind.Str image p ty operand mode ctx current else place = literal image p ty operand mode ctx current else place
lit_by OperandKind.CStr image p ty operand mode ctx current else place = literal image p ty operand mode ctx current else place
lit_by OperandKind.ByteStr image p ty operand mode ctx current else place = literal image p ty operand mode ctx current else place
lit_by OperandKind.Constant image p ty operand mode ctx current else place = refused MirLowerError.NotSupported p
lit_by OperandKind.Float image p ty operand mode ctx current else place = literal image p ty operand mode ctx current else place
lit_by OperandKind.Other image p ty operand mode ctx current else place = refused MirLowerError.NotSupported p
lit_by OperandKind.Unknown image p ty operand mode ctx current else place = refused MirLowerError.NotSupported p

-- a constant path tests in Check: the constant is copied to a temporary first, and `then` is made before an else
unfoldable pub constant_path : List ℕ → ℕ → ℕ → Operand → Lowering
constant_path image p ty operand mode ctx current else place =
    in_check mode
    (step p (temp image ctx.state ty current) (λ st₁.
    step p (try_statement st₁ (constant_row current (next_local ctx.state) (lower_const_to_operand ty operand))) (λ st₂.
    step p (temp image st₂ bool_word current) (λ st₃.
    step p (try_statement st₃ (binary_row current (next_local st₂) BinOp.Eq (Left.Local (next_local ctx.state)) place)) (λ st₄.
    step p (try_block st₄) (λ st₅.
    step p (else_state st₅ else) (λ st₆.
    out (with_state ctx (if_true st₆ current (next_local st₂) (next_block st₄) (else_block st₅ else))) (next_block st₄) (Some (else_block st₅ else)))))))))
    (out ctx current else)

-- one end of a range: an else is made before the block that goes on
unfoldable pub range_end : List ℕ → ℕ → ℕ → BinOp → Operand → Ctx → BasicBlockId → OptBlock → Place → Walk Out
range_end image p ty op operand ctx current else place =
    step p (lower_literal_or_const_to_operand image ty operand) (λ c.
    step p (else_state ctx.state else) (λ st₁.
    step p (try_block st₁) (λ st₂.
    compare image p op (Left.Constant c) place ctx st₂ current (next_block st₁) (else_block ctx.state else))))

unfoldable pub range_end? : List ℕ → ℕ → ℕ → BinOp → Option Operand → Ctx → BasicBlockId → OptBlock → Place → Walk Out
range_end? image p ty op none ctx current else place = out ctx current else
range_end? image p ty op (some operand) ctx current else place = range_end image p ty op operand ctx current else place

-- how a binding is filled: with a copy of what lies at the place, or with a reference to it
unfoldable pub binding_rvalue : BindingMode → PlaceRvalue
binding_rvalue BindingMode.Value = PlaceRvalue.Copy
binding_rvalue BindingMode.Ref = PlaceRvalue.Ref
binding_rvalue BindingMode.RefMut = PlaceRvalue.Mut
binding_rvalue BindingMode.Unknown = PlaceRvalue.Copy

-- `pattern_match_binding`: the binding's local is looked up for the pattern q (a Bind, a rest or a parameter), made live, and filled
unfoldable pub pattern_match_binding : List ℕ → ℕ → ℕ → ℕ → BindingMode → Ctx → BasicBlockId → OptBlock → Place → Walk Out
pattern_match_binding bindings p q b how ctx current else place =
    step q (binding_local bindings b) (λ l.
    step p (push_storage_live_for_local ctx.state l current) (λ st₁.
    step p (try_statement st₁ (place_rvalue_row current l (binding_rvalue how) place)) (λ st₂. out (with_state ctx st₂) current else)))

-- a path that names a local: assigned to in Assign, and nothing to test or to bind
unfoldable pub local_path : List ℕ → ℕ → ℕ → Lowering
local_path bindings p b MatchingMode.Check ctx current else place = refused MirLowerError.NotSupported p
local_path bindings p b MatchingMode.Bind ctx current else place = out ctx current else
local_path bindings p b MatchingMode.Assign ctx current else place =
    step p (binding_local bindings b) (λ l.
    step p (try_statement ctx.state (place_rvalue_row current l PlaceRvalue.Copy place)) (λ st₁. out (with_state ctx st₁) current else))
