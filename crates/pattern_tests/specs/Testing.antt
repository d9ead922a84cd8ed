-- The tests of the lowering, cut where the code is cut. Assumes nothing: these are definitions.
use Rattle.std.specs.Prelude.{Some}
use Rattle.std.specs.Prelude.{ℕ, Bool, true, false, List}
use Rattle.image.specs.declared.kinds.OperandKind.{OperandKind}
use Rattle.refusals.specs.Refusals.{Result, done}
use Rattle.place.specs.declared.LocalId.{LocalId}
use Rattle.place.specs.declared.Place.{Place}
use Rattle.mir.specs.declared.BasicBlockId.{BasicBlockId}
use Rattle.mir.specs.declared.blocks.Terminator.{Terminator}
use Rattle.mir.specs.declared.rvalues.BinOp.{BinOp}
use Rattle.mir.specs.declared.rvalues.Constant.{Constant}
use Rattle.mir.specs.declared.rvalues.Left.{Left}
use Rattle.mir.specs.declared.rvalues.PlaceRvalue.{PlaceRvalue}
use Rattle.mir.specs.Rvalues.{binary_row, place_rvalue_row}
use Rattle.state.specs.State.{State}
use Rattle.state.specs.Steps.{next_block, next_local, try_block, try_statement, set_terminator}
use Rattle.lower_spec.specs.Results.{OptBlock}
use Rattle.lower_spec.specs.Temps.{temp}
use Rattle.pattern_matching.specs.Walking.{Ctx, Out, Walk, step, out, with_state, local_place, else_state, else_block}
use Rattle.pattern_matching.specs.Tests.{bool_word, usize_word}
use Rattle.pattern_matching.specs.Slices.{RestOf, length_constant}
use Rattle.pattern_switching.specs.Switching.{compare_step, then_switch}

-- an operand's kind is a literal's
unfoldable pub is_literal : OperandKind → Bool
is_literal OperandKind.Int = true
is_literal OperandKind.Uint = true
is_literal OperandKind.Char = true
is_literal OperandKind.Bool = true
is_literal OperandKind.Str = true
is_literal OperandKind.CStr = true
is_literal OperandKind.ByteStr = true
is_literal OperandKind.Constant = false
is_literal OperandKind.Float = true
is_literal OperandKind.Other = false
is_literal OperandKind.Unknown = false

-- a constant path's test, where the local l holds the constant
unfoldable pub constant_compared : List ℕ → ℕ → LocalId → Ctx → BasicBlockId → OptBlock → Place → Walk Out
constant_compared image p l ctx current els place =
    step p (temp image ctx.state bool_word current) (λ st₁.
    step p (try_statement st₁ (binary_row current (next_local ctx.state) BinOp.Eq (Left.Local l) place)) (λ st₂.
    then_switch p (next_local ctx.state) 1 0 (with_state ctx st₂) current els))

-- the end of the length's test, where the local l holds it: exactly n without a rest, and at least n with one
unfoldable pub length_end : List ℕ → LocalId → ℕ → Bool → State → BasicBlockId → BasicBlockId → BasicBlockId → Result State
length_end image l n false st current then other = done (set_terminator st current (Terminator.Switch l n 0 then other))
length_end image l n true st current then other = compare_step image BinOp.Le (Left.Constant (length_constant n)) (local_place l) st current then other

-- the blocks of the length's test: an else is made before the block that goes on
unfoldable pub length_switch : List ℕ → ℕ → LocalId → ℕ → Bool → Ctx → BasicBlockId → OptBlock → Walk Out
length_switch image p l n rest ctx current els =
    step p (else_state ctx.state els) (λ st₁.
    step p (try_block st₁) (λ st₂.
    step p (length_end image l n rest st₂ current (next_block st₁) (else_block ctx.state els)) (λ st₃.
    out (with_state ctx st₃) (next_block st₁) (Some (else_block ctx.state els)))))

-- the length's test, with a rest or without
unfoldable pub length_test_by : Bool → List ℕ → ℕ → ℕ → Ctx → BasicBlockId → OptBlock → Place → Walk Out
length_test_by rest image p n ctx current els place =
    step p (temp image ctx.state usize_word current) (λ st₁.
    step p (try_statement st₁ (place_rvalue_row current (next_local ctx.state) PlaceRvalue.Len place)) (λ st₂.
    length_switch image p (next_local ctx.state) n rest (with_state ctx st₂) current els))

-- a Slice pattern has something between its items
unfoldable pub has_rest : RestOf → Bool
has_rest RestOf.none = false
has_rest (RestOf.binds q b how) = true
has_rest RestOf.ignores = true
