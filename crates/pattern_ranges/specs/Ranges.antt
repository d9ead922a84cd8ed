-- The test of a range's end, cut where the code is cut. Assumes nothing: these are definitions.
use Rattle.std.specs.Prelude.{ℕ, List}
use Rattle.place.specs.declared.Place.{Place}
use Rattle.mir.specs.declared.BasicBlockId.{BasicBlockId}
use Rattle.mir.specs.declared.rvalues.BinOp.{BinOp}
use Rattle.mir.specs.declared.rvalues.Constant.{Constant}
use Rattle.mir.specs.declared.rvalues.Left.{Left}
use Rattle.state.specs.Steps.{next_block, try_block}
use Rattle.lower_spec.specs.Results.{OptBlock}
use Rattle.pattern_matching.specs.Walking.{Ctx, Out, Walk, step, else_state, else_block}
use Rattle.pattern_matching.specs.Tests.{compare}

-- the test of a range's end, where it is lowered
unfoldable pub range_test : List ℕ → ℕ → BinOp → Constant → Ctx → BasicBlockId → OptBlock → Place → Walk Out
range_test image p op c ctx current els place =
    step p (else_state ctx.state els) (λ st₁.
    step p (try_block st₁) (λ st₂.
    compare image p op (Left.Constant c) place ctx st₂ current (next_block st₁) (else_block ctx.state els)))
