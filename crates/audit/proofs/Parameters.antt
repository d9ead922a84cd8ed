-- The auditor's page on parameters, demands 2 and 3: the calls of `lower_params_and_bindings`. `AcceptedParams call out` is what its contract promises of a call that is accepted, with what
-- lies in the tables when it returns. Each theorem is proved by one citation. Assumes nothing.
use Prim.Native.Nat.{ℕ, ◌≤◌, ◌<◌}
use mathlib.Core.Path.{◌≡◌}
use mathlib.Core.List.{List}
use Rattle.mir.specs.declared.blocks.Terminator.{Terminator}
use Rattle.views.specs.Views.{Mir, mir_of}
use Rattle.views.specs.Growing.{terminator_at, GoesOn}
use Rattle.meaning.specs.Values.{Value}
use Rattle.meaning.specs.Running.{Env}
use Rattle.called.specs.Params.{ParamsHanded, ParamsHandedOut, AcceptedParams, after_params, CountedParams, FittingParams, ComesThroughParams}
use Rattle.called.proofs.Params as calls

-- Every call that is accepted, and what it hands out.
module _ (call : ParamsHanded) (out : ParamsHandedOut) (accepted : AcceptedParams call out) where
  -- the first parameter's local, or self's, is the next one when the call comes
  pub the_first_local_is_the_next_one : out.first.0 ≡ call.counts.locals
  the_first_local_is_the_next_one = calls.first_next call out accepted

  -- "of the new blocks exactly the returned one is open": one that is open is returned ..
  pub only_the_returned_block_is_open : (b : ℕ) → call.counts.blocks ≤ b → b < out.counts.blocks → terminator_at (mir_of (after_params out)) b ≡ Terminator.Open → b ≡ out.then.0
  only_the_returned_block_is_open = calls.only_returned_open call out accepted

  -- .. and the one returned is
  pub the_returned_block_is_open : terminator_at (mir_of (after_params out)) out.then.0 ≡ Terminator.Open
  the_returned_block_is_open = calls.returned_open call out accepted

  -- "the new blocks and statements are the totals of the lowered parameters' counts"
  pub the_counts_are_the_totals : CountedParams call out
  the_counts_are_the_totals = calls.counted_totals call out accepted

  -- "for parameters that all fit, on values that all match, the run comes to the returned block with every parameter's bindings as the Reference says, and enters no block
  -- twice", in every body M that goes on from the lowered one; the parameters' locals hold the values before
  pub values_that_match_come_to_the_returned_block : (M : Mir) → GoesOn (mir_of (after_params out)) M → (vs : List Value) (env : Env) → FittingParams call out vs env →
      ComesThroughParams call out M vs env
  values_that_match_come_to_the_returned_block = calls.values_come_through call out accepted
