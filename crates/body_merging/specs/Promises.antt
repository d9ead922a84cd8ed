-- What the functions promise: with the body at exit, their answers are what the definitions give. Assumes nothing: these are definitions.
use Rattle.std.specs.Prelude.{◌≡◌}
use Rattle.std.proofs.Math.Option.{none}
use Rattle.mir.specs.declared.Counts.{Counts}
use Rattle.state.specs.State.{Body, decode}
use Rattle.state.specs.Promises.{Ready, Goes}
use Rattle.lower_spec.specs.Results.{Merged}
use Rattle.lower_spec.specs.Results.{OptBlock}
use Rattle.lower_spec.specs.Merging.{merge_blocks}
use Rattle.lower_spec.specs.Promises.{MergedAt}
use Rattle.lower_spec.specs.Replies.{merged_result, merged_counts}

-- two ways go on at one block
pub record Merges (c : Counts) (x y : OptBlock) (b₀ : Body) (r : Merged) (b : Body) : Type 0 where
  pub says : Ready b₀ c → merged_result r b ≡ merge_blocks (decode b₀ c) x y
  pub goes : Ready b₀ c → Goes c (merged_counts r) b
  pub number : MergedAt c x y r
  -- a refusal has written nothing
  pub untouched : merged_counts r ≡ none → b ≡ b₀
