-- The auditor's page, demands 2 and 3. Each theorem is a demand, or a sentence of one, in the words of the documents, and is proved by one citation. It speaks of the calls of
-- `pattern_match`: `Accepted call out` is what its contract promises of a call that is accepted, with what lies in the tables when it returns. Assumes nothing.
use Rattle.std.specs.Prelude.{Some}
use Prim.Native.Nat.{ℕ, ◌+◌, ◌≤◌, ◌<◌}
use mathlib.Core.Path.{◌≡◌}
use mathlib.Core.Logic.{◌⊎◌}
use mathlib.Core.Bool.{true, false}
use mathlib.Core.List.{[]}
use lib.ListN.{get_or}
use Rattle.mir.specs.declared.BasicBlockId.{BasicBlockId}
use Rattle.mir.specs.declared.blocks.Terminator.{Terminator}
use Rattle.views.specs.Views.{Mir, mir_of}
use Rattle.views.specs.Growing.{terminator_at, GoesOn}
use Rattle.counting.specs.Demand3.{Counted}
use Rattle.counting.specs.Reaching.{Reached}
use Rattle.meaning.specs.Running.{Env}
use Rattle.called.specs.Call.{Call, HandedOut, Accepted, after, pattern_of, start_of, result_of}
use Rattle.called.specs.Passes.{TwoPasses}
use Rattle.called.specs.Runs.{IsReachedIn, FittingValue, matching, bound, ComesToThen, ComesToElse, StopsAtThen, StopsAtElse}
use Rattle.called.proofs.Runs.{if_it_matches, if_not, stops}
use Rattle.called.proofs.Bodies.{only_those_open, those_open, two_passes, counted, reached_visits, other_visits}

-- Demands 2 and 3 on runs: an accepted call on a pattern that fits its place and a value that does, in every body M that goes on from the one handed out, whatever the locals
-- hold before.
module _ {call : Call} {out : HandedOut} (on : FittingValue call out) (M : Mir) (goes_on_lem : GoesOn (mir_of (after out)) M) (env : Env) where
  -- "the blocks lead a value to the then block when the Reference says it matches, with the bindings it says"
  pub a_value_that_matches_comes_to_then : matching on ≡ true → ComesToThen on M env (bound on)
  a_value_that_matches_comes_to_then = if_it_matches on M goes_on_lem env

  -- "and otherwise to the else block": with nothing bound
  pub any_other_value_comes_to_else : matching on ≡ false → ComesToElse on M env []
  any_other_value_comes_to_else = if_not on M goes_on_lem env

  -- "For every fitting pattern and every fitting value, the run enters no block twice and stops at then or else."
  pub the_run_enters_no_block_twice_and_stops_at_then_or_else : StopsAtThen on M env ⊎ StopsAtElse on M env
  the_run_enters_no_block_twice_and_stops_at_then_or_else = stops on M goes_on_lem env

-- Demand 3, for every call of `pattern_match` that is accepted, whether its pattern fits or not.
module _ (call : Call) (out : HandedOut) (accepted : Accepted call out) where
  -- "of the new blocks exactly those returned lack a terminator": one that lacks it is returned ..
  pub only_those_returned_lack_a_terminator : (b : ℕ) → call.counts.blocks ≤ b → b < out.counts.blocks →
      terminator_at (mir_of (after out)) b ≡ Terminator.Open → (b ≡ out.then.0) ⊎ (out.else ≡ Some (record { 0 = b }))
  only_those_returned_lack_a_terminator = only_those_open call out accepted

  -- .. and those returned lack it
  pub those_returned_lack_a_terminator : (terminator_at (mir_of (after out)) out.then.0 ≡ Terminator.Open)
      × ((b : BasicBlockId) → out.else ≡ Some b → call.counts.blocks ≤ b.0 → terminator_at (mir_of (after out)) b.0 ≡ Terminator.Open)
  those_returned_lack_a_terminator = those_open call out accepted

  -- "The second pass has kept the first's else": what the call hands out is what the second pass gives, from what the first pass of this call gave
  pub the_second_pass_has_kept_the_first's_else : TwoPasses call out
  the_second_pass_has_kept_the_first's_else = two_passes call out accepted

  -- "which is the one supplied or, with none supplied, a new block if the pattern can fail and none if not. .. The new blocks and the new statements are exactly
  -- as many as document 01 counts; for n patterns reached, with at most d Or patterns above any, that is at most 3n(d + 2) blocks and 4n(d + 2) statements."
  pub counted_as_document_01_counts : Counted call.image (pattern_of call) (start_of call) call.else call.place (result_of out)
  counted_as_document_01_counts = counted call out accepted

  -- "Every pattern reached, with k Or patterns above it in the tree walked, was visited exactly k + 2 times" ..
  pub every_reached_pattern_was_visited_k_plus_2_times : (q : Reached) → IsReachedIn call q →
      get_or out.visits q.number 0 ≡ q.ors + 2
  every_reached_pattern_was_visited_k_plus_2_times = reached_visits call out accepted

  -- .. "and every other one never"
  pub every_other_one_never : (n : ℕ) → ((q : Reached) → IsReachedIn call q → q.number ≡ n → ⊥) →
      get_or out.visits n 0 ≡ 0
  every_other_one_never = other_visits call out accepted
