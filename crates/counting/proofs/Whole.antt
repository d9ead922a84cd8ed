-- Demand 3 on counts. Assumes nothing.
use mathlib.Core.Path.{◌≡◌, refl, subst}
use mathlib.Core.Bool.{Bool, false, or-false}
use mathlib.Core.List.{List}
use Prim.Native.Nat.{ℕ, ◌+◌, ◌<◌}
use native.Mathlib.Nat.{zero-mul}
use native.Mathlib.Omega.{arith}
use lib.ListN.{length}
use Rattle.image.specs.Tree.{Pat}
use Rattle.place.specs.declared.Place.{Place}
use Rattle.place.specs.declared.place_ty.PlaceTy.{PlaceTy}
use Rattle.mir.specs.declared.BasicBlockId.{BasicBlockId}
use Rattle.lower_spec.specs.Results.{OptBlock}
use Rattle.pattern_matching.specs.declared.MatchingMode.{MatchingMode}
use Rattle.pattern_matching.specs.Walking.{Ctx, Out, Walk, ok}
use Rattle.pattern_matching.specs.Variants.{place_ty}
use Rattle.pattern_matching.specs.Patterns.{pattern_match_inner, pattern_match}
use Rattle.counting.specs.Reaching.{Reached, can_fail}
use Rattle.counting.specs.Counting.{total, reached_from, new_blocks, new_statements}
use Rattle.counting.specs.Demand3.{Counted}
use Rattle.counting.proofs.Holding.{Holds, holds_next, holds_as}
use Rattle.counting.proofs.Going.{block, statement, visit}
use Rattle.counting.proofs.Stepping.{Steps, steps_on, steps_as}
use Rattle.counting.proofs.Passing.{checks, binds, tested, bound, no_flag, After, AllSmall}
use Rattle.counting.proofs.Typed.{On}
use Rattle.counting.proofs.Arguments.{on_after}
use Rattle.counting.proofs.Trees.{counts}
use Rattle.counting.proofs.Bounds.{visits_both, blocks_both, statements_both, blocks_bound, statements_bound, some_reached}

-- both passes, one after the other
both_passes : {c : Ctx} {els : OptBlock} {fails fails' : Bool} {rs : List Reached} {r₁ r : Out} → After checks c els fails 0 false rs r₁ → After binds r₁.ctx r₁.else fails' 0 false rs r →
    Steps c els r fails (λ w. 0) (λ w. total (tested w) rs + total (bound w) rs)
both_passes {c = c} {els = els} {fails = fails} {rs = rs} {r = r} a b =
    subst (λ (x : Bool). Steps c els r x (λ w. 0) (λ w. total (tested w) rs + total (bound w) rs)) (or-false fails)
    (steps_as (λ w. let n = no_flag w in let z = zero-mul (total (tested w) rs) in omega (arith, n, z)) (steps_on a.steps b.steps))

module _ (image : List ℕ) (root : Pat) (ctx : Ctx) (els : OptBlock) (place : Place) (r : Out) where
  -- what both passes add is what document 01 counts
  counted_by : (let rs = reached_from image root (place_ty image ctx.state place) in
      Steps ctx els r (can_fail image root (place_ty image ctx.state place)) (λ w. 0) (λ w. total (tested w) rs + total (bound w) rs)) →
      AllSmall (reached_from image root (place_ty image ctx.state place)) → Counted image root ctx els place r
  unfolding new_blocks new_statements
  counted_by s small =
      let ty = place_ty image ctx.state place in
      let rs = reached_from image root ty in
      let some = some_reached image root ty 0 false in
      record {
        visits = λ n l. let a = s.went.sizes (visit n) l in let b = visits_both n rs in omega (arith, a, b);
        blocks = let a = s.went.sizes block tt in let b = blocks_both rs in omega (arith, a, b);
        statements = let a = s.went.sizes statement tt in let b = statements_both rs in omega (arith, a, b);
        block_bound = blocks_bound rs (can_fail image root ty) els small some;
        statement_bound = statements_bound rs small some;
        else = s.else;
      }

-- what both passes of an accepted call of `pattern_match` add, on a place whose words are 16
module _ (image bindings : List ℕ) (root : Pat) (ctx : Ctx) (current : BasicBlockId) (els : OptBlock) (place : Place) (r : Out) (rooted : place.local.0 < length ctx.state.locals)
    (whole : length place.elems ≡ 16) (accepted : pattern_match image bindings root ctx current els place ≡ ok r) where
  abbrev ty : PlaceTy
  ty = place_ty image ctx.state place

  abbrev rs : List Reached
  rs = reached_from image root ty

  abbrev Added : Out → Type 0
  Added r = Steps ctx els r (can_fail image root ty) (λ w. 0) (λ w. total (tested w) rs + total (bound w) rs) × AllSmall rs

  added : Added r
  unfolding pattern_match
  added = walked.at r accepted
    where
      on : On image ctx place ty
      on = record { rooted = rooted; whole = whole; typed = refl }

      binds_from : Out → Walk Out
      binds_from r₁ = pattern_match_inner image bindings root MatchingMode.Bind r₁.ctx r₁.then r₁.else place

      walked : Holds Added (pattern_match image bindings root ctx current els place)
      walked =
          holds_next (pattern_match_inner image bindings root MatchingMode.Check ctx current els place) binds_from ((counts image bindings root).goes checks ctx current els place ty 0 false on) (λ r₁ a.
          holds_as (λ r₂ b. (both_passes a b, a.small))
          ((counts image bindings root).goes binds r₁.ctx r₁.then r₁.else place ty 0 false (on_after a on)))

  -- The theorem: every call of `pattern_match` that is accepted is counted.
  pub counted : Counted image root ctx els place r
  counted = counted_by image root ctx els place r added.0 added.1

  -- the visits of as many patterns are counted as before
  pub visits_kept : length r.ctx.visits ≡ length ctx.visits
  visits_kept = added.0.went.listed

  -- what it adds, and the locals that it keeps
  pub stepped : Steps ctx els r (can_fail image root ty) (λ w. 0) (λ w. total (tested w) rs + total (bound w) rs)
  stepped = added.0
