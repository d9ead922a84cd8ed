-- How often a pattern was visited, where the visits were counted from 0 on. Assumes nothing.
use Prim.Native.Nat.{ℕ, ◌+◌, ◌<◌}
use mathlib.Core.Path.{◌≡◌, ◌∙◌}
use mathlib.Core.Bool.{true}
use mathlib.Core.List.{List}
use native.Mathlib.Omega.{arith}
use lib.ListN.{length, get_or}
use Rattle.image.specs.Tables.{pattern_count}
use Rattle.image.specs.Valid.{valid}
use Rattle.image.specs.Tree.{Pat, tree}
use Rattle.place.specs.declared.Place.{Place}
use Rattle.mir.specs.declared.BasicBlockId.{BasicBlockId}
use Rattle.lower_spec.specs.Results.{OptBlock}
use Rattle.pattern_matching.specs.Walking.{Ctx, Out, ok}
use Rattle.pattern_matching.specs.Variants.{place_ty}
use Rattle.pattern_matching.specs.Patterns.{pattern_match}
use Rattle.counting.specs.Reaching.{Reached}
use Rattle.counting.specs.Counting.{reached_from, visits_of, IsReached}
use Rattle.counting.proofs.Once.{visited_exactly, never_visited}
use Rattle.counting.proofs.Whole.{counted}

-- a sum that begins at 0
from_nothing : (a b n : ℕ) → a ≡ 0 → b ≡ n → a + b ≡ n
from_nothing a b n z e = omega arith

-- a reached pattern, with k Ors above it: k + 2 times
pub reached_visits : (image bindings : List ℕ) (p : ℕ) (ctx : Ctx) (current : BasicBlockId) (els : OptBlock) (place : Place) (r : Out) (q : Reached) → valid image ≡ true → p < pattern_count image →
    place.local.0 < length ctx.state.locals → length place.elems ≡ 16 → pattern_match image bindings (tree image p) ctx current els place ≡ ok r →
    ((n : ℕ) → get_or ctx.visits n 0 ≡ 0) → IsReached q (reached_from image (tree image p) (place_ty image ctx.state place)) → q.number < length ctx.visits →
    get_or r.ctx.visits q.number 0 ≡ q.ors + 2
reached_visits image bindings p ctx current els place r q v there rooted whole accepted zero stands h =
    let ty = place_ty image ctx.state place in
    (counted image bindings (tree image p) ctx current els place r rooted whole accepted).visits q.number h
    ∙ from_nothing (get_or ctx.visits q.number 0) (visits_of q.number (reached_from image (tree image p) ty)) (q.ors + 2) (zero q.number) (visited_exactly image p ty q v there stands)

-- any other one: never
pub other_visits : (image bindings : List ℕ) (root : Pat) (ctx : Ctx) (current : BasicBlockId) (els : OptBlock) (place : Place) (r : Out) (n : ℕ) →
    place.local.0 < length ctx.state.locals → length place.elems ≡ 16 → pattern_match image bindings root ctx current els place ≡ ok r →
    ((n : ℕ) → get_or ctx.visits n 0 ≡ 0) → ((q : Reached) → IsReached q (reached_from image root (place_ty image ctx.state place)) → q.number ≡ n → ⊥) → n < length ctx.visits →
    get_or r.ctx.visits n 0 ≡ 0
other_visits image bindings root ctx current els place r n rooted whole accepted zero none h =
    let ty = place_ty image ctx.state place in
    (counted image bindings root ctx current els place r rooted whole accepted).visits n h
    ∙ from_nothing (get_or ctx.visits n 0) (visits_of n (reached_from image root ty)) 0 (zero n) (never_visited image root ty n none)
