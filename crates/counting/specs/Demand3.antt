-- Demand 3 on counts, as it is proved: of every call of `pattern_match` that is accepted, whether its pattern fits or not. Assumes nothing: these are
-- definitions.
use Rattle.std.specs.Prelude.{Some, None}
use Rattle.std.specs.Prelude.{ℕ, ◌+◌, ◌*◌, ◌≤◌, ◌<◌, ◌≡◌, Bool, true, false, List, length, get_or}
use Rattle.image.specs.Tree.{Pat}
use Rattle.place.specs.declared.Place.{Place}
use Rattle.lower_spec.specs.Results.{OptBlock}
use Rattle.pattern_matching.specs.Walking.{Ctx, Out}
use Rattle.pattern_matching.specs.Variants.{place_ty}
use Rattle.counting.specs.Reaching.{can_fail}
use Rattle.counting.specs.Counting.{reached_from, visits_of, new_blocks, new_statements, most_ors}

-- "the one supplied or, with none supplied, a new block if the pattern can fail and none if not"; a new block has a number from `from` on, and below `to`
abbrev pub ElseIs : Bool → OptBlock → OptBlock → ℕ → ℕ → Type 0
ElseIs fails (Some e) r from to = r ≡ Some e
ElseIs true None None from to = ⊥
ElseIs true None (Some b) from to = (from ≤ b.0) × (b.0 < to)
ElseIs false None r from to = r ≡ None

-- what is counted of the lowering of a root from ctx on, with the else els or none, which gave r
pub record Counted (image : List ℕ) (root : Pat) (ctx : Ctx) (els : OptBlock) (place : Place) (r : Out) : Type 0 where
  -- "Every pattern reached, with k Or patterns above it in the tree walked, was visited exactly k + 2 times, and every other one never."
  pub visits : (n : ℕ) → n < length ctx.visits →
      get_or r.ctx.visits n 0 ≡ get_or ctx.visits n 0 + visits_of n (reached_from image root (place_ty image ctx.state place))
  -- "The new blocks and the new statements are exactly as many as document 01 counts"
  pub blocks : length r.ctx.state.blocks ≡ length ctx.state.blocks + new_blocks image root (place_ty image ctx.state place) els
  pub statements : length r.ctx.state.statements ≡ length ctx.state.statements + new_statements image root (place_ty image ctx.state place)
  -- "for n patterns reached, with at most d Or patterns above any, that is at most 3n(d + 2) blocks and 4n(d + 2) statements"
  pub block_bound : let rs = reached_from image root (place_ty image ctx.state place) in
      new_blocks image root (place_ty image ctx.state place) els ≤ 3 * length rs * (most_ors rs + 2)
  pub statement_bound : let rs = reached_from image root (place_ty image ctx.state place) in
      new_statements image root (place_ty image ctx.state place) ≤ 4 * length rs * (most_ors rs + 2)
  pub else : ElseIs (can_fail image root (place_ty image ctx.state place)) els r.else (length ctx.state.blocks) (length r.ctx.state.blocks)
