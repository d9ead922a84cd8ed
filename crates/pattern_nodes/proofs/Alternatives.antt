-- Alternatives one after the other, by the rows of the image. Assumes nothing.
use Rattle.std.specs.Prelude.{Some, None}
use Prim.Native.Nat.{ℕ, suc, ◌+◌, ◌-◌, ◌≤◌, ◌<◌}
use mathlib.Core.Path.{◌≡◌, refl, ap, ap₂, ◌∙◌}
use mathlib.Core.List.{List}
use native.Mathlib.Omega.{arith}
use Rattle.image.specs.Rows.{list_at}
use Rattle.image.specs.Rules.{listed}
use Rattle.image.specs.Tree.{tree, trees}
use Rattle.place.specs.declared.Place.{Place}
use Rattle.mir.specs.declared.BasicBlockId.{BasicBlockId}
use Rattle.state.specs.Steps.{next_block, try_block}
use Rattle.lower_spec.specs.Results.{OptBlock}
use Rattle.lower_spec.specs.Merging.{set_goto}
use Rattle.pattern_matching.specs.declared.MatchingMode.{MatchingMode}
use Rattle.pattern_matching.specs.Walking.{Ctx, Out, Walk, ok, refused, next, step, out, with_state}
use Rattle.pattern_matching.specs.Patterns.{Alternatives, behind, alternative, alternatives, alternatives_end, or_pattern, pattern_match_inner, lowerings}
use Rattle.pattern_nodes.specs.Arguments.{lowered}
use Rattle.pattern_nodes.specs.Nodes.{alternatives_from}

-- behind an alternative: one that cannot fail is the last, and goes on at `join`; otherwise the next one starts where it does not match
abbrev pub after_alternative : OptBlock → Ctx → BasicBlockId → OptBlock → (BasicBlockId → Walk Out) → Walk Out
after_alternative None ctx join els rest = out ctx join els
after_alternative (Some b) ctx join els rest = rest b

-- a walk, then a second and a third
next_next : {A B C : Type 0} (w : Walk A) (k : A → Walk B) (l : B → Walk C) → next (next w k) l ≡ next w (λ a. next (k a) l)
next_next (ok a) k l = refl
next_next (refused e p) k l = refl

-- a walk behind one that is the last, or behind the next ones
end_behind : (p : ℕ) (mode : MatchingMode) (ctx : Ctx) (join : BasicBlockId) (els left : OptBlock) (rest : BasicBlockId → Walk Alternatives) →
    next (behind left ctx rest) (λ r. alternatives_end p mode r join els) ≡ after_alternative left ctx join els (λ b. next (rest b) (λ r. alternatives_end p mode r join els))
unfolding alternatives_end
end_behind p mode ctx join els None rest = refl
end_behind p mode ctx join els (Some b) rest = refl

module _ (image bindings : List ℕ) (p : ℕ) (mode : MatchingMode) (join current : BasicBlockId) (els : OptBlock) (place : Place) where
  -- no alternative
  pub no_alternative : (from : ℕ) (ctx : Ctx) →
      alternatives_from image bindings p from 0 mode ctx join current els place ≡ alternatives_end p mode (record { ctx = ctx; left = Some current }) join els
  unfolding alternatives_from alternatives lowered lowerings trees listed
  no_alternative from ctx = refl

  -- one more: it is lowered, goes on at `join` where it matched, and the others are behind it
  pub one_alternative : (from count : ℕ) (ctx : Ctx) →
      alternatives_from image bindings p from (suc count) mode ctx join current els place
      ≡ next (alternative (pattern_match_inner image bindings (tree image (list_at image from))) mode ctx current place) (λ r.
      after_alternative r.else (with_state r.ctx (set_goto r.ctx.state r.then join)) join els (λ b.
      alternatives_from image bindings p (from + 1) count mode (with_state r.ctx (set_goto r.ctx.state r.then join)) join b els place))
  unfolding alternatives_from alternatives lowered lowerings trees listed
  one_alternative from count ctx =
      next_next (alternative (pattern_match_inner image bindings (tree image (list_at image from))) mode ctx current place) _ _
      ∙ ap (next (alternative (pattern_match_inner image bindings (tree image (list_at image from))) mode ctx current place)) (λ i r.
      end_behind p mode (with_state r.ctx (set_goto r.ctx.state r.then join)) join els r.else (λ b.
      alternatives p (lowered image bindings (from + 1) count) mode (with_state r.ctx (set_goto r.ctx.state r.then join)) join b place) i)

  -- what is left of `count` alternatives from the alternative i on: all of them
  pub alternatives_start : (from count : ℕ) (ctx : Ctx) →
      alternatives_from image bindings p from count mode ctx join current els place ≡ alternatives_from image bindings p (from + 0) (count - 0) mode ctx join current els place
  alternatives_start from count ctx =
      let e : from ≡ from + 0 = omega arith in
      let d : count ≡ count - 0 = omega arith in
      ap₂ (λ (f n : ℕ). alternatives_from image bindings p f n mode ctx join current els place) e d

  -- none
  pub alternatives_none : (from count i : ℕ) → count ≤ i → (ctx : Ctx) →
      alternatives_from image bindings p (from + i) (count - i) mode ctx join current els place ≡ alternatives_end p mode (record { ctx = ctx; left = Some current }) join els
  alternatives_none from count i h ctx = let e : count - i ≡ 0 = omega arith in rw e (no_alternative (from + i) ctx)

  -- or one more
  pub alternatives_more : (from count i : ℕ) → i < count → (ctx : Ctx) →
      alternatives_from image bindings p (from + i) (count - i) mode ctx join current els place
      ≡ next (alternative (pattern_match_inner image bindings (tree image (list_at image (from + i)))) mode ctx current place) (λ r.
      after_alternative r.else (with_state r.ctx (set_goto r.ctx.state r.then join)) join els (λ b.
      alternatives_from image bindings p (from + (i + 1)) (count - (i + 1)) mode (with_state r.ctx (set_goto r.ctx.state r.then join)) join b els place))
  alternatives_more from count i h ctx =
      let e : count - i ≡ suc (count - (i + 1)) = omega arith in
      let d : from + (i + 1) ≡ from + i + 1 = omega arith in
      rw (e, d) (one_alternative (from + i) (count - (i + 1)) ctx)

-- `pattern_match_or`: a new block, and then the alternatives
pub or_by_rows : (image bindings : List ℕ) (p from count : ℕ) (mode : MatchingMode) (ctx : Ctx) (current : BasicBlockId) (els : OptBlock) (place : Place) →
    or_pattern p (lowered image bindings from count) mode ctx current els place
    ≡ step p (try_block ctx.state) (λ st. alternatives_from image bindings p from count mode (with_state ctx st) (next_block ctx.state) current els place)
unfolding or_pattern alternatives_from
or_by_rows image bindings p from count mode ctx current els place = refl
