-- What every accepted walk leaves of the blocks, and that of the new ones only those that come back are open. Assumes nothing.
use Rattle.std.specs.Prelude.{Some, None}
use Prim.Native.Nat.{ℕ, ◌≤◌, ◌<◌}
use native.Mathlib.Decide.{ℕ_discrete}
use native.Mathlib.Omega.{arith}
use mathlib.Core.Path.{◌≡◌, sym, ap, subst, ◌∙◌}
use mathlib.Core.Logic.{◌⊎◌, inl, inr}
use mathlib.Core.List.{List}
use lib.ListN.{length}
use Rattle.image.specs.declared.kinds.BindingMode.{BindingMode}
use Rattle.image.specs.Tree.{Pat}
use Rattle.refusals.specs.Refusals.{no_pattern}
use Rattle.place.specs.declared.LocalId.{LocalId}
use Rattle.place.specs.declared.Place.{Place}
use Rattle.mir.specs.declared.BasicBlockId.{BasicBlockId}
use Rattle.mir.specs.declared.blocks.Terminator.{Terminator}
use Rattle.state.specs.State.{State}
use Rattle.lower_spec.specs.Results.{OptBlock}
use Rattle.views.specs.Views.{mir_of}
use Rattle.views.specs.Growing.{terminator_at, Closed, GoesOn}
use Rattle.pattern_matching.specs.declared.MatchingMode.{MatchingMode}
use Rattle.pattern_matching.specs.Walking.{Ctx, Out, ok, local_place}
use Rattle.pattern_matching.specs.Patterns.{pattern_match_inner, pattern_match, pattern_match_assignment, match_self_param}
use Rattle.growth.specs.Opened.{count, terminator, ElseReady, Ready, Starts, ElseLeft, Leaves}
use Rattle.growth.proofs.Working.{goes_on_lem}
use Rattle.growth.proofs.Leaving.{some_block, not_none, leaves_seq}
use Rattle.growth.proofs.Walks.{Beyond, walked}
use Rattle.growth.proofs.Testing.{good_binding}
use Rattle.growth.proofs.Growing.{grows}

-- `pattern_match_inner`, in every mode
pub inner_leaves : (image bindings : List ℕ) (pat : Pat) (mode : MatchingMode) (ctx : Ctx) (current : BasicBlockId) (els : OptBlock) (place : Place) (r : Out) →
    Starts ctx current els → pattern_match_inner image bindings pat mode ctx current els place ≡ ok r → Leaves ctx.state current els r
inner_leaves image bindings pat mode ctx current els place r s e = (grows image bindings pat mode ctx current els place).leaves s r e

-- beyond Check it hands on the else that was supplied, or none
pub inner_keeps : (image bindings : List ℕ) (pat : Pat) (mode : MatchingMode) (ctx : Ctx) (current : BasicBlockId) (els : OptBlock) (place : Place) (r : Out) →
    Beyond mode → pattern_match_inner image bindings pat mode ctx current els place ≡ ok r → r.else ≡ els
inner_keeps image bindings pat mode ctx current els place r b e = (grows image bindings pat mode ctx current els place).keeps b r e

-- `pattern_match`
pub match_leaves : (image bindings : List ℕ) (pat : Pat) (ctx : Ctx) (current : BasicBlockId) (els : OptBlock) (place : Place) (r : Out) →
    Starts ctx current els → pattern_match image bindings pat ctx current els place ≡ ok r → Leaves ctx.state current els r
unfolding pattern_match
match_leaves image bindings pat ctx current els place r s e =
    walked (pattern_match_inner image bindings pat MatchingMode.Check ctx current els place) _ e (λ r₁ e₁ e₂.
    let p = inner_leaves image bindings pat MatchingMode.Check ctx current els place r₁ s e₁ in
    leaves_seq r₁ r p (inner_leaves image bindings pat MatchingMode.Bind r₁.ctx r₁.then r₁.else place r p.ready e₂))

-- `pattern_match_assignment`
pub assignment_leaves : (image bindings : List ℕ) (pat : Pat) (ctx : Ctx) (current : BasicBlockId) (place : Place) (r : Out) →
    Starts ctx current None → pattern_match_assignment image bindings pat ctx current place ≡ ok r → Leaves ctx.state current None r
unfolding pattern_match_assignment
assignment_leaves image bindings pat ctx current place r s e = inner_leaves image bindings pat MatchingMode.Assign ctx current None place r s e

-- `match_self_param`
pub self_param_leaves : (image bindings : List ℕ) (b : ℕ) (ctx : Ctx) (current : BasicBlockId) (l : LocalId) (r : Out) →
    Starts ctx current None → match_self_param image bindings b ctx current l ≡ ok r → Leaves ctx.state current None r
unfolding match_self_param
self_param_leaves image bindings b ctx current l r s e =
    (good_binding {mode = MatchingMode.Bind} bindings no_pattern no_pattern b BindingMode.Value ctx current None (local_place l)).leaves s r e

-- the body goes on from the one where the walk started
pub leaves_goes_on : {st : State} {current : BasicBlockId} {els : OptBlock} {r : Out} → Ready st current els → Leaves st current els r → GoesOn (mir_of st) (mir_of r.ctx.state)
leaves_goes_on s l = goes_on_lem l.worked s.opened

-- what is no other else is this one
is_some : (b : ℕ) (els : OptBlock) → ((els ≡ Some (record { 0 = b }) → ⊥) → ⊥) → els ≡ Some (record { 0 = b })
is_some b None k = absurd (k (λ e. not_none e))
is_some b (Some x) k = by (ℕ_discrete x.0 b)
  where
    by : Dec (x.0 ≡ b) → Some x ≡ Some (record { 0 = b })
    by (yes e) = ap (λ (y : ℕ). Some (record { 0 = y })) e
    by (no n) = absurd (k (λ e. n (some_block e)))

-- of the new blocks those that are open come back
pub leaves_only : {st : State} {current : BasicBlockId} {els : OptBlock} {r : Out} → Leaves st current els r → (b : ℕ) → count st ≤ b → b < count r.ctx.state →
    terminator r.ctx.state b ≡ Terminator.Open → (b ≡ r.then.0) ⊎ (r.else ≡ Some (record { 0 = b }))
leaves_only {r} l b h i o = go (ℕ_discrete b r.then.0)
  where
    go : Dec (b ≡ r.then.0) → (b ≡ r.then.0) ⊎ (r.else ≡ Some (record { 0 = b }))
    go (yes e) = inl e
    go (no n) = inr (is_some b r.else (λ m. subst Closed o (l.closed b i (λ j. absurd (omega arith)) n m)))

-- an else that is new is open
pub leaves_else : {st : State} {current : BasicBlockId} {els : OptBlock} {r : Out} → Ready st current els → Leaves st current els r → (b : BasicBlockId) →
    r.else ≡ Some b → count st ≤ b.0 → terminator r.ctx.state b.0 ≡ Terminator.Open
leaves_else {st} {current} {els} {r} s l b e h = go els r.else s.else l.else e
  where
    go : (els left : OptBlock) → ElseReady st current els → ElseLeft st els r.ctx.state left → left ≡ Some b → terminator r.ctx.state b.0 ≡ Terminator.Open
    go (Some x) left k f e = let i = k.0 in let same : x.0 ≡ b.0 = some_block (sym f ∙ e) in absurd (omega arith)
    go None None k f e = absurd (not_none e)
    go None (Some y) k f e = subst (λ (x : ℕ). terminator r.ctx.state x ≡ Terminator.Open) (some_block e) f.1

-- Demand 3: of the blocks that `pattern_match` made only those that it returns lack a terminator.
pub only_those_open : (image bindings : List ℕ) (pat : Pat) (ctx : Ctx) (current : BasicBlockId) (els : OptBlock) (place : Place) (r : Out) →
    Starts ctx current els → pattern_match image bindings pat ctx current els place ≡ ok r → (b : ℕ) → length ctx.state.blocks ≤ b →
    b < length r.ctx.state.blocks → terminator_at (mir_of r.ctx.state) b ≡ Terminator.Open → (b ≡ r.then.0) ⊎ (r.else ≡ Some (record { 0 = b }))
only_those_open image bindings pat ctx current els place r s e = leaves_only (match_leaves image bindings pat ctx current els place r s e)

-- And those lack one: the block where a match goes on, and an else that is new.
pub those_open : (image bindings : List ℕ) (pat : Pat) (ctx : Ctx) (current : BasicBlockId) (els : OptBlock) (place : Place) (r : Out) →
    Starts ctx current els → pattern_match image bindings pat ctx current els place ≡ ok r →
    (terminator_at (mir_of r.ctx.state) r.then.0 ≡ Terminator.Open)
    × ((b : BasicBlockId) → r.else ≡ Some b → length ctx.state.blocks ≤ b.0 → terminator_at (mir_of r.ctx.state) b.0 ≡ Terminator.Open)
those_open image bindings pat ctx current els place r s e =
    let l = match_leaves image bindings pat ctx current els place r s e in
    (l.ready.opened, leaves_else s l)

-- The body goes on from the one that was handed in.
pub match_goes_on : (image bindings : List ℕ) (pat : Pat) (ctx : Ctx) (current : BasicBlockId) (els : OptBlock) (place : Place) (r : Out) →
    Starts ctx current els → pattern_match image bindings pat ctx current els place ≡ ok r → GoesOn (mir_of ctx.state) (mir_of r.ctx.state)
match_goes_on image bindings pat ctx current els place r s e = leaves_goes_on s (match_leaves image bindings pat ctx current els place r s e)

-- The same of each walk.
pub inner_goes_on : (image bindings : List ℕ) (pat : Pat) (mode : MatchingMode) (ctx : Ctx) (current : BasicBlockId) (els : OptBlock) (place : Place) (r : Out) →
    Starts ctx current els → pattern_match_inner image bindings pat mode ctx current els place ≡ ok r → GoesOn (mir_of ctx.state) (mir_of r.ctx.state)
inner_goes_on image bindings pat mode ctx current els place r s e = leaves_goes_on s (inner_leaves image bindings pat mode ctx current els place r s e)
