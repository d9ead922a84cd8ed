-- What holds of the accepted lowerings of a pattern, and of `match_self_param`: what is named, and what live marks have recorded. Assumes nothing.
use Rattle.std.specs.Prelude.{None}
use Prim.Native.Nat.{ℕ, ◌<◌}
use mathlib.Core.Path.{◌≡◌}
use mathlib.Core.List.{List}
use lib.ListN.{length}
use Rattle.refusals.specs.Refusals.{no_pattern}
use Rattle.image.specs.declared.kinds.BindingMode.{BindingMode}
use Rattle.image.specs.Tree.{Pat}
use Rattle.place.specs.declared.LocalId.{LocalId}
use Rattle.place.specs.declared.Place.{Place}
use Rattle.mir.specs.declared.BasicBlockId.{BasicBlockId}
use Rattle.state.specs.State.{State}
use Rattle.lower_spec.specs.Results.{OptBlock}
use Rattle.lower_spec.specs.Recorded.{OncePerLocal}
use Rattle.pattern_matching.specs.declared.MatchingMode.{MatchingMode}
use Rattle.pattern_matching.specs.Walking.{Ctx, Out, ok, local_place}
use Rattle.pattern_matching.specs.Patterns.{pattern_match_inner, pattern_match, match_self_param}
use Rattle.counting.proofs.Holding.{holds_next}
use Rattle.named.specs.Named.{NamedBelow, WordsBelow}
use Rattle.named.specs.Marked.{MarksRecorded}
use Rattle.named.proofs.Recording.{Made, made_recorded, once_made}
use Rattle.named.proofs.Keeping.{Kept, kept_start}
use Rattle.named.proofs.Testing.{KeptBehind, keeps_binding}
use Rattle.named.proofs.Walks.{keeps}

-- an accepted `pattern_match`, in two passes
pub match_kept : {s₀ : State} {n : ℕ} (image bindings : List ℕ) → WordsBelow bindings n → (pat : Pat) (ctx : Ctx) (c : BasicBlockId) (els : OptBlock) (place : Place) (r : Out) →
    place.local.0 < n → Kept s₀ n ctx.state → pattern_match image bindings pat ctx c els place ≡ ok r → Kept s₀ n r.ctx.state
unfolding pattern_match
match_kept {s₀} {n} image bindings below pat ctx c els place r root k e =
    (holds_next {P = KeptBehind s₀ n} {Q = KeptBehind s₀ n} (pattern_match_inner image bindings pat MatchingMode.Check ctx c els place)
    (λ r₁. pattern_match_inner image bindings pat MatchingMode.Bind r₁.ctx r₁.then r₁.else place) (keeps s₀ n bindings below image pat MatchingMode.Check ctx c els place root k)
    (λ r₁ k₁. keeps s₀ n bindings below image pat MatchingMode.Bind r₁.ctx r₁.then r₁.else place root k₁)).at r e

-- accepted lowerings of a pattern, from a state in which nothing names a local that there is not
module _ (image bindings : List ℕ) (pat : Pat) (ctx : Ctx) (c : BasicBlockId) (els : OptBlock) (place : Place) (r : Out) (named : NamedBelow ctx.state)
    (below : WordsBelow bindings (length ctx.state.locals)) (root : place.local.0 < length ctx.state.locals) where
  -- what was made
  inner_made : (mode : MatchingMode) → pattern_match_inner image bindings pat mode ctx c els place ≡ ok r → Made ctx.state r.ctx.state
  inner_made mode e = ((keeps ctx.state (length ctx.state.locals) bindings below image pat mode ctx c els place root (kept_start ctx.state named)).at r e).made

  match_made : pattern_match image bindings pat ctx c els place ≡ ok r → Made ctx.state r.ctx.state
  match_made e = (match_kept image bindings below pat ctx c els place r root (kept_start ctx.state named) e).made

  -- "A live mark now records its local in the last scope unless an open scope already holds it."
  pub inner_recorded : (mode : MatchingMode) → pattern_match_inner image bindings pat mode ctx c els place ≡ ok r → MarksRecorded ctx.state r.ctx.state
  inner_recorded mode e = made_recorded (inner_made mode e)

  pub match_recorded : pattern_match image bindings pat ctx c els place ≡ ok r → MarksRecorded ctx.state r.ctx.state
  match_recorded e = made_recorded (match_made e)

  -- "Where a local stands at most once in all the scopes handed in, it still does afterwards"
  pub inner_once : (mode : MatchingMode) → pattern_match_inner image bindings pat mode ctx c els place ≡ ok r → OncePerLocal ctx.state r.ctx.state
  inner_once mode e = once_made (inner_made mode e)

  pub match_once : pattern_match image bindings pat ctx c els place ≡ ok r → OncePerLocal ctx.state r.ctx.state
  match_once e = once_made (match_made e)

-- an accepted `match_self_param`
module _ (image bindings : List ℕ) (b : ℕ) (ctx : Ctx) (c : BasicBlockId) (l : LocalId) (r : Out) (named : NamedBelow ctx.state)
    (below : WordsBelow bindings (length ctx.state.locals)) (there : l.0 < length ctx.state.locals) where
  self_made : match_self_param image bindings b ctx c l ≡ ok r → Made ctx.state r.ctx.state
  unfolding match_self_param local_place
  self_made e = ((keeps_binding bindings below no_pattern no_pattern b BindingMode.Value ctx c None (local_place l) there (kept_start ctx.state named)).at r e).made

  pub self_recorded : match_self_param image bindings b ctx c l ≡ ok r → MarksRecorded ctx.state r.ctx.state
  self_recorded e = made_recorded (self_made e)

  pub self_once : match_self_param image bindings b ctx c l ≡ ok r → OncePerLocal ctx.state r.ctx.state
  self_once e = once_made (self_made e)
