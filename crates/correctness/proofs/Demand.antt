-- Demand 2: a lowered pattern leads a value to the then block, with the bindings that the Reference says, where it matches, and otherwise to the else. Assumes
-- nothing.
use Rattle.std.specs.Prelude.{Some}
use Prim.Native.Nat.{ℕ, ◌<◌}
use mathlib.Core.Path.{◌≡◌, refl, subst}
use mathlib.Core.Logic.{◌⊎◌, inl, inr}
use mathlib.Core.Bool.{Bool, true, false}
use mathlib.Core.Option.{some}
use mathlib.Core.List.{List, [], ◌∷◌}
use lib.ListN.{length, drop}
use Rattle.image.specs.Tables.{pattern_count}
use Rattle.image.specs.Tree.{Pat, tree}
use Rattle.image.proofs.Bools.{all_true_at}
use Rattle.place.specs.declared.Place.{Place}
use Rattle.mir.specs.declared.BasicBlockId.{BasicBlockId}
use Rattle.lower_spec.specs.Results.{OptBlock}
use Rattle.views.specs.Views.{Mir, mir_of}
use Rattle.views.specs.Growing.{GoesOn}
use Rattle.pattern_matching.specs.declared.MatchingMode.{MatchingMode}
use Rattle.pattern_matching.specs.Walking.{Ctx, Out, ok}
use Rattle.pattern_matching.specs.Patterns.{pattern_match_inner, pattern_match}
use Rattle.growth.specs.Opened.{Leaves}
use Rattle.growth.proofs.Working.{goes_on_lem, goes_on_trans}
use Rattle.growth.proofs.Walks.{walked}
use Rattle.growth.proofs.OpenBlocks.{inner_leaves, inner_keeps}
use Rattle.meaning.specs.Values.{Value}
use Rattle.meaning.specs.Running.{Env}
use Rattle.meaning.specs.Matching.{matches}
use Rattle.meaning.specs.Binding.{binds}
use Rattle.meaning.specs.Fit.{types_fit, bindings_fit, fits, nothing_refused, locals_differ}
use Rattle.correctness.specs.Demand2.{place_path, Handed, Fitting, Stops, Comes}
use Rattle.correctness.proofs.Walking.{rest, Lands}
use Rattle.correctness.proofs.Landing.{led_on, led_off, lands_bound}
use Rattle.correctness.proofs.Arguments.{rooted_after}
use Rattle.correctness.proofs.OfImages.{OfImage}
use Rattle.correctness.proofs.CheckHalf.{scene_of, root_word, handed_root, handed_stands, check_half, comes}
use Rattle.correctness.proofs.BindingNames.{fits_locals_apart}
use Rattle.correctness.proofs.BindingLocals.{all_local}
use Rattle.correctness.proofs.Bound.{bound}
use Rattle.correctness.proofs.Drawing.{tree_drawn}

-- the clauses of "A pattern fits"
pub record Clauses (image bindings : List ℕ) (root : ℕ) (ctx : Ctx) (t : ℕ) (pat : Pat) : Type 0 where
  pub types : types_fit image pat (some t) ≡ true
  pub bindings_fit_lem : bindings_fit image pat ≡ true
  pub reached : nothing_refused image bindings pat ≡ true
  pub locals : locals_differ bindings root ≡ true

-- each of them
pub clauses : (image bindings : List ℕ) (root : ℕ) (ctx : Ctx) (t : ℕ) (pat : Pat) → fits image bindings root t pat ≡ true → Clauses image bindings root ctx t pat
unfolding fits
clauses image bindings root ctx t pat e =
    let rules = types_fit image pat (some t) ∷ bindings_fit image pat ∷ nothing_refused image bindings pat ∷ locals_differ bindings root ∷ [] in
    record { types = all_true_at rules 0 e; bindings_fit_lem = all_true_at rules 1 e; reached = all_true_at rules 2 e; locals = all_true_at rules 3 e }

module _ (image bindings : List ℕ) (pat : Pat) (ctx : Ctx) (current : BasicBlockId) (els : OptBlock) (place : Place) (t : ℕ) (v : Value)
    (handed : Handed image bindings ctx current els place t) (of : OfImage image pat) (fitting : Fitting image bindings ctx place t pat v)
    (r : Out) (lowered : pattern_match image bindings pat ctx current els place ≡ ok r) (M : Mir) (onward : GoesOn (mir_of r.ctx.state) M) (env : Env) where
  -- the tests, and then the bindings where they led on
  pub lands : Lands (scene_of image place v) bindings M ctx current.0 env (binds image pat (place_path place) v) r (matches image pat v)
  unfolding pattern_match
  lands =
      walked (pattern_match_inner image bindings pat MatchingMode.Check ctx current els place) _ lowered (λ r₁ e₁ e₂.
      let scene = scene_of image place v in
      let word = root_word ctx place in
      let c = clauses image bindings place.local.0 ctx t pat fitting.pattern in
      let q : Leaves ctx.state current els r₁ = inner_leaves image bindings pat MatchingMode.Check ctx current els place r₁ handed.starts e₁ in
      let q' : Leaves r₁.ctx.state r₁.then r₁.else r = inner_leaves image bindings pat MatchingMode.Bind r₁.ctx r₁.then r₁.else place r q.ready e₂ in
      let keep = inner_keeps image bindings pat MatchingMode.Bind r₁.ctx r₁.then r₁.else place r tt e₂ in
      let apart = fits_locals_apart bindings place.local.0 c.locals in
      let can = bound scene word bindings M fitting.image_valid fitting.image_bytes apart pat c.bindings_fit_lem (all_local image bindings pat c.reached) of in
      lands_bound r₁ r handed.starts q q' keep
      (check_half image bindings pat ctx current els place t v r₁ M env handed fitting of e₁ (goes_on_trans (goes_on_lem q'.worked q.ready.opened) onward))
      (λ env m.
      ((can.fills t v c.types m fitting.value).fill r₁.ctx r₁.then r₁.else place r (rooted_after r₁ q (handed_root handed v)) q.ready (handed_stands handed v) e₂).walked onward env))

  -- a value that matches comes to the then block, with the bindings that the Reference says
  pub matching_comes : matches image pat v ≡ true →
      Comes image bindings M place v ctx current env (binds image pat (place_path place) v) r.then.0 (drop (length r.ctx.state.statements) M.lines)
  unfolding rest
  matching_comes e = comes (led_on (subst (Lands (scene_of image place v) bindings M ctx current.0 env (binds image pat (place_path place) v) r) e lands))

  -- one that does not comes to the else, with no binding
  pub other_comes : matches image pat v ≡ false →
      (e : BasicBlockId) × (r.else ≡ Some e) × Comes image bindings M place v ctx current env [] e.0 M.lines
  other_comes e =
      let (b, i, w) = led_off (subst (Lands (scene_of image place v) bindings M ctx current.0 env (binds image pat (place_path place) v) r) e lands) in
      (b, i, comes w)

-- Demand 2, of the pattern p of an image, in every body that goes on from the lowered one.
module _ (image bindings : List ℕ) (p : ℕ) (ctx : Ctx) (current : BasicBlockId) (els : OptBlock) (place : Place) (t : ℕ) (v : Value)
    (there : p < pattern_count image) (handed : Handed image bindings ctx current els place t) (fitting : Fitting image bindings ctx place t (tree image p) v)
    (r : Out) (lowered : pattern_match image bindings (tree image p) ctx current els place ≡ ok r) (M : Mir) (onward : GoesOn (mir_of r.ctx.state) M) (env : Env) where
  drawn : OfImage image (tree image p)
  drawn = tree_drawn image fitting.image_valid fitting.image_bytes p there

  -- "the blocks lead a value to the then block when the Reference says it matches, with the bindings it says"
  pub if_it_matches : matches image (tree image p) v ≡ true →
      Comes image bindings M place v ctx current env (binds image (tree image p) (place_path place) v) r.then.0 (drop (length r.ctx.state.statements) M.lines)
  if_it_matches e = matching_comes image bindings (tree image p) ctx current els place t v handed drawn fitting r lowered M onward env e

  -- "and otherwise to the else block"
  pub if_not : matches image (tree image p) v ≡ false → (e : BasicBlockId) × (r.else ≡ Some e) × Comes image bindings M place v ctx current env [] e.0 M.lines
  if_not e = other_comes image bindings (tree image p) ctx current els place t v handed drawn fitting r lowered M onward env e

  -- "For every fitting pattern and every fitting value, the run enters no block twice and stops at then or else."
  pub stops_at_then_or_else : Stops image M place v ctx current env r.then.0 (drop (length r.ctx.state.statements) M.lines)
      ⊎ ((e : BasicBlockId) × (r.else ≡ Some e) × Stops image M place v ctx current env e.0 M.lines)
  stops_at_then_or_else = by (matches image (tree image p) v) refl
    where
      by : (b : Bool) → matches image (tree image p) v ≡ b → Stops image M place v ctx current env r.then.0 (drop (length r.ctx.state.statements) M.lines)
          ⊎ ((e : BasicBlockId) × (r.else ≡ Some e) × Stops image M place v ctx current env e.0 M.lines)
      by true q = inl (if_it_matches q).stops
      by false q = let (e, i, c) = if_not q in inr (e, i, c.stops)
