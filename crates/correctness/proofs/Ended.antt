-- The run as a function on a lowered pattern: on a value that matches it ends at the end of then, and on any other on reaching the else. Assumes nothing.
use Rattle.std.specs.Prelude.{Some, None}
use Prim.Native.Nat.{ℕ, ◌<◌}
use native.Mathlib.Omega.{arith}
use mathlib.Core.Path.{◌≡◌, refl, sym, ap, ◌∙◌, subst}
use mathlib.Core.Logic.{◌≢◌}
use mathlib.Core.Bool.{true, false}
use mathlib.Core.List.{List, [], append-nil}
use borrow.Author.Tests.{ne_eqb}
use lib.ListN.{length, drop}
use Rattle.image.specs.Tables.{pattern_count}
use Rattle.image.specs.Tree.{tree}
use Rattle.place.specs.declared.Place.{Place}
use Rattle.mir.specs.declared.BasicBlockId.{BasicBlockId}
use Rattle.state.specs.State.{State}
use Rattle.lower_spec.specs.Results.{OptBlock}
use Rattle.views.specs.Views.{Line, Mir, mir_of}
use Rattle.views.specs.Growing.{Closed}
use Rattle.pattern_matching.specs.Walking.{Ctx, Out, ok}
use Rattle.pattern_matching.specs.Patterns.{pattern_match}
use Rattle.growth.specs.Opened.{count, terminator, From, ElseReady, ElseLeft, Leaves}
use Rattle.growth.proofs.Working.{goes_on_refl}
use Rattle.growth.proofs.Leaving.{some_block, not_none}
use Rattle.growth.proofs.OpenBlocks.{match_leaves}
use Rattle.meaning.specs.Values.{Value}
use Rattle.meaning.specs.Running.{Env}
use Rattle.meaning.specs.Executing.{at_then, at_else, is_else}
use Rattle.meaning.specs.Matching.{matches}
use Rattle.meaning.specs.Binding.{binds}
use Rattle.meaning.proofs.Agreeing.{standing}
use Rattle.correctness.specs.Demand2.{place_path, Handed, Fitting, Comes, Ends}
use Rattle.correctness.proofs.Trails.{all_map₂, distinct_of}
use Rattle.correctness.proofs.Walking.{rest, rest_is_lem, Lands}
use Rattle.correctness.proofs.Landing.{led_on, led_off}
use Rattle.correctness.proofs.CheckHalf.{scene_of, comes}
use Rattle.correctness.proofs.Drawing.{tree_drawn}
use Rattle.correctness.proofs.Ending.{Leads, leads_through, ends_at_then, leads_to_else}
use Rattle.correctness.proofs.Demand.{lands}

-- a block that a run to then has entered is not the else: one that was supplied is older, and a new one is open
not_else : (st st₁ : State) (current then : BasicBlockId) (els left : OptBlock) (c : ℕ) → ElseReady st current els → ElseLeft st els st₁ left → ElseReady st₁ then left →
    (c ≢ then.0 → Closed (terminator st₁ c)) → From st then.0 c → is_else left c ≡ false
not_else st st₁ current then els None c h f g closed newer = refl
not_else st st₁ current then els (Some e) c h f g closed newer = ne_eqb c e.0 (λ q. by els h f q)
  where
    by : (els : OptBlock) → ElseReady st current els → ElseLeft st els st₁ (Some e) → c ≡ e.0 → ⊥
    by None h f q = subst Closed (ap (terminator st₁) q ∙ f.1) (closed (λ t. g.1 (sym q ∙ t)))
    by (Some x) h f q =
        let old : e.0 < count st = subst (λ (b : ℕ). b < count st) (sym (some_block f)) h.0 in
        g.1 (sym q ∙ newer (subst (λ (b : ℕ). b < count st) (sym q) old))

-- the block where a walk starts is not the else that it leaves
start_apart : (st st₁ : State) (current : BasicBlockId) (els left : OptBlock) (e : BasicBlockId) → current.0 < count st → ElseReady st current els → ElseLeft st els st₁ left →
    left ≡ Some e → current.0 ≢ e.0
start_apart st st₁ current None None e inside h f i q = not_none i
start_apart st st₁ current None (Some x) e inside h f i q = let new = f.0 in let same : x.0 ≡ e.0 = some_block i in absurd (omega arith)
start_apart st st₁ current (Some x) left e inside h f i q = h.1 (some_block (sym f ∙ i) ∙ sym q)

-- The run as a function on the pattern p of an image, in the lowered body.
module _ (image bindings : List ℕ) (p : ℕ) (ctx : Ctx) (current : BasicBlockId) (els : OptBlock) (place : Place) (t : ℕ) (v : Value)
    (there : p < pattern_count image) (handed : Handed image bindings ctx current els place t) (fitting : Fitting image bindings ctx place t (tree image p) v)
    (r : Out) (lowered : pattern_match image bindings (tree image p) ctx current els place ≡ ok r) (env : Env) where
  abbrev m : Mir
  m = mir_of r.ctx.state

  left : Leaves ctx.state current els r
  left = match_leaves image bindings (tree image p) ctx current els place r handed.starts lowered

  landed : Lands (scene_of image place v) bindings m ctx current.0 env (binds image (tree image p) (place_path place) v) r (matches image (tree image p) v)
  landed =
      lands image bindings (tree image p) ctx current els place t v handed (tree_drawn image fitting.image_valid fitting.image_bytes p there) fitting r lowered m (goes_on_refl m) env

  -- on a value that matches it ends at the end of then
  pub matching_ends : matches image (tree image p) v ≡ true →
      (c : Comes image bindings m place v ctx current env (binds image (tree image p) (place_path place) v) r.then.0 (drop (length r.ctx.state.statements) m.lines))
      × Ends image m place v ctx current env r.then r.else r.then.0 (drop (length r.ctx.state.statements) m.lines) c.stops at_then
  unfolding rest comes
  matching_ends e =
      let w = led_on (subst (Lands (scene_of image place v) bindings m ctx current.0 env (binds image (tree image p) (place_path place) v) r) e landed) in
      let empty = rest_is_lem r.ctx.state m [] (sym (append-nil m.lines)) in
      let others = all_map₂ (λ c. c ≢ r.then.0 → Closed (terminator r.ctx.state c)) (λ c. From ctx.state r.then.0 c) (λ c. is_else r.else c ≡ false) w.entered
      (λ c. not_else ctx.state r.ctx.state current r.then els r.else c handed.starts.else left.else left.ready.else) w.trail.closed.1 w.trail.newer in
      let scene = scene_of image place v in
      let end = subst (λ (ls : List Line). Leads scene m r.then.0 r.else (standing r.then.0 ls w.env' w.entered) (at_then (standing r.then.0 ls w.env' w.entered))) (sym empty)
      (ends_at_then scene m r.then.0 r.else left.ready.opened w.env' w.entered) in
      let l = leads_through scene m r.then.0 r.else left.ready.opened w.run others [] end in
      (comes w, record { enough = l.enough; ends = l.leads })

  -- and on any other on reaching the else
  pub other_ends : matches image (tree image p) v ≡ false →
      (e : BasicBlockId) × (r.else ≡ Some e) × (c : Comes image bindings m place v ctx current env [] e.0 m.lines)
      × Ends image m place v ctx current env r.then r.else e.0 m.lines c.stops at_else
  unfolding rest comes
  other_ends q =
      let (e, i, w) = led_off (subst (Lands (scene_of image place v) bindings m ctx current.0 env (binds image (tree image p) (place_path place) v) r) q landed) in
      let apart = start_apart ctx.state r.ctx.state current els r.else e handed.starts.inside handed.starts.else left.else i in
      let l = leads_to_else (scene_of image place v) m r.then.0 r.else left.ready.opened w.run i apart (distinct_of w.entered w.trail.distinct.1) refl [] in
      (e, i, comes w, record { enough = l.enough; ends = l.leads })
