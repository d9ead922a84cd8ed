-- What a parameter's walk does to a value that matches: where it needs nothing, and where it is lowered and its else is shut. Assumes nothing.
use Rattle.std.specs.Prelude.{Some, None}
use Prim.Native.Nat.{ℕ, ◌≤◌, ◌<◌}
use native.Mathlib.Nat.{le_refl}
use native.Mathlib.Omega.{arith}
use mathlib.Core.Path.{◌≡◌, refl, sym, subst}
use mathlib.Core.Bool.{Bool, true}
use mathlib.Core.List.{List}
use lib.ListN.{length, get_or}
use Rattle.image.specs.Valid.{valid}
use Rattle.image.specs.Tree.{tree}
use Rattle.place.specs.Places.{projection_of}
use Rattle.mir.specs.declared.BasicBlockId.{BasicBlockId}
use Rattle.mir.specs.declared.blocks.Terminator.{Terminator}
use Rattle.state.specs.State.{State}
use Rattle.state.specs.Steps.{set_terminator}
use Rattle.lower_spec.specs.Results.{OptBlock}
use Rattle.views.specs.Views.{Line, Mir, mir_of}
use Rattle.views.specs.Growing.{GoesOn}
use Rattle.pattern_matching.specs.Walking.{Ctx, Out, ok, local_place}
use Rattle.pattern_matching.specs.Patterns.{pattern_match}
use Rattle.params_spec.specs.Params.{Param, shut_else}
use Rattle.growth.specs.Opened.{count, Starts, Leaves}
use Rattle.growth.proofs.States.{count_terminator}
use Rattle.growth.proofs.Working.{worked_terminator, goes_on_lem, goes_on_refl, goes_on_trans}
use Rattle.growth.proofs.OpenBlocks.{match_leaves}
use Rattle.meaning.specs.Values.{Value, value_fits}
use Rattle.meaning.specs.Running.{Env, Scene, value, here}
use Rattle.meaning.specs.Matching.{matches}
use Rattle.meaning.specs.Binding.{binds}
use Rattle.meaning.specs.Fit.{fits}
use Rattle.correctness.specs.Demand2.{Handed, Fitting}
use Rattle.correctness.proofs.Walking.{rest, rest_same, Walked, Lands, walked_later}
use Rattle.correctness.proofs.Landing.{led_on}
use Rattle.correctness.proofs.Drawing.{tree_drawn}
use Rattle.correctness.proofs.Demand.{lands}
use Rattle.param_runs.specs.Through.{whole}
use Rattle.param_runs.proofs.Shutting.{shut_out}
use Rattle.param_runs.proofs.Typing.{NamedParam, local_typed}

-- the value of a local
abbrev pub scene_at : List ℕ → ℕ → Value → Scene
scene_at image l v = record { image = image; root = whole l; here = v }

-- an else that is shut: what stays
record Shut (ctx ctx₁ : Ctx) : Type 0 where
  goes : GoesOn (mir_of ctx.state) (mir_of ctx₁.state)
  blocks : count ctx.state ≤ count ctx₁.state
  statements : ctx₁.state.statements ≡ ctx.state.statements

-- of a walk with no else supplied
shut_stays : {st : State} {c : BasicBlockId} (ctx : Ctx) (then : BasicBlockId) (els : OptBlock) → Leaves st c None (record { ctx = ctx; then = then; else = els }) →
    Shut ctx (shut_else ctx els)
unfolding shut_else set_terminator
shut_stays ctx then None q = record { goes = goes_on_refl (mir_of ctx.state); blocks = le_refl _; statements = refl }
shut_stays ctx then (Some e) q =
    record {
      goes = goes_on_lem (worked_terminator ctx.state e Terminator.Unreachable) q.else.1;
      blocks = omega (arith, count_terminator ctx.state e Terminator.Unreachable);
      statements = refl;
    }

-- a pattern that is lowered, on a value that matches
pub lowered_walks : (image bindings : List ℕ) (q : Param) (l : ℕ) (v : Value) (ctx : Ctx) (current : BasicBlockId) (r : Out) (M : Mir) (env : Env) → valid image ≡ true →
    ((i : ℕ) → get_or image i 0 < 256) → NamedParam image q → Starts ctx current None → l < length ctx.state.locals → get_or ctx.state.locals l 0 ≡ q.ty →
    fits image bindings l q.ty (tree image q.pattern) ≡ true → value_fits image v q.ty ≡ true →
    matches image (tree image q.pattern) v ≡ true → pattern_match image bindings (tree image q.pattern) ctx current None (local_place (record { 0 = l })) ≡ ok r →
    GoesOn (mir_of (shut_out r).ctx.state) M →
    Walked (scene_at image l v) bindings M ctx current.0 env (binds image (tree image q.pattern) (whole l) v) (shut_out r).ctx r.then.0 (rest (shut_out r).ctx.state M)
unfolding local_place projection_of
lowered_walks image bindings q l v ctx current r M env valid bytes named starts there typed fit valued m e onward =
    let pat = tree image q.pattern in
    let place = local_place (record { 0 = l }) in
    let left = match_leaves image bindings pat ctx current None place r starts e in
    let stays = shut_stays r.ctx r.then r.else left in
    let handed : Handed image bindings ctx current None place q.ty = record {
      starts = starts;
      elements = refl;
      within = omega arith;
      root = there;
      placed = local_typed image ctx.state l q.ty valid named.ty typed;
      named = named.ty;
    } in
    let fitting : Fitting image bindings ctx place q.ty pat v = record { image_valid = valid; image_bytes = bytes; pattern = fit; value = valued } in
    let landed = lands image bindings pat ctx current None place q.ty v handed (tree_drawn image valid bytes q.pattern named.pattern) fitting r e M
    (goes_on_trans stays.goes onward) env in
    let w = led_on (subst (λ (b : Bool). Lands (scene_at image l v) bindings M ctx current.0 env (binds image pat (whole l) v) r b) m landed) in
    subst (λ (left : List Line). Walked (scene_at image l v) bindings M ctx current.0 env (binds image pat (whole l) v) (shut_out r).ctx r.then.0 left)
    (sym (rest_same r.ctx.state (shut_out r).ctx.state M stays.statements)) (walked_later w stays.goes stays.blocks)
