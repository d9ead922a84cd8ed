-- Of the blocks that a list of parameters makes, exactly the one returned is open. Assumes nothing.
use Rattle.std.specs.Prelude.{Some, None}
use Prim.Native.Nat.{ℕ, ◌+◌, ◌≤◌, ◌<◌}
use mathlib.Core.Path.{◌≡◌, sym, subst}
use mathlib.Core.Logic.{◌⊎◌, inl, inr}
use mathlib.Core.List.{List, [], ◌∷◌}
use lib.ListN.{length}
use Rattle.image.specs.Tree.{tree}
use Rattle.lower_spec.specs.Results.{OptBlock}
use Rattle.mir.specs.declared.BasicBlockId.{BasicBlockId}
use Rattle.mir.specs.declared.blocks.Terminator.{Terminator}
use Rattle.views.specs.Views.{mir_of}
use Rattle.views.specs.Growing.{terminator_at, GoesOn}
use Rattle.pattern_matching.specs.Walking.{Ctx, Out, ok, with_state, local_place}
use Rattle.params_spec.specs.Results.{SelfParam}
use Rattle.params_spec.specs.Params.{Param, ParamsOut, self_count, lower_param, lower_params, lower_params_and_bindings}
use Rattle.growth.specs.Opened.{Starts, Leaves}
use Rattle.growth.proofs.Opening.{adds_same, adds_words}
use Rattle.growth.proofs.Leaving.{not_none, leaves_lines, leaves_seq}
use Rattle.growth.proofs.Walks.{ok_is, walked}
use Rattle.growth.proofs.OpenBlocks.{match_leaves, leaves_goes_on, leaves_only}
use Rattle.param_runs.specs.Returned.{returned}
use Rattle.param_runs.proofs.Shutting.{leaves_shut}
use Rattle.param_runs.proofs.Owning.{unchanged, param_case}
use Rattle.param_runs.proofs.Declaring.{all_made}
use Rattle.param_runs.proofs.Stepping.{steps}

-- what a walk leaves that comes back with no else
abbrev pub Open : Ctx → BasicBlockId → Out → Type 0
Open ctx current r = Leaves ctx.state current None (record { ctx = r.ctx; then = r.then; else = None })

-- nothing done
pub open_same : (ctx : Ctx) (current : BasicBlockId) → Starts ctx current None → Open ctx current (unchanged ctx current)
open_same ctx current s = leaves_lines s (adds_same ctx.state current.0)

-- one walk after another
open_seq : (ctx : Ctx) (current : BasicBlockId) (r r₁ : Out) → Open ctx current r → Open r.ctx r.then r₁ → Open ctx current r₁
open_seq ctx current r r₁ p q = leaves_seq (record { ctx = r.ctx; then = r.then; else = None }) (record { ctx = r₁.ctx; then = r₁.then; else = None }) p q

module _ (image bindings : List ℕ) where
  -- a parameter
  pub param_opens : (p l : ℕ) (ctx : Ctx) (current : BasicBlockId) (r : Out) → Starts ctx current None → lower_param image bindings p l ctx current ≡ ok r → Open ctx current r
  param_opens p l ctx current r s e =
      param_case image bindings l ctx current (Open ctx current) r p (λ own. open_same ctx current s)
      (λ r₁ other e₁. leaves_shut r₁ (match_leaves image bindings (tree image p) ctx current None (local_place (record { 0 = l })) r₁ s e₁)) e

  -- each parameter in order
  pub params_open : (params : List Param) (l : ℕ) (ctx : Ctx) (current : BasicBlockId) (r : Out) → Starts ctx current None →
      lower_params image bindings params l ctx current ≡ ok r → Open ctx current r
  unfolding lower_params
  params_open [] l ctx current r s e = subst (Open ctx current) (ok_is e) (open_same ctx current s)
  params_open (q ∷ qs) l ctx current r s e =
      walked (lower_param image bindings q.pattern l ctx current) _ e (λ r₁ e₁ e₂.
      let p = param_opens q.pattern l ctx current r₁ s e₁ in
      open_seq ctx current r₁ r p (params_open qs (l + 1) r₁.ctx r₁.then r p.ready e₂))

-- what comes of parameters
abbrev Closing : Ctx → BasicBlockId → ParamsOut → Type 0
Closing ctx current r = Leaves ctx.state current None (returned r)

module _ (image : List ℕ) (self : SelfParam) (params : List Param) (bindings : List ℕ) (ctx : Ctx) (current : BasicBlockId) (r : ParamsOut) (starts : Starts ctx current None)
    (lowered : lower_params_and_bindings image self params bindings ctx current ≡ ok r) where
  -- What the parameters leave: a walk may start again from the block returned, and of the start block and the new ones all others are closed.
  pub params_leave : Leaves ctx.state current None (returned r)
  params_leave =
      let s = steps image self params bindings ctx current r lowered in
      let m = ((all_made image self params (record { state = ctx.state; bindings = bindings })).at s.made s.declared).makes in
      let here = leaves_lines starts (adds_words ctx.state s.made.state current.0 _ m.blocks m.statements m.locals) in
      let q = params_open image s.made.bindings params (length ctx.state.locals + self_count self) (with_state ctx s.made.state) current s.end here.ready s.params_lowered in
      subst (Closing ctx current) (sym s.is) (open_seq ctx current (unchanged (with_state ctx s.made.state) current) s.end here q)

  -- Of the new blocks exactly the returned one is open: one that is open is returned ..
  pub only_the_returned_is_open : (b : ℕ) → length ctx.state.blocks ≤ b → b < length r.ctx.state.blocks → terminator_at (mir_of r.ctx.state) b ≡ Terminator.Open → b ≡ r.then.0
  only_the_returned_is_open b h i o = either (leaves_only params_leave b h i o)
    where
      either : (b ≡ r.then.0) ⊎ (◌≡◌ {A = OptBlock} None (Some (record { 0 = b }))) → b ≡ r.then.0
      either (inl e) = e
      either (inr e) = absurd (not_none e)

  -- .. and the returned one is
  pub the_returned_is_open : terminator_at (mir_of r.ctx.state) r.then.0 ≡ Terminator.Open
  the_returned_is_open = params_leave.ready.opened

  -- the body goes on from the one handed in
  pub params_go_on : GoesOn (mir_of ctx.state) (mir_of r.ctx.state)
  params_go_on = leaves_goes_on starts params_leave
