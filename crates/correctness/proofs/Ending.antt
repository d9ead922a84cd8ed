-- The run as a function stops where the run as a relation comes to: at the end of then, or on reaching the else. Assumes nothing.
use Rattle.std.specs.Prelude.{Some}
use Prim.Native.Nat.{ℕ, suc, ◌≤◌}
use native.Mathlib.Decide.{ℕ_discrete}
use native.Mathlib.Nat.{le_refl}
use native.Mathlib.Omega.{arith}
use mathlib.Core.Path.{◌≡◌, refl, sym, ap, ◌∙◌, subst}
use mathlib.Core.Logic.{◌≢◌}
use mathlib.Core.Bool.{Bool, true, false, cond}
use mathlib.Core.List.{List, [], ◌∷◌, ◌++◌, append-nil, append_assoc}
use borrow.Author.Tests.{eq-eqb, ne_eqb}
use lib.ListN.{length}
use Rattle.mir.specs.declared.blocks.Terminator.{Terminator}
use Rattle.lower_spec.specs.Results.{OptBlock}
use Rattle.views.specs.Views.{Line, Mir}
use Rattle.views.specs.Growing.{terminator_at, Closed}
use Rattle.meaning.specs.Running.{Scene, Env, execute, switched, Run, here, skip, step, jump, branch}
use Rattle.meaning.specs.Executing.{Position, Ending, at_then, at_else, is_else, entering, Leap, to, leap, leapt, runs}
use Rattle.meaning.proofs.Agreeing.{standing}
use Rattle.correctness.specs.Demand2.{NoneIs, Distinct}
use Rattle.correctness.proofs.Trails.{All}

module _ {scene : Scene} {m : Mir} where
  -- a run to a block that it does not enter stays in that block, and goes through its lines
  within : {b b' : ℕ} {lines lines' : List Line} {env env' : Env} {tr : List ℕ} → Run scene m b lines env b' lines' env' tr → NoneIs b' tr → (b ≡ b') × (length lines' ≤ length lines)
  within {lines = lines} here h = (refl, le_refl (length lines))
  within (skip other run) h = let (e, k) = within run h in (e, omega arith)
  within (step own run) h = let (e, k) = within run h in (e, omega arith)
  within (jump ends run) h = absurd (h.0 (sym (within run h.1).0))
  within (branch ends run) h = absurd (h.0 (sym (within run h.1).0))

  -- and if as many lines are left to be looked at, it has not moved
  still : {b b' : ℕ} {lines lines' : List Line} {env env' : Env} {tr : List ℕ} → Run scene m b lines env b' lines' env' tr → NoneIs b' tr → length lines ≤ length lines' →
      (env ≡ env') × (tr ≡ [])
  still here h k = (refl, refl)
  still (skip other run) h k = let j = (within run h).1 in absurd (omega arith)
  still (step own run) h k = let j = (within run h).1 in absurd (omega arith)
  still (jump ends run) h k = absurd (h.0 (sym (within run h.1).0))
  still (branch ends run) h k = absurd (h.0 (sym (within run h.1).0))

-- with enough steps the function ends so
pub record Leads (scene : Scene) (m : Mir) (then : ℕ) (els : OptBlock) (at : Position) (e : Ending) : Type 0 where
  pub enough : ℕ
  pub leads : runs scene m then els enough at ≡ e

module _ (scene : Scene) (m : Mir) (then : ℕ) (els : OptBlock) (opened : terminator_at m then ≡ Terminator.Open) where
  -- a block with another terminator is not then
  not_then : (b : ℕ) (u : Terminator) → terminator_at m b ≡ u → Closed u → b ≢ then
  not_then b u e c q = subst Closed (sym e ∙ ap (terminator_at m) q ∙ opened) c

  -- a line, in its block or not
  leads_skip : {b : ℕ} {x : Line} {lines : List Line} {env : Env} {seen : List ℕ} {e : Ending} → x.block ≢ b → Leads scene m then els (standing b lines env seen) e → Leads scene m then els (standing b (x ∷ lines) env seen) e
  unfolding runs
  leads_skip {b} {x} {lines} {env} {seen} other l =
      record { enough = suc l.enough; leads = ap (λ (f : Bool). runs scene m then els l.enough (standing b lines (cond f (execute x.statement scene env) env) seen)) (ne_eqb x.block b other) ∙ l.leads }

  leads_step : {b : ℕ} {x : Line} {lines : List Line} {env : Env} {seen : List ℕ} {e : Ending} → x.block ≡ b → Leads scene m then els (standing b lines (execute x.statement scene env) seen) e →
      Leads scene m then els (standing b (x ∷ lines) env seen) e
  unfolding runs
  leads_step {b} {x} {lines} {env} {seen} own l =
      record { enough = suc l.enough; leads = ap (λ (f : Bool). runs scene m then els l.enough (standing b lines (cond f (execute x.statement scene env) env) seen)) (eq-eqb x.block b own) ∙ l.leads }

  -- behind the last line a terminator that leads on, to a block that is the else or not
  leads_leap : (b c : ℕ) (env : Env) (seen : List ℕ) (u : Terminator) (f : Bool) (n : ℕ) {e : Ending} → terminator_at m b ≡ u → Closed u → leap u env ≡ to c → is_else els c ≡ f →
      cond f (at_else (standing c m.lines env (seen ++ (c ∷ [])))) (runs scene m then els n (standing c m.lines env (seen ++ (c ∷ [])))) ≡ e → Leads scene m then els (standing b [] env seen) e
  unfolding runs
  leads_leap b c env seen u f n ends closed goes is q =
      let at = standing b [] env seen in
      let next : Position → Ending = λ p. runs scene m then els n p in
      record {
        enough = suc n;
        leads = ap (λ (g : Bool). cond g (at_then at) (leapt scene m then els next at (leap (terminator_at m b) env))) (ne_eqb b then (not_then b u ends closed))
            ∙ ap (λ (k : Leap). leapt scene m then els next at k) (ap (λ (k : Terminator). leap k env) ends ∙ goes)
            ∙ ap (λ (g : Bool). cond g (at_else (entering m at c)) (next (entering m at c))) is ∙ q;
      }

  -- a run that enters no else: where the function goes on from its end, it does so from its start
  pub leads_through : {b b' : ℕ} {lines lines' : List Line} {env env' : Env} {tr : List ℕ} {e : Ending} → Run scene m b lines env b' lines' env' tr →
      All (λ c. is_else els c ≡ false) tr → (seen : List ℕ) → Leads scene m then els (standing b' lines' env' (seen ++ tr)) e → Leads scene m then els (standing b lines env seen) e
  leads_through {b = b} {lines = lines} {env = env} {e = e} here h seen l = subst (λ (s : List ℕ). Leads scene m then els (standing b lines env s) e) (append-nil seen) l
  leads_through (skip other run) h seen l = leads_skip other (leads_through run h seen l)
  leads_through (step own run) h seen l = leads_step own (leads_through run h seen l)
  leads_through {b = b} {b' = b'} {lines' = lines'} {env = env} {env' = env'} {e = e} (jump {t = t} {entered = tr} ends run) h seen l =
      let rec = leads_through run h.1 (seen ++ (t.0 ∷ [])) (subst (λ (s : List ℕ). Leads scene m then els (standing b' lines' env' s) e) (sym (append_assoc seen (t.0 ∷ []) tr)) l) in
      leads_leap b t.0 env seen (Terminator.Goto t) false rec.enough ends tt refl h.0 rec.leads
  leads_through {b = b} {b' = b'} {lines' = lines'} {env = env} {env' = env'} {e = e} (branch {l = k} {low = low} {high = high} {t = t} {f = f} {entered = tr} ends run) h seen l =
      let c = switched (env k.0) low high t.0 f.0 in
      let rec = leads_through run h.1 (seen ++ (c ∷ [])) (subst (λ (s : List ℕ). Leads scene m then els (standing b' lines' env' s) e) (sym (append_assoc seen (c ∷ []) tr)) l) in
      leads_leap b c env seen (Terminator.Switch k low high t f) false rec.enough ends tt refl h.0 rec.leads

  -- at the end of then it stops
  pub ends_at_then : (env : Env) (seen : List ℕ) → Leads scene m then els (standing then [] env seen) (at_then (standing then [] env seen))
  unfolding runs
  ends_at_then env seen = record { enough = 1; leads = rw (eq-eqb then then refl) }

  -- a block is entered on the way to the else: it is the else, and the run ends there, or it is not
  enters : (b c : ℕ) (env : Env) (seen : List ℕ) (u : Terminator) {b' : ℕ} {lines' : List Line} {env' : Env} {tr : List ℕ} → terminator_at m b ≡ u → Closed u → leap u env ≡ to c →
      Run scene m c m.lines env b' lines' env' tr → els ≡ Some (record { 0 = b' }) → Distinct (c ∷ tr) → lines' ≡ m.lines →
      (c ≢ b' → Leads scene m then els (standing c m.lines env (seen ++ (c ∷ []))) (at_else (standing b' lines' env' ((seen ++ (c ∷ [])) ++ tr)))) →
      Leads scene m then els (standing b [] env seen) (at_else (standing b' lines' env' (seen ++ (c ∷ tr))))
  enters b c env seen u {b'} {lines'} {env'} {tr} ends closed goes run i d k on = by (ℕ_discrete c b')
    where
      by : Dec (c ≡ b') → Leads scene m then els (standing b [] env seen) (at_else (standing b' lines' env' (seen ++ (c ∷ tr))))
      by (yes e) =
          let (same, none) = still run (subst (λ (x : ℕ). NoneIs x tr) e d.0) (rw k (le_refl (length m.lines))) in
          leads_leap b c env seen u true 0 ends closed goes (ap (λ (o : OptBlock). is_else o c) i ∙ eq-eqb c b' e)
          (λ j. at_else (standing (e j) (sym k j) (same j) (seen ++ (c ∷ sym none j))))
      by (no n) =
          let l = on n in
          leads_leap b c env seen u false l.enough ends closed goes (ap (λ (o : OptBlock). is_else o c) i ∙ ne_eqb c b' n)
          (l.leads ∙ ap (λ (s : List ℕ). at_else (standing b' lines' env' s)) (append_assoc seen (c ∷ []) tr))

  -- a run to the else, which it enters last, from another block: the function stops on reaching it
  pub leads_to_else : {b b' : ℕ} {lines lines' : List Line} {env env' : Env} {tr : List ℕ} → Run scene m b lines env b' lines' env' tr → els ≡ Some (record { 0 = b' }) → b ≢ b' →
      Distinct tr → lines' ≡ m.lines → (seen : List ℕ) → Leads scene m then els (standing b lines env seen) (at_else (standing b' lines' env' (seen ++ tr)))
  leads_to_else here i n d k seen = absurd (n refl)
  leads_to_else (skip other run) i n d k seen = leads_skip other (leads_to_else run i n d k seen)
  leads_to_else (step own run) i n d k seen = leads_step own (leads_to_else run i n d k seen)
  leads_to_else {b = b} {env = env} (jump {t = t} ends run) i n d k seen =
      enters b t.0 env seen (Terminator.Goto t) ends tt refl run i d k (λ q. leads_to_else run i q d.1 k (seen ++ (t.0 ∷ [])))
  leads_to_else {b = b} {env = env} (branch {l = l} {low = low} {high = high} {t = t} {f = f} ends run) i n d k seen =
      let c = switched (env l.0) low high t.0 f.0 in
      enters b c env seen (Terminator.Switch l low high t f) ends tt refl run i d k (λ q. leads_to_else run i q d.1 k (seen ++ (c ∷ [])))
