-- A run as a relation and a run as a function agree: what one comes to, the other comes to. Assumes nothing.
use Prim.Native.Nat.{ℕ, zero, suc}
use mathlib.Core.Path.{◌≡◌, refl, sym, ap, subst, ◌∙◌}
use mathlib.Core.Bool.{Bool, true, false, cond}
use lib.Dec.{eqb}
use mathlib.Core.List.{List, [], ◌∷◌, ◌++◌, append_assoc, append-nil}
use native.Mathlib.Decide.{ℕ_discrete}
use borrow.Author.Tests.{eq-eqb, ne_eqb}
use Rattle.mir.specs.declared.blocks.Terminator.{Terminator}
use Rattle.views.specs.Views.{Line, Mir}
use Rattle.views.specs.Growing.{terminator_at}
use Rattle.meaning.specs.Running.{Scene, Env, execute, switched, Run, here, skip, step, jump, branch}
use Rattle.lower_spec.specs.Results.{OptBlock}
use Rattle.meaning.specs.Executing.{Position, Ending, at_then, at_else, stuck, unfinished, is_else, line_done, entering, Leap, to, nowhere, leap, leap_to, advanced, steps, leapt, onward, runs}

-- a position
abbrev pub standing : ℕ → List Line → Env → List ℕ → Position
standing b lines env entered = record { block = b; lines = lines; env = env; entered = entered }

-- the function comes to a position within some number of steps
pub record Reaches (scene : Scene) (m : Mir) (at p : Position) : Type 0 where
  pub count : ℕ
  pub comes : steps scene m count at ≡ p

-- one step more in front
more : {scene : Scene} {m : Mir} {at next p : Position} → advanced scene m at at.lines ≡ next → Reaches scene m next p → Reaches scene m at p
unfolding steps
more {scene} {m} e r = record { count = suc r.count; comes = ap (λ (q : Position). steps scene m r.count q) e ∙ r.comes }

-- a block that is entered is the next of those entered
entered_next : (entered tr : List ℕ) (b : ℕ) → (entered ++ (b ∷ [])) ++ tr ≡ entered ++ (b ∷ tr)
entered_next entered tr b = append_assoc entered (b ∷ []) tr

module _ {scene : Scene} {m : Mir} where
  -- where the relation leads, the function comes
  pub runs_are_steps : {b b' : ℕ} {lines lines' : List Line} {env env' : Env} {tr : List ℕ} → Run scene m b lines env b' lines' env' tr → (entered : List ℕ) →
      Reaches scene m (standing b lines env entered) (standing b' lines' env' (entered ++ tr))
  unfolding steps
  runs_are_steps {b = b} {lines = lines} {env = env} here entered = record { count = 0; comes = ap (standing b lines env) (sym (append-nil entered)) }
  runs_are_steps {b = b} {env = env} (skip {lines = lines} {x = x} other run) entered =
      more (ap (λ (f : Bool). standing b lines (cond f (execute x.statement scene env) env) entered) (ne_eqb x.block b other)) (runs_are_steps run entered)
  runs_are_steps {b = b} {env = env} (step {lines = lines} {x = x} own run) entered =
      more (ap (λ (f : Bool). standing b lines (cond f (execute x.statement scene env) env) entered) (eq-eqb x.block b own)) (runs_are_steps run entered)
  runs_are_steps {b = b} {b' = b'} {lines' = lines'} {env = env} {env' = env'} (jump {t = t} {entered = tr} ends run) entered =
      more (ap (λ (u : Terminator). leap_to m (standing b [] env entered) (leap u env)) ends)
      (subst (λ (l : List ℕ). Reaches scene m (standing t.0 m.lines env (entered ++ (t.0 ∷ []))) (standing b' lines' env' l)) (entered_next entered tr t.0) (runs_are_steps run (entered ++ (t.0 ∷ []))))
  runs_are_steps {b = b} {b' = b'} {lines' = lines'} {env = env} {env' = env'} (branch {l = l} {low = low} {high = high} {t = t} {f = f} {entered = tr} ends run) entered =
      let n = switched (env l.0) low high t.0 f.0 in
      more (ap (λ (u : Terminator). leap_to m (standing b [] env entered) (leap u env)) ends)
      (subst (λ (k : List ℕ). Reaches scene m (standing n m.lines env (entered ++ (n ∷ []))) (standing b' lines' env' k)) (entered_next entered tr n) (runs_are_steps run (entered ++ (n ∷ []))))

-- the relation leads from one position to another
pub record Ran (scene : Scene) (m : Mir) (at p : Position) : Type 0 where
  pub tr : List ℕ
  pub run : Run scene m at.block at.lines at.env p.block p.lines p.env tr
  pub entered : p.entered ≡ at.entered ++ tr

module _ {scene : Scene} {m : Mir} where
  ran_line : (b : ℕ) (x : Line) (lines : List Line) (env : Env) (entered : List ℕ) (p : Position) →
      Ran scene m (line_done scene (standing b (x ∷ lines) env entered) x lines) p → Ran scene m (standing b (x ∷ lines) env entered) p
  ran_line b x lines env entered p r = choose (ℕ_discrete x.block b)
    where
      choose : Dec (x.block ≡ b) → Ran scene m (standing b (x ∷ lines) env entered) p
      choose (yes own) =
          record {
            tr = r.tr;
            run = step own (subst (λ (f : Bool). Run scene m b lines (cond f (execute x.statement scene env) env) p.block p.lines p.env r.tr) (eq-eqb x.block b own) r.run);
            entered = r.entered;
          }
      choose (no other) =
          record {
            tr = r.tr;
            run = skip other (subst (λ (f : Bool). Run scene m b lines (cond f (execute x.statement scene env) env) p.block p.lines p.env r.tr) (ne_eqb x.block b other) r.run);
            entered = r.entered;
          }

  ran_leap : (b : ℕ) (env : Env) (entered : List ℕ) (u : Terminator) (p : Position) → terminator_at m b ≡ u →
      Ran scene m (leap_to m (standing b [] env entered) (leap u env)) p → Ran scene m (standing b [] env entered) p
  ran_leap b env entered Terminator.Open p ends r = r
  ran_leap b env entered (Terminator.Goto t) p ends r =
      record { tr = t.0 ∷ r.tr; run = jump ends r.run; entered = r.entered ∙ entered_next entered r.tr t.0 }
  ran_leap b env entered (Terminator.Switch l low high t f) p ends r =
      let n = switched (env l.0) low high t.0 f.0 in
      record { tr = n ∷ r.tr; run = branch ends r.run; entered = r.entered ∙ entered_next entered r.tr n }
  ran_leap b env entered Terminator.Unreachable p ends r = r
  ran_leap b env entered (Terminator.Drop l t) p ends r = r

  -- where the function comes, the relation leads
  pub steps_are_runs : (n b : ℕ) (lines : List Line) (env : Env) (entered : List ℕ) → Ran scene m (standing b lines env entered) (steps scene m n (standing b lines env entered))
  unfolding steps
  steps_are_runs zero b lines env entered = record { tr = []; run = here; entered = sym (append-nil entered) }
  steps_are_runs (suc n) b [] env entered =
      let at = standing b [] env entered in
      let next = leap_to m at (leap (terminator_at m b) env) in
      ran_leap b env entered (terminator_at m b) (steps scene m n next) refl (steps_are_runs n next.block next.lines next.env next.entered)
  steps_are_runs (suc n) b (x ∷ lines) env entered =
      let next = line_done scene (standing b (x ∷ lines) env entered) x lines in
      ran_line b x lines env entered (steps scene m n next) (steps_are_runs n b lines next.env entered)

-- where a run that stops came to
abbrev pub StopsAt : Scene → Mir → Position → Ending → Type 0
StopsAt scene m at (at_then p) = Reaches scene m at p
StopsAt scene m at (at_else p) = Reaches scene m at p
StopsAt scene m at (stuck p) = Reaches scene m at p
StopsAt scene m at unfinished = Unit

module _ (scene : Scene) (m : Mir) (then : ℕ) (else : OptBlock) where
  stops_more : (at next : Position) (e : Ending) → advanced scene m at at.lines ≡ next → StopsAt scene m next e → StopsAt scene m at e
  stops_more at next (at_then p) i r = more i r
  stops_more at next (at_else p) i r = more i r
  stops_more at next (stuck p) i r = more i r
  stops_more at next unfinished i r = tt

  stops_here : (at : Position) → Reaches scene m at at
  unfolding steps
  stops_here at = record { count = 0; comes = refl }

  stops_entering : (n : ℕ) (at : Position) (b : ℕ) (f : Bool) → advanced scene m at at.lines ≡ entering m at b → StopsAt scene m (entering m at b) (runs scene m then else n (entering m at b)) →
      StopsAt scene m at (cond f (at_else (entering m at b)) (runs scene m then else n (entering m at b)))
  stops_entering n at b true i r = more i (stops_here (entering m at b))
  stops_entering n at b false i r = stops_more at (entering m at b) (runs scene m then else n (entering m at b)) i r

  stops_leap : (n : ℕ) (at : Position) (l : Leap) → at.lines ≡ [] → leap (terminator_at m at.block) at.env ≡ l → ((p : Position) → StopsAt scene m p (runs scene m then else n p)) →
      StopsAt scene m at (leapt scene m then else (λ p. runs scene m then else n p) at l)
  stops_leap n at (to b) none is rec =
      stops_entering n at b (is_else else b) (ap (λ (ls : List Line). advanced scene m at ls) none ∙ ap (λ (k : Leap). leap_to m at k) is) (rec (entering m at b))
  stops_leap n at nowhere none is rec = stops_here at

  stops_end : (n : ℕ) (at : Position) (f : Bool) → at.lines ≡ [] → ((p : Position) → StopsAt scene m p (runs scene m then else n p)) →
      StopsAt scene m at (cond f (at_then at) (leapt scene m then else (λ p. runs scene m then else n p) at (leap (terminator_at m at.block) at.env)))
  stops_end n at true none rec = stops_here at
  stops_end n at false none rec = stops_leap n at (leap (terminator_at m at.block) at.env) none refl rec

  stops_onward : (n : ℕ) (at : Position) (lines : List Line) → at.lines ≡ lines → ((p : Position) → StopsAt scene m p (runs scene m then else n p)) →
      StopsAt scene m at (onward scene m then else (λ p. runs scene m then else n p) at lines)
  stops_onward n at [] none rec = stops_end n at (eqb at.block then) none rec
  stops_onward n at (x ∷ lines) some rec =
      stops_more at (line_done scene at x lines) (runs scene m then else n (line_done scene at x lines)) (ap (λ (ls : List Line). advanced scene m at ls) some) (rec (line_done scene at x lines))

  -- a run that stops has come there step by step
  pub stops_where_steps_lead : (n : ℕ) (at : Position) → StopsAt scene m at (runs scene m then else n at)
  unfolding runs
  stops_where_steps_lead zero at = tt
  stops_where_steps_lead (suc n) at = stops_onward n at at.lines refl (λ p. stops_where_steps_lead n p)
