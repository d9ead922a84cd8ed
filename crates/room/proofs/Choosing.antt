-- An Or takes what is counted of it and its alternatives up to the first that cannot fail. Assumes nothing.
use Rattle.std.specs.Prelude.{Some, None}
use mathlib.Core.Path.{◌≡◌, refl, sym, ap, subst, ◌∙◌}
use mathlib.Core.Bool.{Bool, true, false, cond, ◌&&◌, true≢false, false≢true}
use mathlib.Core.List.{List, [], ◌∷◌, ◌++◌, append-nil}
use Prim.Native.Nat.{ℕ, suc, ◌+◌, ◌-◌, ◌*◌, ◌≤◌, max}
use native.Mathlib.Nat.{le_refl, le-max_left, le-max_right, suc-mul}
use native.Mathlib.Omega.{arith}
use Rattle.image.specs.Tree.{Head}
use Rattle.place.specs.declared.Place.{Place}
use Rattle.place.specs.declared.place_ty.PlaceTy.{PlaceTy}
use Rattle.mir.specs.declared.BasicBlockId.{BasicBlockId}
use Rattle.mir.specs.declared.blocks.Terminator.{Terminator}
use Rattle.state.specs.Steps.{next_block, try_block, set_terminator}
use Rattle.lower_spec.specs.Results.{OptBlock}
use Rattle.pattern_matching.specs.declared.MatchingMode.{MatchingMode}
use Rattle.pattern_matching.specs.Walking.{Ctx, Out, Walk, ok, Lowering, next, out, with_state, else_state}
use Rattle.pattern_matching.specs.Patterns.{Alternatives, behind, alternative, alternatives, alternatives_end, or_pattern}
use Rattle.counting.specs.Reaching.{all_alternatives, Reached, Reaching, an_or, through_alternatives}
use Rattle.counting.specs.Counting.{one, total, else_made}
use Rattle.counting.proofs.Passing.{Pass, checks, binds, mode_of, in_checks, total_append}
use Rattle.fitted.proofs.Walks.{on_kept}
use Rattle.room.specs.Elements.{most_of_alternatives}
use Rattle.room.proofs.Telling.{Origin, Sound, sound_ok, sound_next, sound_step, sound_as, sound_and}
use Rattle.room.proofs.Building.{Table, block, statement, local, entry, make, Goal, owing, Has, has_as, has_by, has_terminator, once_more, spend_block, spend_else}
use Rattle.room.proofs.Spending.{At, Reaches, reach_none, reach_max, no_or, tested, own, spent, marked_in, marked_both, marked_checks, AllAbove, above_append, Fares, Leaves, has_later, has_checks, Spends}
use Rattle.room.proofs.Rows.{flagged_as, Settled, Headed, Pays, Each, none_left, one_more_lem}

-- in Bind each pattern below an Or is tested once more
once_more_lem : (k : ℕ) (w : Table) (rs : List Reached) → AllAbove (k + 1) rs → total (spent binds k w) rs ≡ total (tested w) rs + total (spent binds (k + 1) w) rs
unfolding total
once_more_lem k w [] h = refl
once_more_lem k w (r ∷ rs) h =
    let a = once_more_lem k w rs h.1 in
    let l = h.0 in
    let b : r.ors - k ≡ suc (r.ors - (k + 1)) = omega (arith, l) in
    let c : (r.ors - k) * tested w r ≡ suc (r.ors - (k + 1)) * tested w r = ap (λ (n : ℕ). n * tested w r) b in
    let d = suc-mul (r.ors - (k + 1)) (tested w r) in
    omega (arith, a, c, d)

-- fewer Ors are above, too
above_less : (k : ℕ) (rs : List Reached) → AllAbove (k + 1) rs → AllAbove k rs
above_less k [] h = tt
above_less k (r ∷ rs) h = (let l = h.0 in omega (arith, l), above_less k rs h.1)

module _ {k : ℕ} {rs : Bool → List Reached} (h : Headed k rs) (f : Bool) where
  -- an alternative that can fail makes one block more in Check
  flag_tested : (w : Table) → total (tested w) (rs f) ≡ make (one f) 0 0 0 w + total (tested w) (rs false)
  unfolding total
  flag_tested w = rw (h.is f, h.is false) (by w)
    where
      by : (w : Table) → tested w (flagged_as f h.head) + total (tested w) h.others ≡ make (one f) 0 0 0 w + (tested w (flagged_as false h.head) + total (tested w) h.others)
      by block = omega arith
      by statement = omega arith
      by local = omega arith
      by entry = omega arith

  -- and none in Bind
  flag_bound : (w : Table) → total (spent binds k w) (rs f) ≡ total (spent binds k w) (rs false)
  unfolding total
  flag_bound w =
      rw (h.is f, h.is false)
      (let a = none (tested w (flagged_as f h.head)) in let b = none (tested w (flagged_as false h.head)) in let c = by w in omega (arith, a, b, c))
    where
      none : (t : ℕ) → (h.head.ors - k) * t ≡ 0
      none t = ap (λ (n : ℕ). (n - k) * t) h.ors ∙ no_or k t

      by : (w : Table) → own w (flagged_as f h.head) ≡ own w (flagged_as false h.head)
      by block = refl
      by statement = refl
      by local = refl
      by entry = refl

  -- the same locals are marked live
  flag_marked : (bindings : List ℕ) (pass : Pass) → marked_in bindings pass (rs f) ≡ marked_in bindings pass (rs false)
  flag_marked bindings pass = ap (λ (l : List Reached). marked_in bindings pass l) (h.is f) ∙ sym (ap (λ (l : List Reached). marked_in bindings pass l) (h.is false))

  -- as many Ors are above
  flag_above : (j : ℕ) → AllAbove j (rs false) → AllAbove j (rs f)
  flag_above j a =
      subst (AllAbove j) (sym (h.is f)) (let b : AllAbove j (flagged_as false h.head ∷ h.others) = subst (AllAbove j) (h.is false) a in (b.0, b.1))

-- no else is made where nothing fails
no_else : (els : OptBlock) → else_made false els ≡ 0
no_else None = refl
no_else (Some b) = refl

-- what an alternative leaves: the room that is left, and an else only if it can fail
abbrev Tried : Type 0 → Origin → Goal → Bool → (Table → ℕ) → OptBlock → Bool → Out → Type 0
Tried A base T F m els fails r = Fares A base T F m r.ctx els × Settled fails r.else

module _ {A : Type 0} {base : Origin} {image : List ℕ} {l : Lowering} {fails : PlaceTy → Bool} {reach : Reaching} {deep : PlaceTy → ℕ} (pays : Pays A base image l fails reach deep) (ty : PlaceTy) (k : ℕ)
    (F : Bool) (m : Table → ℕ) (els : OptBlock) where
  -- the patterns that are reached
  abbrev rs : Bool → List Reached
  rs f = reach ty (k + 1) f

  -- what is kept while an alternative is walked
  abbrev kept : Table → ℕ
  kept w = make (else_made F els) 0 0 0 w + m w

  -- the test of an alternative
  sound_tried : (T : Goal) (c : Ctx) (current : BasicBlockId) (place : Place) (n : Table → ℕ) → At image base place ty → (A → place.len + deep ty ≤ 16) → Fares A base T F (λ w. total (tested w) (rs (fails ty)) + (n w + m w)) c els →
      Sound A base (λ r. Has A base T r.ctx.state (λ w. once_more (fails ty) r.else w + (n w + kept w)) × Settled (fails ty) r.else)
      (l MatchingMode.Check c current None place)
  sound_tried T c current place n at len h =
      let flag = flag_tested (pays.headed ty (k + 1)) (fails ty) in
      let a = flag block in
      let b = flag statement in
      let d = flag local in
      let e = flag entry in
      sound_and
      (sound_as (λ r q. q.0)
      ((pays.spends ty).goes checks (k + 1) T (fails ty) (λ w. n w + kept w) c current None place at len (λ t. t)
      (has_by (has_checks T (rs false) h) _ (omega (arith, a)) (omega (arith, b)) (omega (arith, d)) (omega (arith, e)))))
      (pays.settles ty c current place (on_kept {c = base.ctx} {c' = c} h.kept at.on))

  -- an alternative, in Bind after its test
  sound_alternative : (T : Goal) (pass : Pass) (c : Ctx) (current : BasicBlockId) (place : Place) → At image base place ty → (A → place.len + deep ty ≤ 16) →
      Fares A base (owing (marked_in base.bindings pass (rs (fails ty))) T) F (λ w. total (spent pass k w) (rs (fails ty)) + m w) c els →
      Sound A base (λ r. Tried A base T F m els (fails ty) r × Reaches pass place (deep ty)) (alternative l (mode_of pass) c current place)
  sound_alternative T checks c current place at len h =
      let h' = has_later T _ _ (ap (λ (ls : List ℕ). ls ++ T.later) (marked_checks base.bindings (rs (fails ty)))) h in
      sound_next (l MatchingMode.Check c current None place) (λ r. ok r) (sound_tried T c current place (λ w. 0) at len (has_as _ (λ w. omega arith) h')) (λ r t.
      let q = t.1.1 in
      sound_ok (λ r. Tried A base T F m els (fails ty) r × Reaches checks place (deep ty)) r ((has_by t.0 _ (omega (arith, q)) (omega arith) (omega arith) (omega arith), t.1), tt))
  sound_alternative T binds c current place at len h =
      let h'' = has_later T _ _ (ap (λ (ls : List ℕ). ls ++ T.later) (flag_marked (pays.headed ty (k + 1)) (fails ty) base.bindings binds)) h in
      sound_next (l MatchingMode.Check c current None place) again
      (sound_tried (owing (marked_in base.bindings binds (rs false)) T) c current place (λ w. total (spent binds (k + 1) w) (rs false)) at len
      (has_as _ (λ w.
      let a = once_more_lem k w (rs (fails ty)) (flag_above (pays.headed ty (k + 1)) (fails ty) (k + 1) ((pays.spends ty).above (k + 1))) in
      let b = flag_bound (pays.headed ty (k + 1)) (fails ty) w in
      omega (arith, a, b)) h'')) (λ r t.
      sound_next (l MatchingMode.Bind r.ctx r.then None place) (last r)
      ((pays.spends ty).goes binds (k + 1) T false kept r.ctx r.then None place at len (λ t. absurd (false≢true t))
      (let q = t.1.1 in has_by t.0 _ (omega (arith, q)) (omega arith) (omega arith) (omega arith))) (λ r' h'.
      let q' = no_else r'.else in
      sound_ok (λ r. Tried A base T F m els (fails ty) r × Reaches binds place (deep ty)) (record { ctx = r'.ctx; then = r'.then; else = r.else })
      ((has_by h'.0 _ (omega (arith, q')) (omega arith) (omega arith) (omega arith), t.1), h'.1)))
    where
      last : Out → Out → Walk Out
      last r r' = out r'.ctx r'.then r.else

      again : Out → Walk Out
      again r = next (l MatchingMode.Bind r.ctx r.then None place) (last r)

-- what alternatives leave: the room that is left, and a block where the last does not match only if all can fail
abbrev Chosen : Type 0 → Origin → Goal → Bool → (Table → ℕ) → OptBlock → Bool → Alternatives → Type 0
Chosen A base T F m els all a = Fares A base T F m a.ctx els × (all ≡ false → a.left ≡ None)

-- the walk ends behind an alternative that leaves no block
sound_last : {A : Type 0} {base : Origin} {T : Goal} (F : Bool) (m : Table → ℕ) (els : OptBlock) (all : Bool) (c : Ctx) (left : OptBlock) (rest : BasicBlockId → Walk Alternatives) → left ≡ None →
    Fares A base T F m c els → Sound A base (Chosen A base T F m els all) (behind left c rest)
sound_last {A = A} {base = base} {T = T} F m els all c left rest e h =
    subst (λ (x : OptBlock). Sound A base (Chosen A base T F m els all) (behind x c rest)) (sym e)
    (sound_ok (Chosen A base T F m els all) (record { ctx = c; left = None }) (h, λ q. refl))

-- and goes on behind one that leaves one
sound_others : {A : Type 0} {base : Origin} {Q : Alternatives → Type 0} (c : Ctx) (left : OptBlock) (rest : BasicBlockId → Walk Alternatives) → else_made true left ≡ 0 →
    ((b : BasicBlockId) → Sound A base Q (rest b)) → Sound A base Q (behind left c rest)
sound_others c None rest q then = absurd (omega (arith, q))
sound_others c (Some b) rest q then = then b

module _ {A : Type 0} {base : Origin} {image : List ℕ} (p : ℕ) (ty : PlaceTy) (k : ℕ) (T : Goal) (F : Bool) (m : Table → ℕ) (els : OptBlock) (pass : Pass) (join : BasicBlockId) (place : Place)
    (at : At image base place ty) where
  -- alternatives, up to the first that cannot fail
  sound_alternatives : {ls : List Lowering} {fs : List (PlaceTy → Bool)} {rs : List Reaching} {ds : List (PlaceTy → ℕ)} → Each A base image ls fs rs ds → (c : Ctx) (current : BasicBlockId) →
      (A → place.len + most_of_alternatives ty fs ds ≤ 16) →
      Fares A base (owing (marked_in base.bindings pass (through_alternatives ty k fs rs)) T) F (λ w. total (spent pass k w) (through_alternatives ty k fs rs) + m w) c els →
      Sound A base (λ a. Chosen A base T F m els (all_alternatives ty fs) a × Reaches pass place (most_of_alternatives ty fs ds)) (alternatives p ls (mode_of pass) c join current place)
  unfolding alternatives all_alternatives through_alternatives most_of_alternatives total
  sound_alternatives none_left c current len h =
      sound_ok (λ a. Chosen A base T F m els true a × Reaches pass place 0) (record { ctx = c; left = Some current })
      ((has_as _ (λ w. omega arith) h, λ q. absurd (true≢false q)), reach_none pass place at.short)
  sound_alternatives (one_more_lem {l = l} {fails = fails} {reach = reach} {deep = deep} {ls = ls} {fs = fs} {rs = rs} {ds = ds} pays e) c current len h =
      by (fails ty) refl (λ c current len h. sound_alternatives e c current len h)
    where
      first : List Reached
      first = reach ty (k + 1) (fails ty)

      others : List Reached
      others = through_alternatives ty k fs rs

      marks : List Reached → List ℕ
      marks l = marked_in base.bindings pass (first ++ l) ++ T.later

      goto : Out → Ctx
      goto r = with_state r.ctx (set_terminator r.ctx.state r.then (Terminator.Goto join))

      rest : Out → BasicBlockId → Walk Alternatives
      rest r b = alternatives p ls (mode_of pass) (goto r) join b place

      by : (x : Bool) → fails ty ≡ x →
          ((c : Ctx) (current : BasicBlockId) → (A → place.len + most_of_alternatives ty fs ds ≤ 16) →
          Fares A base (owing (marked_in base.bindings pass others) T) F (λ w. total (spent pass k w) others + m w) c els →
          Sound A base (λ a. Chosen A base T F m els (all_alternatives ty fs) a × Reaches pass place (most_of_alternatives ty fs ds)) (alternatives p ls (mode_of pass) c join current place)) →
          Sound A base (λ a. Chosen A base T F m els (fails ty && all_alternatives ty fs) a × Reaches pass place (max (deep ty) (cond (fails ty) (most_of_alternatives ty fs ds) 0))) (next (alternative l (mode_of pass) c current place) (λ r. behind r.else (goto r) (rest r)))
      by false q below =
          let d = le-max_left (deep ty) (cond (fails ty) (most_of_alternatives ty fs ds) 0) in
          let these : cond (fails ty) others [] ≡ [] = ap {B = List Reached} (λ (x : Bool). cond x others []) q in
          let none : cond (fails ty) (most_of_alternatives ty fs ds) 0 ≡ 0 = ap {B = ℕ} (λ (x : Bool). cond x (most_of_alternatives ty fs ds) 0) q in
          sound_next (alternative l (mode_of pass) c current place) (λ r. behind r.else (goto r) (rest r))
          (sound_alternative pays ty k F m els T pass c current place at (λ a. let x = len a in omega (arith, x, d))
          (has_as _ (λ w.
          let x = total_append (spent pass k w) first (cond (fails ty) others []) in
          let y : total (spent pass k w) (cond (fails ty) others []) ≡ 0 = ap (total (spent pass k w)) these in
          omega (arith, x, y)) (has_later T _ _ (ap marks these ∙ ap (λ (l : List Reached). marked_in base.bindings pass l ++ T.later) (append-nil first)) h))) (λ r t.
          sound_as (λ a g. (g, reach_max pass place (deep ty) _ t.1 (subst (λ (n : ℕ). Reaches pass place n) (sym none) (reach_none pass place at.short))))
          (sound_last F m els (fails ty && all_alternatives ty fs) (goto r) r.else (rest r) (t.0.1.0 q) (has_terminator r.ctx.state _ r.then _ t.0.0)))
      by true q below =
          let d = le-max_left (deep ty) (cond (fails ty) (most_of_alternatives ty fs ds) 0) in
          let d' = le-max_right (deep ty) (cond (fails ty) (most_of_alternatives ty fs ds) 0) in
          let these : cond (fails ty) others [] ≡ others = ap {B = List Reached} (λ (x : Bool). cond x others []) q in
          let most : cond (fails ty) (most_of_alternatives ty fs ds) 0 ≡ most_of_alternatives ty fs ds = ap {B = ℕ} (λ (x : Bool). cond x (most_of_alternatives ty fs ds) 0) q in
          let all : (fails ty && all_alternatives ty fs) ≡ all_alternatives ty fs = ap {B = Bool} (λ (x : Bool). x && all_alternatives ty fs) q in
          sound_next (alternative l (mode_of pass) c current place) (λ r. behind r.else (goto r) (rest r))
          (sound_alternative pays ty k F (λ w. total (spent pass k w) others + m w) els (owing (marked_in base.bindings pass others) T) pass c current place at (λ a. let x = len a in omega (arith, x, d))
          (has_as _ (λ w.
          let x = total_append (spent pass k w) first (cond (fails ty) others []) in
          let y : total (spent pass k w) (cond (fails ty) others []) ≡ total (spent pass k w) others = ap (total (spent pass k w)) these in
          omega (arith, x, y)) (has_later T _ _ (ap marks these ∙ marked_both base.bindings pass first others T.later) h))) (λ r t.
          let h' = has_terminator r.ctx.state _ r.then (Terminator.Goto join) t.0.0 in
          sound_others (goto r) r.else (rest r) (sym (ap {B = ℕ} (λ (x : Bool). else_made x r.else) q) ∙ t.0.1.1) (λ b.
          sound_as (λ a g. ((g.0.0, λ q. g.0.1 (sym all ∙ q)), reach_max pass place (deep ty) _ t.1 (subst (λ (n : ℕ). Reaches pass place n) (sym most) g.1)))
          (below (goto r) b (λ a. let x = len a in omega (arith, x, d', most)) h')))

-- where the last alternative does not match, an else is taken in Check
sound_left : {A : Type 0} {base : Origin} {T : Goal} (p : ℕ) (F : Bool) (m : Table → ℕ) (els : OptBlock) (pass : Pass) (join : BasicBlockId) (all : Bool) (a : Alternatives) → (in_checks pass all ≡ true → F ≡ true) →
    Chosen A base T F m els all a → Sound A base (Leaves A base T F m) (alternatives_end p (mode_of pass) a join els)
unfolding alternatives_end
sound_left {A = A} {base = base} {T = T} p F m els pass join all a f (h, left) = by pass all a.left f left
  where
    checked : (F : Bool) (b : BasicBlockId) → F ≡ true → Fares A base T F m a.ctx els →
        Sound A base (Leaves A base T F m) (alternatives_end p MatchingMode.Check (record { ctx = a.ctx; left = Some b }) join els)
    checked false b e h = absurd (false≢true e)
    checked true b e h =
        sound_step p (else_state a.ctx.state els) _
        (spend_else a.ctx.state (λ w. once_more false None w + m w) els (has_by h _ (omega arith) (omega arith) (omega arith) (omega arith))) (λ st h'.
        sound_ok (Leaves A base T true m) _ (has_terminator st _ b _ (has_by h' _ (omega arith) (omega arith) (omega arith) (omega arith))))

    by : (pass : Pass) (all : Bool) (left : OptBlock) → (in_checks pass all ≡ true → F ≡ true) → (all ≡ false → left ≡ None) →
        Sound A base (Leaves A base T F m) (alternatives_end p (mode_of pass) (record { ctx = a.ctx; left = left }) join els)
    by pass all None f q = sound_ok (Leaves A base T F m) _ h
    by checks true (Some b) f q = checked F b (f refl) h
    by checks false (Some b) f q = absurd (let e = q refl in let z : ◌≡◌ {A = ℕ} 0 1 = cc in omega arith)
    by binds all (Some b) f q = sound_ok (Leaves A base T F m) _ (has_terminator a.ctx.state _ b Terminator.Unreachable h)

-- k Ors are above what is reached through alternatives
above_alternatives : {A : Type 0} {base : Origin} {image : List ℕ} {ls : List Lowering} {fs : List (PlaceTy → Bool)} {rs : List Reaching} {ds : List (PlaceTy → ℕ)} (ty : PlaceTy) (k : ℕ) →
    Each A base image ls fs rs ds → AllAbove k (through_alternatives ty k fs rs)
unfolding through_alternatives
above_alternatives ty k none_left = tt
above_alternatives ty k (one_more_lem {fails = fails} {reach = reach} {fs = fs} {rs = rs} pays e) =
    above_append k (reach ty (k + 1) (fails ty)) (cond (fails ty) (through_alternatives ty k fs rs) [])
    (above_less k (reach ty (k + 1) (fails ty)) (flag_above (pays.headed ty (k + 1)) (fails ty) (k + 1) ((pays.spends ty).above (k + 1)))) (by (fails ty) (above_alternatives ty k e))
  where
    by : (x : Bool) → AllAbove k (through_alternatives ty k fs rs) → AllAbove k (cond x (through_alternatives ty k fs rs) [])
    by true h = h
    by false h = tt

-- an Or: the block where its alternatives join, the alternatives, and their end
pub spends_or : {A : Type 0} {base : Origin} {image : List ℕ} {ls : List Lowering} {fs : List (PlaceTy → Bool)} {rs : List Reaching} {ds : List (PlaceTy → ℕ)} (ty : PlaceTy) (h : Head) →
    Each A base image ls fs rs ds →
    Spends A base image ty (or_pattern h.number ls) (all_alternatives ty fs) (most_of_alternatives ty fs ds) (λ k. an_or h k false ∷ through_alternatives ty k fs rs)
unfolding or_pattern total
spends_or {A = A} {base = base} {fs = fs} {rs = rs} ty h e =
    record {
      above = λ k. (le_refl _, above_alternatives ty k e);
      goes = λ pass k T F m c current els place at len f room.
          sound_step h.number (try_block c.state) _
          (spend_block c.state (λ w. once_more F els w + (total (spent pass k w) (through_alternatives ty k fs rs) + m w)) (joined pass k (owing (marked_in base.bindings pass (through_alternatives ty k fs rs)) T) F m c els room)) (λ st g.
          sound_next (alternatives h.number _ (mode_of pass) (with_state c st) (next_block c.state) current place) _
          (sound_alternatives h.number ty k T F m els pass (next_block c.state) place at e (with_state c st) current len g) (λ a g'.
          sound_as (λ r z. (z, g'.1)) (sound_left h.number F m els pass (next_block c.state) (all_alternatives ty fs) a f g'.0)));
    }
  where
    joined : (pass : Pass) (k : ℕ) (T : Goal) (F : Bool) (m : Table → ℕ) (c : Ctx) (els : OptBlock) →
        Has A base T c.state (λ w. once_more F els w + (total (spent pass k w) (an_or h k false ∷ through_alternatives ty k fs rs) + m w)) →
        Has A base T c.state (λ w. make 1 0 0 0 w + (once_more F els w + (total (spent pass k w) (through_alternatives ty k fs rs) + m w)))
    joined checks k T F m c els room = has_by room _ (omega arith) (omega arith) (omega arith) (omega arith)
    joined binds k T F m c els room = has_by room _ (omega arith) (omega arith) (omega arith) (omega arith)
