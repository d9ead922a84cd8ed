-- Or patterns add what is counted of them. Assumes nothing.
use Rattle.std.specs.Prelude.{Some, None}
use mathlib.Core.Path.{◌≡◌, refl, sym, ap, subst, ◌∙◌}
use mathlib.Core.Bool.{Bool, true, false, ◌&&◌, true≢false, false≢true}
use mathlib.Core.List.{List, [], ◌∷◌, ◌++◌, append-nil}
use Prim.Native.Nat.{ℕ, ◌+◌, ◌*◌}
use native.Mathlib.Nat.{le_refl, add-mul, one-mul}
use native.Mathlib.Omega.{arith}
use Rattle.image.specs.Tree.{Head}
use Rattle.place.specs.declared.Place.{Place}
use Rattle.place.specs.declared.place_ty.PlaceTy.{PlaceTy}
use Rattle.mir.specs.declared.BasicBlockId.{BasicBlockId}
use Rattle.mir.specs.declared.blocks.Terminator.{Terminator}
use Rattle.state.specs.State.{State}
use Rattle.state.specs.Steps.{next_block, try_block, set_terminator}
use Rattle.lower_spec.specs.Results.{OptBlock}
use Rattle.lower_spec.specs.Merging.{set_goto}
use Rattle.pattern_matching.specs.declared.MatchingMode.{MatchingMode}
use Rattle.pattern_matching.specs.Walking.{Ctx, Out, Walk, ok, Lowering, next, out, with_state, else_state, else_block, visited}
use Rattle.pattern_matching.specs.Patterns.{Alternatives, behind, alternative, alternatives, alternatives_end, or_pattern}
use Rattle.counting.specs.Reaching.{Reached, Reaching, an_or, all_alternatives, through_alternatives}
use Rattle.counting.specs.Counting.{total, else_made}
use Rattle.counting.specs.Demand3.{ElseIs}
use Rattle.counting.proofs.Holding.{Holds, holds, holds_next, holds_step, holds_as}
use Rattle.counting.proofs.Going.{What, block, statement, visit, went_on, went_as, Built, built_on, went_built}
use Rattle.counting.proofs.Building.{built_terminator, gives_block, gives_else}
use Rattle.counting.proofs.Stepping.{given, extra, steps_as, steps_plain, same_else, none_extra}
use Rattle.counting.proofs.Passing.{Pass, checks, binds, mode_of, tested, bound, flag, Small, After, no_flag, none_made, after_none, after_same, after_more, after_end, after_head}
use Rattle.counting.proofs.Typed.{On, on_unvisited}
use Rattle.counting.proofs.Testing.{plain_test}
use Rattle.counting.proofs.Arguments.{Counts, Each, none_left, one_more_lem, on_after}

-- an else where none was is left if the pattern can fail
left_if : (f : Bool) (els : OptBlock) (from to : ℕ) → ElseIs f None els from to → given els ≡ f
left_if true None from to h = absurd h
left_if true (Some b) from to h = refl
left_if false els from to h = ap given h

-- no else is made where nothing fails
no_else : (els : OptBlock) → else_made false els ≡ 0
no_else None = refl
no_else (Some e) = refl

module _ {c : Ctx} {fails : Bool} {k : ℕ} {rs : List Reached} {r : Out} (a : After checks c None fails k fails rs r) (then : BasicBlockId) (els : OptBlock) where
  -- what an alternative adds in Check, its own else among it
  check_tried : (k' : ℕ) → After checks c els false k' false rs (record { ctx = r.ctx; then = then; else = els })
  check_tried k' = record { steps = record { went = went_as same a.steps.went; else = same_else els _ _ }; small = a.small }
    where
      same : (w : What) → flag fails w + (total (tested w) rs + extra w false els) ≡ flag false w + (total (tested w) rs + extra w fails None)
      same block = let e = no_else els in omega (arith, e)
      same statement = refl
      same (visit n) = refl

  -- and in Bind, where it is tested first
  bind_tried : (k' : ℕ) (r' : Out) → After binds r.ctx None fails (k' + 1) fails rs r' →
      After binds c els false k' false rs (record { ctx = r'.ctx; then = then; else = els })
  bind_tried k' r' a' =
      record {
        steps = record { went = went_as same (went_on a.steps.went a'.steps.went); else = same_else els _ _ };
        small = a.small;
      }
    where
      its : (w : What) → extra w fails None ≡ flag fails w
      its block = refl
      its statement = refl
      its (visit n) = refl

      same : (w : What) → flag fails w + (k' + 1) * total (tested w) rs + (total (bound w) rs + extra w false els) ≡
          k' * total (tested w) rs + (total (tested w) rs + extra w fails None + (total (bound w) rs + extra w false None))
      same w =
          let e₁ = none_extra w els in
          let e₂ = none_extra w None in
          let e₃ = its w in
          let e₄ = add-mul k' 1 (total (tested w) rs) in
          let e₅ = one-mul (total (tested w) rs) in
          omega (arith, e₁, e₂, e₃, e₄, e₅)

-- what an alternative adds, and whether it leaves a block where it does not match
abbrev Tried : Pass → Ctx → BasicBlockId → OptBlock → ℕ → Bool → List Reached → Out → Type 0
Tried pass c then els k fails rs r = After pass c els false k false rs (record { ctx = r.ctx; then = then; else = els }) × (given r.else ≡ fails)

-- one alternative
holds_alternative : {image : List ℕ} {alt : Lowering} {fails : PlaceTy → Bool} {reach : Reaching} → Counts image alt fails reach → (pass : Pass) (c : Ctx) (current then : BasicBlockId) (els : OptBlock)
    (place : Place) (ty : PlaceTy) (k : ℕ) → On image c place ty → Holds (Tried pass c then els k (fails ty) (reach ty (k + 1) (fails ty))) (alternative alt (mode_of pass) c current place)
holds_alternative {alt = alt} {fails = fails} {reach = reach} h checks c current then els place ty k o =
    holds_next (alt MatchingMode.Check c current None place) (λ r. ok r) (h.goes checks c current None place ty (k + 1) (fails ty) o) (λ r a.
    holds (Tried checks c then els k (fails ty) (reach ty (k + 1) (fails ty))) r (check_tried a then els k, left_if (fails ty) r.else _ _ a.steps.else))
holds_alternative {alt = alt} {fails = fails} {reach = reach} h binds c current then els place ty k o =
    holds_next (alt MatchingMode.Check c current None place) again (h.goes checks c current None place ty (k + 1) (fails ty) o) (λ r a.
    holds_next (alt MatchingMode.Bind r.ctx r.then None place) (last r) (h.goes binds r.ctx r.then None place ty (k + 1) (fails ty) (on_after a o)) (λ r' a'.
    holds (Tried binds c then els k (fails ty) (reach ty (k + 1) (fails ty))) _ (bind_tried a then els k r' a', left_if (fails ty) r.else _ _ a.steps.else)))
  where
    last : Out → Out → Walk Out
    last r r' = out r'.ctx r'.then r.else

    again : Out → Walk Out
    again r = next (alt MatchingMode.Bind r.ctx r.then None place) (last r)

-- what alternatives add, and whether the last leaves a block where it does not match
abbrev Chosen : Pass → Ctx → BasicBlockId → OptBlock → ℕ → Bool → List Reached → Alternatives → Type 0
Chosen pass c join els k all rs a = After pass c els false k false rs (record { ctx = a.ctx; then = join; else = els }) × (given a.left ≡ all)

-- behind an alternative that cannot fail none is reached
through_last : (ty : PlaceTy) (k : ℕ) (fails : PlaceTy → Bool) (fs : List (PlaceTy → Bool)) (reach : Reaching) (rs : List Reaching) → fails ty ≡ false →
    reach ty (k + 1) (fails ty) ≡ through_alternatives ty k (fails ∷ fs) (reach ∷ rs)
unfolding through_alternatives
through_last ty k fails fs reach rs e = rw e (sym (append-nil (reach ty (k + 1) false)))

-- behind one that can fail the others are
through_next : (ty : PlaceTy) (k : ℕ) (fails : PlaceTy → Bool) (fs : List (PlaceTy → Bool)) (reach : Reaching) (rs : List Reaching) → fails ty ≡ true →
    reach ty (k + 1) (fails ty) ++ through_alternatives ty k fs rs ≡ through_alternatives ty k (fails ∷ fs) (reach ∷ rs)
unfolding through_alternatives
through_next ty k fails fs reach rs e = rw e

-- the walk ends behind an alternative that leaves no block
holds_last : (pass : Pass) (c c₁ : Ctx) (join : BasicBlockId) (els : OptBlock) (k : ℕ) (rs : List Reached) (left : OptBlock) (others : BasicBlockId → Walk Alternatives) → given left ≡ false →
    After pass c els false k false rs (record { ctx = c₁; then = join; else = els }) → Holds (Chosen pass c join els k false rs) (behind left c₁ others)
holds_last pass c c₁ join els k rs None others e a = holds (Chosen pass c join els k false rs) _ (a, refl)
holds_last pass c c₁ join els k rs (Some x) others e a = absurd (true≢false e)

-- and goes on behind one that leaves one
holds_others : (pass : Pass) (c c₁ : Ctx) (join : BasicBlockId) (els : OptBlock) (k : ℕ) (all : Bool) (rs rs' : List Reached) (left : OptBlock) (others : BasicBlockId → Walk Alternatives) →
    given left ≡ true → After pass c els false k false rs (record { ctx = c₁; then = join; else = els }) →
    ((current : BasicBlockId) → Holds (Chosen pass c₁ join els k all rs') (others current)) → Holds (Chosen pass c join els k all (rs ++ rs')) (behind left c₁ others)
holds_others pass c c₁ join els k all rs rs' None others e a then = absurd (false≢true e)
holds_others pass c c₁ join els k all rs rs' (Some x) others e a then = holds_as (λ r t. (after_more a t.0, t.1)) (then x)

-- alternatives, up to the first that cannot fail
holds_alternatives : {image : List ℕ} {ls : List Lowering} {fs : List (PlaceTy → Bool)} {rs : List Reaching} (p : ℕ) → Each image ls fs rs → (pass : Pass) (c : Ctx) (join current : BasicBlockId)
    (els : OptBlock) (place : Place) (ty : PlaceTy) (k : ℕ) → On image c place ty → Holds (Chosen pass c join els k (all_alternatives ty fs) (through_alternatives ty k fs rs)) (alternatives p ls (mode_of pass) c join current place)
unfolding alternatives all_alternatives through_alternatives
holds_alternatives p none_left pass c join current els place ty k o = holds (Chosen pass c join els k true []) _ (after_none pass c join els k, refl)
holds_alternatives {image = image} p (one_more_lem {l = l} {fails = fails} {reach = reach} {ls = ls} {fs = fs} {rs = rs} h e) pass c join current els place ty k o =
    by (fails ty) refl (λ c x o. holds_alternatives p e pass c join x els place ty k o)
  where
    first : List Reached
    first = reach ty (k + 1) (fails ty)

    others : List Reached
    others = through_alternatives ty k fs rs

    all : List Reached
    all = through_alternatives ty k (fails ∷ fs) (reach ∷ rs)

    goto : Out → Ctx
    goto r = with_state r.ctx (set_goto r.ctx.state r.then join)

    rest : Out → BasicBlockId → Walk Alternatives
    rest r x = alternatives p ls (mode_of pass) (goto r) join x place

    there : (r : Out) → Tried pass c join els k (fails ty) first r → After pass c els false k false first (record { ctx = goto r; then = join; else = els })
    there r t = after_end t.0 (after_same pass join els k (built_terminator r.ctx.state r.then (Terminator.Goto join)) refl)

    by : (x : Bool) → fails ty ≡ x →
        ((c : Ctx) (current : BasicBlockId) → On image c place ty → Holds (Chosen pass c join els k (all_alternatives ty fs) others) (alternatives p ls (mode_of pass) c join current place)) →
        Holds (Chosen pass c join els k (fails ty && all_alternatives ty fs) all) (next (alternative l (mode_of pass) c current place) (λ r. behind r.else (goto r) (rest r)))
    by false q below =
        let same = through_last ty k fails fs reach rs q in
        subst (λ (x : Bool). Holds (Chosen pass c join els k (x && all_alternatives ty fs) all) (next (alternative l (mode_of pass) c current place) (λ r. behind r.else (goto r) (rest r)))) (sym q)
        (subst (λ (x : List Reached). Holds (Chosen pass c join els k false x) (next (alternative l (mode_of pass) c current place) (λ r. behind r.else (goto r) (rest r)))) same
        (holds_next (alternative l (mode_of pass) c current place) (λ r. behind r.else (goto r) (rest r))
        (holds_alternative h pass c current join els place ty k o) (λ r t.
        holds_last pass c (goto r) join els k first r.else (rest r) (t.1 ∙ q) (there r t))))
    by true q below =
        let same = through_next ty k fails fs reach rs q in
        subst (λ (x : Bool). Holds (Chosen pass c join els k (x && all_alternatives ty fs) all) (next (alternative l (mode_of pass) c current place) (λ r. behind r.else (goto r) (rest r)))) (sym q)
        (subst (λ (x : List Reached). Holds (Chosen pass c join els k (all_alternatives ty fs) x) (next (alternative l (mode_of pass) c current place) (λ r. behind r.else (goto r) (rest r)))) same
        (holds_next (alternative l (mode_of pass) c current place) (λ r. behind r.else (goto r) (rest r))
        (holds_alternative h pass c current join els place ty k o) (λ r t.
        let a = there r t in
        holds_others pass c (goto r) join els k (all_alternatives ty fs) first others r.else (rest r) (t.1 ∙ q) a (λ x. below (goto r) x (on_after a o)))))

-- where the last alternative does not match, an else is taken in Check
holds_end : (p : ℕ) (pass : Pass) (c : Ctx) (left : OptBlock) (join : BasicBlockId) (els : OptBlock) (k : ℕ) →
    Holds (After pass c els (given left) k false []) (alternatives_end p (mode_of pass) (record { ctx = c; left = left }) join els)
unfolding alternatives_end total
holds_end p pass c None join els k = holds (After pass c els false k false []) _ (after_none pass c join els k)
holds_end p checks c (Some b) join els k =
    holds_step p (else_state c.state els) last (gives_else c.state els) (λ st g.
    let end = built_terminator st b (Terminator.Goto (else_block c.state els)) in
    holds (After checks c els true k false []) _
    (record {
      steps = steps_as (λ w. let e = none_made w in let n = no_flag w in omega (arith, e, n))
          (plain_test {t = 0} {s = 0} (set_goto st b (else_block c.state els)) join els c.state (built_on g end) (omega arith) (omega arith) (le_refl _) (omega (arith, g.blocks, end.blocks)));
      small = tt;
    }))
  where
    last : State → Walk Out
    last st = out (with_state c (set_goto st b (else_block c.state els))) join (Some (else_block c.state els))
holds_end p binds c (Some b) join els k =
    let a = after_same binds {c = c} {c' = with_state c (set_terminator c.state b Terminator.Unreachable)} join els k (built_terminator c.state b Terminator.Unreachable) refl in
    holds (After binds c els true k false []) _ (record { steps = a.steps; small = a.small })

-- an Or: the block where its alternatives join, the alternatives, and their end
pub holds_or : {image : List ℕ} {ls : List Lowering} {fs : List (PlaceTy → Bool)} {rs : List Reaching} → Each image ls fs rs → (h : Head) (pass : Pass) (c : Ctx) (current : BasicBlockId) (els : OptBlock)
    (place : Place) (ty : PlaceTy) (k : ℕ) (f : Bool) → On image (visited c h.number) place ty → Holds (After pass c els (all_alternatives ty fs) k f (an_or h k f ∷ through_alternatives ty k fs rs)) (or_pattern h.number ls (mode_of pass) (visited c h.number) current els place)
unfolding or_pattern
holds_or {image = image} {ls = ls} {fs = fs} {rs = rs} e h pass c current els place ty k f o =
    holds_step p (try_block v.state) k₁ (gives_block v.state) (λ st g.
    let a = visit st g pass in
    holds_next (alternatives p ls (mode_of pass) (with_state v st) join current place) k₂
    (holds_alternatives p e pass (with_state v st) join current els place ty k (on_after a (on_unvisited p o))) (λ r t.
    holds_as (λ r' a'. subst (λ (x : Bool). After pass c els x k f (an_or h k f ∷ through_alternatives ty k fs rs) r') t.1 (after_end (after_more a t.0) a'))
    (holds_end p pass r.ctx r.left join els k)))
  where
    p : ℕ
    p = h.number

    v : Ctx
    v = visited c h.number

    join : BasicBlockId
    join = next_block (visited c h.number).state

    k₂ : Alternatives → Walk Out
    k₂ r = alternatives_end h.number (mode_of pass) r (next_block (visited c h.number).state) els

    k₁ : State → Walk Out
    k₁ st = next (alternatives h.number ls (mode_of pass) (with_state (visited c h.number) st) (next_block (visited c h.number).state) current place) k₂

    small : Small (an_or h k f)
    small = record { tests = omega arith; test_statements = omega arith }

    visit : (st : State) → Built (visited c h.number).state st 1 0 → (pass : Pass) → After pass c els false k f (an_or h k f ∷ []) (record { ctx = with_state (visited c h.number) st; then = join; else = els })
    visit st g checks = after_head checks (an_or h k f) small (steps_plain join els (went_built g refl))
    visit st g binds = after_head binds (an_or h k f) small (steps_plain join els (went_built g refl))
