-- What a pass over reached patterns takes of the room, and lowerings that take exactly that. Assumes nothing.
use mathlib.Core.Path.{◌≡◌, refl, sym, ap, subst, ◌∙◌}
use mathlib.Core.Bool.{Bool, true, false, ◌||◌}
use mathlib.Core.Option.{Option, none, some}
use mathlib.Core.List.{List, [], ◌∷◌, ◌++◌, append_assoc}
use Prim.Native.Nat.{ℕ, zero, suc, ◌+◌, ◌-◌, ◌*◌, ◌≤◌, max}
use native.Mathlib.Nat.{le_of_eq, le-max_left, le-max_right, max-le, sub_self, zero-mul}
use native.Mathlib.Omega.{arith}
use lib.ListN.{get_or}
use Rattle.image.specs.Tree.{Head}
use Rattle.place.specs.declared.Place.{Place}
use Rattle.place.specs.declared.elems.ProjectionElem.{ProjectionElem}
use Rattle.place.specs.declared.place_ty.PlaceTy.{PlaceTy}
use Rattle.place.specs.Elems.{Fits}
use Rattle.place.specs.Places.{onward}
use Rattle.place.specs.PlaceTypes.{projection_ty}
use Rattle.refusals.specs.declared.MirLowerError.{MirLowerError}
use Rattle.mir.specs.declared.BasicBlockId.{BasicBlockId}
use Rattle.state.specs.State.{State}
use Rattle.lower_spec.specs.Results.{OptBlock}
use Rattle.pattern_matching.specs.Walking.{Ctx, Out, Walk, refused, Lowering, next, step, out, project, visited, derefed, entered, in_check}
use Rattle.counting.specs.Reaching.{Reached, behind_derefs, testing, naming}
use Rattle.counting.specs.Counting.{one, total, bind_statements}
use Rattle.counting.proofs.Passing.{Pass, checks, binds, mode_of, in_checks, total_append}
use Rattle.counting.proofs.Typed.{On, on_project}
use Rattle.room.specs.Room.{temporaries}
use Rattle.room.proofs.Telling.{Origin, Tells, Sound, Sure, sound_ok, sound_refused, sure_and, sound_next, sound_step, sound_as}
use Rattle.room.proofs.Recording.{or_first, or_second, Alike, alike_is}
use Rattle.room.proofs.Building.{Table, block, statement, local, entry, Goal, owing, Has, has_as, has_alike, within_room, once_more}

-- what a visit in Check takes
abbrev pub tested : Table → Reached → ℕ
tested block r = r.tests + one r.failing_alternative + one r.is_or
tested statement r = r.test_statements
tested local r = temporaries r
tested entry r = temporaries r

-- what a visit in Bind takes by itself
abbrev pub own : Table → Reached → ℕ
own block r = one r.is_or
own statement r = bind_statements r.bound
own local r = 0
own entry r = 0

-- what a pass takes that starts under k Ors: in Bind a pattern is tested once more for each Or between
abbrev pub spent : Pass → ℕ → Table → Reached → ℕ
spent checks k w r = tested w r
spent binds k w r = (r.ors - k) * tested w r + own w r

-- the local that a pass marks live for a binding, if there is one ..
abbrev pub marked_by : List ℕ → Pass → Option ℕ → List ℕ
marked_by bindings pass none = []
marked_by bindings checks (some b) = []
marked_by bindings binds (some b) = get_or bindings b 65535 ∷ []

-- .. and those for the bindings of patterns
abbrev pub marked_in : List ℕ → Pass → List Reached → List ℕ
marked_in bindings pass [] = []
marked_in bindings pass (r ∷ rs) = marked_by bindings pass r.bound ++ marked_in bindings pass rs

-- for those of two lists
pub marked_append : (bindings : List ℕ) (pass : Pass) (xs ys : List Reached) → marked_in bindings pass (xs ++ ys) ≡ marked_in bindings pass xs ++ marked_in bindings pass ys
marked_append bindings pass [] ys = refl
marked_append bindings pass (x ∷ xs) ys =
    ap (λ (l : List ℕ). marked_by bindings pass x.bound ++ l) (marked_append bindings pass xs ys) ∙ sym (append_assoc (marked_by bindings pass x.bound) (marked_in bindings pass xs) (marked_in bindings pass ys))

-- and others behind them
pub marked_both : (bindings : List ℕ) (pass : Pass) (xs ys : List Reached) (ls : List ℕ) →
    marked_in bindings pass (xs ++ ys) ++ ls ≡ marked_in bindings pass xs ++ (marked_in bindings pass ys ++ ls)
marked_both bindings pass xs ys ls =
    ap (λ (l : List ℕ). l ++ ls) (marked_append bindings pass xs ys) ∙ append_assoc (marked_in bindings pass xs) (marked_in bindings pass ys) ls

-- Check marks none
pub marked_checks : (bindings : List ℕ) (rs : List Reached) → marked_in bindings checks rs ≡ []
marked_checks bindings [] = refl
marked_checks bindings (r ∷ rs) = by r.bound (marked_checks bindings rs)
  where
    by : (o : Option ℕ) → marked_in bindings checks rs ≡ [] → marked_by bindings checks o ++ marked_in bindings checks rs ≡ []
    by none e = e
    by (some b) e = e

-- no Or lies between
pub no_or : (k x : ℕ) → (k - k) * x ≡ 0
no_or k x = ap (λ (n : ℕ). n * x) (sub_self k) ∙ zero-mul x

-- a pattern under k Ors takes in Bind what its own visit takes
pub spent_own : (k : ℕ) (w : Table) (x : Reached) → x.ors ≡ k → spent binds k w x ≡ own w x
spent_own k w x e =
    let a : (x.ors - k) * tested w x ≡ (k - k) * tested w x = ap (λ (n : ℕ). (n - k) * tested w x) e in
    let b = no_or k (tested w x) in
    omega (arith, a, b)

-- a pattern that takes nothing in Bind
pub record Idle (x : ℕ → Reached) : Type 0 where
  pub ors : (k : ℕ) → (x k).ors ≡ k
  pub idle : (k : ℕ) (w : Table) → own w (x k) ≡ 0
  pub unbound : (k : ℕ) → (x k).bound ≡ none

-- nor in Check
pub record Free (x : ℕ → Reached) : Type 0 where
  pub own : Idle x
  pub free : (k : ℕ) (w : Table) → tested w (x k) ≡ 0

-- a pattern that tests
pub idle_testing : (h : Head) (tests statements : ℕ) → Idle (λ k. testing h k false tests statements)
idle_testing h tests statements = record { ors = λ k. refl; idle = by; unbound = λ k. refl }
  where
    by : (k : ℕ) (w : Table) → own w (testing h k false tests statements) ≡ 0
    by k block = refl
    by k statement = refl
    by k local = refl
    by k entry = refl

-- one that names a variant
pub idle_naming : (h : Head) (enum : Bool) → Idle (λ k. naming h k false enum)
idle_naming h enum = record { ors = λ k. refl; idle = by; unbound = λ k. refl }
  where
    by : (k : ℕ) (w : Table) → own w (naming h k false enum) ≡ 0
    by k block = refl
    by k statement = refl
    by k local = refl
    by k entry = refl

-- one that tests nothing
pub free_testing : (h : Head) → Free (λ k. testing h k false 0 0)
free_testing h = record { own = idle_testing h 0 0; free = by }
  where
    by : (k : ℕ) (w : Table) → tested w (testing h k false 0 0) ≡ 0
    by k block = refl
    by k statement = refl
    by k local = refl
    by k entry = refl

-- and a variant of no enum
pub free_naming : (h : Head) → Free (λ k. naming h k false false)
free_naming h = record { own = idle_naming h false; free = by }
  where
    by : (k : ℕ) (w : Table) → tested w (naming h k false false) ≡ 0
    by k block = refl
    by k statement = refl
    by k local = refl
    by k entry = refl

-- in no pass
pub spent_free : (x : ℕ → Reached) → Free x → (pass : Pass) (k : ℕ) (w : Table) → spent pass k w (x k) ≡ 0
spent_free x f checks k w = f.free k w
spent_free x f binds k w = spent_own k w (x k) (f.own.ors k) ∙ f.own.idle k w

-- k Ors are above each
abbrev pub AllAbove : ℕ → List Reached → Type 0
AllAbove k [] = Unit {0}
AllAbove k (r ∷ rs) = (k ≤ r.ors) × AllAbove k rs

-- above the patterns of two lists
pub above_append : (k : ℕ) (xs ys : List Reached) → AllAbove k xs → AllAbove k ys → AllAbove k (xs ++ ys)
above_append k [] ys h h' = h'
above_append k (x ∷ xs) ys h h' = (h.0, above_append k xs ys h.1 h')

-- what can fail in Check can, if what follows from it can
pub in_checks_lem : (pass : Pass) (a b : Bool) → (a ≡ true → b ≡ true) → in_checks pass a ≡ true → in_checks pass b ≡ true
in_checks_lem checks a b f e = f e
in_checks_lem binds a b f e = e

-- a context from which there is room for so much more, and for an else
abbrev pub Fares : Type 0 → Origin → Goal → Bool → (Table → ℕ) → Ctx → OptBlock → Type 0
Fares A base T F m c els = Has A base T c.state (λ w. once_more F els w + m w)

-- so it is where a walk leads
abbrev pub Leaves : Type 0 → Origin → Goal → Bool → (Table → ℕ) → Out → Type 0
Leaves A base T F m r = Has A base T r.ctx.state (λ w. once_more F r.else w + m w)

-- a place of the type ty, as there are places in the body that a walk starts from
pub record At (image : List ℕ) (base : Origin) (place : Place) (ty : PlaceTy) : Type 0 where
  pub on : On image base.ctx place ty
  pub short : place.len ≤ 16

-- a pass in Bind has come to places with so many elements more
abbrev pub Reaches : Pass → Place → ℕ → Type 0
Reaches checks place deep = Unit {0}
Reaches binds place deep = place.len + deep ≤ 16

-- with none more
pub reach_none : (pass : Pass) (place : Place) → place.len ≤ 16 → Reaches pass place 0
reach_none checks place h = tt
reach_none binds place h = omega (arith, h)

-- the greater of two
pub reach_max : (pass : Pass) (place : Place) (a b : ℕ) → Reaches pass place a → Reaches pass place b → Reaches pass place (max a b)
reach_max checks place a b h k = tt
reach_max binds place a b h k =
    let x : a ≤ 16 - place.len = omega (arith, h) in
    let y : b ≤ 16 - place.len = omega (arith, k) in
    let z = max-le x y in
    omega (arith, h, z)

-- from a place with n elements more
pub reach_back : (pass : Pass) (place place' : Place) (n deep : ℕ) → place'.len ≡ place.len + n → Reaches pass place' deep → Reaches pass place (n + deep)
reach_back checks place place' n deep e h = tt
reach_back binds place place' n deep e h = omega (arith, e, h)

-- where a walk ends: the room that is left, and the elements that were appended
abbrev pub Ends : Type 0 → Origin → Goal → Bool → (Table → ℕ) → Pass → Place → ℕ → Out → Type 0
Ends A base T F m pass place deep r = Leaves A base T F m r × Reaches pass place deep

-- locals that are marked live later, said otherwise
pub has_later : {A : Type 0} {base : Origin} {st : State} {need : Table → ℕ} (T : Goal) (ls ls' : List ℕ) → ls ≡ ls' → Has A base (record { sums = T.sums; later = ls }) st need →
    Has A base (record { sums = T.sums; later = ls' }) st need
has_later {A = A} {base = base} {st = st} {need = need} T ls ls' same h = subst (λ (l : List ℕ). Has A base (record { sums = T.sums; later = l }) st need) same h

-- those of one list, and then those of another
pub has_both : {A : Type 0} {base : Origin} {st : State} {need : Table → ℕ} (T : Goal) (pass : Pass) (xs ys : List Reached) →
    Has A base (owing (marked_in base.bindings pass (xs ++ ys)) T) st need →
    Has A base (owing (marked_in base.bindings pass xs) (owing (marked_in base.bindings pass ys) T)) st need
has_both {base = base} T pass xs ys h = has_later T _ _ (marked_both base.bindings pass xs ys T.later) h

-- in Check there are none
pub has_checks : {A : Type 0} {base : Origin} {st : State} {need : Table → ℕ} (T : Goal) (rs : List Reached) → Has A base T st need → Has A base (owing (marked_in base.bindings checks rs) T) st need
has_checks {base = base} T rs h = has_later T _ _ (ap (λ (l : List ℕ). l ++ T.later) (sym (marked_checks base.bindings rs))) h

-- On a place of the type ty a lowering takes what the patterns rs take, an else if it can fail, and at most `deep` elements more; in Bind it comes to as many.
pub record Spends (A : Type 0) (base : Origin) (image : List ℕ) (ty : PlaceTy) (l : Lowering) (fails : Bool) (deep : ℕ) (rs : ℕ → List Reached) : Type 0 where
  pub above : (k : ℕ) → AllAbove k (rs k)
  pub goes : (pass : Pass) (k : ℕ) (T : Goal) (F : Bool) (m : Table → ℕ) (c : Ctx) (current : BasicBlockId) (els : OptBlock) (place : Place) → At image base place ty → (A → place.len + deep ≤ 16) →
      (in_checks pass fails ≡ true → F ≡ true) → Fares A base (owing (marked_in base.bindings pass (rs k)) T) F (λ w. total (spent pass k w) (rs k) + m w) c els →
      Sound A base (Ends A base T F m pass place deep) (l (mode_of pass) c current els place)

-- nothing is done
pub spends_none : {A : Type 0} {base : Origin} (image : List ℕ) (ty : PlaceTy) → Spends A base image ty (λ mode c current els place. out c current els) false 0 (λ k. [])
unfolding total
spends_none {A = A} {base = base} image ty =
    record {
      above = λ k. tt;
      goes = λ pass k T F m c current els place at len f h. sound_ok (Ends A base T F m pass place 0) _ (has_as _ (λ w. omega arith) h, reach_none pass place at.short);
    }

-- the same of other patterns that take as much
pub spends_within : {A : Type 0} {base : Origin} {image : List ℕ} {ty : PlaceTy} {l : Lowering} {fails fails' : Bool} {deep deep' : ℕ} {rs rs' : ℕ → List Reached} → (fails ≡ true → fails' ≡ true) → deep ≡ deep' →
    ((k : ℕ) → AllAbove k (rs' k)) →
    ((pass : Pass) (k : ℕ) (w : Table) → total (spent pass k w) (rs k) ≡ total (spent pass k w) (rs' k)) →
    ((pass : Pass) (k : ℕ) (ls : List ℕ) → Alike (marked_in base.bindings pass (rs' k) ++ ls) (marked_in base.bindings pass (rs k) ++ ls)) → Spends A base image ty l fails deep rs → Spends A base image ty l fails' deep' rs'
spends_within {base = base} {fails = fails} {fails' = fails'} {rs = rs} {rs' = rs'} more same over takes marks g =
    record {
      above = over;
      goes = λ pass k T F m c current els place at len f h.
          sound_as (λ r q. (q.0, subst (λ (n : ℕ). Reaches pass place n) same q.1))
          (g.goes pass k T F m c current els place at (λ a. let x = len a in omega (arith, x, same)) (λ t. f (in_checks_lem pass fails fails' more t))
          (has_as _ (λ w. let x = takes pass k w in omega (arith, x)) (has_alike T (marked_in base.bindings pass (rs' k)) (marked_in base.bindings pass (rs k)) (marks pass k T.later) h)));
    }

-- the same, said otherwise
pub spends_as : {A : Type 0} {base : Origin} {image : List ℕ} {ty : PlaceTy} {l : Lowering} {fails fails' : Bool} {deep deep' : ℕ} {rs rs' : ℕ → List Reached} → fails ≡ fails' → deep ≡ deep' →
    ((k : ℕ) → rs k ≡ rs' k) → Spends A base image ty l fails deep rs → Spends A base image ty l fails' deep' rs'
spends_as {base = base} same deeps is g =
    spends_within (λ t. sym same ∙ t) deeps (λ k. subst (AllAbove k) (is k) (g.above k)) (λ pass k w. ap (total (spent pass k w)) (is k))
    (λ pass k ls. alike_is (ap (λ (rs : List Reached). marked_in base.bindings pass rs ++ ls) (sym (is k)))) g

-- a pattern that itself takes nothing, and those below it
pub spends_under : {A : Type 0} {base : Origin} {image : List ℕ} {ty : PlaceTy} {l : Lowering} {fails : Bool} {deep : ℕ} {rs : ℕ → List Reached} (x : ℕ → Reached) → Free x →
    Spends A base image ty l fails deep rs → Spends A base image ty l fails deep (λ k. x k ∷ rs k)
unfolding total
spends_under {base = base} {rs = rs} x free g =
    spends_within (λ t. t) refl (λ k. (le_of_eq (sym (free.own.ors k)), g.above k))
    (λ pass k w. let a = spent_free x free pass k w in omega (arith, a))
    (λ pass k ls. alike_is (ap (λ (o : Option ℕ). (marked_by base.bindings pass o ++ marked_in base.bindings pass (rs k)) ++ ls) (free.own.unbound k))) g

-- what is refused, and not for a limit
pub spends_refused : {A : Type 0} {base : Origin} {image : List ℕ} {ty : PlaceTy} {fails : Bool} {deep : ℕ} {rs : ℕ → List Reached} (e : MirLowerError) (p : ℕ) → Tells A base e →
    ((k : ℕ) → AllAbove k (rs k)) → Spends A base image ty (λ mode c current els place. refused e p) fails deep rs
spends_refused {A = A} {base = base} e p t above =
    record { above = above; goes = λ pass k T F m c current els place at len f h. sound_refused (Ends A base T F m pass place _) e p t }

-- two lowerings, one after the other on the same place
pub spends_both : {A : Type 0} {base : Origin} {image : List ℕ} {ty : PlaceTy} {fails fails' : Bool} {deep deep' : ℕ} {rs rs' : ℕ → List Reached} (l l' : Lowering) →
    Spends A base image ty l fails deep rs → Spends A base image ty l' fails' deep' rs' →
    Spends A base image ty (λ mode c current els place. next (l mode c current els place) (λ r. l' mode r.ctx r.then r.else place)) (fails || fails') (max deep deep') (λ k. rs k ++ rs' k)
spends_both {base = base} {fails = fails} {fails' = fails'} {deep = deep} {deep' = deep'} {rs = rs} {rs' = rs'} l l' g g' =
    record {
      above = λ k. above_append k (rs k) (rs' k) (g.above k) (g'.above k);
      goes = λ pass k T F m c current els place at len f h.
          sound_next (l (mode_of pass) c current els place) (λ r. l' (mode_of pass) r.ctx r.then r.else place)
          (g.goes pass k (owing (marked_in base.bindings pass (rs' k)) T) F (λ w. total (spent pass k w) (rs' k) + m w) c current els place at (λ a. let x = len a in let y = le-max_left deep deep' in omega (arith, x, y))
          (λ t. f (in_checks_lem pass fails (fails || fails') (or_first fails fails') t))
          (has_as _ (λ w. let x = total_append (spent pass k w) (rs k) (rs' k) in omega (arith, x)) (has_both T pass (rs k) (rs' k) h)))
          (λ r h'.
          sound_as (λ r' q. (q.0, reach_max pass place deep deep' h'.1 q.1))
          (g'.goes pass k T F m r.ctx r.then r.else place at (λ a. let x = len a in let y = le-max_right deep deep' in omega (arith, x, y))
          (λ t. f (in_checks_lem pass fails' (fails || fails') (or_second fails fails') t)) h'.0));
    }

-- what only a walk in Check does
pub spends_test : {A : Type 0} {base : Origin} {image : List ℕ} {ty : PlaceTy} (fails : Bool) (x : ℕ → Reached) (test : Ctx → BasicBlockId → OptBlock → Place → Walk Out) → Idle x →
    ((k : ℕ) (T : Goal) (F : Bool) (m : Table → ℕ) (c : Ctx) (current : BasicBlockId) (els : OptBlock) (place : Place) → (fails ≡ true → F ≡ true) → Fares A base T F (λ w. total (spent checks k w) (x k ∷ []) + m w) c els → Sound A base (Leaves A base T F m) (test c current els place)) →
    Spends A base image ty (λ mode c current els place. in_check mode (test c current els place) (out c current els)) fails 0 (λ k. x k ∷ [])
unfolding total
spends_test {A = A} {base = base} {image = image} {ty = ty} fails x test idle sound = record { above = λ k. (le_of_eq (sym (idle.ors k)), tt); goes = by }
  where
    none_marked : {st : State} {need : Table → ℕ} (pass : Pass) (k : ℕ) (T : Goal) → Has A base (owing (marked_in base.bindings pass (x k ∷ [])) T) st need → Has A base T st need
    none_marked {st = st} {need = need} pass k T h =
        subst (λ (o : Option ℕ). Has A base (owing (marked_by base.bindings pass o ++ []) T) st need) (idle.unbound k) h

    by : (pass : Pass) (k : ℕ) (T : Goal) (F : Bool) (m : Table → ℕ) (c : Ctx) (current : BasicBlockId) (els : OptBlock) (place : Place) → At image base place ty → (A → place.len + 0 ≤ 16) →
        (in_checks pass fails ≡ true → F ≡ true) → Fares A base (owing (marked_in base.bindings pass (x k ∷ [])) T) F (λ w. total (spent pass k w) (x k ∷ []) + m w) c els →
        Sound A base (Ends A base T F m pass place 0) (in_check (mode_of pass) (test c current els place) (out c current els))
    by checks k T F m c current els place at len f h = sound_as (λ r q. (q, tt)) (sound k T F m c current els place f (none_marked checks k T h))
    by binds k T F m c current els place at len f h =
        sound_ok (Ends A base T F m binds place 0) _
        (has_as _ (λ w. let a = spent_own k w (x k) (idle.ors k) in let b = idle.idle k w in omega (arith, a, b)) (none_marked binds k T h), reach_none binds place at.short)

-- a place one element on, with room for n more
pub record Onward (A : Type 0) (place place' : Place) (n : ℕ) : Type 0 where
  pub room : A → place'.len + n ≤ 16
  pub longer : place'.len ≡ place.len + 1
  pub short : place'.len ≤ 16

-- one element more, where the place has room
pub sure_project : {A : Type 0} {base : Origin} (place : Place) (elem : ProjectionElem) (n : ℕ) → (A → place.len + (1 + n) ≤ 16) → Sure A base (λ place'. Onward A place place' n) (project place elem)
unfolding project
sure_project {A = A} place elem n room =
    within_room (λ place'. Onward A place place' n) place.len 16 (onward place elem) (λ a. let x = room a in omega (arith, x))
    (λ less. record { room = λ a. let x = room a in omega (arith, x); longer = refl; short = omega (arith, less) })

-- and of what type it is
pub sure_on : {A : Type 0} {base : Origin} {image : List ℕ} {place : Place} {ty : PlaceTy} (elem : ProjectionElem) (n : ℕ) → Fits elem → At image base place ty → (A → place.len + (1 + n) ≤ 16) →
    Sure A base (λ place'. Onward A place place' n × On image base.ctx place' (projection_ty ty image elem)) (project place elem)
sure_on {place = place} elem n f at room = sure_and (sure_project place elem n room) (on_project elem f at.on)

-- a place one element on
pub at_onward : {A : Type 0} {image : List ℕ} {base : Origin} {place place' : Place} {ty : PlaceTy} {n : ℕ} → Onward A place place' n × On image base.ctx place' ty → At image base place' ty
at_onward q = record { on = q.1; short = q.0.short }

-- behind the derefs of a pattern
sound_derefed : {A : Type 0} {base : Origin} {image : List ℕ} {Q : Out → Type 0} (p : ℕ) (place : Place) (ty : PlaceTy) (k : Place → Walk Out) (n deep : ℕ) → At image base place ty →
    (A → place.len + (n + deep) ≤ 16) →
    ((place' : Place) → At image base place' (behind_derefs image ty n) → (A → place'.len + deep ≤ 16) → place'.len ≡ place.len + n → Sound A base Q (k place')) →
    Sound A base Q (derefed p place k n)
unfolding derefed behind_derefs
sound_derefed p place ty k zero deep at room then = then place at (λ a. let x = room a in omega (arith, x)) (omega arith)
sound_derefed {image = image} p place ty k (suc n) deep at room then =
    sound_step p (project place ProjectionElem.Deref) (λ place'. derefed p place' k n)
    (sure_on ProjectionElem.Deref (n + deep) tt at (λ a. let x = room a in omega (arith, x)))
    (λ place' h. sound_derefed p place' (projection_ty ty image ProjectionElem.Deref) k n deep (at_onward h) h.0.room (λ place'' at'' room'' e.
    let l = h.0.longer in then place'' at'' room'' (omega (arith, e, l))))

-- a pattern is entered
pub spends_entered : {A : Type 0} {base : Origin} {image : List ℕ} {ty : PlaceTy} {l : Lowering} {fails : Bool} {deep : ℕ} {rs : ℕ → List Reached} (p derefs : ℕ) →
    Spends A base image (behind_derefs image ty derefs) l fails deep rs → Spends A base image ty (entered p derefs l) fails (derefs + deep) rs
unfolding entered visited
spends_entered {ty = ty} {l = l} {deep = deep} p derefs g =
    record {
      above = g.above;
      goes = λ pass k T F m c current els place at len f h.
          sound_derefed p place ty (l (mode_of pass) (visited c p) current els) derefs deep at len (λ place' at' room longer.
          sound_as (λ r q. (q.0, reach_back pass place place' derefs deep longer q.1)) (g.goes pass k T F m (visited c p) current els place' at' room f h));
    }

-- one element on
pub spends_behind : {A : Type 0} {base : Origin} {image : List ℕ} {ty : PlaceTy} {l : Lowering} {fails : Bool} {deep : ℕ} {rs : ℕ → List Reached} (p : ℕ) (elem : ProjectionElem) → Fits elem →
    Spends A base image (projection_ty ty image elem) l fails deep rs →
    Spends A base image ty (λ mode c current els place. step p (project place elem) (λ place'. l mode c current els place')) fails (1 + deep) rs
spends_behind {l = l} {deep = deep} p elem fit g =
    record {
      above = g.above;
      goes = λ pass k T F m c current els place at len f h.
          sound_step p (project place elem) (λ place'. l (mode_of pass) c current els place') (sure_on elem deep fit at len) (λ place' q.
          sound_as (λ r z. (z.0, reach_back pass place place' 1 deep q.0.longer z.1)) (g.goes pass k T F m c current els place' (at_onward q) q.0.room f h));
    }
