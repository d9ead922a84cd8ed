-- With room by document 01's counts, and a scope open, the lowering of a pattern that fits is accepted; and without room none is. Assumes nothing.
use mathlib.Core.Path.{◌≡◌, refl, sym, ap, subst, ◌∙◌}
use mathlib.Core.Bool.{Bool, true, false, ◌||◌, false≢true}
use mathlib.Core.Option.{Option, none, some}
use mathlib.Core.Logic.{◌⊎◌, ⊎_elim}
use mathlib.Core.List.{List, [], ◌∷◌, ◌++◌, append-nil}
use Prim.Native.Nat.{ℕ, ◌+◌, ◌-◌, ◌*◌, ◌≤◌, ◌<◌}
use native.Mathlib.Nat.{add-mul, mul-add, one-mul, sub-zero}
use native.Mathlib.Omega.{arith}
use borrow.Author.Tests.{ne_eqb}
use lib.ListN.{length, get_or}
use Rattle.image.specs.Lists.{member}
use Rattle.image.specs.Tables.{type_count}
use Rattle.image.specs.Valid.{valid}
use Rattle.image.specs.Tree.{Pat}
use Rattle.refusals.specs.declared.MirLowerError.{MirLowerError}
use Rattle.refusals.specs.Refusals.{number_of}
use Rattle.place.specs.declared.Place.{Place}
use Rattle.place.specs.declared.place_ty.PlaceTy.{PlaceTy}
use Rattle.mir.specs.declared.BasicBlockId.{BasicBlockId}
use Rattle.state.specs.State.{State}
use Rattle.lower_spec.specs.Results.{OptBlock}
use Rattle.lower_spec.specs.Recorded.{recorded}
use Rattle.pattern_matching.specs.declared.MatchingMode.{MatchingMode}
use Rattle.pattern_matching.specs.Walking.{Ctx, Out, Walk, ok, refused}
use Rattle.pattern_matching.specs.Variants.{place_ty}
use Rattle.pattern_matching.specs.Patterns.{pattern_match_inner, pattern_match}
use Rattle.counting.specs.Reaching.{can_fail, Reached}
use Rattle.counting.specs.Counting.{one, total, reached_from, blocks_of, bind_statements, statements_of, new_blocks, new_statements}
use Rattle.counting.proofs.Passing.{checks, binds}
use Rattle.counting.proofs.Tallies.{le_or_lt}
use Rattle.meaning.specs.Fit.{fits}
use Rattle.fitted.proofs.Building.{kept_same}
use Rattle.fitted.proofs.Refusing.{fit_refused}
use Rattle.room.specs.Elements.{elements}
use Rattle.room.specs.Room.{temporaries, locals_of, local_of, bound_locals, new_locals, needed_entries, longest_place, Room, Passed, ScopeOpen, LocalsBelow, Made}
use Rattle.room.specs.Room.{too_many_blocks, too_many_statements, too_many_locals, too_many_entries, too_many_elements}
use Rattle.room.proofs.Telling.{Origin, Tells, Sound, sound_next}
use Rattle.room.proofs.Building.{Table, block, statement, local, entry, amount, limit, Goal, owing, NoneNew, once_more}
use Rattle.room.proofs.Spending.{spent, marked_by, marked_in, marked_checks, At, Ends}
use Rattle.room.proofs.Trees.{spends_pattern}

-- a sum of sums
total_both : (g g₁ g₂ : Reached → ℕ) → ((r : Reached) → g r ≡ g₁ r + g₂ r) → (rs : List Reached) → total g rs ≡ total g₁ rs + total g₂ rs
unfolding total
total_both g g₁ g₂ e [] = refl
total_both g g₁ g₂ e (r ∷ rs) = let a = e r in let b = total_both g g₁ g₂ e rs in omega (arith, a, b)

-- what both passes take is what is counted
abbrev counted : Table → Reached → ℕ
counted block = blocks_of
counted statement = statements_of
counted local = locals_of
counted entry = locals_of

both_passes : (w : Table) (rs : List Reached) → total (counted w) rs ≡ total (spent checks 0 w) rs + total (spent binds 0 w) rs
both_passes w = total_both (counted w) (spent checks 0 w) (spent binds 0 w) (λ r. by w r)
  where
    once : (n t s : ℕ) → (n + 1) * t + s ≡ t + ((n - 0) * t + s)
    once n t s = let a = add-mul n 1 t in let b = one-mul t in let c : (n - 0) * t ≡ n * t = ap (λ (x : ℕ). x * t) (sub-zero n) in omega (arith, a, b, c)

    each : (n : ℕ) (b : Bool) (t : ℕ) → (n + 1) * t + one b * (n + 1 + 1) ≡ t + one b + ((n - 0) * (t + one b) + one b)
    each n true t =
        let a = add-mul n 1 t in let b = mul-add n t 1 in let c = one-mul t in let d : (n - 0) * (t + 1) ≡ n * (t + 1) = ap (λ (x : ℕ). x * (t + 1)) (sub-zero n) in omega (arith, a, b, c, d)
    each n false t =
        let a = add-mul n 1 t in let b = mul-add n t 0 in let c = one-mul t in let d : (n - 0) * (t + 0) ≡ n * (t + 0) = ap (λ (x : ℕ). x * (t + 0)) (sub-zero n) in omega (arith, a, b, c, d)

    by : (w : Table) (r : Reached) → counted w r ≡ spent checks 0 w r + spent binds 0 w r
    by block r = each r.ors r.is_or (r.tests + one r.failing_alternative)
    by statement r = once r.ors r.test_statements (bind_statements r.bound)
    by local r = let a = once r.ors (temporaries r) 0 in omega (arith, a)
    by entry r = let a = once r.ors (temporaries r) 0 in omega (arith, a)

-- the locals that are marked live in both passes are those of the bindings
marked_locals : (bindings : List ℕ) (rs : List Reached) → marked_in bindings checks rs ++ (marked_in bindings binds rs ++ []) ≡ bound_locals bindings rs
unfolding bound_locals
marked_locals bindings rs = ap (λ (l : List ℕ). l ++ (marked_in bindings binds rs ++ [])) (marked_checks bindings rs) ∙ append-nil (marked_in bindings binds rs) ∙ in_bind rs
  where
    same : (o : Option ℕ) → marked_by bindings binds o ≡ local_of bindings o
    same none = refl
    same (some b) = refl

    in_bind : (rs : List Reached) → marked_in bindings binds rs ≡ bound_locals bindings rs
    in_bind [] = refl
    in_bind (r ∷ rs) = ap (λ (l : List ℕ). l ++ marked_in bindings binds rs) (same r.bound) ∙ ap (λ (l : List ℕ). local_of bindings r.bound ++ l) (in_bind rs)

-- none of them is a local that is not in the body yet
bound_old : (bindings : List ℕ) (st : State) → LocalsBelow bindings st → (rs : List Reached) → NoneNew st (bound_locals bindings rs)
unfolding bound_locals member
bound_old bindings st below [] l new few = refl
bound_old bindings st below (r ∷ rs) l new few = by r.bound (bound_old bindings st below rs l new few)
  where
    other : (b : ℕ) → l ≡ get_or bindings b 65535 → ⊥
    other b e = let k = below b (λ q. omega (arith, e, q, few)) in omega (arith, e, k, new)

    by : (o : Option ℕ) → member l (bound_locals bindings rs) ≡ false → member l (local_of bindings o ++ bound_locals bindings rs) ≡ false
    by none q = q
    by (some b) q = ap (λ (x : Bool). x || member l (bound_locals bindings rs)) (ne_eqb l (get_or bindings b 65535) (other b)) ∙ q

module _ (image bindings : List ℕ) (root : Pat) (ctx : Ctx) (current : BasicBlockId) (els : OptBlock) (place : Place) (rooted : place.local.0 < length ctx.state.locals)
    (whole : length place.elems ≡ 16) (short : place.len ≤ 16) (below : LocalsBelow bindings ctx.state) where
  abbrev ty : PlaceTy
  ty = place_ty image ctx.state place

  abbrev rs : List Reached
  rs = reached_from image root ty

  -- what the walk starts from
  abbrev base : Origin
  base = record { ctx = ctx; bindings = bindings }

  at : At image base place ty
  at = record { on = record { rooted = rooted; whole = whole; typed = refl }; short = short }

  -- the locals that both passes mark live
  abbrev marks : List ℕ
  marks = marked_in bindings checks rs ++ (marked_in bindings binds rs ++ [])

  -- how much there is in each table behind both passes
  abbrev in_the_end : Table → ℕ
  in_the_end w = amount marks w ctx.state + (once_more (can_fail image root ty) els w + (total (spent checks 0 w) rs + (total (spent binds 0 w) rs + 0)))

  -- so many entries are needed
  entries_needed : needed_entries image bindings root ty ctx.state.entries ≡ in_the_end entry
  unfolding needed_entries new_locals
  entries_needed =
      let x : length (recorded ctx.state.entries marks) ≡ length (recorded ctx.state.entries (bound_locals bindings rs)) =
      ap (λ (l : List ℕ). length (recorded ctx.state.entries l)) (marked_locals bindings rs) in
      let y = both_passes entry rs in
      omega (arith, x, y)

  -- where both passes lead to
  abbrev end : Goal
  end = record { sums = in_the_end; later = [] }

  -- there is room for that
  room_for_both : (A : Type 0) → (A → Room image bindings root ctx els place) → A → (w : Table) → in_the_end w ≤ limit w
  unfolding new_blocks new_statements new_locals
  room_for_both A room a block = let x = (room a).blocks in let y = both_passes block rs in omega (arith, x, y)
  room_for_both A room a statement = let x = (room a).statements in let y = both_passes statement rs in omega (arith, x, y)
  room_for_both A room a local = let x = (room a).locals in let y = both_passes local rs in omega (arith, x, y)
  room_for_both A room a entry = let x = (room a).entries in let y = entries_needed in omega (arith, x, y)

  -- no local that is marked live is new
  starts : NoneNew ctx.state marks
  starts = subst (NoneNew ctx.state) (sym (marked_locals bindings rs)) (bound_old bindings ctx.state below rs)

  -- what a refusal tells, and what an acceptance has made
  told : (A : Type 0) → (A → Room image bindings root ctx els place) →
      Sound A base (Ends A base end (can_fail image root ty) (λ w. 0) binds place (elements image root ty)) (pattern_match image bindings root ctx current els place)
  unfolding pattern_match longest_place
  told A room =
      let g = spends_pattern A base image root ty in
      let then = owing (marked_in bindings binds rs) end in
      sound_next (pattern_match_inner image bindings root MatchingMode.Check ctx current els place) _
      (g.goes checks 0 then (can_fail image root ty) (λ w. total (spent binds 0 w) rs + 0) ctx current els place at (λ a. (room a).elements) (λ t. t)
      (record { scopes = refl; kept = kept_same ctx.state; old = starts; sum = λ w. refl; room = room_for_both A room })) (λ r h.
      g.goes binds 0 end (can_fail image root ty) (λ w. 0) r.ctx r.then r.else place at (λ a. (room a).elements) (λ t. absurd (false≢true t)) h.0)

  -- Whether the pattern fits or not, an accepted lowering makes exactly as many locals and entries as are counted, and comes to no longer place.
  pub made : (r : Out) → pattern_match image bindings root ctx current els place ≡ ok r → Made image bindings root ctx place r
  unfolding new_locals longest_place recorded
  made r accepted =
      let h = (told ⊥ (λ never. absurd never)).at r accepted in
      record {
        locals = let x = h.0.sum local in let y = both_passes local rs in omega (arith, x, y);
        entries = let x = h.0.sum entry in let y = entries_needed in omega (arith, x, y);
        elements = h.1;
      }

  -- The theorem beside: whether the pattern fits or not, a refusal by 11 names a limit that is passed ..
  pub refused_limit : (p : ℕ) → pattern_match image bindings root ctx current els place ≡ refused MirLowerError.Limit p → Passed image bindings root ctx els place
  refused_limit p stopped = by (le_or_lt B 512) (le_or_lt S 1024) (le_or_lt L 512) (le_or_lt N 1024) (le_or_lt P 16)
    where
      none : Room image bindings root ctx els place → ⊥
      none = (told (Room image bindings root ctx els place) (λ room. room)).stop MirLowerError.Limit p stopped

      B : ℕ
      B = length ctx.state.blocks + new_blocks image root ty els

      S : ℕ
      S = length ctx.state.statements + new_statements image root ty

      L : ℕ
      L = length ctx.state.locals + new_locals image root ty

      N : ℕ
      N = needed_entries image bindings root ty ctx.state.entries

      P : ℕ
      P = longest_place image root ty place.len

      by : (B ≤ 512) ⊎ (512 < B) → (S ≤ 1024) ⊎ (1024 < S) → (L ≤ 512) ⊎ (512 < L) → (N ≤ 1024) ⊎ (1024 < N) → (P ≤ 16) ⊎ (16 < P) → Passed image bindings root ctx els place
      by b s l n q =
          ⊎_elim (λ b. ⊎_elim (λ s. ⊎_elim (λ l. ⊎_elim (λ n. ⊎_elim (λ q. absurd (none (record { blocks = b; statements = s; locals = l; entries = n; elements = q }))) (λ q. too_many_elements q) q)
          (λ n. too_many_entries n) n) (λ l. too_many_locals l) l) (λ s. too_many_statements s) s) (λ b. too_many_blocks b) b

  -- .. and one by 14 finds no scope open
  pub refused_scope : (p : ℕ) → pattern_match image bindings root ctx current els place ≡ refused MirLowerError.NoScope p → length ctx.state.scopes ≡ 0
  refused_scope p stopped = (told ⊥ (λ never. absurd never)).stop MirLowerError.NoScope p stopped

-- The theorem: a pattern that fits, with room and a scope open, is accepted.
pub fit_accepted : (image bindings : List ℕ) (pat : Pat) (ctx : Ctx) (current : BasicBlockId) (els : OptBlock) (place : Place) (t : ℕ) → valid image ≡ true → t < type_count image →
    place_ty image ctx.state place ≡ PlaceTy.Ty t → place.local.0 < length ctx.state.locals → length place.elems ≡ 16 → LocalsBelow bindings ctx.state →
    fits image bindings place.local.0 t pat ≡ true → Room image bindings pat ctx els place → ScopeOpen ctx → (r : Out) × (pattern_match image bindings pat ctx current els place ≡ ok r)
unfolding number_of
fit_accepted image bindings pat ctx current els place t v there placed rooted whole below fit room scope = by (pattern_match image bindings pat ctx current els place) refl
  where
    none : (e : MirLowerError) → (number_of e ≡ 11) ⊎ (number_of e ≡ 14) → Tells (Room image bindings pat ctx els place) (record { ctx = ctx; bindings = bindings }) e → ⊥
    none MirLowerError.IncompletePattern l told = ⊎_elim (λ x. omega (arith, x)) (λ x. omega (arith, x)) l
    none (MirLowerError.TypeError reason) l told = ⊎_elim (λ x. omega (arith, x)) (λ x. omega (arith, x)) l
    none MirLowerError.UnresolvedField l told = ⊎_elim (λ x. omega (arith, x)) (λ x. omega (arith, x)) l
    none MirLowerError.NotSupported l told = ⊎_elim (λ x. omega (arith, x)) (λ x. omega (arith, x)) l
    none MirLowerError.Ellipsis l told = ⊎_elim (λ x. omega (arith, x)) (λ x. omega (arith, x)) l
    none MirLowerError.UnsizedTemporary l told = ⊎_elim (λ x. omega (arith, x)) (λ x. omega (arith, x)) l
    none MirLowerError.InaccessibleLocal l told = ⊎_elim (λ x. omega (arith, x)) (λ x. omega (arith, x)) l
    none MirLowerError.Expr l told = ⊎_elim (λ x. omega (arith, x)) (λ x. omega (arith, x)) l
    none MirLowerError.Limit l told = told room
    none MirLowerError.PlaceType l told = ⊎_elim (λ x. omega (arith, x)) (λ x. omega (arith, x)) l
    none MirLowerError.UnresolvedName l told = ⊎_elim (λ x. omega (arith, x)) (λ x. omega (arith, x)) l
    none MirLowerError.NoScope l told = omega (arith, told, scope)

    short : place.len ≤ 16
    short = unfold longest_place in (let x = room.elements in omega (arith, x))

    by : (w : Walk Out) → pattern_match image bindings pat ctx current els place ≡ w → (r : Out) × (w ≡ ok r)
    by (ok r) e = (r, refl)
    by (refused error p) e =
        absurd (none error (fit_refused image bindings pat ctx current els place t error p v there placed rooted whole fit e)
        ((told image bindings pat ctx current els place rooted whole short below (Room image bindings pat ctx els place) (λ room. room)).stop error p e))
