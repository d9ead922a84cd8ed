-- What a lowered parameter binds is no later parameter's local: the values of these are held until their turn comes. Assumes nothing.
use Prim.Native.Nat.{ℕ, ◌+◌, ◌≤◌, ◌<◌}
use native.Mathlib.Omega.{arith}
use mathlib.Core.Path.{◌≡◌, refl, sym, ◌∙◌, subst}
use mathlib.Core.Logic.{◌≢◌}
use mathlib.Core.Bool.{Bool, true, false, not, false≢true}
use mathlib.Core.List.{List, [], ◌∷◌}
use lib.ListN.{length, get_or}
use Rattle.image.specs.Lists.{member, distinct}
use Rattle.image.specs.Tree.{Pat, tree}
use Rattle.image.proofs.Bools.{and_left, and_right}
use Rattle.pattern_matching.specs.Walking.{Ctx}
use Rattle.params_spec.specs.Params.{Param}
use Rattle.meaning.specs.Values.{Value}
use Rattle.meaning.specs.Running.{Held, Env}
use Rattle.meaning.specs.Binding.{binds}
use Rattle.meaning.specs.Fit.{bound_in, present, locals_differ}
use Rattle.correctness.specs.Demand2.{held_after}
use Rattle.correctness.proofs.Permuting.{each_map, local_of, after_untouched}
use Rattle.correctness.proofs.BindingNames.{not_and, names, Among, binds_among, locals_apart, present_member, member_left, member_right}
use Rattle.correctness.proofs.BindingLocals.{all_local}
use Rattle.correctness.proofs.Demand.{clauses}
use Rattle.param_runs.specs.Returned.{own_local}
use Rattle.param_runs.specs.Through.{whole, params_fit, params_bound, HeldFrom}
use Rattle.param_runs.proofs.Typing.{TypedFrom}
use Rattle.param_runs.proofs.Fitting.{Lowered, Asked, asked, fit_first, fit_rest}

-- the locals from l on are no words for none
abbrev pub SmallFrom : ℕ → List Param → Type 0
SmallFrom l [] = Unit
SmallFrom l (q ∷ qs) = (l < 65535) × SmallFrom (l + 1) qs

-- so it is where there are at most 512 locals
pub small_from : (locals : List ℕ) (l : ℕ) (qs : List Param) → (0 < length qs → length locals ≤ 512) → TypedFrom locals l qs → SmallFrom l qs
small_from locals l [] few t = tt
small_from locals l (q ∷ qs) few (i, is, t) = (let h = few (omega arith) in omega (arith, i, h), small_from locals (l + 1) qs (λ k. few (omega arith)) t)

-- no number of the first list stands in the second
abbrev pub Apart : List ℕ → List ℕ → Type 0
Apart xs ys = (a b : ℕ) → member a xs ≡ true → member b ys ≡ true → a ≢ b

module _ (image bindings : List ℕ) (ctx : Ctx) (q : Param) (l : ℕ) (v : Value) (low : Lowered image bindings q l) where
  -- its pattern
  abbrev pat : Pat
  pat = tree image q.pattern

  -- its bindings' locals differ
  bound_differ : distinct (present bindings) ≡ true
  unfolding locals_differ distinct
  bound_differ = and_right (not (member l (present bindings))) (distinct (present bindings)) (clauses image bindings l ctx q.ty pat low).locals

  -- a binding that it has has a local
  has_local_lem : (x : ℕ) → member x (names (bound_in image pat)) ≡ true → get_or bindings x 65535 ≢ 65535
  has_local_lem = all_local image bindings pat (clauses image bindings l ctx q.ty pat low).reached

  -- a local that is none of its bindings' is left as it was
  untouched : (k : ℕ) (held : Held) → ((x : ℕ) → member x (names (bound_in image pat)) ≡ true → k ≢ get_or bindings x 65535) → held_after bindings (binds image pat (whole l) v) k held ≡ held
  untouched k held f =
      after_untouched bindings (binds image pat (whole l) v) k held
      (each_map (Among (bound_in image pat)) (λ b. k ≢ local_of bindings b) (binds image pat (whole l) v) (λ b m. f b.binding m)
      (binds_among image pat (clauses image bindings l ctx q.ty pat low).bindings_fit_lem (whole l) v))

  -- a parameter with other bindings: its local is none of those
  abbrev Other : ℕ → Type 0
  Other k = (x : ℕ) → member x (names (bound_in image pat)) ≡ true → k ≢ get_or bindings x 65535

  -- so it is with each that fits
  other : (q' : Param) (k : ℕ) (w : Value) → Asked image bindings q' k w → k < 65535 → Apart (names (bound_in image pat)) (names (bound_in image (tree image q'.pattern))) → Other k
  unfolding locals_differ distinct
  other q' k w ask small apart = by (own_local bindings (tree image q'.pattern) k) refl
    where
      by : (t : Bool) → own_local bindings (tree image q'.pattern) k ≡ t → Other k
      by true e =
          let own = ask.owns e in
          let there : get_or bindings own.binding 65535 ≢ 65535 = λ z. let same = own.local in absurd (omega (arith, small, same, z)) in
          λ x m is. apart x own.binding m own.named (locals_apart bindings bound_differ x own.binding (has_local_lem x m) (sym is ∙ sym own.local))
      by false e =
          let low' = ask.lowered e in
          let d = (clauses image bindings k ctx q'.ty (tree image q'.pattern) low').locals in
          λ x m is.
          not_and (member k (present bindings)) (and_left (not (member k (present bindings))) (distinct (present bindings)) d)
          (subst (λ (y : ℕ). member y (present bindings) ≡ true) (sym is) (present_member bindings x (has_local_lem x m)))

  -- The values of later parameters are held behind it.
  pub held_later : (env env' : Env) → ((k : ℕ) → k < length ctx.state.locals → env' k ≡ held_after bindings (binds image pat (whole l) v) k (env k)) →
      (qs : List Param) (k : ℕ) (vs : List Value) → params_fit image bindings qs k vs ≡ true → TypedFrom ctx.state.locals k qs → SmallFrom k qs →
      Apart (names (bound_in image pat)) (params_bound image qs) → HeldFrom env k vs → HeldFrom env' k vs
  unfolding params_fit params_bound
  held_later env env' f [] k [] fit typed small apart held = tt
  held_later env env' f [] k (w ∷ vs) fit typed small apart held = absurd (false≢true fit)
  held_later env env' f (q' ∷ qs) k [] fit typed small apart held = tt
  held_later env env' f (q' ∷ qs) k (w ∷ vs) fit (there, is, typed) (i, small) apart (here, held) =
      let first = names (bound_in image (tree image q'.pattern)) in
      let rest = params_bound image qs in
      let o = other q' k w (asked image bindings q' k w (fit_first image bindings q' qs k w vs fit)) i (λ a b m n. apart a b m (member_left b first rest n)) in (
        f k there ∙ untouched k (env k) o ∙ here,
        held_later env env' f qs (k + 1) vs (fit_rest image bindings q' qs k w vs fit) typed small (λ a b m n. apart a b m (member_right b first rest n)) held,
      )
