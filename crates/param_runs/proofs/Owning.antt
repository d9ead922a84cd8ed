-- What becomes of a parameter: where its binding's local is its own nothing is done, and any other one is lowered. Assumes nothing.
use Rattle.std.specs.Prelude.{None}
use Prim.Native.Nat.{ℕ}
use mathlib.Core.Path.{◌≡◌, refl, sym, subst}
use mathlib.Core.Bool.{Bool, true, false, cond}
use mathlib.Core.List.{List}
use lib.Dec.{eqb}
use lib.ListN.{get_or}
use Rattle.refusals.specs.declared.MirLowerError.{MirLowerError}
use Rattle.refusals.specs.Refusals.{done, stopped}
use Rattle.image.specs.Tree.{Pat, tree}
use Rattle.place.specs.declared.LocalId.{LocalId}
use Rattle.mir.specs.declared.BasicBlockId.{BasicBlockId}
use Rattle.lower_spec.specs.Temps.{binding_local}
use Rattle.pattern_matching.specs.Walking.{Ctx, Out, Walk, ok, step, local_place}
use Rattle.pattern_matching.specs.Patterns.{pattern_match}
use Rattle.params_spec.specs.Params.{shut, unless_bound, unless_own, lower_param}
use Rattle.growth.proofs.Walks.{not_ok, ok_is, walked}
use Rattle.param_runs.specs.Returned.{own_local}
use Rattle.param_runs.proofs.Shutting.{shut_out}

-- nothing done
abbrev pub unchanged : Ctx → BasicBlockId → Out
unchanged ctx current = record { ctx = ctx; then = current; else = None }

-- a binding's local is l, or another
bound_case : {C : Type 0} (bindings : List ℕ) (p b l : ℕ) (bound other : Walk Out) (r : Out) → unless_bound bindings p b l bound other ≡ ok r →
    (eqb l (get_or bindings b 65535) ≡ true → bound ≡ ok r → C) → (eqb l (get_or bindings b 65535) ≡ false → other ≡ ok r → C) → C
unfolding unless_bound binding_local
bound_case {C} bindings p b l bound other r e f g = there (eqb (get_or bindings b 65535) 65535) e
  where
    pick : (t : Bool) → cond t bound other ≡ ok r → (t ≡ true → bound ≡ ok r → C) → (t ≡ false → other ≡ ok r → C) → C
    pick true e f g = f refl e
    pick false e f g = g refl e

    there : (t : Bool) → step {A = LocalId} p (cond t (stopped MirLowerError.InaccessibleLocal) (done (record { 0 = get_or bindings b 65535 }))) (λ m. cond (eqb l m.0) bound other) ≡ ok r → C
    there true e = absurd (not_ok e)
    there false e = pick (eqb l (get_or bindings b 65535)) e f g

-- the same of a pattern of any kind
own_case : {C : Type 0} (bindings : List ℕ) (pat : Pat) (l : ℕ) (bound other : Walk Out) (r : Out) → unless_own bindings pat l bound other ≡ ok r →
    (own_local bindings pat l ≡ true → bound ≡ ok r → C) → (own_local bindings pat l ≡ false → other ≡ ok r → C) → C
unfolding unless_own own_local
own_case bindings (Pat.Missing h) l bound other r e f g = g refl e
own_case bindings (Pat.Rest h) l bound other r e f g = g refl e
own_case bindings (Pat.NotNull h) l bound other r e f g = g refl e
own_case bindings (Pat.Wild h) l bound other r e f g = g refl e
own_case bindings (Pat.Tuple h args ellipsis) l bound other r e f g = g refl e
own_case bindings (Pat.Or h alts) l bound other r e f g = g refl e
own_case bindings (Pat.Record h fields args v) l bound other r e f g = g refl e
own_case bindings (Pat.Range h start end halfOpen) l bound other r e f g = g refl e
own_case bindings (Pat.Slice h prefix rest suffix) l bound other r e f g = g refl e
own_case bindings (Pat.Path h target) l bound other r e f g = g refl e
own_case bindings (Pat.Lit h operand) l bound other r e f g = g refl e
own_case bindings (Pat.Bind h b s how annotation) l bound other r e f g = bound_case bindings h.number b l bound other r e f g
own_case bindings (Pat.TupleStruct h args ellipsis v) l bound other r e f g = g refl e
own_case bindings (Pat.Ref h s) l bound other r e f g = g refl e
own_case bindings (Pat.Expr h) l bound other r e f g = g refl e
own_case bindings (Pat.Box h) l bound other r e f g = g refl e
own_case bindings (Pat.Deref h) l bound other r e f g = g refl e

-- a walk whose else is shut
shut_case : {C : Type 0} (w : Walk Out) (r : Out) → shut w ≡ ok r → ((r₁ : Out) → w ≡ ok r₁ → r ≡ shut_out r₁ → C) → C
unfolding shut
shut_case w r e k = walked w _ e (λ r₁ e₁ e₂. k r₁ e₁ (sym (ok_is e₂)))

module _ (image bindings : List ℕ) (l : ℕ) (ctx : Ctx) (current : BasicBlockId) (P : Out → Type 0) (r : Out) where
  -- what holds of a parameter: where nothing is done, and where it is lowered
  pub param_case : (p : ℕ) → (own_local bindings (tree image p) l ≡ true → P (unchanged ctx current)) →
      ((r₁ : Out) → own_local bindings (tree image p) l ≡ false → pattern_match image bindings (tree image p) ctx current None (local_place (record { 0 = l })) ≡ ok r₁ → P (shut_out r₁)) →
      lower_param image bindings p l ctx current ≡ ok r → P r
  unfolding lower_param
  param_case p here lower e =
      own_case bindings (tree image p) l _ _ r e (λ own is. subst P (ok_is is) (here own)) (λ other is.
      shut_case (pattern_match image bindings (tree image p) ctx current None (local_place (record { 0 = l }))) r is (λ r₁ e₁ same. subst P (sym same) (lower r₁ other e₁)))
