-- Plain parameters. Assumes nothing.
use Prim.Native.Nat.{ℕ}
use native.Mathlib.Omega.{arith}
use mathlib.Core.Path.{◌≡◌, refl, sym, ap}
use mathlib.Core.Bool.{Bool, true, false, cond, false≢true}
use mathlib.Core.Option.{none, some}
use mathlib.Core.List.{List, [], ◌∷◌}
use borrow.Author.Tests.{eqb-true, eq-eqb}
use lib.Dec.{eqb}
use lib.ListN.{get_or}
use Rattle.image.specs.declared.kinds.BindingMode.{BindingMode}
use Rattle.image.specs.Lists.{member}
use Rattle.image.specs.Tree.{Pat, no, sub}
use Rattle.params_spec.specs.Params.{by_value, plain_bind, plain_binding}
use Rattle.meaning.specs.Values.{Value}
use Rattle.meaning.specs.Running.{value}
use Rattle.meaning.specs.Matching.{crossed, crossed_path, bound_as}
use Rattle.meaning.specs.Binding.{binds}
use Rattle.meaning.specs.Fit.{bound_in}
use Rattle.correctness.proofs.BindingNames.{names, or_left}
use Rattle.param_runs.specs.Returned.{own_local}
use Rattle.param_runs.specs.Through.{whole, plain}

-- none is not one
none_some : {x : ℕ} → none ≡ some x → ⊥
none_some e = let z : ◌≡◌ {A = ℕ} 0 1 = cc in omega arith

-- the binding of a plain parameter is one of its bindings
pub plain_named : (image : List ℕ) (pat : Pat) (x : ℕ) → plain_binding pat ≡ some x → member x (names (bound_in image pat)) ≡ true
unfolding plain_binding plain_bind bound_in member
plain_named image (Pat.Missing h) x e = absurd (none_some e)
plain_named image (Pat.Rest h) x e = absurd (none_some e)
plain_named image (Pat.NotNull h) x e = absurd (none_some e)
plain_named image (Pat.Wild h) x e = absurd (none_some e)
plain_named image (Pat.Tuple h args ellipsis) x e = absurd (none_some e)
plain_named image (Pat.Or h alts) x e = absurd (none_some e)
plain_named image (Pat.Record h fields args v) x e = absurd (none_some e)
plain_named image (Pat.Range h start end halfOpen) x e = absurd (none_some e)
plain_named image (Pat.Slice h prefix rest suffix) x e = absurd (none_some e)
plain_named image (Pat.Path h target) x e = absurd (none_some e)
plain_named image (Pat.Lit h operand) x e = absurd (none_some e)
plain_named image (Pat.Bind h b no how annotation) x e = or_left (eqb x b) false (eq-eqb x b (sym (by (by_value annotation) e)))
  where
    by : (t : Bool) → cond t (some b) none ≡ some x → b ≡ x
    by true e = cc
    by false e = absurd (none_some e)
plain_named image (Pat.Bind h b (sub s) how annotation) x e = absurd (none_some e)
plain_named image (Pat.TupleStruct h args ellipsis v) x e = absurd (none_some e)
plain_named image (Pat.Ref h s) x e = absurd (none_some e)
plain_named image (Pat.Expr h) x e = absurd (none_some e)
plain_named image (Pat.Box h) x e = absurd (none_some e)
plain_named image (Pat.Deref h) x e = absurd (none_some e)

-- a parameter that needs nothing: what it binds is its value, and its binding's local is its own
pub record Owns (image bindings : List ℕ) (pat : Pat) (l : ℕ) (v : Value) : Type 0 where
  pub binding : ℕ
  pub binds_it : binds image pat (whole l) v ≡ record { binding = binding; what = value v } ∷ []
  pub local : get_or bindings binding 65535 ≡ l
  pub named : member binding (names (bound_in image pat)) ≡ true

-- so it is with a plain one
pub plain_owns : (image bindings : List ℕ) (pat : Pat) (l : ℕ) (v : Value) → plain pat ≡ true → own_local bindings pat l ≡ true → Owns image bindings pat l v
unfolding plain own_local binds bound_in member bound_as crossed
plain_owns image bindings (Pat.Missing h) l v e own = absurd (false≢true e)
plain_owns image bindings (Pat.Rest h) l v e own = absurd (false≢true e)
plain_owns image bindings (Pat.NotNull h) l v e own = absurd (false≢true e)
plain_owns image bindings (Pat.Wild h) l v e own = absurd (false≢true e)
plain_owns image bindings (Pat.Tuple h args ellipsis) l v e own = absurd (false≢true e)
plain_owns image bindings (Pat.Or h alts) l v e own = absurd (false≢true e)
plain_owns image bindings (Pat.Record h fields args w) l v e own = absurd (false≢true e)
plain_owns image bindings (Pat.Range h start end halfOpen) l v e own = absurd (false≢true e)
plain_owns image bindings (Pat.Slice h prefix rest suffix) l v e own = absurd (false≢true e)
plain_owns image bindings (Pat.Path h target) l v e own = absurd (false≢true e)
plain_owns image bindings (Pat.Lit h operand) l v e own = absurd (false≢true e)
plain_owns image bindings (Pat.Bind h b no BindingMode.Value annotation) l v e own =
    record {
      binding = b;
      binds_it = ap (λ (n : ℕ). record { binding = b; what = bound_as BindingMode.Value (crossed_path n (whole l)) (crossed n v) } ∷ []) (eqb-true h.derefs 0 e);
      local = sym (eqb-true l (get_or bindings b 65535) own);
      named = or_left (eqb b b) false (eq-eqb b b refl);
    }
plain_owns image bindings (Pat.Bind h b no BindingMode.Ref annotation) l v e own = absurd (false≢true e)
plain_owns image bindings (Pat.Bind h b no BindingMode.RefMut annotation) l v e own = absurd (false≢true e)
plain_owns image bindings (Pat.Bind h b no BindingMode.Unknown annotation) l v e own = absurd (false≢true e)
plain_owns image bindings (Pat.Bind h b (sub s) how annotation) l v e own = absurd (false≢true e)
plain_owns image bindings (Pat.TupleStruct h args ellipsis w) l v e own = absurd (false≢true e)
plain_owns image bindings (Pat.Ref h s) l v e own = absurd (false≢true e)
plain_owns image bindings (Pat.Expr h) l v e own = absurd (false≢true e)
plain_owns image bindings (Pat.Box h) l v e own = absurd (false≢true e)
plain_owns image bindings (Pat.Deref h) l v e own = absurd (false≢true e)
