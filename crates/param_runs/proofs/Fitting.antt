-- Parameters that fit: what is asked of each. Assumes nothing.
use Prim.Native.Nat.{ℕ, ◌+◌}
use mathlib.Core.Path.{◌≡◌, subst}
use mathlib.Core.Bool.{Bool, true, false, cond, ◌&&◌}
use mathlib.Core.List.{List, ◌∷◌}
use Rattle.image.specs.Tree.{tree}
use Rattle.image.proofs.Bools.{and_left, and_right}
use Rattle.params_spec.specs.Params.{Param}
use Rattle.meaning.specs.Values.{Value, value_fits}
use Rattle.meaning.specs.Matching.{matches}
use Rattle.meaning.specs.Fit.{fits}
use Rattle.param_runs.specs.Returned.{own_local}
use Rattle.param_runs.specs.Through.{plain, pattern_fits, param_fits, params_fit}
use Rattle.param_runs.proofs.Plain.{Owns, plain_owns}

-- what is asked of a parameter that is lowered
abbrev pub Lowered : List ℕ → List ℕ → Param → ℕ → Type 0
Lowered image bindings q l = fits image bindings l q.ty (tree image q.pattern) ≡ true

-- what is asked of any parameter
pub record Asked (image bindings : List ℕ) (q : Param) (l : ℕ) (v : Value) : Type 0 where
  pub owns : own_local bindings (tree image q.pattern) l ≡ true → Owns image bindings (tree image q.pattern) l v
  pub lowered : own_local bindings (tree image q.pattern) l ≡ false → Lowered image bindings q l
  pub valued : value_fits image v q.ty ≡ true
  pub matched : matches image (tree image q.pattern) v ≡ true

module _ (image bindings : List ℕ) where
  -- of one that fits
  pub asked : (q : Param) (l : ℕ) (v : Value) → param_fits image bindings q l v ≡ true → Asked image bindings q l v
  unfolding param_fits pattern_fits
  asked q l v e =
      let pat = tree image q.pattern in
      let a = pattern_fits image bindings pat l q.ty in
      let b = value_fits image v q.ty in
      let c = matches image pat v in
      let first = and_left (a && b) c e in
      let shape = and_left a b first in
      record {
        owns = λ own. plain_owns image bindings pat l v (chosen (plain pat) (fits image bindings l q.ty pat) own shape) own;
        lowered = λ other. left (plain pat) (fits image bindings l q.ty pat) other shape;
        valued = and_right a b first;
        matched = and_right (a && b) c e;
      }
    where
      chosen : {t : Bool} (x y : Bool) → t ≡ true → cond t x y ≡ true → x ≡ true
      chosen x y o e = subst (λ (b : Bool). cond b x y ≡ true) o e

      left : {t : Bool} (x y : Bool) → t ≡ false → cond t x y ≡ true → y ≡ true
      left x y o e = subst (λ (b : Bool). cond b x y ≡ true) o e

  -- the first of those that fit
  pub fit_first : (q : Param) (qs : List Param) (l : ℕ) (v : Value) (vs : List Value) → params_fit image bindings (q ∷ qs) l (v ∷ vs) ≡ true → param_fits image bindings q l v ≡ true
  unfolding params_fit
  fit_first q qs l v vs e = and_left (param_fits image bindings q l v) (params_fit image bindings qs (l + 1) vs) e

  -- and the others
  pub fit_rest : (q : Param) (qs : List Param) (l : ℕ) (v : Value) (vs : List Value) → params_fit image bindings (q ∷ qs) l (v ∷ vs) ≡ true → params_fit image bindings qs (l + 1) vs ≡ true
  unfolding params_fit
  fit_rest q qs l v vs e = and_right (param_fits image bindings q l v) (params_fit image bindings qs (l + 1) vs) e
