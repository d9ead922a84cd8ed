-- The clauses of the fit, one after the other. Assumes nothing.
use Prim.Native.Nat.{ℕ, ◌<◌}
use mathlib.Core.Path.{◌≡◌, refl, sym, ◌∙◌}
use mathlib.Core.Bool.{Bool, true, false, ◌&&◌}
use mathlib.Core.Option.{some}
use mathlib.Core.List.{List}
use Rattle.image.specs.Tables.{type_count}
use Rattle.image.specs.Lists.{all_true}
use Rattle.image.specs.Tree.{tree}
use Rattle.meaning.specs.Fit.{types_fit, bindings_fit, nothing_refused, locals_differ, fits}
use Rattle.fit_own.specs.Taking.{FitsSomewhere}

-- `pattern_fits`: its types fit
pub somewhere : {image : List ℕ} {p : ℕ} (t : ℕ) {a : Bool} → a ≡ types_fit image (tree image p) (some t) → a ≡ true → t < type_count image → FitsSomewhere image p
somewhere t types typed h = record { place = t; named = h; fits = sym types ∙ typed }

-- the clauses, one after the other
module _ (image bindings : List ℕ) (root : ℕ) (t p : ℕ) {a : Bool} (types : a ≡ types_fit image (tree image p) (some t)) where
  pub types_do_not : a ≡ false → false ≡ fits image bindings root t (tree image p)
  unfolding fits all_true
  types_do_not e = rw (sym types ∙ e)

  module _ (typed : a ≡ true) where
    module _ {b : Bool} (bound : b ≡ bindings_fit image (tree image p)) where
      pub bindings_do_not : b ≡ false → false ≡ fits image bindings root t (tree image p)
      unfolding fits all_true
      bindings_do_not e = rw (sym types ∙ typed, sym bound ∙ e)

      module _ (once : b ≡ true) {c : Bool} (reached : c ≡ nothing_refused image bindings (tree image p)) where
        pub refused : c ≡ false → false ≡ fits image bindings root t (tree image p)
        unfolding fits all_true
        refused e = rw (sym types ∙ typed, sym bound ∙ once, sym reached ∙ e)

        pub by_locals : c ≡ true → {d : Bool} → d ≡ locals_differ bindings root → d ≡ fits image bindings root t (tree image p)
        unfolding fits all_true
        by_locals e h = h ∙ sym (rw (sym types ∙ typed, sym bound ∙ once, sym reached ∙ e) (and_yes (locals_differ bindings root)))
          where
            and_yes : (x : Bool) → x && true ≡ x
            and_yes true = refl
            and_yes false = refl
