-- The bindings' locals, a word each: one that is set, and those that stay. Assumes nothing.
use Prim.Native.Nat.{ℕ, zero, suc, ◌≤◌, ◌<◌}
use native.Mathlib.Nat.{lt_of_lt_of_le}
use native.Mathlib.Decide.{dec_lt, ℕ_discrete}
use native.Mathlib.Omega.{arith}
use mathlib.Core.Path.{◌≡◌, refl, sym, ap, ◌∙◌, subst}
use mathlib.Core.Logic.{◌≢◌}
use mathlib.Core.Bool.{true, ◌||◌}
use mathlib.Core.Option.{Option, none, some}
use mathlib.Core.List.{List, [], ◌∷◌}
use borrow.Author.Tests.{eqb-true, ltb-true}
use lib.Dec.{eqb, ltb}
use lib.ListN.{length, get_or, set, length-set, get_or-eq_default}
use lib.Seq.{get_or-set_same, get_or-set_other}
use Rattle.image.specs.Lists.{all_in}
use Rattle.image.proofs.Bools.{and_left, and_right}
use Rattle.mir.specs.declared.Counts.{Counts}
use Rattle.state.specs.State.{State, counts_of}
use Rattle.handed.specs.Handed.{binding_local_holds, bindings_hold}
use Rattle.named.specs.Named.{WordsBelow}
use Rattle.params_spec.specs.Params.{bound_to}
use Rattle.correctness.proofs.BindingNames.{or_elim}

-- below more too
pub words_more_lem : (bindings : List ℕ) (n m : ℕ) → n ≤ m → WordsBelow bindings n → WordsBelow bindings m
words_more_lem bindings n m h w x k = lt_of_lt_of_le (w x k) h

-- one that is set, where there is such a binding
word_set : (bindings : List ℕ) (b l x : ℕ) (P : ℕ → Type 0) → P l → P 65535 → P (get_or bindings x 65535) → P (get_or (set bindings b l) x 65535)
word_set bindings b l x P new absent old = by (ℕ_discrete x b) (dec_lt b (length bindings))
  where
    by : Dec (x ≡ b) → Dec (b < length bindings) → P (get_or (set bindings b l) x 65535)
    by (no n) d = subst P (sym (get_or-set_other bindings b x l 65535 n)) old
    by (yes e) (yes i) = subst P (sym (ap (λ (k : ℕ). get_or (set bindings b l) k 65535) e ∙ get_or-set_same bindings b l 65535 i)) new
    by (yes e) (no i) =
        let len = length-set bindings b l in
        subst P (sym (ap (λ (k : ℕ). get_or (set bindings b l) k 65535) e ∙ get_or-eq_default (set bindings b l) 65535 (omega (arith, len)))) absent

-- a word of a list
pub set_below : (bindings : List ℕ) (b l n : ℕ) → l < n → WordsBelow bindings n → WordsBelow (set bindings b l) n
set_below bindings b l n h w x = word_set bindings b l x (λ k. k ≢ 65535 → k < n) (λ k. h) (λ k. absurd (k refl)) (w x)

-- a binding's local
pub bound_below : (bindings : List ℕ) (o : Option ℕ) (l n : ℕ) → l < n → WordsBelow bindings n → WordsBelow (bound_to bindings o l) n
unfolding bound_to
bound_below bindings none l n h w = w
bound_below bindings (some b) l n h w = set_below bindings b l n h w

-- the others stay
pub bound_keeps : (bindings : List ℕ) (o : Option ℕ) (l x : ℕ) → (o ≡ some x → ⊥) → get_or (bound_to bindings o l) x 65535 ≡ get_or bindings x 65535
unfolding bound_to
bound_keeps bindings none l x h = refl
bound_keeps bindings (some b) l x h = get_or-set_other bindings b x l 65535 (λ e. h (ap some (sym e)))

-- those of a list of which each is a local or none
pub all_below_lem : (c : Counts) (bindings : List ℕ) → all_in (binding_local_holds c) bindings ≡ true → WordsBelow bindings c.locals
unfolding all_in binding_local_holds
all_below_lem c [] e x k = absurd (k refl)
all_below_lem c (l ∷ ls) e zero k =
    or_elim (eqb l 65535) (ltb l c.locals) (and_left (eqb l 65535 || ltb l c.locals) (all_in (binding_local_holds c) ls) e) (λ q. absurd (k (eqb-true l 65535 q))) (λ q. ltb-true l c.locals q)
all_below_lem c (l ∷ ls) e (suc x) k = all_below_lem c ls (and_right (eqb l 65535 || ltb l c.locals) (all_in (binding_local_holds c) ls) e) x k

-- what a call may be handed
pub record WordsHold (bindings : List ℕ) (n : ℕ) (st : State) : Type 0 where
  pub long : length bindings ≡ n
  pub below : WordsBelow bindings (length st.locals)

-- so number 2 asks
pub words_hold_lem : (bindings : List ℕ) (n : ℕ) (st : State) → bindings_hold n (counts_of st) bindings ≡ true → WordsHold bindings n st
unfolding bindings_hold counts_of
words_hold_lem bindings n st e =
    let a = eqb (length bindings) n in
    let b = all_in (binding_local_holds (counts_of st)) bindings in
    record { long = eqb-true (length bindings) n (and_left a b e); below = all_below_lem (counts_of st) bindings (and_right a b e) }
