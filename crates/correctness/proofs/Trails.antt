-- The blocks that a run enters: none twice. Assumes nothing.
use Prim.Native.Nat.{ℕ, ◌≤◌, ◌<◌}
use native.Mathlib.Nat.{lt_of_lt_of_le}
use native.Mathlib.Decide.{ℕ_discrete}
use mathlib.Core.Path.{◌≡◌, refl, sym, ap, ◌∙◌, subst}
use mathlib.Core.Logic.{◌≢◌, ◌⊎◌, inl, inr}
use mathlib.Core.List.{List, [], ◌∷◌, ◌++◌}
use Rattle.mir.specs.declared.blocks.Terminator.{Terminator}
use Rattle.state.specs.State.{State}
use Rattle.views.specs.Views.{mir_of}
use Rattle.views.specs.Growing.{Closed, GoesOn}
use Rattle.growth.specs.Opened.{count, terminator, From}
use Rattle.correctness.specs.Demand2.{NoneIs, Distinct}

-- what holds of each number of a list
abbrev pub All : (ℕ → Type 0) → List ℕ → Type 0
All P [] = Unit
All P (c ∷ l) = P c × All P l

-- no number stands in the list twice
abbrev pub Apart : List ℕ → Type 0
Apart [] = Unit
Apart (c ∷ l) = All (λ d. c ≢ d) l × Apart l

-- what follows for each
pub all_map : (P Q : ℕ → Type 0) (l : List ℕ) → ((c : ℕ) → P c → Q c) → All P l → All Q l
all_map P Q [] f h = tt
all_map P Q (c ∷ l) f h = (f c h.0, all_map P Q l f h.1)

-- what follows from two for each
pub all_map₂ : (P P' Q : ℕ → Type 0) (l : List ℕ) → ((c : ℕ) → P c → P' c → Q c) → All P l → All P' l → All Q l
all_map₂ P P' Q [] f h k = tt
all_map₂ P P' Q (c ∷ l) f h k = (f c h.0 k.0, all_map₂ P P' Q l f h.1 k.1)

-- one list and then another
pub all_append : (P : ℕ → Type 0) (l l' : List ℕ) → All P l → All P l' → All P (l ++ l')
all_append P [] l' h k = k
all_append P (c ∷ l) l' h k = (h.0, all_append P l l' h.1 k)

-- two lists that share nothing
pub apart_append : (l l' : List ℕ) → Apart l → Apart l' → All (λ c. All (λ d. c ≢ d) l') l → Apart (l ++ l')
apart_append [] l' h k a = k
apart_append (c ∷ l) l' h k a = (all_append (λ d. c ≢ d) l l' h.0 a.0, apart_append l l' h.1 k a.1)

-- none of them is b, as demand 2 says it
none_is : (b : ℕ) (l : List ℕ) → All (λ d. b ≢ d) l → NoneIs b l
none_is b [] h = tt
none_is b (x ∷ l) h = (h.0, none_is b l h.1)

-- as demand 2 says it
pub distinct_of : (l : List ℕ) → Apart l → Distinct l
distinct_of [] h = tt
distinct_of (c ∷ l) h = (none_is c l h.0, distinct_of l h.1)

-- a run from the block current in the state st to the block b in the state st₁, that entered these blocks: none twice; all but b are closed; those that
-- there were in st are b
pub record Trail (st st₁ : State) (current : ℕ) (entered : List ℕ) (b : ℕ) : Type 0 where
  pub distinct : Apart (current ∷ entered)
  pub closed : All (λ c. c ≢ b → Closed (terminator st₁ c)) (current ∷ entered)
  pub inside : All (λ c. c < count st₁) (current ∷ entered)
  pub newer : All (λ c. From st b c) entered

-- a block where a run may end: it is open, or one that there was, and not the one where the run began
abbrev pub Landing : State → ℕ → State → ℕ → Type 0
Landing st current st₁ b = (terminator st₁ b ≡ Terminator.Open) ⊎ ((b < count st) × (b ≢ current))

-- no block entered
pub trail_here : {st st₁ : State} {current : ℕ} → current < count st₁ → Trail st st₁ current [] current
trail_here h = record { distinct = (tt, tt); closed = (λ n. absurd (n refl), tt); inside = (h, tt); newer = tt }

-- one block entered
pub trail_one : {st st₁ : State} {current b : ℕ} → current ≢ b → Closed (terminator st₁ current) → current < count st₁ → b < count st₁ → Trail st st₁ current (b ∷ []) b
trail_one n c h h' =
    record { distinct = ((n, tt), (tt, tt)); closed = (λ _. c, (λ k. absurd (k refl), tt)); inside = (h, (h', tt)); newer = (λ _. refl, tt) }

-- the same in a later state
pub trail_later : {st st₁ st₂ : State} {current b : ℕ} {entered : List ℕ} → Trail st st₁ current entered b → GoesOn (mir_of st₁) (mir_of st₂) → count st₁ ≤ count st₂ →
    Trail st st₂ current entered b
trail_later {st} {st₁} {st₂} {current} {b} {entered} t x h =
    record {
      distinct = t.distinct;
      closed = all_map (λ c. c ≢ b → Closed (terminator st₁ c)) (λ c. c ≢ b → Closed (terminator st₂ c)) (current ∷ entered)
          (λ c k n. subst Closed (sym (x.kept c (k n))) (k n)) t.closed;
      inside = all_map (λ c. c < count st₁) (λ c. c < count st₂) (current ∷ entered) (λ c k. lt_of_lt_of_le k h) t.inside;
      newer = t.newer;
    }

-- from an earlier state with no more blocks than are new anyway
pub trail_earlier : {st₀ st st₁ : State} {current b : ℕ} {entered : List ℕ} → count st₀ ≤ count st → Trail st st₁ current entered b → Trail st₀ st₁ current entered b
trail_earlier {st₀} {st} {b} {entered} h t =
    record {
      distinct = t.distinct;
      closed = t.closed;
      inside = t.inside;
      newer = all_map (λ c. From st b c) (λ c. From st₀ b c) entered (λ c k i. k (lt_of_lt_of_le i h)) t.newer;
    }

-- one run after another
pub trail_seq : {st st₁ st₂ : State} {current b₁ b₂ : ℕ} {entered entered' : List ℕ} → Trail st st₁ current entered b₁ → Trail st₁ st₂ b₁ entered' b₂ →
    GoesOn (mir_of st₁) (mir_of st₂) → count st ≤ count st₁ → count st₁ ≤ count st₂ → Landing st current st₂ b₂ → From st current b₁ →
    Trail st st₂ current (entered ++ entered') b₂
trail_seq {st} {st₁} {st₂} {current} {b₁} {b₂} {entered} {entered'} t u x h₁ h₂ o f =
    record {
      distinct = apart_append (current ∷ entered) entered' t.distinct u.distinct.1
          (all_map₂ (λ c. (c < count st₁) × (c < count st → c ≢ b₁ → c ≡ current)) (λ c. c ≢ b₁ → Closed (terminator st₁ c)) (λ c. All (λ d. c ≢ d) entered') (current ∷ entered)
          (λ c i k. apart c i.0 i.1 k (ℕ_discrete c b₁) o)
          (all_map₂ (λ c. c < count st₁) (λ c. c < count st → c ≢ b₁ → c ≡ current) (λ c. (c < count st₁) × (c < count st → c ≢ b₁ → c ≡ current)) (current ∷ entered) (λ c i j. (i, j))
          t.inside (λ i n. refl, all_map (λ c. From st b₁ c) (λ c. c < count st → c ≢ b₁ → c ≡ current) entered (λ c k i n. absurd (n (k i))) t.newer))
          t.closed);
      closed = all_append (λ c. c ≢ b₂ → Closed (terminator st₂ c)) (current ∷ entered) entered'
          (all_map (λ c. c ≢ b₁ → Closed (terminator st₁ c)) (λ c. c ≢ b₂ → Closed (terminator st₂ c)) (current ∷ entered) (λ c k n. shut c k n (ℕ_discrete c b₁)) t.closed) u.closed.1;
      inside = all_append (λ c. c < count st₂) (current ∷ entered) entered'
          (all_map (λ c. c < count st₁) (λ c. c < count st₂) (current ∷ entered) (λ c k. lt_of_lt_of_le k h₂) t.inside) u.inside.1;
      newer = all_append (λ c. From st b₂ c) entered entered'
          (all_map₂ (λ c. From st b₁ c) (λ c. current ≢ c) (λ c. From st b₂ c) entered (λ c k n i. absurd (n (sym (k i ∙ f (subst (λ (z : ℕ). z < count st) (k i) i))))) t.newer t.distinct.0)
          (all_map (λ c. From st₁ b₂ c) (λ c. From st b₂ c) entered' (λ c k i. k (lt_of_lt_of_le i h₁)) u.newer);
    }
  where
    up : (c : ℕ) → Closed (terminator st₁ c) → Closed (terminator st₂ c)
    up c k = subst Closed (sym (x.kept c k)) k

    -- a block passed by the first run is not where the second ends
    passed : (c : ℕ) → (c < count st → c ≢ b₁ → c ≡ current) → Closed (terminator st₁ c) → c ≢ b₁ → Landing st current st₂ b₂ → c ≢ b₂
    passed c j k n (inl opened) e = subst Closed (ap (terminator st₂) e ∙ opened) (up c k)
    passed c j k n (inr old) e = old.1 (sym e ∙ j (subst (λ (z : ℕ). z < count st) (sym e) old.0) n)

    apart : (c : ℕ) → c < count st₁ → (c < count st → c ≢ b₁ → c ≡ current) → (c ≢ b₁ → Closed (terminator st₁ c)) → Dec (c ≡ b₁) → Landing st current st₂ b₂ → All (λ d. c ≢ d) entered'
    apart c i j k (yes e) o = subst (λ (z : ℕ). All (λ d. z ≢ d) entered') (sym e) u.distinct.0
    apart c i j k (no n) o =
        all_map (λ d. From st₁ b₂ d) (λ d. c ≢ d) entered'
        (λ d g e. passed c j (k n) n o (e ∙ g (subst (λ (z : ℕ). z < count st₁) e i))) u.newer

    shut : (c : ℕ) → (c ≢ b₁ → Closed (terminator st₁ c)) → c ≢ b₂ → Dec (c ≡ b₁) → Closed (terminator st₂ c)
    shut c k n (yes e) = subst (λ (z : ℕ). Closed (terminator st₂ z)) (sym e) (u.closed.0 (λ q. n (e ∙ q)))
    shut c k n (no q) = up c (k q)
