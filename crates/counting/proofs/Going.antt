-- How a walk leads from one context to the next: what it adds, and what it keeps. Assumes nothing.
use mathlib.Core.Path.{◌≡◌, refl, sym, ap, ◌∙◌}
use mathlib.Core.Bool.{cond}
use mathlib.Core.List.{List}
use Prim.Native.Nat.{ℕ, ◌+◌, ◌≤◌, ◌<◌}
use native.Mathlib.Nat.{le_refl, le_trans, lt_of_lt_of_le}
use native.Mathlib.Decide.{ℕ_discrete}
use native.Mathlib.Omega.{arith}
use borrow.Author.Tests.{eq-eqb, ne_eqb}
use lib.Dec.{eqb}
use lib.ListN.{length, get_or, set, length-set}
use lib.Seq.{get_or-set_same, get_or-set_other}
use Rattle.state.specs.State.{State}
use Rattle.pattern_matching.specs.Walking.{Ctx, visited}

-- what is counted: blocks, statements, and the visits to the pattern of a number
pub data What : Type 0 where
  block : What
  statement : What
  visit : ℕ → What

-- how many there are
abbrev pub size : What → Ctx → ℕ
size block c = length c.state.blocks
size statement c = length c.state.statements
size (visit n) c = get_or c.visits n 0

-- a pattern whose visits are counted
abbrev pub Listed : What → Ctx → Type 0
Listed block c = Unit {0}
Listed statement c = Unit {0}
Listed (visit n) c = n < length c.visits

-- from c to c' each count grows by `plus`, up to what `minus` counts twice; the locals stay
pub record Went (c c' : Ctx) (minus plus : What → ℕ) : Type 0 where
  pub sizes : (w : What) → Listed w c → size w c' + minus w ≡ size w c + plus w
  pub grown : length c.state.blocks ≤ length c'.state.blocks
  pub listed : length c'.visits ≡ length c.visits
  pub locals : length c.state.locals ≤ length c'.state.locals
  pub kept : (i : ℕ) → i < length c.state.locals → get_or c'.state.locals i 0 ≡ get_or c.state.locals i 0

-- the list of visits keeps its length
listed_on : (c c' : Ctx) (w : What) → length c'.visits ≡ length c.visits → Listed w c → Listed w c'
listed_on c c' block e h = tt
listed_on c c' statement e h = tt
listed_on c c' (visit n) e h = omega arith

-- one way, and then another
pub went_on : {c c₁ c₂ : Ctx} {m p m' p' : What → ℕ} → Went c c₁ m p → Went c₁ c₂ m' p' → Went c c₂ (λ w. m w + m' w) (λ w. p w + p' w)
went_on {c = c} {c₁ = c₁} g h =
    record {
      sizes = λ w l. let a = g.sizes w l in let b = h.sizes w (listed_on c c₁ w g.listed l) in omega (arith, a, b);
      grown = le_trans g.grown h.grown;
      listed = h.listed ∙ g.listed;
      locals = le_trans g.locals h.locals;
      kept = λ i l. h.kept i (lt_of_lt_of_le l g.locals) ∙ g.kept i l;
    }

-- the same way, counted otherwise
pub went_as : {c c' : Ctx} {m p m' p' : What → ℕ} → ((w : What) → m w + p' w ≡ m' w + p w) → Went c c' m p → Went c c' m' p'
went_as e g =
    record {
      sizes = λ w l. let a = g.sizes w l in let b = e w in omega (arith, a, b);
      grown = g.grown;
      listed = g.listed;
      locals = g.locals;
      kept = g.kept;
    }

-- from one state to the next there are so many blocks and statements more; the locals stay
pub record Built (st st' : State) (b s : ℕ) : Type 0 where
  pub blocks : length st'.blocks ≡ length st.blocks + b
  pub statements : length st'.statements ≡ length st.statements + s
  pub locals : length st.locals ≤ length st'.locals
  pub kept : (i : ℕ) → i < length st.locals → get_or st'.locals i 0 ≡ get_or st.locals i 0

-- one step, and then another
pub built_on : {st st₁ st₂ : State} {b s b' s' : ℕ} → Built st st₁ b s → Built st₁ st₂ b' s' → Built st st₂ (b + b') (s + s')
built_on g h =
    record {
      blocks = omega (arith, g.blocks, h.blocks);
      statements = omega (arith, g.statements, h.statements);
      locals = le_trans g.locals h.locals;
      kept = λ i l. h.kept i (lt_of_lt_of_le l g.locals) ∙ g.kept i l;
    }

-- nothing is built
pub built_none : (st : State) → Built st st 0 0
built_none st = record { blocks = omega arith; statements = omega arith; locals = le_refl _; kept = λ i l. refl }

-- so many blocks and statements
abbrev pub made : ℕ → ℕ → What → ℕ
made b s block = b
made b s statement = s
made b s (visit n) = 0

-- none of anything
abbrev pub nothing : What → ℕ
nothing w = 0

-- what is built is counted, and no visit
pub went_built : {c c' : Ctx} {b s : ℕ} → Built c.state c'.state b s → c'.visits ≡ c.visits → Went c c' nothing (made b s)
went_built {c = c} {c' = c'} {b = b} {s = s} g v =
    record { sizes = sizes; grown = omega (arith, g.blocks); listed = ap (λ (l : List ℕ). length l) v; locals = g.locals; kept = g.kept }
  where
    sizes : (w : What) → Listed w c → size w c' + nothing w ≡ size w c + made b s w
    sizes block l = omega (arith, g.blocks)
    sizes statement l = omega (arith, g.statements)
    sizes (visit n) l = let e : get_or c'.visits n 0 ≡ get_or c.visits n 0 = ap (λ (l : List ℕ). get_or l n 0) v in omega (arith, e)

-- one visit to the pattern p
abbrev pub seen : ℕ → What → ℕ
seen p block = 0
seen p statement = 0
seen p (visit n) = cond (eqb p n) 1 0

-- a visit is counted once
pub went_visited : (c : Ctx) (p : ℕ) → Went c (visited c p) nothing (seen p)
unfolding visited
went_visited c p = record { sizes = sizes; grown = le_refl _; listed = length-set c.visits p _; locals = le_refl _; kept = λ i l. refl }
  where
    at : (n : ℕ) → n < length c.visits → Dec (p ≡ n) → get_or (set c.visits p (get_or c.visits p 0 + 1)) n 0 + 0 ≡ get_or c.visits n 0 + cond (eqb p n) 1 0
    at n l (yes e) = rw (eq-eqb p n e, e) (let h = get_or-set_same c.visits n (get_or c.visits n 0 + 1) 0 l in omega (arith, h))
    at n l (no e) = rw (ne_eqb p n e) (let h = get_or-set_other c.visits p n (get_or c.visits p 0 + 1) 0 (λ q. e (sym q)) in omega (arith, h))

    sizes : (w : What) → Listed w c → size w (visited c p) + nothing w ≡ size w c + seen p w
    sizes block l = refl
    sizes statement l = refl
    sizes (visit n) l = at n l (ℕ_discrete p n)
