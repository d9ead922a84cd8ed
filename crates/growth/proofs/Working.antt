-- Work at a block: one piece after another, and a body that goes on from another. Assumes nothing.
use Prim.Native.Nat.{ℕ, ◌≤◌, ◌<◌}
use native.Mathlib.Nat.{le_refl, le_trans, lt_of_lt_of_le}
use native.Mathlib.Decide.{dec_lt}
use native.Mathlib.Omega.{arith}
use mathlib.Core.Path.{◌≡◌, refl, sym, ap, subst, ◌∙◌}
use mathlib.Core.Logic.{◌≢◌}
use mathlib.Core.List.{List, [], ◌∷◌, ◌++◌, append_assoc, append-nil}
use Rattle.mir.specs.declared.BasicBlockId.{BasicBlockId}
use Rattle.mir.specs.declared.blocks.Terminator.{Terminator}
use Rattle.state.specs.State.{State}
use Rattle.state.specs.Steps.{set_terminator}
use Rattle.views.specs.Views.{Line, Mir, mir_of}
use Rattle.views.specs.Growing.{Closed, Quiet, GoesOn}
use Rattle.growth.specs.Opened.{count, terminator, lines, Below, From, Worked}
use Rattle.growth.proofs.States.{count_terminator, terminator_other, terminator_past}

-- lines and then more, none of them of block b
pub quiet_append : (b : ℕ) (l l' : List Line) → Quiet b l → Quiet b l' → Quiet b (l ++ l')
quiet_append b [] l' h h' = h'
quiet_append b (x ∷ l) l' h h' = (h.0, quiet_append b l l' h.1 h')

-- lines and then more, all of blocks below n
pub below_append : (n : ℕ) (l l' : List Line) → Below n l → Below n l' → Below n (l ++ l')
below_append n [] l' h h' = h'
below_append n (x ∷ l) l' h h' = (h.0, below_append n l l' h.1 h')

-- below more blocks too
pub below_mono : {n m : ℕ} (l : List Line) → n ≤ m → Below n l → Below m l
below_mono [] h k = tt
below_mono (x ∷ l) h k = (lt_of_lt_of_le k.0 h, below_mono l h k.1)

-- a block that is new has no line
pub below_quiet : {n b : ℕ} (l : List Line) → n ≤ b → Below n l → Quiet b l
below_quiet [] h k = tt
below_quiet {n} {b} (x ∷ l) h k = (λ e. let g : x.block < n = k.0 in omega arith, below_quiet l h k.1)

-- another block of the state than current is another than one that came from current
pub other : (st : State) (current b c : ℕ) → b < count st → b ≢ current → From st current c → b ≢ c
other st current b c h n f e = n (e ∙ f (subst (λ (x : ℕ). x < count st) e h))

-- what comes from a block that came from current comes from current
pub from_seq : (st st₁ : State) (c c₁ c₂ : ℕ) → count st ≤ count st₁ → From st c c₁ → From st₁ c₁ c₂ → From st c c₂
from_seq st st₁ c c₁ c₂ h f g i = let e = g (lt_of_lt_of_le i h) in e ∙ f (subst (λ (x : ℕ). x < count st) e i)

-- nothing done
pub worked_same : (st : State) (current : ℕ) → Worked st current st
worked_same st current =
    record {
      blocks = le_refl _;
      more = [];
      grown = sym (append-nil (lines st));
      still = λ b i n. tt;
      kept = λ b i n. refl;
      below = tt;
      more_locals = [];
      locals = sym (append-nil st.locals);
    }

-- one piece of work after another
pub worked_seq : {st st₁ st₂ : State} {current next : ℕ} → Worked st current st₁ → From st current next → Worked st₁ next st₂ → Worked st current st₂
worked_seq {st} {st₁} {st₂} {current} {next} f h g =
    record {
      blocks = le_trans f.blocks g.blocks;
      more = f.more ++ g.more;
      grown = g.grown ∙ ap (λ (l : List Line). l ++ g.more) f.grown ∙ append_assoc (lines st) f.more g.more;
      still = λ b i n. quiet_append b f.more g.more (f.still b i n) (g.still b (lt_of_lt_of_le i f.blocks) (other st current b next i n h));
      kept = λ b i n. g.kept b (lt_of_lt_of_le i f.blocks) (other st current b next i n h) ∙ f.kept b i n;
      below = below_append (count st₂) f.more g.more (below_mono f.more g.blocks f.below) g.below;
      more_locals = f.more_locals ++ g.more_locals;
      locals = g.locals ∙ ap (λ (l : List ℕ). l ++ g.more_locals) f.locals ∙ append_assoc st.locals f.more_locals g.more_locals;
    }

-- a terminator set
pub worked_terminator : (st : State) (c : BasicBlockId) (t : Terminator) → Worked st c.0 (set_terminator st c t)
unfolding set_terminator mir_of
worked_terminator st c t =
    record {
      blocks = omega (arith, count_terminator st c t);
      more = [];
      grown = sym (append-nil (lines st));
      still = λ b i n. tt;
      kept = λ b i n. terminator_other st c t b n;
      below = tt;
      more_locals = [];
      locals = sym (append-nil st.locals);
    }

-- the lines stand in blocks that there are
pub lines_below : {st st₁ : State} {current : ℕ} → Worked st current st₁ → Below (count st) (lines st) → Below (count st₁) (lines st₁)
lines_below {st} {st₁} f h =
    subst (Below (count st₁)) (sym f.grown) (below_append (count st₁) (lines st) f.more (below_mono (lines st) f.blocks h) f.below)

-- a body goes on from itself
pub goes_on_refl : (m : Mir) → GoesOn m m
goes_on_refl m = record { more = []; grown = sym (append-nil m.lines); still = λ b c. tt; kept = λ b c. refl }

-- and from what the body went on from that it goes on from
pub goes_on_trans : {m m₁ m₂ : Mir} → GoesOn m m₁ → GoesOn m₁ m₂ → GoesOn m m₂
goes_on_trans {m} {m₁} {m₂} f g =
    record {
      more = f.more ++ g.more;
      grown = g.grown ∙ ap (λ (l : List Line). l ++ g.more) f.grown ∙ append_assoc m.lines f.more g.more;
      still = λ b c. quiet_append b f.more g.more (f.still b c) (g.still b (subst Closed (sym (f.kept b c)) c));
      kept = λ b c. g.kept b (subst Closed (sym (f.kept b c)) c) ∙ f.kept b c;
    }

-- a closed block is not an open one
closed_other : (st : State) (b current : ℕ) → Closed (terminator st b) → terminator st current ≡ Terminator.Open → b ≢ current
closed_other st b current c o e = subst Closed (ap (terminator st) e ∙ o) c

-- a closed block is below the count
closed_below : (st : State) (b : ℕ) → Closed (terminator st b) → b < count st
closed_below st b c = go (dec_lt b (count st))
  where
    go : Dec (b < count st) → b < count st
    go (yes h) = h
    go (no h) = absurd (subst Closed (terminator_past st b (omega arith)) c)

-- work at an open block leads to a body that goes on
pub goes_on_lem : {st st₁ : State} {current : ℕ} → Worked st current st₁ → terminator st current ≡ Terminator.Open → GoesOn (mir_of st) (mir_of st₁)
goes_on_lem {st} {st₁} {current} f o =
    record {
      more = f.more;
      grown = f.grown;
      still = λ b c. f.still b (closed_below st b c) (closed_other st b current c o);
      kept = λ b c. f.kept b (closed_below st b c) (closed_other st b current c o);
    }
