-- Laws of what live marks record: marks one after the other, and that a local stands in the entries at most once if it did before. Assumes nothing.
use Prim.Native.Nat.{ℕ, zero, suc, ◌+◌, ◌≤◌, ◌<◌}
use native.Mathlib.Omega.{arith}
use mathlib.Core.Path.{◌≡◌, refl, sym, ap, ap₂, subst, ◌∙◌}
use mathlib.Core.Bool.{Bool, true, false, cond, ◌||◌, false≢true}
use mathlib.Core.List.{List, [], ◌∷◌, ◌++◌, map, map-append, append_assoc, append-nil}
use borrow.Author.Tests.{eqb-true, eq-eqb, ne_eqb}
use lib.Dec.{eqb}
use lib.ListN.{length, take, drop}
use Rattle.image.specs.Lists.{member}
use Rattle.state.specs.State.{State}
use Rattle.lower_spec.specs.Recorded.{recorded, occurs, OncePerLocal}
use Rattle.views.specs.Views.{Line, line_of, mir_of}
use Rattle.named.specs.Named.{Throughout}
use Rattle.named.specs.Marked.{mark_of, marked_live, MarksRecorded}

-- what stands behind a list
behind_list : {A : Type 0} (xs ys : List A) → drop (length xs) (xs ++ ys) ≡ ys
behind_list [] ys = refl
behind_list (x ∷ xs) ys = behind_list xs ys

-- marks behind marks
pub recorded_append : (es ls ms : List ℕ) → recorded es (ls ++ ms) ≡ recorded (recorded es ls) ms
unfolding recorded
recorded_append es [] ms = refl
recorded_append es (l ∷ ls) ms = recorded_append (cond (member l es) es (es ++ (l ∷ []))) ls ms

-- lines behind lines
pub marked_append : (xs ys : List Line) → marked_live (xs ++ ys) ≡ marked_live xs ++ marked_live ys
unfolding marked_live
marked_append [] ys = refl
marked_append (x ∷ xs) ys =
    ap (λ (r : List ℕ). mark_of x.statement ++ r) (marked_append xs ys) ∙ sym (append_assoc (mark_of x.statement) (marked_live xs) (marked_live ys))

-- what was made from a state on: lines, and the entries that their live marks record
pub record Made (s st : State) : Type 0 where
  pub made : List Line
  pub lines : (mir_of st).lines ≡ (mir_of s).lines ++ made
  pub scopes : st.scopes ≡ s.scopes
  pub entries : st.entries ≡ recorded s.entries (marked_live made)

-- nothing
pub made_nothing : (s : State) → Made s s
unfolding recorded marked_live
made_nothing s = record { made = []; lines = sym (append-nil (mir_of s).lines); scopes = refl; entries = refl }

-- a step that makes no line and no entry
pub made_beside : {s st : State} (st₁ : State) → Made s st → st₁.statements ≡ st.statements → st₁.scopes ≡ st.scopes → st₁.entries ≡ st.entries → Made s st₁
unfolding mir_of
made_beside st₁ m lines scopes entries = record { made = m.made; lines = ap (map line_of) lines ∙ m.lines; scopes = scopes ∙ m.scopes; entries = entries ∙ m.entries }

-- one line more, and the entry that it records if it is a live mark
pub made_line : {s st : State} (st₁ : State) (row : List ℕ) → Made s st → st₁.statements ≡ st.statements ++ (row ∷ []) → st₁.scopes ≡ st.scopes →
    st₁.entries ≡ recorded st.entries (marked_live (line_of row ∷ [])) → Made s st₁
unfolding mir_of
made_line {s} {st} st₁ row m lines scopes entries =
    let x = line_of row ∷ [] in
    record {
      made = m.made ++ x;
      lines = ap (map line_of) lines ∙ map-append line_of st.statements (row ∷ []) ∙ ap (λ (ls : List Line). ls ++ x) m.lines ∙ append_assoc (mir_of s).lines m.made x;
      scopes = scopes ∙ m.scopes;
      entries = entries ∙ ap (λ (es : List ℕ). recorded es (marked_live x)) m.entries ∙ sym (recorded_append s.entries (marked_live m.made) (marked_live x))
          ∙ ap (recorded s.entries) (sym (marked_append m.made x));
    }

-- what was made is what stands behind the lines before
pub made_recorded : {s st : State} → Made s st → MarksRecorded s st
made_recorded {s} {st} m =
    let same : drop (length (mir_of s).lines) (mir_of st).lines ≡ m.made = ap (drop (length (mir_of s).lines)) m.lines ∙ behind_list (mir_of s).lines m.made in
    record {
      lines = m.lines ∙ ap (λ (ls : List Line). (mir_of s).lines ++ ls) (sym same);
      scopes = m.scopes;
      entries = m.entries ∙ ap (λ (ls : List Line). recorded s.entries (marked_live ls)) (sym same);
    }

-- a number above all of a list does not stand there
pub none_above : (n : ℕ) (xs : List ℕ) → Throughout (λ (x : ℕ). x < n) xs → member n xs ≡ false
unfolding member
none_above n [] h = refl
none_above n (x ∷ xs) h = let below = h.0 in ap (λ (t : Bool). t || member n xs) (ne_eqb n x (λ e. omega (arith, below, e))) ∙ none_above n xs h.1

-- how often a local stands in two lists
pub occurs_append : (l : ℕ) (xs ys : List ℕ) → occurs l (xs ++ ys) ≡ occurs l xs + occurs l ys
unfolding occurs
occurs_append l [] ys = omega arith
occurs_append l (x ∷ xs) ys = let e = occurs_append l xs ys in omega (arith, e)

-- in the first of a list it stands at most as often
pub occurs_take : (l n : ℕ) (xs : List ℕ) → occurs l (take n xs) ≤ occurs l xs
unfolding occurs
occurs_take l zero xs = omega arith
occurs_take l (suc n) [] = omega arith
occurs_take l (suc n) (x ∷ xs) = let h = occurs_take l n xs in omega (arith, h)

-- one that is no member does not stand there
occurs_none : (l : ℕ) (xs : List ℕ) → member l xs ≡ false → occurs l xs ≡ 0
unfolding occurs member
occurs_none l [] e = refl
occurs_none l (x ∷ xs) e = by (eqb l x) (occurs_none l xs) e
  where
    by : (b : Bool) → (member l xs ≡ false → occurs l xs ≡ 0) → b || member l xs ≡ false → cond b 1 0 + occurs l xs ≡ 0
    by true rest q = absurd (false≢true (sym q))
    by false rest q = let h = rest q in omega (arith, h)

-- one mark
once_one : (es : List ℕ) (x l : ℕ) → occurs l es ≤ 1 → occurs l (cond (member x es) es (es ++ (x ∷ []))) ≤ 1
unfolding occurs
once_one es x l h = by (member x es) refl
  where
    last : (b : Bool) → eqb l x ≡ b → member x es ≡ false → occurs l es + (cond b 1 0 + 0) ≤ 1
    last true is e = let none = occurs_none l es (subst (λ (k : ℕ). member k es ≡ false) (sym (eqb-true l x is)) e) in omega (arith, none)
    last false is e = omega (arith, h)

    by : (b : Bool) → member x es ≡ b → occurs l (cond b es (es ++ (x ∷ []))) ≤ 1
    by true e = h
    by false e = let both = occurs_append l es (x ∷ []) in let few = last (eqb l x) refl e in omega (arith, both, few)

-- marks in a row
pub once_recorded : (es ls : List ℕ) (l : ℕ) → occurs l es ≤ 1 → occurs l (recorded es ls) ≤ 1
unfolding recorded
once_recorded es [] l h = h
once_recorded es (x ∷ ls) l h = once_recorded (cond (member x es) es (es ++ (x ∷ []))) ls l (once_one es x l h)

-- "Where a local stands at most once in all the scopes handed in, it still does afterwards"
pub once_made : {s st : State} → Made s st → OncePerLocal s st
once_made {s} m l h = subst (λ (es : List ℕ). occurs l es ≤ 1) (sym m.entries) (once_recorded s.entries (marked_live m.made) l h)

-- one local stands once in itself, and in another never
pub occurs_one : (l : ℕ) → occurs l (l ∷ []) ≡ 1
unfolding occurs
occurs_one l = ap (λ (b : Bool). cond b 1 0 + 0) (eq-eqb l l refl)

pub occurs_other : (l x : ℕ) → (l ≡ x → ⊥) → occurs l (x ∷ []) ≡ 0
unfolding occurs
occurs_other l x h = ap (λ (b : Bool). cond b 1 0 + 0) (ne_eqb l x h)

-- a member of two lists
member_append : (l : ℕ) (xs ys : List ℕ) → member l (xs ++ ys) ≡ member l xs || member l ys
unfolding member
member_append l [] ys = refl
member_append l (x ∷ xs) ys = by (eqb l x) (member_append l xs ys)
  where
    by : (b : Bool) → member l (xs ++ ys) ≡ member l xs || member l ys → b || member l (xs ++ ys) ≡ (b || member l xs) || member l ys
    by true e = refl
    by false e = e

-- how often a local stands in the entries, one mark earlier or later
occurs_mark : (es ls : List ℕ) (x l : ℕ) →
    cond (member l (cond (member x es) es (es ++ (x ∷ [])))) (occurs l (cond (member x es) es (es ++ (x ∷ [])))) (cond (member l ls) 1 0)
    ≡ cond (member l es) (occurs l es) (cond (eqb l x || member l ls) 1 0)
unfolding member occurs
occurs_mark es ls x l = by (member x es) refl
  where
    held : (b : Bool) → eqb l x ≡ b → member x es ≡ true → cond (member l es) (occurs l es) (cond (member l ls) 1 0) ≡ cond (member l es) (occurs l es) (cond (b || member l ls) 1 0)
    held true is e =
        let there : member l es ≡ true = ap (λ (k : ℕ). member k es) (eqb-true l x is) ∙ e in
        ap (λ (m : Bool). cond m (occurs l es) (cond (member l ls) 1 0)) there ∙ ap (λ (m : Bool). cond m (occurs l es) 1) (sym there)
    held false is e = refl

    new : (b m : Bool) → eqb l x ≡ b → member l es ≡ m → member x es ≡ false →
        cond (m || (b || false)) (occurs l es + (cond b 1 0 + 0)) (cond (member l ls) 1 0) ≡ cond m (occurs l es) (cond (b || member l ls) 1 0)
    new true true is there e = absurd (false≢true (sym e ∙ ap (λ (k : ℕ). member k es) (sym (eqb-true l x is)) ∙ there))
    new true false is there e = let none = occurs_none l es there in omega (arith, none)
    new false true is there e = omega arith
    new false false is there e = refl

    by : (b : Bool) → member x es ≡ b →
        cond (member l (cond b es (es ++ (x ∷ [])))) (occurs l (cond b es (es ++ (x ∷ [])))) (cond (member l ls) 1 0) ≡ cond (member l es) (occurs l es) (cond (eqb l x || member l ls) 1 0)
    by true e = held (eqb l x) refl e
    by false e =
        ap₂ (λ (m : Bool) (n : ℕ). cond m n (cond (member l ls) 1 0)) (member_append l es (x ∷ [])) (occurs_append l es (x ∷ [])) ∙ new (eqb l x) (member l es) refl refl e

-- a local that is held stands in the entries as often as before; another that is marked stands there once, and one that is not marked never
pub occurs_recorded : (l : ℕ) (es ls : List ℕ) → occurs l (recorded es ls) ≡ cond (member l es) (occurs l es) (cond (member l ls) 1 0)
unfolding recorded member
occurs_recorded l es [] = by (member l es) refl
  where
    by : (b : Bool) → member l es ≡ b → occurs l es ≡ cond b (occurs l es) 0
    by true e = refl
    by false e = occurs_none l es e
occurs_recorded l es (x ∷ ls) = occurs_recorded l (cond (member x es) es (es ++ (x ∷ []))) ls ∙ occurs_mark es ls x l

-- the entries before stand in front
pub recorded_behind : (es ls : List ℕ) → (added : List ℕ) × (recorded es ls ≡ es ++ added)
unfolding recorded
recorded_behind es [] = ([], sym (append-nil es))
recorded_behind es (x ∷ ls) = by (member x es) (λ ds. recorded_behind ds ls)
  where
    by : (b : Bool) → ((ds : List ℕ) → (added : List ℕ) × (recorded ds ls ≡ ds ++ added)) → (added : List ℕ) × (recorded (cond b es (es ++ (x ∷ []))) ls ≡ es ++ added)
    by true rest = rest es
    by false rest = let (added, e) = rest (es ++ (x ∷ [])) in (x ∷ added, e ∙ append_assoc es (x ∷ []) added)
