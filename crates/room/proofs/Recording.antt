-- How many entries there are after locals were recorded: their order makes no difference, and one more entry before, whose local is none of them, is one more after.
-- Assumes nothing.
use mathlib.Core.Path.{◌≡◌, refl, sym, ap, subst, ◌∙◌}
use mathlib.Core.Bool.{Bool, true, false, cond, ◌||◌, or_assoc, false≢true}
use mathlib.Core.List.{List, [], ◌∷◌, ◌++◌, append_assoc}
use Prim.Native.Nat.{ℕ, ◌+◌, ◌≤◌}
use native.Mathlib.Nat.{le_refl}
use native.Mathlib.Omega.{arith}
use borrow.Author.Tests.{eqb-true, eqb-false, eq-eqb, ne_eqb}
use lib.Dec.{eqb}
use lib.ListN.{length, length-append}
use Rattle.image.specs.Lists.{member}
use Rattle.lower_spec.specs.Recorded.{recorded}

-- the first of two holds
pub or_first : (a b : Bool) → a ≡ true → (a || b) ≡ true
or_first true b e = refl
or_first false b e = absurd (false≢true e)

-- the second does
pub or_second : (a b : Bool) → b ≡ true → (a || b) ≡ true
or_second true b e = refl
or_second false b e = e

-- neither does, so the second does not
pub or_neither : (a b : Bool) → (a || b) ≡ false → b ≡ false
or_neither true b e = absurd (false≢true (sym e))
or_neither false b e = e

-- in the other order, and with nothing behind
or_turned : (a b : Bool) → (a || (b || false)) ≡ (b || a)
or_turned true true = refl
or_turned true false = refl
or_turned false true = refl
or_turned false false = refl

-- of three
or_swapped : (a b c : Bool) → (a || (b || c)) ≡ (b || (a || c))
or_swapped true true c = refl
or_swapped true false c = refl
or_swapped false true c = refl
or_swapped false false c = refl

-- what stands in two lists
pub member_append : (x : ℕ) (xs ys : List ℕ) → member x (xs ++ ys) ≡ (member x xs || member x ys)
unfolding member
member_append x [] ys = refl
member_append x (y ∷ xs) ys = ap (λ (b : Bool). eqb x y || b) (member_append x xs ys) ∙ sym (or_assoc (eqb x y) (member x xs) (member x ys))

-- how many entries a local adds that is held, or not
abbrev added : Bool → ℕ
added held = cond held 0 1

-- the entries after a local was recorded
abbrev with_entry : List ℕ → ℕ → List ℕ
with_entry entries l = cond (member l entries) entries (entries ++ (l ∷ []))

-- what stands there
member_with : (x l : ℕ) (e : List ℕ) → member x (with_entry e l) ≡ (eqb x l || member x e)
unfolding member
member_with x l e = by (member l e) refl
  where
    its : member l e ≡ true → (b : Bool) → eqb x l ≡ b → member x e ≡ (b || member x e)
    its q true p = subst (λ (k : ℕ). member k e ≡ true) (sym (eqb-true x l p)) q
    its q false p = refl

    by : (h : Bool) → member l e ≡ h → member x (cond h e (e ++ (l ∷ []))) ≡ (eqb x l || member x e)
    by true q = its q (eqb x l) refl
    by false q = member_append x e (l ∷ []) ∙ or_turned (member x e) (eqb x l)

-- how many they are
length_with : (e : List ℕ) (l : ℕ) → length (with_entry e l) ≡ length e + added (member l e)
length_with e l = by (member l e)
  where
    by : (h : Bool) → length (cond h e (e ++ (l ∷ []))) ≡ length e + added h
    by true = omega arith
    by false = length-append e (l ∷ [])

-- Entries that hold the same of the locals to be recorded, but n more, are n more afterwards.
pub recorded_beside : (ls e e' : List ℕ) (n : ℕ) → ((x : ℕ) → member x ls ≡ true → member x e' ≡ member x e) → length e' ≡ length e + n →
    length (recorded e' ls) ≡ length (recorded e ls) + n
unfolding recorded member
recorded_beside [] e e' n same more = more
recorded_beside (l ∷ ls) e e' n same more =
    recorded_beside ls (with_entry e l) (with_entry e' l) n
    (λ x q. member_with x l e' ∙ ap (λ (b : Bool). eqb x l || b) (same x (or_second (eqb x l) (member x ls) q)) ∙ sym (member_with x l e))
    (let a = length_with e l in
    let b = length_with e' l in
    let c : added (member l e') ≡ added (member l e) = ap added (same l (or_first (eqb l l) (member l ls) (eq-eqb l l refl))) in
    omega (arith, a, b, c, more))

-- one more entry, whose local is none of those to be recorded
pub recorded_another : (t : ℕ) (ls e : List ℕ) → member t ls ≡ false → length (recorded (e ++ (t ∷ [])) ls) ≡ length (recorded e ls) + 1
unfolding member
recorded_another t ls e none =
    recorded_beside ls e (e ++ (t ∷ [])) 1
    (λ x q. member_append x e (t ∷ []) ∙ or_turned (member x e) (eqb x t) ∙ ap (λ (b : Bool). b || member x e) (ne_eqb x t (other x q))) (length-append e (t ∷ []))
  where
    other : (x : ℕ) → member x ls ≡ true → x ≡ t → ⊥
    other x q p = false≢true (sym none ∙ subst (λ (k : ℕ). member k ls ≡ true) p q)

-- none is taken away
pub recorded_more : (ls e : List ℕ) → length e ≤ length (recorded e ls)
unfolding recorded
recorded_more [] e = le_refl _
recorded_more (l ∷ ls) e = let a = recorded_more ls (with_entry e l) in let b = length_with e l in omega (arith, a, b)

-- locals to be recorded, said otherwise: the same ones, which come to as many entries
pub record Alike (ls ls' : List ℕ) : Type 0 where
  pub members : (x : ℕ) → member x ls ≡ member x ls'
  pub counts : (e : List ℕ) → length (recorded e ls) ≡ length (recorded e ls')

-- the same list
pub alike_is : {ls ls' : List ℕ} → ls ≡ ls' → Alike ls ls'
alike_is q = record { members = λ x. ap (member x) q; counts = λ e. ap (λ (l : List ℕ). length (recorded e l)) q }

-- one and then another
pub alike_on : {ls ls' ls'' : List ℕ} → Alike ls ls' → Alike ls' ls'' → Alike ls ls''
alike_on g h = record { members = λ x. g.members x ∙ h.members x; counts = λ e. g.counts e ∙ h.counts e }

-- behind a local that comes first
alike_behind : {ls ls' : List ℕ} (l : ℕ) → Alike ls ls' → Alike (l ∷ ls) (l ∷ ls')
unfolding recorded member
alike_behind l g = record { members = λ x. ap (λ (b : Bool). eqb x l || b) (g.members x); counts = λ e. g.counts (with_entry e l) }

-- two locals in the other order
alike_swapped : (a b : ℕ) (ls : List ℕ) → Alike (a ∷ b ∷ ls) (b ∷ a ∷ ls)
unfolding recorded member
alike_swapped a b ls =
    record {
      members = λ x. or_swapped (eqb x a) (eqb x b) (member x ls);
      counts = λ e.
          let n = recorded_beside ls (with_entry (with_entry e b) a) (with_entry (with_entry e a) b) 0 (λ x q. both e x) (let m = as_many e in omega (arith, m)) in
          omega (arith, n);
    }
  where
    each : (a b x : ℕ) (e : List ℕ) → member x (with_entry (with_entry e a) b) ≡ (eqb x b || (eqb x a || member x e))
    each a b x e = member_with x b (with_entry e a) ∙ ap (λ (h : Bool). eqb x b || h) (member_with x a e)

    both : (e : List ℕ) (x : ℕ) → member x (with_entry (with_entry e a) b) ≡ member x (with_entry (with_entry e b) a)
    both e x = each a b x e ∙ or_swapped (eqb x b) (eqb x a) (member x e) ∙ sym (each b a x e)

    count : (a b : ℕ) (e : List ℕ) → length (with_entry (with_entry e a) b) ≡ length e + added (member a e) + added (eqb b a || member b e)
    count a b e =
        let m = length_with (with_entry e a) b in
        let n = length_with e a in
        let c : added (member b (with_entry e a)) ≡ added (eqb b a || member b e) = ap added (member_with b a e) in
        omega (arith, m, n, c)

    as_many : (e : List ℕ) → length (with_entry (with_entry e a) b) ≡ length (with_entry (with_entry e b) a)
    as_many e = by (eqb a b) refl
      where
        by : (h : Bool) → eqb a b ≡ h → length (with_entry (with_entry e a) b) ≡ length (with_entry (with_entry e b) a)
        by true p = ap (λ (k : ℕ). length (with_entry (with_entry e a) k)) (sym (eqb-true a b p)) ∙ ap (λ (k : ℕ). length (with_entry (with_entry e k) a)) (eqb-true a b p)
        by false p =
            let m = count a b e in
            let n = count b a e in
            let c : added (eqb b a || member b e) ≡ added (member b e) = ap (λ (h : Bool). added (h || member b e)) (ne_eqb b a (λ q. eqb-false a b p (sym q))) in
            let d : added (eqb a b || member a e) ≡ added (member a e) = ap (λ (h : Bool). added (h || member a e)) p in
            omega (arith, m, n, c, d)

-- a local that comes later may come first
alike_late : (l : ℕ) (xs ys : List ℕ) → Alike (xs ++ (l ∷ ys)) (l ∷ (xs ++ ys))
alike_late l [] ys = alike_is refl
alike_late l (x ∷ xs) ys = alike_on (alike_behind x (alike_late l xs ys)) (alike_swapped x l (xs ++ ys))

-- so may several
alike_first : (os xs ys : List ℕ) → Alike (xs ++ (os ++ ys)) (os ++ (xs ++ ys))
alike_first [] xs ys = alike_is refl
alike_first (o ∷ os) xs ys = alike_on (alike_late o xs (os ++ ys)) (alike_behind o (alike_first os xs ys))

-- those that a list begins with may stand within it
pub alike_moved : (os xs ys ls : List ℕ) → Alike ((os ++ (xs ++ ys)) ++ ls) ((xs ++ (os ++ ys)) ++ ls)
alike_moved os xs ys ls =
    alike_on (alike_is (append_assoc os (xs ++ ys) ls ∙ ap (λ (l : List ℕ). os ++ l) (append_assoc xs ys ls)))
    (alike_on (turned (alike_first os xs (ys ++ ls))) (alike_is (sym (append_assoc xs (os ++ ys) ls ∙ ap (λ (l : List ℕ). xs ++ l) (append_assoc os ys ls)))))
  where
    turned : {ls ls' : List ℕ} → Alike ls ls' → Alike ls' ls
    turned g = record { members = λ x. sym (g.members x); counts = λ e. sym (g.counts e) }
