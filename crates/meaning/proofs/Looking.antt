-- What a local holds after some assignments, the later ones winning; among distinct locals their order does not matter. Assumes nothing.
use Prim.Native.Nat.{ℕ}
use mathlib.Core.Path.{◌≡◌, refl, sym, ap, ◌∙◌}
use mathlib.Core.Bool.{Bool, true, false, cond, not, ◌||◌, false≢true, or_assoc}
use mathlib.Core.List.{List, [], ◌∷◌, ◌++◌, map, reverse, reverse-cons, map-append, append-nil, append_assoc}
use lib.Dec.{eqb}
use borrow.Author.Tests.{eqb-true, not-true}
use Rattle.image.specs.Lists.{member, distinct}
use Rattle.image.proofs.Bools.{and_left, and_right, and_true}
use Rattle.meaning.specs.Running.{Held, Env, update}

-- a local, and what it is made to hold
pub record Kept : Type 0 where
  pub local : ℕ
  pub held : Held

-- what a local holds after these, where it held d
unfoldable pub look : ℕ → List Kept → Held → Held
look l [] d = d
look l (x ∷ xs) d = look l xs (cond (eqb l x.local) x.held d)

abbrev pub locals : List Kept → List ℕ
locals xs = map (λ x. x.local) xs

-- one after another
pub look_append : (l : ℕ) (xs ys : List Kept) (d : Held) → look l (xs ++ ys) d ≡ look l ys (look l xs d)
unfolding look
look_append l [] ys d = refl
look_append l (x ∷ xs) ys d = look_append l xs ys (cond (eqb l x.local) x.held d)

-- one alone is an update
pub look_update : (l : ℕ) (x : Kept) (env : Env) → look l (x ∷ []) (env l) ≡ update env x.local x.held l
unfolding look update
look_update l x env = refl

-- a local that is not among them keeps what it holds
pub look_absent : (l : ℕ) (xs : List Kept) (d : Held) → member l (locals xs) ≡ false → look l xs d ≡ d
unfolding look member
look_absent l [] d e = refl
look_absent l (x ∷ xs) d e = by (eqb l x.local) (look_absent l xs d) e
  where
    by : (b : Bool) → (member l (locals xs) ≡ false → look l xs d ≡ d) → b || member l (locals xs) ≡ false → look l xs (cond b x.held d) ≡ d
    by true k q = absurd (false≢true (sym q))
    by false k q = k q

member_append : (l : ℕ) (xs ys : List ℕ) → member l (xs ++ ys) ≡ member l xs || member l ys
unfolding member
member_append l [] ys = refl
member_append l (x ∷ xs) ys = ap (λ (b : Bool). eqb l x || b) (member_append l xs ys) ∙ sym (or_assoc (eqb l x) (member l xs) (member l ys))

-- what stands in one part of distinct numbers does not stand in the other
pub distinct_apart : (l : ℕ) (xs ys : List ℕ) → distinct (xs ++ ys) ≡ true → member l xs ≡ true → member l ys ≡ false
unfolding distinct member
distinct_apart l [] ys e m = absurd (false≢true m)
distinct_apart l (x ∷ xs) ys e m =
    by (eqb l x) refl (distinct_apart l xs ys (and_right (not (member x (xs ++ ys))) (distinct (xs ++ ys)) e)) (not-true (member x (xs ++ ys)) (and_left (not (member x (xs ++ ys))) (distinct (xs ++ ys)) e)) m
  where
    second : (a b : Bool) → a || b ≡ false → b ≡ false
    second true b q = absurd (false≢true (sym q))
    second false b q = q

    by : (b : Bool) → eqb l x ≡ b → (member l xs ≡ true → member l ys ≡ false) → member x (xs ++ ys) ≡ false → b || member l xs ≡ true → member l ys ≡ false
    by true q k absent r = rw (eqb-true l x q) (second (member x xs) (member x ys) (sym (member_append x xs ys) ∙ absent))
    by false q k absent r = k r

pub distinct_right : (xs ys : List ℕ) → distinct (xs ++ ys) ≡ true → distinct ys ≡ true
unfolding distinct
distinct_right [] ys e = e
distinct_right (x ∷ xs) ys e = distinct_right xs ys (and_right (not (member x (xs ++ ys))) (distinct (xs ++ ys)) e)

pub distinct_left : (xs ys : List ℕ) → distinct (xs ++ ys) ≡ true → distinct xs ≡ true
unfolding distinct
distinct_left [] ys e = refl
distinct_left (x ∷ xs) ys e =
    and_true (not (member x xs)) (distinct xs) (alone (member x xs) (member x ys) (member x (xs ++ ys)) (member_append x xs ys) (and_left (not (member x (xs ++ ys))) (distinct (xs ++ ys)) e))
    (distinct_left xs ys (and_right (not (member x (xs ++ ys))) (distinct (xs ++ ys)) e))
  where
    alone : (a b c : Bool) → c ≡ a || b → not c ≡ true → not a ≡ true
    alone true b c q r = absurd (false≢true (ap not (sym q) ∙ r))
    alone false b c q r = refl

-- parts that share no local, in either order
pub look_either : (l : ℕ) (xs ys : List Kept) (d : Held) → distinct (locals (xs ++ ys)) ≡ true → look l ys (look l xs d) ≡ look l xs (look l ys d)
look_either l xs ys d e = by (member l (locals xs)) refl
  where
    apart : member l (locals xs) ≡ true → member l (locals ys) ≡ false
    apart m = distinct_apart l (locals xs) (locals ys) (ap distinct (sym (map-append (λ x. x.local) xs ys)) ∙ e) m

    by : (b : Bool) → member l (locals xs) ≡ b → look l ys (look l xs d) ≡ look l xs (look l ys d)
    by true q = look_absent l ys (look l xs d) (apart q) ∙ ap (look l xs) (sym (look_absent l ys d (apart q)))
    by false q = ap (look l ys) (look_absent l xs d q) ∙ sym (look_absent l xs (look l ys d) q)

pub look_swap : (l : ℕ) (xs ys : List Kept) (d : Held) → distinct (locals (xs ++ ys)) ≡ true → look l (xs ++ ys) d ≡ look l (ys ++ xs) d
look_swap l xs ys d e = look_append l xs ys d ∙ look_either l xs ys d e ∙ sym (look_append l ys xs d)

-- neighbouring parts, with others before and behind them
pub look_exchange : (l : ℕ) (before xs ys behind : List Kept) (d : Held) → distinct (locals (xs ++ ys)) ≡ true
    → look l (before ++ ((xs ++ ys) ++ behind)) d ≡ look l (before ++ ((ys ++ xs) ++ behind)) d
look_exchange l before xs ys behind d e =
    look_append l before ((xs ++ ys) ++ behind) d ∙ look_append l (xs ++ ys) behind (look l before d) ∙ ap (look l behind) (look_swap l xs ys (look l before d) e)
    ∙ sym (look_append l (ys ++ xs) behind (look l before d)) ∙ sym (look_append l before ((ys ++ xs) ++ behind) d)

-- parts in a row
unfoldable pub joined : List (List Kept) → List Kept
joined [] = []
joined (xs ∷ parts) = xs ++ joined parts

pub joined_append : (parts others : List (List Kept)) → joined (parts ++ others) ≡ joined parts ++ joined others
unfolding joined
joined_append [] others = refl
joined_append (xs ∷ parts) others = ap (λ (ys : List Kept). xs ++ ys) (joined_append parts others) ∙ sym (append_assoc xs (joined parts) (joined others))

-- the parts from the last on
pub look_parts : (l : ℕ) (parts : List (List Kept)) (d : Held) → distinct (locals (joined parts)) ≡ true → look l (joined (reverse parts)) d ≡ look l (joined parts) d
unfolding joined
look_parts l [] d e = refl
look_parts l (xs ∷ parts) d e =
    ap (λ (ps : List (List Kept)). look l (joined ps) d) (reverse-cons xs parts)
    ∙ ap (λ (ys : List Kept). look l ys d) (joined_append (reverse parts) (xs ∷ []) ∙ ap (λ (ys : List Kept). joined (reverse parts) ++ ys) (append-nil xs))
    ∙ look_append l (joined (reverse parts)) xs d
    ∙ ap (look l xs) (look_parts l parts d (distinct_right (locals xs) (locals (joined parts)) (ap distinct (sym (map-append (λ x. x.local) xs (joined parts))) ∙ e)))
    ∙ sym (look_either l xs (joined parts) d e)
    ∙ sym (look_append l xs (joined parts) d)

-- assignments to distinct locals, from the last on
pub look_reverse : (l : ℕ) (xs : List Kept) (d : Held) → distinct (locals xs) ≡ true → look l (reverse xs) d ≡ look l xs d
unfolding distinct
look_reverse l [] d e = refl
look_reverse l (x ∷ xs) d e =
    ap (λ (ys : List Kept). look l ys d) (reverse-cons x xs)
    ∙ look_append l (reverse xs) (x ∷ []) d
    ∙ ap (look l (x ∷ [])) (look_reverse l xs d (and_right (not (member x.local (locals xs))) (distinct (locals xs)) e))
    ∙ sym (look_either l (x ∷ []) xs d e)
    ∙ sym (look_append l (x ∷ []) xs d)
