-- A row that is stored in parts, one behind the other; and a place's elements, stored as halves. Assumes nothing.
use Prim.Native.Nat.{ℕ, ◌+◌, ◌*◌, ◌/◌, ◌%◌, ◌≤◌, ◌<◌}
use mathlib.Core.Path.{◌≡◌, refl, sym, ap, ◌∙◌}
use mathlib.Core.List.{List, [], ◌∷◌, ◌++◌, append_assoc, append-nil}
use native.Mathlib.Numerals.{add-one}
use native.Mathlib.Omega.{arith}
use lib.ListN.{length, get_or, set, take, drop, replicate, length-append, length-set, take-append-drop}
use lib.Seq.{length-take-le, take_at, drop_at, drop-drop, sets-eq, take-suc, take_all}
use Rattle.row_tables.specs.Rows.{stored}
use Rattle.mir.specs.Statements.{halves, statement_width}

-- two parts stored one behind the other are their join, stored
pub stored_behind : (t : List ℕ) (at : ℕ) (xs ys : List ℕ) (k : ℕ) → k ≡ at + length xs → at + length xs + length ys ≤ length t → stored (stored t at xs) k ys ≡ stored t at (xs ++ ys)
unfolding stored
stored_behind t at xs ys k e h =
    let front = take at t ++ xs in
    let back = drop (at + length xs) t in
    let size : length front ≡ k = length-append (take at t) xs ∙ omega (arith, length-take-le at t (omega arith)) in
    let whole : take at t ++ (xs ++ back) ≡ front ++ back = sym (append_assoc (take at t) xs back) in
    let both : at + length xs + length ys ≡ at + length (xs ++ ys) = omega (arith, length-append xs ys) in
    let tail : drop (k + length ys) (front ++ back) ≡ drop (at + length (xs ++ ys)) t =
    sym (drop-drop (length ys) k (front ++ back)) ∙ ap (drop (length ys)) (drop_at front back k size) ∙ drop-drop (length ys) (at + length xs) t ∙ ap (λ (n : ℕ). drop n t) both in
    ap (λ (l : List ℕ). take k l ++ (ys ++ drop (k + length ys) l)) whole
    ∙ ap (λ (l : List ℕ). l ++ (ys ++ drop (k + length ys) (front ++ back))) (take_at front back k size)
    ∙ ap (λ (l : List ℕ). front ++ (ys ++ l)) tail
    ∙ append_assoc (take at t) xs (ys ++ drop (at + length (xs ++ ys)) t)
    ∙ ap (λ (l : List ℕ). take at t ++ l) (sym (append_assoc xs ys (drop (at + length (xs ++ ys)) t)))

-- nothing stored
stored_none : (t : List ℕ) (at : ℕ) → stored t at [] ≡ t
unfolding stored
stored_none t at = let e : at + 0 ≡ at = omega arith in ap (λ (k : ℕ). take at t ++ drop k t) e ∙ take-append-drop at t

-- two numbers stored one after the other
stored_two : (t : List ℕ) (at a b : ℕ) → at + 2 ≤ length t → set (set t at a) (at + 1) b ≡ stored t at (a ∷ b ∷ [])
unfolding stored
stored_two t at a b h = ap (λ (k : ℕ). set (set t at a) k b) (add-one at) ∙ sets-eq (a ∷ b ∷ []) t at h ∙ append_assoc (take at t) (a ∷ b ∷ []) (drop (at + 2) t)

length_halves : (xs : List ℕ) → length (halves xs) ≡ 2 * length xs
unfolding halves
length_halves [] = refl
length_halves (x ∷ xs) = omega (arith, length_halves xs)

halves_more : (xs : List ℕ) (e : ℕ) → halves (xs ++ (e ∷ [])) ≡ halves xs ++ (e % 65536 ∷ e / 65536 ∷ [])
unfolding halves
halves_more [] e = refl
halves_more (x ∷ xs) e = ap (λ (l : List ℕ). x % 65536 ∷ x / 65536 ∷ l) (halves_more xs e)

-- the halves of the first i elements are stored
pub record Split (elems before words : List ℕ) (i : ℕ) : Type 0 where
  pub is : words ≡ stored before 2 (halves (take i elems))
  pub within : i ≤ length elems
  pub kept : length words ≡ length before

pub split_start : (elems before : List ℕ) → Split elems before before 0
unfolding halves
split_start elems before = record { is = sym (stored_none before 2); within = omega arith; kept = refl }

-- one element more
pub split_more : (elems before words : List ℕ) (i : ℕ) → length elems ≡ 16 → length before ≡ 34 → i < length elems → Split elems before words i →
    Split elems before (set (set words (2 + 2 * i) (get_or elems i 0 % 65536)) (3 + 2 * i) (get_or elems i 0 / 65536)) (i + 1)
split_more elems before words i n m h S =
    let e = get_or elems i 0 in
    let so_far = halves (take i elems) in
    let two = e % 65536 ∷ e / 65536 ∷ [] in
    let count : length so_far ≡ 2 * i = length_halves (take i elems) ∙ ap (λ (k : ℕ). 2 * k) (length-take-le i elems S.within) in
    let next : 3 + 2 * i ≡ 2 + 2 * i + 1 = omega arith in
    let grown : take (i + 1) elems ≡ take i elems ++ (e ∷ []) = ap (λ (k : ℕ). take k elems) (add-one i) ∙ take-suc elems i 0 h in
    record {
      is =
          ap (λ (k : ℕ). set (set words (2 + 2 * i) (e % 65536)) k (e / 65536)) next
          ∙ stored_two words (2 + 2 * i) (e % 65536) (e / 65536) (omega (arith, S.kept))
          ∙ ap (λ (l : List ℕ). stored l (2 + 2 * i) two) S.is
          ∙ stored_behind before 2 so_far two (2 + 2 * i) (omega (arith, count)) (omega (arith, count))
          ∙ ap (stored before 2) (sym (ap halves grown ∙ halves_more (take i elems) e));
      within = omega arith;
      kept = length-set (set words (2 + 2 * i) (e % 65536)) (3 + 2 * i) (e / 65536) ∙ length-set words (2 + 2 * i) (e % 65536) ∙ S.kept;
    }

pub split_end : (elems before words : List ℕ) (i : ℕ) → length elems ≤ i → Split elems before words i → words ≡ stored before 2 (halves elems)
split_end elems before words i h S = S.is ∙ ap (λ (l : List ℕ). stored before 2 (halves l)) (take_all i elems h)

-- a row that is stored in three parts
pub three_parts : (t t₁ t₂ t₃ : List ℕ) (at : ℕ) (head operand place : List ℕ) → length head ≡ 3 → length operand ≡ 12 → length place ≡ 34 → at + statement_width ≤ length t →
    t₁ ≡ stored t at head → t₂ ≡ stored t₁ (at + 3) operand → t₃ ≡ stored t₂ (at + 15) place → t₃ ≡ stored t at (head ++ (operand ++ place))
three_parts t t₁ t₂ t₃ at head operand place a b c h p q r =
    r
    ∙ ap (λ (l : List ℕ). stored l (at + 15) place) (q ∙ ap (λ (l : List ℕ). stored l (at + 3) operand) p ∙ stored_behind t at head operand (at + 3) (omega arith) (omega arith))
    ∙ stored_behind t at (head ++ operand) place (at + 15) (omega (arith, length-append head operand)) (omega (arith, length-append head operand))
    ∙ ap (stored t at) (append_assoc head operand place)

-- the words of a place, behind its local and its count
pub place_row : (l n : ℕ) (elems : List ℕ) → length elems ≡ 16 → stored (l ∷ n ∷ replicate 32 0) 2 (halves elems) ≡ l ∷ n ∷ halves elems
unfolding stored
place_row l n elems e =
    let all : 2 + length (halves elems) ≡ 34 = omega (arith, length_halves elems) in
    ap (λ (k : ℕ). l ∷ n ∷ (halves elems ++ drop k (l ∷ n ∷ replicate 32 0))) all ∙ ap (λ (x : List ℕ). l ∷ n ∷ x) (append-nil (halves elems))
