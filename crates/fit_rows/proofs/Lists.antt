-- Laws of lists of bindings: of two joined, of one put between two, and of the two tests. Assumes nothing.
use Prim.Native.Nat.{ℕ}
use mathlib.Core.Path.{◌≡◌, refl, sym, ap, ap₂, ◌∙◌}
use mathlib.Core.Bool.{Bool, true, false, not, ◌&&◌, ◌||◌, false≢true, and_assoc, or_assoc}
use mathlib.Core.Option.{none, some}
use mathlib.Core.List.{List, [], ◌∷◌, ◌++◌, map}
use borrow.Author.Tests.{eqb-true, eqb-false, eq-eqb, ne_eqb}
use lib.Dec.{eqb}
use Rattle.image.specs.declared.BindingId.{BindingId}
use Rattle.image.specs.Lists.{member, distinct}
use Rattle.image.proofs.Bools.{and_left, and_right}
use Rattle.meaning.specs.Fit.{BoundAt, same_count, stands_in, within}
use Rattle.fit_rows.specs.declared.nodes.Own.{Own}
use Rattle.fit_rows.specs.declared.found.Wanted.{Wanted}
use Rattle.fit_rows.specs.declared.found.Test.{Test}
use Rattle.fit_rows.specs.Bound.{any_of, all_of, owned, meets, agrees}

abbrev pub numbers_of : List BoundAt → List ℕ
numbers_of xs = map (λ (x : BoundAt). x.binding) xs

-- no binding stands twice
abbrev pub once : List BoundAt → Bool
once xs = distinct (numbers_of xs)

or_swap : (a b c : Bool) → a || (b || c) ≡ b || (a || c)
or_swap true true c = refl
or_swap true false c = refl
or_swap false true c = refl
or_swap false false c = refl

and_swap : (a b c : Bool) → a && (b && c) ≡ b && (a && c)
and_swap true true c = refl
and_swap true false c = refl
and_swap false true c = refl
and_swap false false c = refl

pub any_append : (f : BoundAt → Bool) (xs ys : List BoundAt) → any_of f (xs ++ ys) ≡ any_of f xs || any_of f ys
unfolding any_of
any_append f [] ys = refl
any_append f (x ∷ xs) ys = ap (λ (b : Bool). f x || b) (any_append f xs ys) ∙ sym (or_assoc (f x) (any_of f xs) (any_of f ys))

pub all_append : (f : BoundAt → Bool) (xs ys : List BoundAt) → all_of f (xs ++ ys) ≡ all_of f xs && all_of f ys
unfolding all_of
all_append f [] ys = refl
all_append f (x ∷ xs) ys = ap (λ (b : Bool). f x && b) (all_append f xs ys) ∙ sym (and_assoc (f x) (all_of f xs) (all_of f ys))

member_append : (b : ℕ) (xs ys : List BoundAt) → member b (numbers_of (xs ++ ys)) ≡ member b (numbers_of xs) || member b (numbers_of ys)
unfolding member
member_append b [] ys = refl
member_append b (x ∷ xs) ys =
    ap (λ (c : Bool). eqb b x.binding || c) (member_append b xs ys) ∙ sym (or_assoc (eqb b x.binding) (member b (numbers_of xs)) (member b (numbers_of ys)))

-- of two joined, where no binding stands twice in the first
pub once_append : (xs ys : List BoundAt) → once xs ≡ true → once (xs ++ ys) ≡ all_of (agrees Test.Apart ys) xs && once ys
unfolding distinct all_of agrees
once_append [] ys e = refl
once_append (x ∷ xs) ys e =
    let m = member x.binding (numbers_of xs) in
    let n = member x.binding (numbers_of ys) in
    ap₂ ◌&&◌ (ap not (member_append x.binding xs ys) ∙ only m n (and_left (not m) (once xs) e)) (once_append xs ys (and_right (not m) (once xs) e))
    ∙ sym (and_assoc (not n) (all_of (agrees Test.Apart ys) xs) (once ys))
  where
    only : (m n : Bool) → not m ≡ true → not (m || n) ≡ not n
    only true n e = absurd (false≢true e)
    only false n e = refl

-- a list is another with bindings put in between
pub record Split (whole own rest : List BoundAt) : Type 0 where
  pub front : List BoundAt
  pub back : List BoundAt
  pub whole_is : whole ≡ front ++ (own ++ back)
  pub rest_is_lem : rest ≡ front ++ back

-- no binding is put in
pub split_none : {whole rest : List BoundAt} → whole ≡ rest → Split whole [] rest
split_none {whole = whole} {rest = rest} e = record { front = []; back = rest; whole_is = e; rest_is_lem = refl }

module _ {whole own rest : List BoundAt} (f : BoundAt → Bool) (s : Split whole own rest) where
  pub any_split : any_of f whole ≡ any_of f own || any_of f rest
  any_split =
      let a = s.front in
      let b = s.back in
      ap (any_of f) s.whole_is
      ∙ any_append f a (own ++ b)
      ∙ ap (λ (c : Bool). any_of f a || c) (any_append f own b)
      ∙ or_swap (any_of f a) (any_of f own) (any_of f b)
      ∙ ap (λ (c : Bool). any_of f own || c) (sym (ap (any_of f) s.rest_is_lem ∙ any_append f a b))

  pub all_split : all_of f whole ≡ all_of f own && all_of f rest
  all_split =
      let a = s.front in
      let b = s.back in
      ap (all_of f) s.whole_is
      ∙ all_append f a (own ++ b)
      ∙ ap (λ (c : Bool). all_of f a && c) (all_append f own b)
      ∙ and_swap (all_of f a) (all_of f own) (all_of f b)
      ∙ ap (λ (c : Bool). all_of f own && c) (sym (ap (all_of f) s.rest_is_lem ∙ all_append f a b))

eqb_swap : (a b : ℕ) → eqb a b ≡ eqb b a
eqb_swap a b = by (eqb b a) refl
  where
    by : (c : Bool) → eqb b a ≡ c → eqb a b ≡ c
    by true e = eq-eqb a b (sym (eqb-true b a e))
    by false e = ne_eqb a b (λ q. eqb-false b a e (sym q))

member_put : (b : ℕ) (x : BoundAt) (xs ys : List BoundAt) → member b (numbers_of (xs ++ (x ∷ ys))) ≡ eqb b x.binding || member b (numbers_of (xs ++ ys))
unfolding member
member_put b x [] ys = refl
member_put b x (y ∷ xs) ys =
    ap (λ (c : Bool). eqb b y.binding || c) (member_put b x xs ys) ∙ or_swap (eqb b y.binding) (eqb b x.binding) (member b (numbers_of (xs ++ ys)))

once_put : (x : BoundAt) (xs ys : List BoundAt) → once (xs ++ (x ∷ ys)) ≡ not (member x.binding (numbers_of (xs ++ ys))) && once (xs ++ ys)
unfolding distinct member
once_put x [] ys = refl
once_put x (y ∷ xs) ys =
    ap₂ ◌&&◌ (ap not (member_put y.binding x xs ys)) (once_put x xs ys)
    ∙ turn (eqb y.binding x.binding) (member y.binding (numbers_of (xs ++ ys))) (member x.binding (numbers_of (xs ++ ys))) (once (xs ++ ys))
    ∙ ap (λ (c : Bool). not (c || member x.binding (numbers_of (xs ++ ys))) && (not (member y.binding (numbers_of (xs ++ ys))) && once (xs ++ ys))) (eqb_swap y.binding x.binding)
  where
    turn : (e a b c : Bool) → not (e || a) && (not b && c) ≡ not (e || b) && (not a && c)
    turn true a b c = refl
    turn false true true c = refl
    turn false true false c = refl
    turn false false true c = refl
    turn false false false c = refl

one_put : (x : BoundAt) (xs ys : List BoundAt) → once (xs ++ (x ∷ ys)) ≡ not (member x.binding (numbers_of (xs ++ ys))) && true && once (xs ++ ys)
one_put x xs ys = once_put x xs ys ∙ sym (and_assoc (not (member x.binding (numbers_of (xs ++ ys)))) true (once (xs ++ ys)))

-- a pattern's own binding is put in
pub once_split : {whole rest : List BoundAt} (own : Own) → Split whole (owned own) rest → once whole ≡ all_of (agrees Test.Apart rest) (owned own) && once rest
unfolding owned all_of agrees
once_split Own.None s = ap once (s.whole_is ∙ sym s.rest_is_lem)
once_split (Own.At b t) s = rw (s.whole_is, s.rest_is_lem) (one_put (record { binding = b.0; ty = t; length_left = none }) s.front s.back)
once_split (Own.Rest b t n) s = rw (s.whole_is, s.rest_is_lem) (one_put (record { binding = b.0; ty = t; length_left = some n }) s.front s.back)

-- the tests, by what is looked for
pub stands_at : (b : BindingId) (t : ℕ) (ys : List BoundAt) → stands_in (record { binding = b.0; ty = t; length_left = none }) ys ≡ any_of (meets (Wanted.At b t)) ys
unfolding stands_in any_of meets
stands_at b t [] = refl
stands_at b t (y ∷ ys) = ap (λ (c : Bool). (eqb b.0 y.binding && eqb t y.ty && same_count none y.length_left) || c) (stands_at b t ys)

pub stands_rest : (b : BindingId) (t n : ℕ) (ys : List BoundAt) → stands_in (record { binding = b.0; ty = t; length_left = some n }) ys ≡ any_of (meets (Wanted.Rest b t n)) ys
unfolding stands_in any_of meets
stands_rest b t n [] = refl
stands_rest b t n (y ∷ ys) = ap (λ (c : Bool). (eqb b.0 y.binding && eqb t y.ty && same_count (some n) y.length_left) || c) (stands_rest b t n ys)

pub member_any : (b : BindingId) (ys : List BoundAt) → member b.0 (numbers_of ys) ≡ any_of (meets (Wanted.Binding b)) ys
unfolding member any_of meets
member_any b [] = refl
member_any b (y ∷ ys) = ap (λ (c : Bool). eqb b.0 y.binding || c) (member_any b ys)

pub within_all : (xs ys : List BoundAt) → within xs ys ≡ all_of (agrees Test.Same ys) xs
unfolding within all_of agrees
within_all [] ys = refl
within_all (x ∷ xs) ys = ap (λ (c : Bool). stands_in x ys && c) (within_all xs ys)
