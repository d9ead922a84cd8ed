-- Patterns on the elements that lead to their values: fields in a row, by number and from the end, as the Reference has them. Assumes nothing.
use Prim.Native.Nat.{ℕ, zero, suc, ◌+◌, ◌-◌, ◌≤◌}
use native.Mathlib.Nat.{zero-add}
use native.Mathlib.Numerals.{add-one}
use native.Mathlib.Omega.{arith}
use mathlib.Core.Path.{◌≡◌, refl, sym, ap, ap₂, ◌∙◌}
use mathlib.Core.Bool.{Bool, true, false, ◌&&◌, true≢false, false≢true}
use mathlib.Core.Option.{Option, none, some}
use mathlib.Core.List.{List, [], ◌∷◌, ◌++◌, map, map-append, reverse, reverse_aux, reverse_aux-append}
use borrow.Author.Tests.{eqb-true, leb-true}
use lib.Dec.{ltb}
use lib.ListN.{length, get_or, take, drop, length-take, length-drop, length-map}
use lib.Seq.{drop-cons, take-length, drop-length}
use Rattle.pattern_matching.specs.Slices.{suffix_items}
use Rattle.image.specs.Lists.{up_from}
use Rattle.image.proofs.Bools.{and_right}
use Rattle.place.specs.declared.elems.ProjectionElem.{ProjectionElem}
use Rattle.pattern_matching.specs.Variants.{fields_up_to, resolved}
use Rattle.meaning.specs.Values.{Value, unit_value, parts_of, part_at}
use Rattle.meaning.specs.Matching.{match_all, match_row, match_fields, record_fields, last_items}
use Rattle.meaning.specs.Fit.{arguments_fit, fields_there}
use Rattle.meaning.proofs.Children.{ellipsis_place, from_append, length_from, fields_resolved}

-- nothing is not something
none_not_some : {A : Type 0} {a : A} → none ≡ some a → ⊥
none_not_some e = let z : ◌≡◌ {A = ℕ} 0 1 = cc in omega arith

-- what is there is what is there
some_is : {A : Type 0} {a b : A} → some a ≡ some b → a ≡ b
some_is e = cc

-- whether patterns match, each what its element leads to; surplus ones of either are left out
unfoldable pub zip_match : List ProjectionElem → List (Value → Bool) → Value → Bool
zip_match [] ms w = true
zip_match (elem ∷ elems) [] w = true
zip_match (elem ∷ elems) (m ∷ ms) w = m (part_at elem w) && zip_match elems ms w

-- no pattern
pub zip_none : (elems : List ProjectionElem) (w : Value) → zip_match elems [] w ≡ true
unfolding zip_match
zip_none [] w = refl
zip_none (elem ∷ elems) w = refl

-- of three in a row the first two may change places
and_swap : (a b c : Bool) → a && (b && c) ≡ b && a && c
and_swap true true c = refl
and_swap true false c = refl
and_swap false true c = refl
and_swap false false c = refl

-- what is always so does not matter
pub and_all : (b : Bool) → b && true ≡ b
and_all true = refl
and_all false = refl

-- two in a row before or behind
pub and_assoc : (a b c : Bool) → a && (b && c) ≡ a && b && c
and_assoc true b c = refl
and_assoc false b c = refl

-- the last first, before others
zip_reverse : (elems more : List ProjectionElem) (ms others : List (Value → Bool)) (w : Value) → length elems ≡ length ms →
    zip_match (reverse_aux elems more) (reverse_aux ms others) w ≡ zip_match elems ms w && zip_match more others w
unfolding zip_match
zip_reverse [] more [] others w e = refl
zip_reverse [] more (m ∷ ms) others w e = absurd (omega arith)
zip_reverse (elem ∷ elems) more [] others w e = absurd (omega arith)
zip_reverse (elem ∷ elems) more (m ∷ ms) others w e =
    zip_reverse elems (elem ∷ more) ms (m ∷ others) w (omega arith) ∙ and_swap (zip_match elems ms w) (m (part_at elem w)) (zip_match more others w)

-- parts from the number a on, by elements that lead to them by number
pub zip_numbered : (elem : ℕ → ProjectionElem) (a n : ℕ) (ms : List (Value → Bool)) (w : Value) → ((i : ℕ) → part_at (elem i) w ≡ get_or (parts_of w) i unit_value) → length ms ≤ n →
    a + length ms ≤ length (parts_of w) → zip_match (map elem (up_from a n)) ms w ≡ match_all ms (drop a (parts_of w))
unfolding zip_match match_all up_from
zip_numbered elem a n [] w is few there = zip_none (map elem (up_from a n)) w
zip_numbered elem a zero (m ∷ ms) w is few there = absurd (omega arith)
zip_numbered elem a (suc n) (m ∷ ms) w is few there =
    ap₂ (λ (x y : Bool). x && y) (ap m (is a)) (zip_numbered elem (a + 1) n ms w is (omega arith) (omega arith) ∙ ap (λ (k : ℕ). match_all ms (drop k (parts_of w))) (add-one a))
    ∙ ap (match_all (m ∷ ms)) (sym (drop-cons (parts_of w) a unit_value (omega arith)))

-- a field is a part by its number
field_is : (w : Value) (i : ℕ) → part_at (ProjectionElem.Field i) w ≡ get_or (parts_of w) i unit_value
unfolding part_at
field_is w i = refl

-- the last fields first, and then the others
turned : (a m : ℕ) → reverse (fields_up_to (a + m)) ≡ reverse_aux (map (λ i. ProjectionElem.Field i) (up_from a m)) (reverse (fields_up_to a))
turned a m =
    ap (λ (is : List ℕ). reverse (map (λ i. ProjectionElem.Field i) is)) (from_append 0 a m ∙ ap (λ (b : ℕ). up_from 0 a ++ up_from b m) (zero-add a))
    ∙ ap reverse (map-append (λ i. ProjectionElem.Field i) (up_from 0 a) (up_from a m))
    ∙ reverse_aux-append (fields_up_to a) (map (λ i. ProjectionElem.Field i) (up_from a m)) []

-- patterns on the last fields, from the last on
zip_last : (a : ℕ) (ms : List (Value → Bool)) (w : Value) → a + length ms ≡ length (parts_of w) →
    zip_match (reverse (fields_up_to (length (parts_of w)))) (reverse ms) w ≡ match_all ms (drop a (parts_of w))
zip_last a ms w e =
    ap (λ (n : ℕ). zip_match (reverse (fields_up_to n)) (reverse ms) w) (sym e)
    ∙ ap (λ (es : List ProjectionElem). zip_match es (reverse ms) w) (turned a (length ms))
    ∙ zip_reverse (map (λ i. ProjectionElem.Field i) (up_from a (length ms))) (reverse (fields_up_to a)) ms [] w (length-map (up_from a (length ms)) (λ i. ProjectionElem.Field i) ∙ length_from a (length ms))
    ∙ ap (λ (b : Bool). zip_match (map (λ i. ProjectionElem.Field i) (up_from a (length ms))) ms w && b) (zip_none (reverse (fields_up_to a)) w)
    ∙ and_all (zip_match (map (λ i. ProjectionElem.Field i) (up_from a (length ms))) ms w)
    ∙ zip_numbered (λ i. ProjectionElem.Field i) a (length ms) ms w (field_is w) (omega arith) (omega arith)

-- the items at the end, each by its number among them, are the last elements
last_from_lem : (n i m : ℕ) → i + m ≡ n → map (λ k. ProjectionElem.IndexFromEnd (n - 1 - k)) (up_from i m) ≡ last_items m
unfolding up_from last_items
last_from_lem n i zero e = refl
last_from_lem n i (suc m) e =
    let here : n - 1 - i ≡ m = omega arith in
    ap₂ (λ (k : ℕ) (es : List ProjectionElem). ProjectionElem.IndexFromEnd k ∷ es) here (last_from_lem n (i + 1) m (omega arith))

pub last_items_lem : (n : ℕ) → suffix_items n ≡ last_items n
last_items_lem n = last_from_lem n 0 n (zero-add n)

-- patterns on the items at the end
zip_items : (ms : List (Value → Bool)) (w : Value) → length ms ≤ length (parts_of w) → zip_match (last_items (length ms)) ms w ≡ match_all ms (drop (length (parts_of w) - length ms) (parts_of w))
unfolding zip_match match_all last_items part_at
zip_items [] w there = refl
zip_items (m ∷ ms) w there =
    let n = length (parts_of w) in
    let k = length ms in
    let here : n - 1 - k ≡ n - suc k = omega arith in
    let onward : n - k ≡ suc (n - suc k) = omega arith in
    ap₂ (λ (x y : Bool). x && y) (ap (λ (i : ℕ). m (get_or (parts_of w) i unit_value)) here) (zip_items ms w (omega arith) ∙ ap (λ (i : ℕ). match_all ms (drop i (parts_of w))) onward)
    ∙ ap (match_all (m ∷ ms)) (sym (drop-cons (parts_of w) (n - suc k) unit_value (omega arith)))

-- as the lowering finds them
pub zip_end : (ms : List (Value → Bool)) (w : Value) → length ms ≤ length (parts_of w) → zip_match (suffix_items (length ms)) ms w ≡ match_all ms (drop (length (parts_of w) - length ms) (parts_of w))
zip_end ms w there = ap (λ (es : List ProjectionElem). zip_match es ms w) (last_items_lem (length ms)) ∙ zip_items ms w there

-- arguments in a row: those before the ellipsis on the first fields, and those behind it on the last ones, from the last on
pub zip_row : (ellipsis : Option ℕ) (ms : List (Value → Bool)) (w : Value) → arguments_fit ellipsis (length ms) (length (parts_of w)) ≡ true →
    zip_match (fields_up_to (length (parts_of w))) (take (ellipsis_place ellipsis (length ms)) ms) w
    && zip_match (reverse (fields_up_to (length (parts_of w)))) (reverse (drop (ellipsis_place ellipsis (length ms)) ms)) w
    ≡ match_row ellipsis ms (parts_of w)
unfolding arguments_fit match_row
zip_row none ms w e =
    let n = length (parts_of w) in
    let same : length ms ≡ n = eqb-true (length ms) n e in
    let first : zip_match (fields_up_to n) (take (length ms) ms) w ≡ match_all ms (parts_of w) =
    ap (λ (xs : List (Value → Bool)). zip_match (fields_up_to n) xs w) (take-length ms) ∙ zip_numbered (λ i. ProjectionElem.Field i) 0 n ms w (field_is w) (omega arith) (omega arith) in
    let second : zip_match (reverse (fields_up_to n)) (reverse (drop (length ms) ms)) w ≡ true =
    ap (λ (xs : List (Value → Bool)). zip_match (reverse (fields_up_to n)) (reverse xs) w) (drop-length ms) ∙ zip_none (reverse (fields_up_to n)) w in
    ap₂ (λ (x y : Bool). x && y) first second ∙ and_all (match_all ms (parts_of w)) ∙ ap (λ (b : Bool). b && match_all ms (parts_of w)) (sym e)
zip_row (some k) ms w e =
    let n = length (parts_of w) in
    let few : length ms ≤ n = leb-true (length ms) n e in
    let first : zip_match (fields_up_to n) (take k ms) w ≡ match_all (take k ms) (parts_of w) =
    zip_numbered (λ i. ProjectionElem.Field i) 0 n (take k ms) w (field_is w) (omega (arith, length-take k ms)) (omega (arith, length-take k ms)) in
    let second : zip_match (reverse (fields_up_to n)) (reverse (drop k ms)) w ≡ match_all (drop k ms) (drop (n - (length ms - k)) (parts_of w)) =
    zip_last (n - (length ms - k)) (drop k ms) w (omega (arith, length-drop k ms)) in
    ap₂ (λ (x y : Bool). x && y) first second ∙ ap (λ (b : Bool). b && match_all (take k ms) (parts_of w) && match_all (drop k ms) (drop (n - (length ms - k)) (parts_of w))) (sym e)

-- a Record's arguments on the fields with their numbers
pub zip_fields : (fields : List (Option ℕ)) (count : ℕ) (ms : List (Value → Bool)) (w : Value) → fields_there fields count ≡ true →
    zip_match (record_fields fields) ms w ≡ match_fields fields ms (parts_of w)
unfolding zip_match match_fields record_fields fields_there part_at
zip_fields [] count ms w e = refl
zip_fields (none ∷ fields) count ms w e = absurd (false≢true e)
zip_fields (some i ∷ fields) count [] w e = refl
zip_fields (some i ∷ fields) count (m ∷ ms) w e =
    ap (λ (b : Bool). m (get_or (parts_of w) i unit_value) && b) (zip_fields fields count ms w (and_right (ltb i count) (fields_there fields count) e))

-- fields that are not all there are not resolved
fields_missing : (count : ℕ) (fields : List (Option ℕ)) → fields_there fields count ≡ false → resolved count fields ≡ none
unfolding fields_there resolved
fields_missing count [] e = absurd (true≢false e)
fields_missing count (none ∷ fields) e = refl
fields_missing count (some i ∷ fields) e = by (ltb i count) refl (λ q. fields_missing count fields (rw q at e))
  where
    by : (b : Bool) → ltb i count ≡ b → (ltb i count ≡ true → resolved count fields ≡ none) → resolved count (some i ∷ fields) ≡ none
    by true q k = rw (q, k q)
    by false q k = rw q

-- those that are resolved are there, and named by their numbers
pub fields_there_lem : (count : ℕ) (fields : List (Option ℕ)) (elems : List ProjectionElem) → resolved count fields ≡ some elems → (fields_there fields count ≡ true) × (elems ≡ record_fields fields)
fields_there_lem count fields elems e = by (fields_there fields count) refl
  where
    by : (b : Bool) → fields_there fields count ≡ b → (fields_there fields count ≡ true) × (elems ≡ record_fields fields)
    by true q = (q, some_is (sym e ∙ fields_resolved count fields q))
    by false q = absurd (none_not_some (sym (fields_missing count fields q) ∙ e))
