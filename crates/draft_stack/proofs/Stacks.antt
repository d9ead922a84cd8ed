-- The laws of the stack: rows of makings one behind the other, and one making on top of its parts' words. Assumes nothing.
use Prim.Native.Nat.{ℕ, ◌+◌, ◌-◌, ◌≤◌}
use mathlib.Core.Path.{◌≡◌, refl, sym, ap, ap₂, subst, ◌∙◌}
use mathlib.Core.Bool.{true, ◌&&◌}
use mathlib.Core.List.{List, [], ◌∷◌, ◌++◌}
use native.Mathlib.Omega.{arith}
use borrow.Author.Tests.{leb-true, le-leb}
use lib.Dec.{leb}
use lib.ListN.{length, take, drop, length-append, length-drop}
use lib.Seq.{length-take-le, take_at, drop_at}
use Rattle.image.proofs.Bools.{and_left, and_right, and_true}
use Rattle.pattern_typing.specs.Making.{Making, not_made, row_made, literal_made, operand_made, operand_named, range_made, bind_made, reference_made, list_made, slice_made, field_made}
use Rattle.pattern_typing.specs.Closed.{ClosedMaking}
use Rattle.pattern_images.specs.Drafts.{Draft}
use Rattle.pattern_images.specs.Emitting.{emit_node}
use Rattle.draft_stack.specs.Stack.{words_taken, words_put, stacked_on, emit_one, emit_up, may_have_parts, parts_stand}

-- a making puts so many words on the stack
pub words_put_lem : (sheet : List ℕ) (m : Making) (many : ℕ) (stands : List ℕ) (d : Draft) → length (emit_node sheet m many stands d).stands ≡ words_put m (length stands)
unfolding emit_node words_put
words_put_lem sheet not_made many stands d = refl
words_put_lem sheet (row_made row) many stands d = refl
words_put_lem sheet (literal_made t derefs v) many stands d = refl
words_put_lem sheet (operand_made v) many stands d = refl
words_put_lem sheet (operand_named o) many stands d = refl
words_put_lem sheet (range_made t derefs lower upper dots) many stands d = refl
words_put_lem sheet (bind_made t mode annotation name at) many stands d = refl
words_put_lem sheet (reference_made t) many stands d = refl
words_put_lem sheet (list_made row) many stands d = refl
words_put_lem sheet (slice_made t derefs before) many stands d = refl
words_put_lem sheet (field_made number) many stands d = refl

module _ (sheet : List ℕ) where
  -- a row of makings behind another
  pub emit_append : (xs ys : List ClosedMaking) (stack : List ℕ) (d : Draft) → emit_up sheet (xs ++ ys) stack d ≡ emit_up sheet ys (emit_up sheet xs stack d).stack (emit_up sheet xs stack d).draft
  unfolding emit_up
  emit_append [] ys stack d = refl
  emit_append (x ∷ xs) ys stack d = emit_append xs ys (emit_one sheet x stack d).stack (emit_one sheet x stack d).draft

  -- how high the stack is behind a making
  pub height_one : (m : ClosedMaking) (stack : List ℕ) (d : Draft) → words_taken m ≤ length stack → length (emit_one sheet m stack d).stack ≡ length stack - words_taken m + words_put m.makes (words_taken m)
  unfolding emit_one
  height_one m stack d h =
      let left = length stack - words_taken m in
      let taken : length (drop left stack) ≡ words_taken m = omega (arith, length-drop left stack) in
      length-append (take left stack) (emit_node sheet m.makes m.parts (drop left stack) d).stands
      ∙ ap₂ (λ (a b : ℕ). a + b) (length-take-le left stack (omega arith)) (words_put_lem sheet m.makes m.parts (drop left stack) d ∙ ap (words_put m.makes) taken)

  -- what a row asks of its first making, and of those behind it
  pub stand_first : (m : ClosedMaking) (ms : List ClosedMaking) (stack : List ℕ) (d : Draft) → parts_stand (m ∷ ms) (length stack) ≡ true → (may_have_parts m.makes m.parts ≡ true) × ((words_taken m ≤ length stack) × (parts_stand ms (length (emit_one sheet m stack d).stack) ≡ true))
  unfolding parts_stand
  stand_first m ms stack d e =
      let fits = may_have_parts m.makes m.parts in
      let enough = leb (words_taken m) (length stack) in
      let height = length stack - words_taken m + words_put m.makes (words_taken m) in
      let first = and_left (fits && enough) (parts_stand ms height) e in
      let long = leb-true (words_taken m) (length stack) (and_right fits enough first) in
      (and_left fits enough first, (long, subst (λ (k : ℕ). parts_stand ms k ≡ true) (sym (height_one m stack d long)) (and_right (fits && enough) (parts_stand ms height) e)))

  pub first_stands : (m : ClosedMaking) (ms : List ClosedMaking) (stack : List ℕ) (d : Draft) → may_have_parts m.makes m.parts ≡ true → words_taken m ≤ length stack → parts_stand ms (length (emit_one sheet m stack d).stack) ≡ true → parts_stand (m ∷ ms) (length stack) ≡ true
  unfolding parts_stand
  first_stands m ms stack d fits long e =
      let enough = leb (words_taken m) (length stack) in
      let height = length stack - words_taken m + words_put m.makes (words_taken m) in
      and_true (may_have_parts m.makes m.parts && enough) (parts_stand ms height)
      (and_true (may_have_parts m.makes m.parts) enough fits (le-leb (words_taken m) (length stack) long))
      (subst (λ (k : ℕ). parts_stand ms k ≡ true) (height_one m stack d long) e)

  -- the parts of a row stand, and those of the one behind it
  pub stand_append : (xs ys : List ClosedMaking) (stack : List ℕ) (d : Draft) → parts_stand xs (length stack) ≡ true → parts_stand ys (length (emit_up sheet xs stack d).stack) ≡ true → parts_stand (xs ++ ys) (length stack) ≡ true
  unfolding emit_up
  stand_append [] ys stack d e f = f
  stand_append (x ∷ xs) ys stack d e f =
      let known = stand_first x xs stack d e in
      first_stands x (xs ++ ys) stack d known.0 known.1.0
      (stand_append xs ys (emit_one sheet x stack d).stack (emit_one sheet x stack d).draft known.1.1 f)

  -- so do those of a row behind another
  pub stand_behind : (xs ys : List ClosedMaking) (stack : List ℕ) (d : Draft) → parts_stand (xs ++ ys) (length stack) ≡ true → parts_stand ys (length (emit_up sheet xs stack d).stack) ≡ true
  unfolding emit_up
  stand_behind [] ys stack d e = e
  stand_behind (x ∷ xs) ys stack d e =
      stand_behind xs ys (emit_one sheet x stack d).stack (emit_one sheet x stack d).draft (stand_first x (xs ++ ys) stack d e).1.1

  -- a making on top of its parts' words
  pub emit_top : (m : ClosedMaking) (stack words : List ℕ) (d : Draft) → length words ≡ words_taken m → emit_one sheet m (stack ++ words) d ≡ stacked_on stack (emit_node sheet m.makes m.parts words d)
  unfolding emit_one
  emit_top m stack words d e =
      let left : length stack ≡ length (stack ++ words) - words_taken m = omega (arith, length-append stack words) in
      ap₂ (λ (below taken : List ℕ). stacked_on below (emit_node sheet m.makes m.parts taken d))
      (take_at stack words (length (stack ++ words) - words_taken m) left)
      (drop_at stack words (length (stack ++ words) - words_taken m) left)
