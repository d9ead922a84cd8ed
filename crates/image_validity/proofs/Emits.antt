-- What is added for a node holds in the whole image, and uses what stood for its parts once. Assumes nothing.
use Prim.Native.Nat.{ℕ, zero, suc, ◌+◌, ◌*◌, ◌≤◌, ◌<◌}
use mathlib.Core.Path.{◌≡◌, refl, ap, ◌∙◌}
use mathlib.Core.Bool.{Bool, true, false, cond, false≢true}
use mathlib.Core.Option.{Option, none, some}
use mathlib.Core.List.{List, [], ◌∷◌, ◌++◌}
use native.Mathlib.Omega.{arith}
use borrow.Author.Tests.{ltb-true, lt-ltb, le-leb}
use lib.Dec.{eqb}
use lib.ListN.{length, get_or, take, drop, length-append, length-drop}
use lib.Seq.{length-take-le, split_at}
use Rattle.image.specs.declared.rows.PatRow.{PatRow}
use Rattle.image.specs.Kinds.{pat_kind}
use Rattle.image.specs.Tables.{type_count, binding_count, list_count}
use Rattle.image.specs.Lists.{all_in}
use Rattle.image.specs.Operands.{operand_holds}
use Rattle.image.specs.Rules.{absent, names_type, listed}
use Rattle.image.specs.Subpatterns.{if_present, subpatterns_by}
use Rattle.image.specs.Patterns.{operand_or_absent, pattern_shape_holds}
use Rattle.image.proofs.Bools.{and_left, and_right}
use Rattle.pattern_syntax.specs.Written.{LiteralValue}
use Rattle.pattern_syntax.specs.Formed.{literal_formed, one_if, rest_within, Stand, in_pattern, in_range, in_record}
use Rattle.pattern_typing.specs.Making.{BoundAt, Making, row_made, literal_made, operand_made, operand_named, range_made, bind_made, reference_made, list_made, slice_made, field_made, pattern_row}
use Rattle.pattern_images.specs.Drafts.{Draft, Made, next_word, add_pattern, add_words, add_bytes, add_operand, literal_bytes, binding_for}
use Rattle.pattern_images.specs.Emitting.{made, with_pattern, with_list, first_or, item_words, prefix_count, suffix_count, rest_word, with_binding, emit_node}
use Rattle.image_growth.specs.Growing.{Grown}
use Rattle.image_validity.specs.Standing.{Good, Step, one, times}
use Rattle.image_validity.proofs.Tests.{times_join, in_both, and_three, or_right}
use Rattle.image_validity.proofs.Extending.{Extends, extends_on, extends_pattern, extends_with_binding}
use Rattle.image_validity.proofs.Added.{operand_there}
use Rattle.image_validity.proofs.Steps.{step_pattern, good_words, good_bytes}
use Rattle.image_validity.proofs.Bindings.{flag_one, BoundHolds, named, binding_good, binding_patterns, binding_below}

-- what is made of a node with so many parts: what its rows name exists, and its parts stand for what it asks for
pub data Sound (sheet image : List ℕ) : Making → ℕ → Stand → Stand → Type 0 where
  sound_row : (row : PatRow) (many : ℕ) (p : Stand) → row.ty < type_count sheet → pattern_shape_holds (pat_kind row.kind) image row ≡ true →
      subpatterns_by (pat_kind row.kind) image row ≡ [] → Sound sheet image (row_made row) many in_pattern p
  sound_literal : (t derefs : ℕ) (v : LiteralValue) (many : ℕ) (p : Stand) → t < type_count sheet → literal_formed v ≡ true →
      Sound sheet image (literal_made t derefs v) many in_pattern p
  sound_operand : (v : LiteralValue) (many : ℕ) (p : Stand) → literal_formed v ≡ true → Sound sheet image (operand_made v) many in_range p
  sound_named : (o many : ℕ) (p : Stand) → operand_holds image o ≡ true → Sound sheet image (operand_named o) many in_range p
  sound_range : (t derefs : ℕ) (lower upper dots : Bool) (many : ℕ) → t < type_count sheet → many ≡ one_if lower + one_if upper →
      Sound sheet image (range_made t derefs lower upper dots) many in_pattern in_range
  sound_bind : (t mode annotation : ℕ) (name : List ℕ) (at : BoundAt) (many : ℕ) → t < type_count sheet → mode ≤ 2 → annotation ≤ 2 → BoundHolds sheet at → many ≤ 1 →
      Sound sheet image (bind_made t mode annotation name at) many in_pattern in_pattern
  sound_reference : (t many : ℕ) → t < type_count sheet → many ≡ 1 → Sound sheet image (reference_made t) many in_pattern in_pattern
  sound_items : (row : PatRow) (many : ℕ) → row.ty < type_count sheet →
      ((from n : ℕ) → from + n ≤ list_count image → pattern_shape_holds (pat_kind row.kind) image (with_list row from n) ≡ true) →
      ((from n : ℕ) → subpatterns_by (pat_kind row.kind) image (with_list row from n) ≡ listed image 1 from n) →
      Sound sheet image (list_made row) many in_pattern in_pattern
  sound_fields : (row : PatRow) (many : ℕ) → row.ty < type_count sheet →
      ((from n : ℕ) → from + 2 * n ≤ list_count image → pattern_shape_holds (pat_kind row.kind) image (with_list row from n) ≡ true) →
      ((from n : ℕ) → subpatterns_by (pat_kind row.kind) image (with_list row from n) ≡ listed image 2 (from + 1) n) →
      Sound sheet image (list_made row) many in_pattern in_record
  sound_slice : (t derefs : ℕ) (before : Option ℕ) (many : ℕ) → t < type_count sheet → rest_within before many ≡ true →
      Sound sheet image (slice_made t derefs before) many in_pattern in_pattern
  sound_field : (number many : ℕ) → many ≡ 1 → Sound sheet image (field_made number) many in_record in_pattern

-- one that all pass
pub in_at : (test : ℕ → Bool) (xs : List ℕ) (i other : ℕ) → all_in test xs ≡ true → i < length xs → test (get_or xs i other) ≡ true
unfolding all_in
in_at test [] i other h lt = absurd (omega arith)
in_at test (x ∷ xs) zero other h lt = and_left (test x) (all_in test xs) h
in_at test (x ∷ xs) (suc i) other h lt = in_at test xs i other (and_right (test x) (all_in test xs) h) (omega arith)

-- a number that may be absent stands there at most as often as it does
present_times : (q w : ℕ) → times q (if_present w) ≤ one (eqb q w)
unfolding if_present times
present_times q w = by (eqb w absent)
  where
    by : (b : Bool) → times q (cond b [] (w ∷ [])) ≤ one (eqb q w)
    by true = omega arith
    by false = omega arith

present_in : (test : ℕ → Bool) (w : ℕ) → test w ≡ true → all_in test (if_present w) ≡ true
unfolding if_present all_in
present_in test w h = by (eqb w absent)
  where
    by : (b : Bool) → all_in test (cond b [] (w ∷ [])) ≡ true
    by true = refl
    by false = rw h

-- the first, if there is one
first_times : (q : ℕ) (xs : List ℕ) → times q (if_present (first_or xs absent)) ≤ times q xs
unfolding times if_present
first_times q [] = omega arith
first_times q (x ∷ xs) = let l = present_times q x in omega (arith, l)

first_in : (test : ℕ → Bool) (xs : List ℕ) → all_in test xs ≡ true → all_in test (if_present (first_or xs absent)) ≡ true
unfolding all_in if_present
first_in test [] h = refl
first_in test (x ∷ xs) h = present_in test x (and_left (test x) (all_in test xs) h)

-- the only one
only_in : (test : ℕ → Bool) (xs : List ℕ) → length xs ≡ 1 → all_in test xs ≡ true → all_in test (first_or xs absent ∷ []) ≡ true
unfolding all_in
only_in test [] l t = absurd (omega (arith, l))
only_in test (x ∷ xs) l t = rw (and_left (test x) (all_in test xs) t)

only_times : (q : ℕ) (xs : List ℕ) → length xs ≡ 1 → times q (first_or xs absent ∷ []) ≤ times q xs
unfolding times
only_times q [] l = absurd (omega (arith, l))
only_times q (x ∷ xs) l = omega arith

-- the places of a range's bounds
lower_there : (a b : Bool) (n : ℕ) → n ≡ one_if a + one_if b → a ≡ true → 0 < n
lower_there true true n e q = omega (arith, e)
lower_there true false n e q = omega (arith, e)
lower_there false b n e q = absurd (false≢true q)

upper_there : (a b : Bool) (n : ℕ) → n ≡ one_if a + one_if b → b ≡ true → cond a 1 0 < n
upper_there true true n e q = omega (arith, e)
upper_there false true n e q = omega (arith, e)
upper_there true false n e q = absurd (false≢true q)
upper_there false false n e q = absurd (false≢true q)

-- the items of a slice without its rest, and the rest
pub items_times : (q : ℕ) (before : Option ℕ) (many : ℕ) (xs : List ℕ) → length xs ≡ many → rest_within before many ≡ true →
    times q (item_words before xs) + times q (if_present (rest_word before xs)) ≤ times q xs
unfolding item_words rest_word rest_within times if_present
items_times q none many xs long h = omega arith
items_times q (some before) many xs long h =
    let inside = ltb-true before many h in
    let split = ap (times q) (split_at xs before absent (omega (arith, inside, long))) in
    let w = get_or xs before absent in
    omega (
      arith,
      split,
      times_join q (take before xs) (drop (suc before) xs),
      times_join q (take before xs) (w ∷ drop (suc before) xs),
      present_times q w,
    )

pub items_in : (test : ℕ → Bool) (before : Option ℕ) (many : ℕ) (xs : List ℕ) → length xs ≡ many → rest_within before many ≡ true → all_in test xs ≡ true →
    (all_in test (item_words before xs) ≡ true) × (all_in test (if_present (rest_word before xs)) ≡ true)
unfolding item_words rest_word rest_within all_in if_present
items_in test none many xs long h t = (t, refl)
items_in test (some before) many xs long h t =
    let inside = ltb-true before many h in
    let w = get_or xs before absent in
    let split : all_in test (take before xs ++ w ∷ drop (suc before) xs) ≡ true = rw (split_at xs before absent (omega (arith, inside, long))) at t in
    let behind = Rattle.image.proofs.Bools.all_in_right test (take before xs) (w ∷ drop (suc before) xs) split in (
      in_both test (take before xs) (drop (suc before) xs) (Rattle.image.proofs.Bools.all_in_left test (take before xs) (w ∷ drop (suc before) xs) split)
          (and_right (test w) _ behind),
      present_in test w (and_left (test w) (all_in test (drop (suc before) xs)) behind),
    )

pub items_count : (before : Option ℕ) (many : ℕ) (xs : List ℕ) → length xs ≡ many → rest_within before many ≡ true →
    length (item_words before xs) ≡ prefix_count before many + suffix_count before many
unfolding item_words rest_within prefix_count suffix_count
items_count none many xs long h = omega (arith, long)
items_count (some before) many xs long h =
    let inside = ltb-true before many h in
    omega (
      arith,
      inside,
      long,
      length-append (take before xs) (drop (suc before) xs),
      length-take-le before xs (omega (arith, inside, long)),
      length-drop (suc before) xs,
    )

module _ (sheet : List ℕ) (whole : Draft) (image : List ℕ) (g : Grown sheet whole image) where
  pub type_named : (t : ℕ) → t < type_count sheet → names_type image t ≡ true
  type_named t h = named sheet whole image g t (omega (arith, h, g.types_are))

  pub emits_row : (row : PatRow) (many : ℕ) (p : Stand) (d : Draft) (m : Made) → row.ty < type_count sheet → pattern_shape_holds (pat_kind row.kind) image row ≡ true →
      subpatterns_by (pat_kind row.kind) image row ≡ [] → Step sheet image p many d m → Step sheet image in_pattern 1 d (with_pattern sheet row m.draft)
  unfolding times all_in
  emits_row row many p d m t shape bare step =
      step_pattern sheet image row d m.draft step.good (record { named = type_named row.ty t; shape = shape; subs = rw bare })
      (λ q. omega (arith, step.once q, ap (times q) bare))

  operand_good : (v : LiteralValue) (e : Draft) → Good sheet image e → Good sheet image (add_operand sheet v e)
  unfolding add_operand
  operand_good v e h = good_bytes sheet image (literal_bytes v) _ (good_words sheet image _ e h)

  operand_patterns : (v : LiteralValue) (e : Draft) → (add_operand sheet v e).patterns ≡ e.patterns
  unfolding add_operand add_bytes add_words
  operand_patterns v e = refl

  operand_added : (v : LiteralValue) (e : Draft) → literal_formed v ≡ true → Extends (add_operand sheet v e) whole → operand_holds image (next_word sheet e) ≡ true
  unfolding add_operand add_bytes add_words
  operand_added v e h x = operand_there sheet whole image g e v h x.words x.bytes

  pub emits_literal : (t derefs : ℕ) (v : LiteralValue) (many : ℕ) (p : Stand) (d : Draft) (m : Made) → t < type_count sheet → literal_formed v ≡ true →
      Step sheet image p many d m → Extends (add_pattern (pattern_row 10 t derefs (next_word sheet m.draft) 0 0 0) (add_operand sheet v m.draft)) whole →
      Step sheet image in_pattern 1 d (with_pattern sheet (pattern_row 10 t derefs (next_word sheet m.draft) 0 0 0) (add_operand sheet v m.draft))
  unfolding pattern_shape_holds subpatterns_by times all_in
  emits_literal t derefs v many p d m h formed step x =
      let e = m.draft in
      let row = pattern_row 10 t derefs (next_word sheet e) 0 0 0 in
      let same = operand_patterns v e in
      step_pattern sheet image row d (add_operand sheet v e) (operand_good v e step.good)
      (record { named = type_named t h; shape = operand_added v e formed (extends_on (extends_pattern row (add_operand sheet v e)) x); subs = refl })
      (λ q. rw same (omega (arith, step.once q)))

  pub emits_operand : (v : LiteralValue) (many : ℕ) (p : Stand) (d : Draft) (m : Made) → literal_formed v ≡ true → Step sheet image p many d m →
      Extends (add_operand sheet v m.draft) whole →
      Step sheet image in_range 1 d (made (add_operand sheet v m.draft) (next_word sheet m.draft ∷ []))
  unfolding times all_in
  emits_operand v many p d m formed step x =
      let e = m.draft in
      let same = operand_patterns v e in
      record {
        good = operand_good v e step.good;
        once = λ q. rw same (omega (arith, step.once q));
        stood = (refl, rw (operand_added v e formed x));
      }

  pub emits_named : (o many : ℕ) (p : Stand) (d : Draft) (m : Made) → operand_holds image o ≡ true → Step sheet image p many d m →
      Step sheet image in_range 1 d (made m.draft (o ∷ []))
  unfolding times all_in
  emits_named o many p d m h step = record { good = step.good; once = λ q. omega (arith, step.once q); stood = (refl, rw h) }

  -- a bound that there is, and one that there is not
  bound_holds : (b : Bool) (stands : List ℕ) (i : ℕ) → (b ≡ true → i < length stands) → all_in (operand_holds image) stands ≡ true →
      operand_or_absent image (cond b (get_or stands i absent) absent) ≡ true
  bound_holds true stands i lt h = or_right (eqb (get_or stands i absent) absent) (operand_holds image (get_or stands i absent)) (in_at (operand_holds image) stands i absent h (lt refl))
  bound_holds false stands i lt h = refl

  pub emits_range : (t derefs : ℕ) (lower upper dots : Bool) (many : ℕ) (d : Draft) (m : Made) → t < type_count sheet → many ≡ one_if lower + one_if upper →
      Step sheet image in_range many d m →
      Step sheet image in_pattern 1 d (emit_node sheet (range_made t derefs lower upper dots) many m.stands m.draft)
  unfolding emit_node pattern_shape_holds subpatterns_by times all_in
  emits_range t derefs lower upper dots many d m h count step =
      let stands = m.stands in
      step_pattern sheet image _ d m.draft step.good
      (record {
        named = type_named t h;
        shape = and_three _ _ _ (bound_holds lower stands 0 (lower_there lower upper (length stands) (step.stood.0 ∙ count)) step.stood.1)
            (bound_holds upper stands (cond lower 1 0) (upper_there lower upper (length stands) (step.stood.0 ∙ count)) step.stood.1)
            (flag_one dots);
        subs = refl;
      })
      (λ q. omega (arith, step.once q))

  pub emits_bind : (t mode annotation : ℕ) (name : List ℕ) (at : BoundAt) (many : ℕ) (d : Draft) (m : Made) → t < type_count sheet → mode ≤ 2 → annotation ≤ 2 →
      BoundHolds sheet at →
      Step sheet image in_pattern many d m → Extends (emit_node sheet (bind_made t mode annotation name at) many m.stands m.draft).draft whole →
      Step sheet image in_pattern 1 d (emit_node sheet (bind_made t mode annotation name at) many m.stands m.draft)
  unfolding emit_node pattern_shape_holds subpatterns_by
  emits_bind t mode annotation name at many d m h modes notes bound step x =
      let e = m.draft in
      let o = binding_for e name in
      let b = with_binding sheet o mode name at e in
      let bounded = extends_on (extends_pattern _ b) x in
      let early = extends_on (extends_with_binding sheet o mode name at e) bounded in
      let same = binding_patterns sheet whole image g o mode name at e in
      step_pattern sheet image _ d b (binding_good sheet whole image g o mode name at e bound step.good early bounded)
      (record {
        named = type_named t h;
        shape = and_three _ _ _ (lt-ltb _ (binding_count image) (binding_below sheet whole image g o mode name at e refl step.good early bounded)) (le-leb mode 2 modes)
            (le-leb annotation 2 notes);
        subs = rw same (first_in _ m.stands step.stood.1);
      })
      (λ q. rw same (let l = first_times q m.stands in omega (arith, step.once q, l)))

  pub emits_reference : (t many : ℕ) (d : Draft) (m : Made) → t < type_count sheet → many ≡ 1 → Step sheet image in_pattern many d m →
      Step sheet image in_pattern 1 d (with_pattern sheet (pattern_row 13 t 0 (first_or m.stands absent) 0 0 0) m.draft)
  unfolding pattern_shape_holds subpatterns_by
  emits_reference t many d m h count step =
      step_pattern sheet image _ d m.draft step.good (record { named = type_named t h; shape = refl; subs = only_in _ m.stands (step.stood.0 ∙ count) step.stood.1 })
      (λ q. let l = only_times q m.stands (step.stood.0 ∙ count) in omega (arith, step.once q, l))
