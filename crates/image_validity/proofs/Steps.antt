-- What is kept along a draft: its rows hold in the whole image, and no pattern is used twice. Assumes nothing.
use Prim.Native.Nat.{ℕ, zero, suc, ◌+◌, ◌*◌, ◌≤◌, ◌<◌}
use mathlib.Core.Path.{◌≡◌, refl, sym, ap, ◌∙◌}
use mathlib.Core.Bool.{Bool, true, false}
use mathlib.Core.List.{List, [], ◌∷◌, ◌++◌, append-nil}
use native.Mathlib.Omega.{arith}
use borrow.Author.Tests.{ltb-true, lt-ltb, le-ltb, eqb-true, ltb-false, eqb-false}
use lib.Dec.{eqb, ltb}
use lib.ListN.{length, get_or, length-append}
use Rattle.image.specs.declared.rows.TypeRow.{TypeRow}
use Rattle.image.specs.declared.rows.PatRow.{PatRow}
use Rattle.image.specs.declared.rows.BindingRow.{BindingRow}
use Rattle.image.specs.Kinds.{pat_kind}
use Rattle.image.specs.Tables.{pattern_count}
use Rattle.image.specs.Lists.{all_in}
use Rattle.image.specs.Subpatterns.{subpatterns_by}
use Rattle.pattern_syntax.specs.Formed.{Stand, in_pattern, in_range, in_record}
use Rattle.pattern_images.specs.Drafts.{Draft, Made, next_pattern, add_type, add_pattern, add_binding, add_words, add_bytes}
use Rattle.pattern_images.specs.Emitting.{made, with_pattern}
use Rattle.image_validity.specs.Standing.{one, times, below, seconds, open_in, Each, TypeGood, PatternGood, BindingGood, Good, used, Stood, Step}
use Rattle.image_validity.proofs.Tests.{times_join, in_weaker, in_both, ltb_more}
use Rattle.image_validity.proofs.Extending.{Extends, begins_long}

-- each of a list's rows
module _ {A : Type 0} (holds : ℕ → A → Type 0) where
  pub each_more : (xs : List A) (x : A) (n : ℕ) → Each holds n xs → holds (n + length xs) x → Each holds n (xs ++ (x ∷ []))
  each_more [] x n h own =
      let e : n + 0 ≡ n = omega arith in
      (rw e at own, tt)
  each_more (y ∷ xs) x n h own =
      let e : n + suc (length xs) ≡ suc n + length xs = omega arith in
      (h.0, each_more xs x (suc n) h.1 (rw e at own))

  pub each_at : (xs : List A) (n i : ℕ) (other : A) → Each holds n xs → i < length xs → holds (n + i) (get_or xs i other)
  each_at [] n i other h lt = absurd (omega arith)
  each_at (x ∷ xs) n zero other h lt =
      let e : n + 0 ≡ n = omega arith in
      rw e h.0
  each_at (x ∷ xs) n (suc i) other h lt =
      let e : n + suc i ≡ suc n + i = omega arith in
      rw e (each_at xs (suc n) i other h.1 (omega arith))

-- one below a number
pub below_next : (q n : ℕ) → below q (n + 1) ≡ below q n + one (eqb q n)
below_next q n = by (ltb q n) refl (eqb q n) refl
  where
    by : (a : Bool) → ltb q n ≡ a → (b : Bool) → eqb q n ≡ b → below q (n + 1) ≡ below q n + one (eqb q n)
    by true l true e = absurd (omega (arith, ltb-true q n l, eqb-true q n e))
    by true l false e = rw (l, e, lt-ltb q (n + 1) (omega (arith, ltb-true q n l)))
    by false l true e = rw (l, e, lt-ltb q (n + 1) (omega (arith, eqb-true q n e)))
    by false l false e = rw (l, e, le-ltb q (n + 1) (omega (arith, ltb-false q n l, eqb-false q n e)))

pub below_one : (q n : ℕ) → below q n ≤ 1
below_one q n = by (ltb q n)
  where
    by : (b : Bool) → one b ≤ 1
    by true = omega arith
    by false = omega arith

module _ (sheet : List ℕ) (image : List ℕ) where
  -- the subpatterns of a row more
  pub used_more : (q : ℕ) (rs : List PatRow) (r : PatRow) → times q (used image (rs ++ (r ∷ []))) ≡ times q (used image rs) + times q (subpatterns_by (pat_kind r.kind) image r)
  unfolding used times
  used_more q [] r = ap (times q) (append-nil (subpatterns_by (pat_kind r.kind) image r)) ∙ sym (native.Mathlib.Nat.zero-add (times q (subpatterns_by (pat_kind r.kind) image r)))
  used_more q (x ∷ rs) r =
      let own = subpatterns_by (pat_kind x.kind) image x in
      omega (arith, times_join q own (used image (rs ++ (r ∷ []))), times_join q own (used image rs), used_more q rs r)

  -- nothing is done
  pub step_none : (s : Stand) (d : Draft) → Good sheet image d → Step sheet image s 0 d (made d [])
  unfolding times seconds all_in
  step_none s d h = record { good = h; once = λ q. omega (arith, bare s q); stood = stands s }
    where
      bare : (k : Stand) (q : ℕ) → times q (open_in k []) ≡ 0
      bare in_pattern q = refl
      bare in_range q = refl
      bare in_record q = refl

      stands : (k : Stand) → Stood sheet image k 0 d []
      stands in_pattern = (refl, refl)
      stands in_range = (refl, refl)
      stands in_record = (refl, refl)

  -- seconds of lists of which the first has an even length
  seconds_join : (n : ℕ) (xs ys : List ℕ) → length xs ≡ 2 * n → seconds (xs ++ ys) ≡ seconds xs ++ seconds ys
  unfolding seconds
  seconds_join zero [] ys e = refl
  seconds_join zero (x ∷ xs) ys e = absurd (omega (arith, e))
  seconds_join (suc n) [] ys e = refl
  seconds_join (suc n) (x ∷ []) ys e = absurd (omega (arith, e))
  seconds_join (suc n) (x ∷ y ∷ xs) ys e = ap (◌∷◌ y) (seconds_join n xs ys (omega (arith, e)))

  open_join : (s : Stand) (many : ℕ) (d : Draft) (xs ys : List ℕ) → Stood sheet image s many d xs → open_in s (xs ++ ys) ≡ open_in s xs ++ open_in s ys
  open_join in_pattern many d xs ys h = refl
  open_join in_range many d xs ys h = refl
  open_join in_record many d xs ys h = seconds_join many xs ys h.0

  stood_join : (s : Stand) (many : ℕ) (d e : Draft) (xs ys : List ℕ) → next_pattern sheet d ≤ next_pattern sheet e → Stood sheet image s many d xs → Stood sheet image s 1 e ys →
      Stood sheet image s (suc many) e (xs ++ ys)
  stood_join in_pattern many d e xs ys le h g = (
    omega (arith, length-append xs ys, h.0, g.0),
    in_both _ xs ys (in_weaker _ _ xs (λ q. ltb_more q (next_pattern sheet d) (next_pattern sheet e) le) h.1) g.1,
  )
  stood_join in_range many d e xs ys le h g = (omega (arith, length-append xs ys, h.0, g.0), in_both _ xs ys h.1 g.1)
  stood_join in_record many d e xs ys le h g = (
    omega (arith, length-append xs ys, h.0, g.0),
    rw (seconds_join many xs ys h.0)
        (in_both _ (seconds xs) (seconds ys) (in_weaker _ _ (seconds xs) (λ q. ltb_more q (next_pattern sheet d) (next_pattern sheet e) le) h.1) g.1),
  )

  -- one part more
  pub step_more : (s : Stand) (many : ℕ) (d : Draft) (m n : Made) → Step sheet image s many d m → Extends m.draft n.draft → Step sheet image s 1 m.draft n →
      Step sheet image s (suc many) d (made n.draft (m.stands ++ n.stands))
  step_more s many d m n first grows second =
      record {
        good = second.good;
        once = λ q.
            let both = ap (times q) (open_join s many m.draft m.stands n.stands first.stood) ∙ times_join q (open_in s m.stands) (open_in s n.stands) in
            omega (arith, both, first.once q, second.once q);
        stood = stood_join s many m.draft n.draft m.stands n.stands (omega (arith, begins_long grows.patterns)) first.stood second.stood;
      }

  -- rows more
  pub good_type : (row : TypeRow) (d : Draft) → Good sheet image d → TypeGood image (length d.types) row → Good sheet image (add_type row d)
  unfolding add_type
  good_type row d h own =
      record {
        called = h.called;
        types = each_more (TypeGood image) d.types row 0 h.types (rw (native.Mathlib.Nat.zero-add (length d.types)) own);
        patterns = h.patterns;
        bindings = h.bindings;
      }

  pub good_binding : (row : BindingRow) (name : List ℕ) (d : Draft) → Good sheet image d → BindingGood image (length d.bindings) row → Good sheet image (add_binding row name d)
  unfolding add_binding
  good_binding row name d h own =
      record {
        called = omega (arith, length-append d.called (name ∷ []), length-append d.bindings (row ∷ []), h.called);
        types = h.types;
        patterns = h.patterns;
        bindings = each_more (BindingGood image) d.bindings row 0 h.bindings (rw (native.Mathlib.Nat.zero-add (length d.bindings)) own);
      }

  pub good_words : (ws : List ℕ) (d : Draft) → Good sheet image d → Good sheet image (add_words ws d)
  unfolding add_words
  good_words ws d h = record { called = h.called; types = h.types; patterns = h.patterns; bindings = h.bindings }

  pub good_bytes : (bs : List ℕ) (d : Draft) → Good sheet image d → Good sheet image (add_bytes bs d)
  unfolding add_bytes
  good_bytes bs d h = record { called = h.called; types = h.types; patterns = h.patterns; bindings = h.bindings }

  -- a pattern more, whose subpatterns were open
  pub step_pattern : (row : PatRow) (d e : Draft) → Good sheet image e → PatternGood image (next_pattern sheet e) row →
      ((q : ℕ) → times q (used image e.patterns) + times q (subpatterns_by (pat_kind row.kind) image row) + below q (next_pattern sheet d) ≤ times q (used image d.patterns) + below q (next_pattern sheet e)) →
      Step sheet image in_pattern 1 d (with_pattern sheet row e)
  unfolding add_pattern times all_in
  step_pattern row d e h own once =
      let long = length-append e.patterns (row ∷ []) in
      let next : next_pattern sheet (add_pattern row e) ≡ next_pattern sheet e + 1 = omega (arith, long) in
      record {
        good = record {
          called = h.called;
          types = h.types;
          patterns = each_more (PatternGood image) e.patterns row (pattern_count sheet) h.patterns own;
          bindings = h.bindings;
        };
        once = λ q. omega (arith, used_more q e.patterns row, once q, below_next q (next_pattern sheet e), ap (below q) next);
        stood = (refl, rw (lt-ltb (next_pattern sheet e) (next_pattern sheet (add_pattern row e)) (omega (arith, long))));
      }
