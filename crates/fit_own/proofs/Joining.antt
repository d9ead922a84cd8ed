-- Answers put together: two tests, two patterns that are both reached, alternatives, and a pattern with those below it. Assumes nothing.
use mathlib.Core.Path.{◌≡◌, refl, sym, ◌∙◌}
use mathlib.Core.Bool.{Bool, true, false, cond, ◌&&◌, ◌||◌, not}
use Rattle.fit_own.specs.declared.Reached.{Reached}
use Rattle.fit_own.specs.Answers.{reached_as, with_test}

-- two tests of which the first fails, and of which it does not: `record_taken` and `tuple_struct_taken`
module _ {a t : Bool} (first : t ≡ a) (b : Bool) where
  pub first_no : t ≡ false → false ≡ a && b
  first_no e = rw (sym first ∙ e)

  pub first_yes : t ≡ true → {r : Bool} → r ≡ b → r ≡ a && b
  first_yes e h = h ∙ rw (sym first ∙ e)

-- a pattern, and others that are reached too
abbrev pub both : Reached → Reached → Reached
both Reached.Refused r = Reached.Refused
both Reached.Sure r = r
both Reached.CanFail r = with_test true r

-- an alternative, and those behind it
abbrev pub or_else : Reached → Reached → Reached
or_else Reached.Refused r = Reached.Refused
or_else Reached.Sure r = Reached.Sure
or_else Reached.CanFail r = r

pub join_both : (t f t' f' : Bool) → reached_as (t && t') (f || f') ≡ both (reached_as t f) (reached_as t' f')
unfolding reached_as
join_both true true true true = refl
join_both true true true false = refl
join_both true true false f' = refl
join_both true false t' f' = refl
join_both false f t' f' = refl

pub join_else : (t f t' f' : Bool) → reached_as (t && (not f || t')) (f && f') ≡ or_else (reached_as t f) (reached_as t' f')
unfolding reached_as
join_else true true t' f' = refl
join_else true false t' f' = refl
join_else false f t' f' = refl

-- what is refused stays so, and a second test changes nothing
pub test_refused : (b : Bool) → with_test b Reached.Refused ≡ Reached.Refused
test_refused true = refl
test_refused false = refl

pub test_again : (b : Bool) (r : Reached) → with_test b (with_test true r) ≡ with_test true r
test_again true Reached.Refused = refl
test_again true Reached.Sure = refl
test_again true Reached.CanFail = refl
test_again false r = refl

-- a pattern that is not refused itself, with its test, and those below it
pub join_below : (own test t f : Bool) → reached_as (own && t) (test || f) ≡ cond own (with_test test (reached_as t f)) Reached.Refused
unfolding reached_as
join_below true true true true = refl
join_below true true true false = refl
join_below true true false f = refl
join_below true false t f = refl
join_below false test t f = refl

-- none below it
pub join_leaf : (own test : Bool) → reached_as own test ≡ cond own (with_test test Reached.Sure) Reached.Refused
unfolding reached_as
join_leaf true true = refl
join_leaf true false = refl
join_leaf false test = refl
