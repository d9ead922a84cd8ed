-- What the walk answers of patterns: one that is reached is refused, or none is and they can fail or not. Assumes nothing: these are definitions.
use Rattle.std.specs.Prelude.{ℕ, Bool, true, false, cond, List}
use Rattle.image.specs.Tree.{Pat, PatOpt}
use Rattle.fit_own.specs.declared.Reached.{Reached}
use Rattle.fit_own.specs.Failing.{fails_by, fails_by?}
use Rattle.fit_own.specs.Taking.{taken_by, taken_by?}

unfoldable pub reached_as : Bool → Bool → Reached
reached_as taken fails = cond taken (cond fails Reached.CanFail Reached.Sure) Reached.Refused

-- the same with one test more, or none
abbrev pub with_test : Bool → Reached → Reached
with_test false r = r
with_test true Reached.Refused = Reached.Refused
with_test true Reached.Sure = Reached.CanFail
with_test true Reached.CanFail = Reached.CanFail

-- of a pattern
abbrev pub reached_by : List ℕ → List ℕ → Pat → Reached
reached_by image bindings pat = reached_as (taken_by image bindings pat) (fails_by image pat)

-- of one that may be absent
abbrev pub reached_by? : List ℕ → List ℕ → PatOpt → Reached
reached_by? image bindings s = reached_as (taken_by? image bindings s) (fails_by? image s)
