-- A pattern is entered, cut where the code is cut. Assumes nothing: these are definitions.
use Rattle.std.specs.Prelude.{ℕ, zero, suc, ◌+◌, cond, ltb}
use Rattle.refusals.specs.declared.MirLowerError.{MirLowerError}
use Rattle.refusals.specs.Refusals.{Result, done, stopped, and_then}
use Rattle.place.specs.declared.Place.{Place}
use Rattle.place.specs.declared.Projected.{Projected}
use Rattle.place.specs.declared.elems.ProjectionElem.{ProjectionElem}
use Rattle.pattern_matching.specs.Walking.{project}

-- a word of the visits' table, raised by one: it holds at most 65535
unfoldable pub one_more : ℕ → ℕ
one_more n = cond (ltb n 65535) (n + 1) n

-- a projected place, as the definitions have it
abbrev pub projected_result : Projected → Result Place
projected_result r = cond r.ok (done r.place) (stopped MirLowerError.Limit)

-- the place so many derefs on
unfoldable pub derefs_of : Place → ℕ → Result Place
derefs_of place zero = done place
derefs_of place (suc n) = and_then (project place ProjectionElem.Deref) (λ onward. derefs_of onward n)
