use mathlib.Core.Path.{◌≡◌}
use lib.ListN.{drop}
use Rattle.image.specs.Lists.{distinct}
use Rattle.meaning.specs.Fit.{present}
use Rattle.fit_locals.proofs.bindings_differ.Given as goal

abbrev pub invariant-loop-i : goal.invariant-loop-i
invariant-loop-i l = distinct (present l.bindings) ≡ distinct (present (drop l.i l.bindings))
