use Prim.Native.Nat.{◌≤◌}
use mathlib.Core.Path.{◌≡◌}
use mathlib.Core.Bool.{true}
use lib.ListN.{length}
use Rattle.image.specs.Tables.{pattern_count}
use Rattle.image.specs.Lists.{all_below}
use Rattle.image.specs.Patterns.{pattern_holds}
use Rattle.image_marks.proofs.Uses.{UsesLeft}
use Rattle.image_tables.proofs.patterns.take_patterns.Given as goal

abbrev pub invariant-loop-p : goal.invariant-loop-p
invariant-loop-p l = UsesLeft l.image l.p l.marks × (length l.marks ≡ length l.initial.marks) × (l.p ≤ pattern_count l.image) × (all_below (pattern_holds l.image) l.p ≡ true)
