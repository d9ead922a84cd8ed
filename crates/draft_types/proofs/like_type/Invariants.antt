use mathlib.Core.Path.{◌≡◌}
use Prim.Native.Nat.{◌-◌, ◌≤◌}
use Rattle.name_tables.specs.Names.{first_from}
use Rattle.pattern_images.specs.Drafts.{alike}
use Rattle.draft_types.specs.Types.{type_from}
use Rattle.draft_types.proofs.like_type.Given as goal

abbrev pub invariant-loop-t : goal.invariant-loop-t
invariant-loop-t l = (l.t ≤ l.many) × (first_from (λ k. alike l.row (type_from l.sheet l.draft k)) l.t (l.many - l.t) ≡ first_from (λ k. alike l.row (type_from l.sheet l.draft k)) 0 l.many)
