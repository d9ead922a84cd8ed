-- What is made of the nodes of a pattern, in the order in which they close. Assumes nothing: these are definitions.
use Rattle.std.specs.Prelude.{ℕ, List, [], ◌∷◌, ◌++◌}
use Rattle.pattern_syntax.specs.Written.{Written, written, Parts, no_parts, more, part_count}
use Rattle.pattern_typing.specs.Contexts.{Context, PartsRead, part_context}
use Rattle.pattern_typing.specs.Making.{Making}
use Rattle.pattern_typing.specs.Resolving.{resolved}

-- what is made of a node, and how many parts it has
pub record ClosedMaking : Type 0 where
  pub makes : Making
  pub parts : ℕ

abbrev pub closed_making : Making → ℕ → ClosedMaking
closed_making m many = record { makes = m; parts = many }

unfoldable mutual
  pub makings : List ℕ → List ℕ → Written → Context → List ClosedMaking
  makings sheet names (written at n ps) context =
      makings_among sheet names ps (resolved sheet names at n (part_count ps) context).reads
      ++ (closed_making (resolved sheet names at n (part_count ps) context).making (part_count ps) ∷ [])

  pub makings_among : List ℕ → List ℕ → Parts → PartsRead → List ClosedMaking
  makings_among sheet names no_parts reads = []
  makings_among sheet names (more ps w) reads =
      makings_among sheet names ps reads ++ makings sheet names w (part_context sheet reads (part_count ps))
