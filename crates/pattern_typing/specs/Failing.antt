-- Number 20: "the first path or record field that the table lacks for its use, variant or constant with ref, mut or `@`, or subpattern for
-- which its parent's type has no part, with its position". Assumes nothing: these are definitions.
use Rattle.std.specs.Prelude.{ℕ, cond, List, ltb}
use Rattle.std.proofs.Math.Option.{Option, none, some}
use Rattle.pattern_syntax.specs.Written.{Written, written, Parts, no_parts, more, part_count}
use Rattle.pattern_typing.specs.Contexts.{Context, PartsRead, part_context}
use Rattle.pattern_typing.specs.Resolving.{resolved}

-- the lower of two positions
unfoldable pub lower : ℕ → ℕ → ℕ
lower a b = cond (ltb b a) b a

-- the first of two positions in the text, where there are any
unfoldable pub earlier : Option ℕ → Option ℕ → Option ℕ
earlier none b = b
earlier (some a) none = some a
earlier (some a) (some b) = some (lower a b)

unfoldable mutual
  -- the first position in a pattern that is read at a context
  pub refused_in : List ℕ → List ℕ → Written → Context → Option ℕ
  refused_in sheet names (written at n ps) context =
      earlier (resolved sheet names at n (part_count ps) context).refused_at
      (refused_among sheet names ps (resolved sheet names at n (part_count ps) context).reads)

  pub refused_among : List ℕ → List ℕ → Parts → PartsRead → Option ℕ
  refused_among sheet names no_parts reads = none
  refused_among sheet names (more ps w) reads =
      earlier (refused_in sheet names w (part_context sheet reads (part_count ps))) (refused_among sheet names ps reads)
