-- The nodes of a tree in the order in which they close: the parts in the text's order, then what they are parts of. Assumes nothing: these are
-- definitions.
use Rattle.std.specs.Prelude.{ℕ, List, [], ◌∷◌, ◌++◌}
use Rattle.pattern_syntax.specs.Written.{Node, Written, written, Parts, no_parts, more, part_count}

-- a node without its parts: where it begins, what it is, and how many parts close before it
pub record ClosedNode : Type 0 where
  pub from : ℕ
  pub is : Node
  pub parts : ℕ

abbrev pub closed_node : ℕ → Node → ℕ → ClosedNode
closed_node at n many = record { from = at; is = n; parts = many }

unfoldable mutual
  pub closing : Written → List ClosedNode
  closing (written at n ps) = closing_parts ps ++ (closed_node at n (part_count ps) ∷ [])

  pub closing_parts : Parts → List ClosedNode
  closing_parts no_parts = []
  closing_parts (more ps w) = closing_parts ps ++ closing w
