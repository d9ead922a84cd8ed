-- The nodes of a tree from the last that closes to the first, each read at a context that its parent left: the parents whose parts are not all
-- read wait on a stack. Assumes nothing: these are definitions.
use Rattle.std.specs.Prelude.{ℕ, zero, suc, List, [], ◌∷◌}
use Rattle.std.proofs.Math.Option.{Option, none}
use Rattle.pattern_syntax.specs.Closing.{ClosedNode}
use Rattle.pattern_typing.specs.Contexts.{Context, unseen, PartsRead, same_parts, part_context}
use Rattle.pattern_typing.specs.Crossing.{by_value}
use Rattle.pattern_typing.specs.Resolving.{Resolved, resolved}
use Rattle.pattern_typing.specs.Failing.{earlier}
use Rattle.pattern_typing.specs.Closed.{ClosedMaking, closed_making}

-- how the parts of a parent are read, and how many of them are left
pub record Waiting : Type 0 where
  pub reads : PartsRead
  pub left : ℕ

-- a parent waits while parts of it are left
unfoldable pub wait_for : PartsRead → ℕ → List Waiting → List Waiting
wait_for reads zero stack = stack
wait_for reads (suc many) stack = record { reads = reads; left = suc many } ∷ stack

-- the last part that is left of the parent on top
unfoldable pub last_part : List ℕ → PartsRead → ℕ → Context
last_part sheet reads zero = unseen
last_part sheet reads (suc many) = part_context sheet reads many

unfoldable pub next_context : List ℕ → List Waiting → Context
next_context sheet [] = unseen
next_context sheet (w ∷ stack) = last_part sheet w.reads w.left

-- the stack without it
unfoldable pub without_last : PartsRead → ℕ → List Waiting → List Waiting
without_last reads zero stack = stack
without_last reads (suc many) stack = wait_for reads many stack

unfoldable pub behind_next : List Waiting → List Waiting
behind_next [] = []
behind_next (w ∷ stack) = without_last w.reads w.left stack

-- the stack, the first position that is refused, and what is made of the nodes, in the order in which they close
pub record Typed : Type 0 where
  pub stack : List Waiting
  pub refused : Option ℕ
  pub makes : List ClosedMaking

abbrev pub typed_by : Resolved → ℕ → Typed → Typed
typed_by r many st =
    record {
      stack = wait_for r.reads many (behind_next st.stack);
      refused = earlier r.refused_at st.refused;
      makes = closed_making r.making many ∷ st.makes;
    }

-- one node
unfoldable pub type_node : List ℕ → List ℕ → ClosedNode → Typed → Typed
type_node sheet names n st = typed_by (resolved sheet names n.from n.is n.parts (next_context sheet st.stack)) n.parts st

-- the nodes of a list, the last one first
unfoldable pub type_nodes : List ℕ → List ℕ → List ClosedNode → Typed → Typed
type_nodes sheet names [] st = st
type_nodes sheet names (n ∷ ns) st = type_node sheet names n (type_nodes sheet names ns st)

-- a pattern is read at the expected type, by value
unfoldable pub typing_of : ℕ → Typed
typing_of expected = record { stack = wait_for (same_parts expected by_value) 1 []; refused = none; makes = [] }
