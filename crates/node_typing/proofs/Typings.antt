-- What the rows of a tree are typed to. Assumes nothing.
use Prim.Native.Nat.{ℕ, ◌+◌, ◌<◌}
use mathlib.Core.Path.{◌≡◌, ap, ◌∙◌}
use native.Mathlib.Omega.{arith}
use mathlib.Core.List.{List}
use Rattle.image.specs.Tables.{type_count}
use Rattle.pattern_syntax.specs.Written.{Written}
use Rattle.pattern_syntax.specs.Closing.{closing}
use Rattle.pattern_typing.specs.Crossing.{by_value}
use Rattle.pattern_typing.specs.Contexts.{typed}
use Rattle.pattern_typing.specs.Failing.{refused_in}
use Rattle.pattern_typing.specs.Closed.{makings}
use Rattle.pattern_typing.specs.Downward.{Typed, wait_for, typing_of}
use Rattle.pattern_typing.proofs.Downward.{pattern_typed}
use Rattle.node_rows.specs.Nodes.{nodes_in}
use Rattle.node_rows.specs.Makings.{makings_in}
use Rattle.name_resolving.specs.Results.{Refused}
use Rattle.name_resolving.specs.Gives.{refused_of, same_row}
use Rattle.type_parts.specs.declared.PartsRow.{PartsRow}
use Rattle.type_parts.specs.Parts.{parts_of}
use Rattle.typing_state.specs.Parents.{stack_of, Stacked}
use Rattle.node_typing.specs.Rows.{starts_at, NodesTyped, PatternTyped}

-- the root waits alone
module _ (sheet before : List ℕ) {waiting : List ℕ} {first expected : ℕ} {reads : PartsRow} (e : reads ≡ same_row expected 0) (S : Stacked waiting first (wait_for (parts_of reads) 1 (stack_of before 0)) (0 + 1)) where
  pub root_waits : stack_of waiting first ≡ (typing_of expected).stack
  unfolding typing_of stack_of parts_of
  root_waits = S.same ∙ rw e

  pub root_known : expected < type_count sheet → starts_at sheet waiting first
  unfolding typing_of wait_for
  root_known h = (omega (arith, S.within), rw root_waits (h, tt))

pub pattern_from : {sheet names spelled nodes : List ℕ} {n : ℕ} {waiting : List ℕ} {first expected : ℕ} {made : List ℕ} {r : Refused} → stack_of waiting first ≡ (typing_of expected).stack → NodesTyped sheet names spelled nodes n waiting first made r → PatternTyped sheet names spelled nodes n expected made r
unfolding typing_of
pattern_from e N = record { makes = λ text. rw e at (N.makes text); refuses = λ text. rw e at (N.refuses text) }

-- where the rows are those of a tree, what is made of them is the tree's, and the answer is the first position that it refuses
module _ {sheet names spelled nodes : List ℕ} {n expected : ℕ} {made : List ℕ} {r : Refused} (T : PatternTyped sheet names spelled nodes n expected made r) (text : List ℕ) (w : Written) (e : nodes_in text spelled nodes n ≡ closing w) where
  pub tree_made : makings_in text spelled made n ≡ makings sheet names w (typed expected by_value)
  tree_made = rw e at (T.makes text) ∙ ap (λ (s : Typed). s.makes) (pattern_typed sheet names w expected)

  pub tree_refused : refused_of r ≡ refused_in sheet names w (typed expected by_value)
  tree_refused = rw e at (T.refuses text) ∙ ap (λ (s : Typed). s.refused) (pattern_typed sheet names w expected)
