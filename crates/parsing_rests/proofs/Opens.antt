-- An open range, an alternative before a mark and `mut`, on the tables as in the machine. Assumes nothing.
use Prim.Native.Nat.{ℕ, suc}
use mathlib.Core.Path.{◌≡◌, refl, sym, ap, ◌∙◌}
use mathlib.Core.Bool.{true, false}
use mathlib.Core.List.{List, ◌∷◌}
use native.Mathlib.Omega.{arith}
use Rattle.pattern_syntax.specs.Written.{range_node, reference_node}
use Rattle.pattern_syntax.specs.Closing.{closed_node}
use Rattle.node_rows.specs.declared.NodeRow.{NodeRow}
use Rattle.node_rows.specs.Nodes.{node_row_at, node_of, closed_node_of}
use Rattle.parsing_machine.specs.Waiting.{settle}
use Rattle.parsing_machine.specs.Parser.{halted_at, behind_alt, open_range, mutated}
use Rattle.node_tables.specs.Tables.{Puts, rows_down}
use Rattle.node_tables.proofs.Downward.{rows_put}
use Rattle.parsing_steps.specs.declared.Heights.{Heights}
use Rattle.parsing_steps.specs.declared.ParseStep.{ParseStep}
use Rattle.parsing_steps.specs.declared.ParseStep.TheVariants.{Halted}
use Rattle.parsing_steps.specs.Settling.{PartsMost, Shuts}
use Rattle.parsing_steps.specs.Stepping.{course_of}
use Rattle.parsing_behind.specs.Behind.{InnermostIs, StandsBehind}
use Rattle.parsing_steps.proofs.Bridging.{parts_up}
use Rattle.rest_rows.specs.Rested.{open_row, mutated_row, bars_open}
use Rattle.parsing_rests.specs.Resting.{ShutsBefore, OpensRange, MutatesTop}
use Rattle.parsing_rests.proofs.Items.{rows_first}

pub shuts_before_lem :
    {stack nodes : List ℕ} {below rows m at : ℕ} {w : NodeRow} {middle between : List ℕ} {h : Heights} {stack' nodes' : List ℕ} {r : ParseStep}
    → Shuts stack nodes below rows w middle between h → StandsBehind middle between h.depth h.rows m at stack' nodes' r → ShutsBefore stack nodes below rows w m at stack' nodes' r
shuts_before_lem {m = m} {at = at} s b = record { shows = λ text names. b.shows text names ∙ ap (behind_alt m at) (s.shows text names) }

-- `a..` as a node
open_node : (text names : List ℕ) (at : ℕ) → closed_node_of text names (open_row at) ≡ closed_node at (range_node true false true) 1
unfolding closed_node_of node_of
open_node text names at = refl

-- an open range: the ways of the code
pub opens_none : (stack nodes : List ℕ) (depth rows m at : ℕ) → depth ≡ 0 → OpensRange stack nodes depth rows m at stack nodes (Halted at)
unfolding course_of open_range rows_down
opens_none stack nodes depth rows m at e = record { shows = λ text names. rw e refl }

pub opens_barred :
    (stack nodes : List ℕ) (depth rows e m at from k : ℕ) (f : NodeRow) → depth ≡ suc e → f ≡ node_row_at stack e → from ≡ f.at → InnermostIs stack e k → bars_open k m ≡ true
    → OpensRange stack nodes depth rows m at stack nodes (Halted from)
unfolding course_of open_range closed_node_of
opens_barred stack nodes depth rows e m at from k f de fe te t o = record {
  shows = λ text names. rw (rows_first text names stack depth e f de fe, sym (t.tells text names), o) (ap halted_at te);
}

pub opens_range :
    {stack nodes : List ℕ} {rows m at : ℕ} {stack' nodes' : List ℕ} {r : ParseStep} (depth e from k : ℕ) (f g : NodeRow) → depth ≡ suc e → f ≡ node_row_at stack e → from ≡ f.at → InnermostIs stack e k
    → bars_open k m ≡ false → g ≡ open_row from → ShutsBefore stack nodes e rows g m at stack' nodes' r → OpensRange stack nodes depth rows m at stack' nodes' r
unfolding open_range closed_node_of
opens_range {stack} {nodes} {rows} {m} {at} depth e from k f g de fe te t o ge s = record {
  shows = λ text names.
      rw (rows_first text names stack depth e f de fe, sym (t.tells text names), o)
      (s.shows text names
      ∙ (ap (λ x. behind_alt m at (settle (rows_down text names stack e) (closed_node_of text names x ∷ rows_down text names nodes rows))) ge
      ∙ (ap (λ x. behind_alt m at (settle (rows_down text names stack e) (x ∷ rows_down text names nodes rows))) (open_node text names from)
      ∙ ap (λ x. behind_alt m at (settle (rows_down text names stack e) (closed_node x (range_node true false true) 1 ∷ rows_down text names nodes rows))) te)));
}

-- `mut` behind `&`
pub mutates_none : (stack : List ℕ) (depth : ℕ) → depth ≡ 0 → MutatesTop stack depth stack
unfolding rows_down mutated
mutates_none stack depth e = record { shows = λ text names. rw e refl }

mutated_node : (text names : List ℕ) (row : NodeRow) → closed_node_of text names (mutated_row row) ≡ closed_node row.at (reference_node true) row.parts
unfolding closed_node_of node_of
mutated_node text names row = refl

pub mutates_one :
    (stack after : List ℕ) (depth e : ℕ) (f g : NodeRow) → depth ≡ suc e → f ≡ node_row_at stack e → g ≡ mutated_row f → Puts stack e g after → MutatesTop stack depth after
unfolding mutated closed_node_of
mutates_one stack after depth e f g de fe ge w = record {
  shows = λ text names.
      ap (rows_down text names after) de
      ∙ (rows_put w text names
      ∙ (ap (λ x. x ∷ rows_down text names stack e) (ap (closed_node_of text names) ge ∙ mutated_node text names f)
      ∙ sym (ap mutated (rows_first text names stack depth e f de fe))));
}

-- so many parts, and one more, fit where settling asks for it
pub parts_wide : {stack : List ℕ} {depth : ℕ} → PartsMost 30001 stack depth → PartsMost 60001 stack depth
parts_wide w = parts_up {few = 30001} {most = 60001} (omega arith) w

pub parts_raised : {stack : List ℕ} {depth : ℕ} → PartsMost (suc 30001) stack depth → PartsMost 60001 stack depth
parts_raised w = parts_up {few = suc 30001} {most = 60001} (omega arith) w
