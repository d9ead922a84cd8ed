-- Moves behind which a node has closed, on the tables as in the machine. Assumes nothing.
use Prim.Native.Nat.{ℕ, suc}
use mathlib.Core.Path.{◌≡◌, refl, sym, ap, ◌∙◌}
use mathlib.Core.List.{List, ◌∷◌}
use Rattle.node_rows.specs.declared.NodeRow.{NodeRow}
use Rattle.node_rows.specs.Nodes.{node_row_at, closed_node_of}
use Rattle.parsing_machine.specs.declared.ReadState.TheVariants.{AtAlt}
use Rattle.parsing_machine.specs.Waiting.{grown, shut_top}
use Rattle.parsing_machine.specs.Parser.{alt_read, behind_alt, perform}
use Rattle.node_tables.specs.Tables.{Puts, rows_down, opened_of}
use Rattle.node_tables.proofs.Downward.{rows_put}
use Rattle.parsing_moves.specs.declared.NodeMove.{NodeMove}
use Rattle.parsing_moves.specs.declared.NodeMove.TheVariants.{ShutsRange, ShutsRangeBefore, ShutsTop, AddsLastField}
use Rattle.parsing_moves.specs.Rows.{held_in, move_of}
use Rattle.parsing_steps.specs.declared.Heights.{Heights}
use Rattle.parsing_steps.specs.declared.ParseStep.{ParseStep}
use Rattle.parsing_steps.specs.Settling.{Shuts}
use Rattle.parsing_steps.specs.Stepping.{course_of, going_on, ShutsGrown}
use Rattle.parsing_behind.specs.Behind.{StandsBehind}
use Rattle.parsing_rests.proofs.Items.{rows_first}
use Rattle.parsing_steps.specs.Moving.{PerformsMove, PerformsAny}

-- an alternative closes
abbrev shutting : NodeRow → NodeMove
shutting w = Rattle.parsing_moves.specs.declared.NodeMove.TheVariants.Shuts w

pub shuts_node :
    {stack nodes : List ℕ} {depth rows : ℕ} {w : NodeRow} {stack' nodes' : List ℕ} {h : Heights} (r : ParseStep) → Shuts stack nodes depth rows w stack' nodes' h → r ≡ going_on AtAlt h
    → PerformsAny stack nodes depth rows (shutting w) stack' nodes' r
unfolding course_of held_in perform move_of opened_of
shuts_node {stack' = stack'} {nodes' = nodes'} r s re = record {
  shows = λ text names m at. ap (course_of text names stack' nodes') re ∙ ap alt_read (s.shows text names);
}

pub shuts_nothing :
    (stack nodes : List ℕ) (depth rows : ℕ) (r : ParseStep) → depth ≡ 0 → r ≡ going_on AtAlt (record { depth = depth; rows = rows }) → PerformsAny stack nodes depth rows ShutsTop stack nodes r
unfolding course_of held_in perform move_of opened_of shut_top rows_down
shuts_nothing stack nodes depth rows r e re = record {
  shows = λ text names m at. ap (course_of text names stack nodes) re ∙ (rw e refl);
}

pub shuts_innermost :
    {stack nodes : List ℕ} {rows : ℕ} {f : NodeRow} {stack' nodes' : List ℕ} {r : ParseStep} (depth e : ℕ) → depth ≡ suc e → f ≡ node_row_at stack e
    → PerformsAny stack nodes e rows (shutting f) stack' nodes' r → PerformsAny stack nodes depth rows ShutsTop stack' nodes' r
unfolding perform move_of opened_of shut_top
shuts_innermost {stack} {nodes} {rows} {f} depth e de fe p = record {
  shows = λ text names m at.
      p.shows text names m at
      ∙ sym (ap (λ ws. alt_read (shut_top ws (rows_down text names nodes rows))) (rows_first text names stack depth e f de fe));
}

pub shuts_range_lem :
    {stack nodes middle : List ℕ} {depth rows n : ℕ} {w : NodeRow} {stack' nodes' : List ℕ} {h : Heights} (r : ParseStep) → Puts nodes rows w middle → n ≡ suc rows
    → ShutsGrown stack middle depth n stack' nodes' h → r ≡ going_on AtAlt h → PerformsAny stack nodes depth rows (ShutsRange w) stack' nodes' r
unfolding course_of held_in perform move_of opened_of
shuts_range_lem {stack} {nodes} {middle} {depth} {stack' = stack'} {nodes' = nodes'} r p e s re = record {
  shows = λ text names m at.
      ap (course_of text names stack' nodes') re
      ∙ (ap alt_read (s.shows text names)
      ∙ ap (λ cs. alt_read (shut_top (grown (rows_down text names stack depth)) cs)) (ap (rows_down text names middle) e ∙ rows_put p text names));
}

pub adds_last :
    {stack nodes middle : List ℕ} {depth rows n : ℕ} {w f : NodeRow} {stack' nodes' : List ℕ} {r : ParseStep} → Puts nodes rows w middle → n ≡ suc rows
    → PerformsAny stack middle depth n (ShutsRange f) stack' nodes' r → PerformsAny stack nodes depth rows (AddsLastField w f) stack' nodes' r
unfolding perform move_of opened_of
adds_last {stack} {nodes} {middle} {depth} {f = f} p e s = record {
  shows = λ text names m at.
      s.shows text names m at
      ∙ ap (λ cs. alt_read (shut_top (grown (rows_down text names stack depth)) (closed_node_of text names f ∷ cs)))
      (ap (rows_down text names middle) e ∙ rows_put p text names);
}

pub range_before :
    {stack nodes middle : List ℕ} {depth rows n m at : ℕ} {w : NodeRow} {between closed : List ℕ} {h : Heights} {stack' nodes' : List ℕ} {r : ParseStep} → Puts nodes rows w middle → n ≡ suc rows
    → ShutsGrown stack middle depth n between closed h → StandsBehind between closed h.depth h.rows m at stack' nodes' r
    → PerformsMove stack nodes depth rows (ShutsRangeBefore w) m at stack' nodes' r
unfolding perform move_of opened_of
range_before {stack} {nodes} {middle} {depth} {m = m} {at = at} p e s b = record {
  shows = λ text names.
      b.shows text names
      ∙ (ap (behind_alt m at) (s.shows text names)
      ∙ ap (λ cs. behind_alt m at (shut_top (grown (rows_down text names stack depth)) cs)) (ap (rows_down text names middle) e ∙ rows_put p text names));
}
