use borrow.Author.Rules.{rules}
use mathlib.Core.Path.{sym, ◌∙◌}
use borrow.Author.Tests.{eq-eqb, ne_eqb}
use Rattle.parsing_machine.specs.Waiting.{closes}
use Rattle.parsing_machine.specs.Moves.{mark_move, start_move, bound_move, ranged_move, fit_move, path_move, field_move}
use Rattle.node_rows.specs.Nodes.{closed_node_of, node_of, literal_in, number_in, name_in}
use Rattle.parsing_moves.specs.Rows.{move_of, held_in, is_index}
use Rattle.parsing_marks.proofs.minus_mark.Goals as goal

pub returns-then-m-ne11 : goal.returns-then-m-ne11
unfolding mark_move start_move move_of held_in closed_node_of node_of literal_in ranged_move fit_move number_in name_in bound_move closes path_move field_move is_index
returns-then-m-ne11 c = λ names. rw (ne_eqb _ 11 c.if-m-ne11.true)

pub returns-then-is_wide : goal.returns-then-is_wide
unfolding mark_move start_move move_of held_in closed_node_of node_of literal_in ranged_move fit_move number_in name_in bound_move closes path_move field_move is_index
returns-then-is_wide c = λ names. rw (eq-eqb _ 11 c.if-m-ne11.false, sym c.is_wide.ensures ∙ c.if-is_wide.true)

pub returns-then-top-eq5 : goal.returns-then-top-eq5
unfolding mark_move start_move move_of held_in closed_node_of node_of literal_in ranged_move fit_move number_in name_in bound_move closes path_move field_move is_index
returns-then-top-eq5 c = λ names. rw (eq-eqb _ 11 c.if-m-ne11.false, sym c.is_wide.ensures ∙ c.if-is_wide.false, eq-eqb _ 5 c.if-top-eq5.true, c.literal_row.ensures)

pub returns : goal.returns
unfolding mark_move start_move move_of held_in closed_node_of node_of literal_in ranged_move fit_move number_in name_in bound_move closes path_move field_move is_index
returns c = λ names. rw (eq-eqb _ 11 c.if-m-ne11.false, sym c.is_wide.ensures ∙ c.if-is_wide.false, ne_eqb _ 5 c.if-top-eq5.false, c.holds_literal.ensures)
