use borrow.Author.Rules.{rules}
use borrow.Author.Tests.{eq-eqb, ne_eqb}
use Rattle.parsing_machine.specs.Waiting.{closes}
use Rattle.parsing_machine.specs.Moves.{mark_move, start_move, bound_move, ranged_move, fit_move, path_move, field_move}
use Rattle.node_rows.specs.Nodes.{closed_node_of, node_of, literal_in, number_in, name_in}
use Rattle.parsing_moves.specs.Rows.{move_of, held_in, is_index}
use Rattle.parsing_marks.proofs.brace_mark.Goals as goal

pub returns-in-5 : goal.returns-in-5
unfolding mark_move start_move move_of held_in closed_node_of node_of literal_in ranged_move fit_move number_in name_in bound_move closes path_move field_move is_index
returns-in-5 c = λ names h. rw c.in-5.is

pub returns-in-21 : goal.returns-in-21
unfolding mark_move start_move move_of held_in closed_node_of node_of literal_in ranged_move fit_move number_in name_in bound_move closes path_move field_move is_index
returns-in-21 c = λ names h. rw (c.in-21.is, c.holds_flags.ensures)

pub returns-in-11 : goal.returns-in-11
unfolding mark_move start_move move_of held_in closed_node_of node_of literal_in ranged_move fit_move number_in name_in bound_move closes path_move field_move is_index
returns-in-11 c = λ names h. rw c.in-11.is (c.index_move.ensures names (h (eq-eqb _ 11 c.in-11.is)))

pub returns-in-6 : goal.returns-in-6
unfolding mark_move start_move move_of held_in closed_node_of node_of literal_in ranged_move fit_move number_in name_in bound_move closes path_move field_move is_index
returns-in-6 c = λ names h. rw (c.in-6.is, c.holds_flags-in-6.ensures)

pub returns-in-7 : goal.returns-in-7
unfolding mark_move start_move move_of held_in closed_node_of node_of literal_in ranged_move fit_move number_in name_in bound_move closes path_move field_move is_index
returns-in-7 c = λ names h. rw (c.in-7.is, c.holds_flags-in-7.ensures)

pub returns-in_default : goal.returns-in_default
unfolding mark_move start_move move_of held_in closed_node_of node_of literal_in ranged_move fit_move number_in name_in bound_move closes path_move field_move is_index
returns-in_default c = let w = c.in_default.in_default-own.rest in λ names h. simp (ne_eqb _ 5 w.0.0.0.0.1, ne_eqb _ 21 w.0.0.0.1, ne_eqb _ 11 w.0.0.1, ne_eqb _ 6 w.0.1, ne_eqb _ 7 w.1)
