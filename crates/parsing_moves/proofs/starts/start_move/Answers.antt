use borrow.Author.Rules.{rules}
use borrow.Author.Tests.{ne_eqb}
use Rattle.parsing_machine.specs.Waiting.{closes}
use Rattle.parsing_machine.specs.Moves.{mark_move, start_move, bound_move, ranged_move, fit_move, path_move, field_move}
use Rattle.node_rows.specs.Nodes.{closed_node_of, node_of, literal_in, number_in, name_in}
use Rattle.parsing_moves.specs.Rows.{move_of, held_in, is_index}
use Rattle.parsing_moves.proofs.starts.start_move.Goals as goal

pub returns-in-6 : goal.returns-in-6
unfolding mark_move start_move move_of held_in closed_node_of node_of literal_in ranged_move fit_move number_in name_in bound_move closes path_move field_move is_index
returns-in-6 c = λ names. rw (c.in-6.is, c.holds_flags.ensures)

pub returns-in-7 : goal.returns-in-7
unfolding mark_move start_move move_of held_in closed_node_of node_of literal_in ranged_move fit_move number_in name_in bound_move closes path_move field_move is_index
returns-in-7 c = λ names. rw (c.in-7.is, c.holds_flags-in-7.ensures)

pub returns-in-8 : goal.returns-in-8
unfolding mark_move start_move move_of held_in closed_node_of node_of literal_in ranged_move fit_move number_in name_in bound_move closes path_move field_move is_index
returns-in-8 c = λ names. rw (c.in-8.is, c.holds_literal.ensures)

pub returns-in-9 : goal.returns-in-9
unfolding mark_move start_move move_of held_in closed_node_of node_of literal_in ranged_move fit_move number_in name_in bound_move closes path_move field_move is_index
returns-in-9 c = λ names. rw (c.in-9.is, c.holds_literal-in-9.ensures)

pub returns-in-10 : goal.returns-in-10
unfolding mark_move start_move move_of held_in closed_node_of node_of literal_in ranged_move fit_move number_in name_in bound_move closes path_move field_move is_index
returns-in-10 c = λ names. rw (c.in-10.is, c.literal_row.ensures)

pub returns-in-11 : goal.returns-in-11
unfolding mark_move start_move move_of held_in closed_node_of node_of literal_in ranged_move fit_move number_in name_in bound_move closes path_move field_move is_index
returns-in-11 c = λ names. rw c.in-11.is (c.whole_move.ensures names)

pub returns-in-12 : goal.returns-in-12
unfolding mark_move start_move move_of held_in closed_node_of node_of literal_in ranged_move fit_move number_in name_in bound_move closes path_move field_move is_index
returns-in-12 c = λ names. rw (c.in-12.is, c.holds_flags-in-12.ensures)

pub returns-in-13 : goal.returns-in-13
unfolding mark_move start_move move_of held_in closed_node_of node_of literal_in ranged_move fit_move number_in name_in bound_move closes path_move field_move is_index
returns-in-13 c = λ names. rw (c.in-13.is, c.opens_row.ensures)

pub returns-in-14 : goal.returns-in-14
unfolding mark_move start_move move_of held_in closed_node_of node_of literal_in ranged_move fit_move number_in name_in bound_move closes path_move field_move is_index
returns-in-14 c = λ names. rw (c.in-14.is, c.opens_row-in-14.ensures)

pub returns-in-16 : goal.returns-in-16
unfolding mark_move start_move move_of held_in closed_node_of node_of literal_in ranged_move fit_move number_in name_in bound_move closes path_move field_move is_index
returns-in-16 c = λ names. rw (c.in-16.is, c.opens_row-in-16.ensures)

pub returns-in-17 : goal.returns-in-17
unfolding mark_move start_move move_of held_in closed_node_of node_of literal_in ranged_move fit_move number_in name_in bound_move closes path_move field_move is_index
returns-in-17 c = λ names. rw (c.in-17.is, c.two_references.ensures)

pub returns-in-21 : goal.returns-in-21
unfolding mark_move start_move move_of held_in closed_node_of node_of literal_in ranged_move fit_move number_in name_in bound_move closes path_move field_move is_index
returns-in-21 c = λ names. rw c.in-21.is (c.dots_move.ensures _ names 0)

pub returns-in-22 : goal.returns-in-22
unfolding mark_move start_move move_of held_in closed_node_of node_of literal_in ranged_move fit_move number_in name_in bound_move closes path_move field_move is_index
returns-in-22 c = λ names. rw c.in-22.is (c.dots_move-in-22.ensures _ names 0)

pub returns-in_default : goal.returns-in_default
unfolding mark_move start_move move_of held_in closed_node_of node_of literal_in ranged_move fit_move number_in name_in bound_move closes path_move field_move is_index
returns-in_default c = let w = c.in_default.in_default-own.rest in λ names. simp (ne_eqb _ 6 w.0.0.0.0.0.0.0.0.0.0.0.0.1, ne_eqb _ 7 w.0.0.0.0.0.0.0.0.0.0.0.1, ne_eqb _ 8 w.0.0.0.0.0.0.0.0.0.0.1, ne_eqb _ 9 w.0.0.0.0.0.0.0.0.0.1, ne_eqb _ 10 w.0.0.0.0.0.0.0.0.1, ne_eqb _ 11 w.0.0.0.0.0.0.0.1, ne_eqb _ 12 w.0.0.0.0.0.0.1, ne_eqb _ 13 w.0.0.0.0.0.1, ne_eqb _ 14 w.0.0.0.0.1, ne_eqb _ 16 w.0.0.0.1, ne_eqb _ 17 w.0.0.1, ne_eqb _ 21 w.0.1, ne_eqb _ 22 w.1)
