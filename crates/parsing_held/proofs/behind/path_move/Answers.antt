use borrow.Author.Rules.{rules}
use borrow.Author.Tests.{ne_eqb}
use Rattle.parsing_machine.specs.Waiting.{closes}
use Rattle.parsing_machine.specs.Moves.{mark_move, start_move, bound_move, ranged_move, fit_move, path_move, field_move}
use Rattle.node_rows.specs.Nodes.{closed_node_of, node_of, literal_in, number_in, name_in}
use Rattle.parsing_moves.specs.Rows.{move_of, held_in, is_index}
use Rattle.parsing_held.proofs.behind.path_move.Goals as goal

pub returns-in-20 : goal.returns-in-20
unfolding mark_move start_move move_of held_in closed_node_of node_of literal_in ranged_move fit_move number_in name_in bound_move closes path_move field_move is_index
returns-in-20 c = λ text names to. rw c.in-20.is

pub returns-in-13 : goal.returns-in-13
unfolding mark_move start_move move_of held_in closed_node_of node_of literal_in ranged_move fit_move number_in name_in bound_move closes path_move field_move is_index
returns-in-13 c = λ text names to. rw (c.in-13.is, c.opens_named.ensures)

pub returns-in-15 : goal.returns-in-15
unfolding mark_move start_move move_of held_in closed_node_of node_of literal_in ranged_move fit_move number_in name_in bound_move closes path_move field_move is_index
returns-in-15 c = λ text names to. rw (c.in-15.is, c.opens_named-in-15.ensures)

pub returns-in-21 : goal.returns-in-21
unfolding mark_move start_move move_of held_in closed_node_of node_of literal_in ranged_move fit_move number_in name_in bound_move closes path_move field_move is_index
returns-in-21 c = λ text names to. rw c.in-21.is (c.lower_path.ensures text names to)

pub returns-in-22 : goal.returns-in-22
unfolding mark_move start_move move_of held_in closed_node_of node_of literal_in ranged_move fit_move number_in name_in bound_move closes path_move field_move is_index
returns-in-22 c = λ text names to. rw c.in-22.is (c.lower_path-in-22.ensures text names to)

pub returns-in_default : goal.returns-in_default
unfolding mark_move start_move move_of held_in closed_node_of node_of literal_in ranged_move fit_move number_in name_in bound_move closes path_move field_move is_index
returns-in_default c = let w = c.in_default.in_default-own.rest in λ text names to. simp (ne_eqb _ 20 w.0.0.0.0.1, ne_eqb _ 13 w.0.0.0.1, ne_eqb _ 15 w.0.0.1, ne_eqb _ 21 w.0.1, ne_eqb _ 22 w.1)
