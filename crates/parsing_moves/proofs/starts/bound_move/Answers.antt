use borrow.Author.Rules.{rules}
use borrow.Author.Tests.{ne_eqb}
use Rattle.parsing_machine.specs.Waiting.{closes}
use Rattle.parsing_machine.specs.Moves.{mark_move, start_move, bound_move, ranged_move, fit_move, path_move, field_move}
use Rattle.node_rows.specs.Nodes.{closed_node_of, node_of, literal_in, number_in, name_in}
use Rattle.parsing_moves.specs.Rows.{move_of, held_in, is_index}
use Rattle.parsing_moves.proofs.starts.bound_move.Goals as goal

pub returns-in-8 : goal.returns-in-8
unfolding mark_move start_move move_of held_in closed_node_of node_of literal_in ranged_move fit_move number_in name_in bound_move closes path_move field_move is_index
returns-in-8 c = λ names. rw (c.in-8.is, c.literal_row.ensures)

pub returns-in-9 : goal.returns-in-9
unfolding mark_move start_move move_of held_in closed_node_of node_of literal_in ranged_move fit_move number_in name_in bound_move closes path_move field_move is_index
returns-in-9 c = λ names. rw (c.in-9.is, c.literal_row-in-9.ensures)

pub returns-in-11 : goal.returns-in-11
unfolding mark_move start_move move_of held_in closed_node_of node_of literal_in ranged_move fit_move number_in name_in bound_move closes path_move field_move is_index
returns-in-11 c = λ names. rw c.in-11.is (c.whole_bound.ensures names)

pub returns-in-12 : goal.returns-in-12
unfolding mark_move start_move move_of held_in closed_node_of node_of literal_in ranged_move fit_move number_in name_in bound_move closes path_move field_move is_index
returns-in-12 c = λ names. rw (c.in-12.is, c.holds_flags.ensures)

pub returns-in_default : goal.returns-in_default
unfolding mark_move start_move move_of held_in closed_node_of node_of literal_in ranged_move fit_move number_in name_in bound_move closes path_move field_move is_index
returns-in_default c = let w = c.in_default.in_default-own.rest in λ names. simp (ne_eqb _ 8 w.0.0.0.1, ne_eqb _ 9 w.0.0.1, ne_eqb _ 11 w.0.1, ne_eqb _ 12 w.1)
