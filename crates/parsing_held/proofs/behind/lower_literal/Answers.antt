use borrow.Author.Rules.{rules}
use borrow.Author.Tests.{eq-eqb, ne_eqb}
use Rattle.parsing_machine.specs.Waiting.{closes}
use Rattle.parsing_machine.specs.Moves.{mark_move, start_move, bound_move, ranged_move, fit_move, path_move, field_move}
use Rattle.node_rows.specs.Nodes.{closed_node_of, node_of, literal_in, number_in, name_in}
use Rattle.parsing_moves.specs.Rows.{move_of, held_in, is_index}
use Rattle.parsing_held.proofs.behind.lower_literal.Goals as goal

pub returns-then-top-eq8 : goal.returns-then-top-eq8
unfolding mark_move start_move move_of held_in closed_node_of node_of literal_in ranged_move fit_move number_in name_in bound_move closes path_move field_move is_index
returns-then-top-eq8 c = λ text names to. rw (eq-eqb _ 8 c.if-top-eq8.true)

pub returns : goal.returns
unfolding mark_move start_move move_of held_in closed_node_of node_of literal_in ranged_move fit_move number_in name_in bound_move closes path_move field_move is_index
returns c = λ text names to. rw (ne_eqb _ 8 c.if-top-eq8.false, c.literal_row.ensures, c.range_row.ensures)
