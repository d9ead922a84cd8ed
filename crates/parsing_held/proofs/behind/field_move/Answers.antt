use borrow.Author.Rules.{rules}
use borrow.Author.Tests.{eq-eqb, ne_eqb}
use Rattle.parsing_machine.specs.Waiting.{closes}
use Rattle.parsing_machine.specs.Moves.{mark_move, start_move, bound_move, ranged_move, fit_move, path_move, field_move}
use Rattle.node_rows.specs.Nodes.{closed_node_of, node_of, literal_in, number_in, name_in}
use Rattle.parsing_moves.specs.Rows.{move_of, held_in, is_index}
use Rattle.parsing_held.proofs.behind.field_move.Goals as goal

pub returns-then-m-eq1 : goal.returns-then-m-eq1
unfolding mark_move start_move move_of held_in closed_node_of node_of literal_in ranged_move fit_move number_in name_in bound_move closes path_move field_move is_index
returns-then-m-eq1 c = λ text names to. rw (eq-eqb _ 1 c.if-m-eq1.true, c.named_row.ensures, c.named_row-then-m-eq1.ensures)

pub returns-then-m-eq5 : goal.returns-then-m-eq5
unfolding mark_move start_move move_of held_in closed_node_of node_of literal_in ranged_move fit_move number_in name_in bound_move closes path_move field_move is_index
returns-then-m-eq5 c = λ text names to. rw (ne_eqb _ 1 c.if-m-eq1.false, eq-eqb _ 5 c.if-m-eq5.true, c.named_row-then-m-eq5.ensures, c.named_row-then-m-eq5-2.ensures)

pub returns : goal.returns
unfolding mark_move start_move move_of held_in closed_node_of node_of literal_in ranged_move fit_move number_in name_in bound_move closes path_move field_move is_index
returns c = λ text names to. rw (ne_eqb _ 1 c.if-m-eq1.false, ne_eqb _ 5 c.if-m-eq5.false)
