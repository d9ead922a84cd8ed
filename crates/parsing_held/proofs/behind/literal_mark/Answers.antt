use borrow.Author.Rules.{rules}
use borrow.Author.Tests.{eq-eqb, ne_eqb, lt-ltb, le-ltb}
use Rattle.parsing_machine.specs.Waiting.{closes}
use Rattle.parsing_machine.specs.Moves.{mark_move, start_move, bound_move, ranged_move, fit_move, path_move, field_move}
use Rattle.node_rows.specs.Nodes.{closed_node_of, node_of, literal_in, number_in, name_in}
use Rattle.parsing_moves.specs.Rows.{move_of, held_in, is_index}
use Rattle.parsing_held.proofs.behind.literal_mark.Goals as goal

pub returns-then-m-lt6 : goal.returns-then-m-lt6
unfolding mark_move start_move move_of held_in closed_node_of node_of literal_in ranged_move fit_move number_in name_in bound_move closes path_move field_move is_index
returns-then-m-lt6 c = λ text names to. rw (lt-ltb _ 6 c.if-m-lt6.true, c.literal_row.ensures)

pub returns-then-m-eq21 : goal.returns-then-m-eq21
unfolding mark_move start_move move_of held_in closed_node_of node_of literal_in ranged_move fit_move number_in name_in bound_move closes path_move field_move is_index
returns-then-m-eq21 c = λ text names to. rw (le-ltb _ 6 c.if-m-lt6.false, eq-eqb _ 21 c.if-m-eq21.true) (c.lower_literal.ensures text names to)

pub returns-then-m-eq22 : goal.returns-then-m-eq22
unfolding mark_move start_move move_of held_in closed_node_of node_of literal_in ranged_move fit_move number_in name_in bound_move closes path_move field_move is_index
returns-then-m-eq22 c = λ text names to. rw (le-ltb _ 6 c.if-m-lt6.false, ne_eqb _ 21 c.if-m-eq21.false, eq-eqb _ 22 c.if-m-eq22.true) (c.lower_literal-then-m-eq22.ensures text names to)

pub returns : goal.returns
unfolding mark_move start_move move_of held_in closed_node_of node_of literal_in ranged_move fit_move number_in name_in bound_move closes path_move field_move is_index
returns c = λ text names to. rw (le-ltb _ 6 c.if-m-lt6.false, ne_eqb _ 21 c.if-m-eq21.false, ne_eqb _ 22 c.if-m-eq22.false)
