use borrow.Author.Rules.{rules}
use borrow.Author.Tests.{lt-ltb, le-ltb}
use Rattle.parsing_machine.specs.Waiting.{closes}
use Rattle.parsing_machine.specs.Moves.{mark_move, start_move, bound_move, ranged_move, fit_move, path_move, field_move}
use Rattle.node_rows.specs.Nodes.{closed_node_of, node_of, literal_in, number_in, name_in}
use Rattle.parsing_moves.specs.Rows.{move_of, held_in, is_index}
use Rattle.parsing_marks.proofs.from_mark.Goals as goal

pub returns-then-m-lt6 : goal.returns-then-m-lt6
unfolding mark_move start_move move_of held_in closed_node_of node_of literal_in ranged_move fit_move number_in name_in bound_move closes path_move field_move is_index
returns-then-m-lt6 c = λ names. rw (lt-ltb _ 6 c.if-m-lt6.true) (c.bound_move.ensures names)

pub returns : goal.returns
unfolding mark_move start_move move_of held_in closed_node_of node_of literal_in ranged_move fit_move number_in name_in bound_move closes path_move field_move is_index
returns c = λ names. rw (le-ltb _ 6 c.if-m-lt6.false) (c.bound_move-2.ensures names)
