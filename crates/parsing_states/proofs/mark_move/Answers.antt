use borrow.Author.Rules.{rules}
use Rattle.parsing_machine.specs.Waiting.{closes}
use Rattle.parsing_machine.specs.Moves.{mark_move, start_move, bound_move, ranged_move, fit_move, path_move, field_move}
use Rattle.node_rows.specs.Nodes.{closed_node_of, node_of, literal_in, number_in, name_in}
use Rattle.parsing_moves.specs.Rows.{move_of, held_in, is_index}
use Rattle.parsing_states.proofs.mark_move.Goals as goal

pub returns-in-Begin : goal.returns-in-Begin
unfolding mark_move start_move move_of held_in closed_node_of node_of literal_in ranged_move fit_move number_in name_in bound_move closes path_move field_move is_index
returns-in-Begin c = λ names h. rw c.in-Begin.is (c.begin_mark.ensures names)

pub returns-in-Expect : goal.returns-in-Expect
unfolding mark_move start_move move_of held_in closed_node_of node_of literal_in ranged_move fit_move number_in name_in bound_move closes path_move field_move is_index
returns-in-Expect c = λ names h. rw c.in-Expect.is (c.start_move.ensures names)

pub returns-in-BehindAmp : goal.returns-in-BehindAmp
unfolding mark_move start_move move_of held_in closed_node_of node_of literal_in ranged_move fit_move number_in name_in bound_move closes path_move field_move is_index
returns-in-BehindAmp c = λ names h. rw c.in-BehindAmp.is (c.amp_mark.ensures names)

pub returns-in-BehindRef : goal.returns-in-BehindRef
unfolding mark_move start_move move_of held_in closed_node_of node_of literal_in ranged_move fit_move number_in name_in bound_move closes path_move field_move is_index
returns-in-BehindRef c = λ names h. rw c.in-BehindRef.is (c.ref_mark.ensures _ names 0)

pub returns-in-BehindMut : goal.returns-in-BehindMut
unfolding mark_move start_move move_of held_in closed_node_of node_of literal_in ranged_move fit_move number_in name_in bound_move closes path_move field_move is_index
returns-in-BehindMut c = λ names h. rw c.in-BehindMut.is

pub returns-in-AtName : goal.returns-in-AtName
unfolding mark_move start_move move_of held_in closed_node_of node_of literal_in ranged_move fit_move number_in name_in bound_move closes path_move field_move is_index
returns-in-AtName c = λ names h. rw c.in-AtName.is (c.name_mark.ensures _ names 0)

pub returns-in-AtBound : goal.returns-in-AtBound
unfolding mark_move start_move move_of held_in closed_node_of node_of literal_in ranged_move fit_move number_in name_in bound_move closes path_move field_move is_index
returns-in-AtBound c = λ names h. rw c.in-AtBound.is (c.bound_mark.ensures _ names 0)

pub returns-in-AtPath : goal.returns-in-AtPath
unfolding mark_move start_move move_of held_in closed_node_of node_of literal_in ranged_move fit_move number_in name_in bound_move closes path_move field_move is_index
returns-in-AtPath c = λ names h. rw c.in-AtPath.is (c.path_mark.ensures _ names 0)

pub returns-in-AtSep : goal.returns-in-AtSep
unfolding mark_move start_move move_of held_in closed_node_of node_of literal_in ranged_move fit_move number_in name_in bound_move closes path_move field_move is_index
returns-in-AtSep c = λ names h. rw c.in-AtSep.is

pub returns-in-AtMinus : goal.returns-in-AtMinus
unfolding mark_move start_move move_of held_in closed_node_of node_of literal_in ranged_move fit_move number_in name_in bound_move closes path_move field_move is_index
returns-in-AtMinus c = λ names h. rw c.in-AtMinus.is (c.minus_mark.ensures names)

pub returns-in-AtLiteral : goal.returns-in-AtLiteral
unfolding mark_move start_move move_of held_in closed_node_of node_of literal_in ranged_move fit_move number_in name_in bound_move closes path_move field_move is_index
returns-in-AtLiteral c = λ names h. rw c.in-AtLiteral.is (c.literal_mark.ensures _ names 0)

pub returns-in-AtDots : goal.returns-in-AtDots
unfolding mark_move start_move move_of held_in closed_node_of node_of literal_in ranged_move fit_move number_in name_in bound_move closes path_move field_move is_index
returns-in-AtDots c = λ names h. rw c.in-AtDots.is (c.bound_move.ensures names)

pub returns-in-AtFrom : goal.returns-in-AtFrom
unfolding mark_move start_move move_of held_in closed_node_of node_of literal_in ranged_move fit_move number_in name_in bound_move closes path_move field_move is_index
returns-in-AtFrom c = λ names h. rw c.in-AtFrom.is (c.from_mark.ensures names)

pub returns-in-AtTo : goal.returns-in-AtTo
unfolding mark_move start_move move_of held_in closed_node_of node_of literal_in ranged_move fit_move number_in name_in bound_move closes path_move field_move is_index
returns-in-AtTo c = λ names h. rw c.in-AtTo.is (c.bound_move-in-AtTo.ensures names)

pub returns-in-AtToPath : goal.returns-in-AtToPath
unfolding mark_move start_move move_of held_in closed_node_of node_of literal_in ranged_move fit_move number_in name_in bound_move closes path_move field_move is_index
returns-in-AtToPath c = λ names h. rw c.in-AtToPath.is (c.to_path_mark.ensures _ names 0)

pub returns-in-AtAlt : goal.returns-in-AtAlt
unfolding mark_move start_move move_of held_in closed_node_of node_of literal_in ranged_move fit_move number_in name_in bound_move closes path_move field_move is_index
returns-in-AtAlt c = λ names h. rw c.in-AtAlt.is

pub returns-in-AtBrace : goal.returns-in-AtBrace
unfolding mark_move start_move move_of held_in closed_node_of node_of literal_in ranged_move fit_move number_in name_in bound_move closes path_move field_move is_index
returns-in-AtBrace c = λ names h. rw c.in-AtBrace.is (c.brace_mark.ensures names (λ e. h (rw c.in-AtBrace.is e)))

pub returns-in-AtLabel : goal.returns-in-AtLabel
unfolding mark_move start_move move_of held_in closed_node_of node_of literal_in ranged_move fit_move number_in name_in bound_move closes path_move field_move is_index
returns-in-AtLabel c = λ names h. rw c.in-AtLabel.is (c.label_mark.ensures _ names 0)

pub returns-in-AtIndex : goal.returns-in-AtIndex
unfolding mark_move start_move move_of held_in closed_node_of node_of literal_in ranged_move fit_move number_in name_in bound_move closes path_move field_move is_index
returns-in-AtIndex c = λ names h. rw c.in-AtIndex.is (c.index_mark.ensures _ names 0)

pub returns-in-AtField : goal.returns-in-AtField
unfolding mark_move start_move move_of held_in closed_node_of node_of literal_in ranged_move fit_move number_in name_in bound_move closes path_move field_move is_index
returns-in-AtField c = λ names h. rw c.in-AtField.is (c.field_mark.ensures _ names 0)

pub returns-in-AtEtc : goal.returns-in-AtEtc
unfolding mark_move start_move move_of held_in closed_node_of node_of literal_in ranged_move fit_move number_in name_in bound_move closes path_move field_move is_index
returns-in-AtEtc c = λ names h. rw c.in-AtEtc.is (c.etc_mark.ensures _ names 0)
