use borrow.Author.Tests.{eq-eqb, ne_eqb}
use Rattle.parsing_machine.specs.Waiting.{closes}
use Rattle.parsing_machine.specs.Moves.{mark_move, start_move, bound_move, ranged_move, fit_move}
use Rattle.node_rows.specs.Nodes.{closed_node_of, node_of, literal_in, number_in, name_in}
use Rattle.parsing_moves.specs.Rows.{move_of, held_in}
use Rattle.parsing_moves.proofs.Deciding.{closes_not}
use Rattle.parsing_moves.proofs.starts.closing_move.Goals as goal

pub returns-then-m-eq4 : goal.returns-then-m-eq4
unfolding mark_move start_move move_of held_in closed_node_of node_of literal_in ranged_move fit_move number_in name_in bound_move closes
returns-then-m-eq4 c = λ text names. rw (eq-eqb _ 11 c.if-top-eq11.true, eq-eqb _ 4 c.if-m-eq4.true)

pub returns-then-top-eq11 : goal.returns-then-top-eq11
unfolding mark_move start_move move_of held_in closed_node_of node_of literal_in ranged_move fit_move number_in name_in bound_move closes
returns-then-top-eq11 c = λ text names. rw (eq-eqb _ 11 c.if-top-eq11.true, ne_eqb _ 4 c.if-m-eq4.false)

pub returns-then-m-ne3 : goal.returns-then-m-ne3
unfolding move_of
returns-then-m-ne3 c = λ text names. rw (closes_not _ _ (ne_eqb _ 11 c.if-top-eq11.false) (ne_eqb _ 3 c.if-m-ne3.true))

pub returns-then-top-eq9 : goal.returns-then-top-eq9
unfolding mark_move start_move move_of held_in closed_node_of node_of literal_in ranged_move fit_move number_in name_in bound_move closes
returns-then-top-eq9 c = λ text names. simp (ne_eqb _ 11 c.if-top-eq11.false, eq-eqb _ 3 c.if-m-ne3.false, eq-eqb _ 9 c.if-top-eq9.true)

pub returns-then-top-eq10 : goal.returns-then-top-eq10
unfolding mark_move start_move move_of held_in closed_node_of node_of literal_in ranged_move fit_move number_in name_in bound_move closes
returns-then-top-eq10 c = λ text names. simp (ne_eqb _ 11 c.if-top-eq11.false, eq-eqb _ 3 c.if-m-ne3.false, ne_eqb _ 9 c.if-top-eq9.false, eq-eqb _ 10 c.if-top-eq10.true)

pub returns : goal.returns
unfolding mark_move start_move move_of held_in closed_node_of node_of literal_in ranged_move fit_move number_in name_in bound_move closes
returns c = λ text names. simp (ne_eqb _ 11 c.if-top-eq11.false, eq-eqb _ 3 c.if-m-ne3.false, ne_eqb _ 9 c.if-top-eq9.false, ne_eqb _ 10 c.if-top-eq10.false)
