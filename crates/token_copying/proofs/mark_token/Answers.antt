use borrow.Author.Rules.{rules}
use mathlib.Core.Path.{sym, ap, ◌∙◌}
use mathlib.Core.Logic.{⊎_elim}
use lib.Dec.{eqb}
use native.Mathlib.Omega.{arith}
use borrow.Author.Tests.{eq-eqb, ne_eqb}
use Rattle.token_moves.proofs.States.{not_field, not_integer}
use Rattle.token_moves.proofs.Moving.{mark_inside, mark_long, mark_word, index_room, index_end, index_read, mark_read}
use Rattle.token_copying.proofs.mark_token.Goals as goal
use Rattle.token_copying.proofs.mark_token.Goals.{then-mark-eq11+else-role_of-eq4, else-mark-eq11}

pub copy_bytes-end-requires : goal.copy_bytes-end-requires
copy_bytes-end-requires c =
    let s = c.args in
    let pre = c.requires in
    ((mark_long s.text.now s.names.now s.named s.state s.held s.top s.token pre.0 pre.1.0 pre.1.1, mark_inside s.text.now s.names.now s.named s.state s.held s.top s.token pre.0 pre.1.0 pre.1.1), index_room s.text.now s.names.now s.named s.state s.held s.top s.token pre.0 pre.1.0 pre.1.1)

pub overflow_cast-end : goal.overflow_cast-end
overflow_cast-end c =
    let s = c.args in
    let pre = c.requires in
    omega (arith, index_end s.text.now s.names.now s.named s.state s.held s.top s.token pre.0 pre.1.0 pre.1.1 _ _ c.copy_bytes-end.ensures, index_room s.text.now s.names.now s.named s.state s.held s.top s.token pre.0 pre.1.0 pre.1.1)

pub mark_move-made-requires : goal.mark_move-made-requires
mark_move-made-requires c =
    let s = c.args in
    let pre = c.requires in
    mark_word s.text.now s.names.now s.named s.state s.held s.top s.token pre.0 pre.1.0 pre.1.1

pub returns-then-role_of-eq4 : goal.returns-then-role_of-eq4
returns-then-role_of-eq4 c =
    let s = c.args in
    let pre = c.requires in
    index_read s.text.now s.names.now s.named s.state s.held s.top s.token pre.0 pre.1.0 pre.1.1 _ _ _ c.if-mark-eq11.true (eq-eqb _ 4 (sym c.role_of.ensures ∙ c.if-role_of-eq4.true)) c.copy_bytes-end.ensures c.mark_move-made.ensures

pub mark_move-made-requires-2 : goal.mark_move-made-requires-2
mark_move-made-requires-2 c =
    let s = c.args in
    let pre = c.requires in
    mark_word s.text.now s.names.now s.named s.state s.held s.top s.token pre.0 pre.1.0 pre.1.1

pub returns : goal.returns
returns c =
    let s = c.args in
    let pre = c.requires in
    mark_read s.text.now s.names.now s.named s.state s.held s.top s.token pre.0 pre.1.0 pre.1.1 _
    (elim c.if-mark-eq11.branch [
      | then-mark-eq11+else-role_of-eq4 w ↦ not_field s.state s.token.mark (sym (ap (λ x. eqb x 4) w.role_of.ensures) ∙ ne_eqb _ 4 w.if-role_of-eq4.false)
      | else-mark-eq11 w ↦ not_integer s.state s.token.mark (ne_eqb _ 11 w.if-mark-eq11.false)
    ])
    c.mark_move-made-2.ensures
