use borrow.Author.Rules.{rules}
use mathlib.Core.Path.{sym, ap, ◌∙◌}
use native.Mathlib.Omega.{arith}
use borrow.Author.Tests.{ne_eqb}
use Rattle.token_moves.proofs.Moving.{own_to, to_inside, sep_room, own_room, sep_end, own_end, name_read, path_read}
use Rattle.name_copying.proofs.name_token.Goals as goal

pub copy_behind-end-requires : goal.copy_behind-end-requires
copy_behind-end-requires c =
    let s = c.args in
    let pre = c.requires in
    let o = own_to s.text.now s.names.now s.named s.state s.held s.top s.token pre.0 pre.1 in
    ((omega (arith, o), to_inside s.text.now s.names.now s.named s.state s.held s.top s.token pre.0 pre.1), sep_room s.text.now s.names.now s.named s.state s.held s.top s.token pre.0 pre.1 _ c.role_of.ensures c.if-role_of-eq2.true)

pub overflow_cast-end : goal.overflow_cast-end
overflow_cast-end c =
    let s = c.args in
    let pre = c.requires in
    omega (arith, sep_end s.text.now s.names.now s.named s.state s.held s.top s.token pre.0 pre.1 _ _ c.copy_behind-end.ensures, sep_room s.text.now s.names.now s.named s.state s.held s.top s.token pre.0 pre.1 _ c.role_of.ensures c.if-role_of-eq2.true)

pub returns-then-role_of-eq2 : goal.returns-then-role_of-eq2
returns-then-role_of-eq2 c =
    let s = c.args in
    let pre = c.requires in
    path_read s.text.now s.names.now s.named s.state s.held s.top s.token pre.0 pre.1 _ _ _ _ c.role_of.ensures c.if-role_of-eq2.true c.copy_behind-end.ensures c.name_move-made.ensures

pub copy_bytes-end-requires : goal.copy_bytes-end-requires
copy_bytes-end-requires c =
    let s = c.args in
    let pre = c.requires in
    let o = own_to s.text.now s.names.now s.named s.state s.held s.top s.token pre.0 pre.1 in
    ((omega (arith, o), to_inside s.text.now s.names.now s.named s.state s.held s.top s.token pre.0 pre.1), own_room s.text.now s.names.now s.named s.state s.held s.top s.token pre.0 pre.1)

pub overflow_cast-end-2 : goal.overflow_cast-end-2
overflow_cast-end-2 c =
    let s = c.args in
    let pre = c.requires in
    omega (arith, own_end s.text.now s.names.now s.named s.state s.held s.top s.token pre.0 pre.1 _ _ c.copy_bytes-end.ensures, own_room s.text.now s.names.now s.named s.state s.held s.top s.token pre.0 pre.1)

pub returns : goal.returns
returns c =
    let s = c.args in
    let pre = c.requires in
    name_read s.text.now s.names.now s.named s.state s.held s.top s.token pre.0 pre.1 _ _ _ _ c.role_of.ensures (ne_eqb _ 2 c.if-role_of-eq2.false) c.copy_bytes-end.ensures c.name_move-made-2.ensures
