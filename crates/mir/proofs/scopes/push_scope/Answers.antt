use borrow.Author.Rules.{rules}
use borrow.Author.Tests.{le-ltb, lt-ltb}
use Rattle.mir.specs.Scopes.{new_scope, scopes_after}
use Rattle.mir.proofs.scopes.push_scope.Goals as goal

pub returns-then-n-ge32 : goal.returns-then-n-ge32
unfolding new_scope scopes_after
returns-then-n-ge32 c =
    let full = le-ltb _ 32 c.if-n-ge32.true in
    (rw full, rw full)

pub returns : goal.returns
unfolding new_scope scopes_after
returns c =
    let room = lt-ltb _ 32 c.if-n-ge32.false in
    (rw room, rw room)
