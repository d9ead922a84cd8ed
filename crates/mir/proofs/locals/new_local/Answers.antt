use borrow.Author.Rules.{rules}
use mathlib.Core.Path.{refl}
use borrow.Author.Tests.{le-ltb, lt-ltb}
use Rattle.mir.specs.Locals.{new_local, locals_after}
use Rattle.mir.proofs.locals.new_local.Goals as goal

pub returns-then-n-ge512 : goal.returns-then-n-ge512
unfolding new_local locals_after
returns-then-n-ge512 c =
    let full = le-ltb _ 512 c.if-n-ge512.true in
    (rw full, rw full)

pub returns : goal.returns
unfolding new_local locals_after
returns c =
    let room = lt-ltb _ 512 c.if-n-ge512.false in
    (rw room, rw room)
