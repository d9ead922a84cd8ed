use borrow.Author.Rules.{rules}
use borrow.Author.Tests.{le-ltb, lt-ltb}
use Rattle.mir.specs.Scopes.{new_entry, entries_after}
use Rattle.mir.proofs.scopes.push_entry.Goals as goal

pub returns-then-n-ge1024 : goal.returns-then-n-ge1024
unfolding new_entry entries_after
returns-then-n-ge1024 c =
    let full = le-ltb _ 1024 c.if-n-ge1024.true in
    (rw full, rw full)

pub returns : goal.returns
unfolding new_entry entries_after
returns c =
    let room = lt-ltb _ 1024 c.if-n-ge1024.false in
    (rw room, rw room)
