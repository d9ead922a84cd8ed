use borrow.Author.Rules.{rules}
use mathlib.Core.Path.{refl}
use Rattle.body_live_marks.proofs.record_unless.Goals as goal

pub returns-then-held : goal.returns-then-held
returns-then-held c = rw c.if-held.true (refl, refl)

pub returns : goal.returns
returns c = rw c.if-held.false c.push_entry.ensures
