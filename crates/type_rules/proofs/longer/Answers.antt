use borrow.Author.Rules.{rules}
use Rattle.type_rules.proofs.longer.Goals as goal

pub returns-then-names : goal.returns-then-names
returns-then-names c = rw c.if-names.true
