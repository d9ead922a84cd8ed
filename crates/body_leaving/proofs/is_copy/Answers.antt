use borrow.Author.Rules.{rules}
use native.Mathlib.Omega.{arith}
use borrow.Author.Tests.{le-ltb, lt-ltb}
use Rattle.image.specs.Tables.{type_count}
use Rattle.drop_scopes_spec.specs.Dropping.{is_copy}
use Rattle.body_leaving.proofs.is_copy.Goals as goal

pub returns-then-tables-word : goal.returns-then-tables-word
unfolding is_copy
returns-then-tables-word c = rw (le-ltb c.args.word (type_count c.args.image.now) (omega (arith, c.requires.type_count_lem)))

pub returns : goal.returns
unfolding is_copy
returns c = rw (lt-ltb c.args.word (type_count c.args.image.now) (omega (arith, c.requires.type_count_lem)), ← c.type_at.ensures)
