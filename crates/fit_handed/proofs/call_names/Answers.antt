use borrow.Author.Rules.{rules}
use Rattle.fit_handed.proofs.Naming.{other_length, no_pattern_lem, type_there}
use Rattle.fit_handed.proofs.call_names.Goals as goal

pub returns-then-bindings-tables : goal.returns-then-bindings-tables
returns-then-bindings-tables c = other_length _ _ _ c.args.bindings.now _ _ c.if-bindings-tables.true

pub returns-then-tables-p : goal.returns-then-tables-p
returns-then-tables-p c = no_pattern_lem _ _ _ c.args.bindings.now _ _ c.if-bindings-tables.false c.if-tables-p.true

pub returns : goal.returns
returns c = type_there _ _ _ c.args.bindings.now _ _ c.if-bindings-tables.false c.if-tables-p.false
