use borrow.Author.Rules.{rules}
use Rattle.pattern_parsing.proofs.Starting.{too_long}
use Rattle.pattern_parsing.proofs.parse_pattern.Goals as goal

pub returns-then-text-gt16384 : goal.returns-then-text-gt16384
returns-then-text-gt16384 c = too_long _ c.if-text-gt16384.true
