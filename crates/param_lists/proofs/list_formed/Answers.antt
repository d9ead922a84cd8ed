use borrow.Author.Rules.{rules}
use Rattle.param_lists.proofs.Looking.{list_long, list_odd, list_named}
use Rattle.param_lists.proofs.list_formed.Goals as goal

pub returns-then-count-gt64 : goal.returns-then-count-gt64
returns-then-count-gt64 c = list_long _ _ c.if-count-gt64.true

pub returns-then-count-words : goal.returns-then-count-words
returns-then-count-words c = list_odd _ _ c.if-count-gt64.false c.if-count-words.true

pub returns : goal.returns
returns c = list_named _ _ c.if-count-gt64.false c.if-count-words.false c.params_named.ensures
