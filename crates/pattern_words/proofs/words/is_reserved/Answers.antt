use borrow.Author.Rules.{rules}
use mathlib.Core.Path.{sym, ◌∙◌}
use Rattle.pattern_words.proofs.Spelling.{reserved_by_number, reserved_long}
use Rattle.pattern_words.proofs.words.is_reserved.Goals as goal

pub returns-then-word-gt8 : goal.returns-then-word-gt8
returns-then-word-gt8 c = sym (reserved_long c.args.word.now c.if-word-gt8.true)

pub returns : goal.returns
returns c = sym (reserved_by_number c.args.word.now c.requires ∙ rw (← c.word_number.ensures) (sym c.is_never_raw.ensures))
