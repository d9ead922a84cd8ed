use borrow.Author.Rules.{rules}
use borrow.Author.Tests.{eq-eqb, ne_eqb}
use Rattle.pattern_tokens.specs.Tokens.{begins, punctuation, first_where}
use Rattle.text_chars.specs.Bytes.{ascii}
use Rattle.mark_tokens.proofs.colon.Goals as goal

pub returns-then-b-eq58 : goal.returns-then-b-eq58
unfolding first_where begins punctuation ascii
returns-then-b-eq58 c = simp (eq-eqb _ _ c.if-b-eq58.true) c.mark.ensures

pub returns : goal.returns
unfolding first_where begins punctuation ascii
returns c = simp (ne_eqb _ _ c.if-b-eq58.false) c.mark-2.ensures
