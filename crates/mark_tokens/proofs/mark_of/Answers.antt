use borrow.Author.Rules.{rules}
use borrow.Author.Tests.{ne_eqb}
use Rattle.pattern_tokens.specs.Tokens.{begins, punctuation, first_where}
use Rattle.text_chars.specs.Bytes.{ascii}
use Rattle.mark_tokens.proofs.mark_of.Goals as goal

pub returns-in-46 : goal.returns-in-46
unfolding first_where begins punctuation ascii
returns-in-46 c = rw c.in-46.is c.dots.ensures

pub returns-in-38 : goal.returns-in-38
unfolding first_where begins punctuation ascii
returns-in-38 c = rw c.in-38.is c.ampersand.ensures

pub returns-in-45 : goal.returns-in-45
unfolding first_where begins punctuation ascii
returns-in-45 c = rw c.in-45.is c.minus.ensures

pub returns-in-124 : goal.returns-in-124
unfolding first_where begins punctuation ascii
returns-in-124 c = rw c.in-124.is c.bar.ensures

pub returns-in-58 : goal.returns-in-58
unfolding first_where begins punctuation ascii
returns-in-58 c = rw c.in-58.is c.colon.ensures

pub returns-in-40 : goal.returns-in-40
unfolding first_where begins punctuation ascii
returns-in-40 c = rw c.in-40.is c.mark.ensures

pub returns-in-41 : goal.returns-in-41
unfolding first_where begins punctuation ascii
returns-in-41 c = rw c.in-41.is c.mark-in-41.ensures

pub returns-in-44 : goal.returns-in-44
unfolding first_where begins punctuation ascii
returns-in-44 c = rw c.in-44.is c.mark-in-44.ensures

pub returns-in-64 : goal.returns-in-64
unfolding first_where begins punctuation ascii
returns-in-64 c = rw c.in-64.is c.mark-in-64.ensures

pub returns-in-91 : goal.returns-in-91
unfolding first_where begins punctuation ascii
returns-in-91 c = rw c.in-91.is c.mark-in-91.ensures

pub returns-in-93 : goal.returns-in-93
unfolding first_where begins punctuation ascii
returns-in-93 c = rw c.in-93.is c.mark-in-93.ensures

pub returns-in-123 : goal.returns-in-123
unfolding first_where begins punctuation ascii
returns-in-123 c = rw c.in-123.is c.mark-in-123.ensures

pub returns-in-125 : goal.returns-in-125
unfolding first_where begins punctuation ascii
returns-in-125 c = rw c.in-125.is c.mark-in-125.ensures

pub returns-in_default : goal.returns-in_default
unfolding first_where begins punctuation ascii
returns-in_default c = let w = c.in_default.in_default-own.rest in simp (ne_eqb _ 46 w.0.0.0.0.0.0.0.0.0.0.0.0.1, ne_eqb _ 38 w.0.0.0.0.0.0.0.0.0.0.0.1, ne_eqb _ 45 w.0.0.0.0.0.0.0.0.0.0.1, ne_eqb _ 124 w.0.0.0.0.0.0.0.0.0.1, ne_eqb _ 58 w.0.0.0.0.0.0.0.0.1, ne_eqb _ 40 w.0.0.0.0.0.0.0.1, ne_eqb _ 41 w.0.0.0.0.0.0.1, ne_eqb _ 44 w.0.0.0.0.0.1, ne_eqb _ 64 w.0.0.0.0.1, ne_eqb _ 91 w.0.0.0.1, ne_eqb _ 93 w.0.0.1, ne_eqb _ 123 w.0.1, ne_eqb _ 125 w.1) c.fails.ensures
