use borrow.Author.Rules.{rules}
use borrow.Author.Tests.{ne_eqb}
use Rattle.pattern_tokens.specs.Literals.{plain_char}
use Rattle.image.specs.Lists.{member}
use Rattle.char_tokens.proofs.plain_char.Goals as goal

pub returns-in-39 : goal.returns-in-39
unfolding plain_char member
returns-in-39 c = simp (c.in_ok-v.was, c.in-39.is)

pub returns-in-10 : goal.returns-in-10
unfolding plain_char member
returns-in-10 c = simp (c.in_ok-v.was, c.in-10.is)

pub returns-in-13 : goal.returns-in-13
unfolding plain_char member
returns-in-13 c = simp (c.in_ok-v.was, c.in-13.is)

pub returns-in-9 : goal.returns-in-9
unfolding plain_char member
returns-in-9 c = simp (c.in_ok-v.was, c.in-9.is)

pub returns-in_default : goal.returns-in_default
unfolding plain_char member
returns-in_default c = let w = c.in_default.in_default-own.rest in simp (c.in_ok-v.was, ne_eqb _ 39 w.0.0.0.1, ne_eqb _ 10 w.0.0.1, ne_eqb _ 13 w.0.1, ne_eqb _ 9 w.1)

pub returns-in_err-v : goal.returns-in_err-v
unfolding plain_char member
returns-in_err-v c = rw c.from_residual.ensures (simp c.in_err-v.was)
