use borrow.Author.Tests.{ne_eqb}
use Rattle.pattern_tokens.specs.Literals.{simple_escape}
use Rattle.char_escapes.proofs.simple_escape.Goals as goal

pub returns-in-110 : goal.returns-in-110
unfolding simple_escape
returns-in-110 c = rw c.in-110.is

pub returns-in-114 : goal.returns-in-114
unfolding simple_escape
returns-in-114 c = rw c.in-114.is

pub returns-in-116 : goal.returns-in-116
unfolding simple_escape
returns-in-116 c = rw c.in-116.is

pub returns-in-48 : goal.returns-in-48
unfolding simple_escape
returns-in-48 c = rw c.in-48.is

pub returns-in-92 : goal.returns-in-92
unfolding simple_escape
returns-in-92 c = rw c.in-92.is

pub returns-in-39 : goal.returns-in-39
unfolding simple_escape
returns-in-39 c = rw c.in-39.is

pub returns-in-34 : goal.returns-in-34
unfolding simple_escape
returns-in-34 c = rw c.in-34.is

pub returns-in_default : goal.returns-in_default
unfolding simple_escape
returns-in_default c = let w = c.in_default.in_default-own.rest in simp (ne_eqb _ 110 w.0.0.0.0.0.0.1, ne_eqb _ 114 w.0.0.0.0.0.1, ne_eqb _ 116 w.0.0.0.0.1, ne_eqb _ 48 w.0.0.0.1, ne_eqb _ 92 w.0.0.1, ne_eqb _ 39 w.0.1, ne_eqb _ 34 w.1)
