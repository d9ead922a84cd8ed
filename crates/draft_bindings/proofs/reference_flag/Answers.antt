use mathlib.Core.Path.{refl}
use borrow.Author.Tests.{eq-eqb, ne_eqb}
use Rattle.draft_bindings.proofs.reference_flag.Goals as goal

pub returns-then-mode-eq1 : goal.returns-then-mode-eq1
returns-then-mode-eq1 c = rw (eq-eqb c.args.mode 1 c.if-mode-eq1.true) refl

pub returns : goal.returns
returns c = rw (ne_eqb c.args.mode 1 c.if-mode-eq1.false) refl
