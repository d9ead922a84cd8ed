use borrow.Author.Rules.{rules}
use mathlib.Core.Path.{refl}
use native.Mathlib.Omega.{arith}
use Rattle.param_locals.proofs.Plain.{plain_bound, plain_free, plain_there}
use Rattle.param_locals.proofs.declaring.bind_plain.Goals as goal

pub bounds-bindings-row : goal.bounds-bindings-row
bounds-bindings-row c = omega (arith, c.requires.2, plain_there _ _ _ c.pat_at-row.ensures c.requires.0 c.requires.3 c.is_plain.ensures c.if-is_plain.true)

pub returns-then-is_plain : goal.returns-then-is_plain
returns-then-is_plain c = plain_bound _ _ _ c.pat_at-row.ensures _ _ c.is_plain.ensures c.if-is_plain.true refl

pub returns-else-is_plain : goal.returns-else-is_plain
returns-else-is_plain c = plain_free _ _ _ c.pat_at-row.ensures _ c.is_plain.ensures c.if-is_plain.false
