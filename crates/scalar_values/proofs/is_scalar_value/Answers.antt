use borrow.Author.Tests.{lt-ltb, le-ltb, lt-leb, le-leb}
use Rattle.image.specs.Operands.{is_scalar_value}
use Rattle.scalar_values.proofs.is_scalar_value.Goals as goal

pub returns-then-code-lt55296 : goal.returns-then-code-lt55296
unfolding is_scalar_value
returns-then-code-lt55296 c = rw (lt-ltb _ _ c.if-code-lt55296.true)

pub returns-then-code-lt57344 : goal.returns-then-code-lt57344
unfolding is_scalar_value
returns-then-code-lt57344 c = rw (le-ltb _ _ c.if-code-lt55296.false, lt-leb _ _ c.if-code-lt57344.true)

pub returns : goal.returns
unfolding is_scalar_value
returns c = rw (le-ltb _ _ c.if-code-lt55296.false, le-leb _ _ c.if-code-lt57344.false)
