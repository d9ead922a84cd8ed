use borrow.Author.Rules.{rules}
use mathlib.Core.Path.{sym}
use Rattle.image.specs.declared.kinds.PatKind.{PatKind}
use Rattle.image.specs.Kinds.{pat_kinds}
use Rattle.image.proofs.Defaults.{default}
use Rattle.image.proofs.kinds.PatKindFromU16.from.Goals as goal

pub returns-in_default : goal.returns-in_default
returns-in_default c = sym (default pat_kinds PatKind.Unknown c.args.kind c.in_default.in_default-own.rest)
