use borrow.Author.Rules.{rules}
use mathlib.Core.Path.{sym}
use Rattle.image.specs.declared.kinds.AdtKind.{AdtKind}
use Rattle.image.specs.Kinds.{adt_kinds}
use Rattle.image.proofs.Defaults.{default}
use Rattle.image.proofs.kinds.AdtKindFromU16.from.Goals as goal

pub returns-in_default : goal.returns-in_default
returns-in_default c = sym (default adt_kinds AdtKind.Unknown c.args.kind c.in_default.in_default-own.rest)
