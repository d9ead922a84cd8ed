use borrow.Author.Rules.{rules}
use mathlib.Core.Path.{sym, refl}
use Rattle.image.specs.declared.kinds.TypeKind.{TypeKind}
use Rattle.image.specs.Kinds.{type_kinds}
use Rattle.image.proofs.Defaults.{default-from-one}
use Rattle.image.proofs.kinds.TypeKindFromU16.from.Goals as goal

pub returns-in_default : goal.returns-in_default
returns-in_default c = sym (default-from-one type_kinds TypeKind.Unknown c.args.kind 9 refl refl c.in_default.in_default-own.rest)
