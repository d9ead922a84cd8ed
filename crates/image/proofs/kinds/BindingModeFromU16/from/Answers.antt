use borrow.Author.Rules.{rules}
use mathlib.Core.Path.{sym}
use Rattle.image.specs.declared.kinds.BindingMode.{BindingMode}
use Rattle.image.specs.Kinds.{binding_modes}
use Rattle.image.proofs.Defaults.{default}
use Rattle.image.proofs.kinds.BindingModeFromU16.from.Goals as goal

pub returns-in_default : goal.returns-in_default
returns-in_default c = sym (default binding_modes BindingMode.Unknown c.args.mode c.in_default.in_default-own.rest)
