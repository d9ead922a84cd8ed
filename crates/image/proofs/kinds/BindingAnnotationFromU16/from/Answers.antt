use mathlib.Core.Path.{sym}
use Rattle.image.specs.declared.kinds.BindingAnnotation.{BindingAnnotation}
use Rattle.image.specs.Kinds.{binding_annotations}
use Rattle.image.proofs.Defaults.{default}
use Rattle.image.proofs.kinds.BindingAnnotationFromU16.from.Goals as goal

pub returns-in_default : goal.returns-in_default
returns-in_default c = sym (default binding_annotations BindingAnnotation.Unknown c.args.annotation c.in_default.in_default-own.rest)
