use borrow.Author.Rules.{rules}
use mathlib.Core.Path.{ap, ◌∙◌}
use Rattle.mir.specs.Locals.{local_ty}
use Rattle.pattern_parts.proofs.Typing.{place_typed}
use Rattle.pattern_parts.proofs.adts.place_ty.Goals as goal

pub multi_projection_ty-requires : goal.multi_projection_ty-requires
multi_projection_ty-requires c = (c.requires.image_value.1, c.requires.image_value.0, rw (c.word_ty.ensures ∙ ap local_ty c.local_word.ensures) c.requires.named, c.requires.image_value.3)

pub returns : goal.returns
returns c = place_typed c.args.image.now c.args.place (c.word_ty.ensures ∙ ap local_ty c.local_word.ensures) c.multi_projection_ty.ensures c.requires.image_value.0 c.requires.named
