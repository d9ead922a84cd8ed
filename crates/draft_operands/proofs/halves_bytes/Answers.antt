use borrow.Author.Rules.{rules}
use mathlib.Core.Path.{refl}
use Rattle.pattern_images.specs.Drafts.{little_endian_bytes}
use Rattle.draft_operands.proofs.halves_bytes.Goals as goal

pub returns : goal.returns
unfolding little_endian_bytes
returns c = refl
