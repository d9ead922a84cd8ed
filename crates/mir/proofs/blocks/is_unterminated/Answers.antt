use borrow.Author.Rules.{rules}
use mathlib.Core.Path.{sym}
use Rattle.mir.proofs.OpenBlocks.{first_word}
use Rattle.mir.specs.Blocks.{is_open}
use Rattle.mir.proofs.blocks.is_unterminated.Goals as goal

pub returns : goal.returns
unfolding is_open
returns c = rw (first_word c.args.blocks.now c.args.source.0)
