use borrow.Author.Rules.{rules}
use mathlib.Core.Path.{refl}
use Rattle.param_steps.proofs.Keeping.{words_saved}
use Rattle.param_steps.proofs.saving.saved_words.Goals as goal

pub returns : goal.returns
returns c = words_saved _ _ c.requires refl c.store_row.ensures
