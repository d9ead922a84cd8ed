use borrow.Author.Rules.{rules}
use mathlib.Core.Path.{refl}
use Rattle.typing_state.proofs.Words.{waiting_read}
use Rattle.typing_state.proofs.tables.waiting_at.Goals as goal

pub returns : goal.returns
returns c = waiting_read _ _ _ refl
