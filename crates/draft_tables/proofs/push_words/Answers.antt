use borrow.Author.Rules.{rules}
use mathlib.Core.Path.{refl, sym, subst}
use Rattle.draft_tables.specs.Layout.{HoldsWords}
use Rattle.draft_tables.proofs.Parts.{holds_words}
use Rattle.draft_tables.proofs.push_words.Goals as goal

pub returns : goal.returns
returns c = (refl, subst (HoldsWords c.args.draft.now c.args.c c.args.words.now c.args.many) (sym c.store_row.ensures) (holds_words c.args.draft.now c.requires.0.0 c.args.c c.requires.1.0 c.args.words.now c.args.many c.requires.0.1 c.requires.1.1))
