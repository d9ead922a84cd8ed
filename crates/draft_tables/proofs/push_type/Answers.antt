use borrow.Author.Rules.{rules}
use mathlib.Core.Path.{refl, sym, subst}
use Rattle.draft_tables.specs.Layout.{HoldsType}
use Rattle.draft_tables.proofs.Parts.{holds_type}
use Rattle.draft_tables.proofs.push_type.Goals as goal

pub returns : goal.returns
returns c = (refl, subst (HoldsType c.args.draft.now c.args.c c.args.row) (sym c.store_row.ensures) (holds_type c.args.draft.now c.requires.0 c.args.c c.requires.1.0 c.args.row c.requires.1.1))
