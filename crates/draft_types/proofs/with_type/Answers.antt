use Rattle.std.specs.Prelude.{Some}
use borrow.Author.Rules.{rules}
use mathlib.Core.Path.{sym, ap, ◌∙◌}
use native.Mathlib.Omega.{arith}
use Rattle.draft_types.specs.Types.{found}
use Rattle.draft_types.proofs.Alike.{held_already, held_anew, past_types}
use Rattle.draft_types.proofs.with_type.Goals as goal

pub returns-then-many-ge256 : goal.returns-then-many-ge256
unfolding found
returns-then-many-ge256 c =
    let s = c.args in
    past_types s.sheet.now s.draft.now s.c s.row s.tables c.requires.0.type_count_lem (sym (ap found c.in-None.is) ∙ c.like_type.ensures) c.if-many-ge256.true

pub returns-in-Some : goal.returns-in-Some
unfolding found
returns-in-Some c =
    let s = c.args in
    held_already s.sheet.now s.draft.now s.c s.row s.tables c.requires.0.type_count_lem c.in-Some.t c.requires.1.1 (sym (ap found c.in-Some.is) ∙ c.like_type.ensures)

pub returns-else-many-ge256 : goal.returns-else-many-ge256
unfolding found
returns-else-many-ge256 c =
    let s = c.args in
    held_anew s.sheet.now s.draft.now s.c s.row s.tables c.requires.0.type_count_lem c.push_type-more.result _ c.requires.1.1 (sym (ap found c.in-None.is) ∙ c.like_type.ensures) (omega (arith, c.if-many-ge256.false)) c.push_type-more.ensures.0 c.push_type-more.ensures.1
