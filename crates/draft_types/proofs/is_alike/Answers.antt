use borrow.Author.Rules.{rules}
use mathlib.Core.Path.{sym, ap, ◌∙◌}
use mathlib.Core.Bool.{◌&&◌}
use borrow.Author.Tests.{not-true, not-false}
use Rattle.draft_types.proofs.Alike.{other_kind, other_word, other_length, by_flags}
use Rattle.draft_types.proofs.is_alike.Goals as goal

pub returns-then-row-other : goal.returns-then-row-other
returns-then-row-other c = other_kind c.args.row c.args.other c.if-row-other.true

pub returns-then-row-other-2 : goal.returns-then-row-other-2
returns-then-row-other-2 c = other_word c.args.row c.args.other c.if-row-other.false c.if-row-other-2.true

pub returns-then-not-same_length : goal.returns-then-not-same_length
returns-then-not-same_length c = other_length c.args.row c.args.other c.same_length.result c.if-row-other.false c.if-row-other-2.false c.same_length.ensures (c.if-not-same_length.true)

pub returns : goal.returns
returns c = sym (ap (λ b. b && c.same_flag.result) (c.if-not-same_length.false)) ∙ by_flags c.args.row c.args.other c.same_length.result c.same_flag.result c.if-row-other.false c.if-row-other-2.false c.same_length.ensures c.same_flag.ensures
