use borrow.Author.Rules.{rules}
use native.Mathlib.Omega.{arith}
use Rattle.fit_own.proofs.Enums.{no_adt, enum_by}
use Rattle.fit_own.proofs.parts.is_enum.Goals as goal

pub type_at-row-requires : goal.type_at-row-requires
type_at-row-requires c = (c.requires.1, omega (arith, c.requires.1.type_count_lem, c.requires.2))

pub returns-then-row-ne6 : goal.returns-then-row-ne6
returns-then-row-ne6 c = no_adt _ _ c.type_at-row.ensures c.requires.0 c.requires.2 c.if-row-ne6.true

pub returns : goal.returns
returns c = enum_by _ _ c.type_at-row.ensures c.if-row-ne6.false c.from.ensures c.is_enum_kind.ensures
