use borrow.Enum.Refused.{opened}
use borrow.Author.Rules.{rules}
use mathlib.Core.Path.{refl, ◌∙◌}
use native.Mathlib.Omega.{arith}
use Rattle.image.specs.declared.kinds.TypeKind.{TypeKind}
use Rattle.fit_rows.specs.Nodes.{rest_of_type}
use Rattle.fit_rows.proofs.Ways.{rest_type_is, rest_array_none}
use Rattle.fit_rows.proofs.Defaults.{rest_whole}
use Rattle.fit_rows.proofs.nodes.rest_of_type.Goals as goal

pub type_at-row-requires : goal.type_at-row-requires
type_at-row-requires c = (c.requires.0, omega (arith, c.requires.0.type_count_lem, c.requires.1))

pub returns-then-row-items : goal.returns-then-row-items
returns-then-row-items c = rest_array_none _ _ _ _ c.type_at-row.ensures c.from.ensures c.in-Array.is c.if-row-items.true

pub returns-else-row-items : goal.returns-else-row-items
unfolding rest_of_type
returns-else-row-items c = rest_type_is _ _ _ _ TypeKind.Array c.type_at-row.ensures c.from.ensures c.in-Array.is

pub returns-in_default : goal.returns-in_default
returns-in_default c = rest_whole _ _ _ _ _ (opened c.in_default.in_default-own.keys2) ∙ rest_type_is _ _ _ _ _ c.type_at-row.ensures c.from.ensures refl
