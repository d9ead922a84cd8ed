use borrow.Author.Rules.{rules}
use mathlib.Core.Path.{sym, ◌∙◌}
use native.Mathlib.Omega.{arith}
use Rattle.parsing_steps.proofs.LastItems.{ends_bare, ends_list}
use Rattle.parsing_behind.proofs.item_last.Goals as goal

pub settle-requires : goal.settle-requires
settle-requires c = (omega (arith, c.requires.0), c.requires.1)

pub returns-then-is_bare : goal.returns-then-is_bare
returns-then-is_bare c = ends_bare (sym c.is_bare.ensures ∙ c.if-is_bare.true) c.begin_last.ensures c.settle.ensures

pub returns : goal.returns
returns c = ends_list (sym c.is_bare.ensures ∙ c.if-is_bare.false) c.grown_row.ensures c.shut.ensures
