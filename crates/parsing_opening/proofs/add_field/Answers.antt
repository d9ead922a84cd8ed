use borrow.Author.Rules.{rules}
use native.Mathlib.Omega.{arith}
use Rattle.parsing_rests.proofs.Opens.{parts_wide}
use Rattle.parsing_opening.proofs.Opened.{adds_field_lem}
use Rattle.parsing_opening.proofs.add_field.Goals as goal

pub grow_top-requires : goal.grow_top-requires
grow_top-requires c = (omega (arith, c.requires.0), parts_wide c.requires.1)

pub returns : goal.returns
returns c = adds_field_lem _ _ _ _ _ _ _ _ _ _ _ _ c.put_node.ensures (omega arith) c.put_node-2.ensures (omega arith) c.grow_top.ensures c.going_on.ensures
