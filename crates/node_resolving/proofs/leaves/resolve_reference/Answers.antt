use borrow.Author.Rules.{rules}
use mathlib.Core.Path.{refl}
use Rattle.name_resolving.specs.Gives.{refused_of, resolved_of}
use Rattle.node_rows.specs.Makings.{making_of}
use Rattle.type_parts.specs.Parts.{parts_of}
use Rattle.node_resolving.proofs.leaves.resolve_reference.Goals as goal

pub returns : goal.returns
unfolding resolved_of refused_of making_of parts_of
returns c = rw c.made-making.ensures (record { same = λ text names. refl; parts = refl })
