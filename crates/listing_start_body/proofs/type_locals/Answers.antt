use mathlib.Core.Path.{◌∙◌}
use lib.ListN.{length-set}
use Rattle.listing_start_body.proofs.type_locals.Goals as goal

pub type_bindings-requires : goal.type_bindings-requires
type_bindings-requires c = (c.requires.0, c.requires.1, length-set c.args.locals.now 0 c.args.t ∙ c.requires.2)

pub shape_of-locals : goal.shape_of-locals
shape_of-locals c = c.type_bindings.auto.locals ∙ length-set c.args.locals.now 0 c.args.t
