use borrow.Author.Rules.{rules}
use mathlib.Core.Path.{sym}
use native.Mathlib.Omega.{arith}
use lib.Seq.{length-take-le}
use Rattle.params_start.proofs.Starting.{few, starts}
use Rattle.params_listing.proofs.put_lowered.Goals as goal

pub slice_bounds-bindings-end : goal.slice_bounds-bindings-end
slice_bounds-bindings-end c = search (rules, few c.args.image.now c.requires.0 c.requires.1)

pub slice_bounds-put_called-end : goal.slice_bounds-put_called-end
slice_bounds-put_called-end c = sym (length-take-le _ _ (omega (arith, few c.args.image.now c.requires.0 c.requires.1, c.unbind.auto)))

pub put_called-requires : goal.put_called-requires
put_called-requires c = starts c.args.image.now c.requires.0 c.requires.1 c.args.visits.now c.unbind.ensures c.start_params-counts.ensures (search (rules, c.well_formed.1.1.1.1.1.1.0)) c.clear_from.ensures

pub returns : goal.returns
returns c = c.put_called.ensures
