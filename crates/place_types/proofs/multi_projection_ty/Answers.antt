use mathlib.Core.Path.{ap, ◌∙◌}
use mathlib.Core.List.{map}
use lib.ListN.{take}
use Rattle.std.proofs.lemmas.List.{take_all}
use Rattle.place.specs.Elems.{elem_of}
use Rattle.place.specs.Places.{projection_of}
use Rattle.place.specs.PlaceTypes.{multi_projection_ty}
use Rattle.place.proofs.Far.{far_start, far_more}
use Rattle.place_types.proofs.multi_projection_ty.Goals as goal

pub loop-elem-init : goal.loop-elem-init
loop-elem-init c = far_start _ _ _ c.requires.2

pub projection_ty-here-requires : goal.projection_ty-here-requires
projection_ty-here-requires c = (c.requires.0, c.requires.1, c.loop-elem.invariant.named)

pub loop-elem-preserved : goal.loop-elem-preserved
loop-elem-preserved c = rw (c.projection_ty-here.ensures, c.elem_of.ensures) (far_more _ _ _ _ _ c.requires.1 c.loop-elem-test.true c.loop-elem.invariant)

pub returns : goal.returns
unfolding projection_of
returns c =
    let elems = take c.args.place.len c.args.place.elems in
    c.loop-elem.invariant.is ∙ ap (λ l. multi_projection_ty c.args.image.now c.args.ty (map elem_of l)) (take_all c.loop-elem.elem-index elems c.loop-elem-test.false)
