use borrow.Author.Rules.{rules}
use Rattle.place.specs.PlaceTypes.{ty_projection}
use Rattle.image.specs.Types.{ty_of}
use Rattle.image.proofs.Known.{shape_holds}
use Rattle.place_types.proofs.ty_projection.Goals as goal

pub field_ty-requires : goal.field_ty-requires
field_ty-requires c = (c.requires.0, c.requires.1, rw (c.from-kind.ensures, c.type_at-row.ensures) (shape_holds _ _ c.requires.1 c.requires.2))

pub returns-in-Deref : goal.returns-in-Deref
unfolding ty_projection ty_of
returns-in-Deref c = rw (c.in-Deref.is, ← c.type_at-row.ensures, ← c.from-kind.ensures) (c.deref_ty.ensures _)

pub returns-in-Field : goal.returns-in-Field
unfolding ty_projection ty_of
returns-in-Field c = rw (c.in-Field.is, ← c.type_at-row.ensures, ← c.from-kind.ensures) c.field_ty.ensures

pub returns-in-Index : goal.returns-in-Index
unfolding ty_projection ty_of
returns-in-Index c = rw (c.in-Index.is, ← c.type_at-row.ensures, ← c.from-kind.ensures) (c.element_ty.ensures _)

pub returns-in-IndexFromEnd : goal.returns-in-IndexFromEnd
unfolding ty_projection ty_of
returns-in-IndexFromEnd c = rw (c.in-IndexFromEnd.is, ← c.type_at-row.ensures, ← c.from-kind.ensures) (c.element_ty-in-IndexFromEnd.ensures _)

pub returns-in-Subslice : goal.returns-in-Subslice
unfolding ty_projection ty_of
returns-in-Subslice c = rw (c.in-Subslice.is, ← c.type_at-row.ensures, ← c.from-kind.ensures) (c.subslice_ty.ensures _)

pub returns-in-Downcast : goal.returns-in-Downcast
unfolding ty_projection ty_of
returns-in-Downcast c = rw (c.in-Downcast.is, ← c.type_at-row.ensures, ← c.from-kind.ensures) (c.downcast_ty.ensures _)

pub returns-in-Unknown : goal.returns-in-Unknown
unfolding ty_projection ty_of
returns-in-Unknown c = rw c.in-Unknown.is
