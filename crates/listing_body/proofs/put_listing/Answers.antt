use borrow.Author.Rules.{rules}
use native.Mathlib.Omega.{arith}
use borrow.Rule.Slice.PartMut.{mid_len}
use Rattle.body_tables.specs.Layout.{statements_at, locals_at, scopes_at, body_of}
use Rattle.listing_body.proofs.Whole.{whole}
use Rattle.listing_body.proofs.put_listing.Goals as goal

pub slice_bounds-put_locals-end : goal.slice_bounds-put_locals-end
slice_bounds-put_locals-end c = omega (arith, c.requires.0)

pub put_locals-named-requires : goal.put_locals-named-requires
put_locals-named-requires c = (mid_len locals_at scopes_at c.args.body.now (omega (arith, c.requires.0)), c.requires.3)

pub slice_bounds-put_recorded-end : goal.slice_bounds-put_recorded-end
slice_bounds-put_recorded-end c = omega (arith, c.requires.0)

pub slice_bounds-put_recorded-end-2 : goal.slice_bounds-put_recorded-end-2
slice_bounds-put_recorded-end-2 c = omega (arith, c.requires.0)

pub put_recorded-requires : goal.put_recorded-requires
put_recorded-requires c =
    let words = c.args.body.now in
    let size = c.requires.0 in
    (mid_len 0 statements_at words (omega (arith, size)), mid_len statements_at locals_at words (omega (arith, size)), c.requires.1, c.requires.2)

pub shape_of-out : goal.shape_of-out
shape_of-out c = omega (arith, c.put_head-begun.auto.out, c.put_locals-named.auto.out, c.put_recorded.auto.out)

pub returns : goal.returns
unfolding body_of
returns c =
    let a = c.args in
    whole (body_of a.body.now) a.counts a.then a.els c.put_head-begun.ensures c.put_locals-named.ensures c.put_recorded.ensures
