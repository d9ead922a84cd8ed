use borrow.Author.Rules.{rules}
use Rattle.name_resolving.proofs.Names.{end_within, start_within, cut_same}
use Rattle.name_resolving.proofs.lookup.name_bytes.Goals as goal

pub slice_bounds-result-count : goal.slice_bounds-result-count
slice_bounds-result-count c = rw (c.lower_of-first.ensures, c.lower_of-last.ensures) (start_within c.args.spelled.now c.args.from c.args.to)

pub slice_bounds-result-start : goal.slice_bounds-result-start
slice_bounds-result-start c = rw (c.lower_of-first.ensures, c.lower_of-last.ensures) (start_within c.args.spelled.now c.args.from c.args.to)

pub slice_bounds-result-end : goal.slice_bounds-result-end
slice_bounds-result-end c = rw c.lower_of-last.ensures (end_within c.args.spelled.now c.args.from c.args.to)

pub returns : goal.returns
returns c = rw (c.lower_of-first.ensures, c.lower_of-last.ensures) (cut_same c.args.spelled.now c.args.from c.args.to)
