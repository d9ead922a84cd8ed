use borrow.Enum.Refused.{opened}
use borrow.Author.Rules.{rules}
use Rattle.pattern_rows.specs.Rows.{compound_kind}
use Rattle.pattern_rows.proofs.Defaults.{other_is_variant}
use Rattle.pattern_rows.proofs.compound_kind.Goals as goal

pub returns-in-Tuple : goal.returns-in-Tuple
unfolding compound_kind
returns-in-Tuple c = rw c.in-Tuple.is

pub returns-in-Or : goal.returns-in-Or
unfolding compound_kind
returns-in-Or c = rw c.in-Or.is

pub returns-in-Slice : goal.returns-in-Slice
unfolding compound_kind
returns-in-Slice c = rw c.in-Slice.is

pub returns-in-Bind : goal.returns-in-Bind
unfolding compound_kind
returns-in-Bind c = rw c.in-Bind.is

pub returns-in-Ref : goal.returns-in-Ref
unfolding compound_kind
returns-in-Ref c = rw c.in-Ref.is

pub returns-in_default : goal.returns-in_default
returns-in_default c = other_is_variant _ (opened c.in_default.in_default-own.keys6)
