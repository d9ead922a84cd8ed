use borrow.Enum.Refused.{opened}
use borrow.Author.Rules.{rules}
use mathlib.Core.Path.{refl}
use Rattle.pattern_nodes.specs.Leaves.{is_leaf_path, is_leaf}
use Rattle.pattern_leaves.proofs.Defaults.{has_subpatterns, has_none, no_variant}
use Rattle.pattern_leaves.proofs.kinds.is_leaf.Goals as goal

pub returns-in-Tuple : goal.returns-in-Tuple
returns-in-Tuple c = has_subpatterns _ _ c.in-Tuple.in-Tuple-own.keys1

pub returns-in-Variant : goal.returns-in-Variant
unfolding is_leaf_path is_leaf
returns-in-Variant c = rw (c.in-Path.is, c.in-Variant.is) refl

pub returns-in_default-path : goal.returns-in_default-path
unfolding is_leaf
returns-in_default-path c = rw c.in-Path.is (no_variant _ (opened c.in_default-path.in_default-path-own.keys2))

pub returns-in_default : goal.returns-in_default
returns-in_default c = has_none _ _ (opened c.in_default.in_default-own.keys3)
