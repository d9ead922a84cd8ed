use borrow.Author.Rules.{rules}
use Rattle.image.specs.Patterns.{path_holds}
use Rattle.pattern_rules.proofs.patterns.path_holds.Goals as goal

pub returns-in-Unresolved : goal.returns-in-Unresolved
unfolding path_holds
returns-in-Unresolved c = rw c.in-Unresolved.is

pub returns-in-Variant : goal.returns-in-Variant
unfolding path_holds
returns-in-Variant c = rw (c.in-Variant.is, ← c.requires.variant_count_lem)

pub returns-in-Local : goal.returns-in-Local
unfolding path_holds
returns-in-Local c = rw (c.in-Local.is, ← c.requires.binding_count_lem)

pub returns-in-Constant : goal.returns-in-Constant
returns-in-Constant c = rw c.in-Constant.is c.constant_holds.ensures

pub returns-in-Other : goal.returns-in-Other
unfolding path_holds
returns-in-Other c = rw c.in-Other.is

pub returns-in-Unknown : goal.returns-in-Unknown
unfolding path_holds
returns-in-Unknown c = rw c.in-Unknown.is
