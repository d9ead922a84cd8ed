use borrow.Enum.Refused.{opened}
use borrow.Author.Rules.{rules}
use Rattle.pattern_leaves.proofs.Leafing.{path_binding, path_operand, path_constant, path_unresolved, path_variant, path_local, path_compared, path_other}
use Rattle.pattern_leaves.proofs.Defaults.{something_else}
use Rattle.pattern_leaves.proofs.kinds.path_leaf.Goals as goal

pub local_path-requires : goal.local_path-requires
local_path-requires c = (path_binding _ _ c.requires.whole.1 c.in-Local.is c.requires.whole.2, c.requires.ready.1)

pub constant_path-requires : goal.constant_path-requires
constant_path-requires c = record { whole = (c.requires.whole.0, path_operand _ _ c.requires.whole.1 c.in-Constant.is, path_constant _ _ c.requires.whole.1 c.in-Constant.is); ready = c.requires.ready }

pub returns-in-Unresolved : goal.returns-in-Unresolved
returns-in-Unresolved c = path_unresolved _ _ _ _ _ _ _ _ _ _ _ c.in-Unresolved.is

pub returns-in-Variant : goal.returns-in-Variant
returns-in-Variant c = path_variant _ _ _ _ _ _ _ _ _ _ _ c.in-Variant.is

pub returns-in-Local : goal.returns-in-Local
returns-in-Local c = path_local _ _ _ _ _ _ _ _ _ _ _ c.in-Local.is c.local_path.ensures

pub returns-in-Constant : goal.returns-in-Constant
returns-in-Constant c = path_compared _ _ _ _ _ _ _ _ _ _ _ c.in-Constant.is c.constant_path.ensures

pub returns-in_default : goal.returns-in_default
returns-in_default c = path_other _ _ _ _ _ _ _ _ _ _ _ _ (something_else _ _ _ _ _ _ c.in_default.in_default-own.keys5) c.requires.ready.1 c.other_path.ensures
