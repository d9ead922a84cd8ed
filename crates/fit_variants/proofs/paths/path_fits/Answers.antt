use borrow.Enum.Refused.{opened}
use Rattle.image.specs.Tree.{target}
use Rattle.meaning.specs.Fit.{path_fits}
use Rattle.fit_shapes.proofs.Nodes.{constant_holds_lem}
use Rattle.fit_variants.proofs.Defaults.{path_asks_nothing}
use Rattle.fit_variants.proofs.paths.path_fits.Goals as goal

pub constant_fits-requires : goal.constant_fits-requires
constant_fits-requires c = (c.requires.1, c.requires.2, constant_holds_lem _ _ c.in-Constant.is c.requires.3)

pub returns-in-Variant : goal.returns-in-Variant
unfolding path_fits target
returns-in-Variant c = rw c.in-Variant.is c.discriminants_differ.ensures

pub returns-in-Constant : goal.returns-in-Constant
unfolding path_fits target
returns-in-Constant c = rw c.in-Constant.is c.constant_fits.ensures

pub returns-in_default : goal.returns-in_default
returns-in_default c = path_asks_nothing _ _ _ _ (opened c.in_default.in_default-own.keys3)
