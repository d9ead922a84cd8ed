use borrow.Author.Rules.{rules}
use borrow.Author.Tests.{not-true, not-false, lt-ltb}
use Rattle.fit_clauses.proofs.Clauses.{types_do_not, somewhere, bindings_do_not, refused, by_locals}
use Rattle.fit_clauses.proofs.pattern_fits.Goals as goal

pub types_fit-requires : goal.types_fit-requires
types_fit-requires c = (c.requires.0, c.requires.1, c.requires.3, lt-ltb _ _ c.requires.4)

pub returns-then-not-types_fit : goal.returns-then-not-types_fit
returns-then-not-types_fit c = types_do_not _ _ _ _ _ c.types_fit.ensures (c.if-not-types_fit.true)

pub returns-then-not-bindings_fit : goal.returns-then-not-bindings_fit
returns-then-not-bindings_fit c = bindings_do_not _ _ _ _ _ c.types_fit.ensures (c.if-not-types_fit.false) c.bindings_fit.ensures (c.if-not-bindings_fit.true)

pub nothing_refused-requires : goal.nothing_refused-requires
nothing_refused-requires c = record { image_value = (c.requires.0, c.requires.1, c.requires.3, c.requires.2); fits_somewhere = somewhere _ c.types_fit.ensures (c.if-not-types_fit.false) c.requires.4 }

pub returns-then-not-nothing_refused : goal.returns-then-not-nothing_refused
returns-then-not-nothing_refused c = refused _ _ _ _ _ c.types_fit.ensures (c.if-not-types_fit.false) c.bindings_fit.ensures (c.if-not-bindings_fit.false) c.nothing_refused.ensures (c.if-not-nothing_refused.true)

pub returns : goal.returns
returns c = by_locals _ _ _ _ _ c.types_fit.ensures (c.if-not-types_fit.false) c.bindings_fit.ensures (c.if-not-bindings_fit.false) c.nothing_refused.ensures (c.if-not-nothing_refused.false) c.locals_differ.ensures
