use mathlib.Core.Path.{sym}
use borrow.Author.Tests.{le-ltb, lt-ltb}
use native.Mathlib.Omega.{arith}
use Rattle.place.specs.declared.place_ty.PlaceTy.{PlaceTy}
use Rattle.mir.specs.Locals.{local_ty, test_types}
use Rattle.mir.proofs.LocalTypes.{no_type_lem}
use Rattle.mir.proofs.locals.word_ty.Goals as goal

pub returns-then-word-lt256 : goal.returns-then-word-lt256
unfolding local_ty
returns-then-word-lt256 c = rw (lt-ltb _ 256 c.if-word-lt256.true)

pub returns-in-256 : goal.returns-in-256
unfolding local_ty
returns-in-256 c = rw c.in-256.is

pub returns-in-257 : goal.returns-in-257
unfolding local_ty
returns-in-257 c = rw c.in-257.is

pub returns-in-258 : goal.returns-in-258
unfolding local_ty
returns-in-258 c = rw c.in-258.is

pub returns-in_default : goal.returns-in_default
returns-in_default c = no_type_lem c.args.word c.if-word-lt256.false c.in_default.in_default-own.rest.0.0.1 c.in_default.in_default-own.rest.0.1 c.in_default.in_default-own.rest.1
