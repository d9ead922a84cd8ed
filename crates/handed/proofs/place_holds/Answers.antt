use mathlib.Core.Logic.{⊎_elim}
use Prim.Native.Nat.{◌≤◌, ◌<◌}
use borrow.Author.Rules.{rules}
use borrow.Author.Tests.{lt-ltb, le-ltb, le-leb, lt-leb}
use native.Mathlib.Omega.{arith}
use Rattle.place.specs.Elems.{elem_of}
use Rattle.body_row_rules.specs.Bodies.{elem_holds}
use Rattle.body_row_rules.proofs.Loops.{words_told}
use Rattle.handed.specs.Handed.{place_holds}
use Rattle.handed.proofs.place_holds.Goals as goal

pub returns-then-counts-place : goal.returns-then-counts-place
unfolding place_holds
returns-then-counts-place c = ⊎_elim (λ w. rw (le-ltb _ _ w)) (λ w. rw (lt-ltb _ _ w.0, lt-leb _ _ w.1)) c.then-counts-place.either

pub returns : goal.returns
unfolding place_holds
returns c =
    rw (lt-ltb _ _ c.if-counts-place.false, le-leb _ _ c.if-place-gt16.false)
    (words_told (λ elem. elem_holds c.args.variants (elem_of elem)) c.args.place.elems c.args.place.len c.all.result (omega arith) (search rules))
