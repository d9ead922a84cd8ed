use Rattle.refusals.proofs.Passing.{passed}
use Rattle.std.specs.Prelude.{Ok, Err}
use borrow.Author.Rules.{rules}
use Rattle.image.specs.Tree.{tree}
use Rattle.pattern_walk_laws.proofs.Asking.{walkable_after}
use Rattle.pattern_passes.proofs.Walking.{check_refuses, bind_follows}
use Rattle.pattern_passes.proofs.check_and_bind.Goals as goal

pub pattern_match_inner-requires-2 : goal.pattern_match_inner-requires-2
pattern_match_inner-requires-2 c = record { walkable = walkable_after c.requires.0 (rw c.in_ok-c1.was at c.pattern_match_inner.ensures); p_bound = c.requires.1 }

pub returns-in_err-c1 : goal.returns-in_err-c1
returns-in_err-c1 c = rw (passed _ _ c.from_residual.ensures.1) (check_refuses c.args.image.now c.args.bindings.now (tree c.args.image.now c.args.p.0) c.args.place (rw c.in_err-c1.was at c.pattern_match_inner.ensures))

pub returns : goal.returns
returns c = bind_follows c.args.image.now c.args.bindings.now (tree c.args.image.now c.args.p.0) c.args.place c.requires.0.ready (rw c.in_ok-c1.was at c.pattern_match_inner.ensures) c.pattern_match_inner-2.ensures
