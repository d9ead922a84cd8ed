use borrow.Author.Rules.{rules}
use native.Mathlib.Omega.{arith}
use Prim.Native.Nat.{◌-◌}
use Rattle.body_scopes.proofs.Closing.{closed}
use Rattle.body_scopes.proofs.pop_scope.Goals as goal

pub clear_entries-requires : goal.clear_entries-requires
clear_entries-requires c = (search rules, omega (arith, c.requires.3 (c.args.counts.scopes - 1) (omega (arith, c.requires.0)), c.scope_word-start.ensures), c.requires.2)

pub returns : goal.returns
returns c = closed _ _ _ c.requires.0 c.scope_word-start.ensures (omega (arith, c.requires.3 (c.args.counts.scopes - 1) (omega (arith, c.requires.0)), c.scope_word-start.ensures)) c.clear_scope.ensures c.clear_entries.ensures
