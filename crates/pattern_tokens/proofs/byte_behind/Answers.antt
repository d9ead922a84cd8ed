use borrow.Author.Rules.{rules}
use mathlib.Core.Path.{refl, sym}
use native.Mathlib.Omega.{arith}
use lib.ListN.{get_or-eq_default}
use Prim.Native.Nat.{◌+◌}
use Rattle.pattern_tokens.proofs.byte_behind.Goals as goal

pub returns-then-bytes-at : goal.returns-then-bytes-at
returns-then-bytes-at c = sym (get_or-eq_default c.args.bytes.now 0 {n = c.args.at + c.args.k} (omega arith))

pub returns-then-bytes-at-2 : goal.returns-then-bytes-at-2
returns-then-bytes-at-2 c = sym (get_or-eq_default c.args.bytes.now 0 {n = c.args.at + c.args.k} (omega arith))

pub returns : goal.returns
returns c = refl
