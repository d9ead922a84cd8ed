use borrow.Author.Rules.{rules}
use mathlib.Core.Path.{sym}
use native.Mathlib.Omega.{arith}
use lib.ListN.{get_or-eq_default}
use Rattle.text_chars.proofs.byte_of.Goals as goal

pub returns-else-k-bytes : goal.returns-else-k-bytes
returns-else-k-bytes c = sym (get_or-eq_default c.args.bytes.now 0 {n = c.args.k} (omega arith))
