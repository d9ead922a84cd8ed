use borrow.Author.Rules.{rules}
use Rattle.draft_operands.proofs.operand_of.Goals as goal

pub returns : goal.returns
returns c =
    let s = c.args in
    λ i. record { kind = s.kind; bytes = c.halves_bytes-bytes.ensures i; count = s.count }
