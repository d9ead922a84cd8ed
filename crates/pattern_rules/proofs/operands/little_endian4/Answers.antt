use borrow.Author.Rules.{rules}
use borrow.Author.Rules.{rules}
use native.Mathlib.Omega.{arith}
use Rattle.pattern_rules.proofs.Little.{little_endian_four}
use Rattle.pattern_rules.proofs.operands.little_endian4.Goals as goal

pub overflow_cast-result : goal.overflow_cast-result
overflow_cast-result c = omega (arith, c.type_inv.bytes 0)

pub overflow_cast-result-2 : goal.overflow_cast-result-2
overflow_cast-result-2 c = omega (arith, c.type_inv.bytes 1)

pub overflow_cast-result-3 : goal.overflow_cast-result-3
overflow_cast-result-3 c = omega (arith, c.type_inv.bytes 2)

pub overflow_cast-result-4 : goal.overflow_cast-result-4
overflow_cast-result-4 c = omega (arith, c.type_inv.bytes 3)

pub overflow_mul-result : goal.overflow_mul-result
overflow_mul-result c = omega (arith, c.shared_slice_known-1.given 0, c.shared_slice_known-2-1.given 1, c.shared_slice_known-3-1.given 2, c.type_inv.bytes 3)

pub overflow_add-result : goal.overflow_add-result
overflow_add-result c = omega (arith, c.shared_slice_known-1.given 0, c.shared_slice_known-2-1.given 1, c.shared_slice_known-3-1.given 2, c.type_inv.bytes 3)

pub overflow_mul-result-2 : goal.overflow_mul-result-2
overflow_mul-result-2 c = omega (arith, c.shared_slice_known-1.given 0, c.shared_slice_known-2-1.given 1, c.shared_slice_known-3-1.given 2, c.type_inv.bytes 3)

pub overflow_add-result-2 : goal.overflow_add-result-2
overflow_add-result-2 c = omega (arith, c.shared_slice_known-1.given 0, c.shared_slice_known-2-1.given 1, c.shared_slice_known-3-1.given 2, c.type_inv.bytes 3)

pub overflow_mul-result-3 : goal.overflow_mul-result-3
overflow_mul-result-3 c = omega (arith, c.shared_slice_known-1.given 0, c.shared_slice_known-2-1.given 1, c.shared_slice_known-3-1.given 2, c.type_inv.bytes 3)

pub overflow_add-result-3 : goal.overflow_add-result-3
overflow_add-result-3 c = omega (arith, c.shared_slice_known-1.given 0, c.shared_slice_known-2-1.given 1, c.shared_slice_known-3-1.given 2, c.type_inv.bytes 3)

pub returns : goal.returns
returns c = little_endian_four _ c.requires
