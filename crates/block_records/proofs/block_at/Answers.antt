use Prim.Native.Nat.{◌+◌, ◌*◌}
use native.Mathlib.Omega.{arith}
use borrow.Author.Rules.{rules}
use Rattle.mir.specs.Blocks.{block_width}
use Rattle.block_records.specs.Records.{record_at}
use Rattle.block_records.proofs.Reading.{word_at_lem, four_at}
use mathlib.Core.Path.{◌∙◌}
use Rattle.block_records.proofs.block_at.Goals as goal

pub returns : goal.returns
unfolding record_at
returns c =
    let a = c.args in
    let t = a.blocks.now in
    let b = a.b.0 in
    let w₀ = word_at_lem t b 0 (block_width * b) (omega arith) (omega arith) in
    let w₁ = word_at_lem t b 1 (block_width * b + 1) (omega arith) (omega arith) in
    let w₂ = word_at_lem t b 2 (block_width * b + 2) (omega arith) (omega arith) in
    let w₃ = word_at_lem t b 3 (block_width * b + 3) (omega arith) (omega arith) in
    let low = c.four_words.ensures ∙ four_at t b 4 (block_width * b + 4) (omega arith) (omega arith) in
    let high = c.four_words-2.ensures ∙ four_at t b 8 (block_width * b + 8) (omega arith) (omega arith) in
    λ i. record { kind = w₀ i; local = record { 0 = w₁ i }; then = record { 0 = w₂ i }; other = record { 0 = w₃ i }; low = low i; high = high i }
