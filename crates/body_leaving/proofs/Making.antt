-- What a call of the builder answers, where its contract gives counts and where a limit is passed. Assumes nothing.
use Rattle.std.specs.Prelude.{Some, None}
use Prim.Native.Nat.{ℕ, ◌<◌, ◌≤◌}
use mathlib.Core.Path.{◌≡◌, refl, ap}
use mathlib.Core.Bool.{Bool, true, false, cond}
use native.Mathlib.Omega.{arith}
use borrow.Author.Tests.{ltb-true, ltb-false}
use lib.Dec.{ltb}
use Rattle.mir.specs.declared.BasicBlockId.{BasicBlockId}
use Rattle.mir.specs.declared.Counts.{Counts}
use Rattle.mir.specs.Results.{NewBlock}
use Rattle.mir.specs.Blocks.{one_block_more, new_block}
use Rattle.mir.specs.Statements.{one_statement_more, new_statement}

-- counts that come out where there is room
counted_now : (b : Bool) (c₁ c : Counts) → Some c₁ ≡ cond b (Some c) None → (b ≡ true) × (c₁ ≡ c)
counted_now true c₁ c e = (refl, cc)
counted_now false c₁ c e = absurd (let z : ◌≡◌ {A = ℕ} 0 1 = cc in omega arith)

-- a block that comes out where there is room
block_now : (b : Bool) (c₁ c : Counts) (k₁ k : BasicBlockId) → ◌≡◌ {A = NewBlock} (Some (c₁, k₁)) (cond b (Some (c, k)) None) → (b ≡ true) × (c₁ ≡ c) × (k₁ ≡ k)
block_now true c₁ c k₁ k e =
    let same : ◌≡◌ {A = Counts × BasicBlockId} (c₁, k₁) (c, k) = cc in
    (refl, ap (λ (x : Counts × BasicBlockId). x.0) same, ap (λ (x : Counts × BasicBlockId). x.1) same)
block_now false c₁ c k₁ k e = absurd (let z : ◌≡◌ {A = ℕ} 0 1 = cc in omega arith)

-- none where there is not
block_none : (b : Bool) (c : Counts) (k : BasicBlockId) → ◌≡◌ {A = NewBlock} None (cond b (Some (c, k)) None) → b ≡ false
block_none true c k e = absurd (let z : ◌≡◌ {A = ℕ} 0 1 = cc in omega arith)
block_none false c k e = refl

-- a new block: there was room, and its number is the count before it
pub made_block : (c c₁ : Counts) (k : BasicBlockId) → Some (c₁, k) ≡ new_block c → (c.blocks < 512) × (c₁ ≡ one_block_more c) × (k ≡ record { 0 = c.blocks })
unfolding new_block
made_block c c₁ k e =
    let m = block_now (ltb c.blocks 512) c₁ (one_block_more c) k (record { 0 = c.blocks }) e in
    (ltb-true c.blocks 512 m.0, m.1, m.2)

-- the number of a new block is below the count then
pub next_below : (c c₁ : Counts) (k : BasicBlockId) → Some (c₁, k) ≡ new_block c → k.0 < c₁.blocks
next_below c c₁ k e =
    let m = made_block c c₁ k e in
    rw (m.1, m.2) (omega arith)

-- no block where the limit is passed
pub no_block : (c : Counts) → None ≡ new_block c → 512 ≤ c.blocks
unfolding new_block
no_block c e = ltb-false c.blocks 512 (block_none (ltb c.blocks 512) (one_block_more c) (record { 0 = c.blocks }) e)

-- a new statement: there was room
pub made_statement : (c c₁ : Counts) → Some c₁ ≡ new_statement c → (c.statements < 1024) × (c₁ ≡ one_statement_more c)
unfolding new_statement
made_statement c c₁ e =
    let m = counted_now (ltb c.statements 1024) c₁ (one_statement_more c) e in
    (ltb-true c.statements 1024 m.0, m.1)
