-- What a call's own step starts from, and what a refusal leaves. Assumes nothing.
use Prim.Native.Nat.{ℕ, zero, suc, ◌<◌}
use mathlib.Core.Path.{◌≡◌, refl, ap, ap₂}
use mathlib.Core.Bool.{true}
use mathlib.Core.List.{List, [], ◌∷◌, ◌++◌}
use native.Mathlib.Omega.{arith}
use borrow.Author.Tests.{le-leb}
use Rattle.image.specs.Lists.{all_true}
use Rattle.row_tables.specs.Rows.{row_at, rows_of}
use Rattle.mir.specs.declared.Counts.{Counts}
use Rattle.state.specs.State.{Body, decode}
use Rattle.state.specs.Promises.{Kept}
use Rattle.body_row_rules.specs.Bodies.{counts_within}
use Rattle.body_calls_spec.specs.Sizes.{Sized}
use Rattle.body_calls_spec.proofs.Restoring.{kept_below}
use Rattle.mir.specs.Blocks.{block_width}

-- counts that fit the tables are within the limits
pub few_counts : (b : Body) (c : Counts) → Sized b c → counts_within c ≡ true
unfolding counts_within all_true
few_counts b c S =
    rw (le-leb _ _ S.block_count_lem, le-leb _ _ S.statement_count, le-leb _ _ S.local_count, le-leb _ _ S.scope_count, le-leb _ _ S.entry_count) refl

rows_each : (w : ℕ) (t s : List ℕ) (n : ℕ) → ((i : ℕ) → i < n → row_at w t i ≡ row_at w s i) → rows_of w t n ≡ rows_of w s n
unfolding rows_of
rows_each w t s zero e = refl
rows_each w t s (suc n) e = ap₂ (λ (rows : List (List ℕ)) (row : List ℕ). rows ++ (row ∷ [])) (rows_each w t s n (λ i h. e i (omega arith))) (e n (omega arith))

-- where no block's terminator was set, all that lies below the counts is as found
pub all_below_lem : (c : Counts) (b b₂ : Body) → Kept c c.blocks b b₂ → decode b₂ c ≡ decode b c
all_below_lem c b b₂ K = kept_below c c.blocks b b₂ b₂.blocks K (rows_each block_width b₂.blocks b.blocks c.blocks (λ i h. K.blocks i h (λ e. omega arith)))
