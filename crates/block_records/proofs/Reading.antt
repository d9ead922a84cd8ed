-- A record is read back as the terminator that it was made of, and the row of a block, as a record, as the row is read. Assumes nothing.
use Prim.Native.Nat.{ℕ, ◌+◌, ◌*◌, ◌<◌}
use mathlib.Core.Path.{◌≡◌, refl, sym, ap, ap₂, ◌∙◌}
use mathlib.Core.List.{List}
use native.Mathlib.Omega.{arith}
use lib.ListN.{drop, get_or}
use lib.Seq.{get_or-take, get_or-drop}
use Rattle.image.proofs.Defaults.{NoneOf, default-from-one}
use Rattle.row_tables.specs.Rows.{row_at}
use Rattle.mir.specs.declared.blocks.Terminator.{Terminator}
use Rattle.mir.specs.Blocks.{term_row, block_width}
use Rattle.views.specs.Views.{word, four_words_at, terminator_of}
use Rattle.views.proofs.ReadBack.{four_words_lem, Halved}
use Rattle.block_records.specs.declared.Block.{Block}
use Rattle.block_records.specs.Records.{record_of, kinds_in, terminator_in, record_of_row, record_at}

-- a record is read back
pub record_back : (t : Terminator) → terminator_in (record_of t) ≡ t
unfolding terminator_in record_of
record_back Terminator.Open = refl
record_back (Terminator.Goto b) = refl
record_back (Terminator.Switch l low high then else) = refl
record_back Terminator.Unreachable = refl
record_back (Terminator.Drop l b) = refl

-- a row, as a record, is read as it is by itself
pub row_back : (blocks : List ℕ) (b : ℕ) → terminator_in (record_at blocks b) ≡ terminator_of (row_at block_width blocks b)
unfolding terminator_in record_at terminator_of
row_back blocks b = refl

-- the row of a terminator is, as a record, the terminator's
pub row_record : (t : Terminator) → Halved t → record_of_row (term_row t) ≡ record_of t
unfolding record_of term_row
row_record Terminator.Open h = refl
row_record (Terminator.Goto b) h = refl
row_record (Terminator.Switch l low high then else) h =
    ap₂ (λ (x y : ℕ). record { kind = 2; local = l; then = then; other = else; low = x; high = y }) (four_words_lem low h.0) (four_words_lem high h.1)
row_record Terminator.Unreachable h = refl
row_record (Terminator.Drop l b) h = refl

-- the word k of the row b, and where the table has it
pub word_at_lem : (t : List ℕ) (b k at : ℕ) → k < 12 → at ≡ block_width * b + k → get_or t at 0 ≡ word (row_at block_width t b) k
unfolding row_at
word_at_lem t b k at h e = ap (λ (j : ℕ). get_or t j 0) e ∙ sym (get_or-take 12 (drop (block_width * b) t) k 0 h ∙ get_or-drop (block_width * b) t k 0)

-- four words of the row b, from the word k on, and where the table has them
pub four_at : (t : List ℕ) (b k at : ℕ) → k + 3 < 12 → at ≡ block_width * b + k → four_words_at t at ≡ four_words_at (row_at block_width t b) k
four_at t b k at h e =
    let w₀ = word_at_lem t b k at (omega arith) e in
    let w₁ = word_at_lem t b (k + 1) (at + 1) (omega arith) (omega arith) in
    let w₂ = word_at_lem t b (k + 2) (at + 2) (omega arith) (omega arith) in
    let w₃ = word_at_lem t b (k + 3) (at + 3) (omega arith) (omega arith) in
    λ i. w₀ i + 65536 * w₁ i + 4294967296 * w₂ i + 281474976710656 * w₃ i

module _ (r : Block) where
  -- a record of the kind k has the terminator that stands at k
  pub kind_in : (k : ℕ) → r.kind ≡ k → get_or (kinds_in r) k Terminator.Open ≡ terminator_in r
  unfolding terminator_in
  kind_in k e = sym (ap (λ (n : ℕ). get_or (kinds_in r) n Terminator.Open) e)

  -- one of no other kind is open
  pub open_in_lem : NoneOf r.kind 1 4 → Terminator.Open ≡ terminator_in r
  unfolding terminator_in
  open_in_lem w = sym (default-from-one (kinds_in r) Terminator.Open r.kind 4 refl refl w)
