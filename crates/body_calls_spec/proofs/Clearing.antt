-- Zeros above the counts: the tables then hold the rows that were found, and are ready for the next step. Assumes nothing.
use Prim.Native.Nat.{ℕ, ◌*◌, ◌-◌, ◌≤◌}
use mathlib.Core.Path.{◌≡◌, sym, ap, ap₂, ◌∙◌}
use mathlib.Core.List.{List, ◌++◌}
use native.Mathlib.Nat.{le_refl}
use native.Mathlib.Omega.{arith}
use lib.ListN.{length, take}
use lib.Seq.{length-take-le, take_at, drop_at}
use Rattle.row_tables.specs.Rows.{zeros, rows_of, cleared, encode_rows}
use Rattle.row_tables.proofs.Tables.{length_cleared, rows_cleared, blank_cleared, encoded}
use Rattle.mir.specs.declared.Counts.{Counts}
use Rattle.mir.specs.Blocks.{block_width, block_words}
use Rattle.mir.specs.Statements.{statement_width, statement_words}
use Rattle.state.specs.State.{Body, body, decode, encode, padded, counts_of}
use Rattle.state.specs.Promises.{BlankWords, Ready}
use Rattle.state.proofs.Words.{length_words, words_encoded}
use Rattle.state.proofs.Answering.{block_count_lem, statement_count, local_count, scope_count, entry_count}
use Rattle.body_calls_spec.specs.Sizes.{Sized}

-- n rows, and zeros above
cleared_rows : (w size : ℕ) (t : List ℕ) (n : ℕ) → length t ≡ size → w * n ≤ size → cleared t (w * n) ≡ encode_rows size (rows_of w t n)
cleared_rows w size t n long h =
    let fits : w * n ≤ length t = omega arith in
    encoded w (cleared t (w * n)) n (blank_cleared w t n fits) ∙ ap₂ encode_rows (length_cleared t (w * n) fits ∙ long) (rows_cleared w t n n (le_refl n) fits)

-- n words, and zeros above
cleared_words : (size : ℕ) (t : List ℕ) (n : ℕ) → length t ≡ size → n ≤ size → cleared t n ≡ padded size (take n t)
unfolding cleared padded
cleared_words size t n long h =
    let left : length t - n ≡ size - length (take n t) = omega (arith, length_words t n (omega arith)) in
    ap (λ (k : ℕ). take n t ++ zeros k) left

-- the words below what is cleared, and the zeros above
words_kept : (t : List ℕ) (n : ℕ) → n ≤ length t → take n (cleared t n) ≡ take n t
unfolding cleared
words_kept t n h = take_at (take n t) (zeros (length t - n)) n (length-take-le n t h)

words_blank : (t : List ℕ) (n : ℕ) → n ≤ length t → BlankWords (cleared t n) n
unfolding cleared
words_blank t n h = drop_at (take n t) (zeros (length t - n)) n (length-take-le n t h) ∙ ap (λ (k : ℕ). zeros (k - n)) (sym (length_cleared t n h))

-- each table is cleared above its count: 12 words a block, 49 a statement, and one each of the others
abbrev pub cleared_body : Body → Counts → Body
cleared_body b c =
    body
    (cleared b.blocks (block_width * c.blocks))
    (cleared b.statements (statement_width * c.statements))
    (cleared b.locals c.locals)
    (cleared b.scopes c.scopes)
    (cleared b.entries c.entries)

-- the tables then hold the rows that were found
pub all_cleared : (b : Body) (c : Counts) → Sized b c → cleared_body b c ≡ encode (decode b c)
unfolding encode decode
all_cleared b c S = λ i. record {
  blocks = cleared_rows 12 block_words b.blocks c.blocks S.blocks (omega (arith, S.block_count_lem)) i;
  statements = cleared_rows statement_width statement_words b.statements c.statements S.statements (omega (arith, S.statement_count)) i;
  locals = cleared_words 512 b.locals c.locals S.locals S.local_count i;
  scopes = cleared_words 32 b.scopes c.scopes S.scopes S.scope_count i;
  entries = cleared_words 1024 b.entries c.entries S.entries S.entry_count i;
}

ready_cleared : (b : Body) (c : Counts) → Sized b c → Ready (cleared_body b c) c
ready_cleared b c S =
    let fit-blocks : block_width * c.blocks ≤ length b.blocks = omega (arith, S.blocks, S.block_count_lem) in
    let fit-statements : statement_width * c.statements ≤ length b.statements = omega (arith, S.statements, S.statement_count) in
    let fit-locals : c.locals ≤ length b.locals = omega (arith, S.locals, S.local_count) in
    let fit-scopes : c.scopes ≤ length b.scopes = omega (arith, S.scopes, S.scope_count) in
    let fit-entries : c.entries ≤ length b.entries = omega (arith, S.entries, S.entry_count) in
    record {
      blocks = length_cleared b.blocks (block_width * c.blocks) fit-blocks ∙ S.blocks;
      statements = length_cleared b.statements (statement_width * c.statements) fit-statements ∙ S.statements;
      locals = length_cleared b.locals c.locals fit-locals ∙ S.locals;
      scopes = length_cleared b.scopes c.scopes fit-scopes ∙ S.scopes;
      entries = length_cleared b.entries c.entries fit-entries ∙ S.entries;
      block_count_lem = S.block_count_lem;
      statement_count = S.statement_count;
      local_count = S.local_count;
      scope_count = S.scope_count;
      entry_count = S.entry_count;
      blank_blocks = blank_cleared 12 b.blocks c.blocks fit-blocks;
      blank_statements = blank_cleared statement_width b.statements c.statements fit-statements;
      blank_locals = words_blank b.locals c.locals fit-locals;
      blank_scopes = words_blank b.scopes c.scopes fit-scopes;
      blank_entries = words_blank b.entries c.entries fit-entries;
    }

decode_cleared : (b : Body) (c : Counts) → Sized b c → decode (cleared_body b c) c ≡ decode b c
unfolding decode
decode_cleared b c S = λ i. record {
  blocks = rows_cleared 12 b.blocks c.blocks c.blocks (le_refl c.blocks) (omega (arith, S.blocks, S.block_count_lem)) i;
  statements = rows_cleared statement_width b.statements c.statements c.statements (le_refl c.statements) (omega (arith, S.statements, S.statement_count)) i;
  locals = words_kept b.locals c.locals (omega (arith, S.locals, S.local_count)) i;
  scopes = words_kept b.scopes c.scopes (omega (arith, S.scopes, S.scope_count)) i;
  entries = words_kept b.entries c.entries (omega (arith, S.entries, S.entry_count)) i;
}

-- the tables b₁ hold what the tables b held, and zeros above
pub record Cleared (b : Body) (c : Counts) (b₁ : Body) : Type 0 where
  pub ready : Ready b₁ c
  pub same : decode b₁ c ≡ decode b c
  pub holds : b₁ ≡ encode (decode b c)

pub clears : {b b₁ : Body} {c : Counts} → Sized b c → b₁ ≡ encode (decode b c) → Cleared b c b₁
clears {b = b} {c = c} S is =
    let after = is ∙ sym (all_cleared b c S) in
    record { ready = rw after (ready_cleared b c S); same = ap (λ (x : Body). decode x c) after ∙ decode_cleared b c S; holds = is }

-- tables that are ready are those of their state
pub held : (b : Body) (c : Counts) → Ready b c → b ≡ encode (decode b c)
unfolding encode decode
held b c R = λ i. record {
  blocks = (encoded 12 b.blocks c.blocks R.blank_blocks ∙ ap (λ (k : ℕ). encode_rows k (rows_of block_width b.blocks c.blocks)) R.blocks) i;
  statements = (encoded statement_width b.statements c.statements R.blank_statements ∙ ap (λ (k : ℕ). encode_rows k (rows_of statement_width b.statements c.statements)) R.statements) i;
  locals = (words_encoded b.locals c.locals (omega (arith, R.locals, R.local_count)) R.blank_locals ∙ ap (λ (k : ℕ). padded k (take c.locals b.locals)) R.locals) i;
  scopes = (words_encoded b.scopes c.scopes (omega (arith, R.scopes, R.scope_count)) R.blank_scopes ∙ ap (λ (k : ℕ). padded k (take c.scopes b.scopes)) R.scopes) i;
  entries = (words_encoded b.entries c.entries (omega (arith, R.entries, R.entry_count)) R.blank_entries ∙ ap (λ (k : ℕ). padded k (take c.entries b.entries)) R.entries) i;
}

-- and have as many rows as the counts say
pub counted : (b : Body) (c : Counts) → Ready b c → counts_of (decode b c) ≡ c
unfolding counts_of
counted b c R = λ i. record {
  blocks = block_count_lem b c i;
  statements = statement_count b c i;
  locals = local_count b c R i;
  scopes = scope_count b c R i;
  entries = entry_count b c R i;
}
