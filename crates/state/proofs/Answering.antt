-- Each step of the builder answers what its definition gives, and answers follow one another. Assumes nothing.
use mathlib.Core.Path.{◌≡◌, refl, sym, ap, ◌∙◌}
use mathlib.Core.Logic.{inl, inr}
use mathlib.Core.Option.{Option, none, some}
use Prim.Native.Nat.{ℕ, ◌+◌, ◌*◌, ◌≤◌, ◌<◌}
use native.Mathlib.Nat.{le_refl, le_trans}
use native.Mathlib.Omega.{arith}
use borrow.Author.Tests.{lt-ltb, le-ltb}
use lib.ListN.{length, take}
use Rattle.refusals.specs.declared.MirLowerError.{MirLowerError}
use Rattle.refusals.specs.Refusals.{Result, done, stopped, and_then}
use Rattle.row_tables.specs.Rows.{rows_of}
use Rattle.row_tables.proofs.Tables.{length_rows, blank_more, take_less}
use Rattle.place.specs.declared.LocalId.{LocalId}
use Rattle.mir.specs.declared.BasicBlockId.{BasicBlockId}
use Rattle.mir.specs.declared.Counts.{Counts}
use Rattle.mir.specs.Blocks.{term_row, one_block_more}
use Rattle.mir.proofs.OpenBlocks.{new_block_open}
use Rattle.mir.specs.Statements.{statement_width}
use Rattle.state.specs.State.{Body, decode}
use Rattle.state.specs.Steps.{next_block, next_local, new_block, try_block}
use Rattle.state.specs.Promises.{Ready, Grown, Kept, Own, Goes, Answers}
use Rattle.state.proofs.Words.{length_words}

-- a state has as many rows as the counts say
pub block_count_lem : (b : Body) (c : Counts) → length (decode b c).blocks ≡ c.blocks
unfolding decode
block_count_lem b c = length_rows 12 b.blocks c.blocks

pub statement_count : (b : Body) (c : Counts) → length (decode b c).statements ≡ c.statements
unfolding decode
statement_count b c = length_rows statement_width b.statements c.statements

pub local_count : (b : Body) (c : Counts) → Ready b c → length (decode b c).locals ≡ c.locals
unfolding decode
local_count b c R = length_words b.locals c.locals (omega (arith, R.locals, R.local_count))

pub scope_count : (b : Body) (c : Counts) → Ready b c → length (decode b c).scopes ≡ c.scopes
unfolding decode
scope_count b c R = length_words b.scopes c.scopes (omega (arith, R.scopes, R.scope_count))

pub entry_count : (b : Body) (c : Counts) → Ready b c → length (decode b c).entries ≡ c.entries
unfolding decode
entry_count b c R = length_words b.entries c.entries (omega (arith, R.entries, R.entry_count))

-- nothing is taken away by doing nothing, nor by one thing after the other
pub grown_refl : (c : Counts) → Grown c c
grown_refl c =
    record { blocks = le_refl c.blocks; statements = le_refl c.statements; locals = le_refl c.locals; scopes = le_refl c.scopes; entries = le_refl c.entries }

pub grown_trans : {c c₁ c₂ : Counts} → Grown c c₁ → Grown c₁ c₂ → Grown c c₂
grown_trans g h =
    record {
      blocks = le_trans g.blocks h.blocks;
      statements = le_trans g.statements h.statements;
      locals = le_trans g.locals h.locals;
      scopes = le_trans g.scopes h.scopes;
      entries = le_trans g.entries h.entries;
    }

-- everything is kept by doing nothing
pub kept_refl : (c : Counts) (current : ℕ) (b : Body) → Kept c current b b
kept_refl c current b = record { blocks = λ i h n. refl; statements = refl; locals = refl; scopes = refl; entries = refl }

not_own : (c : Counts) (current next i : ℕ) → Own c current next → i < c.blocks → (i ≡ current → ⊥) → i ≡ next → ⊥
not_own c current next i (inl same) h n e = n (e ∙ same)
not_own c current next i (inr new) h n e = absurd (omega arith)

pub kept_trans : {c c₁ : Counts} {current next : ℕ} {b b₁ b₂ : Body} → Kept c current b b₁ → Grown c c₁ → Own c current next → Kept c₁ next b₁ b₂ → Kept c current b b₂
kept_trans {c = c} {c₁ = c₁} {current = current} {next = next} {b = b} {b₁ = b₁} {b₂ = b₂} K G own L =
    record {
      blocks = λ i h n. L.blocks i (le_trans h G.blocks) (not_own c current next i own h n) ∙ K.blocks i h n;
      statements =
          take_less (statement_width * c.statements) (statement_width * c₁.statements) b₂.statements b₁.statements (omega (arith, G.statements)) L.statements ∙ K.statements;
      locals = take_less c.locals c₁.locals b₂.locals b₁.locals G.locals L.locals ∙ K.locals;
      scopes = take_less c.scopes c₁.scopes b₂.scopes b₁.scopes G.scopes L.scopes ∙ K.scopes;
      entries = take_less c.entries c₁.entries b₂.entries b₁.entries G.entries L.entries ∙ K.entries;
    }

goes_trans : {c c₁ : Counts} (b₂ : Body) (c₂ : Option Counts) → Grown c c₁ → Goes c₁ c₂ b₂ → Goes c c₂ b₂
goes_trans b₂ none G h = tt
goes_trans b₂ (some c₂) G h = (h.0, grown_trans G h.1)

-- a step, and then what follows it
pub then : {A B : Type 0} {b b₁ b₂ : Body} {c c₁ : Counts} {current next : ℕ} {c₂ : Option Counts} {a : A} {defined : Result A} {given : Result B} (k : A → Result B) →
    Answers b c current b₁ (some c₁) (done a) defined → Own c current next → Answers b₁ c₁ next b₂ c₂ given (k a) → Answers b c current b₂ c₂ given (and_then defined k)
then {b₂ = b₂} {c₂ = c₂} k F own S =
    record { says = S.says ∙ ap (λ r. and_then r k) F.says; goes = goes_trans b₂ c₂ F.goes.1 S.goes; kept = kept_trans F.kept F.goes.1 own S.kept }

-- a step that refuses
pub stops : {A B : Type 0} {b b₁ : Body} {c : Counts} {current : ℕ} {e : MirLowerError} {defined : Result A} (k : A → Result B) →
    Answers b c current b₁ none (stopped e) defined → Answers b c current b₁ none (stopped e) (and_then defined k)
stops k F = record { says = ap (λ r. and_then r k) F.says; goes = tt; kept = F.kept }

-- an answer that does nothing
pub no_step : {A : Type 0} {b : Body} {c : Counts} {current : ℕ} (a : A) → Ready b c → Answers b c current b (some c) (done a) (done a)
no_step {b = b} {c = c} {current = current} a R = record { says = refl; goes = (R, grown_refl c); kept = kept_refl c current b }

-- a refusal before anything is done
pub refuses : {A : Type 0} {b : Body} {c : Counts} {current : ℕ} {defined : Result A} (e : MirLowerError) → stopped e ≡ defined → Answers b c current b none (stopped e) defined
refuses {b = b} {c = c} {current = current} e h = record { says = h; goes = tt; kept = kept_refl c current b }

-- one block more
pub block_answers : (b : Body) (c : Counts) (current : ℕ) → Ready b c → c.blocks < 512 →
    Answers b c current b (some (one_block_more c)) (done (decode b (one_block_more c))) (try_block (decode b c))
unfolding try_block new_block decode term_row
block_answers b c current R h =
    record {
      says = rw (block_count_lem b c, lt-ltb c.blocks 512 h) (λ i. done (record {
        blocks = new_block_open b.blocks c.blocks (omega (arith, R.blocks)) R.blank_blocks i;
        statements = rows_of statement_width b.statements c.statements;
        locals = take c.locals b.locals;
        scopes = take c.scopes b.scopes;
        entries = take c.entries b.entries;
      }));
      goes = (
        record {
          blocks = R.blocks;
          statements = R.statements;
          locals = R.locals;
          scopes = R.scopes;
          entries = R.entries;
          block_count_lem = omega arith;
          statement_count = R.statement_count;
          local_count = R.local_count;
          scope_count = R.scope_count;
          entry_count = R.entry_count;
          blank_blocks = blank_more 12 b.blocks c.blocks (c.blocks + 1) (omega arith) R.blank_blocks;
          blank_statements = R.blank_statements;
          blank_locals = R.blank_locals;
          blank_scopes = R.blank_scopes;
          blank_entries = R.blank_entries;
        },
        record { blocks = omega arith; statements = le_refl c.statements; locals = le_refl c.locals; scopes = le_refl c.scopes; entries = le_refl c.entries },
      );
      kept = kept_refl c current b;
    }

pub block_full : (b : Body) (c : Counts) (current : ℕ) → 512 ≤ c.blocks → Answers b c current b none (stopped MirLowerError.Limit) (try_block (decode b c))
unfolding try_block
block_full b c current h = refuses MirLowerError.Limit (rw (block_count_lem b c, le-ltb c.blocks 512 h) refl)

-- the numbers of the next block and the next local
pub next_block_lem : (b : Body) (c : Counts) → ◌≡◌ {A = BasicBlockId} (record { 0 = c.blocks }) (next_block (decode b c))
next_block_lem b c = λ i. record { 0 = sym (block_count_lem b c) i }

pub next_local_lem : (b : Body) (c : Counts) → Ready b c → ◌≡◌ {A = LocalId} (record { 0 = c.locals }) (next_local (decode b c))
next_local_lem b c R = λ i. record { 0 = sym (local_count b c R) i }
