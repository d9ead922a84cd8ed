-- Each call of the builder answers what the step's definition gives, by what its contract says. Assumes nothing.
use Rattle.std.specs.Prelude.{Some, None}
use mathlib.Core.Path.{◌≡◌, refl}
use mathlib.Core.Logic.{◌⊎◌, inl, inr, ⊎_elim}
use mathlib.Core.Option.{Option, none, some}
use mathlib.Core.List.{List}
use Prim.Native.Nat.{ℕ, ◌*◌, ◌-◌, ◌≤◌, ◌<◌}
use native.Mathlib.Nat.{eq-zero-or-pos}
use native.Mathlib.Omega.{arith}
use borrow.Author.Tests.{lt-ltb, le-ltb}
use lib.ListN.{length}
use Rattle.refusals.specs.declared.MirLowerError.{MirLowerError}
use Rattle.refusals.specs.Refusals.{Result, done, stopped}
use Rattle.row_tables.specs.Rows.{stored}
use Rattle.place.specs.declared.LocalId.{LocalId}
use Rattle.mir.specs.declared.BasicBlockId.{BasicBlockId}
use Rattle.mir.specs.declared.Counts.{Counts}
use Rattle.mir.specs.Results.{NewBlock}
use Rattle.mir.specs.declared.blocks.Terminator.{Terminator}
use Rattle.mir.specs.Results.{NewLocal}
use Rattle.mir.specs.Results.{Counted}
use Rattle.mir.specs.Blocks.{term_row, new_block, block_width}
use Rattle.mir.specs.Statements.{new_statement, statements_after, statement_width}
use Rattle.mir.specs.Locals.{new_local, locals_after}
use Rattle.mir.specs.Scopes.{new_scope, scopes_after, new_entry, entries_after}
use Rattle.state.specs.State.{Body, body, State, decode}
use Rattle.state.specs.Steps.{set_terminator, try_block, try_statement, try_local, try_scope, try_entry}
use Rattle.state.specs.Promises.{Ready, Answers}
use Rattle.state.proofs.Answering.{block_answers, block_full}
use Rattle.state.proofs.Stepping.{term_answers, statement_answers, statement_full, local_answers, local_full, scope_answers, scope_full, entry_answers, entry_full}

-- the answers of the builder's calls, as the definitions have them
abbrev pub counted_result : Counted → Body → Result State
counted_result (Some c) b = done (decode b c)
counted_result None b = stopped MirLowerError.Limit

abbrev pub counted_counts : Counted → Option Counts
counted_counts (Some c) = some c
counted_counts None = none

abbrev pub block_result : NewBlock → Body → Result State
block_result (Some (c, m)) b = done (decode b c)
block_result None b = stopped MirLowerError.Limit

abbrev pub block_counts : NewBlock → Option Counts
block_counts (Some (c, m)) = some c
block_counts None = none

abbrev pub local_result : NewLocal → Body → Result State
local_result (Some (c, n)) b = done (decode b c)
local_result None b = stopped MirLowerError.Limit

abbrev pub local_counts : NewLocal → Option Counts
local_counts (Some (c, n)) = some c
local_counts None = none

-- the number of a new block and of a new local
abbrev pub BlockNumber : Counts → NewBlock → Type 0
BlockNumber c (Some (c₁, m)) = ◌≡◌ {A = BasicBlockId} m (record { 0 = c.blocks })
BlockNumber c None = Unit

abbrev pub LocalNumber : Counts → NewLocal → Type 0
LocalNumber c (Some (c₁, n)) = ◌≡◌ {A = LocalId} n (record { 0 = c.locals })
LocalNumber c None = Unit

-- there is room, or there is none
room : (n limit : ℕ) → (n < limit) ⊎ (limit ≤ n)
room n limit = ⊎_elim (λ (e : limit - n ≡ 0). inr (omega arith)) (λ (p : 0 < limit - n). inl (omega arith)) (eq-zero-or-pos (limit - n))

-- a new block's number is the count of those before it
pub block_number : (c : Counts) {r : NewBlock} → r ≡ new_block c → BlockNumber c r
unfolding new_block
block_number c is =
    ⊎_elim
    (λ (h : c.blocks < 512). rw (is, lt-ltb c.blocks 512 h) refl)
    (λ (h : 512 ≤ c.blocks). rw (is, le-ltb c.blocks 512 h) tt)
    (room c.blocks 512)

-- a new local's number is the count of those before it
pub local_number : (c : Counts) {r : NewLocal} → r ≡ new_local c → LocalNumber c r
unfolding new_local
local_number c is =
    ⊎_elim
    (λ (h : c.locals < 512). rw (is, lt-ltb c.locals 512 h) refl)
    (λ (h : 512 ≤ c.locals). rw (is, le-ltb c.locals 512 h) tt)
    (room c.locals 512)

-- the tables bl, s, l, sc and e are those of blocks, statements, locals, scopes and entries, and c has their counts
module _ (bl s l sc e : List ℕ) (c : Counts) (current : ℕ) where
  -- `new_basic_block`
  pub new_block_answers : {r : NewBlock} → r ≡ new_block c → Ready (body bl s l sc e) c →
      Answers (body bl s l sc e) c current (body bl s l sc e) (block_counts r) (block_result r (body bl s l sc e)) (try_block (decode (body bl s l sc e) c))
  unfolding new_block
  new_block_answers is R =
      ⊎_elim
      (λ (h : c.blocks < 512). rw (is, lt-ltb c.blocks 512 h) (block_answers (body bl s l sc e) c current R h))
      (λ (h : 512 ≤ c.blocks). rw (is, le-ltb c.blocks 512 h) (block_full (body bl s l sc e) c current h))
      (room c.blocks 512)

  -- `push_statement`, and each call that pushes a statement
  pub push_statement_answers : (row : List ℕ) {r : Counted} {s₁ : List ℕ} → length row ≡ statement_width → r ≡ new_statement c → s₁ ≡ statements_after c s row → Ready (body bl s l sc e) c →
      Answers (body bl s l sc e) c current (body bl s₁ l sc e) (counted_counts r) (counted_result r (body bl s₁ l sc e)) (try_statement (decode (body bl s l sc e) c) row)
  unfolding new_statement statements_after
  push_statement_answers row long is after R =
      ⊎_elim
      (λ (h : c.statements < 1024). rw (is, after, lt-ltb c.statements 1024 h) (statement_answers bl s l sc e c current row long h R))
      (λ (h : 1024 ≤ c.statements). rw (is, after, le-ltb c.statements 1024 h) (statement_full bl s l sc e c current row h))
      (room c.statements 1024)

  -- `new_local`
  pub new_local_answers : (word : ℕ) {r : NewLocal} {l₁ : List ℕ} → r ≡ new_local c → l₁ ≡ locals_after c l word → Ready (body bl s l sc e) c →
      Answers (body bl s l sc e) c current (body bl s l₁ sc e) (local_counts r) (local_result r (body bl s l₁ sc e)) (try_local (decode (body bl s l sc e) c) word)
  unfolding new_local locals_after
  new_local_answers word is after R =
      ⊎_elim
      (λ (h : c.locals < 512). rw (is, after, lt-ltb c.locals 512 h) (local_answers bl s l sc e c current word h R))
      (λ (h : 512 ≤ c.locals). rw (is, after, le-ltb c.locals 512 h) (local_full bl s l sc e c current word h R))
      (room c.locals 512)

  -- `push_scope`
  pub push_scope_answers : {r : Counted} {sc₁ : List ℕ} → r ≡ new_scope c → sc₁ ≡ scopes_after c sc → Ready (body bl s l sc e) c →
      Answers (body bl s l sc e) c current (body bl s l sc₁ e) (counted_counts r) (counted_result r (body bl s l sc₁ e)) (try_scope (decode (body bl s l sc e) c))
  unfolding new_scope scopes_after
  push_scope_answers is after R =
      ⊎_elim
      (λ (h : c.scopes < 32). rw (is, after, lt-ltb c.scopes 32 h) (scope_answers bl s l sc e c current h R))
      (λ (h : 32 ≤ c.scopes). rw (is, after, le-ltb c.scopes 32 h) (scope_full bl s l sc e c current h R))
      (room c.scopes 32)

  -- `push_entry`
  pub push_entry_answers : (local : LocalId) {r : Counted} {e₁ : List ℕ} → r ≡ new_entry c → e₁ ≡ entries_after c e local.0 → Ready (body bl s l sc e) c →
      Answers (body bl s l sc e) c current (body bl s l sc e₁) (counted_counts r) (counted_result r (body bl s l sc e₁)) (try_entry (decode (body bl s l sc e) c) local)
  unfolding new_entry entries_after
  push_entry_answers local is after R =
      ⊎_elim
      (λ (h : c.entries < 1024). rw (is, after, lt-ltb c.entries 1024 h) (entry_answers bl s l sc e c current local h R))
      (λ (h : 1024 ≤ c.entries). rw (is, after, le-ltb c.entries 1024 h) (entry_full bl s l sc e c current local h R))
      (room c.entries 1024)

-- `set_terminator`, and `set_goto`
pub set_answers : (bl s l sc e : List ℕ) (c : Counts) (k : BasicBlockId) (t : Terminator) {bl₁ : List ℕ} → bl₁ ≡ stored bl (block_width * k.0) (term_row t) → k.0 < c.blocks → Ready (body bl s l sc e) c →
    Answers (body bl s l sc e) c k.0 (body bl₁ s l sc e) (some c) (done (decode (body bl₁ s l sc e) c)) (done (set_terminator (decode (body bl s l sc e) c) k t))
set_answers bl s l sc e c k t after h R = rw after (term_answers bl s l sc e c k t h R)
