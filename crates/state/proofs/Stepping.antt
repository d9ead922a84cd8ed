-- One row more in each table, and a terminator in place of another: each step answers what its definition gives. Assumes nothing.
use mathlib.Core.Path.{◌≡◌, refl, sym, ap, ◌∙◌}
use mathlib.Core.Logic.{⊎_elim}
use mathlib.Core.Option.{none, some}
use mathlib.Core.List.{List, []}
use Prim.Native.Nat.{ℕ, suc, ◌+◌, ◌*◌, ◌-◌, ◌≤◌, ◌<◌}
use native.Mathlib.Nat.{le_refl, eq-zero-or-pos}
use native.Mathlib.Omega.{arith}
use borrow.Author.Tests.{lt-ltb, le-ltb}
use lib.ListN.{length, length-set, take, set, get_or}
use Rattle.refusals.specs.declared.MirLowerError.{MirLowerError}
use Rattle.refusals.specs.Refusals.{done, stopped}
use Rattle.row_tables.specs.Rows.{row_at, rows_of, stored, Blank}
use Rattle.row_tables.proofs.Tables.{length_stored, before_stored, row_of, row_kept, rows_before, rows_push, rows_set, blank_set, blank_push}
use Rattle.place.specs.declared.LocalId.{LocalId}
use Rattle.mir.specs.declared.BasicBlockId.{BasicBlockId}
use Rattle.mir.specs.declared.Counts.{Counts}
use Rattle.mir.specs.declared.blocks.Terminator.{Terminator}
use Rattle.mir.specs.Blocks.{term_row, block_width, block_words}
use Rattle.mir.specs.Statements.{one_statement_more, statement_words, statement_width}
use Rattle.mir.specs.Locals.{one_local_more}
use Rattle.mir.specs.Scopes.{one_scope_more, one_entry_more}
use Rattle.state.specs.State.{body, decode}
use Rattle.state.specs.Steps.{set_terminator, push_statement, new_local, push_scope, push_entry, try_statement, try_local, try_scope, try_entry}
use Rattle.state.specs.Promises.{BlankWords, Ready, Answers}
use Rattle.state.proofs.Words.{words_push, words_before, words_blank_push}
use Rattle.state.proofs.RowLengths.{term_length}
use Rattle.state.proofs.Answering.{statement_count, local_count, scope_count, entry_count, grown_refl, refuses}

-- a row before the one that is stored stays
row_before : (bl : List ℕ) (k i : ℕ) (row : List ℕ) → i < k → block_width * k ≤ length bl → row_at block_width (stored bl (block_width * k) row) i ≡ row_at block_width bl i
row_before bl k i row h fits =
    sym (row_of 12 (stored bl (block_width * k) row) (suc i) i (omega arith))
    ∙ ap (λ (rows : List (List ℕ)). get_or rows i []) (rows_before 12 bl k row (suc i) h fits)
    ∙ row_of 12 bl (suc i) i (omega arith)

-- the rows of the other blocks stay
other_row : (bl : List ℕ) (k : ℕ) (t : Terminator) (i : ℕ) → (i ≡ k → ⊥) → block_width * i ≤ length bl → block_width * k ≤ length bl →
    row_at block_width (stored bl (block_width * k) (term_row t)) i ≡ row_at block_width bl i
other_row bl k t i other h fits =
    ⊎_elim
    (λ (e : k - i ≡ 0). row_kept 12 bl k i (term_row t) (term_length t) (omega (arith, other)) h)
    (λ (p : 0 < k - i). row_before bl k i (term_row t) (omega arith) fits)
    (eq-zero-or-pos (k - i))

-- the tables bl, s, l, sc and e are those of blocks, statements, locals, scopes and entries, and c has their counts
module _ (bl s l sc e : List ℕ) (c : Counts) where
  -- another table of blocks
  pub ready_blocks : (t : List ℕ) (n : ℕ) → length t ≡ block_words → n ≤ 512 → Blank block_width t n → Ready (body bl s l sc e) c → Ready (body t s l sc e) (record { blocks = n; statements = c.statements; locals = c.locals; scopes = c.scopes; entries = c.entries })
  ready_blocks t n size limit blank R =
      record {
        blocks = size;
        statements = R.statements;
        locals = R.locals;
        scopes = R.scopes;
        entries = R.entries;
        block_count_lem = limit;
        statement_count = R.statement_count;
        local_count = R.local_count;
        scope_count = R.scope_count;
        entry_count = R.entry_count;
        blank_blocks = blank;
        blank_statements = R.blank_statements;
        blank_locals = R.blank_locals;
        blank_scopes = R.blank_scopes;
        blank_entries = R.blank_entries;
      }

  -- another table of statements
  pub ready_statements : (t : List ℕ) (n : ℕ) → length t ≡ statement_words → n ≤ 1024 → Blank statement_width t n → Ready (body bl s l sc e) c → Ready (body bl t l sc e) (record { blocks = c.blocks; statements = n; locals = c.locals; scopes = c.scopes; entries = c.entries })
  ready_statements t n size limit blank R =
      record {
        blocks = R.blocks;
        statements = size;
        locals = R.locals;
        scopes = R.scopes;
        entries = R.entries;
        block_count_lem = R.block_count_lem;
        statement_count = limit;
        local_count = R.local_count;
        scope_count = R.scope_count;
        entry_count = R.entry_count;
        blank_blocks = R.blank_blocks;
        blank_statements = blank;
        blank_locals = R.blank_locals;
        blank_scopes = R.blank_scopes;
        blank_entries = R.blank_entries;
      }

  -- another table of locals
  pub ready_locals : (t : List ℕ) (n : ℕ) → length t ≡ 512 → n ≤ 512 → BlankWords t n → Ready (body bl s l sc e) c → Ready (body bl s t sc e) (record { blocks = c.blocks; statements = c.statements; locals = n; scopes = c.scopes; entries = c.entries })
  ready_locals t n size limit blank R =
      record {
        blocks = R.blocks;
        statements = R.statements;
        locals = size;
        scopes = R.scopes;
        entries = R.entries;
        block_count_lem = R.block_count_lem;
        statement_count = R.statement_count;
        local_count = limit;
        scope_count = R.scope_count;
        entry_count = R.entry_count;
        blank_blocks = R.blank_blocks;
        blank_statements = R.blank_statements;
        blank_locals = blank;
        blank_scopes = R.blank_scopes;
        blank_entries = R.blank_entries;
      }

  -- another table of scopes
  pub ready_scopes : (t : List ℕ) (n : ℕ) → length t ≡ 32 → n ≤ 32 → BlankWords t n → Ready (body bl s l sc e) c → Ready (body bl s l t e) (record { blocks = c.blocks; statements = c.statements; locals = c.locals; scopes = n; entries = c.entries })
  ready_scopes t n size limit blank R =
      record {
        blocks = R.blocks;
        statements = R.statements;
        locals = R.locals;
        scopes = size;
        entries = R.entries;
        block_count_lem = R.block_count_lem;
        statement_count = R.statement_count;
        local_count = R.local_count;
        scope_count = limit;
        entry_count = R.entry_count;
        blank_blocks = R.blank_blocks;
        blank_statements = R.blank_statements;
        blank_locals = R.blank_locals;
        blank_scopes = blank;
        blank_entries = R.blank_entries;
      }

  -- another table of entries
  pub ready_entries : (t : List ℕ) (n : ℕ) → length t ≡ 1024 → n ≤ 1024 → BlankWords t n → Ready (body bl s l sc e) c → Ready (body bl s l sc t) (record { blocks = c.blocks; statements = c.statements; locals = c.locals; scopes = c.scopes; entries = n })
  ready_entries t n size limit blank R =
      record {
        blocks = R.blocks;
        statements = R.statements;
        locals = R.locals;
        scopes = R.scopes;
        entries = size;
        block_count_lem = R.block_count_lem;
        statement_count = R.statement_count;
        local_count = R.local_count;
        scope_count = R.scope_count;
        entry_count = limit;
        blank_blocks = R.blank_blocks;
        blank_statements = R.blank_statements;
        blank_locals = R.blank_locals;
        blank_scopes = R.blank_scopes;
        blank_entries = blank;
      }

  -- the terminator of a block that there is
  pub term_answers : (k : BasicBlockId) (t : Terminator) → k.0 < c.blocks → Ready (body bl s l sc e) c →
      Answers (body bl s l sc e) c k.0 (body (stored bl (block_width * k.0) (term_row t)) s l sc e) (some c)
      (done (decode (body (stored bl (block_width * k.0) (term_row t)) s l sc e) c))
      (done (set_terminator (decode (body bl s l sc e) c) k t))
  unfolding set_terminator decode
  term_answers k t h R =
      record {
        says = λ i. done (record {
          blocks = rows_set 12 bl k.0 (term_row t) c.blocks (term_length t) h (omega (arith, R.blocks, R.block_count_lem)) i;
          statements = rows_of statement_width s c.statements;
          locals = take c.locals l;
          scopes = take c.scopes sc;
          entries = take c.entries e;
        });
        goes = (
          ready_blocks (stored bl (block_width * k.0) (term_row t)) c.blocks
              (omega (arith, length_stored bl (block_width * k.0) (term_row t) (omega (arith, term_length t, R.blocks, R.block_count_lem)), R.blocks))
              R.block_count_lem
              (blank_set 12 bl k.0 (term_row t) c.blocks (term_length t) h (omega (arith, R.blocks, R.block_count_lem)) R.blank_blocks) R,
          grown_refl c,
        );
        kept = record { blocks = λ i below other. other_row bl k.0 t i other (omega (arith, R.blocks, R.block_count_lem)) (omega (arith, R.blocks, R.block_count_lem)); statements = refl; locals = refl; scopes = refl; entries = refl };
      }

  -- one statement more
  pub statement_answers : (current : ℕ) (row : List ℕ) → length row ≡ statement_width → c.statements < 1024 → Ready (body bl s l sc e) c →
      Answers (body bl s l sc e) c current (body bl (stored s (statement_width * c.statements) row) l sc e) (some (one_statement_more c)) (done (decode (body bl (stored s (statement_width * c.statements) row) l sc e) (one_statement_more c))) (try_statement (decode (body bl s l sc e) c) row)
  unfolding try_statement push_statement decode
  statement_answers current row long h R =
      record {
        says = rw (statement_count (body bl s l sc e) c, lt-ltb c.statements 1024 h) (λ i. done (record {
          blocks = rows_of block_width bl c.blocks;
          statements = rows_push statement_width s c.statements row long (omega (arith, R.statements)) i;
          locals = take c.locals l;
          scopes = take c.scopes sc;
          entries = take c.entries e;
        }));
        goes = (
          ready_statements (stored s (statement_width * c.statements) row) (c.statements + 1) (omega (arith, length_stored s (statement_width * c.statements) row (omega (arith, long, R.statements)), R.statements)) (omega arith) (blank_push statement_width s c.statements row long (omega (arith, R.statements)) R.blank_statements) R,
          record { blocks = le_refl c.blocks; statements = omega arith; locals = le_refl c.locals; scopes = le_refl c.scopes; entries = le_refl c.entries },
        );
        kept = record { blocks = λ i below other. refl; statements = before_stored s (statement_width * c.statements) row (statement_width * c.statements) (le_refl (statement_width * c.statements)) (omega (arith, R.statements, R.statement_count)); locals = refl; scopes = refl; entries = refl };
      }

  pub statement_full : (current : ℕ) (row : List ℕ) → 1024 ≤ c.statements →
      Answers (body bl s l sc e) c current (body bl s l sc e) none (stopped MirLowerError.Limit) (try_statement (decode (body bl s l sc e) c) row)
  unfolding try_statement
  statement_full current row h = refuses MirLowerError.Limit (rw (statement_count (body bl s l sc e) c, le-ltb c.statements 1024 h) refl)

  -- one local more
  pub local_answers : (current : ℕ) (word : ℕ) → c.locals < 512 → Ready (body bl s l sc e) c →
      Answers (body bl s l sc e) c current (body bl s (set l c.locals word) sc e) (some (one_local_more c)) (done (decode (body bl s (set l c.locals word) sc e) (one_local_more c))) (try_local (decode (body bl s l sc e) c) word)
  unfolding try_local new_local decode
  local_answers current word h R =
      record {
        says = rw (local_count (body bl s l sc e) c R, lt-ltb c.locals 512 h) (λ i. done (record {
          blocks = rows_of block_width bl c.blocks;
          statements = rows_of statement_width s c.statements;
          locals = words_push l c.locals word (omega (arith, R.locals)) i;
          scopes = take c.scopes sc;
          entries = take c.entries e;
        }));
        goes = (
          ready_locals (set l c.locals word) (c.locals + 1) (omega (arith, length-set l c.locals word, R.locals)) (omega arith) (words_blank_push l c.locals word R.blank_locals) R,
          record { blocks = le_refl c.blocks; statements = le_refl c.statements; locals = omega arith; scopes = le_refl c.scopes; entries = le_refl c.entries },
        );
        kept = record { blocks = λ i below other. refl; statements = refl; locals = words_before l c.locals c.locals word (le_refl c.locals); scopes = refl; entries = refl };
      }

  pub local_full : (current : ℕ) (word : ℕ) → 512 ≤ c.locals → Ready (body bl s l sc e) c →
      Answers (body bl s l sc e) c current (body bl s l sc e) none (stopped MirLowerError.Limit) (try_local (decode (body bl s l sc e) c) word)
  unfolding try_local
  local_full current word h R = refuses MirLowerError.Limit (rw (local_count (body bl s l sc e) c R, le-ltb c.locals 512 h) refl)

  -- one entry more
  pub entry_answers : (current : ℕ) (local : LocalId) → c.entries < 1024 → Ready (body bl s l sc e) c →
      Answers (body bl s l sc e) c current (body bl s l sc (set e c.entries local.0)) (some (one_entry_more c)) (done (decode (body bl s l sc (set e c.entries local.0)) (one_entry_more c))) (try_entry (decode (body bl s l sc e) c) local)
  unfolding try_entry push_entry decode
  entry_answers current local h R =
      record {
        says = rw (entry_count (body bl s l sc e) c R, lt-ltb c.entries 1024 h) (λ i. done (record {
          blocks = rows_of block_width bl c.blocks;
          statements = rows_of statement_width s c.statements;
          locals = take c.locals l;
          scopes = take c.scopes sc;
          entries = words_push e c.entries local.0 (omega (arith, R.entries)) i;
        }));
        goes = (
          ready_entries (set e c.entries local.0) (c.entries + 1) (omega (arith, length-set e c.entries local.0, R.entries)) (omega arith) (words_blank_push e c.entries local.0 R.blank_entries) R,
          record { blocks = le_refl c.blocks; statements = le_refl c.statements; locals = le_refl c.locals; scopes = le_refl c.scopes; entries = omega arith },
        );
        kept = record { blocks = λ i below other. refl; statements = refl; locals = refl; scopes = refl; entries = words_before e c.entries c.entries local.0 (le_refl c.entries) };
      }

  pub entry_full : (current : ℕ) (local : LocalId) → 1024 ≤ c.entries → Ready (body bl s l sc e) c →
      Answers (body bl s l sc e) c current (body bl s l sc e) none (stopped MirLowerError.Limit) (try_entry (decode (body bl s l sc e) c) local)
  unfolding try_entry
  entry_full current local h R = refuses MirLowerError.Limit (rw (entry_count (body bl s l sc e) c R, le-ltb c.entries 1024 h) refl)

  -- one scope more
  pub scope_answers : (current : ℕ) → c.scopes < 32 → Ready (body bl s l sc e) c →
      Answers (body bl s l sc e) c current (body bl s l (set sc c.scopes c.entries) e) (some (one_scope_more c)) (done (decode (body bl s l (set sc c.scopes c.entries) e) (one_scope_more c))) (try_scope (decode (body bl s l sc e) c))
  unfolding try_scope push_scope decode
  scope_answers current h R =
      record {
        says = rw (scope_count (body bl s l sc e) c R, entry_count (body bl s l sc e) c R, lt-ltb c.scopes 32 h) (λ i. done (record {
          blocks = rows_of block_width bl c.blocks;
          statements = rows_of statement_width s c.statements;
          locals = take c.locals l;
          scopes = words_push sc c.scopes c.entries (omega (arith, R.scopes)) i;
          entries = take c.entries e;
        }));
        goes = (
          ready_scopes (set sc c.scopes c.entries) (c.scopes + 1) (omega (arith, length-set sc c.scopes c.entries, R.scopes)) (omega arith) (words_blank_push sc c.scopes c.entries R.blank_scopes) R,
          record { blocks = le_refl c.blocks; statements = le_refl c.statements; locals = le_refl c.locals; scopes = omega arith; entries = le_refl c.entries },
        );
        kept = record { blocks = λ i below other. refl; statements = refl; locals = refl; scopes = words_before sc c.scopes c.scopes c.entries (le_refl c.scopes); entries = refl };
      }

  pub scope_full : (current : ℕ) → 32 ≤ c.scopes → Ready (body bl s l sc e) c →
      Answers (body bl s l sc e) c current (body bl s l sc e) none (stopped MirLowerError.Limit) (try_scope (decode (body bl s l sc e) c))
  unfolding try_scope
  scope_full current h R = refuses MirLowerError.Limit (rw (scope_count (body bl s l sc e) c R, le-ltb c.scopes 32 h) refl)
