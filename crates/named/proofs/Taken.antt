-- What number 2 does not refuse names no local that there is not. Assumes nothing.
use Prim.Native.Nat.{ℕ, zero, suc, ◌*◌, ◌<◌}
use native.Mathlib.Omega.{arith}
use mathlib.Core.Path.{◌≡◌, refl, sym, subst, ◌∙◌}
use mathlib.Core.Bool.{Bool, true, cond, ◌&&◌}
use mathlib.Core.List.{List, [], ◌∷◌, map}
use borrow.Author.Tests.{ltb-true, eq-eqb}
use lib.Dec.{leb}
use lib.ListN.{length, get_or, take, drop}
use lib.Seq.{get_or-take, get_or-drop}
use Rattle.row_tables.specs.Rows.{row_at, rows_of}
use Rattle.image.specs.Lists.{all_below}
use Rattle.image.proofs.Bools.{and_left, and_right, below_at, all_true_at}
use Rattle.mir.specs.declared.Counts.{Counts}
use Rattle.mir.specs.declared.blocks.Terminator.{Terminator}
use Rattle.mir.specs.declared.rvalues.Constant.{Constant}
use Rattle.mir.specs.declared.rvalues.Left.{Left}
use Rattle.mir.specs.Blocks.{block_width}
use Rattle.mir.specs.Statements.{statement_width}
use Rattle.state.specs.State.{Body, decode}
use Rattle.state.proofs.Words.{length_words}
use Rattle.calls_spec.specs.Lengths.{Lengths}
use Rattle.body_row_rules.specs.Bodies.{word_of, is_block, is_local, counts_within, block_holds, elem_at_holds, statement_place_holds, constant_holds, left_holds, rvalue_holds, statement_holds, local_holds, scope_holds, entry_holds, entries_belong, body_holds}
use Rattle.body_row_rules.proofs.Checked.{within, entry_local}
use Rattle.views.specs.Views.{set, unknown_rvalue, Line, word, terminator_kinds, terminator_of, path_of, constant_at, left_of, statement_kinds, line_of, mir_of}
use Rattle.named.specs.Named.{LeftBelow, StatementBelow, TerminatorBelow, Throughout, NamesBelow, NamedBelow}
use Rattle.named.proofs.Rows.{each_made}

-- what f makes of each row
rows_each : {B : Type 0} (P : B → Type 0) (f : List ℕ → B) (w : ℕ) (table : List ℕ) (m : ℕ) → ((i : ℕ) → i < m → P (f (row_at w table i))) → Throughout P (map f (rows_of w table m))
unfolding rows_of
rows_each P f w table zero h = tt
rows_each P f w table (suc m) h = each_made P f (rows_of w table m) (row_at w table m) (rows_each P f w table m (λ i l. h i (omega (arith, l)))) (h m (omega arith))

-- each of the first m words
words_each_lem : (n : ℕ) (words : List ℕ) (m : ℕ) → ((i : ℕ) → i < m → get_or words i 0 < n) → Throughout (λ (l : ℕ). l < n) (take m words)
words_each_lem n words zero h = tt
words_each_lem n [] (suc m) h = tt
words_each_lem n (x ∷ words) (suc m) h = (h 0 (omega arith), words_each_lem n words m (λ i l. h (suc i) (omega (arith, l))))

-- a word of a row is one of the table
row_word : (w : ℕ) (table : List ℕ) (i k : ℕ) → k < w → word (row_at w table i) k ≡ word_of w table i k
unfolding row_at
row_word w table i k h = get_or-take w (drop (w * i) table) k 0 h ∙ get_or-drop (w * i) table k 0

-- a local by its test
local_below : (c : Counts) (w : ℕ) (table : List ℕ) (i k : ℕ) → k < w → is_local c (word_of w table i k) ≡ true → word (row_at w table i) k < c.locals
local_below c w table i k h e = subst (λ (x : ℕ). x < c.locals) (sym (row_word w table i k h)) (ltb-true (word_of w table i k) c.locals e)

-- the terminator of a block that holds
block_named : (table : List ℕ) (c : Counts) (i : ℕ) → block_holds table c i ≡ true → TerminatorBelow c.locals (terminator_of (row_at block_width table i))
unfolding block_holds terminator_of
block_named table c i e =
    by (word (row_at block_width table i) 0) (subst (λ (k : ℕ). get_or tests k Bool.false ≡ true) (sym (row_word 12 table i 0 (omega arith))) e)
  where
    switches : Bool
    switches = is_local c (word_of block_width table i 1) && is_block c (word_of block_width table i 2) && is_block c (word_of block_width table i 3)

    drops : Bool
    drops = is_local c (word_of block_width table i 1) && is_block c (word_of block_width table i 2)

    tests : List Bool
    tests = true ∷ is_block c (word_of block_width table i 2) ∷ switches ∷ true ∷ drops ∷ []

    by : (k : ℕ) → get_or tests k Bool.false ≡ true → TerminatorBelow c.locals (get_or (terminator_kinds (row_at block_width table i)) k Terminator.Open)
    by zero e = tt
    by (suc zero) e = tt
    by (suc (suc zero)) e =
        local_below c 12 table i 1 (omega arith)
        (and_left (is_local c (word_of block_width table i 1)) (is_block c (word_of block_width table i 2))
        (and_left (is_local c (word_of block_width table i 1) && is_block c (word_of block_width table i 2)) (is_block c (word_of block_width table i 3)) e))
    by (suc (suc (suc zero))) e = tt
    by (suc (suc (suc (suc zero)))) e = local_below c 12 table i 1 (omega arith) (and_left (is_local c (word_of block_width table i 1)) (is_block c (word_of block_width table i 2)) e)
    by (suc (suc (suc (suc (suc k))))) e = tt

module _ (types variants : ℕ) (table : List ℕ) (c : Counts) (i : ℕ) where
  -- the row
  abbrev row : List ℕ
  row = row_at statement_width table i

  -- the root of a place that holds
  root_named : statement_place_holds variants table c i ≡ true → (path_of row).local < c.locals
  unfolding statement_place_holds path_of
  root_named e =
      let a = is_local c (word_of statement_width table i 15) in
      let b = leb (word_of statement_width table i 16) 16 in
      let rest = all_below (elem_at_holds variants table i) (word_of statement_width table i 16) in
      local_below c statement_width table i 15 (omega arith) (and_left a b (and_left (a && b) rest e))

  -- a left operand that holds
  left_named : left_holds types table c i ≡ true → LeftBelow c.locals (left_of row)
  unfolding left_holds left_of
  left_named e = by (word row 3) (λ q. local_below c statement_width table i 4 (omega arith) (first (sym (row_word statement_width table i 3 (omega arith)) ∙ q)))
    where
      first : word_of statement_width table i 3 ≡ 1 → is_local c (word_of statement_width table i 4) ≡ true
      first q = subst (λ (b : Bool). cond b (is_local c (word_of statement_width table i 4)) (constant_holds types table i) ≡ true) (eq-eqb (word_of statement_width table i 3) 1 q) e

      by : (k : ℕ) → (k ≡ 1 → word row 4 < c.locals) → LeftBelow c.locals (get_or (Left.Constant (constant_at row) ∷ Left.Local (record { 0 = word row 4 }) ∷ []) k (Left.Constant (constant_at row)))
      by zero h = tt
      by (suc zero) h = h refl
      by (suc (suc k)) h = tt

  -- a statement that holds
  statement_named : statement_holds types variants table c i ≡ true → StatementBelow c.locals (line_of row).statement
  unfolding statement_holds line_of rvalue_holds
  statement_named e =
      let block = is_block c (word_of statement_width table i 0) in
      let about = is_local c (word_of statement_width table i 2) in
      let rest = rvalue_holds types variants table c i (word_of statement_width table i 1) in
      let l = local_below c statement_width table i 2 (omega arith) (and_right block about (and_left (block && about) rest e)) in
      by l (word row 1) (subst (λ (k : ℕ). rvalue_holds types variants table c i k ≡ true) (sym (row_word statement_width table i 1 (omega arith))) (and_right (block && about) rest e))
    where
      both : left_holds types table c i && statement_place_holds variants table c i ≡ true → LeftBelow c.locals (left_of row) × ((path_of row).local < c.locals)
      both e = (left_named (and_left (left_holds types table c i) (statement_place_holds variants table c i) e), root_named (and_right (left_holds types table c i) (statement_place_holds variants table c i) e))

      by : word row 2 < c.locals → (k : ℕ) → rvalue_holds types variants table c i k ≡ true → StatementBelow c.locals (get_or (statement_kinds row) k (set (word row 2) unknown_rvalue))
      by l zero e = (l, tt)
      by l (suc zero) e = l
      by l (suc (suc zero)) e = l
      by l (suc (suc (suc zero))) e = (l, root_named e)
      by l (suc (suc (suc (suc zero)))) e = (l, root_named e)
      by l (suc (suc (suc (suc (suc zero))))) e = (l, root_named e)
      by l (suc (suc (suc (suc (suc (suc zero)))))) e = (l, root_named e)
      by l (suc (suc (suc (suc (suc (suc (suc zero))))))) e = (l, root_named e)
      by l (suc (suc (suc (suc (suc (suc (suc (suc zero)))))))) e = (l, tt)
      by l (suc (suc (suc (suc (suc (suc (suc (suc (suc zero))))))))) e = (l, both e)
      by l (suc (suc (suc (suc (suc (suc (suc (suc (suc (suc zero)))))))))) e = (l, both e)
      by l (suc (suc (suc (suc (suc (suc (suc (suc (suc (suc (suc zero))))))))))) e = (l, both e)
      by l (suc (suc (suc (suc (suc (suc (suc (suc (suc (suc (suc (suc zero)))))))))))) e = (l, both e)
      by l (suc (suc (suc (suc (suc (suc (suc (suc (suc (suc (suc (suc (suc k))))))))))))) e = (l, tt)

-- a body that may be handed in
pub handed_named : (types variants : ℕ) (b : Body) (c : Counts) → Lengths b → body_holds types variants b.blocks b.statements b.locals b.scopes b.entries c ≡ true → NamedBelow (decode b c)
unfolding body_holds decode mir_of
handed_named types variants b c long h = subst (λ (n : ℕ). NamesBelow n (decode b c)) (sym counted) names
  where
    counted : length (take c.locals b.locals) ≡ c.locals
    counted =
        let few = (within types variants b.blocks b.statements b.locals b.scopes b.entries c h).locals in
        length_words b.locals c.locals (omega (arith, long.locals, few))

    tests : List Bool
    tests =
        counts_within c
        ∷ all_below (block_holds b.blocks c) c.blocks
        ∷ all_below (statement_holds types variants b.statements c) c.statements
        ∷ all_below (local_holds types b.locals) c.locals
        ∷ all_below (scope_holds b.scopes c) c.scopes
        ∷ all_below (entry_holds b.entries c) c.entries
        ∷ entries_belong b.scopes c
        ∷ []

    names : NamesBelow c.locals (decode b c)
    names =
        record {
          statements = rows_each (λ (x : Line). StatementBelow c.locals x.statement) line_of statement_width b.statements c.statements
              (λ i l. statement_named types variants b.statements c i (below_at (statement_holds types variants b.statements c) c.statements i (all_true_at tests 2 h) l));
          terminators = rows_each (TerminatorBelow c.locals) terminator_of 12 b.blocks c.blocks
              (λ i l. block_named b.blocks c i (below_at (block_holds b.blocks c) c.blocks i (all_true_at tests 1 h) l));
          entries = words_each_lem c.locals b.entries c.entries (λ i l. entry_local types variants b.blocks b.statements b.locals b.scopes b.entries c h i l);
        }
