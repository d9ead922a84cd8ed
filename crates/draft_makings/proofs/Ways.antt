-- The ways through the code that adds a row of makings. Assumes nothing.
use Prim.Native.Nat.{ℕ, zero, suc, ◌*◌, ◌≤◌, ◌<◌}
use mathlib.Core.Path.{◌≡◌, refl, sym, ap, subst}
use mathlib.Core.Bool.{true, cond}
use mathlib.Core.List.{List}
use native.Mathlib.Omega.{arith}
use borrow.Author.Tests.{eqb-true}
use lib.Dec.{eqb}
use Rattle.image.specs.declared.Tables.{Tables}
use Rattle.image.specs.declared.rows.PatRow.{PatRow}
use Rattle.image.specs.Tables.{Whole}
use Rattle.pattern_typing.specs.Making.{Making, list_made, field_made}
use Rattle.pattern_typing.specs.Closed.{closed_making}
use Rattle.node_rows.specs.declared.MakingRow.{MakingRow}
use Rattle.node_rows.specs.Nodes.{literal_in}
use Rattle.node_rows.specs.Makings.{making_of, closed_making_of}
use Rattle.draft_stack.specs.Stack.{words_each, words_taken, emit_one, may_have_parts}
use Rattle.draft_tables.specs.declared.DraftCounts.{DraftCounts}
use Rattle.draft_tables.specs.Results.{DraftStep}
use Rattle.draft_tables.specs.Layout.{stacked_in}
use Rattle.draft_tables.specs.Steps.{SheetsStepped}
use Rattle.draft_operands.specs.Literals.{literal_fits}
use Rattle.draft_rows.specs.Nodes.{node_step}
use Rattle.draft_binds.specs.Named.{SteppedFor}
use Rattle.draft_binds.proofs.Naming.{stepped_for, for_same}
use Rattle.draft_makings.specs.Makings.{making_fits, MakingReady, making_step, MakingStepped}
use Rattle.draft_makings.proofs.RowKinds.{kind_literal, kind_operand}

-- what a row stands for is ready when the row is
pub ready_is : (tables : Tables) (c : DraftCounts) (text names : List ℕ) (row : MakingRow) (making : Making) → making_of text names row ≡ making →
    MakingReady tables c (closed_making_of text names row) → MakingReady tables c (closed_making making row.parts)
unfolding closed_making_of
ready_is tables c text names row making is ready = subst (λ (m : Making). MakingReady tables c (closed_making m row.parts)) is ready

pub is_ready : (tables : Tables) (c : DraftCounts) (text names others spelled : List ℕ) (row : MakingRow) → making_of text names row ≡ making_of others spelled row →
    MakingReady tables c (closed_making_of text names row) → MakingReady tables c (closed_making_of others spelled row)
unfolding closed_making_of
is_ready tables c text names others spelled row is ready = subst (λ (m : Making). MakingReady tables c (closed_making m row.parts)) is ready

-- its parts have a word each
pub enough_parts : (tables : Tables) (c : DraftCounts) (making : Making) (parts : ℕ) → words_each making ≡ 1 → MakingReady tables c (closed_making making parts) → parts ≤ c.height
unfolding words_taken
enough_parts tables c making parts one ready = omega (arith, ready.enough, ap (λ (k : ℕ). k * parts) one)

-- a row's step by that of what it stands for
module _ (sheet text names : List ℕ) (tables : Tables) (table : List ℕ) (c : DraftCounts) (row : MakingRow) (making : Making) (is : making_of text names row ≡ making) (r : DraftStep) (after : List ℕ) where
  pub node_stepped : SteppedFor names sheet tables table c (node_step making row.parts sheet names) r after → MakingStepped sheet text names tables table c row r after
  unfolding closed_making_of
  node_stepped step =
      for_same names sheet tables table c (node_step making row.parts sheet names) (making_step sheet text names row) r after
      (ap (λ (m : Making). emit_one sheet (closed_making m row.parts) (stacked_in names table c).stack (stacked_in names table c).draft) (sym is)) step

  pub row_stepped : Whole sheet tables → SheetsStepped tables table c (node_step making row.parts) r after → MakingStepped sheet text names tables table c row r after
  row_stepped whole step = node_stepped (stepped_for names sheet tables table c (node_step making row.parts sheet) r after (step sheet whole))

-- the literal of a row of kind 2 or 3 is no longer than 16 bytes
pub literal_fits_lem : (tables : Tables) (c : DraftCounts) (text names : List ℕ) (row : MakingRow) → row.kind < 5 → (row.kind ≡ 0 → ⊥) → (row.kind ≡ 1 → ⊥) →
    (row.kind ≡ 4 → ⊥) → MakingReady tables c (closed_making_of text names row) → literal_fits (literal_in text row.a row.from row.to) ≡ true
unfolding making_fits
literal_fits_lem tables c text names row low n0 n1 n4 ready = go row.kind refl
  where
    go : (k : ℕ) → row.kind ≡ k → literal_fits (literal_in text row.a row.from row.to) ≡ true
    go zero e = absurd (n0 e)
    go (suc zero) e = absurd (n1 e)
    go (suc (suc zero)) e = (ready_is tables c text names row _ (kind_literal text names row e) ready).fits
    go (suc (suc (suc zero))) e = (ready_is tables c text names row _ (kind_operand text names row e) ready).fits
    go (suc (suc (suc (suc zero)))) e = absurd (n4 e)
    go (suc (suc (suc (suc (suc k))))) e = absurd (omega (arith, e))

-- a field has one part
pub one_part : (tables : Tables) (c : DraftCounts) (number parts : ℕ) → MakingReady tables c (closed_making (field_made number) parts) → parts ≡ 1
unfolding may_have_parts
one_part tables c number parts ready = eqb-true parts 1 ready.may

pub field_step : (tables : Tables) (table : List ℕ) (c : DraftCounts) (number parts : ℕ) (r : DraftStep) (after : List ℕ) → parts ≡ 1 →
    SheetsStepped tables table c (node_step (field_made number) 1) r after → SheetsStepped tables table c (node_step (field_made number) parts) r after
field_step tables table c number parts r after one step = subst (λ (k : ℕ). SheetsStepped tables table c (node_step (field_made number) k) r after) (sym one) step

-- the words of a list
pub list_taken : (tables : Tables) (c : DraftCounts) (row : PatRow) (parts : ℕ) → MakingReady tables c (closed_making (list_made row) parts) → cond (eqb row.kind 6) 2 1 * parts ≤ c.height
unfolding words_taken words_each
list_taken tables c row parts ready = ready.enough

pub parts_within : (tables : Tables) (c : DraftCounts) (text names : List ℕ) (row : MakingRow) (making : Making) → making_of text names row ≡ making → words_each making ≡ 1 →
    MakingReady tables c (closed_making_of text names row) → row.parts ≤ c.height
parts_within tables c text names row making is one ready = enough_parts tables c making row.parts one (ready_is tables c text names row making is ready)

-- the row that was read
pub read_ready : (tables : Tables) (c : DraftCounts) (text names others spelled : List ℕ) (row other : MakingRow) → row ≡ other →
    making_of text names row ≡ making_of others spelled row → MakingReady tables c (closed_making_of text names other) →
    MakingReady tables c (closed_making_of others spelled row)
read_ready tables c text names others spelled row other same is ready =
    is_ready tables c text names others spelled row is (subst (λ (m : MakingRow). MakingReady tables c (closed_making_of text names m)) (sym same) ready)

pub read_stepped : (sheet text names : List ℕ) (tables : Tables) (table : List ℕ) (c : DraftCounts) (row other : MakingRow) (r : DraftStep) (after : List ℕ) → row ≡ other →
    MakingStepped sheet text names tables table c row r after → MakingStepped sheet text names tables table c other r after
read_stepped sheet text names tables table c row other r after same step = subst (λ (m : MakingRow). MakingStepped sheet text names tables table c m r after) same step
