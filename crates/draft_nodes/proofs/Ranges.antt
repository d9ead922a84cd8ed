-- A range's row, by the words of its bounds. Assumes nothing.
use Prim.Native.Nat.{ℕ, ◌+◌, ◌-◌, ◌≤◌, ◌<◌}
use mathlib.Core.Path.{◌≡◌, refl, sym, ap, ◌∙◌}
use mathlib.Core.Bool.{Bool, true, false, cond}
use mathlib.Core.List.{List}
use native.Mathlib.Nat.{add-zero}
use native.Mathlib.Omega.{arith}
use lib.ListN.{length, get_or, take, drop}
use Rattle.image.specs.declared.Tables.{Tables}
use Rattle.image.specs.declared.rows.PatRow.{PatRow}
use Rattle.image.specs.Rules.{absent}
use Rattle.pattern_syntax.specs.Formed.{one_if}
use Rattle.pattern_typing.specs.Making.{range_made, pattern_row}
use Rattle.pattern_images.specs.Emitting.{with_pattern, emit_node}
use Rattle.draft_stack.specs.Stack.{words_each, stacked_on, emit_one}
use Rattle.draft_tables.specs.declared.DraftCounts.{DraftCounts}
use Rattle.draft_tables.specs.Results.{DraftStep}
use Rattle.draft_tables.specs.Layout.{stacked_in, height_is}
use Rattle.draft_tables.specs.Room.{DraftRoom}
use Rattle.draft_tables.specs.Steps.{DraftStepped}
use Rattle.draft_tables.proofs.Chaining.{step_same, step_then}
use Rattle.draft_rows.specs.Nodes.{row_step, node_step}
use Rattle.draft_rows.proofs.Lowering.{cut_to}
use Rattle.draft_nodes.proofs.Words.{cut_only, cut_at, word_is}

-- the upper bound's place lies on the stack
pub upper_place : (height parts : ℕ) (lower upper : Bool) → height < 16384 → parts ≤ height → parts ≡ one_if lower + one_if upper → height - parts + one_if lower < 16384
upper_place height parts true true h e f = omega arith
upper_place height parts true false h e f = omega arith
upper_place height parts false upper h e f = omega arith

module _ (tables : Tables) (table : List ℕ) (size : length table ≡ 40704) (c : DraftCounts) (room : DraftRoom tables c) (parts : ℕ) (enough : parts ≤ c.height) where
  abbrev low_at : ℕ
  low_at = c.height - parts

  abbrev words : List ℕ → List ℕ
  words names = drop low_at (stacked_in names table c).stack

  lower_is : (names : List ℕ) (lower upper : Bool) → parts ≡ one_if lower + one_if upper → cond lower (get_or table (24320 + low_at) 0) 65535 ≡ cond lower (get_or (words names) 0 absent) absent
  lower_is names true upper e = sym (ap (λ (k : ℕ). get_or table (24320 + k) 0) (add-zero low_at)) ∙ word_is tables table size c room parts enough names 0 (omega arith)
  lower_is names false upper e = refl

  upper_is : (names : List ℕ) (lower upper : Bool) → parts ≡ one_if lower + one_if upper → cond upper (get_or table (24320 + (low_at + one_if lower)) 0) 65535 ≡ cond upper (get_or (words names) (cond lower 1 0) absent) absent
  upper_is names true true e = word_is tables table size c room parts enough names 1 (omega arith)
  upper_is names false true e = word_is tables table size c room parts enough names 0 (omega arith)
  upper_is names lower false e = refl

  module _ (sheet : List ℕ) (t derefs : ℕ) (lower upper dots : Bool) (bounds : parts ≡ one_if lower + one_if upper) where
    range_same : (names : List ℕ) → row_step (pattern_row 7 t derefs (cond lower (get_or table (24320 + low_at) 0) 65535) (cond upper (get_or table (24320 + (low_at + one_if lower)) 0) 65535) (cond dots 1 0) 0) sheet names (cut_to low_at (stacked_in names table c)) ≡ node_step (range_made t derefs lower upper dots) parts sheet names (stacked_in names table c)
    unfolding emit_one emit_node
    range_same names =
        let s = stacked_in names table c in
        let at = cut_at tables table size c room parts enough (range_made t derefs lower upper dots) (unfold words_each in refl) names in
        let one = lower_is names lower upper bounds ∙ ap (λ (k : ℕ). cond lower (get_or (drop k s.stack) 0 absent) absent) at in
        let two = upper_is names lower upper bounds ∙ ap (λ (k : ℕ). cond upper (get_or (drop k s.stack) (cond lower 1 0) absent) absent) at in
        λ i. stacked_on (take (at i) s.stack) (with_pattern sheet (pattern_row 7 t derefs (one i) (two i) (cond dots 1 0) 0) s.draft)

    -- `put_range`
    pub range_stepped : (low : DraftCounts) (row : PatRow) (r : DraftStep) (after : List ℕ) → low ≡ height_is low_at c → row ≡ pattern_row 7 t derefs (cond lower (get_or table (24320 + low_at) 0) 65535) (cond upper (get_or table (24320 + (low_at + one_if lower)) 0) 65535) (cond dots 1 0) 0 → DraftStepped sheet tables table low (row_step row sheet) r after → DraftStepped sheet tables table c (node_step (range_made t derefs lower upper dots) parts sheet) r after
    range_stepped low row r after e looks put =
        step_same sheet tables table c (λ names s. row_step row sheet names (cut_to low_at s)) (node_step (range_made t derefs lower upper dots) parts sheet) r after
        (λ names. ap (λ (x : PatRow). row_step x sheet names (cut_to low_at (stacked_in names table c))) looks ∙ range_same names)
        (step_then sheet tables table c (λ names s. cut_to low_at s) (row_step row sheet) low table r after (cut_only tables table size c room parts enough low e) put)
