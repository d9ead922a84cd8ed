-- Nodes that take their parts' words and put none, or put a row's number. Assumes nothing.
use Rattle.std.specs.Prelude.{Some}
use Prim.Native.Nat.{ℕ, ◌-◌, ◌≤◌}
use mathlib.Core.Path.{◌≡◌, refl, sym, ap, ◌∙◌}
use mathlib.Core.List.{List, append-nil}
use lib.ListN.{length, take}
use Rattle.image.specs.declared.Tables.{Tables}
use Rattle.image.specs.declared.rows.PatRow.{PatRow}
use Rattle.pattern_typing.specs.Making.{not_made, row_made}
use Rattle.pattern_typing.specs.Closed.{closed_making}
use Rattle.pattern_images.specs.Emitting.{with_pattern, emit_node}
use Rattle.draft_stack.specs.Stack.{words_each, words_taken, stacked_on, emit_one}
use Rattle.draft_tables.specs.declared.DraftCounts.{DraftCounts}
use Rattle.draft_tables.specs.Results.{DraftStep}
use Rattle.draft_tables.specs.Layout.{stacked_in, height_is}
use Rattle.draft_tables.specs.Room.{DraftRoom}
use Rattle.draft_tables.specs.Steps.{DraftStepped}
use Rattle.draft_tables.proofs.Chaining.{step_same, step_then}
use Rattle.draft_rows.specs.Nodes.{row_step, node_step}
use Rattle.draft_rows.proofs.Lowering.{cut_to}
use Rattle.draft_nodes.proofs.Words.{cut_only, cut_at}

module _ (tables : Tables) (table : List ℕ) (size : length table ≡ 40704) (c : DraftCounts) (room : DraftRoom tables c) (parts : ℕ) (enough : parts ≤ c.height) (sheet : List ℕ) (low : DraftCounts) (e : low ≡ height_is (c.height - parts) c) where
  abbrev base : ℕ
  base = c.height - parts

  -- a node that is not made
  none_same : (names : List ℕ) → cut_to base (stacked_in names table c) ≡ node_step not_made parts sheet names (stacked_in names table c)
  unfolding emit_one emit_node
  none_same names =
      let s = stacked_in names table c in
      let cuts = cut_at tables table size c room parts enough not_made (unfold words_each in refl) names in
      let left = ap (λ (k : ℕ). take k s.stack) cuts ∙ sym (append-nil (take (length s.stack - words_taken (closed_making not_made parts)) s.stack)) in
      λ i. record { stack = left i; draft = s.draft }

  pub none_stepped : DraftStepped sheet tables table c (node_step not_made parts sheet) (Some low) table
  none_stepped =
      step_same sheet tables table c (λ names s. cut_to base s) (node_step not_made parts sheet) (Some low) table none_same
      (cut_only tables table size c room parts enough low e)

  -- `put_row`
  module _ (row : PatRow) where
    row_same : (names : List ℕ) → row_step row sheet names (cut_to base (stacked_in names table c)) ≡ node_step (row_made row) parts sheet names (stacked_in names table c)
    unfolding emit_one emit_node
    row_same names =
        let s = stacked_in names table c in
        let cuts = cut_at tables table size c room parts enough (row_made row) (unfold words_each in refl) names in
        λ i. stacked_on (take (cuts i) s.stack) (with_pattern sheet row s.draft)

    pub row_put : (r : DraftStep) (after : List ℕ) → DraftStepped sheet tables table low (row_step row sheet) r after →
        DraftStepped sheet tables table c (node_step (row_made row) parts sheet) r after
    row_put r after put =
        step_same sheet tables table c (λ names s. row_step row sheet names (cut_to base s)) (node_step (row_made row) parts sheet) r after row_same
        (step_then sheet tables table c (λ names s. cut_to base s) (row_step row sheet) low table r after (cut_only tables table size c room parts enough low e) put)
