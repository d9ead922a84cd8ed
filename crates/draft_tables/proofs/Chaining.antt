-- One step behind another, and a step that stops at a limit. Assumes nothing.
use Rattle.std.specs.Prelude.{Some, None}
use Prim.Native.Nat.{ℕ}
use mathlib.Core.Path.{◌≡◌, sym, ap, ◌∙◌}
use mathlib.Core.Bool.{false}
use mathlib.Core.List.{List, []}
use lib.ListN.{length}
use Rattle.image.specs.declared.Tables.{Tables}
use Rattle.pattern_images.specs.Drafts.{Draft}
use Rattle.pattern_images.specs.Imaging.{within_image_limits}
use Rattle.draft_stack.specs.Stack.{Stacked}
use Rattle.draft_stack.proofs.Growing.{Grows, past_grows}
use Rattle.draft_tables.specs.declared.DraftCounts.{DraftCounts}
use Rattle.draft_tables.specs.Results.{DraftStep}
use Rattle.draft_tables.specs.Layout.{stacked_in, drafted, WithinDraft}
use Rattle.draft_tables.specs.Steps.{DraftHeld, DraftStepped}
use Rattle.draft_tables.proofs.Counted.{room_within, stack_length}

module _ (sheet : List ℕ) (tables : Tables) (table : List ℕ) (c : DraftCounts) where
  -- a step that makes the same
  pub step_same : (f g : List ℕ → Stacked → Stacked) (r : DraftStep) (after : List ℕ) → ((names : List ℕ) → f names (stacked_in names table c) ≡ g names (stacked_in names table c)) → DraftStepped sheet tables table c f r after → DraftStepped sheet tables table c g r after
  step_same f g (Some counts) after same held = record { room = held.room; holds = λ names. held.holds names ∙ same names; derefs = held.derefs }
  step_same f g None after same past = λ names. sym (ap (λ (s : Stacked). within_image_limits sheet s.draft) (same names)) ∙ past names

  -- a step behind one that went on
  pub step_then : (f g : List ℕ → Stacked → Stacked) (first : DraftCounts) (mid : List ℕ) (r : DraftStep) (after : List ℕ) → DraftHeld tables table c f first mid → DraftStepped sheet tables mid first g r after → DraftStepped sheet tables table c (λ names s. g names (f names s)) r after
  step_then f g first mid (Some counts) after one two =
      record { room = two.room; holds = λ names. two.holds names ∙ ap (g names) (one.holds names); derefs = λ kept. two.derefs (one.derefs kept) }
  step_then f g first mid None after one past =
      λ names. sym (ap (λ (s : Stacked). within_image_limits sheet (g names s).draft) (one.holds names)) ∙ past names

  -- a step that is part of one that makes more
  pub step_stops : (f g : List ℕ → Stacked → Stacked) → ((names : List ℕ) → Grows (f names (stacked_in names table c)).draft (g names (stacked_in names table c)).draft) → ((names : List ℕ) → within_image_limits sheet (f names (stacked_in names table c)).draft ≡ false) → (names : List ℕ) → within_image_limits sheet (g names (stacked_in names table c)).draft ≡ false
  step_stops f g grows past names = past_grows sheet (grows names) (past names)

-- a step that leaves the stack
pub same_height : (tables : Tables) (table : List ℕ) (c : DraftCounts) (f : List ℕ → Draft → Draft) (counts : DraftCounts) (after : List ℕ) → length table ≡ 40704 → length after ≡ 40704 → WithinDraft c → DraftHeld tables table c (λ names s. drafted (f names) s) counts after → counts.height ≡ c.height
same_height tables table c f counts after size long within held =
    sym (stack_length [] after counts long (room_within tables counts held.room))
    ∙ ap (λ (s : Stacked). length s.stack) (held.holds [])
    ∙ stack_length [] table c size within
