-- Steps where the names' bytes are known: one that is right for all names, and one behind another. Assumes nothing.
use Rattle.std.specs.Prelude.{Some, None}
use Prim.Native.Nat.{ℕ}
use mathlib.Core.Path.{◌≡◌, refl, sym, ap, ◌∙◌}
use mathlib.Core.List.{List}
use Rattle.image.specs.declared.Tables.{Tables}
use Rattle.pattern_images.specs.Imaging.{derefs_within, within_image_limits}
use Rattle.draft_stack.specs.Stack.{Stacked}
use Rattle.draft_tables.specs.declared.DraftCounts.{DraftCounts}
use Rattle.draft_tables.specs.Results.{DraftStep}
use Rattle.draft_tables.specs.Layout.{draft_in, stacked_in}
use Rattle.draft_tables.specs.Steps.{DraftHeld, DraftStepped}
use Rattle.draft_binds.specs.Named.{HeldFor, SteppedFor}

-- the patterns of a table do not go by the names
same_patterns : (table : List ℕ) (c : DraftCounts) (names others : List ℕ) →
    derefs_within (stacked_in names table c).draft.patterns ≡ derefs_within (stacked_in others table c).draft.patterns
unfolding stacked_in draft_in
same_patterns table c names others = refl

-- a step that is right for all names is right for these
pub held_for : (names : List ℕ) (tables : Tables) (table : List ℕ) (c : DraftCounts) (step : List ℕ → Stacked → Stacked) (counts : DraftCounts) (after : List ℕ) →
    DraftHeld tables table c step counts after → HeldFor names tables table c (step names) counts after
held_for names tables table c step counts after held =
    record { room = held.room; holds = held.holds names; derefs = λ kept. held.derefs (λ others. same_patterns table c others names ∙ kept) names }

module _ (names sheet : List ℕ) (tables : Tables) (table : List ℕ) (c : DraftCounts) where
  pub stepped_for : (step : List ℕ → Stacked → Stacked) (r : DraftStep) (after : List ℕ) → DraftStepped sheet tables table c step r after →
      SteppedFor names sheet tables table c (step names) r after
  stepped_for step (Some counts) after held = held_for names tables table c step counts after held
  stepped_for step None after past = past names

  -- a step that makes the same
  pub for_same : (f g : Stacked → Stacked) (r : DraftStep) (after : List ℕ) → f (stacked_in names table c) ≡ g (stacked_in names table c) →
      SteppedFor names sheet tables table c f r after → SteppedFor names sheet tables table c g r after
  for_same f g (Some counts) after same held = record { room = held.room; holds = held.holds ∙ same; derefs = held.derefs }
  for_same f g None after same past = sym (ap (λ (s : Stacked). within_image_limits sheet s.draft) same) ∙ past

  -- a step behind one that went on
  pub for_then : (f g : Stacked → Stacked) (first : DraftCounts) (mid : List ℕ) (r : DraftStep) (after : List ℕ) → HeldFor names tables table c f first mid →
      SteppedFor names sheet tables mid first g r after → SteppedFor names sheet tables table c (λ s. g (f s)) r after
  for_then f g first mid (Some counts) after one two =
      record { room = two.room; holds = two.holds ∙ ap g one.holds; derefs = λ kept. two.derefs (one.derefs kept) }
  for_then f g first mid None after one past = sym (ap (λ (s : Stacked). within_image_limits sheet (g s).draft) one.holds) ∙ past
