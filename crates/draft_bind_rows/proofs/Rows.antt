-- The ways through `put_bind`. Assumes nothing.
use Prim.Native.Nat.{ℕ, ◌+◌, ◌-◌, ◌≤◌, ◌<◌}
use mathlib.Core.Path.{◌≡◌, refl, sym, ap, subst, ◌∙◌}
use mathlib.Core.Bool.{false, cond}
use mathlib.Core.List.{List}
use native.Mathlib.Omega.{arith}
use lib.Dec.{eqb}
use lib.ListN.{length, get_or, take, drop}
use Rattle.image.specs.declared.Tables.{Tables}
use Rattle.image.specs.Rules.{absent}
use Rattle.pattern_typing.specs.Making.{BoundAt, bind_made, pattern_row}
use Rattle.pattern_images.specs.Emitting.{with_pattern, emit_node}
use Rattle.pattern_images.specs.Imaging.{derefs_within, within_image_limits}
use Rattle.draft_stack.specs.Stack.{Stacked, words_each, stacked_on, emit_one}
use Rattle.draft_stack.proofs.Growing.{grows_pattern, past_grows}
use Rattle.draft_tables.specs.declared.DraftCounts.{DraftCounts}
use Rattle.draft_tables.specs.Results.{DraftStep}
use Rattle.draft_tables.specs.Layout.{draft_in, stacked_in, height_is, drafted}
use Rattle.draft_tables.specs.Room.{DraftRoom}
use Rattle.draft_tables.specs.Steps.{DraftStepped}
use Rattle.draft_rows.specs.Nodes.{row_step, node_step}
use Rattle.draft_rows.proofs.Lowering.{cut_to, lowered}
use Rattle.draft_nodes.proofs.Words.{cut_at, first_is}
use Rattle.draft_binds.specs.Named.{HeldFor, SteppedFor}
use Rattle.draft_binds.specs.Binds.{bound_draft, bound_number, BindingHeld}
use Rattle.draft_binds.proofs.Naming.{stepped_for, for_same, for_then}

module _ (names sheet : List ℕ) (tables : Tables) (table : List ℕ) (size : length table ≡ 40704) (c : DraftCounts) (room : DraftRoom tables c) (parts : ℕ) (enough : parts ≤ c.height) (t mode annotation : ℕ) (name : List ℕ) (at : BoundAt) where
  abbrev base : ℕ
  base = c.height - parts

  abbrev step : Stacked → Stacked
  step s = node_step (bind_made t mode annotation name at) parts sheet names s

  pub bind_past : within_image_limits sheet (bound_draft sheet mode name at (draft_in names table c)) ≡ false → within_image_limits sheet (step (stacked_in names table c)).draft ≡ false
  unfolding emit_one emit_node stacked_in
  bind_past past = past_grows sheet (grows_pattern (bound_draft sheet mode name at (draft_in names table c)) _) past

  module _ (number word : ℕ) (bound : DraftCounts) (mid : List ℕ) (one : BindingHeld names sheet tables table c mode name at number bound mid) (low : DraftCounts) (e : low ≡ height_is base bound) where
    pub bound_low : c.height < 16384 → DraftRoom tables low × (low.height < 16384)
    bound_low high =
        let room' = one.held.room in
        subst (λ (d : DraftCounts). DraftRoom tables d × (d.height < 16384)) (sym e)
        (record { types = room'.types; patterns = room'.patterns; bindings = room'.bindings; words = room'.words; bytes = room'.bytes; height = omega arith }, omega arith)

    -- the parts' words are taken
    cut : HeldFor names tables table c (λ s. cut_to base (drafted (bound_draft sheet mode name at) s)) low mid
    cut =
        let cuts : stacked_in names mid low ≡ cut_to base (stacked_in names mid bound) = ap (stacked_in names mid) e ∙ lowered names mid bound base (omega (arith, one.height)) in
        record {
          room = room_low;
          holds = cuts ∙ ap (cut_to base) one.held.holds;
          derefs = λ kept. ap (λ (s : Stacked). derefs_within s.draft.patterns) cuts ∙ one.held.derefs kept;
        }
      where
        room_low : DraftRoom tables low
        room_low =
            let room' = one.held.room in
            subst (DraftRoom tables) (sym e) (record { types = room'.types; patterns = room'.patterns; bindings = room'.bindings; words = room'.words; bytes = room'.bytes; height = omega (arith, room.height) })

    bind_same : word ≡ cond (eqb parts 0) 65535 (get_or table (24320 + base) 0) →
        row_step (pattern_row 11 t 0 number word mode annotation) sheet names (cut_to base (drafted (bound_draft sheet mode name at) (stacked_in names table c))) ≡ step (stacked_in names table c)
    unfolding emit_one emit_node
    bind_same w =
        let s = stacked_in names table c in
        let cuts = cut_at tables table size c room parts enough (bind_made t mode annotation name at) (unfold words_each in refl) names in
        let sub = w ∙ first_is tables table size c room parts enough names ∙ ap (λ (k : ℕ). get_or (drop k s.stack) 0 absent) cuts in
        let own : number ≡ bound_number sheet name s.draft = unfold stacked_in in one.numbered in
        λ i. stacked_on (take (cuts i) s.stack) (with_pattern sheet (pattern_row 11 t 0 (own i) (sub i) mode annotation) (bound_draft sheet mode name at s.draft))

    pub bind_stepped : (r : DraftStep) (after : List ℕ) → word ≡ cond (eqb parts 0) 65535 (get_or table (24320 + base) 0) →
        DraftStepped sheet tables mid low (row_step (pattern_row 11 t 0 number word mode annotation) sheet) r after → SteppedFor names sheet tables table c step r after
    bind_stepped r after w put =
        for_same names sheet tables table c (λ s. row_step (pattern_row 11 t 0 number word mode annotation) sheet names (cut_to base (drafted (bound_draft sheet mode name at) s))) step r after (bind_same w)
        (for_then names sheet tables table c (λ s. cut_to base (drafted (bound_draft sheet mode name at) s)) (row_step (pattern_row 11 t 0 number word mode annotation) sheet names) low mid r after cut
        (stepped_for names sheet tables mid low (row_step (pattern_row 11 t 0 number word mode annotation) sheet) r after put))
