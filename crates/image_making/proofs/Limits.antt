-- Limits that a sheet and a draft in a table keep, before the first row and behind the last. Assumes nothing.
use Prim.Native.Nat.{ℕ, ◌≤◌}
use mathlib.Core.Path.{◌≡◌, refl, sym, ap, ◌∙◌}
use mathlib.Core.Bool.{true, ◌&&◌}
use mathlib.Core.List.{List}
use native.Mathlib.Omega.{arith}
use borrow.Author.Tests.{leb-true}
use lib.Dec.{leb}
use lib.ListN.{length}
use Rattle.image.specs.declared.Tables.{Tables}
use Rattle.image.specs.Tables.{type_count, variant_count, pattern_count, binding_count, list_count, data_count}
use Rattle.image.proofs.Bools.{and_left, and_right, all_true_at}
use Rattle.row_tables.specs.Rows.{rows_of, stored}
use Rattle.type_sheets.specs.Sheets.{within_sheet_limits, sheet_rules, sheet_holds}
use Rattle.pattern_typing.specs.Closed.{ClosedMaking}
use Rattle.node_rows.specs.Makings.{makings_in}
use Rattle.pattern_images.specs.Drafts.{Draft}
use Rattle.pattern_images.specs.Imaging.{image_with, derefs_within, within_image_limits}
use Rattle.draft_stack.specs.Stack.{Stacked, emit_up}
use Rattle.draft_stack.proofs.Growing.{each_within}
use Rattle.draft_tables.specs.declared.DraftCounts.{DraftCounts}
use Rattle.draft_tables.specs.Layout.{draft_in, stacked_in}
use Rattle.draft_tables.proofs.Counted.{room_within, type_length, pattern_length, binding_length, word_length, byte_length}
use Rattle.image_head.specs.Heads.{WithinLimits}
use Rattle.image_writing.specs.Writing.{ImageWritten}
use Rattle.image_writing.proofs.Assembled.{limits_of_room}
use Rattle.image_making.specs.Images.{ImageReady, draft_up, EmittedUp, ImageOf}
use Rattle.image_making.proofs.RowsDone.{Done}

abbrev pub no_counts : DraftCounts
no_counts = record { types = 0; patterns = 0; bindings = 0; words = 0; bytes = 0; height = 0 }

-- the limits of a sheet
record SheetFew (sheet : List ℕ) : Type 0 where
  types : type_count sheet ≤ 256
  variants : variant_count sheet ≤ 512
  patterns : pattern_count sheet ≤ 512
  bindings : binding_count sheet ≤ 256
  words : list_count sheet ≤ 2048
  bytes : data_count sheet ≤ 16384

sheet_few : (sheet : List ℕ) → sheet_holds sheet ≡ true → SheetFew sheet
unfolding sheet_holds within_sheet_limits
sheet_few sheet holds =
    let t = leb (type_count sheet) 256 in
    let v = leb (variant_count sheet) 512 in
    let p = leb (pattern_count sheet) 512 in
    let b = leb (binding_count sheet) 256 in
    let l = leb (list_count sheet) 2048 in
    let y = leb (data_count sheet) 16384 in
    let e5 : (t && v && p && b && l && y) ≡ true = all_true_at (sheet_rules sheet) 10 holds in
    let e4 = and_left (t && v && p && b && l) y e5 in
    let e3 = and_left (t && v && p && b) l e4 in
    let e2 = and_left (t && v && p) b e3 in
    let e1 = and_left (t && v) p e2 in
    record {
      types = leb-true (type_count sheet) 256 (and_left t v e1);
      variants = leb-true (variant_count sheet) 512 (and_right t v e1);
      patterns = leb-true (pattern_count sheet) 512 (and_right (t && v) p e2);
      bindings = leb-true (binding_count sheet) 256 (and_right (t && v && p) b e3);
      words = leb-true (list_count sheet) 2048 (and_right (t && v && p && b) l e4);
      bytes = leb-true (data_count sheet) 16384 (and_right (t && v && p && b && l) y e5);
    }

module _ (text names makings sheet : List ℕ) (tables : Tables) (n : ℕ) (ready : ImageReady sheet tables (makings_in text names makings n)) where
  -- no row is done
  pub none_done : (table : List ℕ) → length table ≡ 40704 → Done text names makings sheet tables n 0 no_counts table
  unfolding stacked_in draft_in rows_of emit_up makings_in derefs_within
  none_done table size =
      let w = ready.whole in
      let few = sheet_few sheet ready.ruled in
      record {
        emitted = record {
          room = record { types = omega (arith, w.type_count_lem, few.types); patterns = omega (arith, w.pattern_count_lem, few.patterns); bindings = omega (arith, w.binding_count_lem, few.bindings); words = omega (arith, w.list_count_lem, few.words); bytes = omega (arith, w.data_count_lem, few.bytes); height = omega arith };
          holds = refl;
          derefs = refl;
        };
        up_to = omega arith;
        low = omega arith;
        long = size;
      }

  -- all are
  module _ (counts : DraftCounts) (table : List ℕ) (size : length table ≡ 40704) (done : EmittedUp names sheet tables (makings_in text names makings n) counts table) where
    abbrev rows : List ClosedMaking
    rows = makings_in text names makings n

    pub room_for_image : WithinLimits tables counts
    room_for_image = limits_of_room tables counts done.room (omega (arith, ready.whole.variant_count_lem, (sheet_few sheet ready.ruled).variants))

    draft_within : within_image_limits sheet (stacked_in names table counts).draft ≡ true
    unfolding stacked_in
    draft_within =
        let w = ready.whole in
        let room = done.room in
        let inside = room_within tables counts room in
        each_within sheet (draft_in names table counts)
        (record {
          types = omega (arith, w.type_count_lem, room.types, type_length names table counts);
          patterns = omega (arith, w.pattern_count_lem, room.patterns, pattern_length names table counts);
          bindings = omega (arith, w.binding_count_lem, room.bindings, binding_length names table counts);
          words = omega (arith, w.list_count_lem, room.words, word_length names table counts size inside);
          bytes = omega (arith, w.data_count_lem, room.bytes, byte_length names table counts size inside);
          derefs = done.derefs;
        })

    pub image_made : (before : List ℕ) (long : ℕ) (after : List ℕ) → ImageWritten sheet table counts before long after → ImageOf sheet (draft_up sheet rows) before long after
    unfolding stacked_in
    image_made before long after written =
        let same : draft_in names table counts ≡ draft_up sheet rows = ap (λ (s : Stacked). s.draft) done.holds in
        record {
          within = sym (ap (within_image_limits sheet) same) ∙ draft_within;
          bytes = (written names).0 ∙ ap (λ (d : Draft). length (image_with sheet d)) same;
          written = (written names).1 ∙ ap (λ (d : Draft). stored before 0 (image_with sheet d)) same;
        }
