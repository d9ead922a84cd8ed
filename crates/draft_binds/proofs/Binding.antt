-- The ways through `with_binding`. Assumes nothing.
use Rattle.std.specs.Prelude.{Some, None}
use Prim.Native.Nat.{ℕ, ◌+◌, ◌<◌}
use mathlib.Core.Path.{◌≡◌, refl, sym, ap, ◌∙◌}
use mathlib.Core.Bool.{false}
use mathlib.Core.Option.{Option, none, some}
use mathlib.Core.List.{List, []}
use native.Mathlib.Omega.{arith}
use lib.ListN.{get_or, drop}
use Rattle.image.specs.declared.Tables.{Tables}
use Rattle.image.specs.Tables.{Whole}
use Rattle.row_tables.specs.Rows.{row_at}
use Rattle.pattern_words.specs.Words.{same_word}
use Rattle.name_tables.specs.Names.{first_from}
use Rattle.pattern_typing.specs.Making.{BoundAt}
use Rattle.pattern_images.specs.Drafts.{Draft, binding_for}
use Rattle.pattern_images.specs.Emitting.{new_binding, with_binding, binding_number}
use Rattle.pattern_images.specs.Imaging.{within_image_limits}
use Rattle.draft_tables.specs.declared.DraftCounts.{DraftCounts}
use Rattle.draft_tables.specs.Layout.{name_of_words, draft_in, stacked_in, drafted}
use Rattle.draft_tables.specs.Room.{DraftRoom}
use Rattle.draft_tables.proofs.Counted.{binding_length, called_length, called_at_row}
use Rattle.draft_names.specs.Results.{FoundBinding}
use Rattle.draft_names.specs.Names.{found_binding}
use Rattle.draft_types.proofs.Firsts.{first_same, first_below}
use Rattle.draft_binds.specs.Named.{HeldFor}
use Rattle.draft_binds.specs.Binds.{bound_draft, BindingHeld}

module _ (names table : List ℕ) (c : DraftCounts) (name : List ℕ) where
  -- the search among the table's names
  abbrev looked : Option ℕ
  looked = first_from (λ b. same_word (name_of_words names (row_at 2 (drop 5376 table) b)) name) 0 c.bindings

  -- is the one among the draft's
  binding_found : binding_for (draft_in names table c) name ≡ looked
  unfolding binding_for
  binding_found =
      ap (first_from (λ b. same_word (get_or (draft_in names table c).called b []) name) 0) (called_length names table c)
      ∙ first_same (λ b. same_word (get_or (draft_in names table c).called b []) name) (λ b. same_word (name_of_words names (row_at 2 (drop 5376 table) b)) name) 0 c.bindings
      (λ b low high. ap (λ (n : List ℕ). same_word n name) (called_at_row names table c b [] (omega arith)))

  -- what the code found is what it finds
  pub found_at : (r : FoundBinding) (b : ℕ) → r ≡ Some b → found_binding r ≡ looked → some b ≡ looked
  unfolding found_binding
  found_at r b e f = sym (ap found_binding e) ∙ f

  pub found_none : (r : FoundBinding) → r ≡ None → found_binding r ≡ looked → none ≡ looked
  unfolding found_binding
  found_none r e f = sym (ap found_binding e) ∙ f

  -- what it finds is a binding that was added
  pub found_below : (b : ℕ) → some b ≡ looked → b < c.bindings
  found_below b e = omega (arith, first_below _ 0 c.bindings b e)

  module _ (sheet : List ℕ) (tables : Tables) (whole : Whole sheet tables) (room : DraftRoom tables c) (mode : ℕ) (at : BoundAt) where
    -- a name that has one
    pub bound_already : (b : ℕ) → some b ≡ looked → BindingHeld names sheet tables table c mode name at (tables.bindings.count + b) c table
    unfolding stacked_in with_binding binding_number
    bound_already b e =
        let is : some b ≡ binding_for (draft_in names table c) name = e ∙ sym binding_found in
        record {
          held = record { room = room; holds = ap (λ (o : Option ℕ). drafted (with_binding sheet o mode name at) (stacked_in names table c)) is; derefs = λ kept. kept };
          height = refl;
          numbered = ap (λ (n : ℕ). n + b) whole.binding_count_lem ∙ ap (λ (o : Option ℕ). binding_number sheet o (draft_in names table c)) is;
        }

    -- one that has none yet
    module _ (none_yet : none ≡ looked) where
      is_new : new_binding sheet mode name at (draft_in names table c) ≡ bound_draft sheet mode name at (draft_in names table c)
      unfolding with_binding
      is_new = ap (λ (o : Option ℕ). with_binding sheet o mode name at (draft_in names table c)) (none_yet ∙ sym binding_found)

      pub bound_past : within_image_limits sheet (new_binding sheet mode name at (stacked_in names table c).draft) ≡ false →
          within_image_limits sheet (bound_draft sheet mode name at (draft_in names table c)) ≡ false
      unfolding stacked_in
      bound_past past = sym (ap (within_image_limits sheet) is_new) ∙ past

      pub bound_anew : (counts : DraftCounts) (after : List ℕ) → counts.height ≡ c.height →
          HeldFor names tables table c (λ s. drafted (new_binding sheet mode name at) s) counts after →
          BindingHeld names sheet tables table c mode name at (tables.bindings.count + c.bindings) counts after
      unfolding stacked_in with_binding binding_number
      bound_anew counts after high h =
          record {
            held = record { room = h.room; holds = h.holds ∙ ap (λ (d : Draft). record { stack = (stacked_in names table c).stack; draft = d }) is_new; derefs = h.derefs };
            height = high;
            numbered =
                (let sum : tables.bindings.count + c.bindings ≡ binding_number sheet none (draft_in names table c) = omega (arith, whole.binding_count_lem, binding_length names table c) in
                sum ∙ ap (λ (o : Option ℕ). binding_number sheet o (draft_in names table c)) (none_yet ∙ sym binding_found));
          }
