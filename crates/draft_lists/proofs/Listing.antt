-- Words that are added to the list and taken from the stack, before the pattern that has them. Assumes nothing.
use Prim.Native.Nat.{ℕ, ◌+◌, ◌-◌, ◌≤◌, ◌<◌}
use mathlib.Core.Path.{◌≡◌, refl, sym, ap, subst, ◌∙◌}
use mathlib.Core.Bool.{false, cond}
use mathlib.Core.List.{List, [], ◌∷◌}
use native.Mathlib.Omega.{arith}
use borrow.Author.Tests.{eq-eqb, ne_eqb}
use lib.Dec.{eqb}
use lib.ListN.{length, take, drop, length-append, length-drop}
use lib.Seq.{take_all}
use Rattle.image.specs.declared.Tables.{Tables}
use Rattle.image.specs.declared.rows.PatRow.{PatRow}
use Rattle.image.specs.Tables.{Whole}
use Rattle.pattern_typing.specs.Making.{Making, list_made}
use Rattle.pattern_typing.specs.Closed.{closed_making}
use Rattle.pattern_images.specs.Drafts.{Draft, next_word, add_pattern, add_words}
use Rattle.pattern_images.specs.Emitting.{with_pattern, with_list, list_from, emit_node}
use Rattle.pattern_images.specs.Imaging.{derefs_within, within_image_limits}
use Rattle.draft_stack.specs.Stack.{Stacked, words_taken, stacked_on, emit_one}
use Rattle.draft_stack.proofs.Growing.{past_limit}
use Rattle.draft_tables.specs.declared.DraftCounts.{DraftCounts}
use Rattle.draft_tables.specs.Results.{DraftStep}
use Rattle.draft_tables.specs.Layout.{stacked_in, draft_in, WithinDraft, words_more, height_is, drafted, HoldsWords}
use Rattle.draft_tables.specs.Room.{DraftRoom}
use Rattle.draft_tables.specs.Steps.{DraftHeld, DraftStepped}
use Rattle.draft_tables.proofs.Counted.{room_within, word_length, stack_length}
use Rattle.draft_tables.proofs.Chaining.{step_same, step_then}
use Rattle.draft_rows.specs.Nodes.{row_step, node_step}
use Rattle.draft_rows.proofs.Lowering.{cut_to, lowered, stack_part}

-- where a list starts
pub list_from_lem : (sheet : List ℕ) (ws : List ℕ) (d : Draft) (many next : ℕ) → length ws ≡ many → next ≡ next_word sheet d → cond (eqb many 0) 0 next ≡ list_from sheet ws d
unfolding list_from
list_from_lem sheet [] d many next e n = rw (eq-eqb many 0 (sym e)) refl
list_from_lem sheet (w ∷ ws) d many next e n = rw (ne_eqb many 0 (λ (z : many ≡ 0). omega (arith, e))) n

module _ (tables : Tables) (table : List ℕ) (size : length table ≡ 40704) (c : DraftCounts) (room : DraftRoom tables c) where
  within : WithinDraft c
  within = room_within tables c room

  -- the counts when the words are there and the stack is cut
  pub cut_room : (listed low : DraftCounts) (many base : ℕ) → listed ≡ words_more many c → low ≡ height_is base listed → tables.list.count + c.words + many ≤ 2048 → base ≤ c.height → DraftRoom tables low
  cut_room listed low many base first second h fits =
      subst (DraftRoom tables) (sym (second ∙ ap (height_is base) first))
      (record { types = room.types; patterns = room.patterns; bindings = room.bindings; words = omega arith; bytes = room.bytes; height = omega (arith, room.height) })

  cut_held : (listed low : DraftCounts) (ws mid : List ℕ) (many base : ℕ) → listed ≡ words_more many c → HoldsWords table c ws many mid → low ≡ height_is base listed → tables.list.count + c.words + many ≤ 2048 → base ≤ c.height → DraftHeld tables table c (λ names s. cut_to base (drafted (add_words ws) s)) low mid
  unfolding add_words
  cut_held listed low ws mid many base first holds second h fits =
      record {
        room = cut_room listed low many base first second h fits;
        holds = all;
        derefs = λ kept names. ap (λ (s : Stacked). derefs_within s.draft.patterns) (all names) ∙ kept names;
      }
    where
      all : (names : List ℕ) → stacked_in names mid low ≡ cut_to base (drafted (add_words ws) (stacked_in names table c))
      all names =
          ap (stacked_in names mid) (second ∙ ap (height_is base) first)
          ∙ lowered names mid (words_more many c) base fits
          ∙ ap (cut_to base) (holds names)

  -- the last words of the stack
  pub last_words : (names : List ℕ) (many base : ℕ) → base + many ≡ c.height → take many (drop (24320 + base) table) ≡ drop base (stacked_in names table c).stack
  last_words names many base e =
      stack_part names table c base many (omega arith)
      ∙ take_all many (drop base (stacked_in names table c).stack) (omega (arith, length-drop base (stacked_in names table c).stack, stack_length names table c size within))

  module _ (sheet : List ℕ) (whole : Whole sheet tables) where
    -- a row behind its words, for a making that is that
    pub put_behind : (making : Making) (parts : ℕ) (row : PatRow) (listed low : DraftCounts) (ws mid : List ℕ) (many base : ℕ) (r : DraftStep) (after : List ℕ) → listed ≡ words_more many c → HoldsWords table c ws many mid → low ≡ height_is base listed → tables.list.count + c.words + many ≤ 2048 → base ≤ c.height → ((names : List ℕ) → row_step row sheet names (cut_to base (drafted (add_words ws) (stacked_in names table c))) ≡ node_step making parts sheet names (stacked_in names table c)) → DraftStepped sheet tables mid low (row_step row sheet) r after → DraftStepped sheet tables table c (node_step making parts sheet) r after
    put_behind making parts row listed low ws mid many base r after first holds second h fits same put =
        step_same sheet tables table c (λ names s. row_step row sheet names (cut_to base (drafted (add_words ws) s))) (node_step making parts sheet) r after same
        (step_then sheet tables table c (λ names s. cut_to base (drafted (add_words ws) s)) (row_step row sheet) low mid r after (cut_held listed low ws mid many base first holds second h fits) put)

    module _ (row : PatRow) (parts many : ℕ) (taken : words_taken (closed_making (list_made row) parts) ≡ many) (enough : many ≤ c.height) where
      -- `put_list`
      list_same : (names : List ℕ) → row_step (with_list row (cond (eqb many 0) 0 (tables.list.count + c.words)) parts) sheet names (cut_to (c.height - many) (drafted (add_words (take many (drop (24320 + (c.height - many)) table))) (stacked_in names table c))) ≡ node_step (list_made row) parts sheet names (stacked_in names table c)
      unfolding emit_one emit_node
      list_same names =
          let s = stacked_in names table c in
          let base = c.height - many in
          let height = stack_length names table c size within in
          let left : base ≡ length s.stack - words_taken (closed_making (list_made row) parts) = omega (arith, height, taken) in
          let ws = last_words names many base (omega arith) ∙ ap (λ (k : ℕ). drop k s.stack) left in
          let from = list_from_lem sheet (drop (length s.stack - words_taken (closed_making (list_made row) parts)) s.stack) s.draft many (tables.list.count + c.words) (omega (arith, length-drop (length s.stack - words_taken (closed_making (list_made row) parts)) s.stack, height, taken)) (next names) in
          λ i. stacked_on (take (left i) s.stack) (with_pattern sheet (with_list row (from i) parts) (add_words (ws i) s.draft))
        where
          next : (names : List ℕ) → tables.list.count + c.words ≡ next_word sheet (stacked_in names table c).draft
          next names = unfold stacked_in in omega (arith, whole.list_count_lem, word_length names table c size within)

      pub past_list : 2048 < tables.list.count + c.words + many → (names : List ℕ) → within_image_limits sheet (node_step (list_made row) parts sheet names (stacked_in names table c)).draft ≡ false
      unfolding emit_one emit_node add_words add_pattern stacked_in
      past_list h names =
          let s = stacked_in names table c in
          let d = draft_in names table c in
          let ws = drop (length s.stack - words_taken (closed_making (list_made row) parts)) s.stack in
          past_limit sheet (emit_one sheet (closed_making (list_made row) parts) s.stack s.draft).draft
          (λ w. omega (arith, h, w.words, whole.list_count_lem, word_length names table c size within, length-append d.words ws, length-drop (length s.stack - words_taken (closed_making (list_made row) parts)) s.stack, stack_length names table c size within, taken))

      pub list_stepped : (listed low : DraftCounts) (shown : PatRow) (mid : List ℕ) (r : DraftStep) (after : List ℕ) → listed ≡ words_more many c → HoldsWords table c (take many (drop (24320 + (c.height - many)) table)) many mid → low ≡ height_is (c.height - many) listed → tables.list.count + c.words + many ≤ 2048 → shown ≡ with_list row (cond (eqb many 0) 0 (tables.list.count + c.words)) parts → DraftStepped sheet tables mid low (row_step shown sheet) r after → DraftStepped sheet tables table c (node_step (list_made row) parts sheet) r after
      list_stepped listed low shown mid r after first holds second h is put =
          let base = c.height - many in
          put_behind (list_made row) parts (with_list row (cond (eqb many 0) 0 (tables.list.count + c.words)) parts) listed low (take many (drop (24320 + base) table)) mid many base r after first holds second h (omega arith) list_same
          (subst (λ (x : PatRow). DraftStepped sheet tables mid low (row_step x sheet) r after) is put)
