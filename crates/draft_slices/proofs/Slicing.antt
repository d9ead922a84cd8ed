-- A slice's words without its rest's, in two runs of the stack. Assumes nothing.
use Prim.Native.Nat.{ℕ, suc, ◌+◌, ◌-◌, ◌≤◌, ◌<◌}
use mathlib.Core.Path.{◌≡◌, refl, sym, ap, subst, ◌∙◌}
use mathlib.Core.Bool.{true, false, cond}
use mathlib.Core.Option.{Option, none, some}
use mathlib.Core.List.{List, ◌++◌, append_assoc}
use native.Mathlib.Omega.{arith}
use borrow.Author.Tests.{eq-eqb, ne_eqb}
use lib.Dec.{eqb, ltb}
use lib.ListN.{length, get_or, take, drop, length-append, length-drop}
use lib.Seq.{length-take-le, take_all, drop-drop, get_or-take, get_or-drop}
use Rattle.image.specs.declared.Tables.{Tables}
use Rattle.image.specs.declared.rows.PatRow.{PatRow}
use Rattle.image.specs.Rules.{absent}
use Rattle.image.specs.Tables.{Whole}
use Rattle.pattern_syntax.specs.Formed.{rest_within}
use Rattle.node_rows.specs.Nodes.{number_in}
use Rattle.pattern_typing.specs.Making.{list_made, slice_made, pattern_row}
use Rattle.pattern_typing.specs.Closed.{closed_making}
use Rattle.pattern_images.specs.Drafts.{next_word, add_pattern, add_words}
use Rattle.pattern_images.specs.Emitting.{with_pattern, item_words, prefix_count, suffix_count, rest_word, emit_node}
use Rattle.pattern_images.specs.Imaging.{within_image_limits}
use Rattle.draft_stack.specs.Stack.{Stacked, words_each, words_taken, stacked_on, emit_one}
use Rattle.draft_stack.proofs.Growing.{past_limit}
use Rattle.draft_tables.specs.declared.DraftCounts.{DraftCounts}
use Rattle.draft_tables.specs.Results.{DraftStep}
use Rattle.draft_tables.specs.Layout.{stacked_in, WithinDraft, words_more, height_is, drafted, HoldsWords}
use Rattle.draft_tables.specs.Room.{DraftRoom}
use Rattle.draft_tables.specs.Steps.{DraftStepped}
use Rattle.draft_tables.proofs.Counted.{room_within, default_free, word_length, stack_length}
use Rattle.draft_rows.specs.Nodes.{row_step, node_step}
use Rattle.draft_rows.proofs.Lowering.{cut_to, stack_part}
use Rattle.draft_lists.proofs.Listing.{list_from_lem, put_behind}

-- how many items stand before a rest, by a row's word
pub numbered : (before : ℕ) → (before ≡ 65535 → ⊥) → number_in before ≡ some before
unfolding number_in
numbered before e = rw (ne_eqb before 65535 e) refl

pub unnumbered : (before : ℕ) → before ≡ 65535 → number_in before ≡ none
unfolding number_in
unnumbered before e = rw (eq-eqb before 65535 e) refl

pub numbered_within : (before parts : ℕ) → (before ≡ 65535 → ⊥) → rest_within (number_in before) parts ≡ true → ltb before parts ≡ true
unfolding rest_within
numbered_within before parts e h = sym (ap (λ (o : Option ℕ). rest_within o parts) (numbered before e)) ∙ h

-- each part takes a word
pub list_takes : (t derefs parts : ℕ) → words_taken (closed_making (list_made (pattern_row 8 t derefs 0 0 0 65535)) parts) ≡ parts
unfolding words_taken words_each
list_takes t derefs parts = omega arith

-- a slice without a rest is a row with a list
pub slice_is_list : (sheet names : List ℕ) (t derefs parts : ℕ) (s : Stacked) → node_step (list_made (pattern_row 8 t derefs 0 0 0 65535)) parts sheet names s ≡ node_step (slice_made t derefs none) parts sheet names s
unfolding emit_one emit_node words_taken words_each item_words prefix_count suffix_count rest_word
slice_is_list sheet names t derefs parts s = refl

module _ (tables : Tables) (table : List ℕ) (size : length table ≡ 40704) (c : DraftCounts) (room : DraftRoom tables c) (parts before : ℕ) (enough : parts ≤ c.height) (inside : before < parts) where
  inner : WithinDraft c
  inner = room_within tables c room

  abbrev base : ℕ
  base = c.height - parts

  -- the counts between the two runs
  pub first_room : (first : DraftCounts) (suffix : ℕ) → first ≡ words_more before c → tables.list.count + c.words + (parts - 1) ≤ 2048 → suffix ≡ parts - 1 - before → WithinDraft first × (first.words + suffix ≤ 2048)
  first_room first suffix e h is =
      subst (λ (d : DraftCounts). WithinDraft d × (d.words + suffix ≤ 2048)) (sym e)
      (record { types = inner.types; patterns = inner.patterns; bindings = inner.bindings; words = omega arith; bytes = inner.bytes; height = inner.height }, omega arith)

  pub runs_counts : (first listed : DraftCounts) (suffix : ℕ) → first ≡ words_more before c → listed ≡ words_more suffix first → suffix ≡ parts - 1 - before → listed ≡ words_more (parts - 1) c
  runs_counts first listed suffix one two is =
      let all : c.words + before + suffix ≡ c.words + (parts - 1) = omega arith in
      two ∙ ap (words_more suffix) one ∙ ap (λ (k : ℕ). record { types = c.types; patterns = c.patterns; bindings = c.bindings; words = k; bytes = c.bytes; height = c.height }) all

  -- the two runs one behind the other
  pub both_runs : (first : DraftCounts) (ws us mid after : List ℕ) (suffix : ℕ) → first ≡ words_more before c → suffix ≡ parts - 1 - before → HoldsWords table c ws before mid → HoldsWords mid first us suffix after → HoldsWords table c (ws ++ us) (parts - 1) after
  unfolding add_words
  both_runs first ws us mid after suffix one is held more names =
      ap (stacked_in names after) (sym (runs_counts first (words_more suffix first) suffix one refl is))
      ∙ more names
      ∙ ap (λ (d : DraftCounts). drafted (add_words us) (stacked_in names mid d)) one
      ∙ ap (drafted (add_words us)) (held names)
      ∙ ap (λ (l : List ℕ). record { stack = (stacked_in names table c).stack; draft = record { types = (stacked_in names table c).draft.types; patterns = (stacked_in names table c).draft.patterns; bindings = (stacked_in names table c).draft.bindings; called = (stacked_in names table c).draft.called; words = l; bytes = (stacked_in names table c).draft.bytes } }) (append_assoc (stacked_in names table c).draft.words ws us)

  -- what the second run is
  second_run : (names : List ℕ) (first : DraftCounts) (ws mid : List ℕ) (suffix : ℕ) → first ≡ words_more before c → suffix ≡ parts - 1 - before → HoldsWords table c ws before mid → take suffix (drop (24320 + (base + before + 1)) mid) ≡ drop (suc before) (drop base (stacked_in names table c).stack)
  unfolding add_words
  second_run names first ws mid suffix one is held =
      let s = (stacked_in names table c).stack in
      let place : base + before + 1 ≡ base + suc before = omega arith in
      stack_part names mid (words_more before c) (base + before + 1) suffix (omega arith)
      ∙ ap (λ (u : Stacked). take suffix (drop (base + before + 1) u.stack)) (held names)
      ∙ take_all suffix (drop (base + before + 1) s) (omega (arith, length-drop (base + before + 1) s, stack_length names table c size inner))
      ∙ ap (λ (k : ℕ). drop k s) place
      ∙ sym (drop-drop (suc before) base s)

  -- the rest's own word
  rest_is_lem : (names : List ℕ) → get_or table (24320 + (base + before)) 0 ≡ get_or (drop base (stacked_in names table c).stack) before absent
  unfolding stacked_in
  rest_is_lem names =
      default_free table (24320 + (base + before)) 0 absent (omega (arith, inner.height))
      ∙ sym (get_or-drop 24320 table (base + before) absent)
      ∙ sym (get_or-take c.height (drop 24320 table) (base + before) absent (omega arith))
      ∙ sym (get_or-drop base (take c.height (drop 24320 table)) before absent)

  module _ (sheet : List ℕ) (whole : Whole sheet tables) (t derefs : ℕ) where
    abbrev height : List ℕ → ℕ
    height names = length (stacked_in names table c).stack - words_taken (closed_making (slice_made t derefs (some before)) parts)

    height_is_lem : (names : List ℕ) → base ≡ height names
    unfolding words_taken words_each
    height_is_lem names = omega (arith, stack_length names table c size inner)

    abbrev items : List ℕ → List ℕ
    items names = take before (drop (height names) (stacked_in names table c).stack) ++ drop (suc before) (drop (height names) (stacked_in names table c).stack)

    item_count_lem : (names : List ℕ) → length (items names) ≡ parts - 1
    item_count_lem names =
        let w = drop (height names) (stacked_in names table c).stack in
        let long : length w ≡ parts = omega (arith, length-drop (height names) (stacked_in names table c).stack, height_is_lem names, stack_length names table c size inner) in
        omega (arith, length-append (take before w) (drop (suc before) w), length-take-le before w (omega arith), length-drop (suc before) w, long)

    next_word_lem : (names : List ℕ) → tables.list.count + c.words ≡ next_word sheet (stacked_in names table c).draft
    unfolding stacked_in
    next_word_lem names = omega (arith, whole.list_count_lem, word_length names table c size inner)

    pub past_slice : 2048 < tables.list.count + c.words + (parts - 1) → (names : List ℕ) → within_image_limits sheet (node_step (slice_made t derefs (some before)) parts sheet names (stacked_in names table c)).draft ≡ false
    unfolding emit_one emit_node item_words add_words add_pattern
    past_slice h names =
        let s = stacked_in names table c in
        past_limit sheet (emit_one sheet (closed_making (slice_made t derefs (some before)) parts) s.stack s.draft).draft
        (λ w. omega (arith, h, w.words, next_word_lem names, length-append s.draft.words (items names), item_count_lem names))

    -- the row that is put is the definition's
    slice_same : (first : DraftCounts) (mid : List ℕ) (suffix : ℕ) → first ≡ words_more before c → suffix ≡ parts - 1 - before → HoldsWords table c (take before (drop (24320 + base) table)) before mid → (names : List ℕ) → row_step (pattern_row 8 t derefs (cond (eqb (parts - 1) 0) 0 (tables.list.count + c.words)) before suffix (get_or table (24320 + (base + before)) 0)) sheet names (cut_to base (drafted (add_words (take before (drop (24320 + base) table) ++ take suffix (drop (24320 + (base + before + 1)) mid))) (stacked_in names table c))) ≡ node_step (slice_made t derefs (some before)) parts sheet names (stacked_in names table c)
    unfolding emit_one emit_node item_words prefix_count suffix_count rest_word
    slice_same first mid suffix one is held names =
        let s = stacked_in names table c in
        let left = height_is_lem names in
        let cut : (k : ℕ) → List ℕ = λ k. drop k s.stack in
        let ws : take before (drop (24320 + base) table) ≡ take before (cut (height names)) = stack_part names table c base before (omega arith) ∙ ap (λ (k : ℕ). take before (cut k)) left in
        let us : take suffix (drop (24320 + (base + before + 1)) mid) ≡ drop (suc before) (cut (height names)) = second_run names first (take before (drop (24320 + base) table)) mid suffix one is held ∙ ap (λ (k : ℕ). drop (suc before) (cut k)) left in
        let rest : get_or table (24320 + (base + before)) 0 ≡ get_or (cut (height names)) before absent = rest_is_lem names ∙ ap (λ (k : ℕ). get_or (cut k) before absent) left in
        let from = list_from_lem sheet (items names) s.draft (parts - 1) (tables.list.count + c.words) (item_count_lem names) (next_word_lem names) in
        let behind : suffix ≡ parts - suc before = omega arith in
        λ i. stacked_on (take (left i) s.stack) (with_pattern sheet (pattern_row 8 t derefs (from i) before (behind i) (rest i)) (add_words (ws i ++ us i) s.draft))

    pub slice_stepped : (first listed low : DraftCounts) (shown : PatRow) (mid last : List ℕ) (suffix : ℕ) (r : DraftStep) (after : List ℕ) → first ≡ words_more before c → suffix ≡ parts - 1 - before → HoldsWords table c (take before (drop (24320 + base) table)) before mid → listed ≡ words_more suffix first → HoldsWords mid first (take suffix (drop (24320 + (base + before + 1)) mid)) suffix last → low ≡ height_is base listed → tables.list.count + c.words + (parts - 1) ≤ 2048 → shown ≡ pattern_row 8 t derefs (cond (eqb (parts - 1) 0) 0 (tables.list.count + c.words)) before suffix (get_or table (24320 + (base + before)) 0) → DraftStepped sheet tables last low (row_step shown sheet) r after → DraftStepped sheet tables table c (node_step (slice_made t derefs (some before)) parts sheet) r after
    slice_stepped first listed low shown mid last suffix r after one is held two more second h looks put =
        let ws = take before (drop (24320 + base) table) in
        let us = take suffix (drop (24320 + (base + before + 1)) mid) in
        put_behind tables table size c room sheet whole (slice_made t derefs (some before)) parts
        (pattern_row 8 t derefs (cond (eqb (parts - 1) 0) 0 (tables.list.count + c.words)) before suffix (get_or table (24320 + (base + before)) 0))
        listed low (ws ++ us) last (parts - 1) base r after
        (runs_counts first listed suffix one two is) (both_runs first ws us mid last suffix one is held more) second h (omega arith)
        (slice_same first mid suffix one is held)
        (subst (λ (x : PatRow). DraftStepped sheet tables last low (row_step x sheet) r after) looks put)
