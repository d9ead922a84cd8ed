-- Nodes whose parts' words are taken from the stack: the row or the words that take their place. Assumes nothing.
use Prim.Native.Nat.{ℕ, suc, ◌+◌, ◌-◌, ◌*◌, ◌≤◌, ◌<◌}
use mathlib.Core.Path.{◌≡◌, refl, sym, ap, subst, ◌∙◌}
use mathlib.Core.Bool.{Bool, cond}
use mathlib.Core.Logic.{⊎_elim}
use mathlib.Core.List.{List, [], ◌∷◌, ◌++◌}
use native.Mathlib.Nat.{add-zero, eq-zero-or-pos}
use native.Mathlib.Omega.{arith}
use borrow.Author.Tests.{eq-eqb, ne_eqb}
use lib.Dec.{eqb}
use lib.ListN.{length, get_or, take, drop, drop_of_length-le}
use lib.Seq.{drop-cons, get_or-take, get_or-drop}
use Rattle.image.specs.declared.Tables.{Tables}
use Rattle.image.specs.Rules.{absent}
use Rattle.pattern_typing.specs.Making.{Making, operand_named, reference_made, field_made, pattern_row}
use Rattle.pattern_typing.specs.Closed.{closed_making}
use Rattle.pattern_images.specs.Emitting.{with_pattern, emit_node}
use Rattle.pattern_images.specs.Imaging.{derefs_within}
use Rattle.draft_stack.specs.Stack.{Stacked, words_each, words_taken, stacked_on, emit_one}
use Rattle.draft_tables.specs.declared.DraftCounts.{DraftCounts}
use Rattle.draft_tables.specs.Results.{DraftStep}
use Rattle.draft_tables.specs.Layout.{stacked_in, WithinDraft, height_is, raised, HoldsStack}
use Rattle.draft_tables.specs.Room.{DraftRoom}
use Rattle.draft_tables.specs.Steps.{DraftHeld, DraftStepped}
use Rattle.draft_tables.proofs.Counted.{room_within, default_free, stack_length}
use Rattle.draft_tables.proofs.Chaining.{step_same, step_then}
use Rattle.draft_rows.specs.Nodes.{row_step, node_step}
use Rattle.draft_rows.proofs.Lowering.{cut_to, lowered}

module _ (tables : Tables) (table : List ℕ) (size : length table ≡ 40704) (c : DraftCounts) (room : DraftRoom tables c) (parts : ℕ) (enough : parts ≤ c.height) where
  within : WithinDraft c
  within = room_within tables c room

  abbrev base : ℕ
  base = c.height - parts

  pub low_room : (low : DraftCounts) → low ≡ height_is base c → DraftRoom tables low
  low_room low e =
      subst (DraftRoom tables) (sym e) (record { types = room.types; patterns = room.patterns; bindings = room.bindings; words = room.words; bytes = room.bytes; height = omega (arith, room.height) })

  pub low_within : (low : DraftCounts) (many : ℕ) → low ≡ height_is base c → base + many ≤ 16384 → WithinDraft low × (low.height + many ≤ 16384)
  low_within low many e fits = (room_within tables low (low_room low e), subst (λ (d : DraftCounts). d.height + many ≤ 16384) (sym e) fits)

  pub cut_only : (low : DraftCounts) → low ≡ height_is base c → DraftHeld tables table c (λ names s. cut_to base s) low table
  unfolding stacked_in
  cut_only low e =
      record { room = low_room low e; holds = all; derefs = λ kept names. ap (λ (s : Stacked). derefs_within s.draft.patterns) (all names) ∙ kept names }
    where
      all : (names : List ℕ) → stacked_in names table low ≡ cut_to base (stacked_in names table c)
      all names = ap (stacked_in names table) e ∙ lowered names table c base (omega arith)

  -- words that take the place of the parts'
  pub words_held : (sheet : List ℕ) (making : Making) (low counts : DraftCounts) (ws after : List ℕ) (many : ℕ) → low ≡ height_is base c → counts ≡ height_is (low.height + many) low → base + many ≤ 16384 → HoldsStack table low ws many after → ((names : List ℕ) → raised ws (cut_to base (stacked_in names table c)) ≡ node_step making parts sheet names (stacked_in names table c)) → DraftHeld tables table c (node_step making parts sheet) counts after
  words_held sheet making low counts ws after many e f fits held same =
      record {
        room = subst (DraftRoom tables) (sym (f ∙ ap (λ (d : DraftCounts). height_is (d.height + many) d) e)) (record { types = room.types; patterns = room.patterns; bindings = room.bindings; words = room.words; bytes = room.bytes; height = fits });
        holds = λ names. raise names ∙ same names;
        derefs = λ kept names. ap (λ (s : Stacked). derefs_within s.draft.patterns) (raise names) ∙ kept names;
      }
    where
      raise : (names : List ℕ) → stacked_in names after counts ≡ raised ws (cut_to base (stacked_in names table c))
      raise names = ap (stacked_in names after) f ∙ held names ∙ ap (raised ws) ((cut_only low e).holds names)

  -- where the stack is cut
  module _ (making : Making) (one : words_each making ≡ 1) where
    pub cut_at : (names : List ℕ) → base ≡ length (stacked_in names table c).stack - words_taken (closed_making making parts)
    unfolding words_taken
    cut_at names = omega (arith, stack_length names table c size within, ap (λ (k : ℕ). k * parts) one)

  -- a word of the parts
  pub word_is : (names : List ℕ) (i : ℕ) → i < parts → get_or table (24320 + (base + i)) 0 ≡ get_or (drop base (stacked_in names table c).stack) i absent
  unfolding stacked_in
  word_is names i h =
      default_free table (24320 + (base + i)) 0 absent (omega (arith, within.height))
      ∙ sym (get_or-drop 24320 table (base + i) absent)
      ∙ sym (get_or-take c.height (drop 24320 table) (base + i) absent (omega arith))
      ∙ sym (get_or-drop base (take c.height (drop 24320 table)) i absent)

  -- the first of them, or none
  pub first_is : (names : List ℕ) → cond (eqb parts 0) 65535 (get_or table (24320 + base) 0) ≡ get_or (drop base (stacked_in names table c).stack) 0 absent
  first_is names = ⊎_elim empty some (eq-zero-or-pos parts)
    where
      empty : parts ≡ 0 → cond (eqb parts 0) 65535 (get_or table (24320 + base) 0) ≡ get_or (drop base (stacked_in names table c).stack) 0 absent
      empty z =
          ap (λ (b : Bool). cond b 65535 (get_or table (24320 + base) 0)) (eq-eqb parts 0 z)
          ∙ sym (ap (λ (l : List ℕ). get_or l 0 absent) (drop_of_length-le (stacked_in names table c).stack {i = base} (omega (arith, stack_length names table c size within))))

      some : 0 < parts → cond (eqb parts 0) 65535 (get_or table (24320 + base) 0) ≡ get_or (drop base (stacked_in names table c).stack) 0 absent
      some h =
          ap (λ (b : Bool). cond b 65535 (get_or table (24320 + base) 0)) (ne_eqb parts 0 (λ (z : parts ≡ 0). omega (arith, h)))
          ∙ sym (ap (λ (k : ℕ). get_or table (24320 + k) 0) (add-zero base))
          ∙ word_is names 0 h

  module _ (sheet : List ℕ) where
    -- `put_reference`
    reference_same : (t word : ℕ) → word ≡ cond (eqb parts 0) 65535 (get_or table (24320 + base) 0) → (names : List ℕ) → row_step (pattern_row 13 t 0 word 0 0 0) sheet names (cut_to base (stacked_in names table c)) ≡ node_step (reference_made t) parts sheet names (stacked_in names table c)
    unfolding emit_one emit_node
    reference_same t word w names =
        let s = stacked_in names table c in
        let at = cut_at (reference_made t) (unfold words_each in refl) names in
        let first = w ∙ first_is names ∙ ap (λ (k : ℕ). get_or (drop k s.stack) 0 absent) at in
        λ i. stacked_on (take (at i) s.stack) (with_pattern sheet (pattern_row 13 t 0 (first i) 0 0 0) s.draft)

    pub reference_stepped : (t : ℕ) (low : DraftCounts) (word : ℕ) (r : DraftStep) (after : List ℕ) → low ≡ height_is base c → word ≡ cond (eqb parts 0) 65535 (get_or table (24320 + base) 0) → DraftStepped sheet tables table low (row_step (pattern_row 13 t 0 word 0 0 0) sheet) r after → DraftStepped sheet tables table c (node_step (reference_made t) parts sheet) r after
    reference_stepped t low word r after e w put =
        step_same sheet tables table c (λ names s. row_step (pattern_row 13 t 0 word 0 0 0) sheet names (cut_to base s)) (node_step (reference_made t) parts sheet) r after (reference_same t word w)
        (step_then sheet tables table c (λ names s. cut_to base s) (row_step (pattern_row 13 t 0 word 0 0 0) sheet) low table r after (cut_only low e) put)

    -- `put_constant`
    pub constant_same : (o : ℕ) (names : List ℕ) → raised (o ∷ []) (cut_to base (stacked_in names table c)) ≡ node_step (operand_named o) parts sheet names (stacked_in names table c)
    unfolding emit_one emit_node
    constant_same o names = let at = cut_at (operand_named o) (unfold words_each in refl) names in λ i. record { stack = take (at i) (stacked_in names table c).stack ++ (o ∷ []); draft = (stacked_in names table c).draft }

    -- `put_field`
    pub field_same : (number word : ℕ) → parts ≡ 1 → word ≡ get_or table (24320 + base) 0 → (names : List ℕ) → raised (number ∷ word ∷ []) (cut_to base (stacked_in names table c)) ≡ node_step (field_made number) parts sheet names (stacked_in names table c)
    unfolding emit_one emit_node
    field_same number word e w names =
        let l = (stacked_in names table c).stack in
        let at = cut_at (field_made number) (unfold words_each in refl) names in
        let height = stack_length names table c size within in
        let own : word ≡ get_or (drop base l) 0 absent = w ∙ sym (ap (λ (k : ℕ). get_or table (24320 + k) 0) (add-zero base)) ∙ word_is names 0 (omega arith) in
        let single : word ∷ [] ≡ drop base l = ap (λ (k : ℕ). k ∷ []) (own ∙ get_or-drop base l 0 absent ∙ ap (λ (k : ℕ). get_or l k absent) (add-zero base)) ∙ sym (drop-cons l base absent (omega arith) ∙ ap (λ (m : List ℕ). get_or l base absent ∷ m) (drop_of_length-le l {i = suc base} (omega arith))) in
        let words = single ∙ ap (λ (k : ℕ). drop k l) at in
        λ i. record { stack = take (at i) l ++ (number ∷ words i); draft = (stacked_in names table c).draft }
