-- What the parser comes to is what a text is read as. Assumes nothing.
use Prim.Native.Nat.{ℕ, ◌≤◌}
use mathlib.Core.Path.{◌≡◌, refl, sym, ap, ◌∙◌}
use mathlib.Core.Bool.{true, false≢true}
use mathlib.Core.List.{List, [], ◌∷◌, ◌++◌}
use lib.ListN.{length}
use borrow.Author.Tests.{le-ltb}
use Rattle.pattern_grammar.specs.Trees.{keyed, short}
use Rattle.pattern_grammar.specs.Machine.{Reading, begin, expect, read_amp, read_ref, read_mut, read_name, read_bound, read_path, read_sep, read_minus, read_literal, read_dots, read_from, read_to, read_to_path, read_alt, read_brace, read_label, read_index, read_field, read_etc, done, failed, feed, fresh}
use Rattle.pattern_grammar.specs.Lexemes.{strictly}
use Rattle.pattern_grammar.specs.Parsed.{lexemes, parsed}
use Rattle.pattern_syntax.specs.Written.{Written, written, Parts, no_parts, more, part_count}
use Rattle.pattern_syntax.specs.Reduced.{reduced}
use Rattle.pattern_syntax.specs.Closing.{ClosedNode, closed_node, closing, closing_parts}
use Rattle.pattern_reading.specs.Reads.{outcome}
use Rattle.parsing_machine.specs.Parser.{read_on}
use Rattle.parsing_machine.specs.Answers.{nodes_are, nodes_from, parsed_nodes, in_order, answer_from, fresh_course}
use Rattle.parsing_machine.proofs.Encoding.{closed_onto, parts_onto, opened_pattern, encode, steady}
use Rattle.parsing_machine.proofs.Simulation.{feed_agrees}

append_assoc : (xs ys zs : List ClosedNode) → ((xs ++ ys) ++ zs) ≡ (xs ++ (ys ++ zs))
append_assoc [] ys zs = refl
append_assoc (x ∷ xs) ys zs = ap (λ r. x ∷ r) (append_assoc xs ys zs)

append_nil : (xs : List ClosedNode) → (xs ++ []) ≡ xs
append_nil [] = refl
append_nil (x ∷ xs) = ap (λ r. x ∷ r) (append_nil xs)

mutual
  unfolding in_order closing closed_onto

  pub in_order_lem : (w : Written) (before : List ClosedNode) → in_order (closed_onto w before) ≡ (in_order before ++ closing w)
  in_order_lem (written at n ps) before =
      ap (λ xs. xs ++ (closed_node at n (part_count ps) ∷ [])) (parts_in_order ps before) ∙ append_assoc (in_order before) (closing_parts ps) (closed_node at n (part_count ps) ∷ [])

  pub parts_in_order : (ps : Parts) (before : List ClosedNode) → in_order (parts_onto ps before) ≡ (in_order before ++ closing_parts ps)
  parts_in_order no_parts before = sym (append_nil (in_order before))
  parts_in_order (more ps w) before =
      in_order_lem w (parts_onto ps before)
      ∙ (ap (λ xs. xs ++ closing w) (parts_in_order ps before) ∙ append_assoc (in_order before) (closing_parts ps) (closing w))

-- a reading's outcome
pub outcome_agrees : (text : List ℕ) (r : Reading) → steady r ≡ true → answer_from (encode text r) ≡ nodes_from text (outcome r)
unfolding answer_from encode nodes_from outcome steady reduced in_order
outcome_agrees text (begin o) e = refl
outcome_agrees text (expect s) e = refl
outcome_agrees text (read_amp a s) e = refl
outcome_agrees text (read_ref i r) e = refl
outcome_agrees text (read_mut i r u) e = refl
outcome_agrees text (read_name n s) e = refl
outcome_agrees text (read_bound b s) e = refl
outcome_agrees text (read_path p c n s) e = refl
outcome_agrees text (read_sep p c i) e = refl
outcome_agrees text (read_minus c i) e = refl
outcome_agrees text (read_literal v s) e = refl
outcome_agrees text (read_dots d l) e = refl
outcome_agrees text (read_from a d l) e = refl
outcome_agrees text (read_to h l) e = refl
outcome_agrees text (read_to_path p h l) e = refl
outcome_agrees text (read_alt c) e = refl
outcome_agrees text (read_brace h fs s) e = refl
outcome_agrees text (read_label n h fs s) e = refl
outcome_agrees text (read_index i h fs s) e = refl
outcome_agrees text (read_field (short b) h fs s) e = refl
outcome_agrees text (read_field (keyed key c p) h fs s) e = absurd (false≢true e)
outcome_agrees text (read_etc d h fs s) e = refl
outcome_agrees text (done p x) e = ap nodes_are (in_order_lem _ [])
outcome_agrees text (failed at) e = refl

-- a text of at most 16,384 bytes
pub parser_answers : (text : List ℕ) → length text ≤ 16384 → answer_from (read_on text (lexemes text) fresh_course) ≡ parsed_nodes text
unfolding parsed_nodes parsed encode steady opened_pattern
parser_answers text h =
    rw (le-ltb 16384 (length text) h)
    (ap answer_from (sym (feed_agrees text (lexemes text) fresh refl).encoded)
    ∙ outcome_agrees text (feed (strictly text) (lexemes text) fresh) (feed_agrees text (lexemes text) fresh refl).steadily)
