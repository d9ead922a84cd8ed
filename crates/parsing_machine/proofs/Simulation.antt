-- The parser goes through a text's tokens as the grammar's machine does, and ends with the nodes of its tree. Assumes nothing.
use Prim.Native.Nat.{ℕ}
use mathlib.Core.Path.{◌≡◌, refl, sym}
use mathlib.Core.Bool.{true, false, cond, false≢true}
use mathlib.Core.Option.{none, some}
use mathlib.Core.List.{List, [], ◌∷◌}
use lib.Dec.{eqb}
use Rattle.pattern_grammar.specs.Lexemes.{Spot, Identifier, Lexeme, name, scalar, mark, lexeme_at, comma_mark, or_mark, close_brace_mark, ref_mark, mut_mark, integer_mark, open_paren_mark, open_brace_mark, bind_mark, colon_mark, path_sep_mark, dot_dot_mark, dot_dot_eq_mark, follows, strictly}
use Rattle.pattern_grammar.specs.Trees.{NamePath, segment, inside, character, negative, constant, place, BoundName, bare_name, single, double, tuple_at, struct_at, slice_at, closer, RecordHead, RecordFields, keyed, short, ident, literal, path, list, record_of, record_to, record_dots}
use Rattle.pattern_grammar.specs.Admitted.{path_at, literal_at, bound_at, is_rest_plain}
use Rattle.pattern_grammar.specs.Machine.{ForPlain, any_alt, behind_amp, ForAlt, first_alt, ForPattern, whole_text, for_item, for_field, RangeHead, up_to_head, from_head, range_of, at_start, at_end, in_pattern, in_record, Reading, begin, expect, read_amp, read_ref, read_mut, read_name, read_bound, read_path, read_sep, read_minus, read_literal, read_dots, read_from, read_to, read_to_path, read_alt, read_brace, read_label, read_index, read_field, read_etc, done, failed, close_alt, close_plain, ends, named_in, path_in, negative_in, behind_path, behind_field, after, on_mark, on_name, on_char, step, feed}
use Rattle.pattern_grammar.specs.Trees.{exclusive}
use Rattle.pattern_syntax.specs.Written.{part_count}
use Rattle.pattern_syntax.specs.Reduced.{is_there, first_place, bound_name_at, path_bytes, key_name, head_at, list_node, bound_in, dots_at, is_exclusive, before_rest, literal_value, written_ident, written_plain, written_items, written_fields, written_field_of}
use Rattle.parsing_machine.specs.Waiting.{pushed, noted, node_kind, innermost_kind, closes, part_more, grown, shut_top}
use Rattle.parsing_machine.specs.Moves.{Move, place_held, minus_move, name_move, scalar_move, mark_move, path_move, field_move}
use Rattle.parsing_machine.specs.Parser.{perform, mutated, stepped, step_course, read_on}
use Rattle.parsing_machine.proofs.Encoding.{closed_onto, parts_onto, parts_noted, opened_plain, opened_alt, opened_pattern, opened_record, opened_range, opened_bound, opened_name, path_held, encode, steady}
use Rattle.parsing_machine.proofs.Settling.{settle_plain, calm, calm_plain}
use Rattle.parsing_machine.proofs.Agreeing.{Agrees, plainly, AgreesBy, by, branch, halted, halts_by, fitted, plain_kind, shut_plain, settle_range, calm_range, shut_range, ranged_agrees, start_agrees, bounds_agree}
use Rattle.parsing_machine.proofs.Rests.{rest_agrees, after_agrees, open_range_agrees}

-- a name behind `ref` and `mut`: no record waits where a pattern begins
plain_no_record : (text : List ℕ) (s : ForPlain) → eqb (innermost_kind (opened_plain text s).waiting) 12 ≡ false
plain_no_record text s = plain_kind text s 12 refl refl refl refl refl refl refl refl

plain_no_range : (text : List ℕ) (s : ForPlain) → eqb (innermost_kind (opened_plain text s).waiting) 5 ≡ false
plain_no_range text s = plain_kind text s 5 refl refl refl refl refl refl refl refl

range_kind : (text : List ℕ) (h : RangeHead) (l : ForAlt) → eqb (innermost_kind (opened_range text h l).waiting) 5 ≡ true
unfolding opened_range pushed innermost_kind node_kind
range_kind text (up_to_head d) l = refl
range_kind text (from_head a d) l = refl

-- a part closes before the mark
before_plain :
    (text : List ℕ) (s : ForPlain) (w : Rattle.pattern_grammar.specs.Trees.WithoutRange) (m : ℕ) (q : Spot) → is_rest_plain w ≡ false
    → Agrees text (after (strictly text) (close_plain w s) m q)
    (Rattle.parsing_machine.specs.Parser.behind_alt m q.from
    (Rattle.parsing_machine.specs.Waiting.settle (opened_plain text s).waiting (closed_onto (written_plain text w) (opened_plain text s).closed)))
before_plain text s w m q e = rw (settle_plain text s w) (after_agrees text (close_plain w s) m q (calm_plain s w e))

before_range :
    (text : List ℕ) (h : RangeHead) (l : ForAlt) (p : NamePath) (m : ℕ) (q : Spot)
    → Agrees text (after (strictly text) (close_alt (range_of h (place p)) l) m q)
    (Rattle.parsing_machine.specs.Parser.behind_alt m q.from
    (shut_top (grown (opened_range text h l).waiting) (closed_onto (Rattle.pattern_syntax.specs.Reduced.written_bound text (place p)) (opened_range text h l).closed)))
before_range text h l p m q = rw (settle_range text h l (place p)) (after_agrees text (close_alt (range_of h (place p)) l) m q (calm_range h l (place p)))

-- a mark behind a path with which a pattern begins
path_agrees :
    (text : List ℕ) (p : NamePath) (s : ForPlain) (m : ℕ) (q : Spot)
    → AgreesBy text (behind_path p s m q) (path_move (path_held text p) (innermost_kind (opened_plain text s).waiting) m q) m q.from (opened_plain text s)
unfolding behind_path path_move perform encode steady opened_bound opened_pattern opened_record opened_range pushed noted parts_noted parts_onto head_at list_node before_rest written_items written_fields part_count bound_at bound_in is_exclusive
path_agrees text p s m q =
    branch (eqb m path_sep_mark) (by (plainly refl refl))
    (branch (eqb m open_paren_mark) (by (plainly refl refl))
    (branch (eqb m open_brace_mark) (by (plainly refl refl))
    (branch (eqb m dot_dot_mark) (ranged_agrees text s q _ _ m q.from (λ l. by (plainly refl refl)))
    (branch (eqb m dot_dot_eq_mark) (ranged_agrees text s q _ _ m q.from (λ l. by (plainly refl refl)))
    halts_by))))

-- a mark behind a field that is a name alone
field_agrees :
    (text : List ℕ) (b : BoundName) (h : RecordHead) (fs : RecordFields) (s : ForPlain) (m : ℕ) (q : Spot)
    → AgreesBy text (behind_field (short b) h fs s m q) (field_move (Rattle.parsing_machine.proofs.Encoding.ident_held text b) m q) m q.from (opened_record text h fs s)
unfolding behind_field field_move perform encode steady opened_record pushed parts_noted parts_onto closed_onto written_fields written_field_of written_ident written_plain part_count grown part_more shut_top is_rest_plain
field_agrees text b h fs s m q =
    branch (eqb m comma_mark) (by (plainly refl refl))
    (branch (eqb m close_brace_mark) (by (shut_plain text s (record_to h fs (short b) q) refl))
    halts_by)

-- a closing mark where a pattern may begin
ends_agree :
    (text : List ℕ) (o : ForPattern) (m : ℕ) (q : Spot)
    → AgreesBy text (ends o m q) (cond (closes (innermost_kind (opened_pattern text o).waiting) m) Move.shuts_top (Move.halts q.from)) m q.from (opened_pattern text o)
unfolding ends closes closer opened_pattern pushed parts_noted innermost_kind node_kind list_node perform shut_top written_plain closed_onto is_rest_plain head_at
ends_agree text whole_text m q = halts_by
ends_agree text (for_item (tuple_at c) is s) m q = branch (eqb m _) (by (shut_plain text s (list (tuple_at c) is q) refl)) halts_by
ends_agree text (for_item (struct_at p c) is s) m q = branch (eqb m _) (by (shut_plain text s (list (struct_at p c) is q) refl)) halts_by
ends_agree text (for_item (slice_at c) is s) m q = branch (eqb m _) (by (shut_plain text s (list (slice_at c) is q) refl)) halts_by
ends_agree text (for_field h fs key c s) m q = halts_by

-- an integer behind a minus
minus_start :
    (text : List ℕ) (c : Spot) (s : ForPlain) (m : ℕ) (q : Spot)
    → AgreesBy text (read_literal (negative c q) s) (minus_move text (place_held c.from) (innermost_kind (opened_plain text s).waiting) q) m q.from (opened_plain text s)
unfolding perform encode steady literal_at literal_value
minus_start text c s m q = rw (plain_no_range text s) (by (plainly refl refl))

minus_end :
    (text : List ℕ) (c : Spot) (h : RangeHead) (l : ForAlt) (m : ℕ) (q : Spot)
    → AgreesBy text (read_alt (close_alt (range_of h (constant (negative c q))) l)) (minus_move text (place_held c.from) (innermost_kind (opened_range text h l).waiting) q) m q.from (opened_range text h l)
unfolding perform closed_onto parts_onto part_count bound_at bound_in literal_at literal_value
minus_end text c h l m q = rw (range_kind text h l) (by (shut_range text h l (constant (negative c q))))

-- a mark
mark_agrees :
    (text : List ℕ) (r : Reading) (m : ℕ) (q : Spot) → steady r ≡ true
    → Agrees text (on_mark (strictly text) r m q) (step_course text (encode text r) (mark m q))
unfolding on_mark step_course stepped mark_move encode steady perform opened_plain opened_alt opened_pattern opened_record opened_range opened_bound opened_name pushed noted parts_noted parts_onto mutated is_there first_place bound_name_at key_name negative_in closed_onto part_count written_ident written_plain is_rest_plain literal_at literal_value bound_in bound_at path_at path_bytes is_exclusive dots_at shut_top calm lexeme_at
mark_agrees text (begin o) m q e =
    (branch (eqb m or_mark) (by (plainly refl refl))
    (branch (follows m) (ends_agree text o m q)
    (start_agrees text (any_alt (first_alt none o)) m q))).agrees
mark_agrees text (expect s) m q e = (start_agrees text s m q).agrees
mark_agrees text (read_amp (single a) s) m q e =
    (branch (eqb m mut_mark) (by (plainly refl refl)) (start_agrees text (behind_amp (single a) none s) m q)).agrees
mark_agrees text (read_amp (double a) s) m q e =
    (branch (eqb m mut_mark) (by (plainly refl refl)) (start_agrees text (behind_amp (double a) none s) m q)).agrees
mark_agrees text (read_ref i r) m q e = (branch (eqb m mut_mark) (by (plainly refl refl)) halts_by).agrees
mark_agrees text (read_mut i r u) m q e = halted
mark_agrees text (read_name n s) m q e =
    (branch (follows m) (by (before_plain text s (ident (bare_name n)) m q refl))
    (branch (eqb m bind_mark) (by (plainly refl refl))
    (path_agrees text (segment n) s m q))).agrees
mark_agrees text (read_bound b s) m q e =
    (branch (follows m) (by (before_plain text s (ident b) m q refl))
    (branch (eqb m bind_mark) (by (plainly refl refl))
    halts_by)).agrees
mark_agrees text (read_path p c n s) m q e =
    (branch (follows m) (by (before_plain text s (path p c n) m q refl)) (path_agrees text (inside p c n) s m q)).agrees
mark_agrees text (read_sep p c i) m q e = halted
mark_agrees text (read_minus c (at_start s)) m q e =
    (branch (eqb m integer_mark) (fitted true q (minus_start text c s m q)) halts_by).agrees
mark_agrees text (read_minus c (at_end h l)) m q e =
    (branch (eqb m integer_mark) (fitted true q (minus_end text c h l m q)) halts_by).agrees
mark_agrees text (read_literal v s) m q e =
    (branch (follows m) (by (before_plain text s (literal v) m q refl))
    (branch (eqb m dot_dot_mark) (ranged_agrees text s q _ _ m q.from (λ l. by (plainly refl refl)))
    (branch (eqb m dot_dot_eq_mark) (ranged_agrees text s q _ _ m q.from (λ l. by (plainly refl refl)))
    halts_by))).agrees
mark_agrees text (read_dots d l) m q e = (bounds_agree text (up_to_head (exclusive d)) l m q _ _ (by (rest_agrees text d l m q))).agrees
mark_agrees text (read_from a d l) m q e =
    (bounds_agree text (from_head a (exclusive d)) l m q _ _ (branch (follows m) (by (open_range_agrees text a d l m q)) halts_by)).agrees
mark_agrees text (read_to h l) m q e = (bounds_agree text h l m q _ _ halts_by).agrees
mark_agrees text (read_to_path p h l) m q e =
    (branch (follows m) (by (before_range text h l p m q))
    (branch (eqb m path_sep_mark) (by (plainly refl refl))
    halts_by)).agrees
mark_agrees text (read_alt c) m q e = after_agrees text c m q e
mark_agrees text (read_brace h fs s) m q e =
    (branch (eqb m close_brace_mark) (by (shut_plain text s (record_of h fs q) refl))
    (branch (eqb m dot_dot_mark) (by (plainly refl refl))
    (branch (eqb m integer_mark) (fitted false q (by (plainly refl refl)))
    (branch (eqb m ref_mark) (by (plainly refl refl))
    (branch (eqb m mut_mark) (by (plainly refl refl))
    halts_by))))).agrees
mark_agrees text (read_label n h fs s) m q e =
    (branch (eqb m colon_mark) (by (plainly refl refl)) (field_agrees text (bare_name n) h fs s m q)).agrees
mark_agrees text (read_index i h fs s) m q e = (branch (eqb m colon_mark) (by (plainly refl refl)) halts_by).agrees
mark_agrees text (read_field (short b) h fs s) m q e = (field_agrees text b h fs s m q).agrees
mark_agrees text (read_field (keyed key c p) h fs s) m q e = absurd (false≢true e)
mark_agrees text (read_etc d h fs s) m q e =
    (branch (eqb m close_brace_mark) (by (shut_plain text s (record_dots h fs d q) refl)) halts_by).agrees
mark_agrees text (done p x) m q e = halted
mark_agrees text (failed at) m q e = halted

-- a name
name_agrees :
    (text : List ℕ) (r : Reading) (n : Identifier) → steady r ≡ true → Agrees text (on_name r n) (step_course text (encode text r) (name n))
unfolding on_name step_course stepped name_move encode steady perform opened_plain opened_alt opened_range opened_bound opened_name opened_record named_in path_in is_there first_place bound_name_at path_bytes path_at lexeme_at pushed innermost_kind node_kind
name_agrees text (begin o) n e = plainly refl refl
name_agrees text (expect s) n e = plainly refl refl
name_agrees text (read_amp a s) n e = plainly refl refl
name_agrees text (read_ref (in_pattern s) r) n e = rw (plain_no_record text s) (plainly refl refl)
name_agrees text (read_ref (in_record h fs s) r) n e = plainly refl refl
name_agrees text (read_mut (in_pattern s) none u) n e = rw (plain_no_record text s) (plainly refl refl)
name_agrees text (read_mut (in_pattern s) (some r) u) n e = rw (plain_no_record text s) (plainly refl refl)
name_agrees text (read_mut (in_record h fs s) none u) n e = plainly refl refl
name_agrees text (read_mut (in_record h fs s) (some r) u) n e = plainly refl refl
name_agrees text (read_name x s) n e = halted
name_agrees text (read_bound b s) n e = halted
name_agrees text (read_path p c x s) n e = halted
name_agrees text (read_sep p c (at_start s)) n e = rw (plain_no_range text s) (plainly refl refl)
name_agrees text (read_sep p c (at_end h l)) n e = rw (range_kind text h l) (plainly refl refl)
name_agrees text (read_minus c i) n e = halted
name_agrees text (read_literal v s) n e = halted
name_agrees text (read_dots d l) n e = plainly refl refl
name_agrees text (read_from a d l) n e = plainly refl refl
name_agrees text (read_to h l) n e = plainly refl refl
name_agrees text (read_to_path p h l) n e = halted
name_agrees text (read_alt c) n e = halted
name_agrees text (read_brace h fs s) n e = plainly refl refl
name_agrees text (read_label x h fs s) n e = halted
name_agrees text (read_index i h fs s) n e = halted
name_agrees text (read_field (short b) h fs s) n e = halted
name_agrees text (read_field (keyed key c p) h fs s) n e = absurd (false≢true e)
name_agrees text (read_etc d h fs s) n e = halted
name_agrees text (done p x) n e = halted
name_agrees text (failed at) n e = halted

-- a char
scalar_agrees :
    (text : List ℕ) (r : Reading) (v : ℕ) (q : Spot) → steady r ≡ true → Agrees text (on_char r v q) (step_course text (encode text r) (scalar v q))
unfolding on_char step_course stepped scalar_move encode steady perform opened_plain opened_alt literal_at literal_value closed_onto parts_onto part_count bound_at bound_in lexeme_at range_of
scalar_agrees text (begin o) v q e = plainly refl refl
scalar_agrees text (expect s) v q e = plainly refl refl
scalar_agrees text (read_amp a s) v q e = plainly refl refl
scalar_agrees text (read_ref i r) v q e = halted
scalar_agrees text (read_mut i r u) v q e = halted
scalar_agrees text (read_name n s) v q e = halted
scalar_agrees text (read_bound b s) v q e = halted
scalar_agrees text (read_path p c n s) v q e = halted
scalar_agrees text (read_sep p c i) v q e = halted
scalar_agrees text (read_minus c i) v q e = halted
scalar_agrees text (read_literal l s) v q e = halted
scalar_agrees text (read_dots d l) v q e = shut_range text (up_to_head (exclusive d)) l (constant (character v q))
scalar_agrees text (read_from a d l) v q e = shut_range text (from_head a (exclusive d)) l (constant (character v q))
scalar_agrees text (read_to h l) v q e = shut_range text h l (constant (character v q))
scalar_agrees text (read_to_path p h l) v q e = halted
scalar_agrees text (read_alt c) v q e = halted
scalar_agrees text (read_brace h fs s) v q e = halted
scalar_agrees text (read_label n h fs s) v q e = halted
scalar_agrees text (read_index i h fs s) v q e = halted
scalar_agrees text (read_field (short b) h fs s) v q e = halted
scalar_agrees text (read_field (keyed key c p) h fs s) v q e = absurd (false≢true e)
scalar_agrees text (read_etc d h fs s) v q e = halted
scalar_agrees text (done p x) v q e = halted
scalar_agrees text (failed at) v q e = halted

-- a token
pub step_agrees :
    (text : List ℕ) (r : Reading) (t : Lexeme) → steady r ≡ true → Agrees text (step (strictly text) r t) (step_course text (encode text r) t)
unfolding step
step_agrees text r (name n) e = name_agrees text r n e
step_agrees text r (scalar v q) e = scalar_agrees text r v q e
step_agrees text r (mark m q) e = mark_agrees text r m q e

-- all of them
pub feed_agrees :
    (text : List ℕ) (ts : List Lexeme) (r : Reading) → steady r ≡ true → Agrees text (feed (strictly text) ts r) (read_on text ts (encode text r))
unfolding feed read_on
feed_agrees text [] r e = plainly refl e
feed_agrees text (t ∷ ts) r e =
    rw (sym (step_agrees text r t e).encoded) (feed_agrees text ts (step (strictly text) r t) (step_agrees text r t e).steadily)
