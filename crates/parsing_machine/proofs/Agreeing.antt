-- The parser's moves agree with what the grammar's machine does, where a pattern begins and where a part of it closes. Assumes nothing.
use Prim.Native.Nat.{ℕ}
use mathlib.Core.Path.{◌≡◌, refl, sym, ap}
use mathlib.Core.Bool.{Bool, true, false, cond}
use mathlib.Core.Option.{none, some}
use mathlib.Core.List.{List, []}
use lib.Dec.{eqb}
use Rattle.pattern_grammar.specs.Lexemes.{Spot, ref_mark, mut_mark, true_mark, false_mark, underscore_mark, integer_mark, minus_mark, open_paren_mark, open_bracket_mark, and_mark, and_and_mark, dot_dot_mark, dot_dot_eq_mark, strictly, wide}
use Rattle.pattern_grammar.specs.Trees.{RangeBound, constant, true_at, false_at, whole, single, double, tuple_at, struct_at, slice_at, between, up_to, WithoutRange, wild}
use Rattle.pattern_grammar.specs.Admitted.{is_rest_plain, upward_at, is_rest_alt, literal_at, bound_at}
use Rattle.pattern_grammar.specs.Machine.{ForPlain, any_alt, behind_amp, ForAlt, first_alt, next_alt, behind_at, whole_text, for_item, for_field, RangeHead, up_to_head, from_head, range_of, Reading, read_alt, failed, close_alt, close_plain, ranged, dots_in, fitting, starts, bounds}
use Rattle.pattern_syntax.specs.Written.{part_count}
use Rattle.pattern_syntax.specs.Reduced.{is_there, first_place, list_node, head_at, literal_value, bound_in, written_alt, written_bound, dots_at, is_exclusive, written_plain, before_rest, written_items}
use Rattle.parsing_machine.specs.declared.ReadState.TheVariants.{AtDots}
use Rattle.parsing_machine.specs.Waiting.{Opened, pushed, noted, node_kind, innermost_kind, part_more, grown, settle, shut_top}
use Rattle.parsing_machine.specs.Moves.{Move, halts, opens, range_to, fit_move, ranged_move, start_move, bound_move}
use Rattle.parsing_machine.specs.Parser.{Course, halted_at, alt_read, perform}
use Rattle.parsing_machine.proofs.Encoding.{closed_onto, parts_onto, parts_noted, opened_plain, opened_alt, opened_pattern, opened_range, opened_behind, opened_bound, opened_name, encode, steady}
use Rattle.parsing_machine.proofs.Settling.{settle_alt, settle_plain, calm, calm_alt, calm_plain}

-- a reading, and the parser's course
pub record Agrees (text : List ℕ) (r : Reading) (c : Course) : Type 0 where
  pub encoded : encode text r ≡ c
  pub steadily : steady r ≡ true

abbrev pub plainly : {text : List ℕ} {r : Reading} {c : Course} → encode text r ≡ c → steady r ≡ true → Agrees text r c
plainly e f = record { encoded = e; steadily = f }

-- a reading, and the course behind a move
pub record AgreesBy (text : List ℕ) (r : Reading) (move : Move) (m at : ℕ) (o : Opened) : Type 0 where
  pub agrees : Agrees text r (perform move m at o)

abbrev pub by : {text : List ℕ} {r : Reading} {move : Move} {m at : ℕ} {o : Opened} → Agrees text r (perform move m at o) → AgreesBy text r move m at o
by h = record { agrees = h }

pub branch :
    {text : List ℕ} {x y : Reading} {v w : Move} {m at : ℕ} {o : Opened} (b : Bool)
    → AgreesBy text x v m at o → AgreesBy text y w m at o → AgreesBy text (cond b x y) (cond b v w) m at o
branch true h g = h
branch false h g = g

pub either :
    {text : List ℕ} {x y : Reading} {c d : Course} (b : Bool) → Agrees text x c → Agrees text y d → Agrees text (cond b x y) (cond b c d)
either true h g = h
either false h g = g

pub halted : {text : List ℕ} {at : ℕ} → Agrees text (failed at) (halted_at at)
unfolding encode steady
halted = plainly refl refl

pub halts_by : {text : List ℕ} {place m at : ℕ} {o : Opened} → AgreesBy text (failed place) (halts place) m at o
unfolding perform
halts_by = by halted

pub fitted :
    {text : List ℕ} {go : Reading} {move : Move} {m at : ℕ} {o : Opened} (minus : Bool) (q : Spot)
    → AgreesBy text go move m at o → AgreesBy text (fitting (strictly text) minus q go) (fit_move text minus q move) m at o
unfolding fitting fit_move
fitted {text} minus q h = branch (wide (strictly text) minus q) halts_by h

-- behind `&` alone waits a reference, and a range nowhere
pub alt_kind : (text : List ℕ) (l : ForAlt) (k : ℕ) → eqb 15 k ≡ false → eqb 14 k ≡ false → eqb 13 k ≡ false → eqb 11 k ≡ false → eqb 10 k ≡ false → eqb 9 k ≡ false → eqb 7 k ≡ false → eqb (innermost_kind (opened_alt text l).waiting) k ≡ false
unfolding opened_alt opened_pattern pushed innermost_kind node_kind list_node
alt_kind text (first_alt none whole_text) k a b c d e f g = a
alt_kind text (first_alt none (for_item (tuple_at q) is s)) k a b c d e f g = f
alt_kind text (first_alt none (for_item (struct_at p q) is s)) k a b c d e f g = e
alt_kind text (first_alt none (for_item (slice_at q) is s)) k a b c d e f g = d
alt_kind text (first_alt none (for_field h fs key c s)) k a b c' d e f g = c'
alt_kind text (first_alt (some q) o) k a b c d e f g = b
alt_kind text (next_alt p c o) k a b c' d e f g = b
alt_kind text (behind_at n c s) k a b c' d e f g = g

pub plain_kind : (text : List ℕ) (s : ForPlain) (k : ℕ) → eqb 15 k ≡ false → eqb 14 k ≡ false → eqb 13 k ≡ false → eqb 11 k ≡ false → eqb 10 k ≡ false → eqb 9 k ≡ false → eqb 8 k ≡ false → eqb 7 k ≡ false → eqb (innermost_kind (opened_plain text s).waiting) k ≡ false
unfolding opened_plain pushed innermost_kind node_kind
plain_kind text (any_alt l) k a b c d e f h g = alt_kind text l k a b c d e f g
plain_kind text (behind_amp (single q) m s) k a b c d e f h g = h
plain_kind text (behind_amp (double q) m s) k a b c d e f h g = h

-- a part of a pattern closes
pub shut_plain :
    (text : List ℕ) (s : ForPlain) (w : WithoutRange) → is_rest_plain w ≡ false
    → Agrees text (read_alt (close_plain w s)) (alt_read (settle (opened_plain text s).waiting (closed_onto (written_plain text w) (opened_plain text s).closed)))
unfolding encode steady calm
shut_plain text s w e = plainly (ap alt_read (sym (settle_plain text s w))) (calm_plain s w e)

-- a range with its upper bound
pub settle_range :
    (text : List ℕ) (h : RangeHead) (l : ForAlt) (b : RangeBound)
    → shut_top (grown (opened_range text h l).waiting) (closed_onto (written_bound text b) (opened_range text h l).closed)
    ≡ opened_behind text (close_alt (range_of h b) l).pattern (close_alt (range_of h b) l).waiting
unfolding opened_range pushed noted shut_top grown part_more range_of written_alt closed_onto part_count
settle_range text (up_to_head d) l b = settle_alt text l (up_to d b)
settle_range text (from_head a d) l b = settle_alt text l (between a d b)

pub calm_range : (h : RangeHead) (l : ForAlt) (b : RangeBound) → calm (close_alt (range_of h b) l) ≡ true
unfolding range_of is_rest_alt upward_at
calm_range (up_to_head d) l b = calm_alt l (up_to d b) refl refl
calm_range (from_head a d) l b = calm_alt l (between a d b) refl refl

pub shut_range :
    (text : List ℕ) (h : RangeHead) (l : ForAlt) (b : RangeBound)
    → Agrees text (read_alt (close_alt (range_of h b) l)) (alt_read (shut_top (grown (opened_range text h l).waiting) (closed_onto (written_bound text b) (opened_range text h l).closed)))
unfolding encode steady calm
shut_range text h l b = plainly (ap alt_read (sym (settle_range text h l b))) (calm_range h l b)

-- a range goes on, or fails behind `&`
pub ranged_agrees :
    (text : List ℕ) (s : ForPlain) (q : Spot) (go : ForAlt → Reading) (move : Move) (m at : ℕ)
    → ((l : ForAlt) → AgreesBy text (go l) move m at (opened_alt text l))
    → AgreesBy text (ranged s q go) (ranged_move (innermost_kind (opened_plain text s).waiting) q move) m at (opened_plain text s)
unfolding ranged ranged_move perform opened_plain pushed innermost_kind node_kind
ranged_agrees text (any_alt l) q go move m at h = rw (alt_kind text l 8 refl refl refl refl refl refl refl) (h l)
ranged_agrees text (behind_amp (single p) n s) q go move m at h = halts_by
ranged_agrees text (behind_amp (double p) n s) q go move m at h = halts_by

pub dots_agree :
    (text : List ℕ) (s : ForPlain) (q : Spot) (m at : ℕ)
    → AgreesBy text (dots_in (strictly text) s q)
    (ranged_move (innermost_kind (opened_plain text s).waiting) q (opens AtDots (range_to q.from true))) m at (opened_plain text s)
unfolding dots_in ranged_move perform opened_plain opened_range pushed innermost_kind node_kind encode steady dots_at is_exclusive
dots_agree text (any_alt l) q m at = rw (alt_kind text l 8 refl refl refl refl refl refl refl) (by (plainly refl refl))
dots_agree text (behind_amp (single p) n s) q m at = halts_by
dots_agree text (behind_amp (double p) n s) q m at = halts_by

-- a mark with which a pattern begins
pub start_agrees :
    (text : List ℕ) (s : ForPlain) (m : ℕ) (q : Spot)
    → AgreesBy text (starts (strictly text) s m q) (start_move text (innermost_kind (opened_plain text s).waiting) m q) m q.from (opened_plain text s)
unfolding starts start_move perform encode steady opened_plain opened_pattern opened_name opened_bound opened_range pushed parts_noted parts_onto closed_onto is_there head_at list_node literal_at literal_value written_plain is_rest_plain part_count dots_at is_exclusive before_rest written_items first_place
start_agrees text s m q =
    branch (eqb m ref_mark) (by (plainly refl refl))
    (branch (eqb m mut_mark) (by (plainly refl refl))
    (branch (eqb m true_mark) (by (plainly refl refl))
    (branch (eqb m false_mark) (by (plainly refl refl))
    (branch (eqb m underscore_mark) (by (shut_plain text s (wild q) refl))
    (branch (eqb m integer_mark) (fitted false q (by (plainly refl refl)))
    (branch (eqb m minus_mark) (by (plainly refl refl))
    (branch (eqb m open_paren_mark) (by (plainly refl refl))
    (branch (eqb m open_bracket_mark) (by (plainly refl refl))
    (branch (eqb m and_mark) (by (plainly refl refl))
    (branch (eqb m and_and_mark) (by (plainly refl refl))
    (branch (eqb m dot_dot_mark) (dots_agree text s q m q.from)
    (branch (eqb m dot_dot_eq_mark) (ranged_agrees text s q _ _ m q.from (λ l. by (plainly refl refl)))
    halts_by))))))))))))

-- a mark with which an upper bound begins, or another
pub bounds_agree :
    (text : List ℕ) (h : RangeHead) (l : ForAlt) (m : ℕ) (q : Spot) (other : Reading) (move : Move)
    → AgreesBy text other move m q.from (opened_range text h l)
    → AgreesBy text (bounds (strictly text) h l m q other) (bound_move text m q move) m q.from (opened_range text h l)
unfolding bounds bound_move perform encode steady opened_bound closed_onto parts_onto part_count bound_at bound_in literal_at literal_value
bounds_agree text h l m q other move g =
    branch (eqb m true_mark) (by (shut_range text h l (constant (true_at q))))
    (branch (eqb m false_mark) (by (shut_range text h l (constant (false_at q))))
    (branch (eqb m integer_mark) (fitted false q (by (shut_range text h l (constant (whole q)))))
    (branch (eqb m minus_mark) (by (plainly refl refl))
    g)))
