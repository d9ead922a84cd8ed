-- An alternative closes in the parser as it does in the grammar's machine. Assumes nothing.
use Prim.Native.Nat.{ℕ, suc}
use mathlib.Core.Path.{◌≡◌, refl, sym, ap, ◌∙◌}
use mathlib.Core.Bool.{Bool, true, false, not, cond, ◌&&◌}
use mathlib.Core.Option.{none, some}
use mathlib.Core.List.{List, [], ◌∷◌}
use native.Mathlib.Omega.{arith}
use lib.Dec.{eqb}
use borrow.Author.Tests.{ne_eqb}
use Rattle.pattern_grammar.specs.Trees.{single, double, tuple_at, struct_at, slice_at, Pattern, alone, or, NoTopAlt, plain, WithoutRange, ident_at, reference}
use Rattle.pattern_grammar.specs.Admitted.{upward_at, open_at, is_rest_alt, is_rest_plain, is_rest, is_none}
use Rattle.pattern_grammar.specs.Machine.{ForPlain, any_alt, behind_amp, ForAlt, first_alt, next_alt, behind_at, ForPattern, whole_text, for_item, for_field, Closed, close_alt, close_plain}
use Rattle.pattern_syntax.specs.Written.{or_node, Written, written, more, part_count, begun_at, beginning}
use Rattle.pattern_syntax.specs.Reduced.{first_beginning, written_ident, written_reference, alternatives, written_alt, written_plain, list_node}
use Rattle.pattern_syntax.specs.Closing.{ClosedNode, closed_node}
use Rattle.parsing_machine.specs.Waiting.{Opened, opened, pushed, noted, node_kind, part_more, begun_last, settle, last_from}
use Rattle.parsing_machine.proofs.Encoding.{closed_onto, parts_onto, parts_noted, opened_plain, opened_alt, opened_pattern, opened_behind}

-- from another byte on
pub begun_last_lem : (at : ℕ) (w : Written) (before : List ClosedNode) → begun_last at (closed_onto w before) ≡ closed_onto (begun_at at w) before
unfolding closed_onto begun_last begun_at
begun_last_lem at (written old n ps) before = refl

pub last_from_lem : (w : Written) (before : List ClosedNode) → last_from (closed_onto w before) ≡ beginning w
unfolding closed_onto last_from beginning
last_from_lem (written at n ps) before = refl

-- nothing closes with a pattern's last alternative
pub settle_pattern :
    (text : List ℕ) (o : ForPattern) (closed : List ClosedNode)
    → settle (opened_pattern text o).waiting closed ≡ opened (opened_pattern text o).waiting closed
unfolding settle opened_pattern pushed parts_noted node_kind list_node
settle_pattern text whole_text closed = refl
settle_pattern text (for_item (tuple_at q) is s) closed = refl
settle_pattern text (for_item (struct_at p q) is s) closed = refl
settle_pattern text (for_item (slice_at q) is s) closed = refl
settle_pattern text (for_field h fs key c s) closed = refl

pub suc_some : (n : ℕ) → eqb (suc n) 0 ≡ false
suc_some n = ne_eqb (suc n) 0 (λ e. omega (arith, e))

-- there is an alternative before each `|`
alternatives_some : (text : List ℕ) (p : Pattern) (a b : Opened) → cond (eqb (part_count (alternatives text p)) 0) a b ≡ b
unfolding alternatives part_count
alternatives_some text (alone none a) x y = refl
alternatives_some text (alone (some q) a) x y = refl
alternatives_some text (or p c a) x y = rw (suc_some (part_count (alternatives text p))) refl

or_beginning : (text : List ℕ) (p : Pattern) (w : Written) → first_beginning (more (alternatives text p) w) ≡ first_beginning (alternatives text p)
unfolding alternatives first_beginning
or_beginning text (alone none a) w = refl
or_beginning text (alone (some q) a) w = refl
or_beginning text (or p c a) w = refl

mutual
  unfolding settle close_alt opened_alt opened_plain opened_behind pushed noted parts_noted closed_onto parts_onto node_kind part_more alternatives written_alt written_plain written_ident written_reference part_count

  pub settle_alt :
      (text : List ℕ) (l : ForAlt) (a : NoTopAlt)
      → settle (opened_alt text l).waiting (closed_onto (written_alt text a) (opened_alt text l).closed)
      ≡ opened_behind text (close_alt a l).pattern (close_alt a l).waiting
  settle_alt text (first_alt none o) a = settle_pattern text o _
  settle_alt text (first_alt (some q) o) a = ap (opened (opened_pattern text o).waiting) (begun_last_lem q.from (written_alt text a) _)
  settle_alt text (next_alt p c o) a =
      alternatives_some text p _ _
      ∙ ap
      (λ at. opened (closed_node at or_node (suc (part_count (alternatives text p))) ∷ (opened_pattern text o).waiting)
      (closed_onto (written_alt text a) (parts_onto (alternatives text p) (opened_pattern text o).closed)))
      (sym (or_beginning text p (written_alt text a)))
  settle_alt text (behind_at b c s) a = settle_plain text s (ident_at b c a)

  pub settle_plain :
      (text : List ℕ) (s : ForPlain) (w : WithoutRange)
      → settle (opened_plain text s).waiting (closed_onto (written_plain text w) (opened_plain text s).closed)
      ≡ opened_behind text (close_plain w s).pattern (close_plain w s).waiting
  settle_plain text (any_alt l) w = settle_alt text l (plain w)
  settle_plain text (behind_amp (single q) m s) w = settle_plain text s (reference (single q) m w)
  settle_plain text (behind_amp (double q) m s) w = settle_plain text s (reference (double q) m w)

-- a pattern that closes is neither a rest nor `a..`
unfoldable pub calm : Closed → Bool
calm c = not (is_rest c.pattern) && is_none (open_at c.pattern)

mutual
  unfolding close_alt calm is_rest is_rest_alt open_at upward_at is_none

  pub calm_alt : (l : ForAlt) (a : NoTopAlt) → is_rest_alt a ≡ false → upward_at a ≡ none → calm (close_alt a l) ≡ true
  calm_alt (first_alt none o) a e f = rw e (rw f refl)
  calm_alt (first_alt (some q) o) a e f = rw e refl
  calm_alt (next_alt p c o) a e f = refl
  calm_alt (behind_at b c s) a e f = calm_plain s (ident_at b c a) e

  pub calm_plain : (s : ForPlain) (w : WithoutRange) → is_rest_plain w ≡ false → calm (close_plain w s) ≡ true
  calm_plain (any_alt l) w e = calm_alt l (plain w) e refl
  calm_plain (behind_amp a m s) w e = calm_plain s (reference a m w) refl
