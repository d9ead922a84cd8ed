-- What a name or a char does, by what a state waits for. Assumes nothing.
use Prim.Native.Nat.{ℕ, ◌+◌, ◌*◌}
use mathlib.Core.Path.{◌≡◌, refl, sym, ap, ◌∙◌}
use mathlib.Core.Bool.{true, false, cond}
use mathlib.Core.List.{List, ◌++◌}
use lib.Dec.{eqb}
use borrow.Author.Tests.{eq-eqb}
use Rattle.pattern_grammar.specs.Lexemes.{Identifier, Spot}
use Rattle.pattern_syntax.specs.Written.{Name, char_value, bound_node}
use Rattle.text_chars.specs.Bytes.{ascii}
use Rattle.pattern_syntax.specs.Reduced.{bytes_from, ident_bytes, ident_name}
use Rattle.node_rows.specs.declared.NodeRow.{NodeRow}
use Rattle.node_rows.specs.Nodes.{closed_node_of, node_of, literal_in}
use Rattle.pattern_syntax.specs.Closing.{closed_node}
use Rattle.parsing_machine.specs.declared.ReadState.{ReadState}
use Rattle.parsing_machine.specs.declared.ReadState.TheVariants.{Begin, Expect, BehindAmp, BehindRef, BehindMut, AtName, AtBound, AtPath, AtSep, AtMinus, AtLiteral, AtDots, AtFrom, AtTo, AtToPath, AtAlt, AtBrace, AtLabel, AtIndex, AtField, AtEtc}
use Rattle.parsing_machine.specs.Moves.{no_name, literal_held, Move, halts, holds, shuts_range, name_held, named_move, path_held_behind, name_move, scalar_move}
use Rattle.parsing_moves.specs.declared.HeldRow.{HeldRow}
use Rattle.parsing_moves.specs.Rows.{held_in, flagged_held, plain_held, move_of, holds_name, holds_literal, literal_row, spot_of}
use Rattle.parsing_moves.specs.declared.NodeMove.{NodeMove}
use Rattle.parsing_moves.specs.declared.NodeMove.TheVariants.{Halts, ShutsRange}
use Rattle.parsing_moves.specs.Roles.{role}

abbrev pub name_by : ℕ → List ℕ → HeldRow → ℕ → ℕ → Name → Move
name_by k names h top from n =
    cond (eqb k 0) (holds AtName (name_held n))
    (cond (eqb k 1) (named_move (flagged_held h no_name) top n)
    (cond (eqb k 2) (holds (cond (eqb top 5) AtToPath AtPath) (path_held_behind (plain_held names h) n))
    (cond (eqb k 3) (holds AtToPath (name_held n))
    (cond (eqb k 4) (holds AtLabel (name_held n))
    (halts from)))))

pub name_by_lem :
    (text names : List ℕ) (s : ReadState) (h : HeldRow) (top : ℕ) (n : Identifier)
    → name_move text s (held_in text names s h) top n ≡ name_by (role s) names h top n.spot.from (ident_name text n)
unfolding name_move held_in role
name_by_lem text names Begin h top n = refl
name_by_lem text names Expect h top n = refl
name_by_lem text names BehindAmp h top n = refl
name_by_lem text names BehindRef h top n = refl
name_by_lem text names BehindMut h top n = refl
name_by_lem text names AtName h top n = refl
name_by_lem text names AtBound h top n = refl
name_by_lem text names AtPath h top n = refl
name_by_lem text names AtSep h top n = refl
name_by_lem text names AtMinus h top n = refl
name_by_lem text names AtLiteral h top n = refl
name_by_lem text names AtDots h top n = refl
name_by_lem text names AtFrom h top n = refl
name_by_lem text names AtTo h top n = refl
name_by_lem text names AtToPath h top n = refl
name_by_lem text names AtAlt h top n = refl
name_by_lem text names AtBrace h top n = refl
name_by_lem text names AtLabel h top n = refl
name_by_lem text names AtIndex h top n = refl
name_by_lem text names AtField h top n = refl
name_by_lem text names AtEtc h top n = refl

abbrev pub scalar_by : ℕ → ℕ → Spot → Move
scalar_by k v q =
    cond (eqb k 0) (holds AtLiteral (literal_held q.from (char_value v)))
    (cond (eqb k 3) (shuts_range (closed_node q.from (bound_node (char_value v)) 0)) (halts q.from))

pub scalar_by_lem : (s : ReadState) (v : ℕ) (q : Spot) → scalar_move s v q ≡ scalar_by (role s) v q
unfolding scalar_move role
scalar_by_lem Begin v q = refl
scalar_by_lem Expect v q = refl
scalar_by_lem BehindAmp v q = refl
scalar_by_lem BehindRef v q = refl
scalar_by_lem BehindMut v q = refl
scalar_by_lem AtName v q = refl
scalar_by_lem AtBound v q = refl
scalar_by_lem AtPath v q = refl
scalar_by_lem AtSep v q = refl
scalar_by_lem AtMinus v q = refl
scalar_by_lem AtLiteral v q = refl
scalar_by_lem AtDots v q = refl
scalar_by_lem AtFrom v q = refl
scalar_by_lem AtTo v q = refl
scalar_by_lem AtToPath v q = refl
scalar_by_lem AtAlt v q = refl
scalar_by_lem AtBrace v q = refl
scalar_by_lem AtLabel v q = refl
scalar_by_lem AtIndex v q = refl
scalar_by_lem AtField v q = refl
scalar_by_lem AtEtc v q = refl

-- a move that is so for what the state waits for
pub name_case :
    (text names : List ℕ) (s : ReadState) (h : HeldRow) (top : ℕ) (n : Identifier) (move : NodeMove) (k : ℕ) → k ≡ role s
    → move_of text names move ≡ name_by k names h top n.spot.from (ident_name text n)
    → move_of text names move ≡ name_move text s (held_in text names s h) top n
name_case text names s h top n move k e f =
    f ∙ (ap (λ x. name_by x names h top n.spot.from (ident_name text n)) e ∙ sym (name_by_lem text names s h top n))

pub scalar_case :
    (text names : List ℕ) (s : ReadState) (v : ℕ) (q : Spot) (move : NodeMove) (k : ℕ) → k ≡ role s → move_of text names move ≡ scalar_by k v q
    → move_of text names move ≡ scalar_move s v q
scalar_case text names s v q move k e f = f ∙ (ap (λ x. scalar_by x v q) e ∙ sym (scalar_by_lem s v q))

-- the moves of a name
module _ (text names : List ℕ) (s : ReadState) (h : HeldRow) (top : ℕ) (n : Identifier) (move : NodeMove) (k from start end : ℕ) (e : k ≡ role s) (f : n.spot.from ≡ from) (b : bytes_from names start end ≡ ident_bytes text n) where
  pub name_begins : k ≡ 0 → move ≡ holds_name AtName from 0 from start end → move_of text names move ≡ name_move text s (held_in text names s h) top n
  unfolding move_of held_in
  name_begins z m = name_case text names s h top n move k e (rw (z, m, sym f, b))

  pub name_in_record : k ≡ 1 → eqb top 12 ≡ true → move ≡ holds_name AtField h.at h.more from start end → move_of text names move ≡ name_move text s (held_in text names s h) top n
  unfolding move_of held_in
  name_in_record z t m = name_case text names s h top n move k e (rw (z, m, t, sym f, b))

  pub name_bound : k ≡ 1 → eqb top 12 ≡ false → move ≡ holds_name AtBound h.at h.more from start end → move_of text names move ≡ name_move text s (held_in text names s h) top n
  unfolding move_of held_in
  name_bound z t m = name_case text names s h top n move k e (rw (z, m, t, sym f, b))

  pub name_of_bound : k ≡ 3 → move ≡ holds_name AtToPath from 0 from start end → move_of text names move ≡ name_move text s (held_in text names s h) top n
  unfolding move_of held_in
  name_of_bound z m = name_case text names s h top n move k e (rw (z, m, sym f, b))

  pub name_of_field : k ≡ 4 → move ≡ holds_name AtLabel from 0 from start end → move_of text names move ≡ name_move text s (held_in text names s h) top n
  unfolding move_of held_in
  name_of_field z m = name_case text names s h top n move k e (rw (z, m, sym f, b))

  pub path_of_bound : k ≡ 2 → eqb top 5 ≡ true → (eqb (role s) 2 ≡ true → bytes_from names h.from end ≡ bytes_from names h.from h.to ++ (ascii "::" ++ ident_bytes text n)) → move ≡ holds_name AtToPath h.at 0 h.spot h.from end → move_of text names move ≡ name_move text s (held_in text names s h) top n
  unfolding move_of held_in
  path_of_bound z t p m = name_case text names s h top n move k e (rw (z, m, t, p (eq-eqb (role s) 2 (sym e ∙ z))))

  pub path_goes_on : k ≡ 2 → eqb top 5 ≡ false → (eqb (role s) 2 ≡ true → bytes_from names h.from end ≡ bytes_from names h.from h.to ++ (ascii "::" ++ ident_bytes text n)) → move ≡ holds_name AtPath h.at 0 h.spot h.from end → move_of text names move ≡ name_move text s (held_in text names s h) top n
  unfolding move_of held_in
  path_goes_on z t p m = name_case text names s h top n move k e (rw (z, m, t, p (eq-eqb (role s) 2 (sym e ∙ z))))

  pub no_name_lem : eqb k 0 ≡ false → eqb k 1 ≡ false → eqb k 2 ≡ false → eqb k 3 ≡ false → eqb k 4 ≡ false → move ≡ Halts from → move_of text names move ≡ name_move text s (held_in text names s h) top n
  unfolding move_of
  no_name_lem z0 z1 z2 z3 z4 m = name_case text names s h top n move k e (rw (z0, z1, z2, z3, z4, m, f))

-- and of a char
module _ (text names : List ℕ) (s : ReadState) (move : NodeMove) (k low high from to : ℕ) (e : k ≡ role s) where
  pub char_begins : k ≡ 0 → move ≡ holds_literal from 2 low high → move_of text names move ≡ scalar_move s (high * 65536 + low) (spot_of from to)
  unfolding move_of held_in literal_in
  char_begins z m = scalar_case text names s (high * 65536 + low) (spot_of from to) move k e (rw (z, m))

  pub char_of_bound : (row : NodeRow) → k ≡ 3 → row ≡ literal_row 3 from 2 low high → move ≡ ShutsRange row → move_of text names move ≡ scalar_move s (high * 65536 + low) (spot_of from to)
  unfolding move_of closed_node_of node_of literal_in
  char_of_bound row z r m = scalar_case text names s (high * 65536 + low) (spot_of from to) move k e (rw (z, m, r))

  pub no_char : eqb k 0 ≡ false → eqb k 3 ≡ false → move ≡ Halts from → move_of text names move ≡ scalar_move s (high * 65536 + low) (spot_of from to)
  unfolding move_of
  no_char z0 z3 m = scalar_case text names s (high * 65536 + low) (spot_of from to) move k e (rw (z0, z3, m))
