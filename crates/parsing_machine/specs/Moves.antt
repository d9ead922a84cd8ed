-- What the parser does at a token, by what it has read last and by the kind of what waits innermost. Assumes nothing: these are definitions.
use Rattle.std.specs.Prelude.{ℕ, suc, Bool, true, false, cond, List, [], ◌++◌, eqb}
use Rattle.std.proofs.Math.Option.{none}
use Rattle.text_chars.specs.Bytes.{ascii}
use Rattle.pattern_grammar.specs.Lexemes.{Spot, Identifier, comma_mark, or_mark, close_brace_mark, ref_mark, mut_mark, true_mark, false_mark, underscore_mark, integer_mark, minus_mark, open_paren_mark, open_bracket_mark, open_brace_mark, and_mark, and_and_mark, bind_mark, colon_mark, path_sep_mark, dot_dot_mark, dot_dot_eq_mark, follows, strictly, wide}
use Rattle.pattern_syntax.specs.Written.{Name, LiteralValue, bool_value, char_value, whole_value, minus_value, wildcard_node, literal_node, bound_node, bound_path_node, range_node, path_node, ident_node, reference_node, tuple_node, tuple_struct_node, slice_node, record_node, field_node, or_node}
use Rattle.pattern_syntax.specs.Reduced.{bytes_from, ident_name, decimal_in}
use Rattle.pattern_syntax.specs.Closing.{ClosedNode, closed_node}
use Rattle.parsing_machine.specs.declared.ReadState.{ReadState}
use Rattle.parsing_machine.specs.declared.ReadState.TheVariants.{Begin, Expect, BehindAmp, BehindRef, BehindMut, AtName, AtBound, AtPath, AtSep, AtMinus, AtLiteral, AtDots, AtFrom, AtTo, AtToPath, AtAlt, AtBrace, AtLabel, AtIndex, AtField, AtEtc}
use Rattle.parsing_machine.specs.Waiting.{closes}

-- what is read of a node that neither waits nor has closed: where it begins, with `ref`, with `mut`, its name or its value
pub record Held : Type 0 where
  pub at : ℕ
  pub by_ref : Bool
  pub mutable : Bool
  pub name : Name
  pub value : LiteralValue

abbrev pub no_name : Name
no_name = record { at = 0; bytes = [] }

abbrev pub named_held : ℕ → Bool → Bool → Name → Held
named_held at r m n = record { at = at; by_ref = r; mutable = m; name = n; value = bool_value false }

abbrev pub literal_held : ℕ → LiteralValue → Held
literal_held at v = record { at = at; by_ref = false; mutable = false; name = no_name; value = v }

abbrev pub place_held : ℕ → Held
place_held at = literal_held at (bool_value false)

abbrev pub nothing_held : Held
nothing_held = place_held 0

-- the nodes that what is held becomes
abbrev pub held_ident : Held → ClosedNode
held_ident h = closed_node h.at (ident_node h.by_ref h.mutable h.name) 0

abbrev pub held_path : Held → ClosedNode
held_path h = closed_node h.at (path_node h.name) 0

abbrev pub held_bound_path : Held → ClosedNode
held_bound_path h = closed_node h.at (bound_path_node h.name) 0

abbrev pub held_literal : Held → ClosedNode
held_literal h = closed_node h.at (literal_node h.value) 0

abbrev pub held_bound : Held → ClosedNode
held_bound h = closed_node h.at (bound_node h.value) 0

abbrev pub held_key : Held → ClosedNode
held_key h = closed_node h.name.at (field_node h.name) 0

-- a range that waits for its upper bound, behind a lower one or not
abbrev pub range_from : Held → Bool → ClosedNode
range_from h dots = closed_node h.at (range_node true true dots) 1

abbrev pub range_to : ℕ → Bool → ClosedNode
range_to at dots = closed_node at (range_node false true dots) 0

pub data Move : Type 0 where
  -- it fails
  halts : ℕ → Move
  -- something is held
  holds : ReadState → Held → Move
  -- a node waits, or two
  opens : ReadState → ClosedNode → Move
  opens_two : ClosedNode → ClosedNode → Move
  -- a node closes, and another waits
  opens_behind : ReadState → ClosedNode → ClosedNode → Move
  -- what waits is `&mut`
  mutates : Move
  -- an alternative closes; the mark stands behind it
  shuts : ClosedNode → Move
  shuts_before : ClosedNode → Move
  -- a bound closes, and its range; the mark stands behind it
  shuts_range : ClosedNode → Move
  shuts_range_before : ClosedNode → Move
  -- the mark stands behind `a..`, behind `..`, behind a whole alternative
  shuts_open_range : Move
  shuts_rest : Move
  passes_on : Move
  -- what waits innermost closes
  shuts_top : Move
  -- a name alone is a field: one of several, or the last
  adds_field : ClosedNode → ClosedNode → Move
  adds_last_field : ClosedNode → ClosedNode → Move

-- a name begins
abbrev pub name_held : Name → Held
name_held n = named_held n.at false false n

-- a name behind `ref` or `mut`: a record's field has the record innermost
abbrev pub named_move : Held → ℕ → Name → Move
named_move h top n = holds (cond (eqb top 12) AtField AtBound) (named_held h.at h.by_ref h.mutable n)

-- one more name of a path
abbrev pub path_held_behind : Held → Name → Held
path_held_behind h n = named_held h.at false false (record { at = h.name.at; bytes = h.name.bytes ++ (ascii "::" ++ n.bytes) })

unfoldable pub name_move : List ℕ → ReadState → Held → ℕ → Identifier → Move
name_move text Begin h top n = holds AtName (name_held (ident_name text n))
name_move text Expect h top n = holds AtName (name_held (ident_name text n))
name_move text BehindAmp h top n = holds AtName (name_held (ident_name text n))
name_move text BehindRef h top n = named_move h top (ident_name text n)
name_move text BehindMut h top n = named_move h top (ident_name text n)
name_move text AtName h top n = halts n.spot.from
name_move text AtBound h top n = halts n.spot.from
name_move text AtPath h top n = halts n.spot.from
name_move text AtSep h top n = holds (cond (eqb top 5) AtToPath AtPath) (path_held_behind h (ident_name text n))
name_move text AtMinus h top n = halts n.spot.from
name_move text AtLiteral h top n = halts n.spot.from
name_move text AtDots h top n = holds AtToPath (name_held (ident_name text n))
name_move text AtFrom h top n = holds AtToPath (name_held (ident_name text n))
name_move text AtTo h top n = holds AtToPath (name_held (ident_name text n))
name_move text AtToPath h top n = halts n.spot.from
name_move text AtAlt h top n = halts n.spot.from
name_move text AtBrace h top n = holds AtLabel (name_held (ident_name text n))
name_move text AtLabel h top n = halts n.spot.from
name_move text AtIndex h top n = halts n.spot.from
name_move text AtField h top n = halts n.spot.from
name_move text AtEtc h top n = halts n.spot.from

unfoldable pub scalar_move : ReadState → ℕ → Spot → Move
scalar_move Begin v q = holds AtLiteral (literal_held q.from (char_value v))
scalar_move Expect v q = holds AtLiteral (literal_held q.from (char_value v))
scalar_move BehindAmp v q = holds AtLiteral (literal_held q.from (char_value v))
scalar_move BehindRef v q = halts q.from
scalar_move BehindMut v q = halts q.from
scalar_move AtName v q = halts q.from
scalar_move AtBound v q = halts q.from
scalar_move AtPath v q = halts q.from
scalar_move AtSep v q = halts q.from
scalar_move AtMinus v q = halts q.from
scalar_move AtLiteral v q = halts q.from
scalar_move AtDots v q = shuts_range (closed_node q.from (bound_node (char_value v)) 0)
scalar_move AtFrom v q = shuts_range (closed_node q.from (bound_node (char_value v)) 0)
scalar_move AtTo v q = shuts_range (closed_node q.from (bound_node (char_value v)) 0)
scalar_move AtToPath v q = halts q.from
scalar_move AtAlt v q = halts q.from
scalar_move AtBrace v q = halts q.from
scalar_move AtLabel v q = halts q.from
scalar_move AtIndex v q = halts q.from
scalar_move AtField v q = halts q.from
scalar_move AtEtc v q = halts q.from

-- an integer in 16 bytes
unfoldable pub fit_move : List ℕ → Bool → Spot → Move → Move
fit_move text behindMinus q go = cond (wide (strictly text) behindMinus q) (halts q.from) go

-- dots of a range do not stand behind `&`
unfoldable pub ranged_move : ℕ → Spot → Move → Move
ranged_move top q go = cond (eqb top 8) (halts q.from) go

-- a mark with which a pattern begins
unfoldable pub start_move : List ℕ → ℕ → ℕ → Spot → Move
start_move text top m q =
    cond (eqb m ref_mark) (holds BehindRef (named_held q.from true false no_name))
    (cond (eqb m mut_mark) (holds BehindMut (named_held q.from false true no_name))
    (cond (eqb m true_mark) (holds AtLiteral (literal_held q.from (bool_value true)))
    (cond (eqb m false_mark) (holds AtLiteral (literal_held q.from (bool_value false)))
    (cond (eqb m underscore_mark) (shuts (closed_node q.from wildcard_node 0))
    (cond (eqb m integer_mark) (fit_move text false q (holds AtLiteral (literal_held q.from (whole_value (decimal_in text q)))))
    (cond (eqb m minus_mark) (holds AtMinus (place_held q.from))
    (cond (eqb m open_paren_mark) (opens Begin (closed_node q.from (tuple_node none) 0))
    (cond (eqb m open_bracket_mark) (opens Begin (closed_node q.from (slice_node none) 0))
    (cond (eqb m and_mark) (opens BehindAmp (closed_node q.from (reference_node false) 0))
    (cond (eqb m and_and_mark) (opens_two (closed_node q.from (reference_node false) 0) (closed_node (suc q.from) (reference_node false) 0))
    (cond (eqb m dot_dot_mark) (ranged_move top q (opens AtDots (range_to q.from true)))
    (cond (eqb m dot_dot_eq_mark) (ranged_move top q (opens AtTo (range_to q.from false)))
    (halts q.from)))))))))))))

-- a mark with which the upper bound of a range begins, or another
unfoldable pub bound_move : List ℕ → ℕ → Spot → Move → Move
bound_move text m q other =
    cond (eqb m true_mark) (shuts_range (closed_node q.from (bound_node (bool_value true)) 0))
    (cond (eqb m false_mark) (shuts_range (closed_node q.from (bound_node (bool_value false)) 0))
    (cond (eqb m integer_mark) (fit_move text false q (shuts_range (closed_node q.from (bound_node (whole_value (decimal_in text q))) 0)))
    (cond (eqb m minus_mark) (holds AtMinus (place_held q.from))
    other)))

-- a mark behind a path with which a pattern begins
unfoldable pub path_move : Held → ℕ → ℕ → Spot → Move
path_move h top m q =
    cond (eqb m path_sep_mark) (holds AtSep h)
    (cond (eqb m open_paren_mark) (opens Begin (closed_node h.at (tuple_struct_node h.name none) 0))
    (cond (eqb m open_brace_mark) (opens AtBrace (closed_node h.at (record_node h.name) 0))
    (cond (eqb m dot_dot_mark) (ranged_move top q (opens_behind AtFrom (held_bound_path h) (range_from h true)))
    (cond (eqb m dot_dot_eq_mark) (ranged_move top q (opens_behind AtTo (held_bound_path h) (range_from h false)))
    (halts q.from)))))

-- a mark behind a field that is a name alone
unfoldable pub field_move : Held → ℕ → Spot → Move
field_move h m q =
    cond (eqb m comma_mark) (adds_field (held_ident h) (closed_node h.name.at (field_node h.name) 1))
    (cond (eqb m close_brace_mark) (adds_last_field (held_ident h) (closed_node h.name.at (field_node h.name) 1))
    (halts q.from))

-- where an integer stands as a field
abbrev pub index_name : List ℕ → Spot → Name
index_name text q = record { at = q.from; bytes = bytes_from text q.from q.to }

-- an integer behind a minus: a bound has the range innermost
abbrev pub minus_move : List ℕ → Held → ℕ → Spot → Move
minus_move text h top q =
    cond (eqb top 5) (shuts_range (closed_node h.at (bound_node (minus_value (decimal_in text q))) 0))
    (holds AtLiteral (literal_held h.at (minus_value (decimal_in text q))))

unfoldable pub mark_move : List ℕ → ReadState → Held → ℕ → ℕ → Spot → Move
mark_move text Begin h top m q =
    cond (eqb m or_mark) (opens Expect (closed_node q.from or_node 0))
    (cond (follows m) (cond (closes top m) shuts_top (halts q.from))
    (start_move text top m q))
mark_move text Expect h top m q = start_move text top m q
mark_move text BehindAmp h top m q = cond (eqb m mut_mark) mutates (start_move text top m q)
mark_move text BehindRef h top m q = cond (eqb m mut_mark) (holds BehindMut (named_held h.at true true no_name)) (halts q.from)
mark_move text BehindMut h top m q = halts q.from
mark_move text AtName h top m q =
    cond (follows m) (shuts_before (held_ident h))
    (cond (eqb m bind_mark) (opens Expect (held_ident h))
    (path_move h top m q))
mark_move text AtBound h top m q =
    cond (follows m) (shuts_before (held_ident h))
    (cond (eqb m bind_mark) (opens Expect (held_ident h))
    (halts q.from))
mark_move text AtPath h top m q = cond (follows m) (shuts_before (held_path h)) (path_move h top m q)
mark_move text AtSep h top m q = halts q.from
mark_move text AtMinus h top m q = cond (eqb m integer_mark) (fit_move text true q (minus_move text h top q)) (halts q.from)
mark_move text AtLiteral h top m q =
    cond (follows m) (shuts_before (held_literal h))
    (cond (eqb m dot_dot_mark) (ranged_move top q (opens_behind AtFrom (held_bound h) (range_from h true)))
    (cond (eqb m dot_dot_eq_mark) (ranged_move top q (opens_behind AtTo (held_bound h) (range_from h false)))
    (halts q.from)))
mark_move text AtDots h top m q = bound_move text m q shuts_rest
mark_move text AtFrom h top m q = bound_move text m q (cond (follows m) shuts_open_range (halts q.from))
mark_move text AtTo h top m q = bound_move text m q (halts q.from)
mark_move text AtToPath h top m q =
    cond (follows m) (shuts_range_before (held_bound_path h))
    (cond (eqb m path_sep_mark) (holds AtSep h)
    (halts q.from))
mark_move text AtAlt h top m q = passes_on
mark_move text AtBrace h top m q =
    cond (eqb m close_brace_mark) shuts_top
    (cond (eqb m dot_dot_mark) (holds AtEtc nothing_held)
    (cond (eqb m integer_mark) (fit_move text false q (holds AtIndex (name_held (index_name text q))))
    (cond (eqb m ref_mark) (holds BehindRef (named_held q.from true false no_name))
    (cond (eqb m mut_mark) (holds BehindMut (named_held q.from false true no_name))
    (halts q.from)))))
mark_move text AtLabel h top m q = cond (eqb m colon_mark) (opens Begin (held_key h)) (field_move h m q)
mark_move text AtIndex h top m q = cond (eqb m colon_mark) (opens Begin (held_key h)) (halts q.from)
mark_move text AtField h top m q = field_move h m q
mark_move text AtEtc h top m q = cond (eqb m close_brace_mark) shuts_top (halts q.from)
