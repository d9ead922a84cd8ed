-- What the parser has noted and what waits in it, for each reading of the grammar's machine. Assumes nothing.
use Prim.Native.Nat.{ℕ, suc}
use mathlib.Core.Bool.{Bool, true, false, not, ◌&&◌}
use mathlib.Core.Option.{none, some}
use mathlib.Core.List.{List, [], ◌∷◌}
use Rattle.pattern_grammar.specs.Trees.{NamePath, inside, BoundName, single, double, RecordHead, index, Pattern, alone, or, RecordFields, keyed, short}
use Rattle.pattern_grammar.specs.Admitted.{path_at, literal_at, bound_at, open_at, is_rest, is_none}
use Rattle.pattern_grammar.specs.Machine.{ForPlain, any_alt, behind_amp, ForAlt, first_alt, next_alt, behind_at, ForPattern, whole_text, for_item, for_field, RangeHead, up_to_head, from_head, BoundPlace, at_start, at_end, NamePlace, in_pattern, in_record, Reading, begin, expect, read_amp, read_ref, read_mut, read_name, read_bound, read_path, read_sep, read_minus, read_literal, read_dots, read_from, read_to, read_to_path, read_alt, read_brace, read_label, read_index, read_field, read_etc, done, failed}
use Rattle.pattern_grammar.specs.Trees.{exclusive}
use Rattle.pattern_syntax.specs.Written.{range_node, ident_node, reference_node, record_node, field_node, or_node, Written, written, Parts, no_parts, more, part_count}
use Rattle.pattern_syntax.specs.Reduced.{ident_name, path_name, key_name, literal_value, bound_in, dots_at, is_exclusive, is_there, first_place, bound_name_at, head_at, list_node, before_rest, first_beginning, one_of, alternatives, written_items, written_fields}
use Rattle.pattern_syntax.specs.Closing.{ClosedNode, closed_node}
use Rattle.parsing_machine.specs.declared.ReadState.TheVariants.{Begin, Expect, BehindAmp, BehindRef, BehindMut, AtName, AtBound, AtPath, AtSep, AtMinus, AtLiteral, AtDots, AtFrom, AtTo, AtToPath, AtBrace, AtLabel, AtIndex, AtField, AtEtc}
use Rattle.parsing_machine.specs.Waiting.{Opened, opened, pushed, noted}
use Rattle.parsing_machine.specs.Moves.{Held, no_name, named_held, literal_held, place_held, nothing_held, name_held}
use Rattle.parsing_machine.specs.Parser.{Course, going_in, ended_with, halted_at, alt_read}

-- a tree's nodes have closed behind others: the last first
unfoldable mutual
  pub closed_onto : Written → List ClosedNode → List ClosedNode
  closed_onto (written at n ps) before = closed_node at n (part_count ps) ∷ parts_onto ps before

  pub parts_onto : Parts → List ClosedNode → List ClosedNode
  parts_onto no_parts before = before
  parts_onto (more ps w) before = closed_onto w (parts_onto ps before)

-- so do a row's
unfoldable pub parts_noted : Parts → Opened → Opened
parts_noted ps o = opened o.waiting (parts_onto ps o.closed)

abbrev pub ident_waiting : List ℕ → BoundName → ClosedNode
ident_waiting text b = closed_node (bound_name_at b) (ident_node (is_there b.by_ref) (is_there b.mutable) (ident_name text b.called)) 0

abbrev pub record_waiting : List ℕ → RecordHead → RecordFields → ClosedNode
record_waiting text h fs = closed_node (path_at h.path) (record_node (path_name text h.path)) (part_count (written_fields text fs))

abbrev pub or_waiting : Parts → ClosedNode
or_waiting ps = closed_node (first_beginning ps) or_node (part_count ps)

-- what is open
unfoldable mutual
  pub opened_plain : List ℕ → ForPlain → Opened
  opened_plain text (any_alt l) = opened_alt text l
  opened_plain text (behind_amp (single q) m s) = pushed (closed_node q.from (reference_node (is_there m)) 0) (opened_plain text s)
  opened_plain text (behind_amp (double q) m s) =
      pushed (closed_node (suc q.from) (reference_node (is_there m)) 0) (pushed (closed_node q.from (reference_node false) 0) (opened_plain text s))

  pub opened_alt : List ℕ → ForAlt → Opened
  opened_alt text (first_alt none o) = opened_pattern text o
  opened_alt text (first_alt (some q) o) = pushed (closed_node q.from or_node 0) (opened_pattern text o)
  opened_alt text (next_alt p c o) = pushed (or_waiting (alternatives text p)) (parts_noted (alternatives text p) (opened_pattern text o))
  opened_alt text (behind_at b c s) = pushed (ident_waiting text b) (opened_plain text s)

  pub opened_pattern : List ℕ → ForPattern → Opened
  opened_pattern text whole_text = opened [] []
  opened_pattern text (for_item h is s) =
      pushed (closed_node (head_at h) (list_node text h (before_rest is)) (part_count (written_items text h is)))
      (parts_noted (written_items text h is) (opened_plain text s))
  opened_pattern text (for_field h fs key c s) =
      pushed (closed_node (key_name text key).at (field_node (key_name text key)) 0)
      (pushed (record_waiting text h fs) (parts_noted (written_fields text fs) (opened_plain text s)))

-- a record
unfoldable pub opened_record : List ℕ → RecordHead → RecordFields → ForPlain → Opened
opened_record text h fs s = pushed (record_waiting text h fs) (parts_noted (written_fields text fs) (opened_plain text s))

-- a range before its upper bound
unfoldable pub opened_range : List ℕ → RangeHead → ForAlt → Opened
opened_range text (up_to_head d) l = pushed (closed_node (dots_at d) (range_node false true (is_exclusive d)) 0) (opened_alt text l)
opened_range text (from_head a d) l =
    pushed (closed_node (bound_at a) (range_node true true (is_exclusive d)) 1) (noted (closed_node (bound_at a) (bound_in text a) 0) (opened_alt text l))

unfoldable pub opened_bound : List ℕ → BoundPlace → Opened
opened_bound text (at_start s) = opened_plain text s
opened_bound text (at_end h l) = opened_range text h l

unfoldable pub opened_name : List ℕ → NamePlace → Opened
opened_name text (in_pattern s) = opened_plain text s
opened_name text (in_record h fs s) = opened_record text h fs s

-- behind an alternative of a pattern
unfoldable pub opened_behind : List ℕ → Pattern → ForPattern → Opened
opened_behind text (alone lead a) o = parts_noted (alternatives text (alone lead a)) (opened_pattern text o)
opened_behind text (or p c a) o =
    pushed (or_waiting (alternatives text (or p c a))) (parts_noted (alternatives text (or p c a)) (opened_pattern text o))

-- what is held of a name and of a path
abbrev pub ident_held : List ℕ → BoundName → Held
ident_held text b = named_held (bound_name_at b) (is_there b.by_ref) (is_there b.mutable) (ident_name text b.called)

abbrev pub path_held : List ℕ → NamePath → Held
path_held text p = named_held (path_at p) false false (path_name text p)

-- the parser's course for a reading
unfoldable pub encode : List ℕ → Reading → Course
encode text (begin o) = going_in Begin nothing_held (opened_pattern text o)
encode text (expect s) = going_in Expect nothing_held (opened_plain text s)
encode text (read_amp a s) = going_in BehindAmp nothing_held (opened_plain text (behind_amp a none s))
encode text (read_ref i r) = going_in BehindRef (named_held r.from true false no_name) (opened_name text i)
encode text (read_mut i r u) = going_in BehindMut (named_held (first_place r u.from) (is_there r) true no_name) (opened_name text i)
encode text (read_name n s) = going_in AtName (name_held (ident_name text n)) (opened_plain text s)
encode text (read_bound b s) = going_in AtBound (ident_held text b) (opened_plain text s)
encode text (read_path p c n s) = going_in AtPath (path_held text (inside p c n)) (opened_plain text s)
encode text (read_sep p c i) = going_in AtSep (path_held text p) (opened_bound text i)
encode text (read_minus c i) = going_in AtMinus (place_held c.from) (opened_bound text i)
encode text (read_literal v s) = going_in AtLiteral (literal_held (literal_at v) (literal_value text v)) (opened_plain text s)
encode text (read_dots d l) = going_in AtDots nothing_held (opened_range text (up_to_head (exclusive d)) l)
encode text (read_from a d l) = going_in AtFrom nothing_held (opened_range text (from_head a (exclusive d)) l)
encode text (read_to h l) = going_in AtTo nothing_held (opened_range text h l)
encode text (read_to_path p h l) = going_in AtToPath (path_held text p) (opened_range text h l)
encode text (read_alt c) = alt_read (opened_behind text c.pattern c.waiting)
encode text (read_brace h fs s) = going_in AtBrace nothing_held (opened_record text h fs s)
encode text (read_label n h fs s) = going_in AtLabel (name_held (ident_name text n)) (opened_record text h fs s)
encode text (read_index i h fs s) = going_in AtIndex (name_held (key_name text (index i))) (opened_record text h fs s)
encode text (read_field (short b) h fs s) = going_in AtField (ident_held text b) (opened_record text h fs s)
encode text (read_field (keyed key c p) h fs s) = halted_at 0
encode text (read_etc d h fs s) = going_in AtEtc nothing_held (opened_record text h fs s)
encode text (done p e) = ended_with (closed_onto (one_of (alternatives text p)) [])
encode text (failed at) = halted_at at

-- A whole alternative is neither a rest nor `a..`: these are known when what follows them is read. And a field that is read whole is a name alone
unfoldable pub steady : Reading → Bool
steady (begin o) = true
steady (expect s) = true
steady (read_amp a s) = true
steady (read_ref i r) = true
steady (read_mut i r u) = true
steady (read_name n s) = true
steady (read_bound b s) = true
steady (read_path p c n s) = true
steady (read_sep p c i) = true
steady (read_minus c i) = true
steady (read_literal v s) = true
steady (read_dots d l) = true
steady (read_from a d l) = true
steady (read_to h l) = true
steady (read_to_path p h l) = true
steady (read_alt c) = not (is_rest c.pattern) && is_none (open_at c.pattern)
steady (read_brace h fs s) = true
steady (read_label n h fs s) = true
steady (read_index i h fs s) = true
steady (read_field (short b) h fs s) = true
steady (read_field (keyed key c p) h fs s) = false
steady (read_etc d h fs s) = true
steady (done p e) = true
steady (failed at) = true
