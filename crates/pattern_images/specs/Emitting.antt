-- What is added for a pattern: "New entries stand in the order the text closes them". Assumes nothing: these are definitions.
use Rattle.std.specs.Prelude.{ℕ, suc, ◌+◌, ◌-◌, cond, List, [], ◌∷◌, ◌++◌, get_or, take, drop, eqb}
use Rattle.std.proofs.Math.Option.{Option, none, some}
use Rattle.image.specs.declared.rows.TypeRow.{TypeRow}
use Rattle.image.specs.declared.rows.PatRow.{PatRow}
use Rattle.image.specs.Tables.{binding_count}
use Rattle.image.specs.Rules.{absent}
use Rattle.pattern_syntax.specs.Written.{Written, written, Parts, no_parts, more, part_count}
use Rattle.pattern_typing.specs.Crossing.{by_value, by_ref}
use Rattle.pattern_typing.specs.Contexts.{Context, PartsRead, part_context}
use Rattle.pattern_typing.specs.Making.{BoundAt, bound_at_type, bound_at_array, Making, not_made, row_made, literal_made, operand_made, operand_named, range_made, bind_made, reference_made, list_made, slice_made, field_made, pattern_row}
use Rattle.pattern_typing.specs.Resolving.{resolved}
use Rattle.pattern_images.specs.Drafts.{Draft, Made, next_pattern, next_binding, next_word, add_pattern, add_binding, add_words, add_operand, with_type, number_of_type, binding_for}

abbrev pub made : Draft → List ℕ → Made
made d stands = record { draft = d; stands = stands }

-- a pattern is added, and its number stands for it
abbrev pub with_pattern : List ℕ → PatRow → Draft → Made
with_pattern sheet row d = made (add_pattern row d) (next_pattern sheet d ∷ [])

-- where a list starts: "empty lists' starts 0"
unfoldable pub list_from : List ℕ → List ℕ → Draft → ℕ
list_from sheet [] d = 0
list_from sheet (w ∷ ws) d = next_word sheet d

-- a row with its list and count
abbrev pub with_list : PatRow → ℕ → ℕ → PatRow
with_list row from many = pattern_row row.kind row.ty row.derefs from many row.c row.d

-- the type that a name is bound at: an array is looked for, or added
abbrev pub array_row : ℕ → ℕ → ℕ → TypeRow
array_row element many copy = record { kind = 8; a = element; b = many; c = 0; copy = copy }

unfoldable pub with_bound_at : List ℕ → BoundAt → Draft → Draft
with_bound_at sheet (bound_at_type t) d = d
with_bound_at sheet (bound_at_array element many copy) d = with_type sheet (array_row element many copy) d

unfoldable pub bound_type : List ℕ → BoundAt → Draft → ℕ
bound_type sheet (bound_at_type t) d = t
bound_type sheet (bound_at_array element many copy) d = number_of_type sheet (array_row element many copy) d

-- by value the type itself, by ref a reference with copy flag 1, by ref mut one with 0
abbrev pub reference_row : ℕ → ℕ → TypeRow
reference_row t mode = record { kind = 7; a = t; b = 0; c = 0; copy = cond (eqb mode by_ref) 1 0 }

unfoldable pub with_mode : List ℕ → ℕ → ℕ → Draft → Draft
with_mode sheet mode t d = cond (eqb mode by_value) d (with_type sheet (reference_row t mode) d)

unfoldable pub mode_type : List ℕ → ℕ → ℕ → Draft → ℕ
mode_type sheet mode t d = cond (eqb mode by_value) t (number_of_type sheet (reference_row t mode) d)

-- the first Bind of a name makes its binding, "picked", and the types that it lacks, an array before the reference to it
unfoldable pub new_binding : List ℕ → ℕ → List ℕ → BoundAt → Draft → Draft
new_binding sheet mode name at d =
    add_binding
    (record { ty = mode_type sheet mode (bound_type sheet at d) (with_bound_at sheet at d); picked = 1 })
    name
    (with_mode sheet mode (bound_type sheet at d) (with_bound_at sheet at d))

unfoldable pub with_binding : List ℕ → Option ℕ → ℕ → List ℕ → BoundAt → Draft → Draft
with_binding sheet none mode name at d = new_binding sheet mode name at d
with_binding sheet (some b) mode name at d = d

-- its number
unfoldable pub binding_number : List ℕ → Option ℕ → Draft → ℕ
binding_number sheet none d = next_binding sheet d
binding_number sheet (some b) d = binding_count sheet + b

-- what stands for the one part that there may be
abbrev pub first_or : List ℕ → ℕ → ℕ
first_or stands other = get_or stands 0 other

-- the words of a slice's items without its rest, how many stand before it and behind it, and the rest's own
unfoldable pub item_words : Option ℕ → List ℕ → List ℕ
item_words none stands = stands
item_words (some before) stands = take before stands ++ drop (suc before) stands

unfoldable pub prefix_count : Option ℕ → ℕ → ℕ
prefix_count none many = many
prefix_count (some before) many = before

unfoldable pub suffix_count : Option ℕ → ℕ → ℕ
suffix_count none many = 0
suffix_count (some before) many = many - suc before

unfoldable pub rest_word : Option ℕ → List ℕ → ℕ
rest_word none stands = absent
rest_word (some before) stands = get_or stands before absent

-- what is added for a node whose parts are made, and what stands for it. Its parts stand in a list (Tuple, TupleStruct, Record, Or, Slice), or
-- are the bounds of a Range, a Bind's or a Ref's subpattern
unfoldable pub emit_node : List ℕ → Making → ℕ → List ℕ → Draft → Made
emit_node sheet not_made many stands d = made d []
emit_node sheet (row_made row) many stands d = with_pattern sheet row d
emit_node sheet (literal_made t derefs v) many stands d =
    with_pattern sheet (pattern_row 10 t derefs (next_word sheet d) 0 0 0) (add_operand sheet v d)
emit_node sheet (operand_made v) many stands d = made (add_operand sheet v d) (next_word sheet d ∷ [])
emit_node sheet (operand_named o) many stands d = made d (o ∷ [])
emit_node sheet (range_made t derefs lower upper dots) many stands d =
    with_pattern sheet
    (pattern_row 7 t derefs (cond lower (get_or stands 0 absent) absent) (cond upper (get_or stands (cond lower 1 0) absent) absent) (cond dots 1 0) 0)
    d
emit_node sheet (bind_made t mode annotation name at) many stands d =
    with_pattern sheet
    (pattern_row 11 t 0 (binding_number sheet (binding_for d name) d) (first_or stands absent) mode annotation)
    (with_binding sheet (binding_for d name) mode name at d)
emit_node sheet (reference_made t) many stands d = with_pattern sheet (pattern_row 13 t 0 (first_or stands absent) 0 0 0) d
emit_node sheet (list_made row) many stands d = with_pattern sheet (with_list row (list_from sheet stands d) many) (add_words stands d)
emit_node sheet (slice_made t derefs before) many stands d =
    with_pattern sheet
    (pattern_row 8 t derefs (list_from sheet (item_words before stands) d) (prefix_count before many) (suffix_count before many) (rest_word before stands))
    (add_words (item_words before stands) d)
emit_node sheet (field_made number) many stands d = made d (number ∷ stands)

unfoldable mutual
  -- a pattern that is read at a context: its parts, then itself
  pub emitted : List ℕ → List ℕ → Written → Context → Draft → Made
  emitted sheet names (written at n ps) context d =
      emit_node sheet
      (resolved sheet names at n (part_count ps) context).making
      (part_count ps)
      (emitted_parts sheet names ps (resolved sheet names at n (part_count ps) context).reads d).stands
      (emitted_parts sheet names ps (resolved sheet names at n (part_count ps) context).reads d).draft

  -- parts in the text's order, and what stands for them
  pub emitted_parts : List ℕ → List ℕ → Parts → PartsRead → Draft → Made
  emitted_parts sheet names no_parts reads d = made d []
  emitted_parts sheet names (more ps w) reads d =
      made
      (emitted sheet names w (part_context sheet reads (part_count ps)) (emitted_parts sheet names ps reads d).draft).draft
      ((emitted_parts sheet names ps reads d).stands
      ++ (emitted sheet names w (part_context sheet reads (part_count ps)) (emitted_parts sheet names ps reads d).draft).stands)
