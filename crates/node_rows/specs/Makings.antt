-- The rows of what is made of nodes, in the order in which they close: what each stands for. Assumes nothing: these are definitions.
use Rattle.std.specs.Prelude.{ℕ, zero, suc, ◌+◌, ◌*◌, cond, List, [], ◌∷◌, ◌++◌, eqb, get_or}
use Rattle.pattern_syntax.specs.Reduced.{bytes_from}
use Rattle.pattern_typing.specs.Making.{BoundAt, bound_at_type, bound_at_array, Making, not_made, row_made, literal_made, operand_made, operand_named, range_made, bind_made, reference_made, list_made, slice_made, field_made, pattern_row}
use Rattle.pattern_typing.specs.Closed.{ClosedMaking, closed_making}
use Rattle.node_rows.specs.declared.MakingRow.{MakingRow}
use Rattle.node_rows.specs.Nodes.{literal_in, number_in}

-- a row's words: 12 from 12 i on
unfoldable pub making_row_at : List ℕ → ℕ → MakingRow
making_row_at table i =
    record {
      kind = get_or table (12 * i) 0;
      parts = get_or table (12 * i + 1) 0;
      ty = get_or table (12 * i + 2) 0;
      derefs = get_or table (12 * i + 3) 0;
      a = get_or table (12 * i + 4) 0;
      b = get_or table (12 * i + 5) 0;
      c = get_or table (12 * i + 6) 0;
      from = get_or table (12 * i + 7) 0;
      to = get_or table (12 * i + 8) 0;
      element = get_or table (12 * i + 9) 0;
      many = get_or table (12 * i + 10) 0;
      copy = get_or table (12 * i + 11) 0;
    }

-- what a name is bound at: the row's own type, where `element` is 65535, or an array
unfoldable pub bound_at_in : MakingRow → BoundAt
bound_at_in row = cond (eqb row.element 65535) (bound_at_type row.ty) (bound_at_array row.element row.many row.copy)

-- what a row stands for, by its kind: a row's pattern kind in `a`, its words in `b` and `c`; a literal's sort in `a`; a range's bounds and dots in `a`, `b`
-- and `c`; a binding's mode and annotation in `a` and `b`; how many items stand before a slice's rest, a constant's word or a field's number in `a`
unfoldable pub making_of : List ℕ → List ℕ → MakingRow → Making
making_of text names row =
    cond (eqb row.kind 0) not_made
    (cond (eqb row.kind 1) (row_made (pattern_row row.a row.ty row.derefs row.b row.c 0 0))
    (cond (eqb row.kind 2) (literal_made row.ty row.derefs (literal_in text row.a row.from row.to))
    (cond (eqb row.kind 3) (operand_made (literal_in text row.a row.from row.to))
    (cond (eqb row.kind 4) (operand_named row.a)
    (cond (eqb row.kind 5) (range_made row.ty row.derefs (eqb row.a 1) (eqb row.b 1) (eqb row.c 1))
    (cond (eqb row.kind 6) (bind_made row.ty row.a row.b (bytes_from names row.from row.to) (bound_at_in row))
    (cond (eqb row.kind 7) (reference_made row.ty)
    (cond (eqb row.kind 8) (list_made (pattern_row row.a row.ty row.derefs 0 0 row.b row.c))
    (cond (eqb row.kind 9) (slice_made row.ty row.derefs (number_in row.a))
    (field_made row.a))))))))))

unfoldable pub closed_making_of : List ℕ → List ℕ → MakingRow → ClosedMaking
closed_making_of text names row = closed_making (making_of text names row) row.parts

-- the first n rows
unfoldable pub makings_in : List ℕ → List ℕ → List ℕ → ℕ → List ClosedMaking
makings_in text names table zero = []
makings_in text names table (suc n) = makings_in text names table n ++ (closed_making_of text names (making_row_at table n) ∷ [])
