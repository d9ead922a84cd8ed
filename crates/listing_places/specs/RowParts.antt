-- The parts of a row that the listing's functions read one by one. Assumes nothing: these are definitions.
use Rattle.std.specs.Prelude.{ℕ, ◌+◌, ◌*◌, List, [], ◌∷◌, map, get_or}
use Rattle.row_tables.specs.Rows.{rows_of}
use Rattle.place.specs.declared.elems.ProjectionElem.{ProjectionElem}
use Rattle.place.specs.Elems.{elem_of}
use Rattle.mir.specs.declared.rvalues.BinOp.{BinOp}
use Rattle.mir.specs.declared.rvalues.PlaceRvalue.{PlaceRvalue}
use Rattle.mir.specs.Statements.{statement_width}
use Rattle.views.specs.Views.{Rvalue, of_place, of_constant, binary, unknown_rvalue, Line, word, path_of, constant_at, left_of, line_of}

-- the element j of the place in a statement's row
unfoldable pub elem_at : List ℕ → ℕ → ProjectionElem
elem_at row j = elem_of (word row (17 + 2 * j) + 65536 * word row (17 + 2 * j + 1))

-- what a statement of each kind sets its local to, the kinds numbered from 0; 1 and 2, live and dead, set none
abbrev pub rvalue_kinds : List ℕ → List Rvalue
rvalue_kinds row =
    unknown_rvalue
    ∷ unknown_rvalue
    ∷ unknown_rvalue
    ∷ of_place PlaceRvalue.Copy (path_of row)
    ∷ of_place PlaceRvalue.Ref (path_of row)
    ∷ of_place PlaceRvalue.Mut (path_of row)
    ∷ of_place PlaceRvalue.Len (path_of row)
    ∷ of_place PlaceRvalue.Discr (path_of row)
    ∷ of_constant (constant_at row)
    ∷ binary BinOp.Eq (left_of row) (path_of row)
    ∷ binary BinOp.Le (left_of row) (path_of row)
    ∷ binary BinOp.Ge (left_of row) (path_of row)
    ∷ binary BinOp.Gt (left_of row) (path_of row)
    ∷ []

-- what the statement of a row sets its local to
unfoldable pub rvalue_of : List ℕ → Rvalue
rvalue_of row = get_or (rvalue_kinds row) (word row 1) unknown_rvalue

-- the first n statements of a table
abbrev pub lines_of : List ℕ → ℕ → List Line
lines_of table n = map line_of (rows_of statement_width table n)
