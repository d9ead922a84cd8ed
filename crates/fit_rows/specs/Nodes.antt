-- The rows of subpatterns of a pattern, and the binding that stands in the pattern itself. Assumes nothing: these are definitions.
use Rattle.std.specs.Prelude.{ℕ, zero, suc, ◌+◌, ◌-◌, ◌≤◌, ◌≡◌, Bool, true, false, cond, ◌&&◌, ◌||◌, List, [], ◌∷◌, eqb, leb, ltb}
use Rattle.image.specs.declared.BindingId.{BindingId}
use Rattle.image.specs.declared.kinds.PatKind.{PatKind}
use Rattle.image.specs.declared.kinds.TypeKind.{TypeKind}
use Rattle.image.specs.declared.rows.PatRow.{PatRow}
use Rattle.image.specs.declared.rows.TypeRow.{TypeRow}
use Rattle.image.specs.Tables.{pattern_count, list_count}
use Rattle.image.specs.Kinds.{pat_kind, type_kind}
use Rattle.image.specs.Rows.{pat_at, type_at, list_at}
use Rattle.image.specs.Rules.{absent}
use Rattle.image.specs.Tree.{Pats, trees, tree}
use Rattle.fit_rows.specs.declared.nodes.Row.{Row}
use Rattle.fit_rows.specs.declared.nodes.Own.{Own}
use Rattle.fit_rows.specs.declared.nodes.Node.{Node}

-- the pattern at a place of a row: with step 0 the place is its number, else the word at the place in the list is
unfoldable pub number_at : List ℕ → ℕ → ℕ → ℕ
number_at image zero from = from
number_at image (suc step) from = list_at image from

-- the patterns of a row
unfoldable pub numbers : List ℕ → ℕ → ℕ → ℕ → List ℕ
numbers image step from zero = []
numbers image step from (suc count) = number_at image step from ∷ numbers image step (from + step) count

-- their trees
abbrev pub row_trees : List ℕ → Row → Pats
row_trees image row = trees (tree image) (numbers image row.step row.from row.count)

-- each pattern of a row is there, and its number is below a bound
unfoldable pub there : List ℕ → ℕ → ℕ → ℕ → ℕ → Bool
there image bound step from zero = true
there image bound step from (suc count) =
    leb step 2
    && (eqb step 0 || ltb from (list_count image))
    && ltb (number_at image step from) bound
    && there image bound step (from + step) count

pub record Lies (image : List ℕ) (row : Row) : Type 0 where
  pub found : there image row.below row.step row.from row.count ≡ true
  pub bound : row.below ≤ pattern_count image

-- the row without its first pattern
abbrev pub rest_of : Row → Row
rest_of row = record { below = row.below; step = row.step; from = row.from + row.step; count = row.count - 1 }

-- so many words of the list from a place on, each `step` behind the one before
abbrev pub listed_row : ℕ → ℕ → ℕ → ℕ → Row
listed_row p step from count = record { below = p; step = step; from = from; count = count }

-- a pattern that may be absent
abbrev pub present_row : ℕ → ℕ → Row
present_row p q = record { below = p; step = 0; from = q; count = cond (eqb q absent) 0 1 }

-- a row of one pattern
abbrev pub one_row : ℕ → ℕ → Row
one_row p q = record { below = p; step = 0; from = q; count = 1 }

-- no binding of its own
abbrev pub plain : Row → Node
plain row = record { own = Own.None; row = row; alternatives = false }

-- neither a binding nor a subpattern
abbrev pub bare : ℕ → Node
bare p = plain (listed_row p 0 absent 0)

-- an Or
abbrev pub alternatives_node : Row → Node
alternatives_node row = record { own = Own.None; row = row; alternatives = true }

-- a Bind
abbrev pub bind_node : ℕ → PatRow → Node
bind_node p row = record { own = Own.At (record { 0 = row.a }) row.ty; row = present_row p row.b; alternatives = false }

-- the binding of a rest, by the kind of the slice's type
unfoldable pub rest_of_type : TypeKind → TypeRow → BindingId → ℕ → ℕ → Own
rest_of_type TypeKind.Integer row b t items = Own.At b t
rest_of_type TypeKind.Bool row b t items = Own.At b t
rest_of_type TypeKind.Char row b t items = Own.At b t
rest_of_type TypeKind.Str row b t items = Own.At b t
rest_of_type TypeKind.Tuple row b t items = Own.At b t
rest_of_type TypeKind.Adt row b t items = Own.At b t
rest_of_type TypeKind.Reference row b t items = Own.At b t
rest_of_type TypeKind.Array row b t items = Own.Rest b row.a (row.b - items)
rest_of_type TypeKind.Slice row b t items = Own.At b t
rest_of_type TypeKind.Unknown row b t items = Own.At b t

-- a rest that is a Bind binds the binding that the word a of its row is
unfoldable pub rest_by_kind : PatKind → List ℕ → ℕ → ℕ → ℕ → Own
rest_by_kind PatKind.Missing image a t items = Own.None
rest_by_kind PatKind.Rest image a t items = Own.None
rest_by_kind PatKind.NotNull image a t items = Own.None
rest_by_kind PatKind.Wild image a t items = Own.None
rest_by_kind PatKind.Tuple image a t items = Own.None
rest_by_kind PatKind.Or image a t items = Own.None
rest_by_kind PatKind.Record image a t items = Own.None
rest_by_kind PatKind.Range image a t items = Own.None
rest_by_kind PatKind.Slice image a t items = Own.None
rest_by_kind PatKind.Path image a t items = Own.None
rest_by_kind PatKind.Lit image a t items = Own.None
rest_by_kind PatKind.Bind image a t items = rest_of_type (type_kind (type_at image t).kind) (type_at image t) (record { 0 = a }) t items
rest_by_kind PatKind.TupleStruct image a t items = Own.None
rest_by_kind PatKind.Ref image a t items = Own.None
rest_by_kind PatKind.Expr image a t items = Own.None
rest_by_kind PatKind.Box image a t items = Own.None
rest_by_kind PatKind.Deref image a t items = Own.None
rest_by_kind PatKind.Unknown image a t items = Own.None

-- a rest that may be absent
unfoldable pub rest_own : List ℕ → ℕ → ℕ → ℕ → Own
rest_own image d t items = cond (eqb d absent) Own.None (rest_by_kind (pat_kind (pat_at image d).kind) image (pat_at image d).a t items)

-- the pattern p by its row: the binding that stands in it, and its subpatterns, which of a Slice are its prefix and its suffix
unfoldable pub node_by : PatKind → List ℕ → ℕ → PatRow → Node
node_by PatKind.Missing image p row = bare p
node_by PatKind.Rest image p row = bare p
node_by PatKind.NotNull image p row = bare p
node_by PatKind.Wild image p row = bare p
node_by PatKind.Tuple image p row = plain (listed_row p 1 row.a row.b)
node_by PatKind.Or image p row = alternatives_node (listed_row p 1 row.a row.b)
node_by PatKind.Record image p row = plain (listed_row p 2 (row.a + 1) row.b)
node_by PatKind.Range image p row = bare p
node_by PatKind.Slice image p row =
    record {
      own = rest_own image row.d row.ty (row.b + row.c);
      row = listed_row p 1 row.a (row.b + row.c);
      alternatives = false;
    }
node_by PatKind.Path image p row = bare p
node_by PatKind.Lit image p row = bare p
node_by PatKind.Bind image p row = bind_node p row
node_by PatKind.TupleStruct image p row = plain (listed_row p 1 row.a row.b)
node_by PatKind.Ref image p row = plain (one_row p row.a)
node_by PatKind.Expr image p row = bare p
node_by PatKind.Box image p row = bare p
node_by PatKind.Deref image p row = bare p
node_by PatKind.Unknown image p row = bare p

abbrev pub node_of : List ℕ → ℕ → Node
node_of image p = node_by (pat_kind (pat_at image p).kind) image p (pat_at image p)

-- one or none
unfoldable pub first_only : ℕ → ℕ
first_only zero = 0
first_only (suc n) = 1

-- the subpatterns whose bindings are the pattern's: of an Or the first alternative
unfoldable pub telling_of : Node → Row
telling_of node =
    cond
    node.alternatives
    (record { below = node.row.below; step = node.row.step; from = node.row.from; count = first_only node.row.count })
    node.row
