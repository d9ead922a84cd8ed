-- The pattern tree, and how it is read out of an image. Assumes nothing: these are definitions.
use Rattle.std.specs.Prelude.{ℕ, zero, suc, ◌+◌, Bool, cond, List, [], ◌∷◌, map, eqb}
use Rattle.std.proofs.Math.Option.{Option, none, some}
use Rattle.image.specs.declared.kinds.PatKind.{PatKind}
use Rattle.image.specs.declared.kinds.PathKind.{PathKind}
use Rattle.image.specs.declared.kinds.BindingMode.{BindingMode}
use Rattle.image.specs.declared.kinds.BindingAnnotation.{BindingAnnotation}
use Rattle.image.specs.declared.rows.PatRow.{PatRow}
use Rattle.image.specs.Kinds.{pat_kind, path_kind, binding_mode, binding_annotation}
use Rattle.image.specs.Rows.{pat_at}
use Rattle.image.specs.Rules.{absent, listed}
use Rattle.image.specs.Types.{Operand, operand_of, is_set}

-- what every pattern has: its number, the number of its type, and how many references are crossed before it is looked at
pub record Head : Type 0 where
  pub number : ℕ
  pub ty : ℕ
  pub derefs : ℕ

-- what a path names; variants and bindings by their numbers
pub data Target : Type 0 where
  unresolved : Target
  variant : ℕ → Target
  local : ℕ → Target
  constant : Operand → Target
  other : Target

-- a pattern of each of the 17 kinds, in document 01's order
mutual
  pub data Pat : Type 0 where
    Missing : Head → Pat
    Rest : Head → Pat
    NotNull : Head → Pat
    Wild : Head → Pat
    -- the arguments, and how many stand before the ellipsis
    Tuple : Head → Pats → Option ℕ → Pat
    -- the alternatives
    Or : Head → Pats → Pat
    -- the fields' numbers, their patterns, and the variant
    Record : Head → List (Option ℕ) → Pats → Option ℕ → Pat
    -- the two ends, and whether it is half-open
    Range : Head → Option Operand → Option Operand → Bool → Pat
    -- the prefix, the rest and the suffix
    Slice : Head → Pats → PatOpt → Pats → Pat
    Path : Head → Target → Pat
    Lit : Head → Operand → Pat
    -- the binding, the subpattern, and how it binds
    Bind : Head → ℕ → PatOpt → BindingMode → BindingAnnotation → Pat
    -- the arguments, how many stand before the ellipsis, and the variant
    TupleStruct : Head → Pats → Option ℕ → Option ℕ → Pat
    Ref : Head → Pat → Pat
    Expr : Head → Pat
    Box : Head → Pat
    Deref : Head → Pat

  -- patterns in a row
  pub data Pats : Type 0 where
    nil : Pats
    cons : Pat → Pats → Pats

  -- a pattern that may be absent
  pub data PatOpt : Type 0 where
    no : PatOpt
    sub : Pat → PatOpt

-- a word that may be absent
unfoldable pub word? : ℕ → Option ℕ
word? w = cond (eqb w absent) none (some w)

-- an operand that may be absent
unfoldable pub operand? : List ℕ → ℕ → Option Operand
operand? image o = cond (eqb o absent) none (some (operand_of image o))

-- the patterns with these numbers, where g has the tree of each number
unfoldable pub trees : (ℕ → Pat) → List ℕ → Pats
trees g [] = nil
trees g (q ∷ qs) = cons (g q) (trees g qs)

unfoldable pub tree? : (ℕ → Pat) → ℕ → PatOpt
tree? g q = cond (eqb q absent) no (sub (g q))

unfoldable pub target : PathKind → List ℕ → ℕ → Target
target PathKind.Unresolved image b = unresolved
target PathKind.Variant image b = variant b
target PathKind.Local image b = local b
target PathKind.Constant image b = constant (operand_of image b)
target PathKind.Other image b = other
target PathKind.Unknown image b = other

-- the tree of a row, by its kind, where g has the trees of its subpatterns. (No valid image has a row of no kind.)
unfoldable pub node_by : PatKind → (ℕ → Pat) → List ℕ → Head → PatRow → Pat
node_by PatKind.Missing g image h row = Pat.Missing h
node_by PatKind.Rest g image h row = Pat.Rest h
node_by PatKind.NotNull g image h row = Pat.NotNull h
node_by PatKind.Wild g image h row = Pat.Wild h
node_by PatKind.Tuple g image h row = Pat.Tuple h (trees g (listed image 1 row.a row.b)) (word? row.c)
node_by PatKind.Or g image h row = Pat.Or h (trees g (listed image 1 row.a row.b))
node_by PatKind.Record g image h row =
    Pat.Record h (map word? (listed image 2 row.a row.b)) (trees g (listed image 2 (row.a + 1) row.b)) (word? row.c)
node_by PatKind.Range g image h row = Pat.Range h (operand? image row.a) (operand? image row.b) (is_set row.c)
node_by PatKind.Slice g image h row =
    Pat.Slice h (trees g (listed image 1 row.a row.b)) (tree? g row.d) (trees g (listed image 1 (row.a + row.b) row.c))
node_by PatKind.Path g image h row = Pat.Path h (target (path_kind row.a) image row.b)
node_by PatKind.Lit g image h row = Pat.Lit h (operand_of image row.a)
node_by PatKind.Bind g image h row = Pat.Bind h row.a (tree? g row.b) (binding_mode row.c) (binding_annotation row.d)
node_by PatKind.TupleStruct g image h row = Pat.TupleStruct h (trees g (listed image 1 row.a row.b)) (word? row.c) (word? row.d)
node_by PatKind.Ref g image h row = Pat.Ref h (g row.a)
node_by PatKind.Expr g image h row = Pat.Expr h
node_by PatKind.Box g image h row = Pat.Box h
node_by PatKind.Deref g image h row = Pat.Deref h
node_by PatKind.Unknown g image h row = Pat.Missing h

-- the node of the pattern p over the trees that g has of its subpatterns
unfoldable pub node : (ℕ → Pat) → List ℕ → ℕ → Pat
node g image p =
    node_by (pat_kind (pat_at image p).kind) g image (record { number = p; ty = (pat_at image p).ty; derefs = (pat_at image p).derefs }) (pat_at image p)

-- the tree of the pattern p, so many levels deep
unfoldable pub tree_of : ℕ → List ℕ → ℕ → Pat
tree_of zero image p = Pat.Missing (record { number = p; ty = 0; derefs = 0 })
tree_of (suc levels) image p = node (tree_of levels image) image p

-- the tree of the pattern p: p + 1 levels are enough, since a subpattern's number is below its parent's
unfoldable pub tree : List ℕ → ℕ → Pat
tree image p = tree_of (suc p) image p
