-- What is looked for among the bindings of a row of patterns, and what is asked of each of them. Assumes nothing: these are definitions.
use Rattle.std.specs.Prelude.{ℕ, Bool, true, false, not, cond, ◌&&◌, ◌||◌, List, [], ◌∷◌, map, eqb}
use Rattle.std.proofs.Math.Option.{none, some}
use Rattle.image.specs.Lists.{member}
use Rattle.meaning.specs.Fit.{BoundAt, same_count, stands_in, bound_in_all, bind_once, alternatives_fit}
use Rattle.fit_rows.specs.declared.nodes.Row.{Row}
use Rattle.fit_rows.specs.declared.nodes.Own.{Own}
use Rattle.fit_rows.specs.declared.nodes.Node.{Node}
use Rattle.fit_rows.specs.declared.found.Wanted.{Wanted}
use Rattle.fit_rows.specs.declared.found.Test.{Test}
use Rattle.fit_rows.specs.Nodes.{row_trees}

-- f holds of one of the bindings
unfoldable pub any_of : (BoundAt → Bool) → List BoundAt → Bool
any_of f [] = false
any_of f (x ∷ xs) = f x || any_of f xs

-- f holds of each of the bindings
unfoldable pub all_of : (BoundAt → Bool) → List BoundAt → Bool
all_of f [] = true
all_of f (x ∷ xs) = f x && all_of f xs

-- the bindings of a row of patterns
abbrev pub bound_in_row : List ℕ → Row → List BoundAt
bound_in_row image row = bound_in_all image (row_trees image row)

-- the binding that stands in a pattern itself
unfoldable pub owned : Own → List BoundAt
owned Own.None = []
owned (Own.At b t) = record { binding = b.0; ty = t; length_left = none } ∷ []
owned (Own.Rest b t n) = record { binding = b.0; ty = t; length_left = some n } ∷ []

-- a binding at a type, or a binding at any type
unfoldable pub meets : Wanted → BoundAt → Bool
meets (Wanted.At b t) y = eqb b.0 y.binding && eqb t y.ty && same_count none y.length_left
meets (Wanted.Rest b t n) y = eqb b.0 y.binding && eqb t y.ty && same_count (some n) y.length_left
meets (Wanted.Binding b) y = eqb b.0 y.binding

-- a binding stands among others at the same type, or does not stand among them at any type
unfoldable pub agrees : Test → List BoundAt → BoundAt → Bool
agrees Test.Same ys x = stands_in x ys
agrees Test.Apart ys x = not (member x.binding (map (λ (y : BoundAt). y.binding) ys))

-- what a pattern asks of its subpatterns when they fit: alternatives bind the same, and in others no binding stands twice
unfoldable pub joins : List ℕ → Node → Bool
joins image node =
    cond node.alternatives (alternatives_fit image (row_trees image node.row)) (all_of (agrees Test.Apart (bound_in_row image node.row)) (owned node.own) && bind_once image (bound_in_row image node.row))
