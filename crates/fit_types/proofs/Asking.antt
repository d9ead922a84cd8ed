-- A pattern fits where its type is the place's and its parts fit: the definition, cut up by the kinds of rows. Assumes nothing.
use Prim.Native.Nat.{ℕ, ◌+◌, ◌<◌}
use mathlib.Core.Path.{◌≡◌, refl, sym, ap, ◌∙◌}
use mathlib.Core.Bool.{Bool, true, false, ◌&&◌}
use mathlib.Core.Option.{Option}
use mathlib.Core.List.{List}
use Rattle.image.specs.declared.Tables.{Tables}
use Rattle.image.specs.declared.kinds.PatKind.{PatKind}
use Rattle.image.specs.declared.rows.PatRow.{PatRow}
use Rattle.image.specs.Tables.{Whole, pattern_count}
use Rattle.image.specs.Kinds.{pat_kind}
use Rattle.image.specs.Rows.{pat_at}
use Rattle.image.specs.Tree.{Pat, node_by, tree}
use Rattle.image.specs.Valid.{valid}
use Rattle.meaning.specs.Fit.{behind, is_type, type_is_the_places, types_fit}
use Rattle.fit_types.specs.Parts.{fitting_at, parts_fit, Node}
use Rattle.fit_shapes.proofs.Nodes.{head_of, node_of_lem}
use Rattle.fit_types.proofs.Rowing.{fitting_length}

and_yes : (b : Bool) → b ≡ b && true
and_yes true = refl
and_yes false = refl

regroup3 : (a b c : Bool) → a && b && c ≡ a && (b && c)
regroup3 true b c = refl
regroup3 false b c = refl

regroup4 : (a b c d : Bool) → a && b && c && d ≡ a && (b && c && d)
regroup4 true b c d = refl
regroup4 false b c d = refl

regroup5 : (a b c d e : Bool) → a && b && c && d && e ≡ a && (b && c && d && e)
regroup5 true b c d e = refl
regroup5 false b c d e = refl

module _ (image : List ℕ) (p : ℕ) (row : PatRow) (place : Option ℕ) where
  abbrev here : Bool
  here = type_is_the_places image (head_of p row) place

  -- the definition's clauses, kind by kind
  pub cut_up : (k : PatKind) → types_fit image (node_by k (tree image) image (head_of p row) row) place ≡ here && parts_fit image k row
  unfolding types_fit node_by parts_fit fitting_at
  cut_up PatKind.Missing = and_yes here
  cut_up PatKind.Rest = and_yes here
  cut_up PatKind.NotNull = and_yes here
  cut_up PatKind.Wild = and_yes here
  cut_up PatKind.Tuple = refl
  cut_up PatKind.Or = refl
  cut_up PatKind.Record = regroup4 here _ _ _
  cut_up PatKind.Range = regroup4 here _ _ _
  cut_up PatKind.Slice = rw (fitting_length image 1 row.a row.b, fitting_length image 1 (row.a + row.b) row.c) (regroup5 here _ _ _ _)
  cut_up PatKind.Path = refl
  cut_up PatKind.Lit = refl
  cut_up PatKind.Bind = refl
  cut_up PatKind.TupleStruct = regroup3 here _ _
  cut_up PatKind.Ref = refl
  cut_up PatKind.Expr = and_yes here
  cut_up PatKind.Box = and_yes here
  cut_up PatKind.Deref = and_yes here
  cut_up PatKind.Unknown = and_yes here

-- the row of the pattern p, of its kind
pub node_at : {image : List ℕ} {tables : Tables} {p : ℕ} {row : PatRow} {kind : PatKind} → valid image ≡ true → Whole image tables → p < pattern_count image → row ≡ pat_at image p → kind ≡ pat_kind row.kind
    → Node image tables p row kind
node_at holds whole inside at told = record { parent = record { sound = holds; whole = whole; inside = inside }; at = at; told = told }

module _ {image : List ℕ} {tables : Tables} {p : ℕ} {row : PatRow} {kind : PatKind} (n : Node image tables p row kind) (place : Option ℕ) where
  asks : types_fit image (tree image p) place ≡ type_is_the_places image (head_of p row) place && parts_fit image kind row
  asks = ap (λ (x : Pat). types_fit image x place) (node_of_lem image p n.at n.parent.sound n.parent.inside n.told) ∙ cut_up image p row place kind

  module _ {r : Bool} (typed : r ≡ is_type (behind image row.derefs place) row.ty) where
    -- `types_fit`: the type is another
    pub other_type : r ≡ false → false ≡ types_fit image (tree image p) place
    unfolding type_is_the_places
    other_type e = sym (asks ∙ ap (λ (b : Bool). b && parts_fit image kind row) (sym typed ∙ e))

    -- the type is the place's
    pub own_type : r ≡ true → {s : Bool} → s ≡ parts_fit image kind row → s ≡ types_fit image (tree image p) place
    unfolding type_is_the_places
    own_type e fits = fits ∙ sym (asks ∙ ap (λ (b : Bool). b && parts_fit image kind row) (sym typed ∙ e))
