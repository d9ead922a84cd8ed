-- What the passes over a text's nodes answer, where what is handed in keeps its rules. Assumes nothing.
use Rattle.std.specs.Prelude.{Some, None, Ok, Err}
use Prim.Native.Nat.{ℕ, ◌≤◌}
use mathlib.Core.Path.{◌≡◌, refl, sym, ap, subst, ◌∙◌}
use mathlib.Core.Bool.{true}
use mathlib.Core.List.{List}
use native.Mathlib.Omega.{arith}
use lib.ListN.{length}
use Rattle.image.specs.declared.Tables.{Tables}
use Rattle.image.specs.Rules.{absent}
use Rattle.pattern_grammar.specs.Trees.{Pattern}
use Rattle.pattern_grammar.specs.Parsed.{parsed}
use Rattle.pattern_syntax.specs.Reduced.{reduced}
use Rattle.pattern_syntax.specs.Closing.{ClosedNode, closing}
use Rattle.type_sheets.specs.Sheets.{sheet_holds}
use Rattle.pattern_typing.specs.Crossing.{by_value}
use Rattle.pattern_typing.specs.Downward.{type_nodes, typing_of}
use Rattle.pattern_images.specs.Drafts.{Draft}
use Rattle.pattern_images.specs.Imaging.{image_with, within_image_limits}
use Rattle.pattern_reading.specs.Reads.{Outcome, tree_is, fails_at, outcome, unless_refused, imaged}
use Rattle.image_growth.proofs.Grows.{sheet_filled, length_tables, image_long}
use Rattle.image_growth.proofs.Limits.{few}
use Rattle.node_rows.specs.Nodes.{nodes_in}
use Rattle.node_rows.specs.Makings.{makings_in}
use Rattle.name_resolving.specs.Results.{Refused}
use Rattle.name_resolving.specs.Gives.{refused_of}
use Rattle.node_typing.specs.Rows.{PatternTyped}
use Rattle.node_typing.proofs.Typings.{tree_made, tree_refused}
use Rattle.image_making.specs.Images.{ImageReady, draft_up, ImageOf, NoImageOf}
use Rattle.parsing_machine.specs.Answers.{NodesOrFailure, nodes_are, fails_there, nodes_from, parsed_nodes}
use Rattle.token_parsing.specs.Standing.{NodesParsed}
use Rattle.reading_passes.specs.Passes.{emitted_from}
use Rattle.literal_bounds.proofs.Ready.{text_image_ready}
use Rattle.reading_typed.specs.Answers.{TablesRead, ReadsAs}

-- an image within the limits is at most 34,321 bytes long
image_few : (sheet : List ℕ) (d : Draft) → sheet_holds sheet ≡ true → within_image_limits sheet d ≡ true → length (image_with sheet d) ≤ 34321
image_few sheet d holds within =
    let f = few sheet d holds within in
    let l = length_tables sheet d (sheet_filled sheet holds) in
    let i = image_long sheet d in
    omega (arith, f.types, f.variants, f.patterns, f.bindings, f.words, f.bytes, l, i)

-- the tree that the nodes of a text are of
pub record TreeOf (text : List ℕ) (nodes : List ClosedNode) : Type 0 where
  pub tree : Pattern
  pub read : outcome (parsed text) ≡ tree_is tree
  pub same : nodes ≡ closing (reduced text tree)

unfoldable is_nodes : NodesOrFailure → List ClosedNode → List ClosedNode
is_nodes (nodes_are nodes) other = nodes
is_nodes (fails_there at) other = other

unfoldable are_nodes : NodesOrFailure → ℕ
are_nodes (nodes_are nodes) = 1
are_nodes (fails_there at) = 0

pub tree_of_lem : (text : List ℕ) (nodes : List ClosedNode) → nodes_are nodes ≡ parsed_nodes text → TreeOf text nodes
unfolding parsed_nodes nodes_from is_nodes are_nodes
tree_of_lem text nodes e = by (outcome (parsed text)) refl e
  where
    by : (o : Outcome) → outcome (parsed text) ≡ o → nodes_are nodes ≡ nodes_from text o → TreeOf text nodes
    by (tree_is p) r s = record { tree = p; read = r; same = ap (λ (n : NodesOrFailure). is_nodes n nodes) s }
    by (fails_at at) r s = absurd (let z : ◌≡◌ {A = ℕ} 1 0 = ap are_nodes s in omega arith)

-- behind the pass down
module _ {sheet names spelled nodes : List ℕ} {n expected : ℕ} {made : List ℕ} {r : Refused} (T : PatternTyped sheet names spelled nodes n expected made r) (text : List ℕ) (N : NodesParsed text spelled nodes n) where
  -- number 20
  pub refused_typed : (at : ℕ) (before : List ℕ) → r ≡ Some at →
      ReadsAs (emitted_from sheet (type_nodes sheet names (nodes_in text spelled nodes n) (typing_of expected))) before (Err (record { number = 20; position = at })) before
  unfolding emitted_from unless_refused refused_of
  refused_typed at before is = rw (sym (T.refuses text)) (rw is (refl, refl))

  -- what is made of nodes that are not refused finds its parts, and its literals are in 16 bytes
  pub image_ready : {tables : Tables} → TablesRead sheet tables names expected → r ≡ None → ImageReady sheet tables (makings_in text spelled made n)
  unfolding refused_of
  image_ready {tables} B is =
      let t = tree_of_lem text (nodes_in text spelled nodes n) N.same in
      let w = reduced text t.tree in
      let free = sym (tree_refused T text w t.same) ∙ ap refused_of is in
      subst (ImageReady sheet tables) (sym (tree_made T text w t.same))
      (text_image_ready text sheet names tables t.tree expected by_value t.read B.whole B.ruled free)

  -- the image that is made of it
  pub image_typed : (before after : List ℕ) (long : ℕ) → r ≡ None → sheet_holds sheet ≡ true
      → ImageOf sheet (draft_up sheet (makings_in text spelled made n)) before long after
      → ReadsAs (emitted_from sheet (type_nodes sheet names (nodes_in text spelled nodes n) (typing_of expected))) before (Ok long) after
  unfolding emitted_from unless_refused refused_of imaged
  image_typed before after long is holds I =
      rw (sym (T.refuses text))
      (rw (sym (T.makes text)) (rw is (rw I.within (ap Ok I.bytes, image_few sheet _ holds I.within, I.written))))

  -- or number 1
  pub limit_typed : (before after : List ℕ) → r ≡ None → NoImageOf sheet (draft_up sheet (makings_in text spelled made n)) before after
      → ReadsAs (emitted_from sheet (type_nodes sheet names (nodes_in text spelled nodes n) (typing_of expected))) before (Err (record { number = 1; position = absent })) after
  unfolding emitted_from unless_refused refused_of imaged
  limit_typed before after is I = rw (sym (T.refuses text)) (rw (sym (T.makes text)) (rw is (rw I.past (refl, I.kept))))
