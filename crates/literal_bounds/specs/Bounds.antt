-- Trees whose literals have 16 bytes or fewer. Assumes nothing: these are definitions.
use Rattle.std.specs.Prelude.{ℕ, ◌≡◌, Bool, true, ◌&&◌, List}
use Rattle.pattern_grammar.specs.Trees.{Pattern}
use Rattle.pattern_grammar.specs.Parsed.{parsed}
use Rattle.pattern_syntax.specs.Written.{Node, wildcard_node, rest_node, literal_node, bound_node, bound_path_node, range_node, path_node, ident_node, reference_node, tuple_node, tuple_struct_node, slice_node, record_node, field_node, or_node, Written, written, Parts, no_parts, more}
use Rattle.pattern_syntax.specs.Reduced.{reduced}
use Rattle.pattern_typing.specs.Contexts.{Context}
use Rattle.pattern_typing.specs.Closed.{makings}
use Rattle.pattern_reading.specs.Reads.{tree_is, outcome}
use Rattle.draft_operands.specs.Literals.{literal_fits}
use Rattle.draft_makings.specs.Makings.{literals_fit}

unfoldable pub node_fits : Node → Bool
node_fits wildcard_node = true
node_fits rest_node = true
node_fits (literal_node v) = literal_fits v
node_fits (bound_node v) = literal_fits v
node_fits (bound_path_node n) = true
node_fits (range_node lower upper dots) = true
node_fits (path_node n) = true
node_fits (ident_node r m n) = true
node_fits (reference_node m) = true
node_fits (tuple_node before) = true
node_fits (tuple_struct_node n before) = true
node_fits (slice_node before) = true
node_fits (record_node n) = true
node_fits (field_node n) = true
node_fits or_node = true

unfoldable mutual
  pub tree_fits : Written → Bool
  tree_fits (written at n ps) = node_fits n && parts_fit ps

  pub parts_fit : Parts → Bool
  parts_fit no_parts = true
  parts_fit (more ps w) = parts_fit ps && tree_fits w

-- what is made of a text's tree, whatever the sheet and the names are and whatever it is read at
abbrev pub TextLiteralsFit : List ℕ → Pattern → Type 0
TextLiteralsFit text p =
    outcome (parsed text) ≡ tree_is p → (sheet names : List ℕ) (context : Context) → literals_fit (makings sheet names (reduced text p) context) ≡ true
