-- Trees in which the number of items before `..` is a word. Assumes nothing: these are definitions.
use Rattle.std.specs.Prelude.{Bool, true, ◌&&◌, ltb}
use Rattle.pattern_syntax.specs.Written.{Node, wildcard_node, rest_node, literal_node, bound_node, bound_path_node, range_node, path_node, ident_node, reference_node, tuple_node, tuple_struct_node, slice_node, record_node, field_node, or_node, Written, written, Parts, no_parts, more}
use Rattle.pattern_typing.specs.Making.{or_absent}

unfoldable pub ellipsis_fits : Node → Bool
ellipsis_fits wildcard_node = true
ellipsis_fits rest_node = true
ellipsis_fits (literal_node v) = true
ellipsis_fits (bound_node v) = true
ellipsis_fits (bound_path_node n) = true
ellipsis_fits (range_node lower upper dots) = true
ellipsis_fits (path_node n) = true
ellipsis_fits (ident_node r m n) = true
ellipsis_fits (reference_node m) = true
ellipsis_fits (tuple_node before) = ltb (or_absent before) 65536
ellipsis_fits (tuple_struct_node n before) = ltb (or_absent before) 65536
ellipsis_fits (slice_node before) = true
ellipsis_fits (record_node n) = true
ellipsis_fits (field_node n) = true
ellipsis_fits or_node = true

unfoldable mutual
  pub ellipses_fit : Written → Bool
  ellipses_fit (written at n ps) = ellipsis_fits n && parts_ellipses_fit ps

  pub parts_ellipses_fit : Parts → Bool
  parts_ellipses_fit no_parts = true
  parts_ellipses_fit (more ps w) = parts_ellipses_fit ps && ellipses_fit w
