-- Reading a text in passes: its nodes in the order in which they close; what is made of them, from the last to the first; what that adds to the sheet,
-- from the first to the last. Assumes nothing: these are definitions.
use Rattle.std.specs.Prelude.{ℕ, cond, ◌&&◌, List, [], ltb}
use Rattle.image.specs.Tables.{type_count}
use Rattle.image.specs.Rules.{absent}
use Rattle.pattern_syntax.specs.Closing.{ClosedNode}
use Rattle.type_sheets.specs.Sheets.{sheet_holds}
use Rattle.name_tables.specs.Names.{names_hold}
use Rattle.pattern_typing.specs.Downward.{Typed, type_nodes, typing_of}
use Rattle.pattern_images.specs.Drafts.{empty_draft}
use Rattle.pattern_reading.specs.Reads.{Answer, refused_with, imaged, unless_refused}
use Rattle.draft_stack.specs.Stack.{emit_up}
use Rattle.parsing_machine.specs.Answers.{NodesOrFailure, nodes_are, fails_there, parsed_nodes}

-- 20 by the pass down, or the image by the pass up
unfoldable pub emitted_from : List ℕ → Typed → Answer
emitted_from sheet t = unless_refused t.refused (imaged sheet (emit_up sheet t.makes [] empty_draft).draft)

-- 1 and 2 before them
unfoldable pub read_nodes : List ℕ → List ℕ → ℕ → List ClosedNode → Answer
read_nodes sheet names expected nodes =
    cond (sheet_holds sheet)
    (cond (ltb expected (type_count sheet) && names_hold sheet names) (emitted_from sheet (type_nodes sheet names nodes (typing_of expected))) (refused_with 2 absent))
    (refused_with 1 absent)

-- 19 first
unfoldable pub after_nodes : List ℕ → List ℕ → ℕ → NodesOrFailure → Answer
after_nodes sheet names expected (fails_there at) = refused_with 19 at
after_nodes sheet names expected (nodes_are nodes) = read_nodes sheet names expected nodes

unfoldable pub read_in_passes : List ℕ → List ℕ → List ℕ → ℕ → Answer
read_in_passes text sheet names expected = after_nodes sheet names expected (parsed_nodes text)
