-- Request S-14 as a whole: a text, a type sheet, a name table and an expected type give an image, or are refused by number and position.
-- Assumes nothing: these are definitions.
use Rattle.std.specs.Prelude.{ℕ, cond, ◌&&◌, List, ltb}
use Rattle.std.proofs.Math.Option.{Option, none, some}
use Rattle.image.specs.Tables.{type_count}
use Rattle.image.specs.Rules.{absent}
use Rattle.pattern_grammar.specs.Trees.{Pattern}
use Rattle.pattern_grammar.specs.Machine.{Reading, begin, expect, read_amp, read_ref, read_mut, read_name, read_bound, read_path, read_sep, read_minus, read_literal, read_dots, read_from, read_to, read_to_path, read_alt, read_brace, read_label, read_index, read_field, read_etc, done, failed}
use Rattle.pattern_grammar.specs.Parsed.{parsed}
use Rattle.pattern_syntax.specs.Written.{Written}
use Rattle.pattern_syntax.specs.Reduced.{reduced}
use Rattle.type_sheets.specs.Sheets.{sheet_holds}
use Rattle.name_tables.specs.Names.{names_hold}
use Rattle.pattern_typing.specs.Crossing.{by_value}
use Rattle.pattern_typing.specs.Contexts.{typed}
use Rattle.pattern_typing.specs.Failing.{refused_in}
use Rattle.pattern_images.specs.Drafts.{Draft, empty_draft}
use Rattle.pattern_images.specs.Emitting.{emitted}
use Rattle.pattern_images.specs.Imaging.{image_with, within_image_limits}

-- an image's bytes, or a number and a position, 65535 if none; the reason is 0
pub data Answer : Type 0 where
  image_of : List ℕ → Answer
  refused_with : ℕ → ℕ → Answer

-- a text's tree, or where it fails
pub data Outcome : Type 0 where
  tree_is : Pattern → Outcome
  fails_at : ℕ → Outcome

unfoldable pub outcome : Reading → Outcome
outcome (begin o) = fails_at 0
outcome (expect s) = fails_at 0
outcome (read_amp a s) = fails_at 0
outcome (read_ref i r) = fails_at 0
outcome (read_mut i r u) = fails_at 0
outcome (read_name n s) = fails_at 0
outcome (read_bound b s) = fails_at 0
outcome (read_path p c n s) = fails_at 0
outcome (read_sep p c i) = fails_at 0
outcome (read_minus c i) = fails_at 0
outcome (read_literal v s) = fails_at 0
outcome (read_dots d l) = fails_at 0
outcome (read_from a d l) = fails_at 0
outcome (read_to h l) = fails_at 0
outcome (read_to_path p h l) = fails_at 0
outcome (read_alt c) = fails_at 0
outcome (read_brace h fs s) = fails_at 0
outcome (read_label n h fs s) = fails_at 0
outcome (read_index i h fs s) = fails_at 0
outcome (read_field f h fs s) = fails_at 0
outcome (read_etc d h fs s) = fails_at 0
outcome (done p e) = tree_is p
outcome (failed at) = fails_at at

-- what a pattern adds to a sheet, read at the expected type
abbrev pub draft_of : List ℕ → List ℕ → ℕ → Written → Draft
draft_of sheet names expected w = (emitted sheet names w (typed expected by_value) empty_draft).draft

-- "an image past a limit is number 1 after both"
unfoldable pub imaged : List ℕ → Draft → Answer
imaged sheet d = cond (within_image_limits sheet d) (image_of (image_with sheet d)) (refused_with 1 absent)

-- 20, or the image
unfoldable pub unless_refused : Option ℕ → Answer → Answer
unless_refused none go = go
unless_refused (some at) go = refused_with 20 at

unfoldable pub read_typed : List ℕ → List ℕ → ℕ → Written → Answer
read_typed sheet names expected w =
    unless_refused (refused_in sheet names w (typed expected by_value)) (imaged sheet (draft_of sheet names expected w))

-- 1 for the sheet, 2 for the expected type and the name table
unfoldable pub read_tree : List ℕ → List ℕ → ℕ → Written → Answer
read_tree sheet names expected w =
    cond (sheet_holds sheet)
    (cond (ltb expected (type_count sheet) && names_hold sheet names) (read_typed sheet names expected w) (refused_with 2 absent))
    (refused_with 1 absent)

-- 19 first, by the text alone; then 1 for the sheet, 2 for the type and the name table, 20, and 1 for a limit
unfoldable pub after_parsing : List ℕ → List ℕ → List ℕ → ℕ → Outcome → Answer
after_parsing text sheet names expected (fails_at at) = refused_with 19 at
after_parsing text sheet names expected (tree_is p) = read_tree sheet names expected (reduced text p)

unfoldable pub read_pattern : List ℕ → List ℕ → List ℕ → ℕ → Answer
read_pattern text sheet names expected = after_parsing text sheet names expected (outcome (parsed text))
