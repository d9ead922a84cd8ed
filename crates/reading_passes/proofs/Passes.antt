-- Reading a text in passes is reading its tree. Assumes nothing.
use Prim.Native.Nat.{ℕ}
use mathlib.Core.Path.{◌≡◌, refl, sym, ap, ◌∙◌}
use mathlib.Core.Bool.{true, cond, ◌&&◌}
use mathlib.Core.Option.{Option, none, some}
use mathlib.Core.List.{List, []}
use lib.Dec.{ltb}
use Rattle.image.specs.Tables.{type_count}
use Rattle.image.specs.Rules.{absent}
use Rattle.pattern_grammar.specs.Trees.{Pattern}
use Rattle.pattern_grammar.specs.Parsed.{parsed}
use Rattle.pattern_syntax.specs.Written.{Written}
use Rattle.pattern_syntax.specs.Reduced.{reduced}
use Rattle.pattern_syntax.specs.Formed.{in_pattern, formed}
use Rattle.pattern_syntax.specs.Closing.{closing}
use Rattle.type_sheets.specs.Sheets.{sheet_holds}
use Rattle.name_tables.specs.Names.{names_hold}
use Rattle.pattern_typing.specs.Crossing.{by_value}
use Rattle.pattern_typing.specs.Contexts.{typed}
use Rattle.pattern_typing.specs.Failing.{refused_in}
use Rattle.pattern_typing.specs.Closed.{makings}
use Rattle.pattern_typing.specs.Downward.{type_nodes, typing_of}
use Rattle.pattern_typing.proofs.Downward.{state, pattern_typed}
use Rattle.pattern_images.specs.Drafts.{empty_draft}
use Rattle.pattern_images.specs.Emitting.{emitted}
use Rattle.pattern_reading.specs.Reads.{Answer, refused_with, Outcome, tree_is, fails_at, outcome, draft_of, imaged, unless_refused, read_typed, read_tree, after_parsing, read_pattern}
use Rattle.draft_stack.specs.Stack.{Stacked, stacked_on, emit_up}
use Rattle.draft_stack.proofs.Upward.{emitted_upward}
use Rattle.tree_forms.proofs.Forms.{tree_formed}
use Rattle.parsing_machine.specs.Answers.{nodes_from, parsed_nodes}
use Rattle.reading_passes.specs.Passes.{emitted_from, read_nodes, after_nodes, read_in_passes}

-- where nothing is refused, what is made adds to the sheet what the tree does
drafts_alike : (sheet names : List ℕ) (expected : ℕ) (w : Written) → formed w in_pattern ≡ true → (r : Option ℕ) → refused_in sheet names w (typed expected by_value) ≡ r
    → unless_refused r (imaged sheet (emit_up sheet (makings sheet names w (typed expected by_value)) [] empty_draft).draft)
    ≡ unless_refused r (imaged sheet (draft_of sheet names expected w))
unfolding unless_refused
drafts_alike sheet names expected w form (some at) e = refl
drafts_alike sheet names expected w form none e =
    ap (λ (s : Stacked). imaged sheet s.draft) (emitted_upward sheet names w expected by_value [] empty_draft form e)

passes_tree : (sheet names : List ℕ) (expected : ℕ) (w : Written) → formed w in_pattern ≡ true → read_typed sheet names expected w ≡ emitted_from sheet (type_nodes sheet names (closing w) (typing_of expected))
unfolding read_typed emitted_from
passes_tree sheet names expected w form =
    rw (pattern_typed sheet names w expected) (sym (drafts_alike sheet names expected w form (refused_in sheet names w (typed expected by_value)) refl))

tree_in_passes : (sheet names : List ℕ) (expected : ℕ) (w : Written) → formed w in_pattern ≡ true → read_tree sheet names expected w ≡ read_nodes sheet names expected (closing w)
unfolding read_tree read_nodes
tree_in_passes sheet names expected w form =
    ap
    (λ (a : Answer). cond (sheet_holds sheet) (cond (ltb expected (type_count sheet) && names_hold sheet names) a (refused_with 2 absent)) (refused_with 1 absent))
    (passes_tree sheet names expected w form)

-- The theorem: what is read in passes is what the definition reads, for every text, sheet, name table and type.
pub read_in_passes_lem : (text sheet names : List ℕ) (expected : ℕ) → read_pattern text sheet names expected ≡ read_in_passes text sheet names expected
unfolding read_pattern after_parsing read_in_passes after_nodes parsed_nodes nodes_from
read_in_passes_lem text sheet names expected = by (outcome (parsed text)) refl
  where
    by : (o : Outcome) → outcome (parsed text) ≡ o → after_parsing text sheet names expected o ≡ after_nodes sheet names expected (nodes_from text o)
    by (fails_at at) e = refl
    by (tree_is p) e = tree_in_passes sheet names expected (reduced text p) (tree_formed text p e)
