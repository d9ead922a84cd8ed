-- What is made of a text's tree, where none of it is refused, meets what `make_image` asks for. Assumes nothing.
use Prim.Native.Nat.{ℕ}
use mathlib.Core.Path.{◌≡◌}
use mathlib.Core.Bool.{true}
use mathlib.Core.Option.{none}
use mathlib.Core.List.{List}
use Rattle.image.specs.declared.Tables.{Tables}
use Rattle.image.specs.Tables.{Whole}
use Rattle.type_sheets.specs.Sheets.{sheet_holds}
use Rattle.pattern_grammar.specs.Trees.{Pattern}
use Rattle.pattern_grammar.specs.Parsed.{parsed}
use Rattle.pattern_syntax.specs.Reduced.{reduced}
use Rattle.pattern_typing.specs.Contexts.{typed}
use Rattle.pattern_typing.specs.Closed.{makings}
use Rattle.pattern_typing.specs.Failing.{refused_in}
use Rattle.pattern_reading.specs.Reads.{tree_is, outcome}
use Rattle.tree_forms.proofs.Forms.{tree_formed}
use Rattle.draft_stack.proofs.Upward.{tree_parts_stand}
use Rattle.image_making.specs.Images.{ImageReady}
use Rattle.literal_bounds.proofs.Texts.{text_literals_fit}

pub text_image_ready : (text sheet names : List ℕ) (tables : Tables) (p : Pattern) (t mode : ℕ) → outcome (parsed text) ≡ tree_is p → Whole sheet tables →
    sheet_holds sheet ≡ true → refused_in sheet names (reduced text p) (typed t mode) ≡ none →
    ImageReady sheet tables (makings sheet names (reduced text p) (typed t mode))
text_image_ready text sheet names tables p t mode tree whole ruled free =
    record {
      whole = whole;
      ruled = ruled;
      stand = tree_parts_stand sheet names (reduced text p) t mode (tree_formed text p tree) free;
      fit = text_literals_fit text p tree sheet names (typed t mode);
    }
