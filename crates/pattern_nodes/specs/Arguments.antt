-- Subpatterns by the rows of the image, and that they are there. Assumes nothing: these are definitions.
use Rattle.std.specs.Prelude.{ℕ, zero, suc, ◌+◌, ◌*◌, ◌<◌, ◌≤◌, ◌≡◌, true, ◌||◌, ◌⊎◌, List, [], ◌∷◌, map, eqb, ltb}
use Rattle.image.specs.declared.rows.PatRow.{PatRow}
use Rattle.image.specs.Tables.{variant_count, pattern_count, list_count}
use Rattle.image.specs.Rules.{listed}
use Rattle.image.specs.Tree.{tree, trees, word?}
use Rattle.place.specs.declared.elems.ProjectionElem.{ProjectionElem}
use Rattle.pattern_matching.specs.Walking.{Lowering}
use Rattle.pattern_matching.specs.Variants.{AdtPatternShape}
use Rattle.pattern_matching.specs.Patterns.{lowerings}
use Rattle.pattern_rows.specs.declared.AdtPatternShape as code
use Rattle.pattern_rows.specs.declared.ArgumentRow.{ArgumentRow}
use Rattle.pattern_rows.specs.Rows.{argument_elem, argument_pat, variant_word, variant_shape}

-- the lowerings of the `count` patterns whose numbers stand in the list from the word `from` on
unfoldable pub lowered : List ℕ → List ℕ → ℕ → ℕ → List Lowering
lowered image bindings from count = lowerings image bindings (trees (tree image) (listed image 1 from count))

-- the elements of so many arguments from the argument i on
unfoldable pub argument_elems : ArgumentRow → List ℕ → ℕ → ℕ → ℕ → ℕ → List ProjectionElem
argument_elems row image from fields i zero = []
argument_elems row image from fields i (suc count) = argument_elem row image from fields i ∷ argument_elems row image from fields (i + 1) count

-- and the numbers of the patterns that they are
unfoldable pub argument_pats : ArgumentRow → List ℕ → ℕ → ℕ → ℕ → List ℕ
argument_pats row image from i zero = []
argument_pats row image from i (suc count) = argument_pat row image from i ∷ argument_pats row image from (i + 1) count

-- the arguments of a pattern that names a variant, as the definitions have them
unfoldable pub shape_of : List ℕ → List ℕ → code.AdtPatternShape → AdtPatternShape
shape_of image bindings (code.AdtPatternShape.Tuple from count ellipsis) = AdtPatternShape.Tuple (lowered image bindings from count) (word? ellipsis)
shape_of image bindings (code.AdtPatternShape.Record from count) =
    AdtPatternShape.Record (map word? (listed image 2 from count)) (lowerings image bindings (trees (tree image) (listed image 2 (from + 1) count)))
shape_of image bindings code.AdtPatternShape.Unit = AdtPatternShape.Unit

-- the words of so many arguments lie in the list, and there is a field or an item for each of the last ones
abbrev pub RowLies : ArgumentRow → List ℕ → ℕ → ℕ → ℕ → Type 0
RowLies ArgumentRow.Fields image from fields count = from + count ≤ list_count image
RowLies ArgumentRow.LastFields image from fields count = (count ≤ from) × (from ≤ list_count image) × (count ≤ fields)
RowLies ArgumentRow.RecordFields image from fields count = from + 2 * count ≤ list_count image
RowLies ArgumentRow.Items image from fields count = from + count ≤ list_count image
RowLies ArgumentRow.LastItems image from fields count = (from + count ≤ list_count image) × (count ≤ fields)

-- so many arguments are there, and their patterns' numbers are below p
pub record ArgumentsThere (row : ArgumentRow) (image : List ℕ) (p from fields count : ℕ) : Type 0 where
  pub lies : RowLies row image from fields count
  pub below : (i : ℕ) → i < count → argument_pat row image from i < p

-- the same of the arguments of a pattern that names a variant
abbrev pub ShapeThere : List ℕ → ℕ → code.AdtPatternShape → Type 0
ShapeThere image p (code.AdtPatternShape.Tuple from count ellipsis) = ArgumentsThere ArgumentRow.Items image p from 0 count
ShapeThere image p (code.AdtPatternShape.Record from count) = ArgumentsThere ArgumentRow.RecordFields image p from 0 count
ShapeThere image p code.AdtPatternShape.Unit = Unit

-- a row that names a variant, or none
pub record NamesVariant (image : List ℕ) (p : ℕ) (row : PatRow) : Type 0 where
  pub variant : (variant_word row ≡ 65535) ⊎ (variant_word row < variant_count image)
  pub shape : ShapeThere image p (variant_shape row)

-- a subpattern below p, or none
abbrev pub SubpatternBelow : ℕ → ℕ → Type 0
SubpatternBelow q p = (q ≡ 65535) ⊎ (q < p)

-- a rest that is there, or none
abbrev pub RestThere : List ℕ → ℕ → Type 0
RestThere image rest = eqb rest 65535 || ltb rest (pattern_count image) ≡ true

-- the items of a Slice pattern and its rest are there
pub record SliceThere (image : List ℕ) (p rest from front back : ℕ) : Type 0 where
  pub in_front : ArgumentsThere ArgumentRow.Items image p from 0 front
  pub at_end_lem : ArgumentsThere ArgumentRow.LastItems image p (from + front) back back
  pub rests : RestThere image rest
