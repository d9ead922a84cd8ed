-- Drafts of words and bytes, but for the derefs, which the limits bound. Assumes nothing: these are definitions.
use Rattle.std.specs.Prelude.{ℕ, ◌<◌, List, [], ◌∷◌}
use Rattle.image.specs.declared.rows.PatRow.{PatRow}
use Rattle.pattern_typing.specs.Making.{Making, not_made, row_made, literal_made, operand_made, operand_named, range_made, bind_made, reference_made, list_made, slice_made, field_made}
use Rattle.pattern_images.specs.Drafts.{Draft, Made}
use Rattle.image_growth.specs.Growing.{IsBytes, AreWords, EachWords, type_words, binding_words}

-- a word
abbrev pub IsWord : ℕ → Type 0
IsWord w = w < 65536

-- the words of a pattern's row without its derefs
abbrev pub own_words : PatRow → List ℕ
own_words r = r.kind ∷ r.ty ∷ r.a ∷ r.b ∷ r.c ∷ r.d ∷ []

pub record DraftWords (d : Draft) : Type 0 where
  pub types : EachWords type_words d.types
  pub patterns : EachWords own_words d.patterns
  pub bindings : EachWords binding_words d.bindings
  pub words : AreWords d.words
  pub bytes : IsBytes d.bytes

-- what is made, and what stands for it
pub record MadeWords (m : Made) : Type 0 where
  pub draft : DraftWords m.draft
  pub stands : AreWords m.stands

-- the words that a node brings with it
abbrev pub BringsWords : Making → Type 0
BringsWords not_made = Unit
BringsWords (row_made row) = IsWord row.kind × (IsWord row.a × (IsWord row.b × (IsWord row.c × IsWord row.d)))
BringsWords (literal_made t derefs v) = Unit
BringsWords (operand_made v) = Unit
BringsWords (operand_named o) = Unit
BringsWords (range_made t derefs lower upper dots) = Unit
BringsWords (bind_made t mode annotation name at) = Unit
BringsWords (reference_made t) = Unit
BringsWords (list_made row) = IsWord row.kind × (IsWord row.c × IsWord row.d)
BringsWords (slice_made t derefs before) = Unit
BringsWords (field_made number) = IsWord number
