-- Request S-4 along a lowering: which locals the lines that it makes mark live, and that the entries are those that these marks record. Assumes nothing: these are definitions.
use Rattle.std.specs.Prelude.{ℕ, ◌≡◌, List, [], ◌∷◌, ◌++◌, length, drop}
use Rattle.state.specs.State.{State}
use Rattle.lower_spec.specs.Recorded.{recorded}
use Rattle.views.specs.Views.{Statement, live, dead, set, Line, mir_of}

-- the local that a statement marks live, where it marks one
unfoldable pub mark_of : Statement → List ℕ
mark_of (live l) = l ∷ []
mark_of (dead l) = []
mark_of (set l rvalue) = []

-- the locals that lines mark live, in order
unfoldable pub marked_live : List Line → List ℕ
marked_live [] = []
marked_live (x ∷ xs) = mark_of x.statement ++ marked_live xs

-- the lines that were made: those behind the ones before
abbrev pub lines_made : State → State → List Line
lines_made before after = drop (length (mir_of before).lines) (mir_of after).lines

-- the lines before stand first, the scopes are the same, and behind the entries that there were, so in the last scope, stand those that the live marks made record, each
-- "unless an open scope already holds it"
pub record MarksRecorded (before after : State) : Type 0 where
  pub lines : (mir_of after).lines ≡ (mir_of before).lines ++ lines_made before after
  pub scopes : after.scopes ≡ before.scopes
  pub entries : after.entries ≡ recorded before.entries (marked_live (lines_made before after))
