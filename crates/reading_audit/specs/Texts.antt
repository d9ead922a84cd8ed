-- What is said of a text that is read: its one tree. Assumes nothing: these are definitions.
use Rattle.std.specs.Prelude.{◌≡◌, true, List, [], ◌∷◌, ℕ}
use Rattle.pattern_grammar.specs.Lexemes.{Spot, Lexeme, mark, end_mark, strictly}
use Rattle.pattern_grammar.specs.Trees.{Pattern, pattern_t}
use Rattle.pattern_grammar.specs.Admitted.{admitted}
use Rattle.pattern_grammar.specs.Parsed.{lexemes}
use Rattle.pattern_syntax.specs.Reduced.{reduced}
use Rattle.pattern_typing.specs.Crossing.{by_value}
use Rattle.pattern_typing.specs.Contexts.{typed}
use Rattle.pattern_images.specs.Imaging.{image_with}
use Rattle.pattern_reading.specs.Reads.{draft_of}
use Rattle.reading_audit.specs.Places.{FirstRefused}

-- the text's tokens are what the tree is written as, before the text's end
abbrev pub IsWrittenAs : List ℕ → Pattern → Spot → Type 0
IsWrittenAs text p end = pattern_t p (mark end_mark end ∷ []) ≡ lexemes text

-- "Every text not refused has one tree"
pub record OneTree (text : List ℕ) (tree : Pattern) : Type 0 where
  pub end : Spot
  pub written : IsWrittenAs text tree end
  pub allowed : admitted (strictly text) tree ≡ true
  pub only : (other : Pattern) (otherEnd : Spot) → IsWrittenAs text other otherEnd → admitted (strictly text) other ≡ true → other ≡ tree

-- "and the image made is that tree's"
pub record IsRead (text sheet names : List ℕ) (expected : ℕ) (bytes : List ℕ) : Type 0 where
  pub tree : Pattern
  pub one : OneTree text tree
  pub image : bytes ≡ image_with sheet (draft_of sheet names expected (reduced text tree))

-- number 20: the text has a tree, and the position is the first at which something in it is refused
pub record FirstPlace (text sheet names : List ℕ) (expected at : ℕ) : Type 0 where
  pub tree : Pattern
  pub one : OneTree text tree
  pub first : FirstRefused sheet names (reduced text tree) (typed expected by_value) at
