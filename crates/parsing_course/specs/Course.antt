-- What the parser has read of a text between two tokens. Assumes nothing: these are definitions.
use Rattle.std.specs.Prelude.{ℕ, ◌+◌, ◌<◌, ◌≡◌, Bool, true, false, List, length, take}
use Rattle.pattern_tokens.specs.Tokens.{token_at}
use Rattle.pattern_grammar.specs.Lexemes.{lexeme}
use Rattle.pattern_grammar.specs.Parsed.{lexemes_from, lexemes}
use Rattle.parsing_machine.specs.Parser.{Parser, Course, going, ended_with, halted_at, stepped, read_on}
use Rattle.parsing_machine.specs.Answers.{fresh_course}
use Rattle.parsing_moves.specs.Rows.{held_in}
use Rattle.node_tables.specs.Tables.{opened_of}
use Rattle.parsing_steps.specs.declared.ParseState.{ParseState}
use Rattle.parsing_steps.specs.declared.ParseStep.{ParseStep}
use Rattle.parsing_steps.specs.declared.ParseStep.TheVariants.{Going}
use Rattle.parsing_steps.specs.Stepping.{course_of}

-- the text has ended
unfoldable pub has_ended : Course → Bool
has_ended (going z) = false
has_ended (ended_with closed) = true
has_ended (halted_at at) = false

-- the machine's parser that tables and numbers stand for
abbrev pub parser_of : List ℕ → List ℕ → List ℕ → List ℕ → ParseState → Parser
parser_of text names stack nodes p =
    record {
      state = p.state;
      held = held_in text names p.state p.held;
      nodes = opened_of text names stack nodes p.depth p.rows;
    }

-- bytes of names that are the same below a place
pub record SameBelow (named : ℕ) (names other : List ℕ) : Type 0 where
  pub same : take named other ≡ take named names

-- So many tokens are left at most, and reading them on from here comes to what reading the whole text does, whatever the names' bytes are that are
-- not in use yet
pub record ReadSoFar (text names : List ℕ) (named : ℕ) (stack nodes : List ℕ) (at : ℕ) (p : ParseState) : Type 0 where
  pub left : ℕ
  pub enough : length text < left + at
  pub comes :
      (other : List ℕ) → SameBelow named names other
      → read_on text (lexemes_from left text at) (course_of text other stack nodes (Going p)) ≡ read_on text (lexemes text) fresh_course

-- the next token has been read, and the tables hold what the machine comes to
pub record StepsTo (text stack nodes : List ℕ) (at : ℕ) (p : ParseState) (names : List ℕ) (named : ℕ) (stack' nodes' : List ℕ) (r : ParseStep) : Type 0 where
  pub shows :
      (other : List ℕ) → SameBelow named names other
      → course_of text other stack' nodes' r ≡ stepped text (parser_of text other stack nodes p) (lexeme (token_at text at))
