-- What holds before the first token of a text, and what parsing it answers. Assumes nothing: these are definitions.
use Rattle.std.specs.Prelude.{Ok, Err}
use Rattle.std.specs.Prelude.{ℕ, ◌≡◌, List}
use Rattle.parsing_machine.specs.declared.ReadState.TheVariants.{Begin}
use Rattle.parsing_machine.specs.Answers.{fails_there, parsed_nodes}
use Rattle.parsing_steps.specs.declared.ParseState.{ParseState}
use Rattle.pattern_parsing.specs.Results.{Parsed}
use Rattle.token_parsing.specs.Standing.{NodesParsed}

-- the parser before the first token
abbrev pub fresh_state : ParseState
fresh_state = record { state = Begin; held = record { at = 0; more = 0; spot = 0; from = 0; to = 0 }; depth = 0; rows = 0 }

-- a text's nodes, or where it fails
abbrev pub ParsesTo : List ℕ → Parsed → List ℕ → List ℕ → Type 0
ParsesTo text (Ok n) names nodes = NodesParsed text names nodes n
ParsesTo text (Err at) names nodes = fails_there at ≡ parsed_nodes text
