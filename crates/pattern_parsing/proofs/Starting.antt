-- Before the first token of a text, between two of them, and a text that is too long. Assumes nothing.
use Prim.Native.Nat.{ℕ, suc, ◌<◌}
use mathlib.Core.Path.{◌≡◌, refl, subst}
use mathlib.Core.Bool.{false≢true}
use mathlib.Core.List.{List}
use native.Mathlib.Omega.{arith}
use lib.ListN.{length}
use borrow.Author.Tests.{lt-ltb}
use Rattle.pattern_grammar.specs.Parsed.{lexemes, parsed}
use Rattle.parsing_machine.specs.Answers.{fails_there, nodes_from, parsed_nodes}
use Rattle.pattern_reading.specs.Reads.{outcome}
use Rattle.parsing_bounds.specs.Weights.{owed}
use Rattle.node_tables.specs.Tables.{rows_down, opened_of}
use Rattle.parsing_moves.specs.Rows.{held_in}
use Rattle.parsing_steps.specs.declared.ParseState.{ParseState}
use Rattle.parsing_steps.specs.declared.ParseStep.{ParseStep}
use Rattle.parsing_steps.specs.declared.ParseStep.TheVariants.{Going}
use Rattle.parsing_steps.specs.Stepping.{course_of}
use Rattle.token_moves.specs.TokenMoves.{pending, holds_path}
use Rattle.token_parsing.specs.Standing.{ParsingAt, TokenRead}
use Rattle.pattern_parsing.specs.Parsing.{fresh_state}

-- before the first token
pub starts : (text names stack nodes : List ℕ) → ParsingAt text names 0 stack nodes 0 fresh_state
unfolding course_of held_in opened_of rows_down lexemes owed holds_path pending
starts text names stack nodes =
    record {
      so_far = record { left = suc (length text); enough = omega arith; comes = λ other same. refl };
      inside = omega arith;
      weighs = omega arith;
      parts = record { fit = λ i h. absurd (omega (arith, h)) };
      path = λ e. absurd (false≢true e);
      spelled = omega arith;
    }

-- "text over 16,384 bytes is 19 at 16,384"
pub too_long : (text : List ℕ) → 16384 < length text → fails_there 16384 ≡ parsed_nodes text
unfolding parsed_nodes nodes_from parsed outcome
too_long text h = rw (lt-ltb 16384 (length text) h) refl

-- a step that goes on
pub goes_again : {text names : List ℕ} {at next named : ℕ} {stack nodes : List ℕ} {step : ParseStep} {q : ParseState} → step ≡ Going q
    → TokenRead text at step next named names stack nodes → ParsingAt text names named stack nodes next q × (at < next)
goes_again {text} {names} {at} {next} {named} {stack} {nodes} is T = subst (λ (x : ParseStep). TokenRead text at x next named names stack nodes) is T
