-- What the call on a text answers: number 19, or what its nodes are read as. Assumes nothing.
use Rattle.std.specs.Prelude.{Err}
use Prim.Native.Nat.{ℕ}
use mathlib.Core.Path.{◌≡◌, refl, sym}
use mathlib.Core.List.{List}
use Rattle.pattern_syntax.specs.Closing.{ClosedNode}
use Rattle.pattern_reading.specs.Reads.{read_pattern}
use Rattle.parsing_machine.specs.Answers.{nodes_are, fails_there, parsed_nodes}
use Rattle.reading_passes.specs.Passes.{read_nodes, after_nodes, read_in_passes}
use Rattle.reading_passes.proofs.Passes.{read_in_passes_lem}
use Rattle.reading_typed.specs.Results.{PatternRead}
use Rattle.reading_typed.specs.Answers.{ReadsAs}

-- number 19, and then the nodes
module _ (text sheet names : List ℕ) (expected : ℕ) (before : List ℕ) where
  pub text_fails : (at : ℕ) → fails_there at ≡ parsed_nodes text → ReadsAs (read_pattern text sheet names expected) before (Err (record { number = 19; position = at })) before
  unfolding read_in_passes after_nodes
  text_fails at e = rw (read_in_passes_lem text sheet names expected) (rw (sym e) (refl, refl))

  pub text_read : (nodes : List ClosedNode) (r : PatternRead) (after : List ℕ) → nodes_are nodes ≡ parsed_nodes text
      → ReadsAs (read_nodes sheet names expected nodes) before r after → ReadsAs (read_pattern text sheet names expected) before r after
  unfolding read_in_passes after_nodes
  text_read nodes r after e reads = rw (read_in_passes_lem text sheet names expected) (rw (sym e) reads)
