-- What is answered for a text's nodes, by what is handed in beside them. Assumes nothing.
use Rattle.std.specs.Prelude.{Some, None, Err}
use Prim.Native.Nat.{ℕ, ◌<◌, ◌≤◌}
use mathlib.Core.Path.{◌≡◌, refl}
use mathlib.Core.Bool.{Bool, true, false, cond, ◌&&◌}
use mathlib.Core.List.{List}
use native.Mathlib.Omega.{arith}
use lib.Dec.{ltb}
use borrow.Author.Tests.{lt-ltb, le-ltb}
use Rattle.image.specs.declared.Tables.{Tables}
use Rattle.image.specs.Tables.{type_count}
use Rattle.image.specs.Rules.{absent}
use Rattle.pattern_syntax.specs.Closing.{ClosedNode}
use Rattle.type_sheets.specs.Sheets.{sheet_holds}
use Rattle.type_sheets.specs.Reading.{sheet_of}
use Rattle.type_sheets.proofs.Known.{sheet_read, sheet_refused}
use Rattle.name_tables.specs.Names.{names_hold}
use Rattle.pattern_typing.specs.Downward.{type_nodes, typing_of}
use Rattle.pattern_reading.specs.Reads.{refused_with}
use Rattle.reading_passes.specs.Passes.{emitted_from, read_nodes}
use Rattle.reading_typed.specs.Results.{PatternRead}
use Rattle.reading_typed.specs.Answers.{TablesRead, ReadsAs}

-- what is handed in keeps its rules
pub tables_read : {sheet names : List ℕ} {tables : Tables} {expected : ℕ} → Some tables ≡ sheet_of sheet → expected < tables.types.count → names_hold sheet names ≡ true
    → TablesRead sheet tables names expected
tables_read {sheet} {names} {tables} h less named =
    let s = sheet_read sheet tables h in
    record { whole = s.1; ruled = s.0; known = omega (arith, less, s.1.type_count_lem); named = named }

-- numbers 1 and 2 for what is handed in
module _ (sheet names : List ℕ) (expected : ℕ) (nodes : List ClosedNode) (before : List ℕ) where
  pub sheet_broken : None ≡ sheet_of sheet → ReadsAs (read_nodes sheet names expected nodes) before (Err (record { number = 1; position = absent })) before
  unfolding read_nodes
  sheet_broken h = rw (sheet_refused sheet h) (refl, refl)

  pub type_missing : {tables : Tables} → Some tables ≡ sheet_of sheet → tables.types.count ≤ expected → ReadsAs (read_nodes sheet names expected nodes) before (Err (record { number = 2; position = absent })) before
  unfolding read_nodes
  type_missing {tables} h few =
      let s = sheet_read sheet tables h in
      rw s.0 (rw (le-ltb expected (type_count sheet) (omega (arith, few, s.1.type_count_lem))) (refl, refl))

  pub names_broken : sheet_holds sheet ≡ true → names_hold sheet names ≡ false → ReadsAs (read_nodes sheet names expected nodes) before (Err (record { number = 2; position = absent })) before
  unfolding read_nodes
  names_broken holds h = rw holds (rw h (by (ltb expected (type_count sheet))))
    where
      by : (b : Bool) → ReadsAs (cond (b && false) (emitted_from sheet (type_nodes sheet names nodes (typing_of expected))) (refused_with 2 absent)) before (Err (record { number = 2; position = absent })) before
      by true = (refl, refl)
      by false = (refl, refl)

  -- and then what is made of the nodes
  pub nodes_read : (r : PatternRead) (after : List ℕ) {tables : Tables} → TablesRead sheet tables names expected
      → ReadsAs (emitted_from sheet (type_nodes sheet names nodes (typing_of expected))) before r after → ReadsAs (read_nodes sheet names expected nodes) before r after
  unfolding read_nodes
  nodes_read r after B reads = rw B.ruled (rw (lt-ltb expected (type_count sheet) B.known) (rw B.named reads))
