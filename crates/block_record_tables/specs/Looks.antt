-- Records in a table: what is found in one, and what is left where one is set. Assumes nothing: these are definitions.
use Rattle.std.specs.Prelude.{Some, None}
use Rattle.std.specs.Prelude.{ℕ, Bool, true, false, cond, List, eqb, ltb, length, get_or, set}
use Rattle.std.proofs.Math.Option.{Option, none, some}
use Rattle.mir.specs.declared.blocks.Terminator.{Terminator}
use Rattle.refusals.specs.Refusals.{Refusal, names_nothing}
use Rattle.block_records.specs.declared.Block.{Block}
use Rattle.block_record_tables.specs.Results.{Look}
use Rattle.block_records.specs.Records.{blank, record_of, terminator_in}

-- the terminator in the record b, if there is one
unfoldable pub look_at : List Block → ℕ → Look
look_at records b = cond (ltb b (length records)) (Some (terminator_in (get_or records b blank))) None

-- whether there is a record b, and it lacks a terminator
unfoldable pub open_at : List Block → ℕ → Bool
open_at records b = cond (ltb b (length records)) (eqb (get_or records b blank).kind 0) false

-- the records with a terminator in the record b, if there is one
unfoldable pub put_at : List Block → ℕ → Terminator → List Block
put_at records b t = cond (ltb b (length records)) (set records b (record_of t)) records

-- document 01's number for what a look answers: number 2, "any other number in the call that names nothing", where there is no such record
unfoldable pub look_refusal : Look → Option Refusal
look_refusal (Some t) = none
look_refusal None = some names_nothing

-- its number for what is answered where records are to be set or filled: number 2 where there is no such record, or where the table or its blocks are "over a limit"
unfoldable pub fill_refusal : Bool → Option Refusal
fill_refusal true = none
fill_refusal false = some names_nothing
