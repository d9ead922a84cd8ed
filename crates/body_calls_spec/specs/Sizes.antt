-- Tables of the right sizes, with counts within the limits; and an image and a body that were looked at. Assumes nothing: these are definitions.
use Rattle.std.specs.Prelude.{Ok, Err}
use Rattle.std.specs.Prelude.{ℕ, ◌≤◌, ◌≡◌, true, List, length}
use Rattle.image.specs.declared.Tables.{Tables}
use Rattle.image.specs.Tables.{Whole}
use Rattle.image.specs.Valid.{valid}
use Rattle.mir.specs.declared.Counts.{Counts}
use Rattle.mir.specs.Blocks.{block_limit, block_words}
use Rattle.mir.specs.Statements.{statement_limit, statement_words}
use Rattle.mir.specs.Locals.{local_limit}
use Rattle.mir.specs.Scopes.{scope_limit, entry_limit}
use Rattle.state.specs.State.{Body}
use Rattle.calls_spec.specs.Lengths.{Lengths}
use Rattle.body_calls_spec.specs.Calls.{body_taken, opened_of}
use Rattle.body_calls_spec.specs.Results.{Opened}
use Rattle.body_calls_spec.specs.declared.Unopened.{Unopened}

-- document 01's limits: "512 blocks, 1,024 statements, 512 locals, 32 scopes with 1,024 entries together"
pub record Sized (b : Body) (c : Counts) : Type 0 where
  pub blocks : length b.blocks ≡ block_words
  pub statements : length b.statements ≡ statement_words
  pub locals : length b.locals ≡ local_limit
  pub scopes : length b.scopes ≡ scope_limit
  pub entries : length b.entries ≡ entry_limit
  pub block_count_lem : c.blocks ≤ block_limit
  pub statement_count : c.statements ≤ statement_limit
  pub local_count : c.locals ≤ local_limit
  pub scope_count : c.scopes ≤ scope_limit
  pub entry_count : c.entries ≤ entry_limit

-- the tables of a body that is taken have their lengths, by their type
abbrev pub TakenLengths : Opened → Body → Type 0
TakenLengths (Ok tables) b = Lengths b
TakenLengths (Err Unopened.BadCall) b = Unit
TakenLengths (Err Unopened.BadImage) b = Unit

-- what `open` answers
pub record Opens (image : List ℕ) (b : Body) (c : Counts) (r : Opened) : Type 0 where
  pub answer : r ≡ opened_of image b c
  pub lengths : TakenLengths r b

-- image and body have been looked at, and are taken
pub record Taken (image : List ℕ) (tables : Tables) (b : Body) (c : Counts) : Type 0 where
  pub lengths : Lengths b
  pub valid_image : valid image ≡ true
  pub whole : Whole image tables
  pub body : body_taken image b c ≡ true
