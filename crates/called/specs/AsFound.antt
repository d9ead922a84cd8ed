-- What document 01 says of the tables after a refusal. Assumes nothing: these are definitions.
use Rattle.std.specs.Prelude.{ℕ, ◌≤◌, ◌<◌, ◌≡◌, List}
use Rattle.row_tables.specs.Rows.{zeros}
use Rattle.refusals.specs.Refusals.{Refusal}
use Rattle.mir.specs.declared.Counts.{Counts}
use Rattle.state.specs.State.{Body, decode, encode}

-- The body's and scopes' tables b, handed in with the counts c, and what lies in them after a refusal, b': "Refusals 1 and 2 write nothing. Any other leaves every record
-- below the body's and scopes' counts as found and zeros above".
pub record AsFound (b : Body) (c : Counts) (refusal : Refusal) (b' : Body) : Type 0 where
  pub nothing_written : refusal.number ≤ 2 → b' ≡ b
  pub below : decode b' c ≡ decode b c
  pub above : 2 < refusal.number → b' ≡ encode (decode b c)

-- The visits' table: 1 and 2 write nothing there either, and after any other refusal no pattern counts as visited.
pub record NoneVisited (v : List ℕ) (refusal : Refusal) (v' : List ℕ) : Type 0 where
  pub nothing_written : refusal.number ≤ 2 → v' ≡ v
  pub none_visited : 2 < refusal.number → v' ≡ zeros 512
