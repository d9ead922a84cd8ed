-- What the functions promise: with the tables at exit, their answers are what the definitions give. Assumes nothing: these are definitions.
use Rattle.std.specs.Prelude.{Ok, Err}
use Rattle.std.specs.Prelude.{ℕ, ◌<◌, ◌≤◌, ◌≡◌, List, get_or}
use Rattle.std.proofs.Math.Option.{Option, none, some}
use Rattle.refusals.specs.Refusals.{Result, done, stopped}
use Rattle.mir.specs.declared.BasicBlockId.{BasicBlockId}
use Rattle.mir.specs.declared.Counts.{Counts}
use Rattle.state.specs.State.{Body, State, decode}
use Rattle.state.specs.Promises.{Ready, Own, Kept}
use Rattle.drop_scopes_spec.specs.Results.{AtBlock}
use Rattle.drop_scopes_spec.specs.Dropping.{At}

-- an answer of locals that leave, as the definitions have it
abbrev pub at_result : AtBlock → Body → Result At
at_result (Ok (c, block)) b = done (record { state = decode b c; block = block })
at_result (Err e) b = stopped e

abbrev pub at_counts : AtBlock → Option Counts
at_counts (Ok (c, block)) = some c
at_counts (Err e) = none

-- the block of a local that leaves is made, and is the one before or a new one; no block is taken away, and nothing is made but blocks and statements
abbrev pub LeftAt : Counts → BasicBlockId → AtBlock → Type 0
LeftAt c block (Ok (c', b)) =
    (b.0 < c'.blocks) × Own c block.0 b.0 × (c.blocks ≤ c'.blocks) × (c'.locals ≡ c.locals) × (c'.scopes ≡ c.scopes) × (c'.entries ≡ c.entries)
LeftAt c block (Err e) = Unit

-- each entry is a local that there is
abbrev pub EntriesNamed : List ℕ → Counts → Type 0
EntriesNamed e c = (i : ℕ) → i < c.entries → get_or e i 0 < c.locals

-- each scope begins at an entry, or behind the last
abbrev pub ScopesNamed : List ℕ → Counts → Type 0
ScopesNamed sc c = (i : ℕ) → i < c.scopes → get_or sc i 0 ≤ c.entries

-- the tables are ready where an answer has counts
abbrev pub ReadyAt : Option Counts → Body → Type 0
ReadyAt none b = Unit
ReadyAt (some c) b = Ready b c

-- a scope is closed, and its locals leave; what lies below the counts is kept by a refusal
pub record Pops (defined : State → Result At) (c : Counts) (block : BasicBlockId) (b : Body) (r : AtBlock) (b' : Body) : Type 0 where
  pub says : Ready b c → at_result r b' ≡ defined (decode b c)
  pub goes : Ready b c → ReadyAt (at_counts r) b'
  pub kept : Ready b c → at_counts r ≡ none → Kept c block.0 b b'
