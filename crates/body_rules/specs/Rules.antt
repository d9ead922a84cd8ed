-- Number 2's rules on a body. Assumes nothing: these are definitions.
use Rattle.std.specs.Prelude.{ℕ, ◌≡◌, Bool, true}
use Rattle.mir.specs.declared.Counts.{Counts}
use Rattle.state.specs.State.{Body}
use Rattle.body_row_rules.specs.Bodies.{body_holds}
use Rattle.calls_spec.specs.Lengths.{Lengths}

-- a body may be handed in, beside an image with so many types and variants
abbrev pub holds : ℕ → ℕ → Body → Counts → Bool
holds types variants b c = body_holds types variants b.blocks b.statements b.locals b.scopes b.entries c

-- what the test of a body answers; the tables of one that is taken have their lengths, by their type
pub record Looks (types variants : ℕ) (b : Body) (c : Counts) (r : Bool) : Type 0 where
  pub answer : r ≡ holds types variants b c
  pub lengths : r ≡ true → Lengths b
