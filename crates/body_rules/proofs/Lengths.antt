-- The tables of a body in one table have their sizes; and counts over a limit are refused whatever the tables hold. Assumes nothing.
use Prim.Native.Nat.{ℕ}
use mathlib.Core.Path.{◌≡◌, sym}
use mathlib.Core.Bool.{false}
use mathlib.Core.List.{List}
use native.Mathlib.Omega.{arith}
use borrow.Rule.Slice.PartMut.{mid_len}
use lib.ListN.{length}
use Rattle.image.proofs.Bools.{one_false}
use Rattle.mir.specs.declared.Counts.{Counts}
use Rattle.state.specs.State.{Body}
use Rattle.calls_spec.specs.Lengths.{Lengths}
use Rattle.body_row_rules.specs.Bodies.{counts_within, body_holds}
use Rattle.body_tables.specs.Layout.{body_words, statements_at, locals_at, scopes_at, entries_at, body_of}
use Rattle.body_rules.specs.Rules.{holds}

-- the parts of one table have their lengths
pub lengths_of : (w : List ℕ) → length w ≡ body_words → Lengths (body_of w)
unfolding body_of
lengths_of w size =
    record {
      blocks = mid_len 0 statements_at w (omega arith);
      statements = mid_len statements_at locals_at w (omega arith);
      locals = mid_len locals_at scopes_at w (omega arith);
      scopes = mid_len scopes_at entries_at w (omega arith);
      entries = mid_len entries_at body_words w (omega arith);
    }

-- counts over a limit are refused
pub counts_refused : (types variants : ℕ) (b : Body) (c : Counts) → counts_within c ≡ false → false ≡ holds types variants b c
unfolding body_holds
counts_refused types variants b c e = sym (one_false _ 0 e)
