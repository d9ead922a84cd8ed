-- What a look at a record answers, and what a store leaves, by how the test of the bound came out. Assumes nothing.
use Rattle.std.specs.Prelude.{Some, None}
use Prim.Native.Nat.{ℕ}
use mathlib.Core.Path.{◌≡◌, refl, ap, ◌∙◌}
use mathlib.Core.Bool.{Bool, true, false, not, cond}
use mathlib.Core.List.{List}
use lib.Dec.{T as Holds, eqb, ltb}
use lib.ListN.{length, get_or, set}
use Rattle.mir.specs.declared.blocks.Terminator.{Terminator}
use Rattle.block_records.specs.declared.Block.{Block}
use Rattle.block_records.specs.Records.{blank, record_of, terminator_in}
use Rattle.block_record_tables.specs.Looks.{look_at, open_at, put_at}

-- what is picked where the test holds, and where it fails
pub picked : {A : Type 0} (z : Bool) (a b : A) → Holds z → a ≡ cond z a b
picked true a b h = refl
picked false a b h = absurd h

pub passed_by : {A : Type 0} (z : Bool) (a b : A) → Holds (not z) → b ≡ cond z a b
passed_by true a b h = absurd h
passed_by false a b h = refl

pub holds_true : (z : Bool) → Holds z → true ≡ z
holds_true true h = refl
holds_true false h = absurd h

pub fails_false : (z : Bool) → Holds (not z) → false ≡ z
fails_false true h = absurd h
fails_false false h = refl

-- the record is there, and it is v
pub there : (rs : List Block) (i : ℕ) (v : Block) → Holds (ltb i (length rs)) → v ≡ get_or rs i blank → Some (terminator_in v) ≡ look_at rs i
unfolding look_at
there rs i v h e = ap (λ (r : Block). Some (terminator_in r)) e ∙ picked (ltb i (length rs)) (Some (terminator_in (get_or rs i blank))) None h

-- there is none
pub missed : (rs : List Block) (i : ℕ) → Holds (not (ltb i (length rs))) → None ≡ look_at rs i
unfolding look_at
missed rs i h = passed_by (ltb i (length rs)) (Some (terminator_in (get_or rs i blank))) None h

-- the same of whether a record lacks a terminator
pub open_there : (rs : List Block) (i : ℕ) (v : Block) → Holds (ltb i (length rs)) → v ≡ get_or rs i blank → eqb v.kind 0 ≡ open_at rs i
unfolding open_at
open_there rs i v h e = ap (λ (r : Block). eqb r.kind 0) e ∙ picked (ltb i (length rs)) (eqb (get_or rs i blank).kind 0) false h

pub open_missed : (rs : List Block) (i : ℕ) → Holds (not (ltb i (length rs))) → false ≡ open_at rs i
unfolding open_at
open_missed rs i h = passed_by (ltb i (length rs)) (eqb (get_or rs i blank).kind 0) false h

-- the record is there, and r, the record of a terminator, is stored in it
pub put_in : (rs : List Block) (i : ℕ) (t : Terminator) (r : Block) (zs : List Block) → Holds (ltb i (length rs)) → r ≡ record_of t → zs ≡ set rs i r → zs ≡ put_at rs i t
unfolding put_at
put_in rs i t r zs h e e₂ = e₂ ∙ ap (set rs i) e ∙ picked (ltb i (length rs)) (set rs i (record_of t)) rs h

-- there is none, and all stay
pub put_past : (rs : List Block) (i : ℕ) (t : Terminator) → Holds (not (ltb i (length rs))) → rs ≡ put_at rs i t
unfolding put_at
put_past rs i t h = passed_by (ltb i (length rs)) (set rs i (record_of t)) rs h
