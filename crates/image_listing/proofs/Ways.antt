-- What the call of `pattern_match` is handed, and the type of local 0, by the ways through the code. Assumes nothing.
use Rattle.std.specs.Prelude.{Some, None}
use Prim.Native.Nat.{ℕ, ◌-◌, ◌≤◌, ◌<◌}
use mathlib.Core.Path.{◌≡◌, ap, subst}
use mathlib.Core.Bool.{true}
use mathlib.Core.Option.{none, some}
use mathlib.Core.List.{List}
use native.Mathlib.Omega.{arith}
use lib.ListN.{length, take}
use Rattle.row_tables.specs.Rows.{cleared}
use Rattle.image.specs.declared.Tables.{Tables}
use Rattle.image.specs.Tables.{Whole, type_count}
use Rattle.image.specs.Lists.{up_from}
use Rattle.image.specs.Valid.{valid}
use Rattle.place.specs.declared.Place.{Place}
use Rattle.mir.specs.declared.Counts.{Counts}
use Rattle.state.specs.State.{Body, encode, counts_of}
use Rattle.pattern_matching.specs.Walking.{local_place}
use Rattle.pattern_calls_spec.proofs.Starting.{visits_cleared}
use Rattle.listing_start.specs.Results.{StartType}
use Rattle.listing_start.specs.Started.{start_type, start_state}
use Rattle.listing_start.specs.Sizes.{start_type_of, IsType}
use Rattle.listing_start.proofs.Limits.{limits}
use Rattle.listing_start.proofs.Numbers.{bindings_numbered}
use Rattle.image_text.proofs.Printed.{Handed}

module _ (image : List ℕ) {tables : Tables} (v : valid image ≡ true) (W : Whole image tables) where
  -- the bindings' locals are within the array
  pub few : tables.bindings.count ≤ 256
  few = let L = limits image v in omega (arith, L.bindings, W.binding_count_lem)

  -- there is a last pattern
  pub some_pattern : 1 ≤ tables.patterns.count
  some_pattern = let L = limits image v in omega (arith, L.patterns, W.pattern_count_lem)

  -- the call is the definition's
  pub handed : (before : List ℕ) {t : ℕ} {numbers : List ℕ} {b : Body} {visits : List ℕ} {c : Counts} {place : Place} → numbers ≡ up_from 1 256 →
      (c ≡ counts_of (start_state image t)) × (b ≡ encode (start_state image t)) → length before ≡ 512 → visits ≡ cleared before 0 → place ≡ local_place (record { 0 = 0 }) →
      Handed image t (take tables.bindings.count numbers) b visits c (tables.patterns.count - 1) place
  handed before is started long blank at =
      record {
        locals = bindings_numbered image is W.binding_count_lem (limits image v).bindings;
        tables = started.1;
        visits = visits_cleared before long blank;
        counts = started.0;
        pattern = ap (λ (n : ℕ). n - 1) W.pattern_count_lem;
        at = at;
      }

-- the type of local 0, where there is one
pub type_there : (image : List ℕ) {r : StartType} {t : ℕ} → r ≡ Some t → (start_type_of r ≡ start_type image) × IsType image r → (some t ≡ start_type image) × (t < type_count image)
type_there image is e = subst (λ (x : StartType). (start_type_of x ≡ start_type image) × IsType image x) is e

-- and where there is none
pub type_missing : (image : List ℕ) {r : StartType} → r ≡ None → (start_type_of r ≡ start_type image) × IsType image r → none ≡ start_type image
type_missing image is e = subst (λ (x : StartType). start_type_of x ≡ start_type image) is e.0
