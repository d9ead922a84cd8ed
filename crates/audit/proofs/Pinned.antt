-- What the definitions behind the page mean in plain terms. The meaning of patterns and the run of a body share these functions, so that a wrong one would be wrong
-- on both sides of the page's theorems: each is held by a law of its own, proved by one citation. Assumes nothing.
use Prim.Native.Nat.{ℕ, ◌+◌, ◌-◌, ◌^◌, ◌/◌, ◌≤◌, ◌<◌}
use mathlib.Core.Path.{◌≡◌}
use mathlib.Core.Logic.{◌↔◌}
use mathlib.Core.Bool.{Bool, true, false, not, ◌&&◌, ◌||◌}
use mathlib.Core.Option.{none, some}
use mathlib.Core.List.{List, [], ◌∷◌, ◌++◌, map}
use lib.Dec.{leb, ltb}
use lib.IntN.{ℤ, pos, neg_ℤ}
use lib.ListN.{length, get_or, take, drop}
use lib.Signed.{le_z, lt_z}
use Rattle.place.specs.declared.elems.ProjectionElem.{ProjectionElem}
use Rattle.mir.specs.declared.rvalues.BinOp.{BinOp}
use Rattle.views.specs.Views.{Path, Mir}
use Rattle.views.specs.Growing.{GoesOn}
use Rattle.growth.proofs.Working.{goes_on_refl}
use Rattle.meaning.specs.Values.{Value, Int, Bool', Char, Comparable, middle, place_in}
use Rattle.meaning.specs.Running.{Env, value_of, signed_number, same_value, compared, Scene, same_elem, read}
use Rattle.meaning.specs.Matching.{from_start, to_end}
use Rattle.meaning.proofs.Laws as laws
use Rattle.meaning.proofs.Crossing as crossing
use Rattle.meaning.proofs.Behind as behind
use Rattle.correctness.specs.Demand2.{Distinct}
use Rattle.correctness.proofs.Plain as plain
use Rattle.called.specs.Call.{Call, HandedOut}
use Rattle.called.specs.Runs.{FittingValue, matching, bound, FunctionComesToThen, FunctionComesToElse}
use Rattle.called.proofs.Ended as ended
use Rattle.audit.specs.Judged.{judged}
use Rattle.audit.proofs.Judged as kinds
use Rattle.audit.proofs.Clauses as clauses

-- Integers, bools, chars and references to a str are the same exactly when they are equal.
pub the_same_exactly_when_equal : (v w : Value) → Comparable v → Comparable w → same_value v w ≡ true ↔ v ≡ w
the_same_exactly_when_equal = laws.same_exactly_when_equal

-- Integers are compared in their order, bools with false before true, and chars by their numbers.
pub integers_in_their_order : (y z : ℤ) →
    (compared BinOp.Le (Int y) (Int z) ≡ le_z y z) × (compared BinOp.Ge (Int y) (Int z) ≡ le_z z y) × (compared BinOp.Gt (Int y) (Int z) ≡ lt_z z y)
integers_in_their_order = laws.integers_compared

pub false_before_true : (a b : Bool) →
    (compared BinOp.Le (Bool' a) (Bool' b) ≡ not a || b) × (compared BinOp.Ge (Bool' a) (Bool' b) ≡ not b || a) × (compared BinOp.Gt (Bool' a) (Bool' b) ≡ a && not b)
false_before_true = laws.bools_compared

pub chars_by_their_numbers : (c d : ℕ) →
    (compared BinOp.Le (Char c) (Char d) ≡ leb c d) × (compared BinOp.Ge (Char c) (Char d) ≡ leb d c) × (compared BinOp.Gt (Char c) (Char d) ≡ ltb d c)
chars_by_their_numbers = laws.chars_compared

-- A range: an end that is absent bounds nothing; a value is not below the start, not above the end, and below the end where the range is half-open.
pub an_absent_end_bounds_nothing : (v : Value) (halfOpen : Bool) → (from_start none v ≡ true) × (to_end none halfOpen v ≡ true)
an_absent_end_bounds_nothing = laws.unbounded

pub integers_in_a_range : (bound z : ℤ) →
    (from_start (some (Int bound)) (Int z) ≡ le_z bound z) × (to_end (some (Int bound)) false (Int z) ≡ le_z z bound) × (to_end (some (Int bound)) true (Int z) ≡ lt_z z bound)
integers_in_a_range = laws.integers_in_range

pub chars_in_a_range : (bound c : ℕ) →
    (from_start (some (Char bound)) (Char c) ≡ leb bound c) × (to_end (some (Char bound)) false (Char c) ≡ leb c bound) × (to_end (some (Char bound)) true (Char c) ≡ ltb c bound)
chars_in_a_range = laws.chars_in_range

-- The parts of an array or a slice: the items in front, what a rest stands for, and the items at the end are the whole, and nothing is left out.
pub front_middle_and_end_are_the_whole : (front end : ℕ) (vs : List Value) → front + end ≤ length vs →
    take front vs ++ (middle front end vs ++ drop (length vs - end) vs) ≡ vs
front_middle_and_end_are_the_whole = laws.parts_are_the_whole

pub the_middle_is_what_is_left : (front end : ℕ) (vs : List Value) → front + end ≤ length vs → front + length (middle front end vs) + end ≡ length vs
the_middle_is_what_is_left = laws.middle_length

-- A constant's sign: in so many bytes, a number below half of what they hold is itself, and what is m below that is -m; of an unsigned type each number is itself.
pub numbers_below_half_are_themselves : (size m : ℕ) → (m < 256 ^ size / 2 → signed_number size true m ≡ pos m)
    × (0 < m → m ≤ 256 ^ size / 2 → signed_number size true (256 ^ size - m) ≡ neg_ℤ (pos m))
numbers_below_half_are_themselves = laws.signed_read_back

pub unsigned_numbers_are_themselves : (size m : ℕ) → signed_number size false m ≡ pos m
unsigned_numbers_are_themselves = laws.unsigned_read_back

-- Elements of a place are the same exactly when they are equal.
pub elements_the_same_exactly_when_equal : (e f : ProjectionElem) → same_elem e f ≡ true ↔ e ≡ f
elements_the_same_exactly_when_equal = behind.elems_same_exactly_when_equal

-- What a run reads: behind the place handed in a part of the value there ..
pub behind_the_place_handed_in_lies_its_value : (scene : Scene) (env : Env) (rest : List ProjectionElem) →
    read scene env (record { local = scene.root.local; elems = scene.root.elems ++ rest }) ≡ place_in rest scene.here
behind_the_place_handed_in_lies_its_value = crossing.read_below

-- .. and at every other place a part of what its local holds, of which the page's theorems say nothing.
pub elsewhere_lies_what_the_local_holds : (scene : Scene) (env : Env) (path : Path) →
    ((rest : List ProjectionElem) → path ≡ record { local = scene.root.local; elems = scene.root.elems ++ rest } → ⊥) → read scene env path ≡ place_in path.elems (value_of (env path.local))
elsewhere_lies_what_the_local_holds = behind.read_elsewhere

-- With the field 1 of local 0 handed in, its field 0 is read out of what local 0 holds.
pub another_field_is_not_the_one_handed_in : (image : List ℕ) (v : Value) (env : Env) →
    read (record { image = image; root = record { local = 0; elems = ProjectionElem.Field 1 ∷ [] }; here = v }) env (record { local = 0; elems = ProjectionElem.Field 0 ∷ [] })
    ≡ place_in (ProjectionElem.Field 0 ∷ []) (value_of (env 0))
another_field_is_not_the_one_handed_in = behind.another_field

-- "enters no block twice": of the blocks of a run, two at different places of its way differ.
pub blocks_of_a_run_differ : (xs : List ℕ) → Distinct xs → (i j : ℕ) → i < j → j < length xs → get_or xs i 0 ≡ get_or xs j 0 → ⊥
blocks_of_a_run_differ = plain.distinct_differ

-- Every body goes on from itself: what is said of bodies that go on is said of the one that is handed out.
pub a_body_goes_on_from_itself : (m : Mir) → GoesOn m m
a_body_goes_on_from_itself = goes_on_refl

-- The run as a function, in the body that the call hands out: with enough steps it ends at the end of then, or on reaching the else, where the run as a relation
-- comes to, with the bindings and the blocks entered on the way that this one has.
module _ {call : Call} {out : HandedOut} (on : FittingValue call out) (env : Env) where
  pub the_function_runs_a_value_that_matches_to_then : matching on ≡ true → FunctionComesToThen on env (bound on)
  the_function_runs_a_value_that_matches_to_then = ended.ends_at_then on env

  pub the_function_runs_any_other_value_to_else : matching on ≡ false → FunctionComesToElse on env []
  the_function_runs_any_other_value_to_else = ended.ends_at_else on env

-- Rows, computed from the images' bytes: document 01's corners that are marked [P], every kind of pattern, and each clause of "A pattern fits when" from both sides. Each
-- image is valid; the fit, what matches, what is bound, and where the run as a function comes are as they were judged by hand.
pub the_rows_are_as_judged : (map judged kinds.rows ≡ kinds.rows) × (map judged clauses.rows ≡ clauses.rows)
the_rows_are_as_judged = (kinds.as_judged, clauses.as_judged)
