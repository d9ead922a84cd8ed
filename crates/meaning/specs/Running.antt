-- How a body runs on a value. Document 01: "A run has the value at the place handed in, whatever that place's projection. It starts behind the statements
-- the start block had and stops at the end of the then block or on reaching the else; live and dead marks do nothing in it."
-- Assumes nothing: these are definitions.
use Rattle.std.specs.Prelude.{ℕ, suc, ◌+◌, ◌*◌, ◌-◌, ◌^◌, ◌/◌, ◌≡◌, Bool, true, false, cond, ◌&&◌, ◌||◌, not, List, [], ◌∷◌, eqb, ltb, ℤ, pos, negsuc, neg_ℤ, length, take, drop}
use Rattle.std.proofs.Math.Option.{Option, none, some}
use Rattle.std.specs.Int.Signed.{le_z}
use Rattle.image.specs.Tables.{data_at}
use Rattle.image.specs.Types.{Shape, ty_of, variant_of}
use Rattle.place.specs.declared.LocalId.{LocalId}
use Rattle.place.specs.declared.elems.ProjectionElem.{ProjectionElem}
use Rattle.mir.specs.declared.BasicBlockId.{BasicBlockId}
use Rattle.mir.specs.declared.blocks.Terminator.{Terminator}
use Rattle.mir.specs.declared.rvalues.Constant.{Constant}
use Rattle.mir.specs.declared.rvalues.BinOp.{BinOp}
use Rattle.mir.specs.declared.rvalues.Left.{Left}
use Rattle.mir.specs.declared.rvalues.PlaceRvalue.{PlaceRvalue}
use Rattle.views.specs.Views.{Path, Rvalue, of_place, of_constant, binary, unknown_rvalue as unknown_rvalue, Statement, live, dead, set, Line, Mir}
use Rattle.views.specs.Growing.{terminator_at}
use Rattle.cases_spec.specs.Cases.{if_there, if_scalar, referent}
use Rattle.meaning.specs.Values.{Value, Int, Bool', Char, Str, Tuple, Adt, Reference, Array, Slice, unit_value, by_parts, derefed, parts_of, if_variant, place_in}

-- what a local holds: a value, or a reference to a place, shared or mutable
pub data Held : Type 0 where
  value : Value → Held
  refers_to : Bool → Path → Held

-- what the locals hold
abbrev pub Env : Type 0
Env = ℕ → Held

unfoldable pub update : Env → ℕ → Held → Env
update env l held k = cond (eqb k l) held (env k)

unfoldable pub value_of : Held → Value
value_of (value v) = v
value_of (refers_to mutable path) = unit_value

-- the bytes of a string that a constant stands for
unfoldable pub data_bytes : List ℕ → ℕ → ℕ → List ℕ
data_bytes image offset n = take n (drop (data_at image + offset) image)

-- the number n of so many bytes, as an integer: two's complement where it is signed
unfoldable pub signed_number : ℕ → Bool → ℕ → ℤ
signed_number size false n = pos n
signed_number size true n = cond (ltb n (256 ^ size / 2)) (pos n) (neg_ℤ (pos (256 ^ size - n)))

-- a constant's 16 bytes as a number
abbrev pub constant_number : Constant → ℕ
constant_number c = c.low + 18446744073709551616 * c.high

-- "Constants are compared at their type": the value of a constant, by what its type is
unfoldable pub constant_by : Shape → List ℕ → Constant → Value
constant_by shape image c =
    if_scalar shape (λ size signed. Int (signed_number size signed (constant_number c))) (Bool' (not (eqb (constant_number c) 0))) (Char (constant_number c))
    (if_there (referent shape) (λ t. Reference (Str (data_bytes image c.offset c.high))) unit_value)

-- a constant whose type is not of the table is a usize
unfoldable pub constant_value : List ℕ → Constant → Value
constant_value image c = cond (ltb c.ty 256) (constant_by (ty_of image c.ty).shape image c) (Int (pos (constant_number c)))

-- an integer, a bool or a char as a number: its kind, 1, 2 or 3, and what it is
pub record Scalar : Type 0 where
  pub kind : ℕ
  pub number : ℤ

abbrev pub bit : Bool → ℕ
bit b = cond b 1 0

unfoldable pub scalar_of : Value → Option Scalar
scalar_of (Int z) = some (record { kind = 1; number = z })
scalar_of (Bool' b) = some (record { kind = 2; number = pos (bit b) })
scalar_of (Char c) = some (record { kind = 3; number = pos c })
scalar_of (Str bytes) = none
scalar_of (Tuple vs) = none
scalar_of (Adt v vs) = none
scalar_of (Reference v) = none
scalar_of (Array vs) = none
scalar_of (Slice vs) = none

-- the bytes of a str
unfoldable pub bytes_of : Value → Option (List ℕ)
bytes_of v = by_parts v (λ bytes. some bytes) (λ vs. none) (λ n vs. none) (λ w. none) (λ vs. none) (λ vs. none) none

unfoldable pub same_numbers : List ℕ → List ℕ → Bool
same_numbers [] [] = true
same_numbers [] (y ∷ ys) = false
same_numbers (x ∷ xs) [] = false
same_numbers (x ∷ xs) (y ∷ ys) = eqb x y && same_numbers xs ys

-- what holds of two that are there
abbrev pub both : {A : Type 0} → (A → A → Bool) → Option A → Option A → Bool
both f none y = false
both f (some x) none = false
both f (some x) (some y) = f x y

-- the first scalar is not above the second, which is of the same kind
abbrev pub not_above : Scalar → Scalar → Bool
not_above x y = eqb x.kind y.kind && le_z x.number y.number

abbrev pub same_scalar : Scalar → Scalar → Bool
same_scalar x y = not_above x y && not_above y x

-- two values are the same: "integers by value with their sign, char and bool by value, strings by content"
unfoldable pub same_value : Value → Value → Bool
same_value v w = both same_scalar (scalar_of v) (scalar_of w) || both same_numbers (bytes_of (derefed v)) (bytes_of (derefed w))

-- what an operator makes of two values
unfoldable pub compared : BinOp → Value → Value → Bool
compared BinOp.Eq v w = same_value v w
compared BinOp.Le v w = both not_above (scalar_of v) (scalar_of w)
compared BinOp.Ge v w = both not_above (scalar_of w) (scalar_of v)
compared BinOp.Gt v w = both not_above (scalar_of w) (scalar_of v) && not (same_value w v)

-- the discriminant of a variant: 16 bytes, as a number
unfoldable pub discriminant_of : List ℕ → Value → ℕ
discriminant_of image w = if_variant w (λ v. (variant_of image v).discriminant) 0

-- a place that holds a value, and the value: the place handed in
pub record Scene : Type 0 where
  pub image : List ℕ
  pub root : Path
  pub here : Value

-- an element as numbers: its kind, and what it carries
unfoldable pub elem_numbers : ProjectionElem → List ℕ
elem_numbers ProjectionElem.Deref = 0 ∷ []
elem_numbers (ProjectionElem.Field i) = 1 ∷ i ∷ []
elem_numbers (ProjectionElem.Index i) = 2 ∷ i ∷ []
elem_numbers (ProjectionElem.IndexFromEnd i) = 3 ∷ i ∷ []
elem_numbers (ProjectionElem.Subslice front end) = 4 ∷ front ∷ end ∷ []
elem_numbers (ProjectionElem.Downcast v) = 5 ∷ v ∷ []
elem_numbers ProjectionElem.Unknown = 6 ∷ []

unfoldable pub same_elem : ProjectionElem → ProjectionElem → Bool
same_elem e f = same_numbers (elem_numbers e) (elem_numbers f)

-- what is left of a path behind the root's elements, where the path begins with them
unfoldable pub behind_root : List ProjectionElem → List ProjectionElem → Option (List ProjectionElem)
behind_root [] path = some path
behind_root (e ∷ root) [] = none
behind_root (e ∷ root) (f ∷ path) = cond (same_elem e f) (behind_root root path) none

-- a part of the value handed in, or else of what the local holds
unfoldable pub part_behind : Option (List ProjectionElem) → Value → Value → Value
part_behind none here other = other
part_behind (some rest) here other = place_in rest here

-- what lies at a place: behind the place handed in, a part of its value; everywhere else, a part of what the local holds
unfoldable pub read : Scene → Env → Path → Value
read scene env path =
    part_behind (cond (eqb path.local scene.root.local) (behind_root scene.root.elems path.elems) none) scene.here
    (place_in path.elems (value_of (env path.local)))

-- what is made of a place
unfoldable pub of_place_value : PlaceRvalue → Scene → Env → Path → Held
of_place_value PlaceRvalue.Copy scene env path = value (read scene env path)
of_place_value PlaceRvalue.Ref scene env path = refers_to false path
of_place_value PlaceRvalue.Mut scene env path = refers_to true path
of_place_value PlaceRvalue.Len scene env path = value (Int (pos (length (parts_of (read scene env path)))))
of_place_value PlaceRvalue.Discr scene env path = value (Int (pos (discriminant_of scene.image (read scene env path))))

-- a left operand
unfoldable pub left_value : Left → Scene → Env → Value
left_value (Left.Local l) scene env = value_of (env l.0)
left_value (Left.Constant c) scene env = constant_value scene.image c

unfoldable pub rvalue_value : Rvalue → Scene → Env → Held
rvalue_value (of_place rvalue path) scene env = of_place_value rvalue scene env path
rvalue_value (of_constant c) scene env = value (constant_value scene.image c)
rvalue_value (binary op left path) scene env = value (Bool' (compared op (left_value left scene env) (read scene env path)))
rvalue_value unknown_rvalue scene env = value unit_value

-- what a statement does
unfoldable pub execute : Statement → Scene → Env → Env
execute (live l) scene env = env
execute (dead l) scene env = env
execute (set l rvalue) scene env = update env l (rvalue_value rvalue scene env)

-- an integer as the number of its 16 bytes, two's complement
abbrev pub sixteen_bytes : ℤ → ℕ
sixteen_bytes (pos n) = n
sixteen_bytes (negsuc n) = 256 ^ 16 - suc n

-- what a switch compares: "a switch compares 16 bytes"
abbrev pub switch_number : Option Scalar → ℕ
switch_number none = 0
switch_number (some x) = sixteen_bytes x.number

-- where a switch goes on: `then` where the local is the value, and else `else`
unfoldable pub switched : Held → ℕ → ℕ → ℕ → ℕ → ℕ
switched held low high then else = cond (eqb (switch_number (scalar_of (value_of held))) (low + 18446744073709551616 * high)) then else

-- A run, from a block with the lines still to be looked at and what the locals hold, to a block with the lines left and what they hold then; the last list
-- has the blocks entered on the way. A block runs those lines of the body that stand in it, and then its terminator.
pub data Run (scene : Scene) (m : Mir) : ℕ → List Line → Env → ℕ → List Line → Env → List ℕ → Type 0 where
  here : {b : ℕ} {lines : List Line} {env : Env} → Run scene m b lines env b lines env []
  skip : {b b' : ℕ} {lines lines' : List Line} {env env' : Env} {entered : List ℕ} {x : Line} → (x.block ≡ b → ⊥) → Run scene m b lines env b' lines' env' entered →
      Run scene m b (x ∷ lines) env b' lines' env' entered
  step : {b b' : ℕ} {lines lines' : List Line} {env env' : Env} {entered : List ℕ} {x : Line} → x.block ≡ b →
      Run scene m b lines (execute x.statement scene env) b' lines' env' entered → Run scene m b (x ∷ lines) env b' lines' env' entered
  jump : {b b' : ℕ} {t : BasicBlockId} {lines' : List Line} {env env' : Env} {entered : List ℕ} → terminator_at m b ≡ Terminator.Goto t →
      Run scene m t.0 m.lines env b' lines' env' entered → Run scene m b [] env b' lines' env' (t.0 ∷ entered)
  branch : {b b' : ℕ} {l : LocalId} {low high : ℕ} {t f : BasicBlockId} {lines' : List Line} {env env' : Env} {entered : List ℕ} →
      terminator_at m b ≡ Terminator.Switch l low high t f →
      Run scene m (switched (env l.0) low high t.0 f.0) m.lines env b' lines' env' entered →
      Run scene m b [] env b' lines' env' (switched (env l.0) low high t.0 f.0 ∷ entered)
