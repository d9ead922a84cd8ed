-- What a pattern is read at: its type and the default binding mode, or that its parent's type has no part for it. Assumes nothing: these are
-- definitions.
use Rattle.std.specs.Prelude.{ℕ, ◌+◌, ◌-◌, Bool, true, cond, ◌||◌, List, eqb, leb, ltb}
use Rattle.std.proofs.Math.Option.{Option, none, some}
use Rattle.image.specs.Rows.{type_at, list_at}
use Rattle.pattern_typing.specs.Crossing.{is_array, is_slice, is_written_as, by_value, FieldTypes}

pub data Context : Type 0 where
  -- a pattern of this type, under this default mode
  typed : ℕ → ℕ → Context
  -- the rest of a slice pattern of this type among so many other items
  rest_among : ℕ → ℕ → ℕ → Context
  -- a field of a record: the type, the variant and the default mode
  field_at : ℕ → ℕ → ℕ → Context
  -- "subpattern for which its parent's type has no part"
  partless : Context
  -- inside what is refused already
  unseen : Context

-- how the parts of a node are read
pub data PartsRead : Type 0 where
  unseen_parts : PartsRead
  -- as the node itself: behind `@`, alternatives
  same_parts : ℕ → ℕ → PartsRead
  -- behind `&` or `&mut`
  target_part : Bool → ℕ → PartsRead
  -- arguments of a tuple or a tuple struct: the fields, the mode, how many stand before `..`, how many there are
  argument_parts : FieldTypes → ℕ → Option ℕ → ℕ → PartsRead
  -- items of a slice pattern: the type, the mode, how many stand before the rest, how many there are
  item_parts : ℕ → ℕ → Option ℕ → ℕ → PartsRead
  -- fields of a record: the type, the variant, the mode
  field_parts : ℕ → ℕ → ℕ → PartsRead
  -- a field's pattern: the fields, the mode, the field's number
  field_part : FieldTypes → ℕ → ℕ → PartsRead

-- the field i
unfoldable pub field_context : List ℕ → FieldTypes → ℕ → ℕ → Context
field_context sheet fields mode i = cond (ltb i fields.count) (typed (list_at sheet (fields.start + i)) mode) partless

-- an argument stands before `..`, or there is none
unfoldable pub stands_before : Option ℕ → ℕ → Bool
stands_before none i = true
stands_before (some before) i = ltb i before

-- an argument's field is its number, or behind `..` counted from the end
unfoldable pub argument_context : List ℕ → FieldTypes → ℕ → Option ℕ → ℕ → ℕ → Context
argument_context sheet fields mode before many i =
    cond (stands_before before i) (field_context sheet fields mode i)
    (cond (leb many (fields.count + i)) (field_context sheet fields mode (fields.count + i - many)) partless)

-- an item is the rest
unfoldable pub is_rest_item : Option ℕ → ℕ → Bool
is_rest_item none i = Bool.false
is_rest_item (some before) i = eqb before i

-- an item of an array or a slice is its element
unfoldable pub item_context : List ℕ → ℕ → ℕ → Option ℕ → ℕ → ℕ → Context
item_context sheet t mode before many i =
    cond (is_rest_item before i) (rest_among t (many - 1) mode)
    (cond (is_array sheet t || is_slice sheet t) (typed (type_at sheet t).a mode) partless)

-- behind `&` and `&mut` the default mode starts anew (patterns.ident.binding.move)
unfoldable pub target_context : List ℕ → Bool → ℕ → Context
target_context sheet mutable t = cond (is_written_as sheet mutable t) (typed (type_at sheet t).a by_value) partless

-- what the part i is read at
unfoldable pub part_context : List ℕ → PartsRead → ℕ → Context
part_context sheet unseen_parts i = unseen
part_context sheet (same_parts t mode) i = typed t mode
part_context sheet (target_part mutable t) i = target_context sheet mutable t
part_context sheet (argument_parts fields mode before many) i = argument_context sheet fields mode before many i
part_context sheet (item_parts t mode before many) i = item_context sheet t mode before many i
part_context sheet (field_parts t v mode) i = field_at t v mode
part_context sheet (field_part fields mode number) i = field_context sheet fields mode number
