-- What some samples stand for, and the ends of the integer types, computed. Assumes nothing.
use Prim.Native.Nat.{ℕ}
use mathlib.Core.Path.{◌≡◌, refl}
use mathlib.Core.Bool.{true, false}
use mathlib.Core.Option.{none, some}
use mathlib.Core.List.{[], ◌∷◌}
use lib.IntN.{pos, negsuc}
use lib.ListN.{replicate}
use Rattle.image.specs.declared.kinds.OperandKind.{OperandKind}
use Rattle.image.specs.declared.kinds.BindingMode.{BindingMode}
use Rattle.image.specs.declared.kinds.BindingAnnotation.{BindingAnnotation}
use Rattle.image.specs.declared.kinds.AdtKind.{AdtKind}
use Rattle.image.specs.Bytes.{word_at, little_endian}
use Rattle.image.specs.Rows.{type_at, variant_at, pat_at, list_at, operand_at, operand_bytes}
use Rattle.image.specs.Lists.{up_from}
use Rattle.image.specs.Rules.{listed}
use Rattle.image.specs.Types.{adt, Operand, shape_by, ty_of, variant_of, operand_of}
use Rattle.image.specs.Integers.{least_value, greatest_value, in_range, integer_value}
use Rattle.image.specs.Tree.{Head, Pat, nil, cons, no, sub, word?, trees, tree?, node_by, node, tree_of, tree}
use Rattle.samples.proofs.Samples.{or_1_2, tuple_ellipsis, slice_rest, enum_fields}

abbrev head : ℕ → ℕ → ℕ → Head
head p t d = record { number = p; ty = t; derefs = d }

-- an Int of 16 bytes that begins at a place of the data
abbrev int : ℕ → ℕ → Operand
int offset value = record { kind = OperandKind.Int; offset = offset; bytes = value ∷ replicate 15 0 }

-- a binding of the whole value, or by reference
abbrev name : ℕ → ℕ → ℕ → Pat
name p t b = Pat.Bind (head p t 0) b no BindingMode.Value BindingAnnotation.Unannotated

abbrev name_ref : ℕ → ℕ → ℕ → Pat
name_ref p t b = Pat.Bind (head p t 0) b no BindingMode.Ref BindingAnnotation.Unannotated

-- `1 | 2`
or_tree : tree or_1_2 2 ≡ Pat.Or (head 2 0 0) (cons (Pat.Lit (head 0 0 0) (int 0 1)) (cons (Pat.Lit (head 1 0 0) (int 16 2)) nil))
unfolding tree tree_of node node_by trees listed pat_at list_at operand_of operand_at operand_bytes word_at
or_tree = refl

-- `(a, .., b, c)`: one argument stands before the ellipsis
ellipsis_tree : tree tuple_ellipsis 3 ≡ Pat.Tuple (head 3 1 0) (cons (name 0 0 0) (cons (name 1 0 1) (cons (name 2 0 2) nil))) (some 1)
unfolding tree tree_of node node_by trees tree? word? listed pat_at list_at word_at
ellipsis_tree = refl

-- `[a, rest @ .., b]`, behind one reference
slice_tree :
    tree slice_rest 4
    ≡ Pat.Slice
    (head 4 1 1)
    (cons (name_ref 0 0 0) nil)
    (sub (Pat.Bind (head 2 1 0) 1 (sub (Pat.Rest (head 1 1 0))) BindingMode.Ref BindingAnnotation.Unannotated))
    (cons (name_ref 3 0 2) nil)
unfolding tree tree_of node node_by trees tree? listed pat_at list_at word_at
slice_tree = refl

-- `Finished { place: 1, time: _ } | Disqualified(_)`
enum_tree :
    tree enum_fields 5
    ≡ Pat.Or
    (head 5 3 0)
    (cons
    (Pat.Record (head 2 3 0) (some 0 ∷ some 1 ∷ []) (cons (Pat.Lit (head 0 1 0) (int 48 1)) (cons (Pat.Wild (head 1 2 0)) nil)) (some 0))
    (cons (Pat.TupleStruct (head 4 3 0) (cons (Pat.Wild (head 3 0 0)) nil) none (some 2)) nil))
unfolding tree tree_of node node_by trees word? listed pat_at list_at operand_of operand_at operand_bytes word_at
enum_tree = refl

-- the enum, and its third variant
enum_type : ty_of enum_fields 3 ≡ record { shape = adt AdtKind.Enum (0 ∷ 1 ∷ 2 ∷ []); copy = false }
unfolding ty_of shape_by type_at up_from word_at
enum_type = refl

third_variant : variant_of enum_fields 2 ≡ record { fields = 0 ∷ []; discriminant = 2 }
unfolding variant_of variant_at listed list_at little_endian word_at
third_variant = refl

-- i8 is -128 to 127, u16 0 to 65535
i8_least : least_value 1 true ≡ negsuc 127
unfolding least_value
i8_least = refl

i8_greatest : greatest_value 1 true ≡ pos 127
unfolding greatest_value
i8_greatest = refl

u16_greatest : greatest_value 2 false ≡ pos 65535
unfolding greatest_value
u16_greatest = refl

-- 255 is -1 as an i8, and 255 as a u8; 128 does not fit an i8, and -1 no u8
minus_one : integer_value true (255 ∷ []) ≡ negsuc 0
unfolding integer_value little_endian
minus_one = refl

byte_255 : integer_value false (255 ∷ []) ≡ pos 255
unfolding integer_value little_endian
byte_255 = refl

too_great : in_range 1 true (pos 128) ≡ false
unfolding in_range least_value greatest_value
too_great = refl

too_small : in_range 1 false (negsuc 0) ≡ false
unfolding in_range least_value greatest_value
too_small = refl
