-- A type, an operand or a pattern taken as one of the kinds that it may be. A definition that looks at one kind says what it makes of that one, and what of every other.
-- Assumes nothing: these are definitions.
use Rattle.std.specs.Prelude.{ℕ, Bool, List, []}
use Rattle.std.proofs.Math.Option.{Option, none, some}
use Rattle.image.specs.declared.kinds.AdtKind.{AdtKind}
use Rattle.image.specs.declared.kinds.BindingMode.{BindingMode}
use Rattle.image.specs.declared.kinds.OperandKind.{OperandKind}
use Rattle.image.specs.Types.{Shape, integer, bool, char, str, tuple, adt, reference, array, slice, unknown}
use Rattle.image.specs.Tree.{Head, Pat, PatOpt}

-- what is made of something that is there, or else the last
abbrev pub if_there : {A B : Type 0} → Option A → (A → B) → B → B
if_there none made other = other
if_there (some a) made other = made a

-- what is made of a type of each kind, in document 01's order: an integer by its size and whether it is signed, bool, char, str, a tuple by its fields' types,
-- an ADT by its kind and its variants, a reference by what it refers to, an array by its elements' type and its length, a slice by its elements' type; or else
abbrev pub by_shape : {A : Type 0} → Shape → (ℕ → Bool → A) → A → A → A → (List ℕ → A) → (AdtKind → List ℕ → A) → (ℕ → A) → (ℕ → ℕ → A) → (ℕ → A) → A → A
by_shape (integer size signed) ofInteger ofBool ofChar ofStr ofTuple ofAdt ofReference ofArray of_slice other = ofInteger size signed
by_shape bool ofInteger ofBool ofChar ofStr ofTuple ofAdt ofReference ofArray of_slice other = ofBool
by_shape char ofInteger ofBool ofChar ofStr ofTuple ofAdt ofReference ofArray of_slice other = ofChar
by_shape str ofInteger ofBool ofChar ofStr ofTuple ofAdt ofReference ofArray of_slice other = ofStr
by_shape (tuple fields) ofInteger ofBool ofChar ofStr ofTuple ofAdt ofReference ofArray of_slice other = ofTuple fields
by_shape (adt kind variants) ofInteger ofBool ofChar ofStr ofTuple ofAdt ofReference ofArray of_slice other = ofAdt kind variants
by_shape (reference t) ofInteger ofBool ofChar ofStr ofTuple ofAdt ofReference ofArray of_slice other = ofReference t
by_shape (array t n) ofInteger ofBool ofChar ofStr ofTuple ofAdt ofReference ofArray of_slice other = ofArray t n
by_shape (slice t) ofInteger ofBool ofChar ofStr ofTuple ofAdt ofReference ofArray of_slice other = of_slice t
by_shape unknown ofInteger ofBool ofChar ofStr ofTuple ofAdt ofReference ofArray of_slice other = other

-- the type's kind, as document 01 numbers it: 1 integer, 2 bool, 3 char, 4 str, 5 tuple, 6 ADT, 7 reference, 8 array, 9 slice
unfoldable pub kind_number : Shape → ℕ
kind_number shape = by_shape shape (λ size signed. 1) 2 3 4 (λ fields. 5) (λ kind variants. 6) (λ t. 7) (λ t n. 8) (λ t. 9) 0

-- what is made of an integer type, of bool, and of char; or of every other type
abbrev pub if_scalar : {A : Type 0} → Shape → (ℕ → Bool → A) → A → A → A → A
if_scalar shape ofInteger ofBool ofChar other =
    by_shape shape ofInteger ofBool ofChar other (λ fields. other) (λ kind variants. other) (λ t. other) (λ t n. other) (λ t. other) other

-- what is made of a tuple; or of every other type
abbrev pub if_tuple : {A : Type 0} → Shape → (List ℕ → A) → A → A
if_tuple shape made other = by_shape shape (λ size signed. other) other other other made (λ kind variants. other) (λ t. other) (λ t n. other) (λ t. other) other

-- the types of a tuple's fields
unfoldable pub tuple_fields : Shape → List ℕ
tuple_fields shape = if_tuple shape (λ fields. fields) []

-- what is made of an ADT; or of every other type
abbrev pub if_adt : {A : Type 0} → Shape → (AdtKind → List ℕ → A) → A → A
if_adt shape made other = by_shape shape (λ size signed. other) other other other (λ fields. other) made (λ t. other) (λ t n. other) (λ t. other) other

-- what is made of the kinds of ADTs: struct, enum, union; or else
abbrev pub by_adt_kind : {A : Type 0} → AdtKind → A → A → A → A → A
by_adt_kind AdtKind.Struct ofStruct ofEnum ofUnion other = ofStruct
by_adt_kind AdtKind.Enum ofStruct ofEnum ofUnion other = ofEnum
by_adt_kind AdtKind.Union ofStruct ofEnum ofUnion other = ofUnion
by_adt_kind AdtKind.Unknown ofStruct ofEnum ofUnion other = other

-- what is made of a reference; or of every other type
abbrev pub if_reference : {A : Type 0} → Shape → (ℕ → A) → A → A
if_reference shape made other = by_shape shape (λ size signed. other) other other other (λ fields. other) (λ kind variants. other) made (λ t n. other) (λ t. other) other

-- what a reference refers to
unfoldable pub referent : Shape → Option ℕ
referent shape = if_reference shape (λ t. some t) none

-- what is made of an array and of a slice; or of every other type
abbrev pub if_sequence : {A : Type 0} → Shape → (ℕ → ℕ → A) → (ℕ → A) → A → A
if_sequence shape ofArray of_slice other =
    by_shape shape (λ size signed. other) other other other (λ fields. other) (λ kind variants. other) (λ t. other) ofArray of_slice other

-- of an array alone
abbrev pub if_array : {A : Type 0} → Shape → (ℕ → ℕ → A) → A → A
if_array shape made other = if_sequence shape made (λ t. other) other

-- of a slice alone
abbrev pub if_slice : {A : Type 0} → Shape → (ℕ → A) → A → A
if_slice shape made other = if_sequence shape (λ t n. other) made other

-- what is made of an operand that is a signed or an unsigned integer, a char, a bool, a string or a constant; or of every other operand
abbrev pub by_operand : {A : Type 0} → OperandKind → A → A → A → A → A → A → A → A
by_operand OperandKind.Int of_int ofUint ofChar ofBool ofStr of_constant other = of_int
by_operand OperandKind.Uint of_int ofUint ofChar ofBool ofStr of_constant other = ofUint
by_operand OperandKind.Char of_int ofUint ofChar ofBool ofStr of_constant other = ofChar
by_operand OperandKind.Bool of_int ofUint ofChar ofBool ofStr of_constant other = ofBool
by_operand OperandKind.Str of_int ofUint ofChar ofBool ofStr of_constant other = ofStr
by_operand OperandKind.CStr of_int ofUint ofChar ofBool ofStr of_constant other = other
by_operand OperandKind.ByteStr of_int ofUint ofChar ofBool ofStr of_constant other = other
by_operand OperandKind.Constant of_int ofUint ofChar ofBool ofStr of_constant other = of_constant
by_operand OperandKind.Float of_int ofUint ofChar ofBool ofStr of_constant other = other
by_operand OperandKind.Other of_int ofUint ofChar ofBool ofStr of_constant other = other
by_operand OperandKind.Unknown of_int ofUint ofChar ofBool ofStr of_constant other = other

-- what is made of a pattern by what a rest may be: of Rest, of Wild, and of a Bind by its head, its binding, its subpattern and how it binds; or of every other
abbrev pub by_rest : {A : Type 0} → Pat → A → A → (Head → ℕ → PatOpt → BindingMode → A) → A → A
by_rest (Pat.Missing h) ofRest ofWild ofBind other = other
by_rest (Pat.Rest h) ofRest ofWild ofBind other = ofRest
by_rest (Pat.NotNull h) ofRest ofWild ofBind other = other
by_rest (Pat.Wild h) ofRest ofWild ofBind other = ofWild
by_rest (Pat.Tuple h args ellipsis) ofRest ofWild ofBind other = other
by_rest (Pat.Or h alts) ofRest ofWild ofBind other = other
by_rest (Pat.Record h fields args v) ofRest ofWild ofBind other = other
by_rest (Pat.Range h start end halfOpen) ofRest ofWild ofBind other = other
by_rest (Pat.Slice h prefix rest suffix) ofRest ofWild ofBind other = other
by_rest (Pat.Path h target) ofRest ofWild ofBind other = other
by_rest (Pat.Lit h operand) ofRest ofWild ofBind other = other
by_rest (Pat.Bind h b s how annotation) ofRest ofWild ofBind other = ofBind h b s how
by_rest (Pat.TupleStruct h args ellipsis v) ofRest ofWild ofBind other = other
by_rest (Pat.Ref h s) ofRest ofWild ofBind other = other
by_rest (Pat.Expr h) ofRest ofWild ofBind other = other
by_rest (Pat.Box h) ofRest ofWild ofBind other = other
by_rest (Pat.Deref h) ofRest ofWild ofBind other = other

-- what is made of a Bind; or of every other pattern
abbrev pub if_bind : {A : Type 0} → Pat → (Head → ℕ → PatOpt → BindingMode → A) → A → A
if_bind pat made other = by_rest pat other other made other
