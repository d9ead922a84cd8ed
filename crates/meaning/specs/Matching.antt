-- What patterns mean, by the Rust Reference's chapter "Patterns": whether a pattern matches a value, and what it binds. A rule's identifier stands in
-- brackets. Written from the Reference, and not from the Rust. Assumes nothing: these are definitions.
use Rattle.std.specs.Prelude.{ℕ, zero, suc, ◌+◌, ◌-◌, Bool, true, false, cond, ◌&&◌, ◌||◌, not, List, [], ◌∷◌, ◌++◌, map, eqb, leb, length, get_or, take, drop}
use Rattle.std.proofs.Math.Option.{Option, none, some}
use Rattle.image.specs.declared.kinds.BindingMode.{BindingMode}
use Rattle.image.specs.declared.kinds.OperandKind.{OperandKind}
use Rattle.image.specs.Bytes.{little_endian}
use Rattle.image.specs.Integers.{integer_value}
use Rattle.image.specs.Lists.{up_from}
use Rattle.image.specs.Types.{Shape, ty_of, Operand}
use Rattle.image.specs.Tree.{Target, unresolved, variant, local, constant, other, Pat, Pats, nil, cons, PatOpt, no, sub}
use Rattle.place.specs.declared.elems.ProjectionElem.{ProjectionElem}
use Rattle.views.specs.Views.{Path}
use Rattle.cases_spec.specs.Cases.{if_there, if_scalar, if_adt, by_operand}
use Rattle.counting.specs.Reaching.{is_enum_kind}
use Rattle.meaning.specs.Values.{Value, Int, Bool', Char, Str, Reference, unit_value, parts_of, if_variant, part_at}
use Rattle.meaning.specs.Running.{Held, value, refers_to, both, scalar_of, not_above, same_value}

-- a place one element on
unfoldable pub onto : Path → ProjectionElem → Path
onto path elem = record { local = path.local; elems = path.elems ++ (elem ∷ []) }

-- so many references are crossed [patterns.ident.binding.auto-deref, patterns.ident.binding.nested-references]
unfoldable pub crossed : ℕ → Value → Value
crossed zero v = v
crossed (suc n) v = crossed n (part_at ProjectionElem.Deref v)

unfoldable pub crossed_path : ℕ → Path → Path
crossed_path zero path = path
crossed_path (suc n) path = crossed_path n (onto path ProjectionElem.Deref)

-- the value of an evaluated constant, at what its type is [patterns.const.primitive, patterns.range.path-value]
unfoldable pub evaluated : Shape → List ℕ → Value
evaluated shape bytes =
    if_scalar shape (λ size signed. Int (integer_value signed bytes)) (Bool' (not (eqb (little_endian bytes) 0))) (Char (little_endian bytes)) unit_value

-- "Literal patterns match exactly the same value as what is created by the literal." [patterns.literal.intro, patterns.range.literal-value]
unfoldable pub created : OperandKind → Shape → List ℕ → Value
created kind shape bytes =
    by_operand kind (Int (integer_value true bytes)) (Int (integer_value false bytes)) (Char (little_endian bytes)) (Bool' (not (eqb (little_endian bytes) 0)))
    (Reference (Str bytes)) (evaluated shape bytes) unit_value

abbrev pub operand_value : List ℕ → ℕ → Operand → Value
operand_value image t operand = created operand.kind (ty_of image t).shape operand.bytes

-- "all values greater than or equal to the lower bound" [patterns.range.from]
unfoldable pub from_start : Option Value → Value → Bool
from_start none v = true
from_start (some start) v = both not_above (scalar_of start) (scalar_of v)

-- "up to and including the upper bound" [patterns.range.inclusive, patterns.range.to-inclusive], or "up to, but not including the upper bound"
-- [patterns.range.exclusive, patterns.range.to-exclusive]
unfoldable pub to_end : Option Value → Bool → Value → Bool
to_end none halfOpen v = true
to_end (some end) halfOpen v = both not_above (scalar_of v) (scalar_of end) && not (halfOpen && same_value v end)

abbrev pub operand_value? : List ℕ → ℕ → Option Operand → Option Value
operand_value? image t none = none
operand_value? image t (some operand) = some (operand_value image t operand)

-- whether patterns match, each its own value, in a row
unfoldable pub match_all : List (Value → Bool) → List Value → Bool
match_all [] vs = true
match_all (m ∷ ms) [] = false
match_all (m ∷ ms) (v ∷ vs) = m v && match_all ms vs

-- all of a tuple's or a tuple struct's fields [patterns.tuple.intro, patterns.tuple-struct.intro]; a rest pattern "matches zero or more elements that haven't
-- been matched already before and after" [patterns.rest.intro]
unfoldable pub match_row : Option ℕ → List (Value → Bool) → List Value → Bool
match_row none ms vs = eqb (length ms) (length vs) && match_all ms vs
match_row (some at) ms vs =
    leb (length ms) (length vs) && match_all (take at ms) vs && match_all (drop at ms) (drop (length vs - (length ms - at)) vs)

-- fields by their numbers [patterns.struct.intro, patterns.struct.ignore-rest]
unfoldable pub match_fields : List (Option ℕ) → List (Value → Bool) → List Value → Bool
match_fields [] ms vs = true
match_fields (i ∷ fields) [] vs = true
match_fields (none ∷ fields) (m ∷ ms) vs = false
match_fields (some i ∷ fields) (m ∷ ms) vs = m (get_or vs i unit_value) && match_fields fields ms vs

-- a value of the variant v [patterns.struct.namespace, patterns.tuple-struct.namespace, patterns.path.intro]
unfoldable pub is_variant : Option ℕ → Value → Bool
is_variant v x = if_variant x (λ w. if_there v (λ u. eqb u w) false) false

-- a path names a variant or a constant, which matches what is equal to it [patterns.path.intro, patterns.const.partial-eq]
unfoldable pub path_matches : List ℕ → ℕ → Target → Value → Bool
path_matches image t unresolved v = false
path_matches image t (variant w) v = is_variant (some w) v
path_matches image t (local b) v = false
path_matches image t (constant operand) v = same_value (operand_value image t operand) v
path_matches image t other v = false

-- a slice pattern without a rest has as many items as the array or slice, and with one at most as many [patterns.slice.intro,
-- patterns.slice.refutable-slice, patterns.rest.intro]
abbrev pub long_enough : PatOpt → ℕ → ℕ → Bool
long_enough no count n = eqb count n
long_enough (sub rest) count n = leb count n

module _ (image : List ℕ) where
  unfoldable mutual
    -- whether a pattern matches a value
    pub matches : Pat → Value → Bool
    matches (Pat.Missing h) v = false
    matches (Pat.Rest h) v = false
    matches (Pat.NotNull h) v = false
    -- "The wildcard pattern .. matches any value." [patterns.wildcard.intro]
    matches (Pat.Wild h) v = true
    matches (Pat.Tuple h args ellipsis) v = match_row ellipsis (matchers args) (parts_of (crossed h.derefs v))
    -- "p | q" [patterns.or]
    matches (Pat.Or h alts) v = match_any alts (crossed h.derefs v)
    matches (Pat.Record h fields args w) v =
        is_variant w (crossed h.derefs v) && match_fields fields (matchers args) (parts_of (crossed h.derefs v))
    -- "Range patterns match scalar values within the range defined by their bounds." [patterns.range.intro]
    matches (Pat.Range h start end halfOpen) v =
        from_start (operand_value? image h.ty start) (crossed h.derefs v) && to_end (operand_value? image h.ty end) halfOpen (crossed h.derefs v)
    matches (Pat.Slice h prefix rest suffix) v =
        let vs = parts_of (crossed h.derefs v) in
        let count = length (matchers prefix) + length (matchers suffix) in
        long_enough rest count (length vs) && match_all (matchers prefix) vs && match_all (matchers suffix) (drop (length vs - length (matchers suffix)) vs)
    matches (Pat.Path h target) v = path_matches image h.ty target (crossed h.derefs v)
    matches (Pat.Lit h operand) v = same_value (operand_value image h.ty operand) (crossed h.derefs v)
    -- "match any value", or what the subpattern does [patterns.ident.bare, patterns.ident.scrutinized]
    matches (Pat.Bind h b s how annotation) v = matches? s (crossed h.derefs v)
    matches (Pat.TupleStruct h args ellipsis w) v =
        is_variant w (crossed h.derefs v) && match_row ellipsis (matchers args) (parts_of (crossed h.derefs v))
    -- "Reference patterns dereference the pointers that are being matched" [patterns.ref.intro]
    matches (Pat.Ref h s) v = matches s (part_at ProjectionElem.Deref (crossed h.derefs v))
    matches (Pat.Expr h) v = false
    matches (Pat.Box h) v = false
    matches (Pat.Deref h) v = false

    pub matchers : Pats → List (Value → Bool)
    matchers nil = []
    matchers (cons q qs) = (λ v. matches q v) ∷ matchers qs

    -- one of the alternatives
    pub match_any : Pats → Value → Bool
    match_any nil v = false
    match_any (cons q qs) v = matches q v || match_any qs v

    pub matches? : PatOpt → Value → Bool
    matches? no v = true
    matches? (sub s) v = matches s v

-- what a binding is bound to: a value, or a reference to a place
pub record Bound : Type 0 where
  pub binding : ℕ
  pub what : Held

-- "By default, identifier patterns bind a variable to a copy of or move from the matched value" [patterns.ident.move]; with `ref` or `ref mut` "a reference to
-- the same memory location is bound" [patterns.ident.ref, patterns.ident.binding.ref, patterns.ident.binding.ref-mut]
unfoldable pub bound_as : BindingMode → Path → Value → Held
bound_as BindingMode.Value path v = value v
bound_as BindingMode.Ref path v = refers_to false path
bound_as BindingMode.RefMut path v = refers_to true path
bound_as BindingMode.Unknown path v = value v

-- what patterns bind, each at the place one element on
unfoldable pub bind_all : List (Path → Value → List Bound) → List ProjectionElem → Path → Value → List Bound
bind_all [] elems path v = []
bind_all (b ∷ bs) [] path v = []
bind_all (b ∷ bs) (elem ∷ elems) path v = b (onto path elem) (part_at elem v) ++ bind_all bs elems path v

-- the fields that the arguments in a row stand for, where there are so many arguments and fields
unfoldable pub row_fields : Option ℕ → ℕ → ℕ → List ProjectionElem
row_fields none args fields = map (λ i. ProjectionElem.Field i) (up_from 0 args)
row_fields (some at) args fields = map (λ i. ProjectionElem.Field i) (up_from 0 at ++ up_from (fields - (args - at)) (args - at))

unfoldable pub record_fields : List (Option ℕ) → List ProjectionElem
record_fields [] = []
record_fields (none ∷ fields) = ProjectionElem.Unknown ∷ record_fields fields
record_fields (some i ∷ fields) = ProjectionElem.Field i ∷ record_fields fields

-- the items at the end, the last of which is the last element
unfoldable pub last_items : ℕ → List ProjectionElem
last_items zero = []
last_items (suc n) = ProjectionElem.IndexFromEnd n ∷ last_items n

-- the fields of an enum's variant lie behind its choice
unfoldable pub variant_path : Shape → Option ℕ → Path → Path
variant_path shape v path =
    if_adt shape (λ kind variants. cond (is_enum_kind kind) (if_there v (λ w. onto path (ProjectionElem.Downcast w)) path) path) path
