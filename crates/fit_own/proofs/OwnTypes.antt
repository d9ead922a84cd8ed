-- A pattern whose types fit, and in which nothing refused is reached, can fail exactly where it does by its own types. Assumes nothing.
use Prim.Native.Nat.{ℕ, zero, suc, ◌<◌}
use mathlib.Core.Path.{◌≡◌, refl, sym, ap, subst, ◌∙◌}
use mathlib.Core.Bool.{Bool, true, false, ◌&&◌, ◌||◌, not, false≢true, true≢false}
use mathlib.Core.Option.{Option, none, some}
use mathlib.Core.List.{List}
use lib.Dec.{eqb, leb}
use lib.ListN.{length, get_or, take}
use Rattle.image.specs.declared.kinds.AdtKind.{AdtKind}
use Rattle.image.specs.Tables.{type_count}
use Rattle.image.specs.Lists.{all_true}
use Rattle.image.specs.Types.{Shape, integer, bool, char, str, tuple, adt, reference, array, slice, unknown, ty_of, variant_of, Operand}
use Rattle.image.specs.Tree.{Target, unresolved, variant, local, constant, other, Pat, Pats, nil, cons, PatOpt, no, sub}
use Rattle.image.specs.Valid.{valid}
use Rattle.image.proofs.Bools.{and_left, and_right}
use Rattle.place.specs.declared.elems.ProjectionElem.{ProjectionElem}
use Rattle.place.specs.declared.place_ty.PlaceTy.{PlaceTy}
use Rattle.place.specs.PlaceTypes.{projection_ty, Named}
use Rattle.place.proofs.Named.{named_projection}
use Rattle.pattern_matching.specs.Variants.{shape_of}
use Rattle.counting.specs.Reaching.{Argument, behind_derefs, in_a_row, by_fields, field_count, is_enum_kind, is_enum, is_slice_shape, downcast, of_variant, slice_arguments, some_argument, all_alternatives, end_count, path_tests, positive, can_fail, failing, can_fail?}
use Rattle.cases_spec.specs.Cases.{kind_number, referent, tuple_fields}
use Rattle.meaning.specs.Values.{has_values, has_variant}
use Rattle.meaning.specs.Typing.{TypeNumber, variant_fields, element_type}
use Rattle.meaning.specs.Fit.{is_there, row_fits, items_all_fit, types_fit, fitting, types_fit?, pat_count, fields_there, ellipsis_within, has_local, rest_taken?, nothing_refused, none_refused, none_reached_refused, nothing_refused?}
use Rattle.meaning.proofs.Children.{record_placed}
use Rattle.meaning.proofs.Typed.{head_of, tuple_fits, or_fits, record_fits, slice_fits, bind_fits, tuple_struct_fits, ref_fits, type_here, tuple_field, struct_field, deref_type, index_type, end_index_type, variant_fields_lem, has_variant_lem, struct_one}
use Rattle.fit_own.specs.Failing.{some_true, path_fails, fails_by, failures, fails_by?}
use Rattle.fit_own.proofs.Agreeing.{Each, none_left, one_more_lem, Leads, row_some, fields_some, items_some}

-- by the numbers of their kinds: a tuple, a reference, an array or a slice
pub only_tuple : (s : Shape) → eqb (kind_number s) 5 ≡ true → (ts : List ℕ) × (s ≡ tuple ts)
unfolding kind_number
only_tuple (integer size signed) e = absurd (false≢true e)
only_tuple bool e = absurd (false≢true e)
only_tuple char e = absurd (false≢true e)
only_tuple str e = absurd (false≢true e)
only_tuple (tuple fields) e = (fields, refl)
only_tuple (adt kind variants) e = absurd (false≢true e)
only_tuple (reference t) e = absurd (false≢true e)
only_tuple (array t n) e = absurd (false≢true e)
only_tuple (slice t) e = absurd (false≢true e)
only_tuple unknown e = absurd (false≢true e)

pub only_reference : (s : Shape) → eqb (kind_number s) 7 ≡ true → (u : ℕ) × (s ≡ reference u)
unfolding kind_number
only_reference (integer size signed) e = absurd (false≢true e)
only_reference bool e = absurd (false≢true e)
only_reference char e = absurd (false≢true e)
only_reference str e = absurd (false≢true e)
only_reference (tuple fields) e = absurd (false≢true e)
only_reference (adt kind variants) e = absurd (false≢true e)
only_reference (reference t) e = (t, refl)
only_reference (array t n) e = absurd (false≢true e)
only_reference (slice t) e = absurd (false≢true e)
only_reference unknown e = absurd (false≢true e)

pub only_items : (s : Shape) → leb 8 (kind_number s) ≡ true → (u : ℕ) × (element_type s ≡ some u)
unfolding kind_number element_type
only_items (integer size signed) e = absurd (false≢true e)
only_items bool e = absurd (false≢true e)
only_items char e = absurd (false≢true e)
only_items str e = absurd (false≢true e)
only_items (tuple fields) e = absurd (false≢true e)
only_items (adt kind variants) e = absurd (false≢true e)
only_items (reference t) e = absurd (false≢true e)
only_items (array t n) e = (t, refl)
only_items (slice t) e = (t, refl)
only_items unknown e = absurd (false≢true e)

-- an ADT with values that is no enum is a struct
only_struct : (kind : AdtKind) → has_values kind ≡ true → is_enum_kind kind ≡ false → kind ≡ AdtKind.Struct
only_struct AdtKind.Struct v e = refl
only_struct AdtKind.Enum v e = absurd (true≢false e)
only_struct AdtKind.Union v e = absurd (false≢true v)
only_struct AdtKind.Unknown v e = absurd (false≢true v)

two : (a b : Bool) → a && b ≡ true → (a ≡ true) × (b ≡ true)
two a b e = (and_left a b e, and_right a b e)

three : (a b c : Bool) → a && b && c ≡ true → (a ≡ true) × (b ≡ true) × (c ≡ true)
three a b c e = let (x, z) = two (a && b) c e in (and_left a b x, and_right a b x, z)

four : (a b c d : Bool) → a && b && c && d ≡ true → (a ≡ true) × (b ≡ true) × (c ≡ true) × (d ≡ true)
four a b c d e = let (x, z) = two (a && b && c) d e in let (p, q, r) = three a b c x in (p, q, r, z)

-- a Range and a Path
ends_fail : (start end : Option Operand) → positive (Prim.Native.Nat.◌+◌ (end_count start) (end_count end)) ≡ is_there start || is_there end
ends_fail none none = refl
ends_fail none (some y) = refl
ends_fail (some x) none = refl
ends_fail (some x) (some y) = refl

enum_fails : (b : Bool) → positive (mathlib.Core.Bool.cond b 1 0) ≡ b
enum_fails true = refl
enum_fails false = refl

path_fails_lem : (image : List ℕ) (t : ℕ) (target : Target) → positive (path_tests image (PlaceTy.Ty t) target) ≡ path_fails (ty_of image t).shape target
unfolding path_tests path_fails shape_of
path_fails_lem image t unresolved = refl
path_fails_lem image t (variant v) = enum_fails (is_enum (some (ty_of image t).shape))
path_fails_lem image t (local b) = refl
path_fails_lem image t (constant operand) = refl
path_fails_lem image t other = refl

-- alternatives: those behind one that cannot fail do not count
alternatives : (c x y r : Bool) → not c || r ≡ true → (r ≡ true → x ≡ y) → c && x ≡ c && y
alternatives true x y r h k = k h
alternatives false x y r h k = refl

-- in a valid image
module _ (image bindings : List ℕ) (valid_image : valid image ≡ true) where
  -- what an element leads to is in the table
  pub in_table_lem : (ty : PlaceTy) {u : ℕ} (elem : ProjectionElem) → Named image ty → projection_ty ty image elem ≡ PlaceTy.Ty u → u < type_count image
  in_table_lem ty elem n e = subst (λ (x : PlaceTy). Named image x) e (named_projection image valid_image ty elem n)

  -- the type behind references is in the table
  named_behind : (ty : PlaceTy) (n : ℕ) → Named image ty → Named image (behind_derefs image ty n)
  unfolding behind_derefs
  named_behind ty zero h = h
  named_behind ty (suc n) h = named_behind (projection_ty ty image ProjectionElem.Deref) n (named_projection image valid_image ty ProjectionElem.Deref h)

  -- so is that of a head
  pub head_there : (pat : Pat) (t : ℕ) → t < type_count image → types_fit image pat (some t) ≡ true → (head_of pat).ty < type_count image
  head_there pat t here e = subst (λ (x : PlaceTy). Named image x) (type_here image pat t e) (named_behind (PlaceTy.Ty t) (head_of pat).derefs here)

  -- a tuple's fields
  pub tuple_leads : (t : ℕ) (ts : List ℕ) → t < type_count image → (ty_of image t).shape ≡ tuple ts → (i : ℕ) → i < length ts → Leads image (PlaceTy.Ty t) (ProjectionElem.Field i) (get_or ts i 0)
  tuple_leads t ts here s i h = let q = tuple_field image t ts i s h in (q, in_table_lem (PlaceTy.Ty t) (ProjectionElem.Field i) here q)

  -- a Tuple
  inside_tuple : (t : ℕ) (args : Pats) (ellipsis : Option ℕ) → t < type_count image → row_fits ellipsis (fitting image args) (tuple_fields (ty_of image t).shape) ≡ true → eqb (kind_number (ty_of image t).shape) 5 ≡ true
      → Each image (failing image args) (fitting image args) (failures image args)
      → some_argument image (PlaceTy.Ty t) (in_a_row ellipsis (field_count (shape_of image (PlaceTy.Ty t))) (failing image args)) ≡ some_true (failures image args)
  unfolding tuple_fields shape_of field_count
  inside_tuple t args ellipsis here fits kind e =
      let (ts, s) = only_tuple (ty_of image t).shape kind in
      ap (λ (x : Shape). some_argument image (PlaceTy.Ty t) (in_a_row ellipsis (field_count (some x)) (failing image args))) s
      ∙ row_some image (PlaceTy.Ty t) ellipsis ts e (tuple_leads t ts here s) (subst (λ (x : Shape). row_fits ellipsis (fitting image args) (tuple_fields x) ≡ true) s fits)

  -- a pattern that names a variant, where its arguments on a struct agree
  variant_step : (t w : ℕ) (args : ℕ → List (Argument (PlaceTy → Bool))) (b : Bool) → (is_enum (some (ty_of image t).shape) ≡ false → some_argument image (PlaceTy.Ty t) (args (length (variant_of image w).fields)) ≡ b)
      → is_enum (shape_of image (PlaceTy.Ty t)) || some_argument image (PlaceTy.Ty t) (of_variant image (PlaceTy.Ty t) (some w) args) ≡ is_enum (some (ty_of image t).shape) || b
  unfolding shape_of of_variant downcast
  variant_step t w args b h = go (is_enum (some (ty_of image t).shape)) h
    where
      go : (e : Bool) → (e ≡ false → some_argument image (PlaceTy.Ty t) (args (length (variant_of image w).fields)) ≡ b)
          → e || some_argument image (PlaceTy.Ty t) (downcast e w (args (length (variant_of image w).fields))) ≡ e || b
      go true k = refl
      go false k = k refl

  inside_variant : (t : ℕ) (v : Option ℕ) (args : ℕ → List (Argument (PlaceTy → Bool))) (b : Bool) → t < type_count image → has_variant (ty_of image t).shape v ≡ true
      → (((i : ℕ) → i < length (variant_fields image (ty_of image t).shape v) → Leads image (PlaceTy.Ty t) (ProjectionElem.Field i) (get_or (variant_fields image (ty_of image t).shape v) i 0))
      → some_argument image (PlaceTy.Ty t) (args (length (variant_fields image (ty_of image t).shape v))) ≡ b)
      → is_enum (shape_of image (PlaceTy.Ty t)) || some_argument image (PlaceTy.Ty t) (of_variant image (PlaceTy.Ty t) v args) ≡ is_enum (some (ty_of image t).shape) || b
  unfolding is_enum
  inside_variant t v args b here has agree =
      let (w, kind, variants, is, s, values, m) = has_variant_lem (ty_of image t).shape v has in
      let fields : variant_fields image (ty_of image t).shape v ≡ (variant_of image w).fields = ap (variant_fields image (ty_of image t).shape) is ∙ variant_fields_lem image w kind variants (ty_of image t).shape s m in
      ap (λ (o : Option ℕ). is_enum (shape_of image (PlaceTy.Ty t)) || some_argument image (PlaceTy.Ty t) (of_variant image (PlaceTy.Ty t) o args)) is
      ∙ variant_step t w args b (λ plain.
      let struct : kind ≡ AdtKind.Struct = only_struct kind values (sym (ap (λ (x : Shape). is_enum (some x)) s) ∙ plain) in
      let shape : (ty_of image t).shape ≡ adt AdtKind.Struct variants = s ∙ ap (λ (k : AdtKind). adt k variants) struct in
      subst (λ (ts : List ℕ). ((i : ℕ) → i < length ts → Leads image (PlaceTy.Ty t) (ProjectionElem.Field i) (get_or ts i 0)) → some_argument image (PlaceTy.Ty t) (args (length ts)) ≡ b) fields agree
      (λ i lt. let q = struct_field image t w variants i shape (struct_one image t variants w valid_image here shape m) lt in (q, in_table_lem (PlaceTy.Ty t) (ProjectionElem.Field i) here q)))

  -- the items of a Slice
  inside_slice : (t : ℕ) (prefix suffix : Pats) → t < type_count image → leb 8 (kind_number (ty_of image t).shape) ≡ true → Each image (failing image prefix) (fitting image prefix) (failures image prefix)
      → Each image (failing image suffix) (fitting image suffix) (failures image suffix) → items_all_fit (fitting image prefix) (element_type (ty_of image t).shape) ≡ true → items_all_fit (fitting image suffix) (element_type (ty_of image t).shape) ≡ true
      → some_argument image (PlaceTy.Ty t) (slice_arguments (failing image prefix) (failing image suffix)) ≡ some_true (failures image prefix) || some_true (failures image suffix)
  inside_slice t prefix suffix here kind front back first last =
      let (u, s) = only_items (ty_of image t).shape kind in
      items_some image (PlaceTy.Ty t) u front back (λ i. let q = index_type image t i s in (q, in_table_lem (PlaceTy.Ty t) (ProjectionElem.Index i) here q))
      (λ i. let q = end_index_type image t i s in (q, in_table_lem (PlaceTy.Ty t) (ProjectionElem.IndexFromEnd i) here q))
      (subst (λ (o : TypeNumber). items_all_fit (fitting image prefix) o ≡ true) s first) (subst (λ (o : TypeNumber). items_all_fit (fitting image suffix) o ≡ true) s last)

  -- what stands below a Ref fits what the reference refers to
  referred : (s : Pat) (u : ℕ) (shape : Shape) → shape ≡ reference u → types_fit image s (referent shape) ≡ true → types_fit image s (some u) ≡ true
  unfolding referent
  referred s u shape is e = rw is at e

  mutual
    unfolding head_of can_fail failing can_fail? fails_by failures fails_by? nothing_refused none_refused none_reached_refused nothing_refused? fitting types_fit? items_all_fit all_alternatives all_true

    -- every pattern
    pub fails : (pat : Pat) (t : ℕ) → t < type_count image → types_fit image pat (some t) ≡ true → nothing_refused image bindings pat ≡ true → can_fail image pat (PlaceTy.Ty t) ≡ fails_by image pat
    fails (Pat.Missing h) t here fits taken = refl
    fails (Pat.Rest h) t here fits taken = refl
    fails (Pat.NotNull h) t here fits taken = refl
    fails (Pat.Wild h) t here fits taken = refl
    fails (Pat.Tuple h args ellipsis) t here fits taken =
        let (kind, within, below) = three (eqb (kind_number (ty_of image h.ty).shape) 5) (ellipsis_within ellipsis (pat_count args)) (none_refused image bindings args) taken in
        ap (λ (x : PlaceTy). some_argument image x (in_a_row ellipsis (field_count (shape_of image x)) (failing image args))) (type_here image (Pat.Tuple h args ellipsis) t fits)
        ∙ inside_tuple h.ty args ellipsis (head_there (Pat.Tuple h args ellipsis) t here fits) (tuple_fits image h (some t) args ellipsis fits).1 kind (each args below)
    fails (Pat.Or h alts) t here fits taken =
        ap (λ (x : PlaceTy). all_alternatives x (failing image alts)) (type_here image (Pat.Or h alts) t fits)
        ∙ reached alts h.ty (head_there (Pat.Or h alts) t here fits) (or_fits image h (some t) alts fits).1 taken
    fails (Pat.Record h fields args v) t here fits taken =
        let shape = (ty_of image h.ty).shape in
        let (has, present, below) = three (has_variant shape v) (fields_there fields (length (variant_fields image shape v))) (none_refused image bindings args) taken in
        let (_, _, _, row) = record_fits image h (some t) fields args v fits in
        ap (λ (x : PlaceTy). is_enum (shape_of image x) || some_argument image x (of_variant image x v (λ n. by_fields fields (failing image args)))) (type_here image (Pat.Record h fields args v) t fits)
        ∙ inside_variant h.ty v (λ n. by_fields fields (failing image args)) (some_true (take (length fields) (failures image args))) (head_there (Pat.Record h fields args v) t here fits) has (λ at.
        fields_some image (PlaceTy.Ty h.ty) fields (length (variant_fields image shape v)) (each args below) present
        (record_placed (Leads image (PlaceTy.Ty h.ty)) fields (fitting image args) (variant_fields image shape v) at present row))
    fails (Pat.Range h start end halfOpen) t here fits taken = ends_fail start end
    fails (Pat.Slice h prefix rest suffix) t here fits taken =
        let shape = (ty_of image h.ty).shape in
        let (kind, has, front, back) = four (leb 8 (kind_number shape)) (rest_taken? bindings rest) (none_refused image bindings prefix) (none_refused image bindings suffix) taken in
        let (_, _, _, first, last) = slice_fits image h (some t) prefix rest suffix fits in
        ap (λ (x : PlaceTy). is_slice_shape shape || some_argument image x (slice_arguments (failing image prefix) (failing image suffix))) (type_here image (Pat.Slice h prefix rest suffix) t fits)
        ∙ ap (λ (b : Bool). is_slice_shape shape || b) (inside_slice h.ty prefix suffix (head_there (Pat.Slice h prefix rest suffix) t here fits) kind (each prefix front) (each suffix back) first last)
    fails (Pat.Path h target) t here fits taken =
        ap (λ (x : PlaceTy). positive (path_tests image x target)) (type_here image (Pat.Path h target) t fits) ∙ path_fails_lem image h.ty target
    fails (Pat.Lit h o) t here fits taken = refl
    fails (Pat.Bind h b s how annotation) t here fits taken =
        let below = and_right (has_local bindings b) (nothing_refused? image bindings s) taken in
        ap (λ (x : PlaceTy). can_fail? image s x) (type_here image (Pat.Bind h b s how annotation) t fits)
        ∙ fails? s h.ty (head_there (Pat.Bind h b s how annotation) t here fits) (bind_fits image h (some t) b s how annotation fits).1 below
    fails (Pat.TupleStruct h args ellipsis v) t here fits taken =
        let shape = (ty_of image h.ty).shape in
        let (has, within, below) = three (has_variant shape v) (ellipsis_within ellipsis (pat_count args)) (none_refused image bindings args) taken in
        let (_, _, row) = tuple_struct_fits image h (some t) args ellipsis v fits in
        ap (λ (x : PlaceTy). is_enum (shape_of image x) || some_argument image x (of_variant image x v (λ n. in_a_row ellipsis n (failing image args)))) (type_here image (Pat.TupleStruct h args ellipsis v) t fits)
        ∙ inside_variant h.ty v (λ n. in_a_row ellipsis n (failing image args)) (some_true (failures image args)) (head_there (Pat.TupleStruct h args ellipsis v) t here fits) has (λ at.
        row_some image (PlaceTy.Ty h.ty) ellipsis (variant_fields image shape v) (each args below) at row)
    fails (Pat.Ref h s) t here fits taken =
        let shape = (ty_of image h.ty).shape in
        let kind = and_left (eqb (kind_number shape) 7) (nothing_refused image bindings s) taken in
        let below = and_right (eqb (kind_number shape) 7) (nothing_refused image bindings s) taken in
        let (u, is) = only_reference shape kind in
        let q = deref_type image h.ty u is in
        ap (λ (x : PlaceTy). can_fail image s (projection_ty x image ProjectionElem.Deref)) (type_here image (Pat.Ref h s) t fits)
        ∙ ap (λ (x : PlaceTy). can_fail image s x) q
        ∙ fails s u (in_table_lem (PlaceTy.Ty h.ty) ProjectionElem.Deref (head_there (Pat.Ref h s) t here fits) q) (referred s u shape is (ref_fits image h (some t) s fits).1) below
    fails (Pat.Expr h) t here fits taken = refl
    fails (Pat.Box h) t here fits taken = refl
    fails (Pat.Deref h) t here fits taken = refl

    -- patterns in a row
    each : (args : Pats) → none_refused image bindings args ≡ true → Each image (failing image args) (fitting image args) (failures image args)
    each nil e = none_left
    each (cons q qs) e =
        one_more_lem (λ t here fits. fails q t here fits (and_left (nothing_refused image bindings q) (none_refused image bindings qs) e))
        (each qs (and_right (nothing_refused image bindings q) (none_refused image bindings qs) e))

    -- alternatives, up to the first that cannot fail
    reached : (alts : Pats) (t : ℕ) → t < type_count image → items_all_fit (fitting image alts) (some t) ≡ true → none_reached_refused image bindings alts (PlaceTy.Ty t) ≡ true
        → all_alternatives (PlaceTy.Ty t) (failing image alts) ≡ all_true (failures image alts)
    reached nil t here fits taken = refl
    reached (cons q qs) t here fits taken =
        let ty = PlaceTy.Ty t in
        let can = can_fail image q ty in
        let rest = none_reached_refused image bindings qs ty in
        alternatives can (all_alternatives ty (failing image qs)) (all_true (failures image qs)) rest (and_right (nothing_refused image bindings q) (not can || rest) taken)
        (λ more. reached qs t here (and_right (types_fit image q (some t)) (items_all_fit (fitting image qs) (some t)) fits) more)
        ∙ ap (λ (b : Bool). b && all_true (failures image qs))
        (fails q t here (and_left (types_fit image q (some t)) (items_all_fit (fitting image qs) (some t)) fits) (and_left (nothing_refused image bindings q) (not can || rest) taken))

    -- a subpattern that may be absent
    fails? : (s : PatOpt) (t : ℕ) → t < type_count image → types_fit? image s (some t) ≡ true → nothing_refused? image bindings s ≡ true → can_fail? image s (PlaceTy.Ty t) ≡ fails_by? image s
    fails? no t here fits taken = refl
    fails? (sub s) t here fits taken = fails s t here fits taken
