-- Where types fit, nothing refused is reached exactly where alternatives are told by their own types. Assumes nothing.
use Prim.Native.Nat.{ℕ, zero, suc, ◌-◌, ◌+◌, ◌<◌}
use mathlib.Core.Path.{◌≡◌, refl, sym, ap, ap₂, subst, ◌∙◌}
use mathlib.Core.Bool.{Bool, true, false, cond, ◌&&◌, ◌||◌, not, false≢true}
use mathlib.Core.Option.{Option, none, some}
use mathlib.Core.List.{List, [], ◌∷◌}
use native.Mathlib.Omega.{arith}
use borrow.Author.Tests.{ltb-true}
use lib.Dec.{eqb, leb, ltb}
use lib.ListN.{length, get_or, take, drop, length-drop}
use lib.Seq.{get_or-drop}
use Rattle.image.specs.declared.kinds.AdtKind.{AdtKind}
use Rattle.image.specs.Tables.{type_count}
use Rattle.image.specs.Lists.{member}
use Rattle.image.specs.Types.{Shape, adt, reference, ty_of, variant_of}
use Rattle.image.specs.Tree.{Pat, Pats, nil, cons, PatOpt, no, sub}
use Rattle.image.specs.Valid.{valid}
use Rattle.image.proofs.Bools.{and_left, and_right}
use Rattle.place.specs.declared.elems.ProjectionElem.{ProjectionElem}
use Rattle.place.specs.declared.place_ty.PlaceTy.{PlaceTy}
use Rattle.place.specs.PlaceTypes.{Named}
use Rattle.place.proofs.Named.{named_projection}
use Rattle.cases_spec.specs.Cases.{kind_number, referent, tuple_fields}
use Rattle.meaning.specs.Values.{has_values, has_variant}
use Rattle.meaning.specs.Typing.{TypeNumber, variant_fields, element_type, field_type}
use Rattle.meaning.specs.Fit.{arguments_fit, row_fits, by_fields_fit, items_all_fit, types_fit, fitting, types_fit?, pat_count, fields_there, ellipsis_within, has_local, rest_taken?, nothing_refused, none_refused, none_reached_refused, nothing_refused?, each_fits}
use Rattle.meaning.proofs.Typed.{head_of, no_type_lem, tuple_fits, or_fits, record_fits, slice_fits, bind_fits, tuple_struct_fits, ref_fits, struct_field, enum_choice, enum_field, deref_type, index_type, variant_fields_lem, has_variant_lem, struct_one}
use Rattle.fit_own.specs.Taking.{taken_by, all_taken, fields_taken, reached_taken, taken_by?}
use Rattle.fit_own.proofs.OwnTypes.{only_tuple, only_reference, only_items, in_table_lem, head_there, tuple_leads, fails}

-- a type of the table, where there is one
abbrev NamedAt : List ℕ → TypeNumber → Type 0
NamedAt image none = Unit
NamedAt image (some t) = t < type_count image

-- a test that a place of a type of the table passes
record Somewhere (image : List ℕ) (f : TypeNumber → Bool) : Type 0 where
  place : TypeNumber
  named : NamedAt image place
  fits : f place ≡ true

data All (image : List ℕ) : List (TypeNumber → Bool) → Type 0 where
  none_fit : All image []
  one_fits : {f : TypeNumber → Bool} {fs : List (TypeNumber → Bool)} → Somewhere image f → All image fs → All image (f ∷ fs)

-- the fields have types of the table
abbrev FieldsNamed : List ℕ → List ℕ → Type 0
FieldsNamed image ts = (i : ℕ) → i < length ts → get_or ts i 0 < type_count image

-- the first n, and those behind them
all_join : {image : List ℕ} (n : ℕ) (fs : List (TypeNumber → Bool)) → All image (take n fs) → All image (drop n fs) → All image fs
all_join zero fs front back = back
all_join (suc n) [] front back = none_fit
all_join (suc n) (f ∷ fs) (one_fits first front) back = one_fits first (all_join n fs front back)

module _ (image : List ℕ) where
  -- arguments in a row
  each_all : (fs : List (TypeNumber → Bool)) (ts : List ℕ) → FieldsNamed image ts → each_fits fs ts ≡ true → All image fs
  unfolding each_fits
  each_all [] ts named e = none_fit
  each_all (f ∷ fs) [] named e = one_fits (record { place = none; named = tt; fits = and_left (f none) (each_fits fs []) e }) (each_all fs [] named (and_right (f none) (each_fits fs []) e))
  each_all (f ∷ fs) (t ∷ ts) named e =
      one_fits (record { place = some t; named = named 0 (omega arith); fits = and_left (f (some t)) (each_fits fs ts) e })
      (each_all fs ts (λ i h. named (suc i) (omega arith)) (and_right (f (some t)) (each_fits fs ts) e))

  drop_named : (n : ℕ) (ts : List ℕ) → FieldsNamed image ts → FieldsNamed image (drop n ts)
  drop_named n ts named i h = subst (λ (t : ℕ). t < type_count image) (sym (get_or-drop n ts i 0)) (named (n + i) (omega (arith, length-drop n ts)))

  row_all : (ellipsis : Option ℕ) (fs : List (TypeNumber → Bool)) (ts : List ℕ) → FieldsNamed image ts → row_fits ellipsis fs ts ≡ true → All image fs
  unfolding row_fits
  row_all none fs ts named e = each_all fs ts named (and_right (arguments_fit none (length fs) (length ts)) (each_fits fs ts) e)
  row_all (some k) fs ts named e =
      let few = arguments_fit (some k) (length fs) (length ts) in
      let front = each_fits (take k fs) ts in
      let end = each_fits (drop k fs) (drop (length ts - (length fs - k)) ts) in
      all_join k fs (each_all (take k fs) ts named (and_right few front (and_left (few && front) end e)))
      (each_all (drop k fs) (drop (length ts - (length fs - k)) ts) (drop_named (length ts - (length fs - k)) ts named) (and_right (few && front) end e))

  -- items
  items_all : (fs : List (TypeNumber → Bool)) (place : TypeNumber) → NamedAt image place → items_all_fit fs place ≡ true → All image fs
  unfolding items_all_fit
  items_all [] place named e = none_fit
  items_all (f ∷ fs) place named e = one_fits (record { place = place; named = named; fits = and_left (f place) (items_all_fit fs place) e }) (items_all fs place named (and_right (f place) (items_all_fit fs place) e))

  field_named : (ts : List ℕ) (i : Option ℕ) → FieldsNamed image ts → NamedAt image (field_type ts i)
  unfolding field_type
  field_named ts none named = tt
  field_named ts (some i) named = go (ltb i (length ts)) refl
    where
      go : (b : Bool) → ltb i (length ts) ≡ b → NamedAt image (cond b (some (get_or ts i 0)) none)
      go true e = named i (ltb-true i (length ts) e)
      go false e = tt

-- what need agree only where all before it hold
later : (a x y : Bool) → (a ≡ true → x ≡ y) → a && x ≡ a && y
later true x y h = h refl
later false x y h = refl

third : (a b x y : Bool) → (a ≡ true → x ≡ y) → a && b && x ≡ a && b && y
third true b x y h = ap (λ (z : Bool). b && z) (h refl)
third false b x y h = refl

last_two : (a b x y x' y' : Bool) → (a ≡ true → (x ≡ x') × (y ≡ y')) → a && b && x && y ≡ a && b && x' && y'
last_two true b x y x' y' h = ap₂ (λ (z w : Bool). b && z && w) (h refl).0 (h refl).1
last_two false b x y x' y' h = refl

both : (a b x y : Bool) → a ≡ b → (b ≡ true → x ≡ y) → a && x ≡ b && y
both a b x y e h = ap (λ (z : Bool). z && x) e ∙ later b x y h

module _ (image bindings : List ℕ) (valid_image : valid image ≡ true) where
  -- the type of a head
  head_at_lem : (pat : Pat) (place : TypeNumber) → NamedAt image place → types_fit image pat place ≡ true → (head_of pat).ty < type_count image
  head_at_lem pat none named e = absurd (no_type_lem image pat e)
  head_at_lem pat (some t) named e = head_there image bindings valid_image pat t named e

  tuple_named : (t : ℕ) → t < type_count image → eqb (kind_number (ty_of image t).shape) 5 ≡ true → FieldsNamed image (tuple_fields (ty_of image t).shape)
  unfolding tuple_fields
  tuple_named t here kind =
      let (ts, s) = only_tuple (ty_of image t).shape kind in
      subst (λ (x : Shape). FieldsNamed image (tuple_fields x)) (sym s) (λ i h. (tuple_leads image bindings valid_image t ts here s i h).1)

  kind_named : (t w : ℕ) (kind : AdtKind) (variants : List ℕ) → t < type_count image → (ty_of image t).shape ≡ adt kind variants → has_values kind ≡ true → member w variants ≡ true → FieldsNamed image (variant_of image w).fields
  kind_named t w AdtKind.Struct variants here s v m i h =
      in_table_lem image bindings valid_image (PlaceTy.Ty t) (ProjectionElem.Field i) here (struct_field image t w variants i s (struct_one image t variants w valid_image here s m) h)
  kind_named t w AdtKind.Enum variants here s v m i h =
      let named = subst (λ (x : PlaceTy). Named image x) (enum_choice image t w variants s m) (named_projection image valid_image (PlaceTy.Ty t) (ProjectionElem.Downcast w) here) in
      in_table_lem image bindings valid_image (PlaceTy.Variant t w) (ProjectionElem.Field i) named (enum_field image t w i h)
  kind_named t w AdtKind.Union variants here s v m i h = absurd (false≢true v)
  kind_named t w AdtKind.Unknown variants here s v m i h = absurd (false≢true v)

  variant_named : (t : ℕ) (v : Option ℕ) → t < type_count image → has_variant (ty_of image t).shape v ≡ true → FieldsNamed image (variant_fields image (ty_of image t).shape v)
  variant_named t v here has =
      let (w, kind, variants, is, s, values, m) = has_variant_lem (ty_of image t).shape v has in
      let fields = ap (variant_fields image (ty_of image t).shape) is ∙ variant_fields_lem image w kind variants (ty_of image t).shape s m in
      subst (FieldsNamed image) (sym fields) (kind_named t w kind variants here s values m)

  referent_named : (t u : ℕ) → t < type_count image → (ty_of image t).shape ≡ reference u → NamedAt image (referent (ty_of image t).shape)
  unfolding referent
  referent_named t u here is =
      subst (λ (x : Shape). NamedAt image (referent x)) (sym is) (in_table_lem image bindings valid_image (PlaceTy.Ty t) ProjectionElem.Deref here (deref_type image t u is))

  mutual
    unfolding head_of taken_by all_taken fields_taken reached_taken taken_by? nothing_refused none_refused none_reached_refused nothing_refused? fitting types_fit? items_all_fit by_fields_fit

    -- every pattern
    pub same : (pat : Pat) (place : TypeNumber) → (head_of pat).ty < type_count image → types_fit image pat place ≡ true → taken_by image bindings pat ≡ nothing_refused image bindings pat
    same (Pat.Missing h) place here fits = refl
    same (Pat.Rest h) place here fits = refl
    same (Pat.NotNull h) place here fits = refl
    same (Pat.Wild h) place here fits = refl
    same (Pat.Tuple h args ellipsis) place here fits =
        let shape = (ty_of image h.ty).shape in
        third (eqb (kind_number shape) 5) (ellipsis_within ellipsis (pat_count args)) _ _ (λ kind.
        all_same args (row_all image ellipsis (fitting image args) (tuple_fields shape) (tuple_named h.ty here kind) (tuple_fits image h place args ellipsis fits).1))
    same (Pat.Or h alts) place here fits = reached_same alts h.ty here (or_fits image h place alts fits).1
    same (Pat.Record h fields args v) place here fits =
        let shape = (ty_of image h.ty).shape in
        third (has_variant shape v) (fields_there fields (length (variant_fields image shape v))) _ _ (λ has.
        fields_same args fields (variant_fields image shape v) (variant_named h.ty v here has) (record_fits image h place fields args v fits).3)
    same (Pat.Range h start end halfOpen) place here fits = refl
    same (Pat.Slice h prefix rest suffix) place here fits =
        let shape = (ty_of image h.ty).shape in
        let (_, _, _, first, last) = slice_fits image h place prefix rest suffix fits in
        last_two (leb 8 (kind_number shape)) (rest_taken? bindings rest) _ _ _ _ (λ kind.
        let (u, s) = only_items shape kind in
        let named : NamedAt image (element_type shape) = subst (NamedAt image) (sym s) (in_table_lem image bindings valid_image (PlaceTy.Ty h.ty) (ProjectionElem.Index 0) here (index_type image h.ty 0 s)) in
        (all_same prefix (items_all image (fitting image prefix) (element_type shape) named first), all_same suffix (items_all image (fitting image suffix) (element_type shape) named last)))
    same (Pat.Path h target) place here fits = refl
    same (Pat.Lit h o) place here fits = refl
    same (Pat.Bind h b s how annotation) place here fits =
        ap (λ (x : Bool). has_local bindings b && x) (same? s (some h.ty) here (bind_fits image h place b s how annotation fits).1)
    same (Pat.TupleStruct h args ellipsis v) place here fits =
        let shape = (ty_of image h.ty).shape in
        third (has_variant shape v) (ellipsis_within ellipsis (pat_count args)) _ _ (λ has.
        all_same args (row_all image ellipsis (fitting image args) (variant_fields image shape v) (variant_named h.ty v here has) (tuple_struct_fits image h place args ellipsis v fits).2))
    same (Pat.Ref h s) place here fits =
        let shape = (ty_of image h.ty).shape in
        later (eqb (kind_number shape) 7) _ _ (λ kind.
        let (u, is) = only_reference shape kind in
        let named = referent_named h.ty u here is in
        same s (referent shape) (head_at_lem s (referent shape) named (ref_fits image h place s fits).1) (ref_fits image h place s fits).1)
    same (Pat.Expr h) place here fits = refl
    same (Pat.Box h) place here fits = refl
    same (Pat.Deref h) place here fits = refl

    -- patterns in a row
    all_same : (args : Pats) → All image (fitting image args) → all_taken image bindings args ≡ none_refused image bindings args
    all_same nil a = refl
    all_same (cons q qs) (one_fits f a) = ap₂ (λ (x y : Bool). x && y) (same q f.place (head_at_lem q f.place f.named f.fits) f.fits) (all_same qs a)

    -- by fields
    fields_same : (args : Pats) (fields : List (Option ℕ)) (ts : List ℕ) → FieldsNamed image ts → by_fields_fit fields (fitting image args) ts ≡ true → fields_taken image bindings args fields ≡ none_refused image bindings args
    fields_same nil fields ts named e = refl
    fields_same (cons q qs) [] ts named e = ap (λ (x : Bool). nothing_refused image bindings q && x) (fields_same qs [] ts named refl)
    fields_same (cons q qs) (i ∷ fields) ts named e =
        let first = and_left (types_fit image q (field_type ts i)) (by_fields_fit fields (fitting image qs) ts) e in
        ap₂ (λ (x y : Bool). x && y) (same q (field_type ts i) (head_at_lem q (field_type ts i) (field_named image ts i named) first) first)
        (fields_same qs fields ts named (and_right (types_fit image q (field_type ts i)) (by_fields_fit fields (fitting image qs) ts) e))

    -- alternatives
    reached_same : (alts : Pats) (t : ℕ) → t < type_count image → items_all_fit (fitting image alts) (some t) ≡ true → reached_taken image bindings alts ≡ none_reached_refused image bindings alts (PlaceTy.Ty t)
    reached_same nil t here e = refl
    reached_same (cons q qs) t here e =
        let first = and_left (types_fit image q (some t)) (items_all_fit (fitting image qs) (some t)) e in
        let others = and_right (types_fit image q (some t)) (items_all_fit (fitting image qs) (some t)) e in
        both (taken_by image bindings q) (nothing_refused image bindings q) _ _ (same q (some t) (head_at_lem q (some t) here first) first) (λ taken.
        ap₂ (λ (c r : Bool). not c || r) (sym (fails image bindings valid_image q t here first taken)) (reached_same qs t here others))

    -- a subpattern that may be absent
    same? : (s : PatOpt) (place : TypeNumber) → NamedAt image place → types_fit? image s place ≡ true → taken_by? image bindings s ≡ nothing_refused? image bindings s
    same? no place named fits = refl
    same? (sub s) place named fits = same s place (head_at_lem s place named fits) fits
