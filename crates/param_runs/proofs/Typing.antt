-- The parameters' locals have the parameters' types. Assumes nothing.
use Rattle.std.specs.Prelude.{Some, None}
use Prim.Native.Nat.{ℕ, ◌+◌, ◌-◌, ◌≤◌, ◌<◌}
use native.Mathlib.Nat.{lt_of_lt_of_le}
use native.Mathlib.Omega.{arith}
use borrow.Author.Tests.{ltb-true, lt-ltb}
use mathlib.Core.Path.{◌≡◌, sym, ap, ◌∙◌, subst}
use mathlib.Core.Bool.{Bool, true, cond, ◌&&◌}
use mathlib.Core.List.{List, [], ◌∷◌, ◌++◌, append_assoc}
use lib.Dec.{ltb}
use lib.ListN.{length, get_or, length-append, get_or-append}
use lib.Seq.{get_or-append_seam}
use Rattle.image.specs.Tables.{type_count, pattern_count}
use Rattle.image.specs.Valid.{valid}
use Rattle.image.proofs.Bools.{and_left, and_right}
use Rattle.place.specs.declared.place_ty.PlaceTy.{PlaceTy}
use Rattle.place.specs.Places.{projection_of}
use Rattle.place.specs.PlaceTypes.{multi_projection_ty}
use Rattle.mir.specs.Locals.{local_ty, test_types}
use Rattle.state.specs.State.{State}
use Rattle.pattern_matching.specs.Walking.{local_place}
use Rattle.pattern_matching.specs.Variants.{place_ty}
use Rattle.params_spec.specs.Results.{SelfParam}
use Rattle.params_spec.specs.Params.{Param, self_count}
use Rattle.params_spec.specs.Calls.{params_named}
use Rattle.meaning.proofs.Constants.{type_sized}
use Rattle.param_runs.proofs.Declaring.{self_types, param_types, Makes}

-- the locals from l on are the parameters', each of its type
abbrev pub TypedFrom : List ℕ → ℕ → List Param → Type 0
TypedFrom locals l [] = Unit
TypedFrom locals l (q ∷ qs) = (l < length locals) × (get_or locals l 0 ≡ q.ty) × TypedFrom locals (l + 1) qs

-- they stay so where the locals stay
pub typed_later : (xs ys : List ℕ) (l : ℕ) (qs : List Param) → length xs ≤ length ys → ((i : ℕ) → i < length xs → get_or ys i 0 ≡ get_or xs i 0) → TypedFrom xs l qs → TypedFrom ys l qs
typed_later xs ys l [] h kept t = tt
typed_later xs ys l (q ∷ qs) h kept (i, e, t) = (lt_of_lt_of_le i h, kept l i ∙ e, typed_later xs ys (l + 1) qs h kept t)

-- where there are more behind them
pub typed_grown : (xs ys more : List ℕ) (l : ℕ) (qs : List Param) → ys ≡ xs ++ more → TypedFrom xs l qs → TypedFrom ys l qs
typed_grown xs ys more l qs e t =
    subst (λ (zs : List ℕ). TypedFrom zs l qs) (sym e)
    (typed_later xs (xs ++ more) l qs (let k = length-append xs more in omega (arith, k)) (λ i h. get_or-append xs more 0 i h) t)

-- the one behind some that there were
seam : (front : List ℕ) (x : ℕ) (more : List ℕ) (l : ℕ) → l ≡ length front → (l < length (front ++ (x ∷ more))) × (get_or (front ++ (x ∷ more)) l 0 ≡ x)
seam front x more l e = (let k = length-append front (x ∷ more) in omega (arith, k), ap (λ (n : ℕ). get_or (front ++ (x ∷ more)) n 0) e ∙ get_or-append_seam front x more 0)

-- those behind some that there were
typed_behind : (front : List ℕ) (qs : List Param) (others : List ℕ) (l : ℕ) → l ≡ length front → TypedFrom (front ++ (param_types qs ++ others)) l qs
unfolding param_types
typed_behind front [] others l e = tt
typed_behind front (q ∷ qs) others l e =
    let here = seam front q.ty (param_types qs ++ others) l e in
    let k = length-append front (q.ty ∷ []) in (
      here.0,
      here.1,
      subst (λ (xs : List ℕ). TypedFrom xs (l + 1) qs) (append_assoc front (q.ty ∷ []) (param_types qs ++ others))
          (typed_behind (front ++ (q.ty ∷ [])) qs others (l + 1) (omega (arith, k))),
    )

-- the parameters' locals, when all are made
pub typed_made : {st st₁ : State} (self : SelfParam) (params : List Param) (others : List ℕ) → Makes st (self_types self ++ (param_types params ++ others)) st₁ →
    TypedFrom st₁.locals (length st.locals + self_count self) params
unfolding self_count
typed_made {st} {st₁} self params others m =
    subst (λ (xs : List ℕ). TypedFrom xs (length st.locals + self_count self) params) (append_assoc st.locals (self_types self) (param_types params ++ others) ∙ sym m.locals)
    (typed_behind (st.locals ++ self_types self) params others _ (count self))
  where
    count : (self : SelfParam) → length st.locals + self_count self ≡ length (st.locals ++ self_types self)
    count None = let k = length-append st.locals [] in omega (arith, k)
    count (Some (b, ty)) = let k = length-append st.locals (ty ∷ []) in omega (arith, k)

-- a parameter's type is one of the table
pub record NamedParam (image : List ℕ) (q : Param) : Type 0 where
  pub pattern : q.pattern < pattern_count image
  pub ty : q.ty < type_count image

-- the first parameter names a pattern and a type
pub named_first : (image : List ℕ) (q : Param) (qs : List Param) → params_named image (q ∷ qs) ≡ true → NamedParam image q
unfolding params_named
named_first image q qs e =
    let a = ltb q.pattern (pattern_count image) in
    let b = ltb q.ty (type_count image) in
    let both = and_left (a && b) (params_named image qs) e in
    record { pattern = ltb-true q.pattern (pattern_count image) (and_left a b both); ty = ltb-true q.ty (type_count image) (and_right a b both) }

-- and so do the others
pub named_rest : (image : List ℕ) (q : Param) (qs : List Param) → params_named image (q ∷ qs) ≡ true → params_named image qs ≡ true
unfolding params_named
named_rest image q qs e = and_right (ltb q.pattern (pattern_count image) && ltb q.ty (type_count image)) (params_named image qs) e

-- a local of a type of the table, as a place, is of that type
pub local_typed : (image : List ℕ) (st : State) (l t : ℕ) → valid image ≡ true → t < type_count image → get_or st.locals l 0 ≡ t → place_ty image st (local_place (record { 0 = l })) ≡ PlaceTy.Ty t
unfolding place_ty local_place projection_of multi_projection_ty local_ty
local_typed image st l t v h e =
    ap (λ (w : ℕ). cond (ltb w 256) (PlaceTy.Ty w) (get_or test_types (w - 256) PlaceTy.Inapplicable)) e
    ∙ ap (λ (b : Bool). cond b (PlaceTy.Ty t) (get_or test_types (t - 256) PlaceTy.Inapplicable)) (lt-ltb t 256 (type_sized image t v h).few)
