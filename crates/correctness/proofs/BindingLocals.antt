-- Where nothing that is refused is reached, the bindings have locals. Assumes nothing.
use Prim.Native.Nat.{ℕ, ◌+◌}
use mathlib.Core.Path.{◌≡◌, refl, sym, ap, ◌∙◌, subst}
use mathlib.Core.Logic.{◌≢◌}
use mathlib.Core.Bool.{Bool, true, false, not, ◌&&◌, ◌||◌, false≢true}
use mathlib.Core.Option.{none}
use mathlib.Core.List.{List, [], ◌∷◌, ◌++◌, map-append}
use borrow.Author.Tests.{eqb-true, eq-eqb}
use lib.Dec.{eqb, leb}
use lib.ListN.{length, get_or}
use Rattle.image.specs.Lists.{member}
use Rattle.image.specs.Types.{Shape, ty_of}
use Rattle.image.specs.Tree.{Pat, Pats, nil, cons, PatOpt, no, sub}
use Rattle.image.proofs.Bools.{and_left, and_right}
use Rattle.place.specs.declared.place_ty.PlaceTy.{PlaceTy}
use Rattle.counting.specs.Reaching.{can_fail}
use Rattle.cases_spec.specs.Cases.{kind_number}
use Rattle.meaning.specs.Values.{has_variant}
use Rattle.meaning.specs.Typing.{variant_fields}
use Rattle.meaning.specs.Fit.{BoundAt, rest_ty, rest_bound?, pat_count, bound_in, bound_in_all, bound_in_first, bound_in?, fields_there, ellipsis_within, has_local, rest_taken?, nothing_refused, none_refused, none_reached_refused, nothing_refused?}
use Rattle.correctness.proofs.BindingNames.{names, AllLocal, member_case, rest_binding_lem}

-- a test of numbers that fails
not_eqb : (a b : ℕ) → not (eqb a b) ≡ true → a ≢ b
not_eqb a b n e = false≢true (ap not (sym (eq-eqb a b e)) ∙ n)

-- no binding
local_none : (bindings : List ℕ) → AllLocal bindings []
unfolding member
local_none bindings a m = absurd (false≢true m)

-- bindings and then more
local_append : (bindings : List ℕ) (xs ys : List BoundAt) → AllLocal bindings xs → AllLocal bindings ys → AllLocal bindings (xs ++ ys)
local_append bindings xs ys h k a m =
    member_case a (names xs) (names ys) (subst (λ (ns : List ℕ). member a ns ≡ true) (map-append (λ (x : BoundAt). x.binding) xs ys) m) (h a) (k a)

-- one binding and then more
local_cons : (bindings : List ℕ) (x : BoundAt) (xs : List BoundAt) → get_or bindings x.binding 65535 ≢ 65535 → AllLocal bindings xs → AllLocal bindings (x ∷ xs)
unfolding member
local_cons bindings x xs n h a m = by (eqb a x.binding) refl m
  where
    by : (b : Bool) → eqb a x.binding ≡ b → b || member a (names xs) ≡ true → get_or bindings a 65535 ≢ 65535
    by true q m = subst (λ (k : ℕ). get_or bindings k 65535 ≢ 65535) (sym (eqb-true a x.binding q)) n
    by false q m = h a m

-- a rest that is taken
rest_local : (bindings : List ℕ) (rest : Pat) (shape : Shape) (t items : ℕ) → rest_taken? bindings (sub rest) ≡ true → AllLocal bindings (rest_bound? (sub rest) shape t items)
unfolding rest_bound?
rest_local bindings (Pat.Missing h) shape t items e = local_none bindings
rest_local bindings (Pat.Rest h) shape t items e = local_none bindings
rest_local bindings (Pat.NotNull h) shape t items e = local_none bindings
rest_local bindings (Pat.Wild h) shape t items e = local_none bindings
rest_local bindings (Pat.Tuple h args ellipsis) shape t items e = local_none bindings
rest_local bindings (Pat.Or h alts) shape t items e = local_none bindings
rest_local bindings (Pat.Record h fields args v) shape t items e = local_none bindings
rest_local bindings (Pat.Range h start end halfOpen) shape t items e = local_none bindings
rest_local bindings (Pat.Slice h prefix rest suffix) shape t items e = local_none bindings
rest_local bindings (Pat.Path h target) shape t items e = local_none bindings
rest_local bindings (Pat.Lit h operand) shape t items e = local_none bindings
rest_local bindings (Pat.Bind h b s how annotation) shape t items e =
    local_cons bindings (rest_ty shape b t items) []
    (subst (λ (k : ℕ). get_or bindings k 65535 ≢ 65535) (sym (rest_binding_lem shape b t items)) (not_eqb (get_or bindings b 65535) 65535 e)) (local_none bindings)
rest_local bindings (Pat.TupleStruct h args ellipsis v) shape t items e = local_none bindings
rest_local bindings (Pat.Ref h s) shape t items e = local_none bindings
rest_local bindings (Pat.Expr h) shape t items e = local_none bindings
rest_local bindings (Pat.Box h) shape t items e = local_none bindings
rest_local bindings (Pat.Deref h) shape t items e = local_none bindings

-- a rest that may be absent
rest?_local : (bindings : List ℕ) (rest : PatOpt) (shape : Shape) (t items : ℕ) → rest_taken? bindings rest ≡ true → AllLocal bindings (rest_bound? rest shape t items)
unfolding rest_bound?
rest?_local bindings no shape t items e = local_none bindings
rest?_local bindings (sub rest) shape t items e = rest_local bindings rest shape t items e

module _ (image bindings : List ℕ) where
  mutual
    unfolding nothing_refused bound_in

    -- a pattern
    pub all_local : (pat : Pat) → nothing_refused image bindings pat ≡ true → AllLocal bindings (bound_in image pat)
    all_local (Pat.Missing h) e = local_none bindings
    all_local (Pat.Rest h) e = local_none bindings
    all_local (Pat.NotNull h) e = local_none bindings
    all_local (Pat.Wild h) e = local_none bindings
    all_local (Pat.Tuple h args ellipsis) e =
        each_local args (and_right (eqb (kind_number (ty_of image h.ty).shape) 5 && ellipsis_within ellipsis (pat_count args)) (none_refused image bindings args) e)
    all_local (Pat.Or h alts) e = first_local_lem alts (PlaceTy.Ty h.ty) e
    all_local (Pat.Record h fields args v) e =
        each_local args
        (and_right (has_variant (ty_of image h.ty).shape v && fields_there fields (length (variant_fields image (ty_of image h.ty).shape v))) (none_refused image bindings args) e)
    all_local (Pat.Range h start end halfOpen) e = local_none bindings
    all_local (Pat.Slice h prefix rest suffix) e =
        let shape = (ty_of image h.ty).shape in
        let kind = leb 8 (kind_number shape) in
        let taken = rest_taken? bindings rest in
        let front = none_refused image bindings prefix in
        let end = none_refused image bindings suffix in
        let e₁ = and_left (kind && taken && front) end e in
        let items = pat_count prefix + pat_count suffix in
        local_append bindings (bound_in_all image prefix) (rest_bound? rest shape h.ty items ++ bound_in_all image suffix) (each_local prefix (and_right (kind && taken) front e₁))
        (local_append bindings (rest_bound? rest shape h.ty items) (bound_in_all image suffix)
        (rest?_local bindings rest shape h.ty items (and_right kind taken (and_left (kind && taken) front e₁))) (each_local suffix (and_right (kind && taken && front) end e)))
    all_local (Pat.Path h target) e = local_none bindings
    all_local (Pat.Lit h operand) e = local_none bindings
    all_local (Pat.Bind h b s how annotation) e =
        local_cons bindings (record { binding = b; ty = h.ty; length_left = none }) (bound_in? image s)
        (not_eqb (get_or bindings b 65535) 65535 (and_left (has_local bindings b) (nothing_refused? image bindings s) e))
        (local? s (and_right (has_local bindings b) (nothing_refused? image bindings s) e))
    all_local (Pat.TupleStruct h args ellipsis v) e =
        each_local args (and_right (has_variant (ty_of image h.ty).shape v && ellipsis_within ellipsis (pat_count args)) (none_refused image bindings args) e)
    all_local (Pat.Ref h s) e = all_local s (and_right (eqb (kind_number (ty_of image h.ty).shape) 7) (nothing_refused image bindings s) e)
    all_local (Pat.Expr h) e = local_none bindings
    all_local (Pat.Box h) e = local_none bindings
    all_local (Pat.Deref h) e = local_none bindings

    -- patterns in a row
    each_local : (qs : Pats) → none_refused image bindings qs ≡ true → AllLocal bindings (bound_in_all image qs)
    each_local nil e = local_none bindings
    each_local (cons q qs) e =
        local_append bindings (bound_in image q) (bound_in_all image qs) (all_local q (and_left (nothing_refused image bindings q) (none_refused image bindings qs) e))
        (each_local qs (and_right (nothing_refused image bindings q) (none_refused image bindings qs) e))

    -- the first alternative, which is reached
    first_local_lem : (alts : Pats) (ty : PlaceTy) → none_reached_refused image bindings alts ty ≡ true → AllLocal bindings (bound_in_first image alts)
    first_local_lem nil ty e = local_none bindings
    first_local_lem (cons q qs) ty e = all_local q (and_left (nothing_refused image bindings q) (not (can_fail image q ty) || none_reached_refused image bindings qs ty) e)

    -- a subpattern that may be absent
    local? : (s : PatOpt) → nothing_refused? image bindings s ≡ true → AllLocal bindings (bound_in? image s)
    local? no e = local_none bindings
    local? (sub s) e = all_local s e
