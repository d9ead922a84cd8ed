-- What a fitting pattern binds stands among its bindings, and its parts bind different ones. Assumes nothing.
use Prim.Native.Nat.{ℕ, zero, suc, ◌+◌}
use mathlib.Core.Path.{◌≡◌, refl, sym, ap, ◌∙◌, subst}
use mathlib.Core.Logic.{◌≢◌}
use mathlib.Core.Bool.{Bool, true, false, cond, not, ◌&&◌, ◌||◌, false≢true}
use mathlib.Core.Option.{none}
use mathlib.Core.List.{List, [], ◌∷◌, ◌++◌, map, map-append}
use borrow.Author.Tests.{eqb-true, eq-eqb}
use lib.Dec.{eqb}
use lib.ListN.{length, get_or}
use Rattle.image.specs.Lists.{member, distinct, up_from}
use Rattle.image.specs.Types.{Shape, integer, bool, char, str, tuple, adt, reference, array, slice, unknown, ty_of}
use Rattle.image.specs.Tree.{Pat, Pats, nil, cons, PatOpt, no, sub}
use Rattle.image.proofs.Bools.{and_left, and_right}
use Rattle.place.specs.declared.elems.ProjectionElem.{ProjectionElem}
use Rattle.views.specs.Views.{Path}
use Rattle.meaning.specs.Values.{Value, part_at, parts_of}
use Rattle.meaning.specs.Matching.{onto, crossed, crossed_path, Bound, bound_as, bind_all, matches, row_fields, record_fields, last_items, variant_path}
use Rattle.meaning.specs.Binding.{rest_binds?, binds, binders, bind_first, binds?}
use Rattle.meaning.specs.Fit.{BoundAt, same_count, stands_in, within, rest_ty, rest_bound?, pat_count, bound_in, bound_in_all, bound_in_first, bound_in?, bindings_fit, all_bindings_fit, bindings_fit?, alternatives_fit, all_bind, bind_once, same_bindings, present, locals_differ}
use Rattle.correctness.proofs.Permuting.{Each, each_append, each_map, EachBinder, each_binder_map, each_bound, HasLocal, LocalsApart, Separate}

-- the bindings, by their numbers
abbrev pub names : List BoundAt → List ℕ
names xs = map (λ x. x.binding) xs

-- it stands among these
abbrev pub Among : List BoundAt → Bound → Type 0
Among xs b = member b.binding (names xs) ≡ true

-- the first of two holds
pub or_left : (a b : Bool) → a ≡ true → a || b ≡ true
or_left true b e = refl
or_left false b e = absurd (false≢true e)

-- the second of two holds
pub or_right : (a b : Bool) → b ≡ true → a || b ≡ true
or_right true b e = refl
or_right false b e = e

-- one of two holds
pub or_elim : {C : Type 0} (a b : Bool) → a || b ≡ true → (a ≡ true → C) → (b ≡ true → C) → C
or_elim true b e f g = f refl
or_elim false b e f g = g e

-- a test does not hold and fail
pub not_and : (a : Bool) → not a ≡ true → a ≡ true → ⊥
not_and true n e = false≢true n
not_and false n e = false≢true e

-- what stands in the first part stands in the list
pub member_left : (a : ℕ) (xs ys : List ℕ) → member a xs ≡ true → member a (xs ++ ys) ≡ true
unfolding member
member_left a [] ys e = absurd (false≢true e)
member_left a (x ∷ xs) ys e =
    or_elim (eqb a x) (member a xs) e (λ q. or_left (eqb a x) (member a (xs ++ ys)) q) (λ q. or_right (eqb a x) (member a (xs ++ ys)) (member_left a xs ys q))

-- and what stands in the second
pub member_right : (a : ℕ) (xs ys : List ℕ) → member a ys ≡ true → member a (xs ++ ys) ≡ true
unfolding member
member_right a [] ys e = e
member_right a (x ∷ xs) ys e = or_right (eqb a x) (member a (xs ++ ys)) (member_right a xs ys e)

-- what stands in a list stands in one of its parts
pub member_case : {C : Type 0} (a : ℕ) (xs ys : List ℕ) → member a (xs ++ ys) ≡ true → (member a xs ≡ true → C) → (member a ys ≡ true → C) → C
unfolding member
member_case a [] ys e f g = g e
member_case a (x ∷ xs) ys e f g =
    or_elim (eqb a x) (member a (xs ++ ys)) e (λ q. f (or_left (eqb a x) (member a xs) q)) (λ q. member_case a xs ys q (λ r. f (or_right (eqb a x) (member a xs) r)) g)

-- what stands in two parts of a list of different numbers differs
pub distinct_apart : (xs ys : List ℕ) → distinct (xs ++ ys) ≡ true → (a b : ℕ) → member a xs ≡ true → member b ys ≡ true → a ≢ b
unfolding distinct member
distinct_apart [] ys d a b m n e = false≢true m
distinct_apart (x ∷ xs) ys d a b m n e =
    or_elim (eqb a x) (member a xs) m
    (λ q.
    let same : b ≡ x = sym e ∙ eqb-true a x q in
    not_and (member x (xs ++ ys)) (and_left (not (member x (xs ++ ys))) (distinct (xs ++ ys)) d) (subst (λ (k : ℕ). member k (xs ++ ys) ≡ true) same (member_right b xs ys n)))
    (λ q. distinct_apart xs ys (and_right (not (member x (xs ++ ys))) (distinct (xs ++ ys)) d) a b q n e)

-- a part of different numbers
pub distinct_right : (xs ys : List ℕ) → distinct (xs ++ ys) ≡ true → distinct ys ≡ true
unfolding distinct
distinct_right [] ys d = d
distinct_right (x ∷ xs) ys d = distinct_right xs ys (and_right (not (member x (xs ++ ys))) (distinct (xs ++ ys)) d)

-- bindings that bind nothing twice, and a part of them
pub once_right : (image : List ℕ) (xs ys : List BoundAt) → bind_once image (xs ++ ys) ≡ true → bind_once image ys ≡ true
once_right image xs ys d = distinct_right (names xs) (names ys) (subst (λ (ns : List ℕ). distinct ns ≡ true) (map-append (λ (x : BoundAt). x.binding) xs ys) d)

-- among these, and then more
among_left : (xs ys : List BoundAt) (b : Bound) → Among xs b → Among (xs ++ ys) b
among_left xs ys b m = subst (λ (ns : List ℕ). member b.binding ns ≡ true) (sym (map-append (λ (x : BoundAt). x.binding) xs ys)) (member_left b.binding (names xs) (names ys) m)

-- among others before these
among_right : (xs ys : List BoundAt) (b : Bound) → Among ys b → Among (xs ++ ys) b
among_right xs ys b m = subst (λ (ns : List ℕ). member b.binding ns ≡ true) (sym (map-append (λ (x : BoundAt). x.binding) xs ys)) (member_right b.binding (names xs) (names ys) m)

-- bindings of two parts
each_among : (xs ys : List BoundAt) (bs cs : List Bound) → Each (Among xs) bs → Each (Among ys) cs → Each (Among (xs ++ ys)) (bs ++ cs)
each_among xs ys bs cs h k =
    each_append (Among (xs ++ ys)) bs cs (each_map (Among xs) (Among (xs ++ ys)) bs (λ b m. among_left xs ys b m) h)
    (each_map (Among ys) (Among (xs ++ ys)) cs (λ b m. among_right xs ys b m) k)

-- all of them have locals
abbrev pub AllLocal : List ℕ → List BoundAt → Type 0
AllLocal bindings xs = (a : ℕ) → member a (names xs) ≡ true → get_or bindings a 65535 ≢ 65535

-- so have those of the first part
pub local_left : (bindings : List ℕ) (xs ys : List BoundAt) → AllLocal bindings (xs ++ ys) → AllLocal bindings xs
local_left bindings xs ys h a m = h a (subst (λ (ns : List ℕ). member a ns ≡ true) (sym (map-append (λ (x : BoundAt). x.binding) xs ys)) (member_left a (names xs) (names ys) m))

-- and those of the second
pub local_right : (bindings : List ℕ) (xs ys : List BoundAt) → AllLocal bindings (xs ++ ys) → AllLocal bindings ys
local_right bindings xs ys h a m = h a (subst (λ (ns : List ℕ). member a ns ≡ true) (sym (map-append (λ (x : BoundAt). x.binding) xs ys)) (member_right a (names xs) (names ys) m))

-- the same binding at the same type is the same binding
stands_among : (x : BoundAt) (ys : List BoundAt) → stands_in x ys ≡ true → member x.binding (names ys) ≡ true
unfolding stands_in member
stands_among x [] e = absurd (false≢true e)
stands_among x (y ∷ ys) e =
    let b = eqb x.binding y.binding in
    let t = eqb x.ty y.ty in
    let n = same_count x.length_left y.length_left in
    or_elim (b && t && n) (stands_in x ys) e (λ q. or_left b (member x.binding (names ys)) (and_left b t (and_left (b && t) n q)))
    (λ q. or_right b (member x.binding (names ys)) (stands_among x ys q))

-- the bindings of one list stand in another
pub within_among : (xs ys : List BoundAt) → within xs ys ≡ true → (a : ℕ) → member a (names xs) ≡ true → member a (names ys) ≡ true
unfolding within member
within_among [] ys e a m = absurd (false≢true m)
within_among (x ∷ xs) ys e a m =
    or_elim (eqb a x.binding) (member a (names xs)) m
    (λ q. subst (λ (k : ℕ). member k (names ys) ≡ true) (sym (eqb-true a x.binding q)) (stands_among x ys (and_left (stands_in x ys) (within xs ys) e)))
    (λ q. within_among xs ys (and_right (stands_in x ys) (within xs ys) e) a q)

-- whatever its type, a rest's binding is its binding
pub rest_binding_lem : (shape : Shape) (b t items : ℕ) → (rest_ty shape b t items).binding ≡ b
unfolding rest_ty
rest_binding_lem (integer size signed) b t items = refl
rest_binding_lem bool b t items = refl
rest_binding_lem char b t items = refl
rest_binding_lem str b t items = refl
rest_binding_lem (tuple fields) b t items = refl
rest_binding_lem (adt kind variants) b t items = refl
rest_binding_lem (reference u) b t items = refl
rest_binding_lem (array u n) b t items = refl
rest_binding_lem (slice u) b t items = refl
rest_binding_lem unknown b t items = refl

-- the first of a list
one_among : (x : BoundAt) (xs : List BoundAt) (b : Bound) → x.binding ≡ b.binding → Among (x ∷ xs) b
unfolding member
one_among x xs b e = or_left (eqb b.binding x.binding) (member b.binding (names xs)) (eq-eqb b.binding x.binding (sym e))

-- what a rest binds
rest_among_lem : (rest : Pat) (shape : Shape) (t items front end : ℕ) (path : Path) (v : Value) → Each (Among (rest_bound? (sub rest) shape t items)) (rest_binds? (sub rest) front end path v)
unfolding rest_bound? rest_binds?
rest_among_lem (Pat.Missing h) shape t items front end path v = tt
rest_among_lem (Pat.Rest h) shape t items front end path v = tt
rest_among_lem (Pat.NotNull h) shape t items front end path v = tt
rest_among_lem (Pat.Wild h) shape t items front end path v = tt
rest_among_lem (Pat.Tuple h args ellipsis) shape t items front end path v = tt
rest_among_lem (Pat.Or h alts) shape t items front end path v = tt
rest_among_lem (Pat.Record h fields args w) shape t items front end path v = tt
rest_among_lem (Pat.Range h start e halfOpen) shape t items front end path v = tt
rest_among_lem (Pat.Slice h prefix rest suffix) shape t items front end path v = tt
rest_among_lem (Pat.Path h target) shape t items front end path v = tt
rest_among_lem (Pat.Lit h operand) shape t items front end path v = tt
rest_among_lem (Pat.Bind h b s how annotation) shape t items front end path v = (
  one_among (rest_ty shape b t items) []
      (record { binding = b; what = bound_as how (onto path (ProjectionElem.Subslice front end)) (part_at (ProjectionElem.Subslice front end) v) }) (rest_binding_lem shape b t items),
  tt,
)
rest_among_lem (Pat.TupleStruct h args ellipsis w) shape t items front end path v = tt
rest_among_lem (Pat.Ref h s) shape t items front end path v = tt
rest_among_lem (Pat.Expr h) shape t items front end path v = tt
rest_among_lem (Pat.Box h) shape t items front end path v = tt
rest_among_lem (Pat.Deref h) shape t items front end path v = tt

-- of a rest that may be absent
rest?_among : (rest : PatOpt) (shape : Shape) (t items front end : ℕ) (path : Path) (v : Value) → Each (Among (rest_bound? rest shape t items)) (rest_binds? rest front end path v)
unfolding rest_bound? rest_binds?
rest?_among no shape t items front end path v = tt
rest?_among (sub rest) shape t items front end path v = rest_among_lem rest shape t items front end path v

-- one of two lists
each_cond : (P : Bound → Type 0) (b : Bool) (bs cs : List Bound) → Each P bs → Each P cs → Each P (cond b bs cs)
each_cond P true bs cs h k = h
each_cond P false bs cs h k = k

module _ (image : List ℕ) where
  mutual
    unfolding bound_in bindings_fit binds

    -- what a pattern binds
    pub binds_among : (pat : Pat) → bindings_fit image pat ≡ true → (path : Path) (v : Value) → Each (Among (bound_in image pat)) (binds image pat path v)
    binds_among (Pat.Missing h) f path v = tt
    binds_among (Pat.Rest h) f path v = tt
    binds_among (Pat.NotNull h) f path v = tt
    binds_among (Pat.Wild h) f path v = tt
    binds_among (Pat.Tuple h args ellipsis) f path v =
        let bs = binders image args in
        let x = crossed h.derefs v in
        each_bound (Among (bound_in_all image args)) bs (row_fields ellipsis (length bs) (length (parts_of x))) (crossed_path h.derefs path) x
        (all_among args (and_right (bind_once image (bound_in_all image args)) (all_bindings_fit image args) f))
    binds_among (Pat.Or h alts) f path v =
        first_among alts (and_left (alternatives_fit image alts) (all_bindings_fit image alts) f) (and_right (alternatives_fit image alts) (all_bindings_fit image alts) f)
        (crossed_path h.derefs path) (crossed h.derefs v)
    binds_among (Pat.Record h fields args w) f path v =
        each_bound (Among (bound_in_all image args)) (binders image args) (record_fields fields)
        (variant_path (ty_of image h.ty).shape w (crossed_path h.derefs path)) (crossed h.derefs v)
        (all_among args (and_right (bind_once image (bound_in_all image args)) (all_bindings_fit image args) f))
    binds_among (Pat.Range h start end halfOpen) f path v = tt
    binds_among (Pat.Slice h prefix rest suffix) f path v =
        let once = bind_once image (bound_in image (Pat.Slice h prefix rest suffix)) in
        let front = all_bindings_fit image prefix in
        let end = all_bindings_fit image suffix in
        let here = crossed_path h.derefs path in
        let x = crossed h.derefs v in
        let shape = (ty_of image h.ty).shape in
        let items = pat_count prefix + pat_count suffix in
        let P = Among (bound_in_all image suffix) in
        let bs = binders image prefix in
        let ds = binders image suffix in
        let n = length bs in
        let m = length ds in
        let last : EachBinder P ds = all_among suffix (and_right (once && front) end f) in
        each_among (bound_in_all image prefix) (rest_bound? rest shape h.ty items ++ bound_in_all image suffix)
        (bind_all bs (map (λ i. ProjectionElem.Index i) (up_from 0 n)) here x) (rest_binds? rest n m here x ++ bind_all ds (last_items m) here x)
        (each_bound (Among (bound_in_all image prefix)) bs (map (λ i. ProjectionElem.Index i) (up_from 0 n)) here x (all_among prefix (and_right once front (and_left (once && front) end f))))
        (each_among (rest_bound? rest shape h.ty items) (bound_in_all image suffix) (rest_binds? rest n m here x) (bind_all ds (last_items m) here x)
        (rest?_among rest shape h.ty items n m here x) (each_bound P ds (last_items m) here x last))
    binds_among (Pat.Path h target) f path v = tt
    binds_among (Pat.Lit h operand) f path v = tt
    binds_among (Pat.Bind h b s how annotation) f path v =
        let here = crossed_path h.derefs path in
        let x = crossed h.derefs v in
        let own : BoundAt = record { binding = b; ty = h.ty; length_left = none } in
        let bound : Bound = record { binding = b; what = bound_as how here x } in
        let below = binds? image s here x in
        each_append (Among (own ∷ bound_in? image s)) below (bound ∷ [])
        (each_map (Among (bound_in? image s)) (Among (own ∷ bound_in? image s)) below (λ c m. among_right (own ∷ []) (bound_in? image s) c m)
        (among? s (and_right (bind_once image (own ∷ bound_in? image s)) (bindings_fit? image s) f) here x))
        (one_among own (bound_in? image s) bound refl, tt)
    binds_among (Pat.TupleStruct h args ellipsis w) f path v =
        let bs = binders image args in
        let x = crossed h.derefs v in
        each_bound (Among (bound_in_all image args)) bs (row_fields ellipsis (length bs) (length (parts_of x))) (variant_path (ty_of image h.ty).shape w (crossed_path h.derefs path)) x
        (all_among args (and_right (bind_once image (bound_in_all image args)) (all_bindings_fit image args) f))
    binds_among (Pat.Ref h s) f path v =
        binds_among s f (onto (crossed_path h.derefs path) ProjectionElem.Deref) (part_at ProjectionElem.Deref (crossed h.derefs v))
    binds_among (Pat.Expr h) f path v = tt
    binds_among (Pat.Box h) f path v = tt
    binds_among (Pat.Deref h) f path v = tt

    -- what patterns in a row bind
    pub all_among : (qs : Pats) → all_bindings_fit image qs ≡ true → EachBinder (Among (bound_in_all image qs)) (binders image qs)
    all_among nil f = tt
    all_among (cons q qs) f =
        let here = bound_in image q in
        let rest = bound_in_all image qs in (
          (λ path v.
              each_map (Among here) (Among (here ++ rest)) (binds image q path v) (λ b m. among_left here rest b m)
              (binds_among q (and_left (bindings_fit image q) (all_bindings_fit image qs) f) path v)),
          each_binder_map (Among rest) (Among (here ++ rest)) (binders image qs) (λ b m. among_right here rest b m)
              (all_among qs (and_right (bindings_fit image q) (all_bindings_fit image qs) f)),
        )

    -- what the first alternative that matches binds
    first_among : (alts : Pats) → alternatives_fit image alts ≡ true → all_bindings_fit image alts ≡ true → (path : Path) (v : Value) →
        Each (Among (bound_in_first image alts)) (bind_first image alts path v)
    first_among nil a f path v = tt
    first_among (cons q qs) a f path v =
        each_cond (Among (bound_in image q)) (matches image q v) (binds image q path v) (bind_first image qs path v)
        (binds_among q (and_left (bindings_fit image q) (all_bindings_fit image qs) f) path v)
        (others_among qs (bound_in image q) a (and_right (bindings_fit image q) (all_bindings_fit image qs) f) path v)

    -- what an alternative behind the first binds
    others_among : (alts : Pats) (xs : List BoundAt) → all_bind image xs alts ≡ true → all_bindings_fit image alts ≡ true → (path : Path) (v : Value) →
        Each (Among xs) (bind_first image alts path v)
    others_among nil xs a f path v = tt
    others_among (cons q qs) xs a f path v =
        let same = same_bindings xs (bound_in image q) in
        let back = and_right (within xs (bound_in image q)) (within (bound_in image q) xs) (and_left same (all_bind image xs qs) a) in
        each_cond (Among xs) (matches image q v) (binds image q path v) (bind_first image qs path v)
        (each_map (Among (bound_in image q)) (Among xs) (binds image q path v) (λ b m. within_among (bound_in image q) xs back b.binding m)
        (binds_among q (and_left (bindings_fit image q) (all_bindings_fit image qs) f) path v))
        (others_among qs xs (and_right same (all_bind image xs qs) a) (and_right (bindings_fit image q) (all_bindings_fit image qs) f) path v)

    -- of a subpattern that may be absent
    among? : (s : PatOpt) → bindings_fit? image s ≡ true → (path : Path) (v : Value) → Each (Among (bound_in? image s)) (binds? image s path v)
    among? no f path v = tt
    among? (sub s) f path v = binds_among s f path v

  -- patterns in a row that bind nothing twice, all of whose bindings have locals
  pub separate : (bindings : List ℕ) (qs : Pats) → all_bindings_fit image qs ≡ true → bind_once image (bound_in_all image qs) ≡ true → AllLocal bindings (bound_in_all image qs) →
      Separate bindings (binders image qs)
  unfolding bound_in_all all_bindings_fit binders
  separate bindings nil f once there = tt
  separate bindings (cons q qs) f once there =
      let here = bound_in image q in
      let rest = bound_in_all image qs in
      let split : distinct (names here ++ names rest) ≡ true = subst (λ (ns : List ℕ). distinct ns ≡ true) (map-append (λ (x : BoundAt). x.binding) here rest) once in (
        (λ path path' v v' elems.
            let others = bind_all (binders image qs) elems path' v' in
            each_map (Among here) (λ x. HasLocal bindings x × Each (λ y. x.binding ≢ y.binding) others) (binds image q path v)
            (λ x m. (
              local_left bindings here rest there x.binding m,
              each_map (Among rest) (λ y. x.binding ≢ y.binding) others (λ y n. distinct_apart (names here) (names rest) split x.binding y.binding m n)
                  (each_bound (Among rest) (binders image qs) elems path' v' (all_among qs (and_right (bindings_fit image q) (all_bindings_fit image qs) f))),
            ))
            (binds_among q (and_left (bindings_fit image q) (all_bindings_fit image qs) f) path v)),
        separate bindings qs (and_right (bindings_fit image q) (all_bindings_fit image qs) f) (once_right image here rest once) (local_right bindings here rest there),
      )

-- a local that there is stands among those
pub present_member : (ls : List ℕ) (x : ℕ) → get_or ls x 65535 ≢ 65535 → member (get_or ls x 65535) (present ls) ≡ true
unfolding present member
present_member [] x n = absurd (n refl)
present_member (l ∷ ls) zero n = by (eqb l 65535) refl
  where
    by : (b : Bool) → eqb l 65535 ≡ b → member l (cond b (present ls) (l ∷ present ls)) ≡ true
    by true e = absurd (n (eqb-true l 65535 e))
    by false e = or_left (eqb l l) (member l (present ls)) (eq-eqb l l refl)
present_member (l ∷ ls) (suc x) n = by (eqb l 65535) (present_member ls x n)
  where
    by : (b : Bool) → member (get_or ls x 65535) (present ls) ≡ true → member (get_or ls x 65535) (cond b (present ls) (l ∷ present ls)) ≡ true
    by true m = m
    by false m = or_right (eqb (get_or ls x 65535) l) (member (get_or ls x 65535) (present ls)) m

-- locals that differ are each one binding's
pub locals_apart : (ls : List ℕ) → distinct (present ls) ≡ true → LocalsApart ls
unfolding present distinct
locals_apart [] d x y n e = absurd (n refl)
locals_apart (l ∷ ls) d zero zero n e = refl
locals_apart (l ∷ ls) d zero (suc y) n e = by (eqb l 65535) refl d
  where
    by : (b : Bool) → eqb l 65535 ≡ b → distinct (cond b (present ls) (l ∷ present ls)) ≡ true → 0 ≡ suc y
    by true q d = absurd (n (eqb-true l 65535 q))
    by false q d =
        absurd (not_and (member l (present ls)) (and_left (not (member l (present ls))) (distinct (present ls)) d)
        (subst (λ (k : ℕ). member k (present ls) ≡ true) (sym e) (present_member ls y (λ z. n (e ∙ z)))))
locals_apart (l ∷ ls) d (suc x) zero n e = by (eqb l 65535) refl d
  where
    by : (b : Bool) → eqb l 65535 ≡ b → distinct (cond b (present ls) (l ∷ present ls)) ≡ true → suc x ≡ 0
    by true q d = absurd (n (e ∙ eqb-true l 65535 q))
    by false q d =
        absurd (not_and (member l (present ls)) (and_left (not (member l (present ls))) (distinct (present ls)) d)
        (subst (λ (k : ℕ). member k (present ls) ≡ true) e (present_member ls x n)))
locals_apart (l ∷ ls) d (suc x) (suc y) n e = ap suc (locals_apart ls (by (eqb l 65535) d) x y n e)
  where
    by : (b : Bool) → distinct (cond b (present ls) (l ∷ present ls)) ≡ true → distinct (present ls) ≡ true
    by true d = d
    by false d = and_right (not (member l (present ls))) (distinct (present ls)) d

-- so it is where the locals all differ
pub fits_locals_apart : (bindings : List ℕ) (root : ℕ) → locals_differ bindings root ≡ true → LocalsApart bindings
unfolding locals_differ distinct
fits_locals_apart bindings root d = locals_apart bindings (and_right (not (member root (present bindings))) (distinct (present bindings)) d)
