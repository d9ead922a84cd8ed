-- What a pattern binds where it matches, by the Rust Reference's chapter "Patterns". A rule's identifier stands in brackets. A binding by reference names the
-- place of what it matched. Assumes nothing: these are definitions.
use Rattle.std.specs.Prelude.{ℕ, cond, List, [], ◌∷◌, ◌++◌, map, length}
use Rattle.image.specs.Lists.{up_from}
use Rattle.image.specs.Types.{ty_of}
use Rattle.image.specs.Tree.{Pat, Pats, nil, cons, PatOpt, no, sub}
use Rattle.place.specs.declared.elems.ProjectionElem.{ProjectionElem}
use Rattle.views.specs.Views.{Path}
use Rattle.cases_spec.specs.Cases.{if_bind}
use Rattle.meaning.specs.Values.{Value, parts_of, part_at}
use Rattle.meaning.specs.Matching.{onto, crossed, crossed_path, Bound, bound_as, bind_all, row_fields, record_fields, last_items, variant_path, matches}

-- a rest that is an identifier pattern binds what the other items leave [patterns.rest.allowed-patterns]
unfoldable pub rest_binds? : PatOpt → ℕ → ℕ → Path → Value → List Bound
rest_binds? no front end path v = []
rest_binds? (sub rest) front end path v =
    let elem = ProjectionElem.Subslice front end in
    if_bind rest (λ h b s how. record { binding = b; what = bound_as how (onto path elem) (part_at elem v) } ∷ []) []

module _ (image : List ℕ) where
  unfoldable mutual
    -- what a pattern binds of a value at a place
    pub binds : Pat → Path → Value → List Bound
    binds (Pat.Missing h) path v = []
    binds (Pat.Rest h) path v = []
    binds (Pat.NotNull h) path v = []
    -- "it does not copy, move or borrow the value it matches" [patterns.wildcard.no-binding]
    binds (Pat.Wild h) path v = []
    -- [patterns.tuple.intro]
    binds (Pat.Tuple h args ellipsis) path v =
        let w = crossed h.derefs v in
        bind_all (binders args) (row_fields ellipsis (length (binders args)) (length (parts_of w))) (crossed_path h.derefs path) w
    -- the alternatives are tried from left to right, and the first that matches binds [patterns.or, patterns.behavior.nested-or-patterns]
    binds (Pat.Or h alts) path v = bind_first alts (crossed_path h.derefs path) (crossed h.derefs v)
    -- [patterns.struct.intro]
    binds (Pat.Record h fields args w) path v =
        bind_all (binders args) (record_fields fields) (variant_path (ty_of image h.ty).shape w (crossed_path h.derefs path)) (crossed h.derefs v)
    binds (Pat.Range h start end halfOpen) path v = []
    -- [patterns.slice.intro]
    binds (Pat.Slice h prefix rest suffix) path v =
        let here = crossed_path h.derefs path in
        let w = crossed h.derefs v in
        bind_all (binders prefix) (map (λ i. ProjectionElem.Index i) (up_from 0 (length (binders prefix)))) here w
        ++ (rest_binds? rest (length (binders prefix)) (length (binders suffix)) here w
        ++ bind_all (binders suffix) (last_items (length (binders suffix))) here w)
    binds (Pat.Path h target) path v = []
    binds (Pat.Lit h operand) path v = []
    -- "Identifier patterns bind the value they match to a variable" [patterns.ident.intro, patterns.ident.scrutinized]
    binds (Pat.Bind h b s how annotation) path v =
        binds? s (crossed_path h.derefs path) (crossed h.derefs v)
        ++ (record { binding = b; what = bound_as how (crossed_path h.derefs path) (crossed h.derefs v) } ∷ [])
    -- [patterns.tuple-struct.intro]
    binds (Pat.TupleStruct h args ellipsis w) path v =
        let x = crossed h.derefs v in
        bind_all (binders args) (row_fields ellipsis (length (binders args)) (length (parts_of x)))
        (variant_path (ty_of image h.ty).shape w (crossed_path h.derefs path)) x
    -- [patterns.ref.intro]
    binds (Pat.Ref h s) path v = binds s (onto (crossed_path h.derefs path) ProjectionElem.Deref) (part_at ProjectionElem.Deref (crossed h.derefs v))
    binds (Pat.Expr h) path v = []
    binds (Pat.Box h) path v = []
    binds (Pat.Deref h) path v = []

    pub binders : Pats → List (Path → Value → List Bound)
    binders nil = []
    binders (cons q qs) = (λ path v. binds q path v) ∷ binders qs

    pub bind_first : Pats → Path → Value → List Bound
    bind_first nil path v = []
    bind_first (cons q qs) path v = cond (matches image q v) (binds q path v) (bind_first qs path v)

    pub binds? : PatOpt → Path → Value → List Bound
    binds? no path v = []
    binds? (sub s) path v = binds s path v
