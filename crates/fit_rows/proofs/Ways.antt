-- Each way through the functions that read a pattern's own binding and its row of subpatterns. Assumes nothing.
use Prim.Native.Nat.{ℕ, zero, suc, ◌-◌, ◌≤◌, ◌<◌}
use mathlib.Core.Path.{◌≡◌, refl, sym, ap, ◌∙◌}
use mathlib.Core.Bool.{Bool, true, false, not, ◌&&◌, ◌||◌, and-true, and-false, or-false}
use mathlib.Core.List.{List}
use native.Mathlib.Omega.{arith}
use borrow.Author.Tests.{eqb-true, ltb-true, eq-eqb, ne_eqb}
use lib.Dec.{eqb, ltb}
use Rattle.image.specs.declared.BindingId.{BindingId}
use Rattle.image.specs.declared.kinds.PatKind.{PatKind}
use Rattle.image.specs.declared.kinds.TypeKind.{TypeKind}
use Rattle.image.specs.declared.rows.PatRow.{PatRow}
use Rattle.image.specs.declared.rows.TypeRow.{TypeRow}
use Rattle.image.specs.Tables.{pattern_count}
use Rattle.image.specs.Kinds.{pat_kind, type_kind}
use Rattle.image.specs.Rows.{pat_at, type_at, list_at}
use Rattle.image.specs.Rules.{absent}
use Rattle.meaning.specs.Fit.{BoundAt}
use Rattle.fit_rows.specs.declared.nodes.Own.{Own}
use Rattle.fit_rows.specs.declared.nodes.Node.{Node}
use Rattle.fit_rows.specs.declared.found.Wanted.{Wanted}
use Rattle.fit_rows.specs.declared.found.Test.{Test}
use Rattle.fit_rows.specs.Nodes.{number_at, listed_row, present_row, one_row, rest_of_type, rest_by_kind, rest_own, node_by, node_of, first_only, telling_of}
use Rattle.fit_rows.specs.Bound.{any_of, all_of, owned, meets, agrees}
use Rattle.fit_rows.proofs.Lists.{stands_at, stands_rest, member_any}

-- `first`
pub first_itself : (image : List ℕ) (step from : ℕ) → step ≡ 0 → from ≡ number_at image step from
unfolding number_at
first_itself image step from e = rw e refl

pub first_in_list : (image : List ℕ) (step from : ℕ) → (step ≡ 0 → ⊥) → list_at image from ≡ number_at image step from
unfolding number_at
first_in_list image zero from ne = absurd (ne refl)
first_in_list image (suc step) from ne = refl

-- `present`
pub present_none : (below p : ℕ) → p ≡ 65535 → listed_row below 0 p 0 ≡ present_row below p
present_none below p e = rw (eq-eqb p 65535 e) refl

pub present_there : (below p : ℕ) → (p ≡ 65535 → ⊥) → one_row below p ≡ present_row below p
present_there below p ne = rw (ne_eqb p 65535 ne) refl

-- `telling`
pub telling_all : (node : Node) → node.alternatives ≡ false → node.row ≡ telling_of node
unfolding telling_of
telling_all node e = rw e refl

pub telling_none : (node : Node) → node.alternatives ≡ true → node.row.count ≡ 0 → node.row ≡ telling_of node
unfolding telling_of first_only
telling_none node d e =
    let r = node.row in
    let same : r.count ≡ first_only r.count = none r.count e in
    rw d (ap (listed_row r.below r.step r.from) same)
  where
    none : (n : ℕ) → n ≡ 0 → n ≡ first_only n
    none zero e = refl
    none (suc n) e = absurd (omega (arith, e))

pub telling_one : (node : Node) → node.alternatives ≡ true → (node.row.count ≡ 0 → ⊥) → listed_row node.row.below node.row.step node.row.from 1 ≡ telling_of node
unfolding telling_of first_only
telling_one node d ne =
    let r = node.row in
    let same : 1 ≡ first_only r.count = one r.count ne in
    rw d (ap (listed_row r.below r.step r.from) same)
  where
    one : (n : ℕ) → (n ≡ 0 → ⊥) → 1 ≡ first_only n
    one zero ne = absurd (ne refl)
    one (suc n) ne = refl

-- `rest_of_type`: the type's row and kind as they were read
pub rest_type_is : (image : List ℕ) (t : ℕ) (b : BindingId) (items : ℕ) {row : TypeRow} {k : TypeKind} (j : TypeKind) → row ≡ type_at image t → k ≡ type_kind row.kind → k ≡ j →
    rest_of_type j row b t items ≡ rest_of_type (type_kind (type_at image t).kind) (type_at image t) b t items
rest_type_is image t b items j d e same = rw (sym same, e, d) refl

-- and an array that has no more elements than there are items
pub rest_array_none : (image : List ℕ) (t : ℕ) (b : BindingId) (items : ℕ) {row : TypeRow} {k : TypeKind} → row ≡ type_at image t → k ≡ type_kind row.kind → k ≡ TypeKind.Array → row.b ≤ items →
    Own.Rest b row.a 0 ≡ rest_of_type (type_kind (type_at image t).kind) (type_at image t) b t items
unfolding rest_of_type
rest_array_none image t b items {row = row} d e same h =
    let none : 0 ≡ row.b - items = omega (arith, h) in
    ap (Own.Rest b row.a) none ∙ rest_type_is image t b items TypeKind.Array d e same

-- `rest_own`
pub rest_absent : (image : List ℕ) (d t items : ℕ) → d ≡ 65535 → Own.None ≡ rest_own image d t items
unfolding rest_own
rest_absent image d t items e = rw (eq-eqb d 65535 e) refl

pub rest_below : (image : List ℕ) (d : ℕ) → (d ≡ 65535 → ⊥) → eqb d absent || ltb d (pattern_count image) ≡ true → d < pattern_count image
rest_below image d ne e = by (eqb d absent) (eqb-true d absent) e
  where
    by : (b : Bool) → (b ≡ true → d ≡ 65535) → b || ltb d (pattern_count image) ≡ true → d < pattern_count image
    by true f e = absurd (ne (f refl))
    by false f e = ltb-true d (pattern_count image) e

pub rest_is_lem : (image : List ℕ) (d t items : ℕ) {row : PatRow} {k : PatKind} → (d ≡ 65535 → ⊥) → row ≡ pat_at image d → k ≡ pat_kind row.kind → rest_by_kind k image row.a t items ≡ rest_own image d t items
unfolding rest_own
rest_is_lem image d t items ne e f = rw (ne_eqb d 65535 ne, f, e) refl

-- `node_at`
pub node_is : (image : List ℕ) (p : ℕ) {row : PatRow} {k : PatKind} → row ≡ pat_at image p → k ≡ pat_kind row.kind → node_by k image p row ≡ node_of image p
node_is image p e f = rw (f, e) refl

-- `wants_at`
module _ (b : BindingId) (t : ℕ) where
  pub at_other : (x : BindingId) (y : ℕ) → (x.0 ≡ b.0 → ⊥) → false ≡ any_of (meets (Wanted.At x y)) (owned (Own.At b t))
  unfolding any_of meets owned
  at_other x y ne = rw (ne_eqb x.0 b.0 ne) refl

  pub at_same : (x : BindingId) (y : ℕ) → x.0 ≡ b.0 → eqb y t ≡ any_of (meets (Wanted.At x y)) (owned (Own.At b t))
  unfolding any_of meets owned
  at_same x y e = rw (eq-eqb x.0 b.0 e) (sym (or-false (eqb y t && true) ∙ and-true (eqb y t)))

  pub at_rest : (x : BindingId) (y n : ℕ) → false ≡ any_of (meets (Wanted.Rest x y n)) (owned (Own.At b t))
  unfolding any_of meets owned
  at_rest x y n = sym (or-false (eqb x.0 b.0 && eqb y t && false) ∙ and-false (eqb x.0 b.0 && eqb y t))

  pub at_binding : (x : BindingId) → eqb x.0 b.0 ≡ any_of (meets (Wanted.Binding x)) (owned (Own.At b t))
  unfolding any_of meets owned
  at_binding x = sym (or-false (eqb x.0 b.0))

-- `wants_rest`
module _ (b : BindingId) (t left : ℕ) where
  pub rest_other : (x : BindingId) (y n : ℕ) → (x.0 ≡ b.0 → ⊥) → false ≡ any_of (meets (Wanted.Rest x y n)) (owned (Own.Rest b t left))
  unfolding any_of meets owned
  rest_other x y n ne = rw (ne_eqb x.0 b.0 ne) refl

  pub rest_other_type : (x : BindingId) (y n : ℕ) → (y ≡ t → ⊥) → false ≡ any_of (meets (Wanted.Rest x y n)) (owned (Own.Rest b t left))
  unfolding any_of meets owned
  rest_other_type x y n ne =
      rw (ne_eqb y t ne) (sym (or-false (eqb x.0 b.0 && false && eqb n left) ∙ ap (λ (c : Bool). c && eqb n left) (and-false (eqb x.0 b.0))))

  pub rest_same : (x : BindingId) (y n : ℕ) → x.0 ≡ b.0 → y ≡ t → eqb n left ≡ any_of (meets (Wanted.Rest x y n)) (owned (Own.Rest b t left))
  unfolding any_of meets owned
  rest_same x y n d e = rw (eq-eqb x.0 b.0 d, eq-eqb y t e) (sym (or-false (eqb n left)))

  pub rest_at : (x : BindingId) (y : ℕ) → false ≡ any_of (meets (Wanted.At x y)) (owned (Own.Rest b t left))
  unfolding any_of meets owned
  rest_at x y = sym (or-false (eqb x.0 b.0 && eqb y t && false) ∙ and-false (eqb x.0 b.0 && eqb y t))

  pub rest_binding_lem : (x : BindingId) → eqb x.0 b.0 ≡ any_of (meets (Wanted.Binding x)) (owned (Own.Rest b t left))
  unfolding any_of meets owned
  rest_binding_lem x = sym (or-false (eqb x.0 b.0))

-- `at_agrees` and `rest_agrees`
module _ {r : Bool} (b : BindingId) (t : ℕ) (ys : List BoundAt) where
  pub at_stands : r ≡ any_of (meets (Wanted.At b t)) ys → r ≡ all_of (agrees Test.Same ys) (owned (Own.At b t))
  unfolding all_of agrees owned
  at_stands e = e ∙ sym (stands_at b t ys) ∙ sym (and-true _)

  pub at_apart : r ≡ any_of (meets (Wanted.Binding b)) ys → not r ≡ all_of (agrees Test.Apart ys) (owned (Own.At b t))
  unfolding all_of agrees owned
  at_apart e = ap not (e ∙ sym (member_any b ys)) ∙ sym (and-true _)

  pub rest_stands_lem : (n : ℕ) → r ≡ any_of (meets (Wanted.Rest b t n)) ys → r ≡ all_of (agrees Test.Same ys) (owned (Own.Rest b t n))
  unfolding all_of agrees owned
  rest_stands_lem n e = e ∙ sym (stands_rest b t n ys) ∙ sym (and-true _)

  pub rest_apart : (n : ℕ) → r ≡ any_of (meets (Wanted.Binding b)) ys → not r ≡ all_of (agrees Test.Apart ys) (owned (Own.Rest b t n))
  unfolding all_of agrees owned
  rest_apart n e = ap not (e ∙ sym (member_any b ys)) ∙ sym (and-true _)
