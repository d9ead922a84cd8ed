-- Slice patterns: a law for each way through the functions. Assumes nothing.
use Rattle.std.specs.Prelude.{Ok, Err}
use mathlib.Core.Path.{◌≡◌, refl, sym, ap, ◌∙◌}
use mathlib.Core.List.{List}
use Prim.Native.Nat.{ℕ, ◌+◌}
use native.Mathlib.Omega.{arith}
use lib.ListN.{length}
use Rattle.refusals.specs.declared.MirLowerError.{MirLowerError}
use Rattle.image.specs.declared.PatId.{PatId}
use Rattle.image.specs.Types.{Shape, integer, bool, char, str, tuple, adt, reference, array, slice, unknown, ty_of}
use Rattle.image.specs.Tree.{tree, tree?}
use Rattle.place.specs.declared.Place.{Place}
use Rattle.mir.specs.declared.BasicBlockId.{BasicBlockId}
use Rattle.mir.specs.declared.Counts.{Counts}
use Rattle.lower_spec.specs.Results.{OptBlock}
use Rattle.pattern_matching.specs.declared.MatchingMode.{MatchingMode}
use Rattle.pattern_matching.specs.Walking.{Ctx, Out, Walk, Lowering, next}
use Rattle.pattern_matching.specs.Slices.{RestOf, rest_bound, slice_items, slice_on}
use Rattle.pattern_matching.specs.Patterns.{rest_of}
use Rattle.pattern_walk_spec.specs.Results.{Lowered}
use Rattle.pattern_walk_spec.specs.Answers.{Lowers, Walks}
use Rattle.pattern_walk_spec.proofs.Sequences.{lowers_walks, walks_by, walks_stops, walks_then}
use Rattle.pattern_rows.specs.declared.ArgumentRow.{ArgumentRow}
use Rattle.pattern_nodes.specs.Modes.{slice_test}
use Rattle.pattern_nodes.specs.Arguments.{lowered}
use Rattle.pattern_nodes.specs.Nodes.{slice_behind}
use Rattle.pattern_nodes.proofs.Nodes.{applied}
use Rattle.pattern_nodes.proofs.Arguments.{arguments_from}
use Rattle.pattern_nodes.proofs.Slices.{slice_behind_by_rows, slice_items_by_rows, slice_length}
use Rattle.pattern_walk_laws.proofs.Arguments.{arguments_end}
use Rattle.state.specs.State.{Body}
use Rattle.state.specs.Promises.{Ready}

-- a Slice pattern is its test, and then the items
slice_tested : (shape : Shape) (image bindings : List ℕ) (p : ℕ) (prefix : List Lowering) (rest : RestOf) (suffix : List Lowering) (mode : MatchingMode) (ctx : Ctx) (current : BasicBlockId) (els : OptBlock) (place : Place) →
    next (slice_test shape image p (length prefix + length suffix) rest mode ctx current els place) (λ r. slice_items bindings p prefix rest suffix mode r.ctx r.then r.else place)
    ≡ slice_on shape image bindings p prefix rest suffix mode ctx current els place
unfolding slice_test slice_on
slice_tested (integer size signed) image bindings p prefix rest suffix mode ctx current els place = refl
slice_tested bool image bindings p prefix rest suffix mode ctx current els place = refl
slice_tested char image bindings p prefix rest suffix mode ctx current els place = refl
slice_tested str image bindings p prefix rest suffix mode ctx current els place = refl
slice_tested (tuple fields) image bindings p prefix rest suffix mode ctx current els place = refl
slice_tested (adt kind variants) image bindings p prefix rest suffix mode ctx current els place = refl
slice_tested (reference t) image bindings p prefix rest suffix mode ctx current els place = refl
slice_tested (array t n) image bindings p prefix rest suffix mode ctx current els place = refl
slice_tested (slice t) image bindings p prefix rest suffix mode ctx current els place = refl
slice_tested unknown image bindings p prefix rest suffix mode ctx current els place = refl

module _ (image bindings : List ℕ) (p : PatId) (rest from front back : ℕ) (mode : MatchingMode) (c : Counts) (current : BasicBlockId) (els : OptBlock) (place : Place) where
  -- the items at the end, behind the rest
  abbrev behind_rest : Out → Walk Out
  behind_rest r = arguments_from ArgumentRow.LastItems image bindings p.0 from back 0 back mode r.ctx r.then r.else place

  behind_as : (ctx : Ctx) →
      next (rest_bound (rest_of (tree? (tree image) rest)) bindings p.0 front back mode ctx current els place) behind_rest ≡ slice_behind image bindings p.0 rest from front back mode ctx current els place
  behind_as ctx = sym (applied (slice_behind_by_rows image bindings p.0 rest from front back) mode ctx current els place)

  module _ {t t₁ : Body} {v : List ℕ} (P : Ready t c) where
    -- in `slice`: the rest is refused
    pub slice_behind_stops : {x : MirLowerError} {at : PatId} →
        Lowers (λ ctx. rest_bound (rest_of (tree? (tree image) rest)) bindings p.0 front back mode ctx current els place) c current els t (Err (x, at)) t₁ →
        Walks (λ ctx. slice_behind image bindings p.0 rest from front back mode ctx current els place) c current els t v (Err (x, at)) t₁ v
    slice_behind_stops F = walks_by behind_as (walks_stops behind_rest (lowers_walks v F))

    -- the items at the end
    pub slice_behind_then : {c₁ : Counts} {then : BasicBlockId} {other : OptBlock} {r : Lowered} {t₂ : Body} {v₂ : List ℕ} →
        Lowers (λ ctx. rest_bound (rest_of (tree? (tree image) rest)) bindings p.0 front back mode ctx current els place) c current els t (Ok (c₁, then, other)) t₁ →
        Walks (λ ctx. arguments_from ArgumentRow.LastItems image bindings p.0 from back 0 back mode ctx then other place) c₁ then other t₁ v r t₂ v₂ →
        Walks (λ ctx. slice_behind image bindings p.0 rest from front back mode ctx current els place) c current els t v r t₂ v₂
    slice_behind_then F S = walks_by behind_as (walks_then (lowers_walks v F) P behind_rest S)

    -- no item at the end
    pub slice_behind_none : {c₁ : Counts} {then : BasicBlockId} {other : OptBlock} →
        Lowers (λ ctx. rest_bound (rest_of (tree? (tree image) rest)) bindings p.0 front back mode ctx current els place) c current els t (Ok (c₁, then, other)) t₁ → back ≡ 0 →
        Walks (λ ctx. slice_behind image bindings p.0 rest from front back mode ctx current els place) c current els t v (Ok (c₁, then, other)) t₁ v
    slice_behind_none {c₁} {then} {other} F none =
        slice_behind_then F (walks_by (λ ctx. ap (λ (k : ℕ). arguments_from ArgumentRow.LastItems image bindings p.0 from back 0 k mode ctx then other place) (sym none))
        (arguments_end ArgumentRow.LastItems image bindings p from back 0 mode place 0 c₁ then other t₁ v (omega arith) (lowers_walks v F).onward.begins))

  -- what `slice` promises of the items, behind its test
  abbrev Items : Body → List ℕ → Lowered → Body → List ℕ → Type 0
  Items = Walks (λ ctx. slice_items bindings p.0 (lowered image bindings from front) (rest_of (tree? (tree image) rest)) (lowered image bindings (from + front) back) mode ctx current els place) c current els

  -- what is behind the items in front
  abbrev behind_front : Out → Walk Out
  behind_front r = slice_behind image bindings p.0 rest (from + front) front back mode r.ctx r.then r.else place

  items_as : (ctx : Ctx) →
      next (arguments_from ArgumentRow.Items image bindings p.0 from 0 0 front mode ctx current els place) behind_front
      ≡ slice_items bindings p.0 (lowered image bindings from front) (rest_of (tree? (tree image) rest)) (lowered image bindings (from + front) back) mode ctx current els place
  items_as ctx = sym (applied (slice_items_by_rows image bindings p.0 rest from front back) mode ctx current els place)

  -- one in front is refused
  pub slice_items_stop : {t t₁ : Body} {v v₁ : List ℕ} {x : MirLowerError} {at : PatId} →
      Walks (λ ctx. arguments_from ArgumentRow.Items image bindings p.0 from 0 0 front mode ctx current els place) c current els t v (Err (x, at)) t₁ v₁ → Items t v (Err (x, at)) t₁ v₁
  slice_items_stop W = walks_by items_as (walks_stops behind_front W)

  -- what is behind them
  pub slice_items_then : {t t₁ t₂ : Body} {v v₁ v₂ : List ℕ} {c₁ : Counts} {then : BasicBlockId} {other : OptBlock} {r : Lowered} → Ready t c →
      Walks (λ ctx. arguments_from ArgumentRow.Items image bindings p.0 from 0 0 front mode ctx current els place) c current els t v (Ok (c₁, then, other)) t₁ v₁ →
      Walks (λ ctx. slice_behind image bindings p.0 rest (from + front) front back mode ctx then other place) c₁ then other t₁ v₁ r t₂ v₂ → Items t v r t₂ v₂
  slice_items_then P W S = walks_by items_as (walks_then W P behind_front S)

  -- `slice`, of the type ty
  module _ (ty n : ℕ) (many : n ≡ front + back) where
    -- what it promises
    abbrev Slice : Body → List ℕ → Lowered → Body → List ℕ → Type 0
    Slice =
        Walks (λ ctx. slice_on (ty_of image ty).shape image bindings p.0 (lowered image bindings from front) (rest_of (tree? (tree image) rest)) (lowered image bindings (from + front) back) mode ctx current els place)
        c current els

    -- the items, behind the test
    abbrev behind_length : Out → Walk Out
    behind_length r = slice_items bindings p.0 (lowered image bindings from front) (rest_of (tree? (tree image) rest)) (lowered image bindings (from + front) back) mode r.ctx r.then r.else place

    slice_as : (ctx : Ctx) →
        next (slice_test (ty_of image ty).shape image p.0 n (rest_of (tree? (tree image) rest)) mode ctx current els place) behind_length
        ≡ slice_on (ty_of image ty).shape image bindings p.0 (lowered image bindings from front) (rest_of (tree? (tree image) rest)) (lowered image bindings (from + front) back) mode ctx current els place
    slice_as ctx =
        ap (λ (k : ℕ). next (slice_test (ty_of image ty).shape image p.0 k (rest_of (tree? (tree image) rest)) mode ctx current els place) behind_length)
        (many ∙ sym (slice_length image bindings p.0 rest from front back))
        ∙ slice_tested (ty_of image ty).shape image bindings p.0 (lowered image bindings from front) (rest_of (tree? (tree image) rest)) (lowered image bindings (from + front) back) mode ctx current els place

    -- the test is refused
    pub slice_stops : {t t₁ : Body} {v : List ℕ} {x : MirLowerError} {at : PatId} →
        Lowers (λ ctx. slice_test (ty_of image ty).shape image p.0 n (rest_of (tree? (tree image) rest)) mode ctx current els place) c current els t (Err (x, at)) t₁ → Slice t v (Err (x, at)) t₁ v
    slice_stops {v = v} L = walks_by slice_as (walks_stops behind_length (lowers_walks v L))

    -- the items
    pub slice_then : {t t₁ t₂ : Body} {v v₂ : List ℕ} {c₁ : Counts} {then : BasicBlockId} {other : OptBlock} {r : Lowered} → Ready t c →
        Lowers (λ ctx. slice_test (ty_of image ty).shape image p.0 n (rest_of (tree? (tree image) rest)) mode ctx current els place) c current els t (Ok (c₁, then, other)) t₁ →
        Walks (λ ctx. slice_items bindings p.0 (lowered image bindings from front) (rest_of (tree? (tree image) rest)) (lowered image bindings (from + front) back) mode ctx then other place) c₁ then other t₁ v r t₂ v₂ →
        Slice t v r t₂ v₂
    slice_then {v = v} P L S = walks_by slice_as (walks_then (lowers_walks v L) P behind_length S)
