-- Ranges, literals, paths and variants, behind their derefs, add what is counted of them. Assumes nothing.
use mathlib.Core.Path.{◌≡◌, refl, sym, subst}
use mathlib.Core.Bool.{Bool, true, false, cond, ◌||◌}
use mathlib.Core.Option.{Option, none, some}
use mathlib.Core.List.{List, [], ◌∷◌}
use Prim.Native.Nat.{ℕ, ◌+◌, ◌≤◌}
use native.Mathlib.Omega.{arith}
use Rattle.image.specs.declared.kinds.OperandKind.{OperandKind}
use Rattle.image.specs.Types.{Operand}
use Rattle.image.specs.Tree.{Head, Target, unresolved, variant, local, constant, other}
use Rattle.refusals.specs.declared.MirLowerError.{MirLowerError}
use Rattle.place.specs.declared.Place.{Place}
use Rattle.place.specs.declared.place_ty.PlaceTy.{PlaceTy}
use Rattle.mir.specs.declared.BasicBlockId.{BasicBlockId}
use Rattle.mir.specs.declared.rvalues.BinOp.{BinOp}
use Rattle.literals.specs.Literals.{lower_literal_to_operand}
use Rattle.lower_spec.specs.Results.{OptBlock}
use Rattle.pattern_matching.specs.declared.MatchingMode.{MatchingMode}
use Rattle.pattern_matching.specs.Walking.{Ctx, Out, Walk, out, visited}
use Rattle.pattern_matching.specs.Tests.{pattern_match_const, literal, lit_by, constant_path, range_end?, local_path}
use Rattle.pattern_matching.specs.Variants.{shape_of, needed, AdtPatternShape, pattern_matching_variant, variant_pattern, adt_on}
use Rattle.pattern_matching.specs.Patterns.{end_op, range_pattern, path_pattern}
use Rattle.counting.specs.Reaching.{Argument, is_enum, downcast, of_variant, some_argument, end_count, positive, path_tests, Reached, Reaching, testing, naming, path_reached, through_arguments}
use Rattle.counting.proofs.Holding.{Holds, holds, refuses, holds_next, holds_step, holds_as}
use Rattle.counting.proofs.Going.{What, block, statement, visit, built_none, went_built, nothing, made}
use Rattle.counting.proofs.Stepping.{Steps, steps_on, steps_as, steps_plain}
use Rattle.counting.proofs.Passing.{Pass, checks, binds, mode_of, Small, After, after_head, after_plain}
use Rattle.counting.proofs.Typed.{On}
use Rattle.counting.proofs.Testing.{anything, holds_const, holds_constant_path, holds_range_end?}
use Rattle.counting.proofs.Naming.{Fielded, fielded_unit, holds_variant}
use Rattle.counting.proofs.Inside.{Inside}

-- a leaf whose tests are made in Check, and which does nothing in Bind
holds_leaf : (pass : Pass) (h : Head) (t s k : ℕ) (f fails : Bool) (c : Ctx) (current : BasicBlockId) (els : OptBlock) (l : MatchingMode → Walk Out) → t ≤ 2 → s ≤ 4 →
    Holds (λ r. Steps (visited c h.number) els r fails nothing (made t s)) (l MatchingMode.Check) →
    l MatchingMode.Bind ≡ out (visited c h.number) current els →
    Holds (After pass c els fails k f (testing h k f t s ∷ [])) (l (mode_of pass))
holds_leaf pass h t s k f fails c current els l lt ls test skip = by pass
  where
    x : Reached
    x = testing h k f t s

    small : Small x
    small = record { tests = omega arith; test_statements = ls }

    by : (pass : Pass) → Holds (After pass c els fails k f (x ∷ [])) (l (mode_of pass))
    by checks = holds_as (λ r a. after_head checks x small (steps_as same a)) test
      where
        same : (w : What) → 0 + made (t + 0) s w ≡ 0 + made t s w
        same block = omega arith
        same statement = refl
        same (visit n) = refl
    by binds =
        subst (λ (w : Walk Out). Holds (After binds c els fails k f (x ∷ [])) w) (sym skip)
        (holds (After binds c els fails k f (x ∷ [])) _ (after_head binds x small (steps_plain current els (went_built (built_none _) refl))))

-- a Range: one test for each end
pub inside_range : (image : List ℕ) (h : Head) (start end : Option Operand) (halfOpen : Bool) →
    Inside image h (range_pattern image h.number h.ty start end halfOpen) (λ ty. positive (end_count start + end_count end))
    (λ ty k f. testing h k f (end_count start + end_count end) (end_count start + end_count end + (end_count start + end_count end)) ∷ [])
unfolding range_pattern
inside_range image h start end halfOpen =
    record {
      goes = λ pass c current els place ty k f o.
          holds_leaf pass h (end_count start + end_count end) (end_count start + end_count end + (end_count start + end_count end)) k f (positive (end_count start + end_count end)) c current els
          (λ mode. range_pattern image h.number h.ty start end halfOpen mode (visited c h.number) current els place) (few start end) (few_statements start end) (both c current els place) refl;
    }
  where
    at_most : (end : Option Operand) → end_count end ≤ 1
    at_most none = omega arith
    at_most (some operand) = omega arith

    few : (start end : Option Operand) → end_count start + end_count end ≤ 2
    few start end = let a = at_most start in let b = at_most end in omega (arith, a, b)

    few_statements : (start end : Option Operand) → end_count start + end_count end + (end_count start + end_count end) ≤ 4
    few_statements start end = let a = at_most start in let b = at_most end in omega (arith, a, b)

    some_end : (start end : Option Operand) → (positive (end_count start) || positive (end_count end)) ≡ positive (end_count start + end_count end)
    some_end none none = refl
    some_end none (some y) = refl
    some_end (some x) none = refl
    some_end (some x) (some y) = refl

    both : (c : Ctx) (current : BasicBlockId) (els : OptBlock) (place : Place) →
        Holds (λ r. Steps (visited c h.number) els r (positive (end_count start + end_count end)) nothing (made (end_count start + end_count end) (end_count start + end_count end + (end_count start + end_count end))))
        (range_pattern image h.number h.ty start end halfOpen MatchingMode.Check (visited c h.number) current els place)
    both c current els place =
        holds_next (range_end? image h.number h.ty BinOp.Le start (visited c h.number) current els place)
        (λ r. range_end? image h.number h.ty (end_op halfOpen) end r.ctx r.then r.else place)
        (holds_range_end? image h.number h.ty BinOp.Le start (visited c h.number) current els place) (λ r a.
        holds_as (λ r' a'. subst
        (λ (x : Bool). Steps (visited c h.number) els r' x nothing (made (end_count start + end_count end) (end_count start + end_count end + (end_count start + end_count end))))
        (some_end start end) (steps_as sum (steps_on a a')))
        (holds_range_end? image h.number h.ty (end_op halfOpen) end r.ctx r.then r.else place))
      where
        sum : (w : What) → 0 + 0 + made (end_count start + end_count end) (end_count start + end_count end + (end_count start + end_count end)) w ≡
            0 + (made (end_count start) (end_count start + end_count start) w + made (end_count end) (end_count end + end_count end) w)
        sum block = omega arith
        sum statement = omega arith
        sum (visit n) = refl

-- a Lit: one test of two statements
pub inside_lit : (image : List ℕ) (h : Head) (operand : Operand) → Inside image h (lit_by operand.kind image h.number h.ty operand) (λ ty. true) (λ ty k f. testing h k f 1 2 ∷ [])
unfolding lit_by literal
inside_lit image h operand = record { goes = λ pass c current els place ty k f o. by operand.kind pass c current els place k f }
  where
    lit : (pass : Pass) (c : Ctx) (current : BasicBlockId) (els : OptBlock) (place : Place) (k : ℕ) (f : Bool) →
        Holds (After pass c els true k f (testing h k f 1 2 ∷ [])) (literal image h.number h.ty operand (mode_of pass) (visited c h.number) current els place)
    lit pass c current els place k f =
        holds_leaf pass h 1 2 k f true c current els (λ mode. literal image h.number h.ty operand mode (visited c h.number) current els place) (omega arith) (omega arith)
        (holds_step h.number (lower_literal_to_operand image h.ty operand) (λ x. pattern_match_const image h.number x (visited c h.number) current els place)
        (anything (lower_literal_to_operand image h.ty operand)) (λ x _. holds_const image h.number x (visited c h.number) current els place)) refl

    by : (kind : OperandKind) (pass : Pass) (c : Ctx) (current : BasicBlockId) (els : OptBlock) (place : Place) (k : ℕ) (f : Bool) →
        Holds (After pass c els true k f (testing h k f 1 2 ∷ [])) (lit_by kind image h.number h.ty operand (mode_of pass) (visited c h.number) current els place)
    by OperandKind.Int pass c current els place k f = lit pass c current els place k f
    by OperandKind.Uint pass c current els place k f = lit pass c current els place k f
    by OperandKind.Char pass c current els place k f = lit pass c current els place k f
    by OperandKind.Bool pass c current els place k f = lit pass c current els place k f
    by OperandKind.Str pass c current els place k f = lit pass c current els place k f
    by OperandKind.CStr pass c current els place k f = lit pass c current els place k f
    by OperandKind.ByteStr pass c current els place k f = lit pass c current els place k f
    by OperandKind.Constant pass c current els place k f = refuses (After pass c els true k f (testing h k f 1 2 ∷ [])) MirLowerError.NotSupported h.number
    by OperandKind.Float pass c current els place k f = lit pass c current els place k f
    by OperandKind.Other pass c current els place k f = refuses (After pass c els true k f (testing h k f 1 2 ∷ [])) MirLowerError.NotSupported h.number
    by OperandKind.Unknown pass c current els place k f = refuses (After pass c els true k f (testing h k f 1 2 ∷ [])) MirLowerError.NotSupported h.number

-- a pattern that names a variant, with the type of its place at hand
holds_named : {image : List ℕ} {shape : AdtPatternShape} {fs : ℕ → List (Argument (PlaceTy → Bool))} {rs : ℕ → List (Argument Reaching)} → Fielded image shape fs rs → (h : Head) (v : ℕ) (pass : Pass)
    (c : Ctx) (current : BasicBlockId) (els : OptBlock) (place : Place) (ty : PlaceTy) (k : ℕ) (f : Bool) → On image (visited c h.number) place ty →
    Holds (After pass c els (is_enum (shape_of image ty) || some_argument image ty (of_variant image ty (some v) fs)) k f
    (naming h k f (is_enum (shape_of image ty)) ∷ through_arguments image ty k (of_variant image ty (some v) rs)))
    (pattern_matching_variant image h.number v shape (mode_of pass) (visited c h.number) current els place)
unfolding pattern_matching_variant of_variant
holds_named {image = image} {shape = shape} {fs = fs} {rs = rs} fielded h v pass c current els place ty k f o =
    subst (λ (t : PlaceTy). Holds Named (needed h.number (shape_of image t) (λ s. adt_on s image h.number v shape (mode_of pass) (visited c h.number) current els place))) (sym o.typed)
    (holds_variant fielded h v pass c current els place ty k f o (shape_of image ty))
  where
    Named : Out → Type 0
    Named r =
        After pass c els (is_enum (shape_of image ty) || some_argument image ty (of_variant image ty (some v) fs)) k f
        (naming h k f (is_enum (shape_of image ty)) ∷ through_arguments image ty k (of_variant image ty (some v) rs)) r

-- a Record or a TupleStruct
pub inside_variant : {image : List ℕ} {shape : AdtPatternShape} {fs : ℕ → List (Argument (PlaceTy → Bool))} {rs : ℕ → List (Argument Reaching)} (h : Head) (v : Option ℕ) → Fielded image shape fs rs →
    Inside image h (variant_pattern image h.number v shape) (λ ty. is_enum (shape_of image ty) || some_argument image ty (of_variant image ty v fs))
    (λ ty k f. naming h k f (is_enum (shape_of image ty)) ∷ through_arguments image ty k (of_variant image ty v rs))
unfolding variant_pattern
inside_variant {image = image} {fs = fs} {rs = rs} h none fielded =
    record {
      goes = λ pass c current els place ty k f o.
          refuses (After pass c els (is_enum (shape_of image ty) || some_argument image ty (of_variant image ty none fs)) k f (naming h k f (is_enum (shape_of image ty)) ∷ through_arguments image ty k (of_variant image ty none rs)))
          MirLowerError.NotSupported h.number;
    }
inside_variant h (some v) fielded = record { goes = λ pass c current els place ty k f o. holds_named fielded h v pass c current els place ty k f o }

-- a Path by what it names
pub inside_path : (image bindings : List ℕ) (h : Head) (target : Target) →
    Inside image h (path_pattern target image bindings h.number h.ty) (λ ty. positive (path_tests image ty target)) (λ ty k f. path_reached image ty target h k f ∷ [])
unfolding path_pattern path_tests path_reached local_path constant_path of_variant some_argument through_arguments downcast
inside_path image bindings h unresolved =
    record { goes = λ pass c current els place ty k f o. refuses (After pass c els false k f (testing h k f 0 0 ∷ [])) MirLowerError.UnresolvedName h.number }
inside_path image bindings h (variant v) =
    record {
      goes = λ pass c current els place ty k f o.
          let e = is_enum (shape_of image ty) in
          subst (λ (x : Bool). Holds (After pass c els x k f (naming h k f e ∷ [])) (pattern_matching_variant image h.number v AdtPatternShape.Unit (mode_of pass) (visited c h.number) current els place)) (fails ty e)
          (subst (λ (l : List Reached). Holds (After pass c els (e || some_argument image ty (downcast e v [])) k f (naming h k f e ∷ l)) (pattern_matching_variant image h.number v AdtPatternShape.Unit (mode_of pass) (visited c h.number) current els place))
          (below ty k e)
          (holds_named (fielded_unit image) h v pass c current els place ty k f o));
    }
  where
    fails : (ty : PlaceTy) (e : Bool) → (e || some_argument image ty (downcast e v [])) ≡ positive (cond e 1 0)
    fails ty true = refl
    fails ty false = refl

    below : (ty : PlaceTy) (k : ℕ) (e : Bool) → through_arguments image ty k (downcast e v []) ≡ []
    below ty k true = refl
    below ty k false = refl
inside_path image bindings h (local b) = record { goes = λ pass c current els place ty k f o. by pass c current els place k f }
  where
    by : (pass : Pass) (c : Ctx) (current : BasicBlockId) (els : OptBlock) (place : Place) (k : ℕ) (f : Bool) →
        Holds (After pass c els false k f (testing h k f 0 0 ∷ [])) (local_path bindings h.number b (mode_of pass) (visited c h.number) current els place)
    by checks c current els place k f = refuses (After checks c els false k f (testing h k f 0 0 ∷ [])) MirLowerError.NotSupported h.number
    by binds c current els place k f = holds (After binds c els false k f (testing h k f 0 0 ∷ [])) _ (after_plain binds h k f c current els)
inside_path image bindings h (constant operand) =
    record {
      goes = λ pass c current els place ty k f o.
          holds_leaf pass h 1 4 k f true c current els (λ mode. constant_path image h.number h.ty operand mode (visited c h.number) current els place) (omega arith) (omega arith)
          (holds_constant_path image h.number h.ty operand (visited c h.number) current els place) refl;
    }
inside_path image bindings h other = record { goes = λ pass c current els place ty k f o. by pass c current els place k f }
  where
    by : (pass : Pass) (c : Ctx) (current : BasicBlockId) (els : OptBlock) (place : Place) (k : ℕ) (f : Bool) →
        Holds (After pass c els false k f (testing h k f 0 0 ∷ [])) (path_pattern other image bindings h.number h.ty (mode_of pass) (visited c h.number) current els place)
    by checks c current els place k f = refuses (After checks c els false k f (testing h k f 0 0 ∷ [])) MirLowerError.NotSupported h.number
    by binds c current els place k f = holds (After binds c els false k f (testing h k f 0 0 ∷ [])) _ (after_plain binds h k f c current els)
