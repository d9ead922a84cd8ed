-- Literals, ranges, paths and patterns that name a variant or none take what is counted of them. Assumes nothing.
use mathlib.Core.Path.{◌≡◌, refl}
use mathlib.Core.Bool.{Bool, true, false, cond, ◌||◌}
use mathlib.Core.Option.{Option, none, some}
use mathlib.Core.List.{List, [], ◌∷◌}
use Prim.Native.Nat.{ℕ, ◌+◌, ◌≤◌, max}
use native.Mathlib.Nat.{le_refl}
use native.Mathlib.Omega.{arith}
use Rattle.image.specs.declared.kinds.OperandKind.{OperandKind}
use Rattle.image.specs.Types.{Operand}
use Rattle.image.specs.Tree.{Head, Target, unresolved, variant, local, constant, other}
use Rattle.refusals.specs.declared.MirLowerError.{MirLowerError}
use Rattle.literals.specs.Literals.{lower_literal_to_operand}
use Rattle.place.specs.declared.Place.{Place}
use Rattle.place.specs.declared.place_ty.PlaceTy.{PlaceTy}
use Rattle.mir.specs.declared.BasicBlockId.{BasicBlockId}
use Rattle.mir.specs.declared.rvalues.BinOp.{BinOp}
use Rattle.lower_spec.specs.Results.{OptBlock}
use Rattle.pattern_matching.specs.Walking.{Ctx}
use Rattle.pattern_matching.specs.Tests.{lit_by, literal, constant_path, range_end?, local_path}
use Rattle.pattern_matching.specs.Variants.{shape_of, AdtPatternShape, pattern_matching_variant, variant_pattern}
use Rattle.pattern_matching.specs.Patterns.{end_op, range_pattern, path_pattern}
use Rattle.counting.specs.Reaching.{Argument, is_enum, downcast, of_variant, some_argument, end_count, path_tests, positive, Reached, Reaching, testing, naming, path_reached, through_arguments}
use Rattle.counting.specs.Counting.{one, total}
use Rattle.counting.proofs.Passing.{Pass, checks, binds, mode_of, in_checks}
use Rattle.room.specs.Elements.{most_of_arguments, path_elements}
use Rattle.room.proofs.Telling.{Origin, Sound, sound_ok, sound_refused, sound_next, sound_step}
use Rattle.room.proofs.Building.{Table, make, Goal, has_as, has_by}
use Rattle.room.proofs.Spending.{At, Ends, reach_none, idle_testing, free_testing, spent_free, spent, Fares, Leaves, Spends, spends_as, spends_refused, spends_test}
use Rattle.room.proofs.Testing.{sure_literal, sound_const, sound_end, sound_constant}
use Rattle.room.proofs.Shaping.{Fielded, fielded_unit, spends_named}

module _ {A : Type 0} {base : Origin} {image : List ℕ} (ty : PlaceTy) (h : Head) where
  -- a literal
  spends_literal : (o : Operand) → Spends A base image ty (literal image h.number h.ty o) true 0 (λ k. testing h k false 1 2 ∷ [])
  unfolding literal lower_literal_to_operand total
  spends_literal o =
      let g = spends_test {A = A} {base = base} {image = image} {ty = ty} true (λ k. testing h k false 1 2) _ (idle_testing h 1 2) (λ k T F m c current els place f room.
      sound_step h.number (lower_literal_to_operand image h.ty o) _ (sure_literal o.kind image h.ty o.offset o.bytes) (λ x _.
      sound_const image h.number m c F x current els place (f refl) (has_by room _ (omega arith) (omega arith) (omega arith) (omega arith)))) in
      record { above = g.above; goes = g.goes }

  -- a Lit by its operand's kind
  pub spends_lit : (kind : OperandKind) (o : Operand) → Spends A base image ty (lit_by kind image h.number h.ty o) true 0 (λ k. testing h k false 1 2 ∷ [])
  unfolding lit_by
  spends_lit OperandKind.Int o = record { above = (spends_literal o).above; goes = (spends_literal o).goes }
  spends_lit OperandKind.Uint o = record { above = (spends_literal o).above; goes = (spends_literal o).goes }
  spends_lit OperandKind.Char o = record { above = (spends_literal o).above; goes = (spends_literal o).goes }
  spends_lit OperandKind.Bool o = record { above = (spends_literal o).above; goes = (spends_literal o).goes }
  spends_lit OperandKind.Str o = record { above = (spends_literal o).above; goes = (spends_literal o).goes }
  spends_lit OperandKind.CStr o = record { above = (spends_literal o).above; goes = (spends_literal o).goes }
  spends_lit OperandKind.ByteStr o = record { above = (spends_literal o).above; goes = (spends_literal o).goes }
  spends_lit OperandKind.Constant o = let g = spends_refused MirLowerError.NotSupported h.number tt (spends_literal o).above in record { above = g.above; goes = g.goes }
  spends_lit OperandKind.Float o = record { above = (spends_literal o).above; goes = (spends_literal o).goes }
  spends_lit OperandKind.Other o = let g = spends_refused MirLowerError.NotSupported h.number tt (spends_literal o).above in record { above = g.above; goes = g.goes }
  spends_lit OperandKind.Unknown o = let g = spends_refused MirLowerError.NotSupported h.number tt (spends_literal o).above in record { above = g.above; goes = g.goes }

  -- a Range
  pub spends_range : (start end : Option Operand) (halfOpen : Bool) → Spends A base image ty (range_pattern image h.number h.ty start end halfOpen) (positive (end_count start + end_count end)) 0
      (λ k. testing h k false (end_count start + end_count end) (end_count start + end_count end + (end_count start + end_count end)) ∷ [])
  unfolding range_pattern total
  spends_range start end halfOpen =
      let g = spends_test {A = A} {base = base} {image = image} {ty = ty} (positive (end_count start + end_count end)) x _
      (idle_testing h (end_count start + end_count end) (end_count start + end_count end + (end_count start + end_count end))) (λ k T F m c current els place f room.
      sound_next (range_end? image h.number h.ty BinOp.Le start c current els place) _
      (sound_end image h.number (λ w. make (end_count end) (end_count end + end_count end) (end_count end) (end_count end) w + m w) c F h.ty BinOp.Le start current els place
      (λ e. f (some_first start end e)) (split start end k T F m c els room)) (λ r room'.
      sound_end image h.number m r.ctx F h.ty (end_op halfOpen) end r.then r.else place (λ e. f (some_second start end e)) room')) in
      record { above = g.above; goes = g.goes }
    where
      x : ℕ → Reached
      x k = testing h k false (end_count start + end_count end) (end_count start + end_count end + (end_count start + end_count end))

      some_first : (start end : Option Operand) → end_count start ≡ 1 → positive (end_count start + end_count end) ≡ true
      some_first none none e = absurd (let q = e in omega (arith, q))
      some_first none (some o) e = refl
      some_first (some o) none e = refl
      some_first (some o) (some o') e = refl

      some_second : (start end : Option Operand) → end_count end ≡ 1 → positive (end_count start + end_count end) ≡ true
      some_second none none e = absurd (let q = e in omega (arith, q))
      some_second none (some o) e = refl
      some_second (some o) none e = refl
      some_second (some o) (some o') e = refl

      split : (start end : Option Operand) (k : ℕ) (T : Goal) (F : Bool) (m : Table → ℕ) (c : Ctx) (els : OptBlock) →
          Fares A base T F (λ w. total (spent checks k w) (testing h k false (end_count start + end_count end) (end_count start + end_count end + (end_count start + end_count end)) ∷ []) + m w) c els →
          Fares A base T F (λ w. make (end_count start) (end_count start + end_count start) (end_count start) (end_count start) w
          + (make (end_count end) (end_count end + end_count end) (end_count end) (end_count end) w + m w)) c els
      split none none k T F m c els room = has_by room _ (omega arith) (omega arith) (omega arith) (omega arith)
      split none (some o) k T F m c els room = has_by room _ (omega arith) (omega arith) (omega arith) (omega arith)
      split (some o) none k T F m c els room = has_by room _ (omega arith) (omega arith) (omega arith) (omega arith)
      split (some o) (some o') k T F m c els room = has_by room _ (omega arith) (omega arith) (omega arith) (omega arith)

  -- a path to a constant
  spends_constant : (o : Operand) → Spends A base image ty (constant_path image h.number h.ty o) true 0 (λ k. testing h k false 1 4 ∷ [])
  unfolding constant_path total
  spends_constant o =
      let g = spends_test {A = A} {base = base} {image = image} {ty = ty} true (λ k. testing h k false 1 4) _ (idle_testing h 1 4) (λ k T F m c current els place f room.
      sound_constant image h.number m c F h.ty o current els place (f refl) (has_by room _ (omega arith) (omega arith) (omega arith) (omega arith))) in
      record { above = g.above; goes = g.goes }

  -- a Path by what it names
  pub spends_path : (bindings : List ℕ) (target : Target) → Spends A base image ty (path_pattern target image bindings h.number h.ty) (positive (path_tests image ty target)) (path_elements image ty target)
      (λ k. path_reached image ty target h k false ∷ [])
  unfolding path_pattern path_tests path_elements path_reached total
  spends_path bindings unresolved = record { above = λ k. (le_refl _, tt); goes = λ pass k T F m c current els place at len f room. sound_refused _ MirLowerError.UnresolvedName h.number tt }
  spends_path bindings (variant v) =
      let g = spends_as refl downcasts (λ k. refl) (by (is_enum (shape_of image ty)) (spends_named ty h (fielded_unit A base image) v)) in
      record { above = g.above; goes = g.goes }
    where
      downcasts : one (is_enum (shape_of image ty)) ≡ path_elements image ty (variant v)
      downcasts = omega arith

      by : (enum : Bool) → Spends A base image ty (pattern_matching_variant image h.number v AdtPatternShape.Unit) (enum || some_argument image ty (downcast enum v []))
          (max (one enum) (most_of_arguments image ty (downcast enum v []))) (λ k. naming h k false enum ∷ through_arguments image ty k (downcast enum v [])) →
          Spends A base image ty (pattern_matching_variant image h.number v AdtPatternShape.Unit) (positive (cond enum 1 0)) (one enum) (λ k. naming h k false enum ∷ [])
      by true g = unfold some_argument most_of_arguments downcast through_arguments in spends_as refl refl (λ k. refl) g
      by false g = unfold some_argument most_of_arguments downcast through_arguments in spends_as refl refl (λ k. refl) g
  spends_path bindings (local b) = record { above = λ k. (le_refl _, tt); goes = by }
    where
      by : (pass : Pass) (k : ℕ) (T : Goal) (F : Bool) (m : Table → ℕ) (c : Ctx) (current : BasicBlockId) (els : OptBlock) (place : Place) → At image base place ty → (A → place.len + 0 ≤ 16) →
          (in_checks pass false ≡ true → F ≡ true) → Fares A base T F (λ w. total (spent pass k w) (testing h k false 0 0 ∷ []) + m w) c els →
          Sound A base (Ends A base T F m pass place 0) (local_path bindings h.number b (mode_of pass) c current els place)
      by checks k T F m c current els place at len f room = unfold local_path in sound_refused (Ends A base T F m checks place 0) MirLowerError.NotSupported h.number tt
      by binds k T F m c current els place at len f room =
          unfold local_path in
          sound_ok (Ends A base T F m binds place 0) _
          (has_as _ (λ w. let a = spent_free (λ k. testing h k false 0 0) (free_testing h) binds k w in omega (arith, a)) room, reach_none binds place at.short)
  spends_path bindings (constant o) = record { above = (spends_constant o).above; goes = (spends_constant o).goes }
  spends_path bindings other =
      let g = spends_test {A = A} {base = base} {image = image} {ty = ty} false (λ k. testing h k false 0 0) _ (idle_testing h 0 0) (λ k T F m c current els place f room.
      sound_refused (Leaves A base T F m) MirLowerError.NotSupported h.number tt) in
      record { above = g.above; goes = g.goes }

  -- a pattern that names a variant, if it does
  pub spends_variant : {shape : AdtPatternShape} {fs : ℕ → List (Argument (PlaceTy → Bool))} {ds : ℕ → List (Argument (PlaceTy → ℕ))} {rs : ℕ → List (Argument Reaching)} (v : Option ℕ) →
      Fielded A base image shape fs ds rs → Spends A base image ty (variant_pattern image h.number v shape) (is_enum (shape_of image ty) || some_argument image ty (of_variant image ty v fs))
      (max (one (is_enum (shape_of image ty))) (most_of_arguments image ty (of_variant image ty v ds)))
      (λ k. naming h k false (is_enum (shape_of image ty)) ∷ through_arguments image ty k (of_variant image ty v rs))
  unfolding variant_pattern of_variant through_arguments
  spends_variant none fielded = record { above = λ k. (le_refl _, tt); goes = λ pass k T F m c current els place at len f room. sound_refused _ MirLowerError.NotSupported h.number tt }
  spends_variant (some v) fielded = let g = spends_named ty h fielded v in record { above = g.above; goes = g.goes }
