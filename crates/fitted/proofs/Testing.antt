-- Tests of what fits, and bindings that have a local, refuse with a limit only. Assumes nothing.
use mathlib.Core.Path.{◌≡◌, refl, ap, subst}
use mathlib.Core.Bool.{Bool, true, false, cond, not, ◌&&◌, false≢true}
use mathlib.Core.Option.{Option, none, some}
use mathlib.Core.List.{List}
use Prim.Native.Nat.{ℕ, ◌≤◌}
use native.Mathlib.Omega.{arith}
use borrow.Author.Tests.{eqb-true}
use lib.Dec.{eqb, ltb}
use lib.ListN.{get_or}
use Rattle.image.specs.declared.kinds.BindingMode.{BindingMode}
use Rattle.image.specs.declared.kinds.OperandKind.{OperandKind}
use Rattle.image.specs.declared.kinds.TypeKind.{TypeKind}
use Rattle.image.specs.Tables.{type_count}
use Rattle.image.specs.Kinds.{type_kind}
use Rattle.image.specs.Rows.{type_at}
use Rattle.image.specs.Types.{Shape, integer, bool, char, str, tuple, adt, reference, array, slice, unknown, shape_by, ty_of, Operand}
use Rattle.refusals.specs.declared.MirLowerError.{MirLowerError}
use Rattle.refusals.specs.Refusals.{done, stopped}
use Rattle.place.specs.declared.LocalId.{LocalId}
use Rattle.place.specs.declared.Place.{Place}
use Rattle.mir.specs.declared.BasicBlockId.{BasicBlockId}
use Rattle.mir.specs.declared.rvalues.Constant.{Constant}
use Rattle.mir.specs.declared.rvalues.BinOp.{BinOp}
use Rattle.mir.specs.declared.rvalues.Left.{Left}
use Rattle.state.specs.State.{State}
use Rattle.state.specs.Steps.{try_block, try_statement}
use Rattle.literals.specs.Literals.{integer_constant, literal_by, lower_literal_to_operand, literal_or_const_by, lower_literal_or_const_to_operand}
use Rattle.lower_spec.specs.Results.{OptBlock}
use Rattle.lower_spec.specs.Temps.{is_slice, is_held, temp, binding_local, push_storage_live_for_local, discr_temp_place}
use Rattle.pattern_matching.specs.Walking.{Ctx, else_state, else_block}
use Rattle.pattern_matching.specs.Tests.{bool_word, usize_word, compare, pattern_match_const, literal, lit_by, constant_path, range_end, range_end?, pattern_match_binding}
use Rattle.pattern_matching.specs.Variants.{discriminant_test}
use Rattle.pattern_matching.specs.Slices.{RestOf, length_compared, length_test}
use Rattle.pattern_matching.specs.Patterns.{end_op, range_pattern}
use Rattle.place.specs.declared.place_ty.PlaceTy.{PlaceTy}
use Rattle.meaning.specs.Values.{int_fits}
use Rattle.meaning.specs.Fit.{integer_fits, constant_fits, literal_fits, end_fits, end_fits?, has_local}
use Rattle.fitted.proofs.Stopping.{Fine, Fair, fine_ok, fair_done, fine_step}
use Rattle.fitted.proofs.Building.{Kept, kept_on, kept_terminator, fair_block, fair_statement, fair_live, fair_temp, no_slice, fair_else}
use Rattle.fitted.proofs.Walks.{Stays, Good, fine_out, fine_walk, fine_check}

-- of an answer nothing is asked
abbrev Any : {A : Type 0} → A → Type 0
Any a = Unit {0}

-- an integer literal at an integer type is taken
fair_integer : (s : Shape) (t : ℕ) (as_signed : Bool) (bytes : List ℕ) → integer_fits s as_signed bytes ≡ true → Fair Any (integer_constant s t bytes)
unfolding integer_fits integer_constant int_fits
fair_integer (integer size signed) t as_signed bytes e = fair_done Any _ tt
fair_integer bool t as_signed bytes e = absurd (false≢true e)
fair_integer char t as_signed bytes e = absurd (false≢true e)
fair_integer str t as_signed bytes e = absurd (false≢true e)
fair_integer (tuple fields) t as_signed bytes e = absurd (false≢true e)
fair_integer (adt kind variants) t as_signed bytes e = absurd (false≢true e)
fair_integer (reference u) t as_signed bytes e = absurd (false≢true e)
fair_integer (array u n) t as_signed bytes e = absurd (false≢true e)
fair_integer (slice u) t as_signed bytes e = absurd (false≢true e)
fair_integer unknown t as_signed bytes e = absurd (false≢true e)

-- a literal that fits is taken
fair_literal : (kind : OperandKind) (image : List ℕ) (t offset : ℕ) (bytes : List ℕ) → literal_fits kind image (ty_of image t).shape bytes ≡ true → Fair Any (literal_by kind image t offset bytes)
unfolding literal_fits literal_by
fair_literal OperandKind.Int image t offset bytes e = fair_integer (ty_of image t).shape t true bytes e
fair_literal OperandKind.Uint image t offset bytes e = fair_integer (ty_of image t).shape t false bytes e
fair_literal OperandKind.Char image t offset bytes e = fair_done Any _ tt
fair_literal OperandKind.Bool image t offset bytes e = fair_done Any _ tt
fair_literal OperandKind.Str image t offset bytes e = fair_done Any _ tt
fair_literal OperandKind.CStr image t offset bytes e = absurd (false≢true e)
fair_literal OperandKind.ByteStr image t offset bytes e = absurd (false≢true e)
fair_literal OperandKind.Constant image t offset bytes e = absurd (false≢true e)
fair_literal OperandKind.Float image t offset bytes e = absurd (false≢true e)
fair_literal OperandKind.Other image t offset bytes e = absurd (false≢true e)
fair_literal OperandKind.Unknown image t offset bytes e = absurd (false≢true e)

-- so is the end of a range that fits
fair_end : (image : List ℕ) (t : ℕ) (o : Operand) → end_fits o.kind (ty_of image t).shape o.bytes ≡ true → Fair Any (lower_literal_or_const_to_operand image t o)
unfolding lower_literal_or_const_to_operand
fair_end image t o fits = by o.kind refl fits
  where
    by : (kind : OperandKind) → o.kind ≡ kind → end_fits kind (ty_of image t).shape o.bytes ≡ true → Fair Any (literal_or_const_by kind image t o)
    by OperandKind.Int k f = unfold literal_or_const_by lower_literal_to_operand in fair_literal o.kind image t o.offset o.bytes (rw k (unfold literal_fits end_fits in f))
    by OperandKind.Uint k f = unfold literal_or_const_by lower_literal_to_operand in fair_literal o.kind image t o.offset o.bytes (rw k (unfold literal_fits end_fits in f))
    by OperandKind.Char k f = unfold literal_or_const_by lower_literal_to_operand in fair_literal o.kind image t o.offset o.bytes (rw k (unfold literal_fits end_fits in f))
    by OperandKind.Constant k f = unfold literal_or_const_by in fair_done Any _ tt
    by OperandKind.Bool k f = absurd (false≢true (unfold end_fits in f))
    by OperandKind.Str k f = absurd (false≢true (unfold end_fits in f))
    by OperandKind.CStr k f = absurd (false≢true (unfold end_fits in f))
    by OperandKind.ByteStr k f = absurd (false≢true (unfold end_fits in f))
    by OperandKind.Float k f = absurd (false≢true (unfold end_fits in f))
    by OperandKind.Other k f = absurd (false≢true (unfold end_fits in f))
    by OperandKind.Unknown k f = absurd (false≢true (unfold end_fits in f))

-- the type of a constant that fits is no slice
constant_sized : (image : List ℕ) (t : ℕ) (bytes : List ℕ) → constant_fits (ty_of image t).shape bytes ≡ true → is_slice image t ≡ false
unfolding is_slice ty_of
constant_sized image t bytes fits = by (eqb (type_at image t).kind 9) refl
  where
    no_slice_by : (kind : TypeKind) → kind ≡ TypeKind.Slice → constant_fits (shape_by kind image (type_at image t)) bytes ≡ true → ⊥
    no_slice_by kind e f = false≢true (unfold shape_by constant_fits in (rw e at f))

    by : (b : Bool) → eqb (type_at image t).kind 9 ≡ b → ltb t (type_count image) && b ≡ false
    by true q = absurd (no_slice_by (type_kind (type_at image t).kind) (ap type_kind (eqb-true (type_at image t).kind 9 q)) fits)
    by false q = and_no (ltb t (type_count image))
      where
        and_no : (a : Bool) → a && false ≡ false
        and_no true = refl
        and_no false = refl

-- a binding that has a local
fair_binding : (bindings : List ℕ) (b : ℕ) → has_local bindings b ≡ true → Fair Any (binding_local bindings b)
unfolding binding_local
fair_binding bindings b e = by (eqb (get_or bindings b 65535) 65535) e
  where
    by : (x : Bool) → not x ≡ true → Fair {A = LocalId} Any (cond x (stopped MirLowerError.InaccessibleLocal) (done (record { 0 = get_or bindings b 65535 })))
    by true q = absurd (false≢true q)
    by false q = fair_done Any _ tt

-- what fills it
pub fine_binding : (bindings : List ℕ) (p q b : ℕ) (how : BindingMode) (c : Ctx) (current : BasicBlockId) (els : OptBlock) (place : Place) → has_local bindings b ≡ true →
    Fine (Stays c) (pattern_match_binding bindings p q b how c current els place)
unfolding pattern_match_binding
fine_binding bindings p q b how c current els place e =
    fine_step q (binding_local bindings b) _ (fair_binding bindings b e) (λ l _.
    fine_step p (push_storage_live_for_local c.state l current) _ (fair_live (is_held c.state l) c.state l current) (λ st₁ g₁.
    fine_step p (try_statement st₁ _) _ (fair_statement st₁ _) (λ st₂ g₂. fine_ok (Stays c) _ (kept_on g₁ g₂))))

-- tests, in an image whose types are at most 256
module _ (image : List ℕ) (few : type_count image ≤ 256) where
  no_slice_bool : is_slice image bool_word ≡ false
  no_slice_bool = no_slice image bool_word (omega arith)

  -- an operator's test
  fine_compare : (p : ℕ) (op : BinOp) (left : Left) (place : Place) (c : Ctx) (st : State) (current then els : BasicBlockId) → Kept c.state st →
      Fine (Stays c) (compare image p op left place c st current then els)
  unfolding compare
  fine_compare p op left place c st current then els g =
      fine_step p (temp image st bool_word current) _ (fair_temp image st bool_word current no_slice_bool) (λ st₁ g₁.
      fine_step p (try_statement st₁ _) _ (fair_statement st₁ _) (λ st₂ g₂.
      fine_ok (Stays c) _ (kept_on (kept_on g (kept_on g₁ g₂)) (kept_terminator st₂ current _))))

  -- a constant's test
  fine_const : (p : ℕ) (k : Constant) (c : Ctx) (current : BasicBlockId) (els : OptBlock) (place : Place) → Fine (Stays c) (pattern_match_const image p k c current els place)
  unfolding pattern_match_const
  fine_const p k c current els place =
      fine_step p (try_block c.state) _ (fair_block c.state) (λ st₁ g₁.
      fine_step p (else_state st₁ els) _ (fair_else st₁ els) (λ st₂ g₂.
      fine_compare p BinOp.Eq (Left.Constant k) place c st₂ current _ (else_block st₁ els) (kept_on g₁ g₂)))

  -- a literal that fits
  good_literal : (p t : ℕ) (o : Operand) (ty : PlaceTy) → literal_fits o.kind image (ty_of image t).shape o.bytes ≡ true → Good image ty (literal image p t o)
  unfolding literal lower_literal_to_operand
  good_literal p t o ty e =
      record {
        goes = λ pass c current els place on.
            fine_check pass _ _ (fine_step p (literal_by o.kind image t o.offset o.bytes) _ (fair_literal o.kind image t o.offset o.bytes e) (λ k _. fine_const p k c current els place))
            (fine_out c current els);
      }

  -- a Lit
  pub good_lit : (p t : ℕ) (o : Operand) (ty : PlaceTy) → literal_fits o.kind image (ty_of image t).shape o.bytes ≡ true → Good image ty (lit_by o.kind image p t o)
  good_lit p t o ty e = by o.kind refl
    where
      taken : Good image ty (literal image p t o)
      taken = good_literal p t o ty e

      fits : (kind : OperandKind) → o.kind ≡ kind → literal_fits kind image (ty_of image t).shape o.bytes ≡ true
      fits kind k = subst (λ (x : OperandKind). literal_fits x image (ty_of image t).shape o.bytes ≡ true) k e

      by : (kind : OperandKind) → o.kind ≡ kind → Good image ty (lit_by kind image p t o)
      by OperandKind.Int k = unfold lit_by in record { goes = taken.goes }
      by OperandKind.Uint k = unfold lit_by in record { goes = taken.goes }
      by OperandKind.Char k = unfold lit_by in record { goes = taken.goes }
      by OperandKind.Bool k = unfold lit_by in record { goes = taken.goes }
      by OperandKind.Str k = unfold lit_by in record { goes = taken.goes }
      by OperandKind.CStr k = unfold lit_by in record { goes = taken.goes }
      by OperandKind.ByteStr k = unfold lit_by in record { goes = taken.goes }
      by OperandKind.Float k = unfold lit_by in record { goes = taken.goes }
      by OperandKind.Constant k = absurd (false≢true (unfold literal_fits in fits OperandKind.Constant k))
      by OperandKind.Other k = absurd (false≢true (unfold literal_fits in fits OperandKind.Other k))
      by OperandKind.Unknown k = absurd (false≢true (unfold literal_fits in fits OperandKind.Unknown k))

  -- a path to a constant that fits
  pub good_constant : (p t : ℕ) (o : Operand) (ty : PlaceTy) → constant_fits (ty_of image t).shape o.bytes ≡ true → Good image ty (constant_path image p t o)
  unfolding constant_path
  good_constant p t o ty e =
      record {
        goes = λ pass c current els place on.
            fine_check pass _ _
            (fine_step p (temp image c.state t current) _ (fair_temp image c.state t current (constant_sized image t o.bytes e)) (λ st₁ g₁.
            fine_step p (try_statement st₁ _) _ (fair_statement st₁ _) (λ st₂ g₂.
            fine_step p (temp image st₂ bool_word current) _ (fair_temp image st₂ bool_word current no_slice_bool) (λ st₃ g₃.
            fine_step p (try_statement st₃ _) _ (fair_statement st₃ _) (λ st₄ g₄.
            fine_step p (try_block st₄) _ (fair_block st₄) (λ st₅ g₅.
            fine_step p (else_state st₅ els) _ (fair_else st₅ els) (λ st₆ g₆.
            fine_ok (Stays c) _ (kept_on (kept_on g₁ (kept_on g₂ (kept_on g₃ (kept_on g₄ (kept_on g₅ g₆))))) (kept_terminator st₆ current _)))))))))
            (fine_out c current els);
      }

  -- an end of a range that fits, or none
  fine_end : (p t : ℕ) (op : BinOp) (end : Option Operand) (c : Ctx) (current : BasicBlockId) (els : OptBlock) (place : Place) → end_fits? (ty_of image t).shape end ≡ true →
      Fine (Stays c) (range_end? image p t op end c current els place)
  unfolding range_end? range_end
  fine_end p t op none c current els place e = fine_out c current els
  fine_end p t op (some o) c current els place e =
      fine_step p (lower_literal_or_const_to_operand image t o) _ (fair_end image t o e) (λ k _.
      fine_step p (else_state c.state els) _ (fair_else c.state els) (λ st₁ g₁.
      fine_step p (try_block st₁) _ (fair_block st₁) (λ st₂ g₂.
      fine_compare p op (Left.Constant k) place c st₂ current _ (else_block c.state els) (kept_on g₁ g₂))))

  -- a Range
  pub good_range : (p t : ℕ) (start end : Option Operand) (halfOpen : Bool) (ty : PlaceTy) → end_fits? (ty_of image t).shape start ≡ true → end_fits? (ty_of image t).shape end ≡ true →
      Good image ty (range_pattern image p t start end halfOpen)
  unfolding range_pattern
  good_range p t start end halfOpen ty e e' =
      record {
        goes = λ pass c current els place on.
            fine_check pass _ _
            (fine_walk c (range_end? image p t BinOp.Le start c current els place) _ (fine_end p t BinOp.Le start c current els place e)
            (λ r g. fine_end p t (end_op halfOpen) end r.ctx r.then r.else place e'))
            (fine_out c current els);
      }

  -- the end of a length's test
  fine_compared : (rest : RestOf) (p n : ℕ) (c : Ctx) (st₀ st : State) (current then els : BasicBlockId) → Kept c.state st →
      Fine (Stays c) (length_compared rest image p n c st₀ st current then els)
  unfolding length_compared
  fine_compared RestOf.none p n c st₀ st current then els g = fine_ok (Stays c) _ (kept_on g (kept_terminator st current _))
  fine_compared (RestOf.binds q b how) p n c st₀ st current then els g = fine_compare p BinOp.Le _ _ c st current then els g
  fine_compared RestOf.ignores p n c st₀ st current then els g = fine_compare p BinOp.Le _ _ c st current then els g

  -- the test of a slice's length
  pub fine_length : (rest : RestOf) (p n : ℕ) (c : Ctx) (current : BasicBlockId) (els : OptBlock) (place : Place) → Fine (Stays c) (length_test rest image p n c current els place)
  unfolding length_test
  fine_length rest p n c current els place =
      fine_step p (temp image c.state usize_word current) _ (fair_temp image c.state usize_word current (no_slice image usize_word (omega arith))) (λ st₁ g₁.
      fine_step p (try_statement st₁ _) _ (fair_statement st₁ _) (λ st₂ g₂.
      fine_step p (else_state st₂ els) _ (fair_else st₂ els) (λ st₃ g₃.
      fine_step p (try_block st₃) _ (fair_block st₃) (λ st₄ g₄.
      fine_compared rest p n c c.state st₄ current _ (else_block st₂ els) (kept_on g₁ (kept_on g₂ (kept_on g₃ g₄)))))))

  -- the test of an enum
  pub fine_discriminant : (p v : ℕ) (c : Ctx) (current : BasicBlockId) (els : OptBlock) (place : Place) → Fine (Stays c) (discriminant_test image p v c current els place)
  unfolding discriminant_test
  fine_discriminant p v c current els place =
      fine_step p (discr_temp_place image c.state current) _ (fair_temp image c.state 258 current (no_slice image 258 (omega arith))) (λ st₁ g₁.
      fine_step p (try_statement st₁ _) _ (fair_statement st₁ _) (λ st₂ g₂.
      fine_step p (try_block st₂) _ (fair_block st₂) (λ st₃ g₃.
      fine_step p (else_state st₃ els) _ (fair_else st₃ els) (λ st₄ g₄.
      fine_ok (Stays c) _ (kept_on (kept_on g₁ (kept_on g₂ (kept_on g₃ g₄))) (kept_terminator st₄ current _))))))
