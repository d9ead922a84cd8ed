-- Each test, and each binding, takes what is counted of it. Assumes nothing.
use Rattle.std.specs.Prelude.{Some}
use mathlib.Core.Path.{◌≡◌, refl, subst}
use mathlib.Core.Bool.{Bool, true, false, cond, false≢true}
use mathlib.Core.Option.{Option, none, some}
use mathlib.Core.List.{List, [], ◌∷◌}
use Prim.Native.Nat.{ℕ, ◌+◌, ◌/◌}
use native.Mathlib.Omega.{arith}
use lib.Dec.{eqb}
use lib.ListN.{get_or}
use Rattle.image.specs.declared.kinds.BindingMode.{BindingMode}
use Rattle.image.specs.declared.kinds.OperandKind.{OperandKind}
use Rattle.image.specs.Types.{Shape, integer, bool, char, str, tuple, adt, reference, array, slice, unknown, ty_of, Operand}
use Rattle.refusals.specs.declared.MirLowerError.{MirLowerError}
use Rattle.refusals.specs.Refusals.{done, stopped}
use Rattle.place.specs.declared.LocalId.{LocalId}
use Rattle.place.specs.declared.Place.{Place}
use Rattle.mir.specs.declared.BasicBlockId.{BasicBlockId}
use Rattle.mir.specs.declared.rvalues.Constant.{Constant}
use Rattle.mir.specs.declared.rvalues.BinOp.{BinOp}
use Rattle.mir.specs.declared.rvalues.Left.{Left}
use Rattle.state.specs.State.{State}
use Rattle.state.specs.Steps.{try_block, try_statement}
use Rattle.literals.specs.Literals.{integer_constant, literal_by, lower_literal_to_operand, literal_or_const_by, lower_literal_or_const_to_operand}
use Rattle.lower_spec.specs.Results.{OptBlock}
use Rattle.lower_spec.specs.Temps.{temp, binding_local, push_storage_live_for_local, discr_temp_place}
use Rattle.pattern_matching.specs.Walking.{Ctx, else_state, else_block}
use Rattle.pattern_matching.specs.Tests.{bool_word, usize_word, compare, pattern_match_const, constant_path, range_end, range_end?, pattern_match_binding}
use Rattle.pattern_matching.specs.Variants.{discriminant_test}
use Rattle.pattern_matching.specs.Slices.{RestOf, length_compared, length_test}
use Rattle.pattern_matching.specs.declared.MatchingMode.{MatchingMode}
use Rattle.counting.specs.Reaching.{end_count}
use Rattle.counting.specs.Counting.{else_made}
use Rattle.room.proofs.Telling.{Origin, Sound, Sure, sound_ok, sure_done, sure_stopped, sound_step}
use Rattle.room.proofs.Building.{Table, make, Goal, owing, Has, has_by, has_terminator, once_more, spend_block, spend_statement, spend_bound, spend_temp, spend_else}
use Rattle.room.proofs.Spending.{Fares, Leaves}
use Rattle.counting.proofs.Rests.{statements_by}

-- of an answer nothing is asked
abbrev Any : {X : Type 0} → X → Type 0
Any x = Unit {0}

-- a binding's local
sure_local : {A : Type 0} {base : Origin} (bindings : List ℕ) (b : ℕ) → Sure A base (λ l. get_or bindings b 65535 ≡ l.0) (binding_local bindings b)
unfolding binding_local
sure_local {A = A} {base = base} bindings b = by (eqb (get_or bindings b 65535) 65535)
  where
    by : (x : Bool) → Sure A base {X = LocalId} (λ l. get_or bindings b 65535 ≡ l.0) (cond x (stopped MirLowerError.InaccessibleLocal) (done (record { 0 = get_or bindings b 65535 })))
    by true = sure_stopped (λ l. get_or bindings b 65535 ≡ l.0) MirLowerError.InaccessibleLocal tt
    by false = sure_done (λ l. get_or bindings b 65535 ≡ l.0) _ refl

-- what a length's test takes after the length is there
abbrev after : RestOf → Table → ℕ
after RestOf.none = make 0 0 0 0
after (RestOf.binds q b how) = make 0 2 1 1
after RestOf.ignores = make 0 2 1 1

-- an integer literal is not refused for a limit
sure_integer : {A : Type 0} {base : Origin} (s : Shape) (t : ℕ) (bytes : List ℕ) → Sure A base Any (integer_constant s t bytes)
unfolding integer_constant
sure_integer (integer size signed) t bytes = sure_done Any _ tt
sure_integer bool t bytes = sure_stopped Any MirLowerError.NotSupported tt
sure_integer char t bytes = sure_stopped Any MirLowerError.NotSupported tt
sure_integer str t bytes = sure_stopped Any MirLowerError.NotSupported tt
sure_integer (tuple fields) t bytes = sure_stopped Any MirLowerError.NotSupported tt
sure_integer (adt kind variants) t bytes = sure_stopped Any MirLowerError.NotSupported tt
sure_integer (reference u) t bytes = sure_stopped Any MirLowerError.NotSupported tt
sure_integer (array u n) t bytes = sure_stopped Any MirLowerError.NotSupported tt
sure_integer (slice u) t bytes = sure_stopped Any MirLowerError.NotSupported tt
sure_integer unknown t bytes = sure_stopped Any MirLowerError.NotSupported tt

-- no literal is
pub sure_literal : {A : Type 0} {base : Origin} (kind : OperandKind) (image : List ℕ) (t offset : ℕ) (bytes : List ℕ) → Sure A base Any (literal_by kind image t offset bytes)
unfolding literal_by
sure_literal OperandKind.Int image t offset bytes = sure_integer (ty_of image t).shape t bytes
sure_literal OperandKind.Uint image t offset bytes = sure_integer (ty_of image t).shape t bytes
sure_literal OperandKind.Char image t offset bytes = sure_done Any _ tt
sure_literal OperandKind.Bool image t offset bytes = sure_done Any _ tt
sure_literal OperandKind.Str image t offset bytes = sure_done Any _ tt
sure_literal OperandKind.CStr image t offset bytes = sure_done Any _ tt
sure_literal OperandKind.ByteStr image t offset bytes = sure_done Any _ tt
sure_literal OperandKind.Constant image t offset bytes = sure_stopped Any MirLowerError.NotSupported tt
sure_literal OperandKind.Float image t offset bytes = sure_stopped Any MirLowerError.NotSupported tt
sure_literal OperandKind.Other image t offset bytes = sure_stopped Any MirLowerError.NotSupported tt
sure_literal OperandKind.Unknown image t offset bytes = sure_stopped Any MirLowerError.NotSupported tt

-- nor is the end of a range
sure_end : {A : Type 0} {base : Origin} (image : List ℕ) (t : ℕ) (o : Operand) → Sure A base Any (lower_literal_or_const_to_operand image t o)
unfolding lower_literal_or_const_to_operand lower_literal_to_operand literal_or_const_by
sure_end {A = A} {base = base} image t o = by o.kind
  where
    by : (kind : OperandKind) → Sure A base Any (literal_or_const_by kind image t o)
    by OperandKind.Int = sure_literal o.kind image t o.offset o.bytes
    by OperandKind.Uint = sure_literal o.kind image t o.offset o.bytes
    by OperandKind.Char = sure_literal o.kind image t o.offset o.bytes
    by OperandKind.Bool = sure_literal o.kind image t o.offset o.bytes
    by OperandKind.Str = sure_literal o.kind image t o.offset o.bytes
    by OperandKind.CStr = sure_literal o.kind image t o.offset o.bytes
    by OperandKind.ByteStr = sure_literal o.kind image t o.offset o.bytes
    by OperandKind.Constant = sure_done Any _ tt
    by OperandKind.Float = sure_literal o.kind image t o.offset o.bytes
    by OperandKind.Other = sure_literal o.kind image t o.offset o.bytes
    by OperandKind.Unknown = sure_literal o.kind image t o.offset o.bytes

module _ {A : Type 0} {base : Origin} {T : Goal} (image : List ℕ) (p : ℕ) (m : Table → ℕ) (c : Ctx) where
  -- a test's end
  tested_end : (F : Bool) (st : State) (els : BasicBlockId) → Has A base T st m → Has A base T st (λ w. once_more F (Some els) w + m w)
  tested_end F st els h = has_by h _ (omega arith) (omega arith) (omega arith) (omega arith)

  -- an operator's test
  sound_compare : (F : Bool) (op : BinOp) (left : Left) (place : Place) (st : State) (current then els : BasicBlockId) → Has A base T st (λ w. make 0 2 1 1 w + m w) →
      Sound A base (Leaves A base T F m) (compare image p op left place c st current then els)
  unfolding compare
  sound_compare F op left place st current then els h =
      sound_step p (temp image st bool_word current) _
      (spend_temp image st (λ w. make 0 1 0 0 w + m w) bool_word current (has_by h _ (omega arith) (omega arith) (omega arith) (omega arith))) (λ st₁ h₁.
      sound_step p (try_statement st₁ _) _ (spend_statement st₁ m _ h₁) (λ st₂ h₂.
      sound_ok (Leaves A base T F m) _ (has_terminator st₂ _ current _ (tested_end F st₂ els h₂))))

  -- a constant's test
  pub sound_const : (F : Bool) (k : Constant) (current : BasicBlockId) (els : OptBlock) (place : Place) → F ≡ true → Fares A base T F (λ w. make 1 2 1 1 w + m w) c els →
      Sound A base (Leaves A base T F m) (pattern_match_const image p k c current els place)
  unfolding pattern_match_const
  sound_const false k current els place e h = absurd (false≢true e)
  sound_const true k current els place e h =
      let rest : Table → ℕ = λ w. make 0 2 1 1 w + m w in
      sound_step p (try_block c.state) _
      (spend_block c.state (λ w. make (else_made true els) 0 0 0 w + rest w) (has_by h _ (omega arith) (omega arith) (omega arith) (omega arith))) (λ st₁ h₁.
      sound_step p (else_state st₁ els) _ (spend_else st₁ rest els h₁) (λ st₂ h₂.
      sound_compare true BinOp.Eq (Left.Constant k) place st₂ current _ (else_block st₁ els) h₂))

  -- one end of a range, if there is one
  pub sound_end : (F : Bool) (t : ℕ) (op : BinOp) (end : Option Operand) (current : BasicBlockId) (els : OptBlock) (place : Place) → (end_count end ≡ 1 → F ≡ true) →
      Fares A base T F (λ w. make (end_count end) (end_count end + end_count end) (end_count end) (end_count end) w + m w) c els →
      Sound A base (Leaves A base T F m) (range_end? image p t op end c current els place)
  unfolding range_end? range_end
  sound_end F t op none current els place e h = sound_ok (Leaves A base T F m) _ (has_by h _ (omega arith) (omega arith) (omega arith) (omega arith))
  sound_end F t op (some o) current els place e h = by F (e refl) h
    where
      by : (F : Bool) → F ≡ true → Fares A base T F (λ w. make 1 (1 + 1) 1 1 w + m w) c els → Sound A base (Leaves A base T F m) (range_end image p t op o c current els place)
      by false e h = absurd (false≢true e)
      by true e h =
          let rest : Table → ℕ = λ w. make 0 2 1 1 w + m w in
          sound_step p (lower_literal_or_const_to_operand image t o) _ (sure_end image t o) (λ k _.
          sound_step p (else_state c.state els) _
          (spend_else c.state (λ w. make 1 0 0 0 w + rest w) els (has_by h _ (omega arith) (omega arith) (omega arith) (omega arith))) (λ st₁ h₁.
          sound_step p (try_block st₁) _ (spend_block st₁ rest h₁) (λ st₂ h₂.
          sound_compare true op (Left.Constant k) place st₂ current _ (else_block c.state els) h₂)))

  -- the test of a path to a constant
  pub sound_constant : (F : Bool) (t : ℕ) (o : Operand) (current : BasicBlockId) (els : OptBlock) (place : Place) → F ≡ true → Fares A base T F (λ w. make 1 4 2 2 w + m w) c els →
      Sound A base (Leaves A base T F m) (constant_path image p t o MatchingMode.Check c current els place)
  unfolding constant_path
  sound_constant false t o current els place e h = absurd (false≢true e)
  sound_constant true t o current els place e h =
      let r₅ : Table → ℕ = λ w. make (else_made true els) 0 0 0 w + m w in
      let r₄ : Table → ℕ = λ w. make 1 0 0 0 w + r₅ w in
      let r₃ : Table → ℕ = λ w. make 0 1 0 0 w + r₄ w in
      let r₂ : Table → ℕ = λ w. make 0 1 1 1 w + r₃ w in
      sound_step p (temp image c.state t current) _
      (spend_temp image c.state (λ w. make 0 1 0 0 w + r₂ w) t current (has_by h _ (omega arith) (omega arith) (omega arith) (omega arith))) (λ st₁ h₁.
      sound_step p (try_statement st₁ _) _ (spend_statement st₁ r₂ _ h₁) (λ st₂ h₂.
      sound_step p (temp image st₂ bool_word current) _ (spend_temp image st₂ r₃ bool_word current h₂) (λ st₃ h₃.
      sound_step p (try_statement st₃ _) _ (spend_statement st₃ r₄ _ h₃) (λ st₄ h₄.
      sound_step p (try_block st₄) _ (spend_block st₄ r₅ h₄) (λ st₅ h₅.
      sound_step p (else_state st₅ els) _ (spend_else st₅ m els h₅) (λ st₆ h₆.
      sound_ok (Leaves A base T true m) _ (has_terminator st₆ _ current _ (tested_end true st₆ (else_block st₅ els) h₆))))))))

  -- the end of a length's test
  sound_compared : (rest : RestOf) (n : ℕ) (st₀ st : State) (current then els : BasicBlockId) → Has A base T st (λ w. after rest w + m w) →
      Sound A base (Leaves A base T true m) (length_compared rest image p n c st₀ st current then els)
  unfolding length_compared
  sound_compared RestOf.none n st₀ st current then els h =
      sound_ok (Leaves A base T true m) _ (has_terminator st _ current _ (tested_end true st els (has_by h _ (omega arith) (omega arith) (omega arith) (omega arith))))
  sound_compared (RestOf.binds q b how) n st₀ st current then els h =
      sound_compare true BinOp.Le _ _ st current then els h
  sound_compared RestOf.ignores n st₀ st current then els h = sound_compare true BinOp.Le _ _ st current then els h

  -- the test of a slice's length
  pub sound_length : (F : Bool) (rest : RestOf) (n : ℕ) (current : BasicBlockId) (els : OptBlock) (place : Place) → F ≡ true →
      Fares A base T F (λ w. make 1 (statements_by rest) (statements_by rest / 2) (statements_by rest / 2) w + m w) c els →
      Sound A base (Leaves A base T F m) (length_test rest image p n c current els place)
  unfolding length_test
  sound_length false rest n current els place e h = absurd (false≢true e)
  sound_length true rest n current els place e h =
      let r₄ : Table → ℕ = λ w. after rest w + m w in
      let r₃ : Table → ℕ = λ w. make 1 0 0 0 w + r₄ w in
      let r₂ : Table → ℕ = λ w. make (else_made true els) 0 0 0 w + r₃ w in
      sound_step p (temp image c.state usize_word current) _ (spend_temp image c.state (λ w. make 0 1 0 0 w + r₂ w) usize_word current (split rest h)) (λ st₁ h₁.
      sound_step p (try_statement st₁ _) _ (spend_statement st₁ r₂ _ h₁) (λ st₂ h₂.
      sound_step p (else_state st₂ els) _ (spend_else st₂ r₃ els h₂) (λ st₃ h₃.
      sound_step p (try_block st₃) _ (spend_block st₃ r₄ h₃) (λ st₄ h₄.
      sound_compared rest n c.state st₄ current _ (else_block st₂ els) h₄))))
    where
      split : (rest : RestOf) → Fares A base T true (λ w. make 1 (statements_by rest) (statements_by rest / 2) (statements_by rest / 2) w + m w) c els →
          Has A base T c.state (λ w. make 0 1 1 1 w + (make 0 1 0 0 w + (make (else_made true els) 0 0 0 w + (make 1 0 0 0 w + (after rest w + m w)))))
      split RestOf.none h = unfold statements_by in has_by h _ (omega arith) (omega arith) (omega arith) (omega arith)
      split (RestOf.binds q b how) h = unfold statements_by in has_by h _ (omega arith) (omega arith) (omega arith) (omega arith)
      split RestOf.ignores h = unfold statements_by in has_by h _ (omega arith) (omega arith) (omega arith) (omega arith)

  -- the test of an enum
  pub sound_discriminant : (F : Bool) (v : ℕ) (current : BasicBlockId) (els : OptBlock) (place : Place) → F ≡ true → Fares A base T F (λ w. make 1 2 1 1 w + m w) c els →
      Sound A base (Leaves A base T F m) (discriminant_test image p v c current els place)
  unfolding discriminant_test
  sound_discriminant false v current els place e h = absurd (false≢true e)
  sound_discriminant true v current els place e h =
      let r₃ : Table → ℕ = λ w. make (else_made true els) 0 0 0 w + m w in
      let r₂ : Table → ℕ = λ w. make 1 0 0 0 w + r₃ w in
      sound_step p (discr_temp_place image c.state current) _
      (spend_temp image c.state (λ w. make 0 1 0 0 w + r₂ w) 258 current (has_by h _ (omega arith) (omega arith) (omega arith) (omega arith))) (λ st₁ h₁.
      sound_step p (try_statement st₁ _) _ (spend_statement st₁ r₂ _ h₁) (λ st₂ h₂.
      sound_step p (try_block st₂) _ (spend_block st₂ r₃ h₂) (λ st₃ h₃.
      sound_step p (else_state st₃ els) _ (spend_else st₃ m els h₃) (λ st₄ h₄.
      sound_ok (Leaves A base T true m) _ (has_terminator st₄ _ current _ (has_by h₄ _ (omega arith) (omega arith) (omega arith) (omega arith)))))))

  -- what fills a binding
  pub sound_binding : (F : Bool) (bindings : List ℕ) (q b : ℕ) (how : BindingMode) (current : BasicBlockId) (els : OptBlock) (place : Place) →
      Fares A base (owing (get_or bindings b 65535 ∷ []) T) F (λ w. make 0 2 0 0 w + m w) c els → Sound A base (Leaves A base T F m) (pattern_match_binding bindings p q b how c current els place)
  unfolding pattern_match_binding
  sound_binding F bindings q b how current els place h =
      let rest : Table → ℕ = λ w. once_more F els w + m w in
      sound_step q (binding_local bindings b) _ (sure_local bindings b) (λ l is.
      sound_step p (push_storage_live_for_local c.state l current) _
      (spend_bound c.state (λ w. make 0 1 0 0 w + rest w) l current
      (subst (λ (x : ℕ). Has A base (owing (x ∷ []) T) c.state (λ w. make 0 1 0 0 w + (make 0 1 0 0 w + rest w))) is (has_by h _ (omega arith) (omega arith) (omega arith) (omega arith)))) (λ st₁ h₁.
      sound_step p (try_statement st₁ _) _ (spend_statement st₁ rest _ h₁) (λ st₂ h₂. sound_ok (Leaves A base T F m) _ h₂)))
