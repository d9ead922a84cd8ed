-- The ends of a range, by the ways through the code. Assumes nothing.
use Rattle.std.specs.Prelude.{Some, None, Ok, Err}
use mathlib.Core.Path.{◌≡◌, refl, ap}
use mathlib.Core.Bool.{Bool, true, false}
use mathlib.Core.List.{List}
use Prim.Native.Nat.{ℕ}
use borrow.Author.Tests.{eq-eqb, ne_eqb}
use Rattle.refusals.specs.declared.MirLowerError.{MirLowerError}
use Rattle.refusals.specs.Refusals.{Result}
use Rattle.refusals.specs.Refusals.{done, stopped}
use Rattle.image.specs.declared.PatId.{PatId}
use Rattle.image.specs.Operands.{operand_holds}
use Rattle.image.specs.Patterns.{operand_or_absent}
use Rattle.image.specs.Types.{operand_of}
use Rattle.image.specs.Tree.{operand?}
use Rattle.place.specs.declared.Place.{Place}
use Rattle.mir.specs.declared.BasicBlockId.{BasicBlockId}
use Rattle.mir.specs.declared.Counts.{Counts}
use Rattle.mir.specs.declared.rvalues.Constant.{Constant}
use Rattle.mir.specs.declared.rvalues.BinOp.{BinOp}
use Rattle.mir.specs.declared.rvalues.Left.{Left}
use Rattle.mir.specs.Blocks.{new_block}
use Rattle.state.specs.State.{Body, State}
use Rattle.state.specs.Results.{Stepped}
use Rattle.literals.specs.Literals.{lower_literal_or_const_to_operand}
use Rattle.lower_spec.specs.Results.{OptBlock}
use Rattle.pattern_matching.specs.declared.MatchingMode.{MatchingMode}
use Rattle.pattern_matching.specs.Modes.{is_check}
use Rattle.pattern_matching.specs.Walking.{Ctx, Out, Walk, next, step, out, else_state, else_block}
use Rattle.pattern_matching.specs.Tests.{range_end, range_end?}
use Rattle.pattern_matching.specs.Patterns.{end_op, range_pattern}
use Rattle.pattern_walk_spec.specs.Results.{Lowered}
use Rattle.pattern_walk_spec.specs.Answers.{Begins, Lowers}
use Rattle.pattern_walk_spec.proofs.Sequences.{lowers_skips, lowers_refuses, lowers_by, lowers_stops, lowers_then}
use Rattle.pattern_switching.specs.Switching.{else_made, compare_step, Steps}
use Rattle.pattern_ranges.specs.Ranges.{range_test}
use Rattle.pattern_switching.proofs.Branching.{lowered_by, else_full, else_then_full, else_then_made, else_then_ends, grown_to, else_then}
use Rattle.pattern_switching.proofs.Cutting.{in_check_lem, not_in_check, compare_cut}
use Rattle.state.specs.Steps.{next_block, try_block}
use Rattle.state.specs.Promises.{Ready}

module _ (image : List ℕ) (p : PatId) (constant : Constant) (place : Place) (current : BasicBlockId) (els : OptBlock) (ctx : Ctx) where
  -- one end of a range: an else is made before the block that goes on
  range_cut : (op : BinOp) → else_then p (λ st on other. compare_step image op (Left.Constant constant) place st current on other) els ctx ≡ range_test image p.0 op constant ctx current els place
  unfolding range_test
  range_cut op = λ i. step p.0 (else_state ctx.state els) (λ st₁. step p.0 (try_block st₁) (λ st₂. compare_cut image p.0 op (Left.Constant constant) place ctx st₂ current (next_block st₁) (else_block ctx.state els) i))

-- `range_test`; t is the body at entry
module _ (image : List ℕ) (t : Body) (c : Counts) (p : PatId) (op : BinOp) (constant : Constant) (current : BasicBlockId) (els : OptBlock) (place : Place) where
  abbrev Tests : Lowered → Body → Type 0
  Tests = Lowers (λ ctx. range_test image p.0 op constant ctx current els place) c current els t

  abbrev ends : State → BasicBlockId → BasicBlockId → Result State
  ends st on other = compare_step image op (Left.Constant constant) place st current on other

  -- there is no room for an else
  pub range_full : None ≡ else_made c els → Tests (Err (MirLowerError.Limit, p)) t
  range_full full = lowers_by (λ ctx. range_cut image p constant place current els ctx op) (else_full p ends els t c current full)

  module _ {c₁ : Counts} {other : BasicBlockId} (made : Some (c₁, other) ≡ else_made c els) where
    -- nor for the block that goes on
    pub range_then_full : None ≡ new_block c₁ → Tests (Err (MirLowerError.Limit, p)) t
    range_then_full full = lowers_by (λ ctx. range_cut image p constant place current els ctx op) (else_then_full p ends els t c current made full)

    -- both are made, and the place is compared
    pub range_ends : {c₂ : Counts} {on : BasicBlockId} {t' : Body} (r : Stepped) → Some (c₂, on) ≡ new_block c₁ → Ready t c → Begins c current els → Steps (λ st. ends st on other) c₂ current t r t' →
        Tests (lowered_by p on other r) t'
    range_ends {on = on} r is P h E =
        lowers_by (λ ctx. range_cut image p constant place current els ctx op)
        (else_then_ends p ends els t c current made is r h (grown_to (λ st. ends st on other) r (else_then_made made is P h).0 E) E)

-- an operand that is there holds
pub range_holds : (image : List ℕ) (o : ℕ) → (o ≡ 65535 → ⊥) → operand_or_absent image o ≡ true → operand_holds image o ≡ true
range_holds image o there h = rw (ne_eqb o 65535 there) at h

-- `range_end`, of the operand that begins at the word o
module _ (image : List ℕ) (t : Body) (c : Counts) (p : PatId) (ty : ℕ) (op : BinOp) (o : ℕ) (current : BasicBlockId) (els : OptBlock) (place : Place) where
  abbrev Ended : Lowered → Body → Type 0
  Ended = Lowers (λ ctx. range_end? image p.0 ty op (operand? image o) ctx current els place) c current els t

  -- it is absent
  pub end_absent : o ≡ 65535 → Begins c current els → Ended (Ok (c, current, els)) t
  unfolding operand? range_end?
  end_absent absent h = lowers_skips (λ ctx. rw (eq-eqb o 65535 absent) refl) h

  module _ (there : o ≡ 65535 → ⊥) where
    -- the test by the operand's constant
    tests : {lowered : Result Constant} → lowered ≡ lower_literal_or_const_to_operand image ty (operand_of image o) → (ctx : Ctx) →
        step p.0 lowered (λ constant. range_test image p.0 op constant ctx current els place) ≡ range_end? image p.0 ty op (operand? image o) ctx current els place
    unfolding operand? range_end? range_end range_test
    tests is ctx = rw (ne_eqb o 65535 there) (ap (λ (r : Result Constant). step p.0 r (λ constant. range_test image p.0 op constant ctx current els place)) is)

    -- the operand is refused
    pub end_refused : {err : MirLowerError} → stopped err ≡ lower_literal_or_const_to_operand image ty (operand_of image o) → Ended (Err (err, p)) t
    end_refused is = lowers_refuses (tests is)

    -- the operand's constant is compared
    pub end_tests : {constant : Constant} {r : Lowered} {t' : Body} → done constant ≡ lower_literal_or_const_to_operand image ty (operand_of image o) →
        Lowers (λ ctx. range_test image p.0 op constant ctx current els place) c current els t r t' → Ended r t'
    end_tests is L = lowers_by (tests is) L

-- `pattern_match_range`, of the operands that begin at the words start and end
module _ (image : List ℕ) (t : Body) (c : Counts) (mode : MatchingMode) (p : PatId) (ty start end : ℕ) (halfOpen : Bool) (current : BasicBlockId) (els : OptBlock) (place : Place) where
  abbrev Range : Lowered → Body → Type 0
  Range = Lowers (λ ctx. range_pattern image p.0 ty (operand? image start) (operand? image end) halfOpen mode ctx current els place) c current els t

  abbrev first : Ctx → Walk Out
  first ctx = range_end? image p.0 ty BinOp.Le (operand? image start) ctx current els place

  abbrev second : Out → Walk Out
  second r = range_end? image p.0 ty (end_op halfOpen) (operand? image end) r.ctx r.then r.else place

  -- nothing is tested beyond Check
  pub range_skips : is_check mode ≡ false → Begins c current els → Range (Ok (c, current, els)) t
  unfolding range_pattern
  range_skips beyond h = lowers_skips (λ ctx. not_in_check mode (next (first ctx) second) (out ctx current els) beyond) h

  module _ (check : is_check mode ≡ true) where
    both : (ctx : Ctx) → next (first ctx) second ≡ range_pattern image p.0 ty (operand? image start) (operand? image end) halfOpen mode ctx current els place
    unfolding range_pattern
    both ctx = in_check_lem mode (next (first ctx) second) (out ctx current els) check

    -- the start is refused
    pub range_stops : {err : MirLowerError} {q : PatId} {t' : Body} → Lowers first c current els t (Err (err, q)) t' → Range (Err (err, q)) t'
    range_stops L = lowers_by both (lowers_stops second L)

    -- the start, and then the end
    pub range_both : {c₁ : Counts} {on : BasicBlockId} {els₁ : OptBlock} {t₁ t₂ : Body} {r : Lowered} → Ready t c → Lowers first c current els t (Ok (c₁, on, els₁)) t₁ →
        {op : BinOp} → op ≡ end_op halfOpen → Lowers (λ ctx. range_end? image p.0 ty op (operand? image end) ctx on els₁ place) c₁ on els₁ t₁ r t₂ → Range r t₂
    range_both P L is S = lowers_by both (lowers_then second P L (rw is at S))
