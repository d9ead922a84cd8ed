-- What each test adds. Assumes nothing.
use Rattle.std.specs.Prelude.{Some, None}
use mathlib.Core.Path.{◌≡◌, refl, subst}
use mathlib.Core.Bool.{true, false}
use mathlib.Core.Option.{Option, none, some}
use mathlib.Core.List.{List}
use Prim.Native.Nat.{ℕ, ◌+◌, ◌≤◌, ◌%◌, ◌/◌}
use native.Mathlib.Omega.{arith}
use lib.ListN.{length}
use Rattle.image.specs.Types.{Operand, variant_of}
use Rattle.refusals.specs.Refusals.{Result}
use Rattle.place.specs.declared.Place.{Place}
use Rattle.mir.specs.declared.BasicBlockId.{BasicBlockId}
use Rattle.mir.specs.declared.blocks.Terminator.{Terminator}
use Rattle.mir.specs.declared.rvalues.Constant.{Constant}
use Rattle.mir.specs.declared.rvalues.BinOp.{BinOp}
use Rattle.mir.specs.declared.rvalues.Left.{Left}
use Rattle.mir.specs.declared.rvalues.PlaceRvalue.{PlaceRvalue}
use Rattle.mir.specs.Rvalues.{place_rvalue_row, constant_row, binary_row}
use Rattle.state.specs.State.{State}
use Rattle.state.specs.Steps.{next_block, next_local, try_block, try_statement, set_terminator}
use Rattle.literals.specs.Literals.{lower_const_to_operand, lower_literal_or_const_to_operand}
use Rattle.lower_spec.specs.Results.{OptBlock}
use Rattle.lower_spec.specs.Temps.{temp, discr_temp_place}
use Rattle.pattern_matching.specs.declared.MatchingMode.{MatchingMode}
use Rattle.pattern_matching.specs.Walking.{Ctx, Out, Walk, step, out, with_state, local_place, else_state, else_block}
use Rattle.pattern_matching.specs.Tests.{bool_word, usize_word, if_true, compare, pattern_match_const, constant_path, range_end, range_end?}
use Rattle.pattern_matching.specs.Variants.{discriminant_test}
use Rattle.pattern_matching.specs.Slices.{RestOf, length_constant, length_compared, length_test}
use Rattle.counting.specs.Reaching.{end_count, positive}
use Rattle.counting.specs.Counting.{else_made}
use Rattle.counting.specs.Demand3.{ElseIs}
use Rattle.counting.proofs.Rests.{statements_by}
use Rattle.counting.proofs.Holding.{Holds, holds, Gives, holds_step}
use Rattle.counting.proofs.Going.{What, block, statement, visit, Built, built_on, built_none, went_built, went_as, nothing, made}
use Rattle.counting.proofs.Building.{built_terminator, gives_block, gives_statement, gives_temp, gives_else}
use Rattle.counting.proofs.Stepping.{extra, Steps, steps_plain}

-- the same, counted otherwise
built_as : {st st' : State} {b s b' s' : ℕ} → b ≡ b' → s ≡ s' → Built st st' b s → Built st st' b' s'
built_as {st = st} {st' = st'} {s = s} {b' = b'} e f g = subst (λ (n : ℕ). Built st st' b' n) f (subst (λ (n : ℕ). Built st st' n s) e g)

-- the else of a test
else_tested : (els : OptBlock) (st : State) (from to : ℕ) → from ≤ length st.blocks → length st.blocks + else_made true els ≤ to →
    ElseIs true els (Some (else_block st els)) from to
unfolding else_block
else_tested (Some e) st from to h k = refl
else_tested None st from to h k = (h, omega arith)

-- a test that makes so many blocks and statements, where st is the state in which an else is numbered
test_made : {c c' : Ctx} {t s : ℕ} (then : BasicBlockId) (els : OptBlock) (st : State) → Built c.state c'.state (t + else_made true els) s →
    c'.visits ≡ c.visits → length c.state.blocks ≤ length st.blocks → length st.blocks + else_made true els ≤ length c'.state.blocks →
    Steps c els (record { ctx = c'; then = then; else = Some (else_block st els) }) true nothing (made t s)
test_made {c = c} {t = t} {s = s} then els st g v h k =
    record { went = went_as same (went_built g v); else = else_tested els st _ _ h k }
  where
    same : (w : What) → 0 + (made t s w + extra w true els) ≡ 0 + made (t + else_made true els) s w
    same block = refl
    same statement = omega arith
    same (visit n) = refl

-- its blocks and statements counted otherwise
pub plain_test : {c : Ctx} {t s b n : ℕ} (st' : State) (then : BasicBlockId) (els : OptBlock) (st : State) → Built c.state st' b n → b ≡ t + else_made true els → n ≡ s →
    length c.state.blocks ≤ length st.blocks → length st.blocks + else_made true els ≤ length st'.blocks →
    Steps c els (record { ctx = with_state c st'; then = then; else = Some (else_block st els) }) true nothing (made t s)
plain_test st' then els st g e f h k = test_made then els st (built_as e f g) refl h k

-- a comparison: a temporary, a statement, and the block's end
holds_compare : {Q : Out → Type 0} (image : List ℕ) (p : ℕ) (op : BinOp) (left : Left) (place : Place) (c : Ctx) (st : State) (current then else : BasicBlockId) →
    ((st' : State) → Built st st' 0 2 → Q (record { ctx = with_state c st'; then = then; else = Some else })) → Holds Q (compare image p op left place c st current then else)
unfolding compare
holds_compare {Q = Q} image p op left place c st current then else q =
    holds_step p (temp image st bool_word current) k₁ (gives_temp image st bool_word current) (λ st₁ g₁.
    holds_step p (try_statement st₁ row) k₂ (gives_statement st₁ row) (λ st₂ g₂.
    holds Q _ (q (if_true st₂ current (next_local st) then else) (built_on g₁ (built_on g₂ (built_terminator st₂ current _))))))
  where
    row : List ℕ
    row = binary_row current (next_local st) op left place

    k₂ : State → Walk Out
    k₂ st₂ = out (with_state c (if_true st₂ current (next_local st) then else)) then (Some else)

    k₁ : State → Walk Out
    k₁ st₁ = step p (try_statement st₁ row) k₂

-- a constant: one block and two statements
pub holds_const : (image : List ℕ) (p : ℕ) (k : Constant) (c : Ctx) (current : BasicBlockId) (els : OptBlock) (place : Place) →
    Holds (λ r. Steps c els r true nothing (made 1 2)) (pattern_match_const image p k c current els place)
unfolding pattern_match_const
holds_const image p k c current els place =
    holds_step p (try_block c.state) k₁ (gives_block c.state) (λ st₁ g₁.
    holds_step p (else_state st₁ els) (k₂ st₁) (gives_else st₁ els) (λ st₂ g₂.
    holds_compare image p BinOp.Eq (Left.Constant k) place c st₂ current (next_block c.state) (else_block st₁ els) (λ st₃ g₃.
    plain_test st₃ (next_block c.state) els st₁ (built_on g₁ (built_on g₂ g₃)) (omega arith) (omega arith) (omega (arith, g₁.blocks)) (omega (arith, g₂.blocks, g₃.blocks)))))
  where
    k₂ : State → State → Walk Out
    k₂ st₁ st₂ = compare image p BinOp.Eq (Left.Constant k) place c st₂ current (next_block c.state) (else_block st₁ els)

    k₁ : State → Walk Out
    k₁ st₁ = step p (else_state st₁ els) (k₂ st₁)

-- a constant path: one block and four statements
pub holds_constant_path : (image : List ℕ) (p ty : ℕ) (operand : Operand) (c : Ctx) (current : BasicBlockId) (els : OptBlock) (place : Place) →
    Holds (λ r. Steps c els r true nothing (made 1 4)) (constant_path image p ty operand MatchingMode.Check c current els place)
unfolding constant_path
holds_constant_path image p ty operand c current els place =
    holds_step p (temp image c.state ty current) k₁ (gives_temp image c.state ty current) (λ st₁ g₁.
    holds_step p (try_statement st₁ copied) k₂ (gives_statement st₁ copied) (λ st₂ g₂.
    holds_step p (temp image st₂ bool_word current) (k₃ st₂) (gives_temp image st₂ bool_word current) (λ st₃ g₃.
    holds_step p (try_statement st₃ (compared st₂)) (k₄ st₂) (gives_statement st₃ (compared st₂)) (λ st₄ g₄.
    holds_step p (try_block st₄) (k₅ st₂ st₄) (gives_block st₄) (λ st₅ g₅.
    holds_step p (else_state st₅ els) (k₆ st₂ st₄ st₅) (gives_else st₅ els) (λ st₆ g₆.
    let end = built_terminator st₆ current (Terminator.Switch (next_local st₂) 1 0 (next_block st₄) (else_block st₅ els)) in
    holds (λ r. Steps c els r true nothing (made 1 4)) _
    (plain_test (if_true st₆ current (next_local st₂) (next_block st₄) (else_block st₅ els)) (next_block st₄) els st₅
    (built_on g₁ (built_on g₂ (built_on g₃ (built_on g₄ (built_on g₅ (built_on g₆ end)))))) (omega arith) (omega arith)
    (omega (arith, g₁.blocks, g₂.blocks, g₃.blocks, g₄.blocks, g₅.blocks)) (omega (arith, g₆.blocks, end.blocks)))))))))
  where
    copied : List ℕ
    copied = constant_row current (next_local c.state) (lower_const_to_operand ty operand)

    compared : State → List ℕ
    compared st₂ = binary_row current (next_local st₂) BinOp.Eq (Left.Local (next_local c.state)) place

    k₆ : State → State → State → State → Walk Out
    k₆ st₂ st₄ st₅ st₆ = out (with_state c (if_true st₆ current (next_local st₂) (next_block st₄) (else_block st₅ els))) (next_block st₄) (Some (else_block st₅ els))

    k₅ : State → State → State → Walk Out
    k₅ st₂ st₄ st₅ = step p (else_state st₅ els) (k₆ st₂ st₄ st₅)

    k₄ : State → State → Walk Out
    k₄ st₂ st₄ = step p (try_block st₄) (k₅ st₂ st₄)

    k₃ : State → State → Walk Out
    k₃ st₂ st₃ = step p (try_statement st₃ (compared st₂)) (k₄ st₂)

    k₂ : State → Walk Out
    k₂ st₂ = step p (temp image st₂ bool_word current) (k₃ st₂)

    k₁ : State → Walk Out
    k₁ st₁ = step p (try_statement st₁ copied) k₂

-- of what a step gives nothing need be known
pub anything : {A : Type 0} (x : Result A) → Gives (λ _. Unit {0}) x
anything x = record { at = λ a e. tt }

-- one end of a range: one block and two statements
holds_range_end : (image : List ℕ) (p ty : ℕ) (op : BinOp) (operand : Operand) (c : Ctx) (current : BasicBlockId) (els : OptBlock) (place : Place) →
    Holds (λ r. Steps c els r true nothing (made 1 2)) (range_end image p ty op operand c current els place)
unfolding range_end
holds_range_end image p ty op operand c current els place =
    holds_step p (lower_literal_or_const_to_operand image ty operand) k₁ (anything (lower_literal_or_const_to_operand image ty operand)) (λ k _.
    holds_step p (else_state c.state els) (k₂ k) (gives_else c.state els) (λ st₁ g₁.
    holds_step p (try_block st₁) (k₃ k st₁) (gives_block st₁) (λ st₂ g₂.
    holds_compare image p op (Left.Constant k) place c st₂ current (next_block st₁) (else_block c.state els) (λ st₃ g₃.
    plain_test st₃ (next_block st₁) els c.state (built_on g₁ (built_on g₂ g₃)) (omega arith) (omega arith) (omega arith) (omega (arith, g₁.blocks, g₂.blocks, g₃.blocks))))))
  where
    k₃ : Constant → State → State → Walk Out
    k₃ k st₁ st₂ = compare image p op (Left.Constant k) place c st₂ current (next_block st₁) (else_block c.state els)

    k₂ : Constant → State → Walk Out
    k₂ k st₁ = step p (try_block st₁) (k₃ k st₁)

    k₁ : Constant → Walk Out
    k₁ k = step p (else_state c.state els) (k₂ k)

-- an end that may be absent
pub holds_range_end? : (image : List ℕ) (p ty : ℕ) (op : BinOp) (end : Option Operand) (c : Ctx) (current : BasicBlockId) (els : OptBlock) (place : Place) →
    Holds (λ r. Steps c els r (positive (end_count end)) nothing (made (end_count end) (end_count end + end_count end))) (range_end? image p ty op end c current els place)
unfolding range_end?
holds_range_end? image p ty op none c current els place =
    holds (λ r. Steps c els r false nothing (made 0 0)) _ (steps_plain current els (went_built (built_none c.state) refl))
holds_range_end? image p ty op (some operand) c current els place = holds_range_end image p ty op operand c current els place

-- the test of an enum: one block and two statements
pub holds_discriminant : (image : List ℕ) (p v : ℕ) (c : Ctx) (current : BasicBlockId) (els : OptBlock) (place : Place) →
    Holds (λ r. Steps c els r true nothing (made 1 2)) (discriminant_test image p v c current els place)
unfolding discriminant_test
holds_discriminant image p v c current els place =
    holds_step p (discr_temp_place image c.state current) k₁ (gives_temp image c.state 258 current) (λ st₁ g₁.
    holds_step p (try_statement st₁ row) k₂ (gives_statement st₁ row) (λ st₂ g₂.
    holds_step p (try_block st₂) (k₃ st₂) (gives_block st₂) (λ st₃ g₃.
    holds_step p (else_state st₃ els) (k₄ st₂ st₃) (gives_else st₃ els) (λ st₄ g₄.
    let end = built_terminator st₄ current (ending st₂ st₃) in
    holds (λ r. Steps c els r true nothing (made 1 2)) _
    (plain_test (set_terminator st₄ current (ending st₂ st₃)) (next_block st₂) els st₃ (built_on g₁ (built_on g₂ (built_on g₃ (built_on g₄ end)))) (omega arith) (omega arith)
    (omega (arith, g₁.blocks, g₂.blocks, g₃.blocks)) (omega (arith, g₄.blocks, end.blocks)))))))
  where
    row : List ℕ
    row = place_rvalue_row current (next_local c.state) PlaceRvalue.Discr place

    ending : State → State → Terminator
    ending st₂ st₃ = Terminator.Switch (next_local c.state) ((variant_of image v).discriminant % 18446744073709551616) ((variant_of image v).discriminant / 18446744073709551616) (next_block st₂) (else_block st₃ els)

    k₄ : State → State → State → Walk Out
    k₄ st₂ st₃ st₄ =
        out (record { state = set_terminator st₄ current (ending st₂ st₃); visits = c.visits })
        (next_block st₂) (Some (else_block st₃ els))

    k₃ : State → State → Walk Out
    k₃ st₂ st₃ = step p (else_state st₃ els) (k₄ st₂ st₃)

    k₂ : State → Walk Out
    k₂ st₂ = step p (try_block st₂) (k₃ st₂)

    k₁ : State → Walk Out
    k₁ st₁ = step p (try_statement st₁ row) k₂

-- a slice's length: one block, and two statements, or four with a rest
pub holds_length : (rest : RestOf) (image : List ℕ) (p n : ℕ) (c : Ctx) (current : BasicBlockId) (els : OptBlock) (place : Place) →
    Holds (λ r. Steps c els r true nothing (made 1 (statements_by rest))) (length_test rest image p n c current els place)
unfolding length_test length_compared statements_by
holds_length rest image p n c current els place =
    holds_step p (temp image c.state usize_word current) k₁ (gives_temp image c.state usize_word current) (λ st₁ g₁.
    holds_step p (try_statement st₁ row) k₂ (gives_statement st₁ row) (λ st₂ g₂.
    holds_step p (else_state st₂ els) (k₃ st₂) (gives_else st₂ els) (λ st₃ g₃.
    holds_step p (try_block st₃) (k₄ st₂ st₃) (gives_block st₃) (λ st₄ g₄. by rest st₁ st₂ st₃ st₄ g₁ g₂ g₃ g₄))))
  where
    row : List ℕ
    row = place_rvalue_row current (next_local c.state) PlaceRvalue.Len place

    more : (st₁ st₂ st₃ st₄ : State) → Built c.state st₁ 0 1 → Built st₁ st₂ 0 1 → Built st₂ st₃ (else_made true els) 0 → Built st₃ st₄ 1 0 →
        Holds (λ r. Steps c els r true nothing (made 1 4)) (compare image p BinOp.Le (Left.Constant (length_constant n)) (local_place (next_local c.state)) c st₄ current (next_block st₃) (else_block st₂ els))
    more st₁ st₂ st₃ st₄ g₁ g₂ g₃ g₄ =
        holds_compare image p BinOp.Le (Left.Constant (length_constant n)) (local_place (next_local c.state)) c st₄ current (next_block st₃) (else_block st₂ els) (λ st₅ g₅.
        plain_test st₅ (next_block st₃) els st₂ (built_on g₁ (built_on g₂ (built_on g₃ (built_on g₄ g₅)))) (omega arith) (omega arith)
        (omega (arith, g₁.blocks, g₂.blocks)) (omega (arith, g₃.blocks, g₄.blocks, g₅.blocks)))

    by : (rest : RestOf) (st₁ st₂ st₃ st₄ : State) → Built c.state st₁ 0 1 → Built st₁ st₂ 0 1 → Built st₂ st₃ (else_made true els) 0 → Built st₃ st₄ 1 0 →
        Holds (λ r. Steps c els r true nothing (made 1 (statements_by rest))) (length_compared rest image p n c c.state st₄ current (next_block st₃) (else_block st₂ els))
    by RestOf.none st₁ st₂ st₃ st₄ g₁ g₂ g₃ g₄ =
        let t = Terminator.Switch (next_local c.state) n 0 (next_block st₃) (else_block st₂ els) in
        let end = built_terminator st₄ current t in
        holds (λ r. Steps c els r true nothing (made 1 2)) _
        (plain_test (set_terminator st₄ current t) (next_block st₃) els st₂ (built_on g₁ (built_on g₂ (built_on g₃ (built_on g₄ end)))) (omega arith) (omega arith)
        (omega (arith, g₁.blocks, g₂.blocks)) (omega (arith, g₃.blocks, g₄.blocks, end.blocks)))
    by (RestOf.binds q b how) st₁ st₂ st₃ st₄ g₁ g₂ g₃ g₄ = more st₁ st₂ st₃ st₄ g₁ g₂ g₃ g₄
    by RestOf.ignores st₁ st₂ st₃ st₄ g₁ g₂ g₃ g₄ = more st₁ st₂ st₃ st₄ g₁ g₂ g₃ g₄

    k₄ : State → State → State → Walk Out
    k₄ st₂ st₃ st₄ = length_compared rest image p n c c.state st₄ current (next_block st₃) (else_block st₂ els)

    k₃ : State → State → Walk Out
    k₃ st₂ st₃ = step p (try_block st₃) (k₄ st₂ st₃)

    k₂ : State → Walk Out
    k₂ st₂ = step p (else_state st₂ els) (k₃ st₂)

    k₁ : State → Walk Out
    k₁ st₁ = step p (try_statement st₁ row) k₂
