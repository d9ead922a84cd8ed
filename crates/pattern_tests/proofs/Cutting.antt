-- The definitions of the tests, cut where the code is cut. Assumes nothing.
use mathlib.Core.Path.{◌≡◌, refl}
use mathlib.Core.Bool.{true}
use mathlib.Core.List.{List}
use Prim.Native.Nat.{ℕ}
use Rattle.image.specs.declared.PatId.{PatId}
use Rattle.place.specs.declared.Place.{Place}
use Rattle.mir.specs.declared.BasicBlockId.{BasicBlockId}
use Rattle.mir.specs.declared.rvalues.Constant.{Constant}
use Rattle.mir.specs.declared.rvalues.BinOp.{BinOp}
use Rattle.mir.specs.declared.rvalues.Left.{Left}
use Rattle.mir.specs.declared.rvalues.PlaceRvalue.{PlaceRvalue}
use Rattle.mir.specs.Rvalues.{place_rvalue_row}
use Rattle.state.specs.Steps.{next_block, next_local, try_block, try_statement}
use Rattle.lower_spec.specs.Results.{OptBlock}
use Rattle.lower_spec.specs.Temps.{temp}
use Rattle.pattern_matching.specs.Walking.{Ctx, step, local_place, else_state, else_block}
use Rattle.pattern_matching.specs.Tests.{usize_word, pattern_match_const}
use Rattle.pattern_matching.specs.Slices.{RestOf, length_constant, length_compared, length_test}
use Rattle.pattern_switching.specs.Switching.{compare_step}
use Rattle.pattern_tests.specs.Testing.{length_end, length_switch, length_test_by, has_rest}
use Rattle.pattern_switching.proofs.Branching.{then_else}
use Rattle.pattern_switching.proofs.Cutting.{compare_cut}

module _ (image : List ℕ) (p : PatId) (constant : Constant) (place : Place) (current : BasicBlockId) (els : OptBlock) (ctx : Ctx) where
  -- a place is compared with a constant: the block that goes on is made before an else
  pub const_cut : then_else p (λ st on other. compare_step image BinOp.Eq (Left.Constant constant) place st current on other) els ctx ≡ pattern_match_const image p.0 constant ctx current els place
  unfolding pattern_match_const
  const_cut = λ i. step p.0 (try_block ctx.state) (λ st₁. step p.0 (else_state st₁ els) (λ st₂. compare_cut image p.0 BinOp.Eq (Left.Constant constant) place ctx st₂ current (next_block ctx.state) (else_block st₁ els) i))

-- at least n items
least : (image : List ℕ) (p n : ℕ) (ctx : Ctx) (current : BasicBlockId) (els : OptBlock) (place : Place) →
    length_test_by true image p n ctx current els place ≡ length_test RestOf.ignores image p n ctx current els place
unfolding length_test_by length_switch length_end length_test length_compared
least image p n ctx current els place =
    λ i. step p (temp image ctx.state usize_word current) (λ st₁.
    step p (try_statement st₁ (place_rvalue_row current (next_local ctx.state) PlaceRvalue.Len place)) (λ st₂.
    step p (else_state st₂ els) (λ st₃.
    step p (try_block st₃) (λ st₄.
    compare_cut image p BinOp.Le (Left.Constant (length_constant n)) (local_place (next_local ctx.state)) ctx st₄ current (next_block st₃) (else_block st₂ els) i))))

-- the length's test, by whether there is a rest
pub length_test_by_lem : (rest : RestOf) (image : List ℕ) (p n : ℕ) (ctx : Ctx) (current : BasicBlockId) (els : OptBlock) (place : Place) →
    length_test_by (has_rest rest) image p n ctx current els place ≡ length_test rest image p n ctx current els place
unfolding has_rest length_test_by length_switch length_end length_test length_compared
length_test_by_lem RestOf.none image p n ctx current els place = refl
length_test_by_lem (RestOf.binds q b how) image p n ctx current els place = least image p n ctx current els place
length_test_by_lem RestOf.ignores image p n ctx current els place = least image p n ctx current els place
