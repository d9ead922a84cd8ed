-- The tests of a slice's length and of an enum's discriminant lead where the value says. Assumes nothing.
use Prim.Native.Nat.{ℕ, ◌+◌, ◌*◌, ◌/◌, ◌%◌, ◌≤◌, ◌<◌}
use native.Mathlib.Nat.{le_trans}
use native.Mathlib.Omega.{arith}
use mathlib.Core.Path.{◌≡◌, refl, ap, ap₂, subst, ◌∙◌}
use mathlib.Core.Bool.{Bool, false}
use mathlib.Core.List.{List, []}
use borrow.Author.Tests.{ne_eqb}
use lib.Dec.{eqb, leb}
use lib.IntN.{pos}
use lib.ListN.{length}
use Rattle.image.specs.Types.{variant_of}
use Rattle.place.specs.declared.Place.{Place}
use Rattle.place.specs.Places.{projection_of}
use Rattle.place.specs.declared.place_ty.PlaceTy.{PlaceTy}
use Rattle.mir.specs.declared.BasicBlockId.{BasicBlockId}
use Rattle.mir.specs.declared.rvalues.BinOp.{BinOp}
use Rattle.mir.specs.declared.rvalues.Left.{Left}
use Rattle.mir.specs.declared.rvalues.PlaceRvalue.{PlaceRvalue}
use Rattle.mir.specs.Rvalues.{place_rvalue_row}
use Rattle.state.specs.State.{State}
use Rattle.state.specs.Steps.{next_block, next_local, try_block, try_statement}
use Rattle.lower_spec.specs.Results.{OptBlock}
use Rattle.lower_spec.specs.Temps.{temp, discr_temp_place}
use Rattle.views.specs.Views.{of_place, Mir, mir_of}
use Rattle.views.specs.Views.{set as puts}
use Rattle.views.specs.Growing.{GoesOn}
use Rattle.views.proofs.ReadBack.{place_rvalue_back}
use Rattle.pattern_matching.specs.Walking.{Ctx, Out, ok, local_place, else_state, else_block}
use Rattle.pattern_matching.specs.Tests.{usize_word}
use Rattle.pattern_matching.specs.Variants.{discriminant_test}
use Rattle.pattern_matching.specs.Slices.{RestOf, length_constant, length_compared, length_test}
use Rattle.growth.specs.Opened.{count, Ready, Leaves}
use Rattle.growth.proofs.Opening.{opens_block, opens_else, adds_temp, adds_statement, place_block}
use Rattle.growth.proofs.Testing.{good_length, good_discriminant}
use Rattle.meaning.specs.Values.{Value, Int, parts_of, place_in}
use Rattle.meaning.specs.Running.{Held, value, Env, update, value_of, constant_value, scalar_of, compared, discriminant_of, Scene, part_behind, read, of_place_value, left_value, rvalue_value, execute, switch_number}
use Rattle.correctness.specs.Demand2.{place_path}
use Rattle.correctness.proofs.Walking.{Lands}
use Rattle.correctness.proofs.Standing.{Rooted, Stands, stands_read, stepped}
use Rattle.correctness.proofs.Doing.{Does, does_seq, does_block, does_else, does_line, does_temp, update_same, update_other, opens_locals, adds_locals}
use Rattle.correctness.proofs.Tests.{lands_switch, lands_compare}

-- what the test of a slice's length asks: exactly n without a rest, and at least n with one
unfoldable pub long_tested : RestOf → ℕ → ℕ → Bool
long_tested RestOf.none n len = eqb len n
long_tested (RestOf.binds q b how) n len = leb n len
long_tested RestOf.ignores n len = leb n len

-- a number as a switch sees it
pub number_switched : (m low high : ℕ) → eqb (switch_number (scalar_of (value_of (value (Int (pos m)))))) (low + 18446744073709551616 * high) ≡ eqb m (low + 18446744073709551616 * high)
unfolding scalar_of value_of
number_switched m low high = refl

-- a length against a local that holds another
length_compared_lem : (scene : Scene) (env : Env) (n len l : ℕ) → scene.root.local < l → env l ≡ value (Int (pos len)) →
    compared BinOp.Le (left_value (Left.Constant (length_constant n)) scene env) (read scene env (place_path (local_place (record { 0 = l })))) ≡ leb n len
unfolding compared left_value constant_value length_constant read part_behind local_place projection_of place_in scalar_of value_of
length_compared_lem scene env n len l h e =
    let plain : n + 18446744073709551616 * 0 ≡ n = omega arith in
    let there : eqb l scene.root.local ≡ false = ne_eqb l scene.root.local (omega arith) in
    rw (there, e, plain)

-- the two halves of a discriminant
halves : (d : ℕ) → d % 18446744073709551616 + 18446744073709551616 * (d / 18446744073709551616) ≡ d
halves d = omega arith

-- the low half is below 2^64
low_half : (d : ℕ) → d % 18446744073709551616 < 18446744073709551616
low_half d = omega arith

-- what the length's statement does
abbrev measured : Scene → Place → ℕ → Env → Env
measured scene place l env = update env l (value (Int (pos (length (parts_of (read scene env (place_path place)))))))

module _ {scene : Scene} {bindings : List ℕ} {M : Mir} {word : ℕ} {place : Place} {ty : PlaceTy} {w : Value} (p : ℕ) (ctx : Ctx) (c : BasicBlockId) (els : OptBlock) where
  -- the end of a length's test, by the rest
  length_end_lem : (rest : RestOf) (n : ℕ) {st : State} (t e : BasicBlockId) (r : Out) → Ready ctx.state c els → Rooted scene word ctx.state → Stands scene word place ty w →
      n < 18446744073709551616 → Does scene ctx.state c.0 st (measured scene place (length ctx.state.locals)) → count ctx.state ≤ t.0 → length ctx.state.locals ≤ length st.locals →
      length_compared rest scene.image p n ctx ctx.state st c t e ≡ ok r → Leaves ctx.state c els r → GoesOn (mir_of r.ctx.state) M → (env : Env) →
      Lands scene bindings M ctx c.0 env [] r (long_tested rest n (length (parts_of w)))
  unfolding length_compared long_tested length_constant local_place
  length_end_lem RestOf.none n t e r h root s small d new more is q x env =
      let l = length ctx.state.locals in
      let told : length (parts_of (read scene env (place_path place))) ≡ length (parts_of w) = ap (λ (y : Value). length (parts_of y)) (stands_read env s) in
      let plain : n + 18446744073709551616 * 0 ≡ n = omega arith in
      let len = length (parts_of (read scene env (place_path place))) in
      lands_switch ctx c els (next_local ctx.state) n 0 t e ctx.visits r h d new small (omega arith) is q x env
      (λ k i. update_other env l (value (Int (pos len))) k (omega arith)) (eqb (length (parts_of w)) n)
      (ap (λ (y : Held). eqb (switch_number (scalar_of (value_of y))) (n + 18446744073709551616 * 0)) (update_same env l (value (Int (pos len)))) ∙ number_switched len n 0
      ∙ ap₂ (λ (a b : ℕ). eqb a b) told plain)
  length_end_lem (RestOf.binds z b how) n t e r h root s small d new more is q x env =
      let l = length ctx.state.locals in
      let told : length (parts_of (read scene env (place_path place))) ≡ length (parts_of w) = ap (λ (y : Value). length (parts_of y)) (stands_read env s) in
      let len = length (parts_of (read scene env (place_path place))) in
      subst (λ (y : Bool). Lands scene bindings M ctx c.0 env [] r y)
      (length_compared_lem scene (measured scene place l env) n len l root.there (update_same env l (value (Int (pos len)))) ∙ ap (leb n) told)
      (lands_compare scene.image p BinOp.Le (Left.Constant (length_constant n)) (local_place (next_local ctx.state)) ctx c els t e r h d new more (small, omega arith) (omega arith) refl is q x env
      (λ k i. update_other env l (value (Int (pos len))) k (omega arith)))
  length_end_lem RestOf.ignores n t e r h root s small d new more is q x env =
      let l = length ctx.state.locals in
      let told : length (parts_of (read scene env (place_path place))) ≡ length (parts_of w) = ap (λ (y : Value). length (parts_of y)) (stands_read env s) in
      let len = length (parts_of (read scene env (place_path place))) in
      subst (λ (y : Bool). Lands scene bindings M ctx c.0 env [] r y)
      (length_compared_lem scene (measured scene place l env) n len l root.there (update_same env l (value (Int (pos len)))) ∙ ap (leb n) told)
      (lands_compare scene.image p BinOp.Le (Left.Constant (length_constant n)) (local_place (next_local ctx.state)) ctx c els t e r h d new more (small, omega arith) (omega arith) refl is q x env
      (λ k i. update_other env l (value (Int (pos len))) k (omega arith)))

  -- the test of a slice's length
  pub lands_length : (rest : RestOf) (n : ℕ) (r : Out) → Ready ctx.state c els → Rooted scene word ctx.state → Stands scene word place ty w → n < 18446744073709551616 →
      length_test rest scene.image p n ctx c els place ≡ ok r → GoesOn (mir_of r.ctx.state) M → (env : Env) →
      Lands scene bindings M ctx c.0 env [] r (long_tested rest n (length (parts_of w)))
  unfolding length_test execute rvalue_value of_place_value
  lands_length rest n r h root s small is x env =
      let q : Leaves ctx.state c els r = (good_length rest scene.image p n ctx c els place).leaves h r is in
      let st = ctx.state in
      stepped p (temp scene.image st usize_word c) _ is (λ st₁ e₁ is₁.
      stepped p (try_statement st₁ (place_rvalue_row c (next_local st) PlaceRvalue.Len place)) _ is₁ (λ st₂ e₂ is₂.
      stepped p (else_state st₂ els) _ is₂ (λ st₃ e₃ is₃.
      stepped p (try_block st₃) _ is₃ (λ st₄ e₄ is₄.
      let a₁ = adds_temp scene.image st st₁ usize_word c e₁ in
      let a₂ = adds_statement st₁ st₂ c.0 (place_rvalue_row c (next_local st) PlaceRvalue.Len place) (place_block c (next_local st) PlaceRvalue.Len place) e₂ in
      let o₃ = opens_else st₂ st₃ c.0 els e₃ in
      length_end_lem rest n (next_block st₃) (else_block st₂ els) r h root s small
      (does_seq (does_seq (does_temp scene.image st st₁ usize_word c e₁)
      (does_line c.0 st₁ st₂ (place_rvalue_row c (next_local st) PlaceRvalue.Len place) (puts (length st.locals) (of_place PlaceRvalue.Len (place_path place)))
      (place_rvalue_back c (next_local st) PlaceRvalue.Len place s.within s.elements) e₂))
      (does_seq (does_else c.0 st₂ st₃ els e₃) (does_block c.0 st₃ st₄ e₄)))
      (le_trans a₁.opens.blocks (le_trans a₂.opens.blocks o₃.blocks))
      (le_trans (adds_locals a₁) (le_trans (adds_locals a₂) (le_trans (opens_locals o₃) (opens_locals (opens_block st₃ st₄ c.0 e₄)))))
      is₄ q x env))))

  -- the test of an enum: the value's discriminant against the variant's
  pub lands_discriminant : (v : ℕ) (r : Out) → Ready ctx.state c els → Stands scene word place ty w →
      (variant_of scene.image v).discriminant / 18446744073709551616 < 18446744073709551616 → discriminant_test scene.image p v ctx c els place ≡ ok r →
      GoesOn (mir_of r.ctx.state) M → (env : Env) → Lands scene bindings M ctx c.0 env [] r (eqb (discriminant_of scene.image w) (variant_of scene.image v).discriminant)
  unfolding discriminant_test execute rvalue_value of_place_value
  lands_discriminant v r h s small is x env =
      let q : Leaves ctx.state c els r = (good_discriminant scene.image p v ctx c els place).leaves h r is in
      let st = ctx.state in
      let l = next_local st in
      let D = (variant_of scene.image v).discriminant in
      stepped p (discr_temp_place scene.image st c) _ is (λ st₁ e₁ is₁.
      stepped p (try_statement st₁ (place_rvalue_row c l PlaceRvalue.Discr place)) _ is₁ (λ st₂ e₂ is₂.
      stepped p (try_block st₂) _ is₂ (λ st₃ e₃ is₃.
      stepped p (else_state st₃ els) _ is₃ (λ st₄ e₄ is₄.
      let a₁ = adds_temp scene.image st st₁ 258 c e₁ in
      let a₂ = adds_statement st₁ st₂ c.0 (place_rvalue_row c l PlaceRvalue.Discr place) (place_block c l PlaceRvalue.Discr place) e₂ in
      let m = discriminant_of scene.image (read scene env (place_path place)) in
      lands_switch ctx c els l (D % 18446744073709551616) (D / 18446744073709551616) (next_block st₂) (else_block st₃ els) ctx.visits r h
      (does_seq (does_seq (does_temp scene.image st st₁ 258 c e₁)
      (does_line c.0 st₁ st₂ (place_rvalue_row c l PlaceRvalue.Discr place) (puts l.0 (of_place PlaceRvalue.Discr (place_path place)))
      (place_rvalue_back c l PlaceRvalue.Discr place s.within s.elements) e₂))
      (does_seq (does_block c.0 st₂ st₃ e₃) (does_else c.0 st₃ st₄ els e₄)))
      (le_trans a₁.opens.blocks a₂.opens.blocks) (low_half D) small is₄ q x env
      (λ k i. update_other env l.0 (value (Int (pos m))) k (omega arith)) (eqb (discriminant_of scene.image w) D)
      (ap (λ (y : Held). eqb (switch_number (scalar_of (value_of y))) (D % 18446744073709551616 + 18446744073709551616 * (D / 18446744073709551616))) (update_same env l.0 (value (Int (pos m))))
      ∙ number_switched m (D % 18446744073709551616) (D / 18446744073709551616)
      ∙ ap₂ (λ (a b : ℕ). eqb a b) (ap (discriminant_of scene.image) (stands_read env s)) (halves D))))))
