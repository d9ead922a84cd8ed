-- The length of a slice, by the ways through the code. Assumes nothing.
use Rattle.std.specs.Prelude.{Some, None, Ok, Err}
use mathlib.Core.Path.{◌≡◌, refl}
use mathlib.Core.Bool.{Bool, true, false}
use mathlib.Core.List.{List}
use Prim.Native.Nat.{ℕ, ◌*◌, ◌<◌}
use lib.ListN.{length}
use Rattle.refusals.specs.declared.MirLowerError.{MirLowerError}
use Rattle.refusals.specs.Refusals.{Result}
use Rattle.image.specs.declared.PatId.{PatId}
use Rattle.row_tables.specs.Rows.{stored}
use Rattle.place.specs.declared.LocalId.{LocalId}
use Rattle.place.specs.declared.Place.{Place}
use Rattle.mir.specs.declared.BasicBlockId.{BasicBlockId}
use Rattle.mir.specs.declared.Counts.{Counts}
use Rattle.mir.specs.declared.blocks.Terminator.{Terminator}
use Rattle.mir.specs.declared.rvalues.Constant.{Constant}
use Rattle.mir.specs.declared.rvalues.BinOp.{BinOp}
use Rattle.mir.specs.declared.rvalues.Left.{Left}
use Rattle.mir.specs.declared.rvalues.PlaceRvalue.{PlaceRvalue}
use Rattle.mir.specs.Blocks.{term_row, new_block, block_width}
use Rattle.mir.specs.Rvalues.{place_rvalue_row}
use Rattle.mir.specs.Statements.{new_statement, statements_after}
use Rattle.state.specs.State.{Body, State}
use Rattle.state.specs.Results.{Stepped}
use Rattle.state.proofs.RowLengths.{place_rvalue_length}
use Rattle.lower_spec.specs.Results.{OptBlock}
use Rattle.lower_spec.specs.Temps.{temp}
use Rattle.body_tables.specs.Layout.{with_blocks, with_statements}
use Rattle.body_tables.proofs.Building.{terminator_set}
use Rattle.body_temps.specs.Promises.{Makes}
use Rattle.pattern_matching.specs.Walking.{Ctx, Out, Walk, local_place}
use Rattle.pattern_matching.specs.Slices.{length_constant}
use Rattle.pattern_walk_spec.specs.Results.{Lowered}
use Rattle.pattern_walk_spec.specs.Answers.{Begins, Lowers}
use Rattle.pattern_walk_spec.proofs.Following.{answers_by}
use Rattle.pattern_switching.specs.Switching.{else_made, compare_step, Steps}
use Rattle.pattern_tests.specs.Testing.{length_end, length_switch, length_test_by}
use Rattle.pattern_switching.proofs.Branching.{lowered_by, else_full, else_then_full, else_then_made, else_then_ends, grown_to}
use Rattle.pattern_tests.proofs.Assigning.{assign_no_local, assign_full, assign_then}
use Rattle.state.specs.Promises.{Ready}

-- `length_end`, with a rest or without
module _ (image : List ℕ) (c : Counts) (l : LocalId) (n : ℕ) (current on other : BasicBlockId) {rest : Bool} where
  -- the length is n
  pub end_exact : (b₀ : Body) {b : Body} → rest ≡ false → b ≡ with_blocks b₀ (stored b₀.blocks (block_width * current.0) (term_row (Terminator.Switch l n 0 on other))) → current.0 < c.blocks →
      Steps (λ st. length_end image l n rest st current on other) c current b₀ (Ok c) b
  unfolding length_end
  end_exact b₀ is set h = rw is (λ R. terminator_set b₀ c current (Terminator.Switch l n 0 on other) set h R)

  least : {constant : Constant} {place : Place} → rest ≡ true → constant ≡ length_constant n → place ≡ local_place l → (st : State) →
      compare_step image BinOp.Le (Left.Constant constant) place st current on other ≡ length_end image l n rest st current on other
  unfolding length_end
  least is k at st = rw (is, k, at) refl

  -- the length is at least n
  pub end_least : {constant : Constant} {place : Place} (t t' : Body) (r : Stepped) → rest ≡ true → constant ≡ length_constant n → place ≡ local_place l →
      Steps (λ st. compare_step image BinOp.Le (Left.Constant constant) place st current on other) c current t r t' →
      Steps (λ st. length_end image l n rest st current on other) c current t r t'
  end_least t t' r is k at E R = answers_by (least is k at _) (E R)

-- `length_switch`; t is the body at entry
module _ (image : List ℕ) (t : Body) (c : Counts) (p : PatId) (l : LocalId) (n : ℕ) (rest : Bool) (current : BasicBlockId) (els : OptBlock) where
  abbrev Switched : Lowered → Body → Type 0
  Switched = Lowers (λ ctx. length_switch image p.0 l n rest ctx current els) c current els t

  abbrev ends : State → BasicBlockId → BasicBlockId → Result State
  ends st on other = length_end image l n rest st current on other

  -- there is no room for an else
  pub length_full : None ≡ else_made c els → Switched (Err (MirLowerError.Limit, p)) t
  unfolding length_switch
  length_full full = else_full p ends els t c current full

  module _ {c₁ : Counts} {other : BasicBlockId} (made : Some (c₁, other) ≡ else_made c els) where
    -- nor for the block that goes on
    pub length_then_full : None ≡ new_block c₁ → Switched (Err (MirLowerError.Limit, p)) t
    unfolding length_switch
    length_then_full full = else_then_full p ends els t c current made full

    -- both are made, and the block goes on by the length
    pub length_ends : {c₂ : Counts} {on : BasicBlockId} {t' : Body} (r : Stepped) → Some (c₂, on) ≡ new_block c₁ → Ready t c → Begins c current els → Steps (λ st. ends st on other) c₂ current t r t' →
        Switched (lowered_by p on other r) t'
    unfolding length_switch
    length_ends {on = on} r is P h E = else_then_ends p ends els t c current made is r h (grown_to (λ st. ends st on other) r (else_then_made made is P h).0 E) E

-- `length_test`; b₀ is the body at entry
module _ (image : List ℕ) (b₀ : Body) (c : Counts) (p : PatId) (n : ℕ) (rest : Bool) (current : BasicBlockId) (els : OptBlock) (place : Place) where
  abbrev Measured : Lowered → Body → Type 0
  Measured = Lowers (λ ctx. length_test_by rest image p.0 n ctx current els place) c current els b₀

  abbrev row : LocalId → List ℕ
  row m = place_rvalue_row current m PlaceRvalue.Len place

  abbrev switches : LocalId → Ctx → Walk Out
  switches m ctx = length_switch image p.0 m n rest ctx current els

  -- there is no local
  pub measure_no_temp : {err : MirLowerError} {b : Body} → Makes (λ st. temp image st 257 current) c b₀ (Err err) b → Measured (Err (err, p)) b
  unfolding length_test_by
  measure_no_temp M = assign_no_local b₀ p els row switches M

  module _ {c₁ : Counts} {m : LocalId} {b₁ b₂ : Body} (long : length place.elems ≡ 16) (M : Makes (λ st. temp image st 257 current) c b₀ (Ok (c₁, m)) b₁)
      (after : b₂ ≡ with_statements b₁ (statements_after c₁ b₁.statements (row m))) where
    -- there is no room for the statement
    pub measure_full : None ≡ new_statement c₁ → Measured (Err (MirLowerError.Limit, p)) b₂
    unfolding length_test_by
    measure_full full = assign_full b₀ p els row switches M (place_rvalue_length current m PlaceRvalue.Len place long) after full

    -- the block goes on by the local
    pub measure_switches : {c₂ : Counts} {r : Lowered} {b : Body} → Some c₂ ≡ new_statement c₁ → Ready b₀ c → Begins c current els → Lowers (switches m) c₂ current els b₂ r b →
        Measured r b
    unfolding length_test_by
    measure_switches is P h L = assign_then b₀ p els row switches M (place_rvalue_length current m PlaceRvalue.Len place long) after is P h L
