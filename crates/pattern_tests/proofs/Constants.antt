-- Literals and constants, by the ways through the code. Assumes nothing.
use Rattle.std.specs.Prelude.{Some, None, Ok, Err}
use mathlib.Core.Path.{◌≡◌, refl, ap, ◌∙◌}
use mathlib.Core.Bool.{Bool, true, false, true≢false, false≢true}
use mathlib.Core.List.{List, [], ◌∷◌}
use Prim.Native.Nat.{ℕ}
use lib.ListN.{length}
use types.Run.{OneOf, miss}
use denote.Enum.Declared as Declared
use Rattle.refusals.specs.declared.MirLowerError.{MirLowerError}
use Rattle.refusals.specs.Refusals.{Result}
use Rattle.refusals.specs.Refusals.{done, stopped}
use Rattle.image.specs.declared.PatId.{PatId}
use Rattle.image.specs.declared.kinds.OperandKind.{OperandKind}
use Rattle.image.specs.contracts.kinds.OperandKind as the-kind
use Rattle.image.specs.Types.{Operand}
use Rattle.place.specs.declared.LocalId.{LocalId}
use Rattle.place.specs.declared.Place.{Place}
use Rattle.mir.specs.declared.BasicBlockId.{BasicBlockId}
use Rattle.mir.specs.declared.Counts.{Counts}
use Rattle.mir.specs.declared.rvalues.Constant.{Constant}
use Rattle.mir.specs.declared.rvalues.BinOp.{BinOp}
use Rattle.mir.specs.declared.rvalues.Left.{Left}
use Rattle.mir.specs.Blocks.{new_block}
use Rattle.mir.specs.Rvalues.{constant_row, binary_row}
use Rattle.mir.specs.Statements.{new_statement, statements_after}
use Rattle.state.specs.State.{Body, State}
use Rattle.state.specs.Steps.{next_local, try_statement}
use Rattle.state.specs.Results.{Stepped}
use Rattle.state.proofs.RowLengths.{constant_length, binary_length}
use Rattle.literals.specs.Literals.{lower_literal_to_operand, lower_const_to_operand}
use Rattle.lower_spec.specs.Results.{OptBlock}
use Rattle.lower_spec.specs.Temps.{temp}
use Rattle.body_tables.specs.Layout.{with_statements}
use Rattle.body_temps.specs.Promises.{Makes}
use Rattle.pattern_matching.specs.declared.MatchingMode.{MatchingMode}
use Rattle.pattern_matching.specs.Modes.{is_check}
use Rattle.pattern_matching.specs.Walking.{Ctx, Out, Walk, refused, step, out, with_state}
use Rattle.pattern_matching.specs.Tests.{pattern_match_const, literal, lit_by, constant_path}
use Rattle.pattern_walk_spec.specs.Results.{Lowered}
use Rattle.pattern_walk_spec.specs.Answers.{Begins, Lowers}
use Rattle.pattern_walk_spec.proofs.Sequences.{lowers_skips, lowers_refuses, lowers_by}
use Rattle.pattern_switching.specs.Switching.{else_made, compare_step, then_switch, Steps}
use Rattle.pattern_tests.specs.Testing.{is_literal, constant_compared}
use Rattle.pattern_switching.proofs.Branching.{lowered_by, then_full, then_else_full, then_else_made, then_else_ends, grown_to}
use Rattle.pattern_tests.proofs.Assigning.{assign_no_local, assign_full, assign_then}
use Rattle.pattern_switching.proofs.Cutting.{in_check_lem, not_in_check}
use Rattle.pattern_tests.proofs.Cutting.{const_cut}
use Rattle.state.specs.Promises.{Ready}

-- `pattern_match_const`; t is the body at entry
module _ (image : List ℕ) (t : Body) (c : Counts) (p : PatId) (constant : Constant) (current : BasicBlockId) (els : OptBlock) (place : Place) where
  abbrev Tests : Lowered → Body → Type 0
  Tests = Lowers (λ ctx. pattern_match_const image p.0 constant ctx current els place) c current els t

  abbrev ends : State → BasicBlockId → BasicBlockId → Result State
  ends st on other = compare_step image BinOp.Eq (Left.Constant constant) place st current on other

  -- there is no room for the block that goes on
  pub const_full : None ≡ new_block c → Tests (Err (MirLowerError.Limit, p)) t
  const_full full = lowers_by (const_cut image p constant place current els) (then_full p ends els t c current full)

  module _ {c₁ : Counts} {on : BasicBlockId} (is : Some (c₁, on) ≡ new_block c) where
    -- nor for an else
    pub const_else_full : None ≡ else_made c₁ els → Tests (Err (MirLowerError.Limit, p)) t
    const_else_full full = lowers_by (const_cut image p constant place current els) (then_else_full p ends els t c current is full)

    -- both are made, and the place is compared
    pub const_ends : {c₂ : Counts} {other : BasicBlockId} {t' : Body} (r : Stepped) → Some (c₂, other) ≡ else_made c₁ els → Ready t c → Begins c current els → Steps (λ st. ends st on other) c₂ current t r t' →
        Tests (lowered_by p on other r) t'
    const_ends {other = other} r made P h E =
        lowers_by (const_cut image p constant place current els)
        (then_else_ends p ends els t c current is made r h (grown_to (λ st. ends st on other) r (then_else_made is made P h).0 E) E)

-- `is_literal`: the kinds that it names, and the others
pub kind_named : (kind : OperandKind) → OneOf (7 ∷ 9 ∷ 10 ∷ []) (Declared.tag_of the-kind.the_type kind) → false ≡ is_literal kind
unfolding is_literal
kind_named OperandKind.Int h = absurd (miss (7 ∷ 9 ∷ 10 ∷ []) 0 tt h)
kind_named OperandKind.Uint h = absurd (miss (7 ∷ 9 ∷ 10 ∷ []) 1 tt h)
kind_named OperandKind.Char h = absurd (miss (7 ∷ 9 ∷ 10 ∷ []) 2 tt h)
kind_named OperandKind.Bool h = absurd (miss (7 ∷ 9 ∷ 10 ∷ []) 3 tt h)
kind_named OperandKind.Str h = absurd (miss (7 ∷ 9 ∷ 10 ∷ []) 4 tt h)
kind_named OperandKind.CStr h = absurd (miss (7 ∷ 9 ∷ 10 ∷ []) 5 tt h)
kind_named OperandKind.ByteStr h = absurd (miss (7 ∷ 9 ∷ 10 ∷ []) 6 tt h)
kind_named OperandKind.Constant h = refl
kind_named OperandKind.Float h = absurd (miss (7 ∷ 9 ∷ 10 ∷ []) 8 tt h)
kind_named OperandKind.Other h = refl
kind_named OperandKind.Unknown h = refl

pub kind_other : (kind : OperandKind) → OneOf (0 ∷ 1 ∷ 2 ∷ 3 ∷ 4 ∷ 5 ∷ 6 ∷ 8 ∷ []) (Declared.tag_of the-kind.the_type kind) → true ≡ is_literal kind
unfolding is_literal
kind_other OperandKind.Int h = refl
kind_other OperandKind.Uint h = refl
kind_other OperandKind.Char h = refl
kind_other OperandKind.Bool h = refl
kind_other OperandKind.Str h = refl
kind_other OperandKind.CStr h = refl
kind_other OperandKind.ByteStr h = refl
kind_other OperandKind.Constant h = absurd (miss (0 ∷ 1 ∷ 2 ∷ 3 ∷ 4 ∷ 5 ∷ 6 ∷ 8 ∷ []) 7 tt h)
kind_other OperandKind.Float h = refl
kind_other OperandKind.Other h = absurd (miss (0 ∷ 1 ∷ 2 ∷ 3 ∷ 4 ∷ 5 ∷ 6 ∷ 8 ∷ []) 9 tt h)
kind_other OperandKind.Unknown h = absurd (miss (0 ∷ 1 ∷ 2 ∷ 3 ∷ 4 ∷ 5 ∷ 6 ∷ 8 ∷ []) 10 tt h)

-- what is no literal is refused in every mode
not_literal : (kind : OperandKind) (image : List ℕ) (p ty : ℕ) (operand : Operand) (mode : MatchingMode) (ctx : Ctx) (current : BasicBlockId) (els : OptBlock) (place : Place) → is_literal kind ≡ false →
    refused MirLowerError.NotSupported p ≡ lit_by kind image p ty operand mode ctx current els place
unfolding is_literal lit_by
not_literal OperandKind.Int image p ty operand mode ctx current els place e = absurd (true≢false e)
not_literal OperandKind.Uint image p ty operand mode ctx current els place e = absurd (true≢false e)
not_literal OperandKind.Char image p ty operand mode ctx current els place e = absurd (true≢false e)
not_literal OperandKind.Bool image p ty operand mode ctx current els place e = absurd (true≢false e)
not_literal OperandKind.Str image p ty operand mode ctx current els place e = absurd (true≢false e)
not_literal OperandKind.CStr image p ty operand mode ctx current els place e = absurd (true≢false e)
not_literal OperandKind.ByteStr image p ty operand mode ctx current els place e = absurd (true≢false e)
not_literal OperandKind.Constant image p ty operand mode ctx current els place e = refl
not_literal OperandKind.Float image p ty operand mode ctx current els place e = absurd (true≢false e)
not_literal OperandKind.Other image p ty operand mode ctx current els place e = refl
not_literal OperandKind.Unknown image p ty operand mode ctx current els place e = refl

-- what is one is a literal pattern
is_literal_lem : (kind : OperandKind) (image : List ℕ) (p ty : ℕ) (operand : Operand) (mode : MatchingMode) (ctx : Ctx) (current : BasicBlockId) (els : OptBlock) (place : Place) → is_literal kind ≡ true →
    literal image p ty operand mode ctx current els place ≡ lit_by kind image p ty operand mode ctx current els place
unfolding is_literal lit_by
is_literal_lem OperandKind.Int image p ty operand mode ctx current els place e = refl
is_literal_lem OperandKind.Uint image p ty operand mode ctx current els place e = refl
is_literal_lem OperandKind.Char image p ty operand mode ctx current els place e = refl
is_literal_lem OperandKind.Bool image p ty operand mode ctx current els place e = refl
is_literal_lem OperandKind.Str image p ty operand mode ctx current els place e = refl
is_literal_lem OperandKind.CStr image p ty operand mode ctx current els place e = refl
is_literal_lem OperandKind.ByteStr image p ty operand mode ctx current els place e = refl
is_literal_lem OperandKind.Constant image p ty operand mode ctx current els place e = absurd (false≢true e)
is_literal_lem OperandKind.Float image p ty operand mode ctx current els place e = refl
is_literal_lem OperandKind.Other image p ty operand mode ctx current els place e = absurd (false≢true e)
is_literal_lem OperandKind.Unknown image p ty operand mode ctx current els place e = absurd (false≢true e)

-- `pattern_match_lit`, by the kind that is read
module _ (image : List ℕ) (t : Body) (c : Counts) (mode : MatchingMode) (p : PatId) (ty : ℕ) (operand : Operand) (current : BasicBlockId) (els : OptBlock) (place : Place)
    {kind : OperandKind} (read : operand.kind ≡ kind) where
  abbrev Literal : Lowered → Body → Type 0
  Literal = Lowers (λ ctx. lit_by operand.kind image p.0 ty operand mode ctx current els place) c current els t

  -- it is no literal
  pub lit_not : is_literal kind ≡ false → Literal (Err (MirLowerError.NotSupported, p)) t
  lit_not e = lowers_refuses (λ ctx. not_literal operand.kind image p.0 ty operand mode ctx current els place (ap is_literal read ∙ e))

  module _ (e : is_literal kind ≡ true) where
    -- nothing is tested beyond Check
    pub lit_skips : is_check mode ≡ false → Begins c current els → Literal (Ok (c, current, els)) t
    unfolding literal
    lit_skips beyond h =
        lowers_skips (λ ctx. not_in_check mode (step p.0 (lower_literal_to_operand image ty operand) (λ constant. pattern_match_const image p.0 constant ctx current els place)) (out ctx current els) beyond
        ∙ is_literal_lem operand.kind image p.0 ty operand mode ctx current els place (ap is_literal read ∙ e)) h

    module _ (check : is_check mode ≡ true) where
      -- the test by the operand's constant
      tests : {lowered : Result Constant} → lowered ≡ lower_literal_to_operand image ty operand → (ctx : Ctx) →
          step p.0 lowered (λ constant. pattern_match_const image p.0 constant ctx current els place) ≡ lit_by operand.kind image p.0 ty operand mode ctx current els place
      unfolding literal
      tests is ctx =
          ap (λ (r : Result Constant). step p.0 r (λ constant. pattern_match_const image p.0 constant ctx current els place)) is
          ∙ in_check_lem mode (step p.0 (lower_literal_to_operand image ty operand) (λ constant. pattern_match_const image p.0 constant ctx current els place)) (out ctx current els) check
          ∙ is_literal_lem operand.kind image p.0 ty operand mode ctx current els place (ap is_literal read ∙ e)

      -- the operand is refused
      pub lit_refused : {err : MirLowerError} → stopped err ≡ lower_literal_to_operand image ty operand → Literal (Err (err, p)) t
      lit_refused is = lowers_refuses (tests is)

      -- the operand's constant is compared
      pub lit_tests : {constant : Constant} {r : Lowered} {t' : Body} → done constant ≡ lower_literal_to_operand image ty operand →
          Lowers (λ ctx. pattern_match_const image p.0 constant ctx current els place) c current els t r t' → Literal r t'
      lit_tests is L = lowers_by (tests is) L

-- `constant_compared`; b₀ is the body at entry
module _ (image : List ℕ) (b₀ : Body) (c : Counts) (p : PatId) (held : LocalId) (current : BasicBlockId) (els : OptBlock) (place : Place) where
  abbrev Compared : Lowered → Body → Type 0
  Compared = Lowers (λ ctx. constant_compared image p.0 held ctx current els place) c current els b₀

  abbrev row : LocalId → List ℕ
  row n = binary_row current n BinOp.Eq (Left.Local held) place

  abbrev switches : LocalId → Ctx → Walk Out
  switches n ctx = then_switch p.0 n 1 0 ctx current els

  -- there is no local
  pub compared_no_temp : {err : MirLowerError} {b : Body} → Makes (λ st. temp image st 256 current) c b₀ (Err err) b → Compared (Err (err, p)) b
  unfolding constant_compared
  compared_no_temp M = assign_no_local b₀ p els row switches M

  module _ {c₁ : Counts} {n : LocalId} {b₁ b₂ : Body} (long : length place.elems ≡ 16) (M : Makes (λ st. temp image st 256 current) c b₀ (Ok (c₁, n)) b₁)
      (after : b₂ ≡ with_statements b₁ (statements_after c₁ b₁.statements (row n))) where
    -- there is no room for the statement
    pub compared_full : None ≡ new_statement c₁ → Compared (Err (MirLowerError.Limit, p)) b₂
    unfolding constant_compared
    compared_full full = assign_full b₀ p els row switches M (binary_length current n BinOp.Eq (Left.Local held) place long) after full

    -- the block goes on by the local
    pub compared_switches : {c₂ : Counts} {r : Lowered} {b : Body} → Some c₂ ≡ new_statement c₁ → Ready b₀ c → Begins c current els → Lowers (switches n) c₂ current els b₂ r b →
        Compared r b
    unfolding constant_compared
    compared_switches is P h S = assign_then b₀ p els row switches M (binary_length current n BinOp.Eq (Left.Local held) place long) after is P h S

-- `constant_path`
module _ (image : List ℕ) (b₀ : Body) (c : Counts) (mode : MatchingMode) (p : PatId) (ty : ℕ) (operand : Operand) (current : BasicBlockId) (els : OptBlock) (place : Place) where
  abbrev Path : Lowered → Body → Type 0
  Path = Lowers (λ ctx. constant_path image p.0 ty operand mode ctx current els place) c current els b₀

  abbrev tested : LocalId → Ctx → Walk Out
  tested n ctx = constant_compared image p.0 n ctx current els place

  -- nothing is tested beyond Check
  pub path_skips : is_check mode ≡ false → Begins c current els → Path (Ok (c, current, els)) b₀
  unfolding constant_path
  path_skips beyond h = lowers_skips (λ ctx. not_in_check mode _ (out ctx current els) beyond) h

  module _ (check : is_check mode ≡ true) {constant : Constant} (read : constant ≡ lower_const_to_operand ty operand) where
    abbrev copied : LocalId → List ℕ
    copied n = constant_row current n constant

    -- a constant is copied to a local, and then compared
    path_cut : (ctx : Ctx) →
        step p.0 (temp image ctx.state ty current) (λ st₁. step p.0 (try_statement st₁ (copied (next_local ctx.state))) (λ st₂. tested (next_local ctx.state) (with_state ctx st₂)))
        ≡ constant_path image p.0 ty operand mode ctx current els place
    unfolding constant_path constant_compared then_switch
    path_cut ctx = rw read (in_check_lem mode _ (out ctx current els) check)

    -- there is no local
    pub path_no_temp : {err : MirLowerError} {b : Body} → Makes (λ st. temp image st ty current) c b₀ (Err err) b → Path (Err (err, p)) b
    path_no_temp M = lowers_by path_cut (assign_no_local b₀ p els copied tested M)

    module _ {c₁ : Counts} {n : LocalId} {b₁ b₂ : Body} (M : Makes (λ st. temp image st ty current) c b₀ (Ok (c₁, n)) b₁) (after : b₂ ≡ with_statements b₁ (statements_after c₁ b₁.statements (copied n))) where
      -- there is no room for the statement
      pub path_full : None ≡ new_statement c₁ → Path (Err (MirLowerError.Limit, p)) b₂
      path_full full = lowers_by path_cut (assign_full b₀ p els copied tested M (constant_length current n constant) after full)

      -- the local is compared
      pub path_tests_lem : {c₂ : Counts} {r : Lowered} {b : Body} → Some c₂ ≡ new_statement c₁ → Ready b₀ c → Begins c current els → Lowers (tested n) c₂ current els b₂ r b → Path r b
      path_tests_lem is P h L = lowers_by path_cut (assign_then b₀ p els copied tested M (constant_length current n constant) after is P h L)
