-- Slice patterns: a slice's length is tested, an array's never; then the items in front, the rest's binding, and the items at the end.
-- Assumes nothing: these are definitions.
use Rattle.std.specs.Prelude.{Some}
use Rattle.std.specs.Prelude.{ℕ, ◌+◌, ◌-◌, List, map, length}
use Rattle.image.specs.declared.kinds.BindingMode.{BindingMode}
use Rattle.image.specs.Lists.{up_from}
use Rattle.image.specs.Types.{Shape}
use Rattle.cases_spec.specs.Cases.{if_sequence}
use Rattle.refusals.specs.declared.MirLowerError.{MirLowerError}
use Rattle.place.specs.declared.Place.{Place}
use Rattle.place.specs.declared.elems.ProjectionElem.{ProjectionElem}
use Rattle.mir.specs.declared.BasicBlockId.{BasicBlockId}
use Rattle.mir.specs.declared.blocks.Terminator.{Terminator}
use Rattle.mir.specs.declared.rvalues.Constant.{Constant}
use Rattle.mir.specs.declared.rvalues.BinOp.{BinOp}
use Rattle.mir.specs.declared.rvalues.Left.{Left}
use Rattle.mir.specs.declared.rvalues.PlaceRvalue.{PlaceRvalue}
use Rattle.mir.specs.Rvalues.{place_rvalue_row}
use Rattle.state.specs.State.{State}
use Rattle.state.specs.Steps.{next_block, next_local, try_block, try_statement, set_terminator}
use Rattle.lower_spec.specs.Results.{OptBlock}
use Rattle.lower_spec.specs.Temps.{temp}
use Rattle.pattern_matching.specs.Walking.{Ctx, Out, Walk, refused, Lowering, next, step, out, with_state, project, local_place, else_state, else_block, in_check}
use Rattle.pattern_matching.specs.Tests.{usize_word, compare, pattern_match_binding}
use Rattle.pattern_matching.specs.Variants.{pattern_match_adt}

-- what a Slice pattern has between its items: nothing, a rest that binds, or one that does not
pub data RestOf : Type 0 where
  none : RestOf
  binds : ℕ → ℕ → BindingMode → RestOf
  ignores : RestOf

-- how many items a slice must have, as an operand
unfoldable pub length_constant : ℕ → Constant
length_constant n = record { count = 8; ty = usize_word; offset = 0; low = n; high = 0 }

-- the end of the length's test, where the local len holds it: exactly n without a rest, and at least n with one
unfoldable pub length_compared : RestOf → List ℕ → ℕ → ℕ → Ctx → State → State → BasicBlockId → BasicBlockId → BasicBlockId → Walk Out
length_compared none image p n ctx st₀ st current then else =
    out (with_state ctx (set_terminator st current (Terminator.Switch (next_local st₀) n 0 then else))) then (Some else)
length_compared (binds q b how) image p n ctx st₀ st current then else =
    compare image p BinOp.Le (Left.Constant (length_constant n)) (local_place (next_local st₀)) ctx st current then else
length_compared ignores image p n ctx st₀ st current then else =
    compare image p BinOp.Le (Left.Constant (length_constant n)) (local_place (next_local st₀)) ctx st current then else

-- the test of a slice's length: an else is made before the block that goes on
unfoldable pub length_test : RestOf → List ℕ → ℕ → ℕ → Ctx → BasicBlockId → OptBlock → Place → Walk Out
length_test rest image p n ctx current else place =
    step p (temp image ctx.state usize_word current) (λ st₁.
    step p (try_statement st₁ (place_rvalue_row current (next_local ctx.state) PlaceRvalue.Len place)) (λ st₂.
    step p (else_state st₂ else) (λ st₃.
    step p (try_block st₃) (λ st₄.
    length_compared rest image p n ctx ctx.state st₄ current (next_block st₃) (else_block st₂ else)))))

-- a rest that binds is filled with what lies between so many items in front and so many at the end
unfoldable pub rest_bound : RestOf → List ℕ → ℕ → ℕ → ℕ → Lowering
rest_bound none bindings p front end mode ctx current else place = out ctx current else
rest_bound ignores bindings p front end mode ctx current else place = out ctx current else
rest_bound (binds q b how) bindings p front end mode ctx current else place =
    in_check mode (out ctx current else)
    (step p (project place (ProjectionElem.Subslice front end)) (λ place'. pattern_match_binding bindings p q b how ctx current else place'))

-- the items at the end, in the order of the text: item i of s lies s - 1 - i before the last (request S-1)
abbrev pub suffix_items : ℕ → List ProjectionElem
suffix_items s = map (λ i. ProjectionElem.IndexFromEnd (s - 1 - i)) (up_from 0 s)

-- the items in front, the rest, and the items at the end
unfoldable pub slice_items : List ℕ → ℕ → List Lowering → RestOf → List Lowering → Lowering
slice_items bindings p prefix rest suffix mode ctx current else place =
    next (pattern_match_adt p (map (λ i. ProjectionElem.Index i) (up_from 0 (length prefix))) prefix mode ctx current else place) (λ r.
    next (rest_bound rest bindings p (length prefix) (length suffix) mode r.ctx r.then r.else place) (λ s.
    pattern_match_adt p (suffix_items (length suffix)) suffix mode s.ctx s.then s.else place))

-- a Slice pattern by its own type: neither an array nor a slice is refused
unfoldable pub slice_on : Shape → List ℕ → List ℕ → ℕ → List Lowering → RestOf → List Lowering → Lowering
slice_on shape image bindings p prefix rest suffix mode ctx current else place =
    if_sequence shape (λ t n. slice_items bindings p prefix rest suffix mode ctx current else place) (λ t.
    next (in_check mode (length_test rest image p (length prefix + length suffix) ctx current else place) (out ctx current else)) (λ r.
    slice_items bindings p prefix rest suffix mode r.ctx r.then r.else place))
    (refused (MirLowerError.TypeError 2) p)
