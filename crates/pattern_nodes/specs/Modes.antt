-- What a pattern with subpatterns does itself, besides walking them. Assumes nothing: these are definitions.
use Rattle.std.specs.Prelude.{Some}
use Rattle.std.specs.Prelude.{ℕ, List}
use Rattle.image.specs.declared.kinds.BindingMode.{BindingMode}
use Rattle.image.specs.Types.{Shape, integer, bool, char, str, tuple, adt, reference, array, slice, unknown}
use Rattle.refusals.specs.declared.MirLowerError.{MirLowerError}
use Rattle.mir.specs.declared.BasicBlockId.{BasicBlockId}
use Rattle.lower_spec.specs.Results.{OptBlock}
use Rattle.pattern_matching.specs.declared.MatchingMode.{MatchingMode}
use Rattle.pattern_matching.specs.Walking.{Ctx, Out, Walk, refused, Lowering, out, in_check}
use Rattle.pattern_matching.specs.Tests.{pattern_match_binding}
use Rattle.pattern_matching.specs.Variants.{discriminant_test}
use Rattle.pattern_matching.specs.Slices.{RestOf, length_test}
use Rattle.pattern_matching.specs.Patterns.{alternatives_end}

-- the test of an enum, in Check
unfoldable pub enum_test : List ℕ → ℕ → ℕ → Lowering
enum_test image p v mode ctx current els place = in_check mode (discriminant_test image p v ctx current els place) (out ctx current els)

-- a slice's length is tested in Check, an array's never
unfoldable pub slice_test : Shape → List ℕ → ℕ → ℕ → RestOf → Lowering
slice_test (integer size signed) image p n rest mode ctx current els place = refused (MirLowerError.TypeError 2) p
slice_test bool image p n rest mode ctx current els place = refused (MirLowerError.TypeError 2) p
slice_test char image p n rest mode ctx current els place = refused (MirLowerError.TypeError 2) p
slice_test str image p n rest mode ctx current els place = refused (MirLowerError.TypeError 2) p
slice_test (tuple fields) image p n rest mode ctx current els place = refused (MirLowerError.TypeError 2) p
slice_test (adt kind variants) image p n rest mode ctx current els place = refused (MirLowerError.TypeError 2) p
slice_test (reference t) image p n rest mode ctx current els place = refused (MirLowerError.TypeError 2) p
slice_test (array t count) image p n rest mode ctx current els place = out ctx current els
slice_test (slice t) image p n rest mode ctx current els place = in_check mode (length_test rest image p n ctx current els place) (out ctx current els)
slice_test unknown image p n rest mode ctx current els place = refused (MirLowerError.TypeError 2) p

-- a binding, beyond Check
unfoldable pub bound : List ℕ → ℕ → ℕ → BindingMode → Lowering
bound bindings p b how mode ctx current els place = in_check mode (out ctx current els) (pattern_match_binding bindings p p b how ctx current els place)

-- the end of alternatives that all can fail
abbrev pub alternatives_left : ℕ → MatchingMode → Ctx → BasicBlockId → BasicBlockId → OptBlock → Walk Out
alternatives_left p mode ctx left join els = alternatives_end p mode (record { ctx = ctx; left = Some left }) join els
