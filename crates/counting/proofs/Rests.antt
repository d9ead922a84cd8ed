-- A Slice's rest, as the lowering looks at it: how many statements the test of a length makes, and what is bound. Assumes nothing.
use Prim.Native.Nat.{ℕ}
use mathlib.Core.Path.{◌≡◌, refl}
use mathlib.Core.Option.{Option, none, some}
use Rattle.image.specs.Tree.{Pat, PatOpt, no, sub}
use Rattle.pattern_matching.specs.Slices.{RestOf}
use Rattle.pattern_matching.specs.Patterns.{rest_by, rest_of}
use Rattle.counting.specs.Reaching.{length_statements, rest_binding}

unfoldable pub statements_by : RestOf → ℕ
statements_by RestOf.none = 2
statements_by (RestOf.binds q b how) = 4
statements_by RestOf.ignores = 4

unfoldable pub binding_by : RestOf → Option ℕ
binding_by RestOf.none = none
binding_by (RestOf.binds q b how) = some b
binding_by RestOf.ignores = none

-- they are what the counts say of the rest's pattern
pub statements_of_lem : (rest : PatOpt) → statements_by (rest_of rest) ≡ length_statements rest
unfolding statements_by rest_of rest_by length_statements
statements_of_lem no = refl
statements_of_lem (sub (Pat.Missing h)) = refl
statements_of_lem (sub (Pat.Rest h)) = refl
statements_of_lem (sub (Pat.NotNull h)) = refl
statements_of_lem (sub (Pat.Wild h)) = refl
statements_of_lem (sub (Pat.Tuple h args ellipsis)) = refl
statements_of_lem (sub (Pat.Or h alts)) = refl
statements_of_lem (sub (Pat.Record h fields args v)) = refl
statements_of_lem (sub (Pat.Range h start end halfOpen)) = refl
statements_of_lem (sub (Pat.Slice h prefix rest suffix)) = refl
statements_of_lem (sub (Pat.Path h target)) = refl
statements_of_lem (sub (Pat.Lit h operand)) = refl
statements_of_lem (sub (Pat.Bind h b s how annotation)) = refl
statements_of_lem (sub (Pat.TupleStruct h args ellipsis v)) = refl
statements_of_lem (sub (Pat.Ref h s)) = refl
statements_of_lem (sub (Pat.Expr h)) = refl
statements_of_lem (sub (Pat.Box h)) = refl
statements_of_lem (sub (Pat.Deref h)) = refl

pub binding_of_lem : (rest : PatOpt) → binding_by (rest_of rest) ≡ rest_binding rest
unfolding binding_by rest_of rest_by rest_binding
binding_of_lem no = refl
binding_of_lem (sub (Pat.Missing h)) = refl
binding_of_lem (sub (Pat.Rest h)) = refl
binding_of_lem (sub (Pat.NotNull h)) = refl
binding_of_lem (sub (Pat.Wild h)) = refl
binding_of_lem (sub (Pat.Tuple h args ellipsis)) = refl
binding_of_lem (sub (Pat.Or h alts)) = refl
binding_of_lem (sub (Pat.Record h fields args v)) = refl
binding_of_lem (sub (Pat.Range h start end halfOpen)) = refl
binding_of_lem (sub (Pat.Slice h prefix rest suffix)) = refl
binding_of_lem (sub (Pat.Path h target)) = refl
binding_of_lem (sub (Pat.Lit h operand)) = refl
binding_of_lem (sub (Pat.Bind h b s how annotation)) = refl
binding_of_lem (sub (Pat.TupleStruct h args ellipsis v)) = refl
binding_of_lem (sub (Pat.Ref h s)) = refl
binding_of_lem (sub (Pat.Expr h)) = refl
binding_of_lem (sub (Pat.Box h)) = refl
binding_of_lem (sub (Pat.Deref h)) = refl
