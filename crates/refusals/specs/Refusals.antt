-- Document 01's section "Refusals": its numbers for each case. Assumes nothing: these are definitions.
use Rattle.std.specs.Prelude.{ℕ}
use Rattle.refusals.specs.declared.MirLowerError.{MirLowerError}

-- "Returned: number, pattern (65535 if none), reason"
pub record Refusal : Type 0 where
  pub number : ℕ
  pub pattern : ℕ
  pub reason : ℕ

-- "65535 if none"
abbrev pub no_pattern : ℕ
no_pattern = 65535

-- "1, 65535, 0: image or parameter list breaks a rule above"
abbrev pub breaks_a_rule : Refusal
breaks_a_rule = record { number = 1; pattern = no_pattern; reason = 0 }

-- "2, 65535, 0: a handed-in body or scope table over a limit, or naming a missing block, local or type; .. any other number in the call that names nothing"
abbrev pub names_nothing : Refusal
names_nothing = record { number = 2; pattern = no_pattern; reason = 0 }

-- the number of the table
unfoldable pub number_of : MirLowerError → ℕ
number_of MirLowerError.IncompletePattern = 3
number_of (MirLowerError.TypeError reason) = 4
number_of MirLowerError.UnresolvedField = 5
number_of MirLowerError.NotSupported = 6
number_of MirLowerError.Ellipsis = 7
number_of MirLowerError.UnsizedTemporary = 8
number_of MirLowerError.InaccessibleLocal = 9
number_of MirLowerError.Expr = 10
number_of MirLowerError.Limit = 11
number_of MirLowerError.PlaceType = 12
number_of MirLowerError.UnresolvedName = 13
number_of MirLowerError.NoScope = 14

-- the reason: only number 4 has one
unfoldable pub reason_of : MirLowerError → ℕ
reason_of MirLowerError.IncompletePattern = 0
reason_of (MirLowerError.TypeError reason) = reason
reason_of MirLowerError.UnresolvedField = 0
reason_of MirLowerError.NotSupported = 0
reason_of MirLowerError.Ellipsis = 0
reason_of MirLowerError.UnsizedTemporary = 0
reason_of MirLowerError.InaccessibleLocal = 0
reason_of MirLowerError.Expr = 0
reason_of MirLowerError.Limit = 0
reason_of MirLowerError.PlaceType = 0
reason_of MirLowerError.UnresolvedName = 0
reason_of MirLowerError.NoScope = 0

-- the three numbers of an error met at a pattern p
unfoldable pub refusal_at : MirLowerError → ℕ → Refusal
refusal_at e p = record { number = number_of e; pattern = p; reason = reason_of e }

-- what a step of the lowering gives, or the error that stops it
pub data Result (A : Type 0) : Type 0 where
  done : A → Result A
  stopped : MirLowerError → Result A

-- a step, and then what follows it
abbrev pub and_then : {A B : Type 0} → Result A → (A → Result B) → Result B
and_then (done a) next = next a
and_then (stopped e) next = stopped e
