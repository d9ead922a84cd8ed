-- What the entries and scopes of a body name: by number 2's rules, and still where zeros stand above the counts. Assumes nothing.
use mathlib.Core.Path.{ap}
use mathlib.Core.List.{List}
use Prim.Native.Nat.{ℕ}
use native.Mathlib.Omega.{arith}
use Rattle.image.specs.declared.Tables.{Tables}
use Rattle.mir.specs.declared.Counts.{Counts}
use Rattle.state.specs.State.{Body, State, decode}
use Rattle.body_row_rules.proofs.Checked.{entry_local, scope_start_lem}
use Rattle.drop_scopes_spec.specs.Promises.{EntriesNamed, ScopesNamed}
use Rattle.body_calls_spec.specs.Sizes.{Taken}
use Rattle.body_calls_spec.proofs.Clearing.{Cleared}
use Rattle.body_calls_spec.proofs.Restoring.{same_word_lem}

-- in a body that is taken each entry is a local that there is, and no scope begins past the last entry
pub taken_entries : {image : List ℕ} {tables : Tables} (b : Body) (c : Counts) → Taken image tables b c → EntriesNamed b.entries c
taken_entries b c T i h = entry_local _ _ b.blocks b.statements b.locals b.scopes b.entries c T.body i h

pub taken_scopes : {image : List ℕ} {tables : Tables} (b : Body) (c : Counts) → Taken image tables b c → ScopesNamed b.scopes c
taken_scopes b c T i h = scope_start_lem _ _ b.blocks b.statements b.locals b.scopes b.entries c T.body i h

-- so it is where zeros stand above the counts
pub still_entries : {b b₁ : Body} {c : Counts} → EntriesNamed b.entries c → Cleared b c b₁ → EntriesNamed b₁.entries c
unfolding decode
still_entries {b = b} {b₁ = b₁} {c = c} N C i h = omega (arith, same_word_lem c.entries b.entries b₁.entries i (ap (λ (st : State). st.entries) C.same) h, N i h)

pub still_scopes : {b b₁ : Body} {c : Counts} → ScopesNamed b.scopes c → Cleared b c b₁ → ScopesNamed b₁.scopes c
unfolding decode
still_scopes {b = b} {b₁ = b₁} {c = c} N C i h = omega (arith, same_word_lem c.scopes b.scopes b₁.scopes i (ap (λ (st : State). st.scopes) C.same) h, N i h)
