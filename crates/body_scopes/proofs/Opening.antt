-- A scope is opened. Assumes nothing.
use Rattle.std.specs.Prelude.{ok_or, Some, None, Ok, Err}
use Rattle.mir.specs.Results.{Counted}
use Prim.Native.Nat.{ℕ}
use mathlib.Core.Path.{◌≡◌}
use mathlib.Core.Bool.{Bool, true, false, cond}
use native.Mathlib.Omega.{arith}
use lib.Dec.{ltb}
use lib.ListN.{set}
use Rattle.refusals.specs.declared.MirLowerError.{MirLowerError}
use Rattle.mir.specs.declared.Counts.{Counts}
use Rattle.mir.specs.Scopes.{one_scope_more, new_scope, scopes_after}
use Rattle.state.specs.State.{Body}
use Rattle.body_tables.specs.Layout.{with_scopes}
use Rattle.body_tables.proofs.Building.{scope_made}
use Rattle.body_scopes.specs.Promises.{Opens}

-- b₀ is the body at entry, and b the one with a scope more where there is room
module _ (b₀ : Body) (c : Counts) {b : Body} (after : b ≡ with_scopes b₀ (scopes_after c b₀.scopes)) where
  -- there is none, and nothing is written
  full_same : None ≡ new_scope c → b ≡ b₀
  unfolding new_scope scopes_after
  full_same full = go (ltb c.scopes 32) full after
    where
      go : (room : Bool) → None ≡ cond room (Some (one_scope_more c)) None → b ≡ with_scopes b₀ (cond room (set b₀.scopes c.scopes c.entries) b₀.scopes) → b ≡ b₀
      go true f e = absurd (let z : ◌≡◌ {A = ℕ} 0 1 = cc in omega arith)
      go false f e = e

  pub opens_none : None ≡ new_scope c → Opens c b₀ (Err MirLowerError.Limit) b
  opens_none full = record { adds = λ current R. scope_made b₀ c current full after R; untouched = λ h. full_same full }

  -- one is opened
  pub opens_one : {c₁ : Counts} → Some c₁ ≡ new_scope c → Opens c b₀ (Ok c₁) b
  opens_one made = record { adds = λ current R. scope_made b₀ c current made after R; untouched = λ h. absurd (let z : ◌≡◌ {A = ℕ} 0 1 = cc in omega arith) }

  -- either, by what the table gives
  pub opens : (given : Counted) → given ≡ new_scope c → Opens c b₀ (ok_or given MirLowerError.Limit) b
  opens None full = opens_none full
  opens (Some c₁) made = opens_one made
