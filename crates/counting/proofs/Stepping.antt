-- A part of a walk: what it adds, and the else that it leaves. Assumes nothing.
use Rattle.std.specs.Prelude.{Some, None}
use mathlib.Core.Path.{◌≡◌, refl, sym, ap, subst}
use mathlib.Core.Bool.{Bool, true, false, ◌||◌, true≢false}
use Prim.Native.Nat.{ℕ, ◌+◌, ◌≤◌}
use native.Mathlib.Nat.{le_trans, lt_of_lt_of_le}
use native.Mathlib.Omega.{arith}
use lib.ListN.{length}
use Rattle.mir.specs.declared.BasicBlockId.{BasicBlockId}
use Rattle.lower_spec.specs.Results.{OptBlock}
use Rattle.pattern_matching.specs.Walking.{Ctx, Out}
use Rattle.counting.specs.Counting.{one, else_made}
use Rattle.counting.specs.Demand3.{ElseIs}
use Rattle.counting.proofs.Going.{What, block, statement, visit, Went, went_on, went_as}

-- there is a block
abbrev pub given : OptBlock → Bool
given None = false
given (Some b) = true

-- the else, where there is none
abbrev pub extra : What → Bool → OptBlock → ℕ
extra block fails els = else_made fails els
extra statement fails els = 0
extra (visit n) fails els = 0

-- from c, with the else els or none, to r: with a test that can fail or not
pub record Steps (c : Ctx) (els : OptBlock) (r : Out) (fails : Bool) (minus plus : What → ℕ) : Type 0 where
  pub went : Went c r.ctx minus (λ w. plus w + extra w fails els)
  pub else : ElseIs fails els r.else (length c.state.blocks) (length r.ctx.state.blocks)

-- the second of two parts makes no second else
else_once : (f f' : Bool) (els els₁ : OptBlock) (from to : ℕ) → ElseIs f els els₁ from to → else_made f els + else_made f' els₁ ≡ else_made (f || f') els
else_once f f' (Some e) els₁ from to h = let k : else_made f' els₁ ≡ 0 = ap (else_made f') h in omega (arith, k)
else_once true f' None None from to h = absurd h
else_once true f' None (Some b) from to h = refl
else_once false f' None els₁ from to h = let k : else_made f' els₁ ≡ one f' = ap (else_made f') h in omega (arith, k)

-- nor anything else twice
extra_once : (w : What) (f f' : Bool) (els els₁ : OptBlock) (from to : ℕ) → ElseIs f els els₁ from to → extra w f els + extra w f' els₁ ≡ extra w (f || f') els
extra_once block f f' els els₁ from to h = else_once f f' els els₁ from to h
extra_once statement f f' els els₁ from to h = refl
extra_once (visit n) f f' els els₁ from to h = refl

-- the else of both parts
else_on : (f f' : Bool) (els els₁ els₂ : OptBlock) (from to to' : ℕ) → from ≤ to → to ≤ to' → ElseIs f els els₁ from to → ElseIs f' els₁ els₂ to to' → ElseIs (f || f') els els₂ from to'
else_on f f' (Some e) els₁ els₂ from to to' a b h k = subst (λ (x : OptBlock). ElseIs f' x els₂ to to') h k
else_on true f' None None els₂ from to to' a b h k = absurd h
else_on true f' None (Some x) els₂ from to to' a b h k =
    subst (λ (z : OptBlock). ElseIs true None z from to') (sym k) (h.0, lt_of_lt_of_le h.1 b)
else_on false true None None None from to to' a b h k = absurd k
else_on false true None None (Some x) from to to' a b h k = (le_trans a k.0, k.1)
else_on false true None (Some y) els₂ from to to' a b h k = absurd (some_none h)
  where
    some_none : Some y ≡ None → ⊥
    some_none e = true≢false (ap given e)
else_on false false None els₁ els₂ from to to' a b h k = subst (λ (x : OptBlock). ElseIs false x els₂ to to') h k

-- one part, and then another
pub steps_on : {c : Ctx} {els : OptBlock} {r r' : Out} {f f' : Bool} {m p m' p' : What → ℕ} →
    Steps c els r f m p → Steps r.ctx r.else r' f' m' p' → Steps c els r' (f || f') (λ w. m w + m' w) (λ w. p w + p' w)
steps_on {c = c} {els = els} {r = r} {r' = r'} {f = f} {f' = f'} {p = p} {p' = p'} g h =
    record {
      went = went_as
          (λ w. let x = extra_once w f f' els r.else _ _ g.else in omega (arith, x))
          (went_on g.went h.went);
      else = else_on f f' els r.else r'.else _ _ _ g.went.grown h.went.grown g.else h.else;
    }

-- the same part, counted otherwise
pub steps_as : {c : Ctx} {els : OptBlock} {r : Out} {f : Bool} {m p m' p' : What → ℕ} → ((w : What) → m w + p' w ≡ m' w + p w) → Steps c els r f m p → Steps c els r f m' p'
steps_as h g = record { went = went_as (λ w. let x = h w in omega (arith, x)) g.went; else = g.else }

-- no else is made where nothing fails
pub same_else : (els : OptBlock) (from to : ℕ) → ElseIs false els els from to
same_else None from to = refl
same_else (Some e) from to = refl

-- nothing more is made where nothing is tested
pub none_extra : (w : What) (els : OptBlock) → extra w false els ≡ 0
none_extra block None = refl
none_extra block (Some e) = refl
none_extra statement els = refl
none_extra (visit n) els = refl

-- a part that does not test
pub steps_plain : {c c' : Ctx} {m p : What → ℕ} (current : BasicBlockId) (els : OptBlock) → Went c c' m p →
    Steps c els (record { ctx = c'; then = current; else = els }) false m p
steps_plain {c = c} current els g =
    record {
      went = went_as (λ w. let x = none_extra w els in omega (arith, x)) g;
      else = same_else els _ _;
    }
