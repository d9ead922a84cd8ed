-- Answers of a walk follow one another. Assumes nothing.
use Rattle.mir.specs.Results.{NewBlock}
use Rattle.std.specs.Prelude.{Some, None, Ok, Err}
use mathlib.Core.Path.{◌≡◌, refl, ap, ◌∙◌}
use mathlib.Core.Logic.{inl, inr}
use mathlib.Core.Bool.{Bool, true, false, cond}
use mathlib.Core.Option.{Option, none, some}
use Prim.Native.Nat.{ℕ}
use native.Mathlib.Nat.{le_refl, le_trans}
use native.Mathlib.Omega.{arith}
use lib.Dec.{ltb}
use Rattle.refusals.specs.declared.MirLowerError.{MirLowerError}
use Rattle.refusals.specs.Refusals.{Result, and_then}
use Rattle.refusals.specs.Refusals.{done, stopped}
use Rattle.mir.specs.declared.BasicBlockId.{BasicBlockId}
use Rattle.mir.specs.declared.Counts.{Counts}
use Rattle.mir.specs.Blocks.{block_limit, one_block_more, new_block}
use Rattle.lower_spec.specs.Results.{OptBlock}
use Rattle.state.specs.State.{Body}
use Rattle.state.specs.Promises.{Ready, Grown, Own, Goes, Answers}
use Rattle.state.proofs.Answering.{grown_refl, grown_trans, kept_refl, kept_trans}
use Rattle.pattern_matching.specs.Walking.{Walk, ok, refused, next, step}
use Rattle.lower_spec.specs.Promises.{Within}
use Rattle.pattern_walk_spec.specs.Results.{Lowered}
use Rattle.pattern_walk_spec.specs.Answers.{OwnElse, Begins, Onward, OnwardBy}

pub goes_on_lem : {c c₁ : Counts} (b₂ : Body) (c₂ : Option Counts) → Grown c c₁ → Goes c₁ c₂ b₂ → Goes c c₂ b₂
goes_on_lem b₂ none G h = tt
goes_on_lem b₂ (some c₂) G h = (h.0, grown_trans G h.1)

-- a step while p is visited, and then what follows it
pub step_then : {A B : Type 0} {b b₁ b₂ : Body} {c c₁ : Counts} {current on : ℕ} {c₂ : Option Counts} {a : A} {defined : Result A} {given : Walk B} (p : ℕ) (k : A → Walk B) →
    Answers b c current b₁ (some c₁) (done a) defined → Own c current on → Answers b₁ c₁ on b₂ c₂ given (k a) → Answers b c current b₂ c₂ given (step p defined k)
step_then {b₂ = b₂} {c₂ = c₂} p k F own S =
    record { says = S.says ∙ ap (λ r. step p r k) F.says; goes = goes_on_lem b₂ c₂ F.goes.1 S.goes; kept = kept_trans F.kept F.goes.1 own S.kept }

-- a step that refuses
pub step_stops : {A B : Type 0} {b b₁ : Body} {c : Counts} {current : ℕ} {e : MirLowerError} {defined : Result A} (p : ℕ) (k : A → Walk B) →
    Answers b c current b₁ none (stopped e) defined → Answers b c current b₁ none (refused e p) (step p defined k)
step_stops p k F = record { says = ap (λ r. step p r k) F.says; goes = tt; kept = F.kept }

-- a walk, and then what follows it
pub next_then : {A B : Type 0} {b b₁ b₂ : Body} {c c₁ : Counts} {current on : ℕ} {c₂ : Option Counts} {a : A} {defined : Walk A} {given : Walk B} (k : A → Walk B) →
    Answers b c current b₁ (some c₁) (ok a) defined → Own c current on → Answers b₁ c₁ on b₂ c₂ given (k a) → Answers b c current b₂ c₂ given (next defined k)
next_then {b₂ = b₂} {c₂ = c₂} k F own S =
    record { says = S.says ∙ ap (λ r. next r k) F.says; goes = goes_on_lem b₂ c₂ F.goes.1 S.goes; kept = kept_trans F.kept F.goes.1 own S.kept }

-- a walk that refuses
pub next_stops : {A B : Type 0} {b b₁ : Body} {c : Counts} {current : ℕ} {e : MirLowerError} {p : ℕ} {defined : Walk A} (k : A → Walk B) →
    Answers b c current b₁ none (refused e p) defined → Answers b c current b₁ none (refused e p) (next defined k)
next_stops k F = record { says = ap (λ r. next r k) F.says; goes = tt; kept = F.kept }

-- nothing done
pub stays : {A : Type 0} {b : Body} {c : Counts} {current : ℕ} (a : A) → Ready b c → Answers b c current b (some c) a a
stays {b = b} {c = c} {current = current} a R = record { says = refl; goes = (R, grown_refl c); kept = kept_refl c current b }

-- a refusal before anything is done
pub refuses : {A : Type 0} {b : Body} {c : Counts} {current : ℕ} {given defined : A} → given ≡ defined → Answers b c current b none given defined
refuses {b = b} {c = c} {current = current} h = record { says = h; goes = tt; kept = kept_refl c current b }

-- the same by another definition
pub answers_by : {A : Type 0} {b b₁ : Body} {c : Counts} {current : ℕ} {c₁ : Option Counts} {given defined defined₁ : A} → defined ≡ defined₁ →
    Answers b c current b₁ c₁ given defined → Answers b c current b₁ c₁ given defined₁
answers_by same F = record { says = F.says ∙ same; goes = F.goes; kept = F.kept }

-- two steps as one
pub step_two : {A B C : Type 0} (p : ℕ) (first : Result A) (second : A → Result B) (k : B → Walk C) → step p (and_then first second) k ≡ step p first (λ a. step p (second a) k)
step_two p (done a) second k = refl
step_two p (stopped e) second k = refl

-- the block where one goes on is one's own after another
pub own_trans : {c c₁ : Counts} {current on last : ℕ} → Grown c c₁ → Own c current on → Own c₁ on last → Own c current last
own_trans G (inl same) (inl same₁) = inl (same₁ ∙ same)
own_trans G (inr new) (inl same₁) = inr (omega (arith, new, same₁))
own_trans G own (inr new) = inr (le_trans G.blocks new)

-- and so is an else
pub own_else_trans : (c c₁ : Counts) (els els₁ els₂ : OptBlock) → Grown c c₁ → OwnElse c els els₁ → OwnElse c₁ els₁ els₂ → OwnElse c els els₂
own_else_trans c c₁ els els₁ None G own own₁ = tt
own_else_trans c c₁ els els₁ (Some b) G own (inl same) = rw same at own
own_else_trans c c₁ els els₁ (Some b) G own (inr new) = inr (le_trans G.blocks new)

-- where it goes on, one after the other
pub onward_trans : {c c₁ c₂ : Counts} {current then then₂ : BasicBlockId} {els els₁ els₂ : OptBlock} → Grown c c₁ → Onward c current els c₁ then els₁ → Onward c₁ then els₁ c₂ then₂ els₂ →
    Onward c current els c₂ then₂ els₂
onward_trans {c = c} {c₁ = c₁} {els = els} {els₁ = els₁} {els₂ = els₂} G F S =
    record { own = own_trans G F.own S.own; own_else = own_else_trans c c₁ els els₁ els₂ G F.own_else S.own_else; begins = S.begins }

-- at the same blocks
pub onward_refl : {c : Counts} {current : BasicBlockId} {els : OptBlock} → Begins c current els → Onward c current els c current els
onward_refl {c = c} {els = els} h = record { own = inl refl; own_else = own_same c els; begins = h }
  where
    own_same : (c : Counts) (els : OptBlock) → OwnElse c els els
    own_same c None = tt
    own_same c (Some b) = inl refl

-- more blocks, and the same ones to go on at
pub begins_grown : {c c₁ : Counts} {current : BasicBlockId} {els : OptBlock} → Grown c c₁ → Begins c current els → Begins c₁ current els
begins_grown {c = c} {c₁ = c₁} {els = els} G h = record { start = le_trans h.start G.blocks; else = within_grown els h.else }
  where
    within_grown : (els : OptBlock) → Within c els → Within c₁ els
    within_grown None w = tt
    within_grown (Some b) w = le_trans w G.blocks

pub onward_grown : {c c₁ : Counts} {current : BasicBlockId} {els : OptBlock} → Grown c c₁ → Begins c current els → Onward c current els c₁ current els
onward_grown G h = let same = onward_refl h in record { own = same.own; own_else = same.own_else; begins = begins_grown G h }

-- where an answer goes on, one after the other
pub onward_by : {c c₁ : Counts} {current then : BasicBlockId} {els els₁ : OptBlock} (r : Lowered) → Grown c c₁ → Onward c current els c₁ then els₁ → OnwardBy c₁ then els₁ r → OnwardBy c current els r
onward_by (Ok (c₂, then₂, els₂)) G F S = onward_trans G F S
onward_by (Err (e, p)) G F S = tt

-- a new block: its number is the count of those before it, and then there is one more
pub block_made : (c : Counts) {c₁ : Counts} {m : BasicBlockId} → Some (c₁, m) ≡ new_block c → (c₁ ≡ one_block_more c) × (m ≡ record { 0 = c.blocks })
unfolding new_block
block_made c {c₁ = c₁} {m = m} is = made (ltb c.blocks block_limit) is
  where
    made : (b : Bool) → ◌≡◌ {A = NewBlock} (Some (c₁, m)) (cond b (Some (one_block_more c, record { 0 = c.blocks })) None) → (c₁ ≡ one_block_more c) × (m ≡ record { 0 = c.blocks })
    made true e =
        let same : ◌≡◌ {A = Counts × BasicBlockId} (c₁, m) (one_block_more c, record { 0 = c.blocks }) = cc in
        (ap (λ (pair : Counts × BasicBlockId). pair.0) same, ap (λ (pair : Counts × BasicBlockId). pair.1) same)
    made false e = absurd (let z : ◌≡◌ {A = ℕ} 0 1 = cc in omega arith)

-- a walk goes on at it
pub block_onward : (c : Counts) {c₁ : Counts} {m current : BasicBlockId} {els : OptBlock} → Some (c₁, m) ≡ new_block c → Begins c current els → Grown c c₁ × Onward c current els c₁ m els
block_onward c is h =
    let made = block_made c is in
    let grown : Grown c (one_block_more c) =
    record { blocks = omega arith; statements = le_refl c.statements; locals = le_refl c.locals; scopes = le_refl c.scopes; entries = le_refl c.entries }
    in
    rw (made.0, made.1) (grown, record { own = inr (le_refl c.blocks); own_else = (onward_refl h).own_else; begins = record { start = omega arith; else = (begins_grown grown h).else } })
