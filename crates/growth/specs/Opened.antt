-- How an accepted walk grows a body: which blocks it leaves open, which it closes, and which it does not touch. Assumes nothing: these are definitions.
use Rattle.std.specs.Prelude.{Some, None}
use Rattle.std.specs.Prelude.{ℕ, ◌≤◌, ◌<◌, ◌≡◌, List, [], ◌∷◌, ◌++◌, length}
use Rattle.mir.specs.declared.BasicBlockId.{BasicBlockId}
use Rattle.mir.specs.declared.blocks.Terminator.{Terminator}
use Rattle.state.specs.State.{State}
use Rattle.lower_spec.specs.Results.{OptBlock}
use Rattle.views.specs.Views.{Line, mir_of}
use Rattle.views.specs.Growing.{terminator_at, Closed, Quiet}
use Rattle.pattern_matching.specs.Walking.{Ctx, Out}

-- how many blocks a state has
abbrev pub count : State → ℕ
count st = length st.blocks

-- the terminator of a block of a state, read out of its row
abbrev pub terminator : State → ℕ → Terminator
terminator st b = terminator_at (mir_of st) b

-- the lines of a state, read out of its rows
abbrev pub lines : State → List Line
lines st = (mir_of st).lines

-- all lines of the list stand in blocks below n
abbrev pub Below : ℕ → List Line → Type 0
Below n [] = Unit
Below n (x ∷ xs) = (x.block < n) × Below n xs

-- an else as a call may have it: none, or a block other than the one where the walk starts. It may have lines, and a terminator.
abbrev pub ElseReady : State → BasicBlockId → OptBlock → Type 0
ElseReady st current None = Unit
ElseReady st current (Some e) = (e.0 < count st) × (e.0 ≡ current.0 → ⊥)

-- a walk may start at the block current of a state, with this else or none
pub record Ready (st : State) (current : BasicBlockId) (els : OptBlock) : Type 0 where
  pub inside : current.0 < count st
  pub opened : terminator st current.0 ≡ Terminator.Open
  pub else : ElseReady st current els
  pub lines : Below (count st) (lines st)

-- the same of a context
abbrev pub Starts : Ctx → BasicBlockId → OptBlock → Type 0
Starts ctx current els = Ready ctx.state current els

-- the block b is current, or newer than the state
abbrev pub From : State → ℕ → ℕ → Type 0
From st current b = b < count st → b ≡ current

-- work at the block current led from a state to another: no block is lost, the lines and the locals are those that there were and then more, and the other
-- blocks that there were have the terminators and the lines that they had
pub record Worked (st : State) (current : ℕ) (st₁ : State) : Type 0 where
  pub blocks : count st ≤ count st₁
  pub more : List Line
  pub grown : lines st₁ ≡ lines st ++ more
  pub still : (b : ℕ) → b < count st → (b ≡ current → ⊥) → Quiet b more
  pub kept : (b : ℕ) → b < count st → (b ≡ current → ⊥) → terminator st₁ b ≡ terminator st b
  pub below : Below (count st₁) more
  pub more_locals : List ℕ
  pub locals : st₁.locals ≡ st.locals ++ more_locals

-- the else that a walk leaves: the one supplied or, with none supplied, none or a new block, which is open and has no line
abbrev pub ElseLeft : State → OptBlock → State → OptBlock → Type 0
ElseLeft st (Some e) st₁ r = r ≡ Some e
ElseLeft st None st₁ None = Unit
ElseLeft st None st₁ (Some b) = (count st ≤ b.0) × (terminator st₁ b.0 ≡ Terminator.Open) × Quiet b.0 (lines st₁)

-- what a walk leaves that started at the block current of a state, with this else or none: a walk may start again from there, and of current and the new
-- blocks all are closed but for the two that come back
pub record Leaves (st : State) (current : BasicBlockId) (els : OptBlock) (r : Out) : Type 0 where
  pub worked : Worked st current.0 r.ctx.state
  pub then : From st current.0 r.then.0
  pub ready : Starts r.ctx r.then r.else
  pub else : ElseLeft st els r.ctx.state r.else
  pub closed : (b : ℕ) → b < count r.ctx.state → From st current.0 b → (b ≡ r.then.0 → ⊥) → (r.else ≡ Some (record { 0 = b }) → ⊥) →
      Closed (terminator r.ctx.state b)
