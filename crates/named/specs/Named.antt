-- Which locals a body names: none from its count of locals on, so that the one that is made next was not used before. Assumes nothing: these are definitions.
use Rattle.std.specs.Prelude.{ℕ, ◌<◌, ◌≡◌, ◌≢◌, List, [], ◌∷◌, ◌++◌, length, get_or}
use Rattle.place.specs.declared.Place.{Place}
use Rattle.place.specs.Places.{projection_of}
use Rattle.mir.specs.declared.BasicBlockId.{BasicBlockId}
use Rattle.mir.specs.declared.blocks.Terminator.{Terminator}
use Rattle.mir.specs.declared.rvalues.Left.{Left}
use Rattle.mir.specs.declared.rvalues.PlaceRvalue.{PlaceRvalue}
use Rattle.state.specs.State.{State}
use Rattle.views.specs.Views.{Rvalue, of_place, of_constant, binary, unknown_rvalue, Statement, live, dead, set, Line, mir_of}

-- a left operand: a local below n, or a constant
abbrev pub LeftBelow : ℕ → Left → Type 0
LeftBelow n (Left.Local l) = l.0 < n
LeftBelow n (Left.Constant c) = Unit {0}

-- what a local is set to: the root of its place, and its left operand
abbrev pub RvalueBelow : ℕ → Rvalue → Type 0
RvalueBelow n (of_place how path) = path.local < n
RvalueBelow n (of_constant c) = Unit {0}
RvalueBelow n (binary op left path) = LeftBelow n left × (path.local < n)
RvalueBelow n unknown_rvalue = Unit {0}

-- a statement: the local that it is about, and what it makes of it
abbrev pub StatementBelow : ℕ → Statement → Type 0
StatementBelow n (live l) = l < n
StatementBelow n (dead l) = l < n
StatementBelow n (set l rvalue) = (l < n) × RvalueBelow n rvalue

-- a terminator: the local of a switch or of a drop
abbrev pub TerminatorBelow : ℕ → Terminator → Type 0
TerminatorBelow n Terminator.Open = Unit {0}
TerminatorBelow n (Terminator.Goto b) = Unit {0}
TerminatorBelow n (Terminator.Switch l low high then else) = l.0 < n
TerminatorBelow n Terminator.Unreachable = Unit {0}
TerminatorBelow n (Terminator.Drop l b) = l.0 < n

-- each of a list
abbrev pub Throughout : {A : Type 0} → (A → Type 0) → List A → Type 0
Throughout P [] = Unit {0}
Throughout P (x ∷ xs) = P x × Throughout P xs

-- statements, terminators and entries of scopes name only locals below n
pub record NamesBelow (n : ℕ) (st : State) : Type 0 where
  pub statements : Throughout (λ (x : Line). StatementBelow n x.statement) (mir_of st).lines
  pub terminators : Throughout (TerminatorBelow n) (mir_of st).terminators
  pub entries : Throughout (λ (l : ℕ). l < n) st.entries

-- nothing names a local from the count of locals on
abbrev pub NamedBelow : State → Type 0
NamedBelow st = NamesBelow (length st.locals) st

-- the locals of those bindings that have one are below n
abbrev pub WordsBelow : List ℕ → ℕ → Type 0
WordsBelow bindings n = (x : ℕ) → get_or bindings x 65535 ≢ 65535 → get_or bindings x 65535 < n

-- the local of a test of an enum: one more than there were, the last entry of the last scope, made live and then set in the block of the test
pub record TestLocal (st : State) (current : BasicBlockId) (place : Place) (st₁ : State) : Type 0 where
  pub local : st₁.locals ≡ st.locals ++ (258 ∷ [])
  pub entry : st₁.entries ≡ st.entries ++ (length st.locals ∷ [])
  pub lines : (mir_of st₁).lines ≡ (mir_of st).lines
      ++ (record { block = current.0; statement = live (length st.locals) }
      ∷ record { block = current.0; statement = set (length st.locals) (of_place PlaceRvalue.Discr (record { local = place.local.0; elems = projection_of place })) }
      ∷ [])
