-- Room by document 01's counts, for a pattern that `pattern_match` lowers. Assumes nothing: these are definitions.
use Rattle.std.specs.Prelude.{ℕ, ◌+◌, ◌*◌, ◌/◌, ◌≤◌, ◌<◌, ◌≡◌, List, [], ◌∷◌, ◌++◌, length, get_or}
use Rattle.std.proofs.Math.Option.{Option, none, some}
use Rattle.image.specs.Tree.{Pat}
use Rattle.place.specs.declared.Place.{Place}
use Rattle.place.specs.declared.place_ty.PlaceTy.{PlaceTy}
use Rattle.state.specs.State.{State}
use Rattle.lower_spec.specs.Results.{OptBlock}
use Rattle.lower_spec.specs.Recorded.{recorded}
use Rattle.pattern_matching.specs.Walking.{Ctx, Out}
use Rattle.pattern_matching.specs.Variants.{place_ty}
use Rattle.counting.specs.Reaching.{Reached}
use Rattle.counting.specs.Counting.{total, reached_from, check_visits, new_blocks, new_statements}
use Rattle.named.specs.Named.{WordsBelow}
use Rattle.room.specs.Elements.{elements}

-- a temporary is marked live and then set, two statements
abbrev pub temporaries : Reached → ℕ
temporaries r = r.test_statements / 2

-- each Check visit makes temporaries of its own
abbrev pub locals_of : Reached → ℕ
locals_of r = check_visits r * temporaries r

-- a new local is a temporary
unfoldable pub new_locals : List ℕ → Pat → PlaceTy → ℕ
new_locals image root ty = total locals_of (reached_from image root ty)

-- the local of a binding, where there is one
abbrev pub local_of : List ℕ → Option ℕ → List ℕ
local_of bindings none = []
local_of bindings (some b) = get_or bindings b 65535 ∷ []

-- the locals of the bindings that Bind visits make live, by the bindings' table
unfoldable pub bound_locals : List ℕ → List Reached → List ℕ
bound_locals bindings [] = []
bound_locals bindings (r ∷ rs) = local_of bindings r.bound ++ bound_locals bindings rs

-- how many entries there are afterwards: a live mark records its local unless an open scope holds it, and none holds a new one
unfoldable pub needed_entries : List ℕ → List ℕ → Pat → PlaceTy → List ℕ → ℕ
needed_entries image bindings root ty entries = new_locals image root ty + length (recorded entries (bound_locals bindings (reached_from image root ty)))

-- the most elements that a place has which the walk comes to
unfoldable pub longest_place : List ℕ → Pat → PlaceTy → ℕ → ℕ
longest_place image root ty n = n + elements image root ty

-- "Body: 512 blocks, 1,024 statements, 512 locals, .. 1,024 entries", and 16 elements of a place: the lowering of a root from ctx on, with the else els or none,
-- passes none of these limits
pub record Room (image bindings : List ℕ) (root : Pat) (ctx : Ctx) (els : OptBlock) (place : Place) : Type 0 where
  pub blocks : length ctx.state.blocks + new_blocks image root (place_ty image ctx.state place) els ≤ 512
  pub statements : length ctx.state.statements + new_statements image root (place_ty image ctx.state place) ≤ 1024
  pub locals : length ctx.state.locals + new_locals image root (place_ty image ctx.state place) ≤ 512
  pub entries : needed_entries image bindings root (place_ty image ctx.state place) ctx.state.entries ≤ 1024
  pub elements : longest_place image root (place_ty image ctx.state place) place.len ≤ 16

-- one of the limits is passed
pub data Passed (image bindings : List ℕ) (root : Pat) (ctx : Ctx) (els : OptBlock) (place : Place) : Type 0 where
  too_many_blocks : 512 < length ctx.state.blocks + new_blocks image root (place_ty image ctx.state place) els → Passed image bindings root ctx els place
  too_many_statements : 1024 < length ctx.state.statements + new_statements image root (place_ty image ctx.state place) → Passed image bindings root ctx els place
  too_many_locals : 512 < length ctx.state.locals + new_locals image root (place_ty image ctx.state place) → Passed image bindings root ctx els place
  too_many_entries : 1024 < needed_entries image bindings root (place_ty image ctx.state place) ctx.state.entries → Passed image bindings root ctx els place
  too_many_elements : 16 < longest_place image root (place_ty image ctx.state place) place.len → Passed image bindings root ctx els place

-- a scope is open
abbrev pub ScopeOpen : Ctx → Type 0
ScopeOpen ctx = 1 ≤ length ctx.state.scopes

-- what number 2 says of every call: no binding's local is a new one
abbrev pub LocalsBelow : List ℕ → State → Type 0
LocalsBelow bindings st = WordsBelow bindings (length st.locals)

-- what an accepted lowering of a root from ctx on, which gave r, has made: exactly as many locals and entries as are counted, and no place with more than 16 elements
pub record Made (image bindings : List ℕ) (root : Pat) (ctx : Ctx) (place : Place) (r : Out) : Type 0 where
  pub locals : length r.ctx.state.locals ≡ length ctx.state.locals + new_locals image root (place_ty image ctx.state place)
  pub entries : length r.ctx.state.entries ≡ needed_entries image bindings root (place_ty image ctx.state place) ctx.state.entries
  pub elements : longest_place image root (place_ty image ctx.state place) place.len ≤ 16
