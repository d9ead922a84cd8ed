-- The types that parents name stay the sheet's. Assumes nothing.
use Prim.Native.Nat.{ℕ, zero, suc}
use mathlib.Core.Path.{◌≡◌}
use mathlib.Core.Bool.{true}
use mathlib.Core.List.{List, [], ◌∷◌}
use Rattle.type_sheets.specs.Sheets.{sheet_holds}
use Rattle.pattern_typing.specs.Contexts.{PartsRead}
use Rattle.pattern_typing.specs.Downward.{Waiting, wait_for, last_part, next_context, without_last, behind_next}
use Rattle.node_resolving.specs.Known.{ContextKnown, PartsKnown}
use Rattle.node_resolving.proofs.Kept.{part_known}
use Rattle.node_typing.specs.Rows.{StackKnown}

-- the types that a stack names stay the sheet's
module _ (sheet : List ℕ) (held : sheet_holds sheet ≡ true) where
  pub next_known : (stack : List Waiting) → StackKnown sheet stack → ContextKnown sheet (next_context sheet stack)
  unfolding next_context last_part
  next_known [] k = tt
  next_known (w ∷ stack) k = go w.left
    where
      go : (left : ℕ) → ContextKnown sheet (last_part sheet w.reads left)
      go zero = tt
      go (suc left) = part_known sheet held w.reads left k.0

pub wait_known : (sheet : List ℕ) (reads : PartsRead) (many : ℕ) (stack : List Waiting) → PartsKnown sheet reads → StackKnown sheet stack → StackKnown sheet (wait_for reads many stack)
unfolding wait_for
wait_known sheet reads zero stack p k = k
wait_known sheet reads (suc many) stack p k = (p, k)

pub behind_known : (sheet : List ℕ) (stack : List Waiting) → StackKnown sheet stack → StackKnown sheet (behind_next stack)
unfolding behind_next without_last
behind_known sheet [] k = tt
behind_known sheet (w ∷ stack) k = go w.left
  where
    go : (left : ℕ) → StackKnown sheet (without_last w.reads left stack)
    go zero = k.1
    go (suc left) = wait_known sheet w.reads left stack k.0 k.1
