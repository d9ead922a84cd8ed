-- The stack without its last words, and words of it as they lie in the table. Assumes nothing.
use Prim.Native.Nat.{ℕ, ◌+◌, ◌-◌, ◌≤◌}
use mathlib.Core.Path.{◌≡◌, sym, ap, ◌∙◌}
use mathlib.Core.List.{List}
use lib.ListN.{take, drop}
use lib.Seq.{take-take, drop-drop}
use Rattle.draft_stack.specs.Stack.{Stacked}
use Rattle.draft_tables.specs.declared.DraftCounts.{DraftCounts}
use Rattle.draft_tables.specs.Layout.{draft_in, stacked_in, height_is}
use Rattle.draft_tables.proofs.Regions.{take_drop}

-- fewer words on the stack
abbrev pub cut_to : ℕ → Stacked → Stacked
cut_to height s = record { stack = take height s.stack; draft = s.draft }

pub lowered : (names table : List ℕ) (c : DraftCounts) (height : ℕ) → height ≤ c.height → stacked_in names table (height_is height c) ≡ cut_to height (stacked_in names table c)
unfolding stacked_in draft_in
lowered names table c height h =
    λ i. record { stack = sym (take-take height c.height (drop 24320 table) h) i; draft = draft_in names table c }

-- so many words of the stack from a place on
pub stack_part : (names table : List ℕ) (c : DraftCounts) (from many : ℕ) → from + many ≤ c.height → take many (drop (24320 + from) table) ≡ take many (drop from (stacked_in names table c).stack)
unfolding stacked_in
stack_part names table c from many h =
    let l = drop 24320 table in
    ap (take many) (sym (drop-drop from 24320 table))
    ∙ take_drop from many l
    ∙ ap (drop from) (sym (take-take (from + many) c.height l h))
    ∙ sym (take_drop from many (take c.height l))
