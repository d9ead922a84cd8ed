use borrow.Author.Rules.{rules}
use Prim.Native.Nat.{ℕ, ◌-◌, min}
use mathlib.Core.Path.{ap, ◌∙◌}
use lib.ListN.{take, drop}
use Rattle.draft_names.proofs.Comparing.{clamped}
use Rattle.draft_names.proofs.name_bytes.Goals as goal

pub returns : goal.returns
returns c =
    let s = c.args in
    let n = s.names.now in
    ap (λ (k : ℕ). take (c.lesser-end.result - k) (drop k n)) c.lesser-start.ensures ∙ ap (λ (e : ℕ). take (e - min s.from e) (drop (min s.from e) n)) c.lesser-end.ensures ∙ clamped n s.from s.to
