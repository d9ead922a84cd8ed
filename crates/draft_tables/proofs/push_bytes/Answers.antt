use borrow.Author.Rules.{rules}
use Prim.Native.Nat.{ℕ, ◌+◌, ◌-◌}
use mathlib.Core.Path.{◌≡◌, refl, sym, ap, subst, ◌∙◌}
use native.Mathlib.Omega.{arith}
use Rattle.row_tables.specs.Rows.{stored}
use lib.ListN.{take}
use lib.Seq.{length-take-le}
use Rattle.draft_tables.specs.Layout.{HoldsBytes}
use Rattle.draft_tables.proofs.Parts.{holds_bytes}
use Rattle.draft_tables.proofs.push_bytes.Goals as goal

pub returns : goal.returns
returns c =
    let s = c.args in
    let pre = c.requires in
    let row = take s.many s.bytes.now in
    let whole : s.many - 0 ≡ s.many = omega arith in
    (refl, subst (HoldsBytes s.draft.now s.c row s.many) (sym (c.store_row.ensures ∙ ap (λ (k : ℕ). stored s.draft.now (7936 + s.c.bytes) (take k s.bytes.now)) whole)) (holds_bytes s.draft.now pre.0.0 s.c pre.1.0 row s.many (length-take-le s.many s.bytes.now pre.0.1) pre.1.1))
