use borrow.Author.Rules.{rules}
use Prim.Native.Nat.{◌+◌, ◌*◌}
use mathlib.Core.Path.{refl, sym, ap, subst, ◌∙◌}
use mathlib.Core.List.{[], ◌∷◌}
use Rattle.row_tables.specs.Rows.{stored}
use Rattle.draft_tables.specs.Layout.{HoldsBinding}
use Rattle.draft_tables.proofs.Parts.{holds_binding}
use Rattle.draft_tables.proofs.push_binding.Goals as goal

pub returns : goal.returns
returns c =
    let s = c.args in
    let e = c.store_row-2.ensures ∙ ap (λ t. stored t (5376 + 2 * s.c.bindings) (s.from ∷ s.to ∷ [])) c.store_row.ensures in
    (refl, subst (HoldsBinding s.draft.now s.c s.ty s.from s.to) (sym e) (holds_binding s.draft.now c.requires.0 s.c c.requires.1.0 s.ty s.from s.to c.requires.1.1))
