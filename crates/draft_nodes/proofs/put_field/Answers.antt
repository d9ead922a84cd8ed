use borrow.Author.Rules.{rules}
use mathlib.Core.Path.{refl}
use mathlib.Core.List.{[], ◌∷◌}
use native.Mathlib.Omega.{arith}
use Rattle.pattern_typing.specs.Making.{field_made}
use Rattle.draft_nodes.proofs.Words.{low_within, words_held, field_same}
use Rattle.draft_nodes.proofs.put_field.Goals as goal

pub push_stack-requires : goal.push_stack-requires
push_stack-requires c =
    let s = c.args in
    let p = c.requires in
    ((p.0, refl), low_within s.tables s.draft.now p.0 s.c p.1.0 1 p.1.1.1 c.at_height-low.result 2 c.at_height-low.ensures (omega (arith, p.1.1.0)))

pub returns : goal.returns
returns c =
    let s = c.args in
    let p = c.requires in
    λ sheet whole. words_held s.tables s.draft.now p.0 s.c p.1.0 1 p.1.1.1 sheet (field_made s.number) c.at_height-low.result c.push_stack.result (s.number ∷ c.stack_word.result ∷ []) _ 2 c.at_height-low.ensures c.push_stack.ensures.0 (omega (arith, p.1.1.0)) c.push_stack.ensures.1 (field_same s.tables s.draft.now p.0 s.c p.1.0 1 p.1.1.1 sheet s.number c.stack_word.result refl c.stack_word.ensures)
