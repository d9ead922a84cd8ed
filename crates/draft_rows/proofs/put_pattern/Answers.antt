use borrow.Author.Rules.{rules}
use native.Mathlib.Omega.{arith}
use mathlib.Core.Path.{refl}
use Rattle.draft_rows.proofs.Putting.{pattern_within, past_derefs, past_patterns, pattern_held}
use Rattle.draft_rows.proofs.put_pattern.Goals as goal

pub returns-then-row-gt16 : goal.returns-then-row-gt16
returns-then-row-gt16 c =
    let s = c.args in
    λ sheet whole. past_derefs s.tables s.draft.now s.c c.requires.1.0 s.row sheet whole c.if-row-gt16.true

pub returns-then-p-ge512 : goal.returns-then-p-ge512
returns-then-p-ge512 c =
    let s = c.args in
    λ sheet whole. past_patterns s.tables s.draft.now s.c c.requires.1.0 s.row sheet whole c.if-p-ge512.true

pub push_stack-requires : goal.push_stack-requires
push_stack-requires c =
    let s = c.args in
    ((omega (arith, c.push_pattern-added.auto, c.requires.0), refl), pattern_within s.tables s.c c.push_pattern-added.result c.requires.1.0 c.push_pattern-added.ensures.0 (omega (arith, c.if-p-ge512.false)) c.requires.1.1)

pub returns : goal.returns
returns c =
    let s = c.args in
    λ sheet whole. pattern_held s.tables s.draft.now s.c c.requires.1.0 s.row sheet whole c.push_pattern-added.result c.push_stack.result _ _ (omega (arith, c.if-row-gt16.false)) (omega (arith, c.if-p-ge512.false)) c.requires.1.1 c.push_pattern-added.ensures.0 c.push_pattern-added.ensures.1 c.push_stack.ensures.0 c.push_stack.ensures.1
