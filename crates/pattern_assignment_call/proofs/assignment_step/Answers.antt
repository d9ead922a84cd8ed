use Rattle.std.specs.Prelude.{None, Ok, Err}
use borrow.Author.Rules.{rules}
use Rattle.image.specs.Tree.{tree}
use Rattle.pattern_matching.specs.Patterns.{pattern_match_assignment}
use Rattle.body_calls_spec.proofs.Prologue.{taken_sized}
use Rattle.body_rules.proofs.Lengths.{lengths_of}
use Rattle.body_opening.proofs.Replying.{few_counts}
use Rattle.pattern_calls_spec.proofs.Matching.{row_asked, walk_asked, matched, not_matched}
use Rattle.pattern_assignment_call.proofs.assignment_step.Goals as goal

pub block_row-row-requires : goal.block_row-row-requires
block_row-row-requires c =
    let start = c in
    let a = c.args in
    (search rules, row_asked a.bindings.now a.p.0 a.current None a.place c.requires.0 c.requires.1)

pub clear_above-requires : goal.clear_above-requires
clear_above-requires c = few_counts _ _ (taken_sized _ _ _ c.requires.0)

pub pattern_match_inner-requires : goal.pattern_match_inner-requires
pattern_match_inner-requires c =
    let start = c in
    let a = c.args in
    let r = walk_asked a.bindings.now a.p.0 a.current None a.place c.requires.0 c.requires.1 c.clear_above.ensures in record { walkable = r.0; p_bound = r.1 }

pub put_back-requires : goal.put_back-requires
put_back-requires c =
    let start = c in
    let a = c.args in
    (search rules, row_asked a.bindings.now a.p.0 a.current None a.place c.requires.0 c.requires.1)

pub clear_above-requires-in-Err : goal.clear_above-requires-in-Err
clear_above-requires-in-Err c = few_counts _ _ (taken_sized _ _ _ c.requires.0)

pub returns-in-Ok : goal.returns-in-Ok
unfolding pattern_match_assignment
returns-in-Ok c =
    let start = c in
    let a = c.args in
    matched a.bindings.now a.p.0 a.current None a.place c.requires.0 c.requires.1 c.clear_above.ensures a.visits.now (search (rules, c.clear_from-arg-1.given)) c.clear_from.ensures (λ ctx. pattern_match_assignment a.image.now a.bindings.now (tree a.image.now a.p.0) ctx a.current a.place) (rw c.in-Ok.is at c.pattern_match_inner.ensures)

pub returns-in-Err : goal.returns-in-Err
unfolding pattern_match_assignment
returns-in-Err c =
    let start = c in
    let a = c.args in
    not_matched a.bindings.now a.p.0 a.current None a.place c.requires.0 c.requires.1 c.clear_above.ensures a.visits.now (search (rules, c.clear_from-arg-1.given)) c.clear_from.ensures (λ ctx. pattern_match_assignment a.image.now a.bindings.now (tree a.image.now a.p.0) ctx a.current a.place) (rw c.in-Err.is at c.pattern_match_inner.ensures) (lengths_of _ (search rules)).blocks (search rules) c.block_row-row.ensures c.put_back.ensures c.clear_above-in-Err.ensures c.clear_from-in-Err.ensures
