use borrow.Author.Rules.{rules}
use Prim.Native.Nat.{ℕ, ◌-◌, ◌≤◌}
use mathlib.Core.Path.{◌≡◌, sym, ◌∙◌}
use mathlib.Core.Bool.{Bool}
use native.Mathlib.Omega.{arith}
use lib.ListN.{drop}
use Rattle.row_tables.specs.Rows.{row_at}
use Rattle.pattern_words.specs.Words.{same_word}
use Rattle.name_tables.specs.Names.{first_from}
use Rattle.pattern_syntax.specs.Reduced.{bytes_from}
use Rattle.draft_tables.specs.Layout.{name_of_words}
use Rattle.draft_types.proofs.Firsts.{first_start, first_here, first_later, first_none}
use Rattle.draft_names.specs.Names.{found_binding}
use Rattle.draft_names.proofs.Comparing.{named_test}
use Rattle.draft_names.proofs.binding_of.Goals as goal

pub loop-b-init : goal.loop-b-init
loop-b-init c =
    let s = c.args in
    let test : ℕ → Bool = λ k. same_word (name_of_words s.names.now (row_at 2 (drop 5376 s.draft.now) k)) (bytes_from s.names.now s.from s.to) in
    (omega arith, first_start test s.many)

pub returns-then-is_same_word : goal.returns-then-is_same_word
unfolding found_binding
returns-then-is_same_word c =
    let s = c.args in
    let test : ℕ → Bool = λ k. same_word (name_of_words s.names.now (row_at 2 (drop 5376 s.draft.now) k)) (bytes_from s.names.now s.from s.to) in
    let is = named_test s.names.now (row_at 2 (drop 5376 s.draft.now) c.loop-b.b) c.added_name-range.result s.from s.to _ _ c.is_same_word.result c.added_name-range.ensures c.name_bytes.ensures c.name_bytes-name.ensures c.is_same_word.ensures in
    sym (first_here test c.loop-b.b s.many c.loop-b-test.true (is ∙ c.if-is_same_word.true)) ∙ c.loop-b.invariant.1

pub loop-b-preserved : goal.loop-b-preserved
loop-b-preserved c =
    let s = c.args in
    let test : ℕ → Bool = λ k. same_word (name_of_words s.names.now (row_at 2 (drop 5376 s.draft.now) k)) (bytes_from s.names.now s.from s.to) in
    let is = named_test s.names.now (row_at 2 (drop 5376 s.draft.now) c.loop-b.b) c.added_name-range.result s.from s.to _ _ c.is_same_word.result c.added_name-range.ensures c.name_bytes.ensures c.name_bytes-name.ensures c.is_same_word.ensures in
    (omega (arith, c.loop-b-test.true), sym (first_later test c.loop-b.b s.many c.loop-b-test.true (is ∙ c.if-is_same_word.false)) ∙ c.loop-b.invariant.1)

pub returns : goal.returns
unfolding found_binding
returns c =
    let s = c.args in
    let test : ℕ → Bool = λ k. same_word (name_of_words s.names.now (row_at 2 (drop 5376 s.draft.now) k)) (bytes_from s.names.now s.from s.to) in
    sym (first_none test c.loop-b.b s.many c.loop-b-test.false) ∙ c.loop-b.invariant.1
