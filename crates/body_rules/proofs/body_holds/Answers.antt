use borrow.Author.Rules.{rules}
use mathlib.Core.Path.{sym, ◌∙◌}
use mathlib.Core.Bool.{and-true, false≢true}
use native.Mathlib.Omega.{arith}
use borrow.Author.Tests.{not-true, not-false}
use Rattle.image.specs.Lists.{all_true}
use Rattle.body_row_rules.specs.Bodies.{body_holds}
use Rattle.body_row_rules.proofs.Checked.{within_of}
use Rattle.body_rules.proofs.Lengths.{lengths_of, counts_refused}
use Rattle.body_rules.proofs.body_holds.Goals as goal

pub returns-then-not-counts_within : goal.returns-then-not-counts_within
returns-then-not-counts_within c = record { answer = counts_refused _ _ _ _ (sym c.counts_within.ensures ∙ c.if-not-counts_within.true); lengths = λ e. absurd (false≢true e) }

pub blocks_hold-requires : goal.blocks_hold-requires
blocks_hold-requires c = (search rules, (within_of c.args.counts (sym c.counts_within.ensures ∙ c.if-not-counts_within.false)).blocks)

pub returns-then-not-blocks_hold : goal.returns-then-not-blocks_hold
unfolding body_holds all_true
returns-then-not-blocks_hold c = record { answer = rw (← c.counts_within.ensures, c.if-not-counts_within.false, ← c.blocks_hold.ensures, c.if-not-blocks_hold.true); lengths = λ e. lengths_of c.args.body.now (omega (arith, c.well_formed)) }

pub statements_hold-requires : goal.statements_hold-requires
statements_hold-requires c = (search rules, (within_of c.args.counts (sym c.counts_within.ensures ∙ c.if-not-counts_within.false)).statements)

pub returns-then-not-statements_hold : goal.returns-then-not-statements_hold
unfolding body_holds all_true
returns-then-not-statements_hold c = record { answer = rw (← c.counts_within.ensures, c.if-not-counts_within.false, ← c.blocks_hold.ensures, c.if-not-blocks_hold.false, ← c.statements_hold.ensures, c.if-not-statements_hold.true); lengths = λ e. lengths_of c.args.body.now (omega (arith, c.well_formed)) }

pub locals_hold-requires : goal.locals_hold-requires
locals_hold-requires c = (search rules, (within_of c.args.counts (sym c.counts_within.ensures ∙ c.if-not-counts_within.false)).locals)

pub returns-then-not-locals_hold : goal.returns-then-not-locals_hold
unfolding body_holds all_true
returns-then-not-locals_hold c = record { answer = rw (← c.counts_within.ensures, c.if-not-counts_within.false, ← c.blocks_hold.ensures, c.if-not-blocks_hold.false, ← c.statements_hold.ensures, c.if-not-statements_hold.false, ← c.locals_hold.ensures, c.if-not-locals_hold.true); lengths = λ e. lengths_of c.args.body.now (omega (arith, c.well_formed)) }

pub scopes_hold-requires : goal.scopes_hold-requires
scopes_hold-requires c = (search rules, (within_of c.args.counts (sym c.counts_within.ensures ∙ c.if-not-counts_within.false)).scopes)

pub returns-then-not-scopes_hold : goal.returns-then-not-scopes_hold
unfolding body_holds all_true
returns-then-not-scopes_hold c = record { answer = rw (← c.counts_within.ensures, c.if-not-counts_within.false, ← c.blocks_hold.ensures, c.if-not-blocks_hold.false, ← c.statements_hold.ensures, c.if-not-statements_hold.false, ← c.locals_hold.ensures, c.if-not-locals_hold.false, ← c.scopes_hold.ensures, c.if-not-scopes_hold.true); lengths = λ e. lengths_of c.args.body.now (omega (arith, c.well_formed)) }

pub entries_hold-requires : goal.entries_hold-requires
entries_hold-requires c = (search rules, (within_of c.args.counts (sym c.counts_within.ensures ∙ c.if-not-counts_within.false)).entries)

pub returns-then-not-entries_hold : goal.returns-then-not-entries_hold
unfolding body_holds all_true
returns-then-not-entries_hold c = record { answer = rw (← c.counts_within.ensures, c.if-not-counts_within.false, ← c.blocks_hold.ensures, c.if-not-blocks_hold.false, ← c.statements_hold.ensures, c.if-not-statements_hold.false, ← c.locals_hold.ensures, c.if-not-locals_hold.false, ← c.scopes_hold.ensures, c.if-not-scopes_hold.false, ← c.entries_hold.ensures, c.if-not-entries_hold.true); lengths = λ e. lengths_of c.args.body.now (omega (arith, c.well_formed)) }

pub returns : goal.returns
unfolding body_holds all_true
returns c = record { answer = rw (← c.counts_within.ensures, c.if-not-counts_within.false, ← c.blocks_hold.ensures, c.if-not-blocks_hold.false, ← c.statements_hold.ensures, c.if-not-statements_hold.false, ← c.locals_hold.ensures, c.if-not-locals_hold.false, ← c.scopes_hold.ensures, c.if-not-scopes_hold.false, ← c.entries_hold.ensures, c.if-not-entries_hold.false, and-true) c.entries_belong.ensures; lengths = λ e. lengths_of c.args.body.now (omega (arith, c.well_formed)) }
