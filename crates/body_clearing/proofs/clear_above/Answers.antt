use borrow.Author.Rules.{rules}
use native.Mathlib.Omega.{arith}
use Rattle.body_row_rules.proofs.Checked.{within_of}
use Rattle.body_clearing.proofs.Emptying.{sized_words, five_cleared}
use Rattle.body_clearing.proofs.clear_above.Goals as goal

pub clear_blocks-requires : goal.clear_blocks-requires
clear_blocks-requires c = (search rules, (within_of c.args.counts c.requires).blocks)

pub clear_statements-requires : goal.clear_statements-requires
clear_statements-requires c = (search rules, (within_of c.args.counts c.requires).statements)

pub clear_locals-requires : goal.clear_locals-requires
clear_locals-requires c = (search rules, (within_of c.args.counts c.requires).locals)

pub clear_scopes-requires : goal.clear_scopes-requires
clear_scopes-requires c = (search rules, (within_of c.args.counts c.requires).scopes)

pub clear_entries-requires : goal.clear_entries-requires
clear_entries-requires c = (search rules, (within_of c.args.counts c.requires).entries)

pub returns : goal.returns
returns c =
    let start = c in
    let counts = c.args.counts in
    five_cleared counts (sized_words counts c.args.body.now (omega (arith, c.well_formed)) c.requires) c.clear_blocks.ensures c.clear_statements.ensures c.clear_locals.ensures c.clear_scopes.ensures c.clear_entries.ensures
