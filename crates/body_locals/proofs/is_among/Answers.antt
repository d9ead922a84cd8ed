use mathlib.Core.Path.{ap, ◌∙◌}
use lib.ListN.{take}
use Rattle.std.proofs.lemmas.List.{take_min}
use Rattle.image.specs.Lists.{member}
use Rattle.body_locals.proofs.Holding.{meets_first, meets_it, meets_another, meets_end}
use Rattle.body_locals.proofs.is_among.Goals as goal
use Rattle.body_locals.proofs.is_among.Goals.{then-entry-l, else-entry-l}

pub loop-entry-preserved : goal.loop-entry-preserved
loop-entry-preserved c =
    elim c.if-entry-l.branch [
      | then-entry-l w ↦ rw w.held-is (meets_it c.args.l.0 (take c.min-count.result c.args.entries.now) c.loop-entry.held c.loop-entry.entry-index c.loop-entry.invariant c.loop-entry-test.true w.if-entry-l.true)
      | else-entry-l w ↦ rw w.held-is (meets_another c.args.l.0 (take c.min-count.result c.args.entries.now) c.loop-entry.held c.loop-entry.entry-index c.loop-entry.invariant c.loop-entry-test.true w.if-entry-l.false)
    ]

pub returns : goal.returns
returns c =
    meets_end c.args.l.0 (take c.min-count.result c.args.entries.now) c.loop-entry.held c.loop-entry.entry-index c.loop-entry.invariant c.loop-entry-test.false
    ∙ ap (member c.args.l.0) (ap (λ n. take n c.args.entries.now) c.min-count.ensures ∙ take_min c.args.counts.entries c.args.entries.now)
