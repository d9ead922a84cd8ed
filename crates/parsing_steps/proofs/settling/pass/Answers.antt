use Rattle.parsing_steps.proofs.Passing.{zero_of}
use Prim.Native.Nat.{◌+◌, ◌-◌}
use mathlib.Core.Path.{◌≡◌, refl, sym, ◌∙◌}
use native.Mathlib.Omega.{arith}
use Rattle.parsing_steps.proofs.Passing.{parts_fit_lem, passes_one, passes_none, passes_nothing}
use Rattle.parsing_steps.proofs.settling.pass.Goals as goal

pub loop-d-init : goal.loop-d-init
loop-d-init c = record { goes = λ text names. refl; total = refl; shallow = omega arith }

pub node_at-f-requires : goal.node_at-f-requires
node_at-f-requires c = omega (arith, c.loop-d.invariant.shallow, c.requires.0)

pub returns-then-not-passes : goal.returns-then-not-passes
returns-then-not-passes c =
    let back : c.loop-d.d - 1 + 1 ≡ c.loop-d.d = omega arith in
    rw back (record { goes = c.loop-d.invariant.goes; rests = passes_none _ _ _ _ (omega arith) c.node_at-f.ensures (sym c.passes.ensures ∙ c.if-not-passes.true); total = c.loop-d.invariant.total; shallow = c.loop-d.invariant.shallow })

pub grown_row-requires : goal.grown_row-requires
grown_row-requires c = parts_fit_lem _ c.requires.1 (omega (arith, c.loop-d.invariant.shallow)) c.node_at-f.ensures

pub put_node-requires : goal.put_node-requires
put_node-requires c = omega (arith, c.loop-d.invariant.total, c.requires.0)

pub overflow_add-n : goal.overflow_add-n
overflow_add-n c = omega (arith, c.loop-d.invariant.total, c.requires.0)

pub loop-d-preserved : goal.loop-d-preserved
loop-d-preserved c = passes_one _ _ c.loop-d.invariant (omega arith) (omega arith) c.node_at-f.ensures (sym c.passes.ensures ∙ c.if-not-passes.false) c.grown_row.ensures c.put_node.ensures

pub returns : goal.returns
returns c = record { goes = λ text names. rw (zero_of c.loop-d-test.false) at (c.loop-d.invariant.goes text names); rests = passes_nothing _ _ refl; total = omega (arith, c.loop-d.invariant.total); shallow = omega arith }
