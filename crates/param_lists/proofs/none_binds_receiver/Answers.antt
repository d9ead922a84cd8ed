use native.Mathlib.Omega.{arith}
use Rattle.param_lists.proofs.Listing.{first_pattern}
use Rattle.param_lists.proofs.Apart.{looks_begin, looks_end, looks_found, looks_again, looks_next}
use Rattle.param_lists.proofs.none_binds_receiver.Goals as goal

pub loop-i-init : goal.loop-i-init
loop-i-init c = looks_begin _ _ _ c.requires.1

pub binds_receiver-requires : goal.binds_receiver-requires
binds_receiver-requires c = (c.requires.0, first_pattern c.loop-i.invariant.listed (λ e. omega (arith, c.loop-i-test.true)))

pub returns-then-binds_receiver : goal.returns-then-binds_receiver
returns-then-binds_receiver c = looks_found _ _ _ c.loop-i.invariant (λ e. omega (arith, c.loop-i-test.true)) c.binds_receiver.ensures c.if-binds_receiver.true

pub loop-i-preserved : goal.loop-i-preserved
loop-i-preserved c = looks_next _ _ _ _ _ (looks_again _ _ _ c.loop-i.invariant (λ e. omega (arith, c.loop-i-test.true)) c.binds_receiver.ensures c.if-binds_receiver.false)

pub returns : goal.returns
returns c = looks_end _ _ _ c.loop-i.invariant (omega (arith, c.loop-i-test.false))
