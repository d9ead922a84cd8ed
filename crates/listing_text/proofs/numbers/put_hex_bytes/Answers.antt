use Rattle.listing_text.proofs.Pieces.{and_then_lem}
use Rattle.listing_text.proofs.Loops.{going_start, going_more, going_end}
use Rattle.listing_text.proofs.Digits.{bytes_begin, bytes_more_lem, bytes_end}
use Rattle.listing_text.proofs.numbers.put_hex_bytes.Goals as goal

pub loop-init : goal.loop-init
loop-init c = going_start c.put-written.ensures (bytes_begin c.args.count c.args.n)

pub loop-preserved : goal.loop-preserved
loop-preserved c = going_more c.loop.invariant c.put_low_byte-written.ensures c.put_low_byte-written.auto.out (bytes_more_lem c.args.count c.loop.counter c.loop.left c.loop-test.true)

pub returns : goal.returns
returns c = and_then_lem c.put-written.ensures (going_end c.loop.invariant (bytes_end c.args.count c.loop.counter c.loop.left c.loop-test.false))
