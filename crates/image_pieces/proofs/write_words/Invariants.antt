use Prim.Native.Nat.{◌*◌}
use lib.ListN.{take, drop}
use Rattle.row_tables.proofs.Loops.{Storing}
use Rattle.pattern_images.specs.Imaging.{words_bytes}
use Rattle.image_pieces.proofs.write_words.Given as goal

abbrev pub invariant-loop-i : goal.invariant-loop-i
invariant-loop-i l = Storing l.initial.image l.at (words_bytes (take l.many (drop l.from l.source))) (2 * l.i) l.image
