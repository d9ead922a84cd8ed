use borrow.Author.Rules.{rules}
use Prim.Native.Nat.{◌+◌}
use mathlib.Core.Path.{◌≡◌, refl, sym, subst}
use native.Mathlib.Omega.{arith}
use lib.ListN.{length, take, drop, length-drop}
use lib.Seq.{length-take-le}
use Rattle.draft_tables.specs.Layout.{HoldsWords}
use Rattle.draft_tables.proofs.Parts.{holds_words}
use Rattle.draft_tables.proofs.push_list.Goals as goal

pub returns : goal.returns
returns c =
    let s = c.args in
    let t = s.draft.now in
    let size = c.requires.0.0 in
    let row = take s.many (drop (24320 + s.from) t) in
    let long : length row ≡ s.many = length-take-le s.many (drop (24320 + s.from) t) (omega (arith, length-drop (24320 + s.from) t, size, c.requires.0.1)) in
    (refl, subst (HoldsWords t s.c row s.many) (sym c.copy_words.ensures) (holds_words t size s.c c.requires.1.0 row s.many long c.requires.1.1))
