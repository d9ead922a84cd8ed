use borrow.Author.Rules.{rules}
use Prim.Native.Nat.{ℕ, ◌+◌, ◌-◌, ◌<◌}
use mathlib.Core.Path.{◌≡◌, sym, ap, subst, ◌∙◌}
use mathlib.Core.Bool.{cond}
use native.Mathlib.Omega.{arith}
use borrow.Author.Tests.{eqb-true}
use lib.Dec.{eqb}
use lib.ListN.{get_or}
use Rattle.pattern_syntax.specs.Formed.{one_if}
use Rattle.draft_tables.specs.declared.DraftCounts.{DraftCounts}
use Rattle.draft_nodes.proofs.Words.{low_room}
use Rattle.draft_nodes.proofs.Ranges.{upper_place, range_stepped}
use Rattle.draft_nodes.proofs.put_range.Goals as goal

pub overflow_add-base : goal.overflow_add-base
overflow_add-base c =
    let s = c.args in
    let p = c.requires in
    omega (arith, c.flag_word.ensures, upper_place s.c.height s.parts (eqb s.lower 1) (eqb s.upper 1) p.1.1.0 p.1.1.1.0 (eqb-true s.parts (one_if (eqb s.lower 1) + one_if (eqb s.upper 1)) p.1.1.1.1))

pub bound_word-requires-2 : goal.bound_word-requires-2
bound_word-requires-2 c =
    let s = c.args in
    let p = c.requires in
    (p.0, omega (arith, c.flag_word.ensures, upper_place s.c.height s.parts (eqb s.lower 1) (eqb s.upper 1) p.1.1.0 p.1.1.1.0 (eqb-true s.parts (one_if (eqb s.lower 1) + one_if (eqb s.upper 1)) p.1.1.1.1)))

pub put_pattern-requires : goal.put_pattern-requires
put_pattern-requires c =
    let s = c.args in
    let p = c.requires in
    (p.0, (low_room s.tables s.draft.now p.0 s.c p.1.0 s.parts p.1.1.1.0 c.at_height.result c.at_height.ensures, subst (λ (d : DraftCounts). d.height < 16384) (sym c.at_height.ensures) (omega (arith, p.1.1.0))))

pub returns : goal.returns
returns c =
    let s = c.args in
    let p = c.requires in
    let upper : c.bound_word-2.result ≡ cond (eqb s.upper 1) (get_or s.draft.now (24320 + (s.c.height - s.parts + one_if (eqb s.lower 1))) 0) 65535 = c.bound_word-2.ensures ∙ ap (λ (k : ℕ). cond (eqb s.upper 1) (get_or s.draft.now (24320 + (s.c.height - s.parts + k)) 0) 65535) c.flag_word.ensures in
    λ sheet whole. range_stepped s.tables s.draft.now p.0 s.c p.1.0 s.parts p.1.1.1.0 sheet s.ty s.derefs (eqb s.lower 1) (eqb s.upper 1) (eqb s.dots 1) (eqb-true s.parts (one_if (eqb s.lower 1) + one_if (eqb s.upper 1)) p.1.1.1.1) c.at_height.result _ c.put_pattern.result _ c.at_height.ensures (λ i. record { kind = 7; ty = s.ty; derefs = s.derefs; a = c.bound_word.ensures i; b = upper i; c = c.flag_word-2.ensures i; d = 0 }) (c.put_pattern.ensures sheet whole)
