use borrow.Author.Rules.{rules}
use mathlib.Core.Option.{none}
use borrow.Author.Tests.{ltb-true}
use Rattle.pattern_typing.specs.Making.{slice_made, list_made, pattern_row}
use Rattle.draft_tables.proofs.Chaining.{step_same}
use Rattle.draft_rows.specs.Nodes.{node_step}
use Rattle.draft_slices.proofs.Slicing.{numbered, unnumbered, numbered_within, slice_is_list, list_takes}
use Rattle.draft_slices.proofs.put_slice.Goals as goal

pub put_rest_slice-requires : goal.put_rest_slice-requires
put_rest_slice-requires c =
    let s = c.args in
    let p = c.requires in
    (p.0, (p.1.0, (p.1.1.0, (p.1.1.1.0, ltb-true s.before s.parts (numbered_within s.before s.parts c.if-before-ne65535.true p.1.1.1.1)))))

pub returns-then-before-ne65535 : goal.returns-then-before-ne65535
returns-then-before-ne65535 c = rw (numbered c.args.before c.if-before-ne65535.true) c.put_rest_slice.ensures

pub returns : goal.returns
returns c =
    let s = c.args in
    rw (unnumbered s.before c.if-before-ne65535.false) (λ sheet whole. step_same sheet s.tables s.draft.now s.c (node_step (list_made (pattern_row 8 s.ty s.derefs 0 0 0 65535)) s.parts sheet) (node_step (slice_made s.ty s.derefs none) s.parts sheet) c.put_list.result _ (λ names. slice_is_list sheet names s.ty s.derefs s.parts _) (c.put_list.ensures (list_takes s.ty s.derefs s.parts) sheet whole))
