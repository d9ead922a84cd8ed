use borrow.Author.Rules.{rules}
use Rattle.name_resolving.proofs.Ways.{refused_gives, gives_as}
use Rattle.part_resolving.proofs.BoundRests.{slice_rest, no_rest_lem, short_rest, array_rest}
use Rattle.part_resolving.proofs.rests.resolve_bound_rest.Goals as goal

pub returns-then-row-eq9 : goal.returns-then-row-eq9
returns-then-row-eq9 c = gives_as _ (λ text. slice_rest _ _ _ _ _ _ _ c.type_in-row.ensures c.if-row-eq9.true) c.bind_rest.ensures

pub returns-then-row-ne8 : goal.returns-then-row-ne8
returns-then-row-ne8 c = refused_gives _ _ _ _ c.refused_here.ensures (λ text. no_rest_lem _ _ _ _ _ _ _ c.type_in-row.ensures c.if-row-eq9.false c.if-row-ne8.true)

pub returns-then-row-others : goal.returns-then-row-others
returns-then-row-others c = refused_gives _ _ _ _ c.refused_here-then-row-others.ensures (λ text. short_rest _ _ _ _ _ _ _ c.type_in-row.ensures c.if-row-eq9.false c.if-row-ne8.false c.if-row-others.true)

pub returns : goal.returns
returns c = gives_as _ (λ text. array_rest _ _ _ _ _ _ _ c.requires.2 c.requires.3 c.type_in-row.ensures c.type_in-element.ensures c.flag_word-copy.ensures c.if-row-eq9.false c.if-row-ne8.false c.if-row-others.false) c.bind_rest-2.ensures
