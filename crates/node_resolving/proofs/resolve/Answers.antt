use borrow.Author.Rules.{rules}
use mathlib.Core.Path.{refl}
use Rattle.name_resolving.specs.Gives.{refused_of, resolved_of}
use Rattle.node_rows.specs.Makings.{making_of}
use Rattle.type_parts.specs.Parts.{parts_of}
use Rattle.name_resolving.proofs.Ways.{refused_gives}
use Rattle.pattern_typing.specs.Resolving.{resolved}
use Rattle.type_parts.specs.Parts.{context_of}
use Rattle.node_resolving.proofs.resolve.Goals as goal

pub resolve_rest-requires : goal.resolve_rest-requires
unfolding context_of
resolve_rest-requires c = (c.requires.0, c.requires.1, c.requires.2, rw c.in-RestAmong.is at c.requires.3)

pub returns-in-Typed : goal.returns-in-Typed
unfolding resolved context_of
returns-in-Typed c = rw c.in-Typed.is c.resolve_node.ensures

pub returns-in-RestAmong : goal.returns-in-RestAmong
unfolding resolved context_of
returns-in-RestAmong c = rw c.in-RestAmong.is c.resolve_rest.ensures

pub returns-in-FieldAt : goal.returns-in-FieldAt
unfolding resolved context_of
returns-in-FieldAt c = rw c.in-FieldAt.is c.resolve_field.ensures

pub returns-in-Partless : goal.returns-in-Partless
unfolding resolved context_of
returns-in-Partless c = rw c.in-Partless.is (refused_gives _ _ _ _ c.refused_here.ensures (λ text. refl))

pub returns-in-Unseen : goal.returns-in-Unseen
unfolding resolved context_of resolved_of refused_of making_of parts_of
returns-in-Unseen c = rw c.in-Unseen.is (rw c.not_made.ensures (record { same = λ text. refl; parts = refl }))
