use borrow.Author.Rules.{rules}
use borrow.Author.Tests.{ne_eqb}
use Rattle.name_resolving.specs.Gives.{refused_of, resolved_of}
use Rattle.node_rows.specs.Makings.{making_of}
use Rattle.type_parts.specs.Parts.{parts_of}
use Rattle.node_rows.specs.Nodes.{name_in, node_of}
use Rattle.name_resolving.proofs.Ways.{refused_gives}
use Rattle.pattern_typing.specs.Resolving.{resolved_node}
use Rattle.node_resolving.proofs.nodes.resolve_node.Goals as goal

pub returns-in-0 : goal.returns-in-0
unfolding node_of resolved_node name_in resolved_of refused_of making_of parts_of
returns-in-0 c = record { same = λ text. rw (c.in-0.is, c.whole_made.ensures); parts = rw c.whole_made.ensures }

pub returns-in-1 : goal.returns-in-1
unfolding node_of resolved_node name_in resolved_of refused_of making_of parts_of
returns-in-1 c = record { same = λ text. rw (c.in-1.is, c.whole_made-in-1.ensures); parts = rw c.whole_made-in-1.ensures }

pub returns-in-2 : goal.returns-in-2
unfolding node_of resolved_node name_in
returns-in-2 c = record { same = λ text. rw c.in-2.is (c.resolve_literal.ensures.same text c.args.spelled.now); parts = c.resolve_literal.ensures.parts }

pub returns-in-3 : goal.returns-in-3
unfolding node_of resolved_node name_in
returns-in-3 c = record { same = λ text. rw c.in-3.is (c.resolve_bound.ensures.same text c.args.spelled.now); parts = c.resolve_bound.ensures.parts }

pub returns-in-4 : goal.returns-in-4
unfolding node_of resolved_node name_in
returns-in-4 c = record { same = λ text. rw c.in-4.is (c.resolve_bound_path.ensures.same text); parts = c.resolve_bound_path.ensures.parts }

pub returns-in-5 : goal.returns-in-5
unfolding node_of resolved_node name_in
returns-in-5 c = record { same = λ text. rw c.in-5.is (c.resolve_range.ensures.same text c.args.spelled.now); parts = c.resolve_range.ensures.parts }

pub returns-in-6 : goal.returns-in-6
unfolding node_of resolved_node name_in
returns-in-6 c = record { same = λ text. rw c.in-6.is (c.resolve_path.ensures.same text); parts = c.resolve_path.ensures.parts }

pub returns-in-7 : goal.returns-in-7
unfolding node_of resolved_node name_in
returns-in-7 c = record { same = λ text. rw c.in-7.is (c.resolve_ident.ensures.same text); parts = c.resolve_ident.ensures.parts }

pub returns-in-8 : goal.returns-in-8
unfolding node_of resolved_node name_in
returns-in-8 c = record { same = λ text. rw c.in-8.is (c.resolve_reference.ensures.same text c.args.spelled.now); parts = c.resolve_reference.ensures.parts }

pub returns-in-9 : goal.returns-in-9
unfolding node_of resolved_node name_in
returns-in-9 c = record { same = λ text. rw c.in-9.is (c.resolve_tuple.ensures.same text c.args.spelled.now); parts = c.resolve_tuple.ensures.parts }

pub returns-in-10 : goal.returns-in-10
unfolding node_of resolved_node name_in
returns-in-10 c = record { same = λ text. rw c.in-10.is (c.resolve_tuple_struct.ensures.same text); parts = c.resolve_tuple_struct.ensures.parts }

pub returns-in-11 : goal.returns-in-11
unfolding node_of resolved_node name_in
returns-in-11 c = record { same = λ text. rw c.in-11.is (c.resolve_slice.ensures.same text c.args.spelled.now); parts = c.resolve_slice.ensures.parts }

pub returns-in-12 : goal.returns-in-12
unfolding node_of resolved_node name_in
returns-in-12 c = record { same = λ text. rw c.in-12.is (c.resolve_record.ensures.same text); parts = c.resolve_record.ensures.parts }

pub returns-in-13 : goal.returns-in-13
unfolding node_of resolved_node name_in
returns-in-13 c = refused_gives _ _ _ _ c.refused_here.ensures (λ text. rw c.in-13.is)

pub returns-in_default : goal.returns-in_default
unfolding node_of resolved_node name_in
returns-in_default c = record { same = λ text. rw (ne_eqb _ 0 c.in_default.in_default-own.rest.0.0.0.0.0.0.0.0.0.0.0.0.0.1, ne_eqb _ 1 c.in_default.in_default-own.rest.0.0.0.0.0.0.0.0.0.0.0.0.1, ne_eqb _ 2 c.in_default.in_default-own.rest.0.0.0.0.0.0.0.0.0.0.0.1, ne_eqb _ 3 c.in_default.in_default-own.rest.0.0.0.0.0.0.0.0.0.0.1, ne_eqb _ 4 c.in_default.in_default-own.rest.0.0.0.0.0.0.0.0.0.1, ne_eqb _ 5 c.in_default.in_default-own.rest.0.0.0.0.0.0.0.0.1, ne_eqb _ 6 c.in_default.in_default-own.rest.0.0.0.0.0.0.0.1, ne_eqb _ 7 c.in_default.in_default-own.rest.0.0.0.0.0.0.1, ne_eqb _ 8 c.in_default.in_default-own.rest.0.0.0.0.0.1, ne_eqb _ 9 c.in_default.in_default-own.rest.0.0.0.0.1, ne_eqb _ 10 c.in_default.in_default-own.rest.0.0.0.1, ne_eqb _ 11 c.in_default.in_default-own.rest.0.0.1, ne_eqb _ 12 c.in_default.in_default-own.rest.0.1, ne_eqb _ 13 c.in_default.in_default-own.rest.1) (c.resolve_or.ensures.same text c.args.spelled.now); parts = c.resolve_or.ensures.parts }
