use borrow.Author.Rules.{rules}
use borrow.Author.Tests.{not-true, not-false}
use Rattle.pattern_entering.proofs.Visiting.{project_stops, project_goes}
use Rattle.pattern_parts.proofs.Filling.{rest_stops, rest_filled_lem}
use Rattle.pattern_parts.proofs.bindings.fill_rest.Goals as goal

pub returns-then-not-part : goal.returns-then-not-part
returns-then-not-part c = rest_stops _ _ _ _ _ _ _ _ _ _ _ _ (project_stops _ _ c.project-part.ensures ((not-true (_) c.if-not-part.true)))

pub returns : goal.returns
returns c = rest_filled_lem _ _ _ _ _ _ _ _ _ _ _ _ (project_goes _ _ c.project-part.ensures ((not-false (_) c.if-not-part.false))) c.pattern_match_binding.ensures
