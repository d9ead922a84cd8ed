-- The public calls on patterns: every image, body and number is taken, or refused by document 01's number. Assumes nothing: these are definitions.
use Rattle.std.specs.Prelude.{None, Ok, Err}
use Rattle.std.specs.Prelude.{ℕ, List}
use Rattle.std.proofs.Math.Option.{Option, none, some}
use Rattle.refusals.specs.Refusals.{Refusal, breaks_a_rule, names_nothing, refusal_at}
use Rattle.image.specs.Tables.{variant_count, pattern_count, binding_count}
use Rattle.image.specs.Tree.{tree}
use Rattle.place.specs.declared.LocalId.{LocalId}
use Rattle.place.specs.declared.Place.{Place}
use Rattle.mir.specs.declared.BasicBlockId.{BasicBlockId}
use Rattle.mir.specs.declared.Counts.{Counts}
use Rattle.state.specs.State.{Body, counts_of}
use Rattle.lower_spec.specs.Results.{OptBlock}
use Rattle.calls_spec.specs.Calls.{Called, bad_image, bad_call, refused_at, accepted}
use Rattle.calls_spec.specs.Promises.{Way, Gives}
use Rattle.body_calls_spec.specs.Calls.{body_call}
use Rattle.pattern_matching.specs.Walking.{Ctx, Out}
use Rattle.pattern_matching.specs.Patterns.{pattern_match, pattern_match_assignment, match_self_param}
use Rattle.pattern_walk_spec.specs.Calls.{by_walk, start_ctx, Visits}
use Rattle.pattern_calls_spec.specs.Results.{MatchCall}
use Rattle.handed.specs.Handed.{Named, match_holds, self_holds}
use Rattle.body_calls_spec.specs.declared.PatternCallError.{PatternCallError}

-- how many variants, patterns and bindings an image has
abbrev pub named_in : List ℕ → Named
named_in image = record { variants = variant_count image; patterns = pattern_count image; bindings = binding_count image }

-- `pattern_match`
unfoldable pub pattern_match_call : List ℕ → List ℕ → Body → Counts → ℕ → BasicBlockId → OptBlock → Place → Called Out
pattern_match_call image bindings b c p current els place =
    body_call image b c (match_holds (named_in image) bindings b.blocks c p current els place)
    (by_walk (pattern_match image bindings (tree image p) (start_ctx b c) current els place))

-- `pattern_match_assignment`: it has no else
unfoldable pub pattern_match_assignment_call : List ℕ → List ℕ → Body → Counts → ℕ → BasicBlockId → Place → Called Out
pattern_match_assignment_call image bindings b c p current place =
    body_call image b c (match_holds (named_in image) bindings b.blocks c p current None place)
    (by_walk (pattern_match_assignment image bindings (tree image p) (start_ctx b c) current place))

-- `match_self_param`: it visits no pattern
unfoldable pub match_self_param_call : List ℕ → List ℕ → Body → Counts → ℕ → BasicBlockId → LocalId → Called Out
match_self_param_call image bindings b c binding current l =
    body_call image b c (self_holds (named_in image) bindings b.blocks c binding current l.0)
    (by_walk (match_self_param image bindings binding (start_ctx b c) current l))

-- the answer: the counts, then and else, or why it was refused
abbrev pub match_answer : Counts → Called Out → MatchCall
match_answer c bad_image = Err PatternCallError.BadImage
match_answer c bad_call = Err PatternCallError.BadCall
match_answer c (refused_at e p) = Err (PatternCallError.Refused e (record { 0 = p }))
match_answer c (accepted r) = Ok (counts_of r.ctx.state, r.then, r.else)

-- document 01's three numbers, where it is a refusal
abbrev pub match_refusal : MatchCall → Option Refusal
match_refusal (Ok (c, then, els)) = none
match_refusal (Err (PatternCallError.Refused e p)) = some (refusal_at e p.0)
match_refusal (Err PatternCallError.BadCall) = some names_nothing
match_refusal (Err PatternCallError.BadImage) = some breaks_a_rule

-- how each call answers, and the context that an accepted walk leaves
abbrev pub match_way : Way Out MatchCall
match_way = record { state_of = λ r. r.ctx.state; answer = match_answer; numbers = match_refusal }

abbrev pub match_ctx : Out → Ctx
match_ctx r = r.ctx

-- The contracts, of what a call is handed, b and v being the body and the visits then, its answer r, and the body and the visits when it returns. `pattern_match`:
abbrev pub MatchGives : List ℕ → List ℕ → Counts → ℕ → BasicBlockId → OptBlock → Place → Body → List ℕ → MatchCall → Body → List ℕ → Type 0
MatchGives image bindings c p current els place b v = Visits match_way match_ctx b v c (pattern_match_call image bindings b c p current els place)

-- `pattern_match_assignment`
abbrev pub AssignmentGives : List ℕ → List ℕ → Counts → ℕ → BasicBlockId → Place → Body → List ℕ → MatchCall → Body → List ℕ → Type 0
AssignmentGives image bindings c p current place b v = Visits match_way match_ctx b v c (pattern_match_assignment_call image bindings b c p current place)

-- `match_self_param`
abbrev pub SelfGives : List ℕ → List ℕ → Counts → ℕ → BasicBlockId → LocalId → Body → MatchCall → Body → Type 0
SelfGives image bindings c binding current l b = Gives match_way b c (match_self_param_call image bindings b c binding current l)
