-- The text of what a call of `lower_params_and_bindings` answers: the listing, and the locals of the parameters, of the bindings and in the scopes. Assumes nothing: these
-- are definitions.
use Rattle.std.specs.Prelude.{None, Ok, Err}
use Rattle.std.specs.Prelude.{ℕ, ◌+◌, ◌≤◌, List, ◌++◌, take}
use Rattle.refusals.specs.Refusals.{breaks_a_rule, names_nothing, refusal_at}
use Rattle.state.specs.State.{Body, decode}
use Rattle.views.specs.Views.{mir_of}
use Rattle.listing_text.specs.Listing.{listing, refusal_text}
use Rattle.calls_spec.specs.Calls.{Called, bad_image, bad_call, refused_at, accepted}
use Rattle.params_spec.specs.Results.{ParamsCall}
use Rattle.params_spec.specs.Params.{ParamsOut}
use Rattle.params_lines.specs.Lines.{lines_text}
use Rattle.body_calls_spec.specs.declared.PatternCallError.{PatternCallError}

-- the text of what the call gives, where the first parameter's local is `first` and there are so many
unfoldable pub call_text : ℕ → ℕ → Called ParamsOut → List ℕ
call_text first many bad_image = refusal_text breaks_a_rule
call_text first many bad_call = refusal_text names_nothing
call_text first many (refused_at e p) = refusal_text (refusal_at e p)
call_text first many (accepted r) = listing r.then None (mir_of r.ctx.state) ++ lines_text first many r.bindings r.ctx.state.entries

-- the text of an answer, where these are the body and the bindings' locals
unfoldable pub answer_text : Body → List ℕ → ℕ → ParamsCall → List ℕ
answer_text b bindings many (Ok (c, then, first)) =
    listing then None (mir_of (decode b c)) ++ lines_text first.0 many bindings (take c.entries b.entries)
answer_text b bindings many (Err (PatternCallError.Refused e p)) = refusal_text (refusal_at e p.0)
answer_text b bindings many (Err PatternCallError.BadCall) = refusal_text names_nothing
answer_text b bindings many (Err PatternCallError.BadImage) = refusal_text breaks_a_rule

-- the body of an accepted call can be listed: the counts are within the limits, and so are the parameters' locals
abbrev pub Listable : ℕ → ParamsCall → Type 0
Listable many (Ok (c, then, first)) =
    ((c.blocks ≤ 512) × (c.statements ≤ 1024) × (c.locals ≤ 512)) × (c.entries ≤ 1024) × (first.0 + many ≤ 65535)
Listable many (Err (PatternCallError.Refused e p)) = Unit
Listable many (Err PatternCallError.BadCall) = Unit
Listable many (Err PatternCallError.BadImage) = Unit
