-- What the listing program prints for an image. Assumes nothing: these are definitions.
use Rattle.std.specs.Prelude.{None, Ok, Err}
use Rattle.std.specs.Prelude.{ℕ, ◌≤◌, ◌<◌, ◌≡◌, cond, List, ◌++◌, length, drop}
use Rattle.std.proofs.Math.Option.{Option, none, some}
use Rattle.refusals.specs.Refusals.{breaks_a_rule, names_nothing, refusal_at}
use Rattle.image.specs.Valid.{valid}
use Rattle.state.specs.State.{Body, decode, encode, counts_of}
use Rattle.views.specs.Views.{mir_of}
use Rattle.listing_text.specs.Listing.{listing, refusal_text}
use Rattle.pattern_matching.specs.Walking.{Out, local_place}
use Rattle.pattern_calls_spec.specs.Results.{MatchCall}
use Rattle.calls_spec.specs.Calls.{Called, bad_image, bad_call, refused_at, accepted}
use Rattle.pattern_calls_spec.specs.Calls.{pattern_match_call}
use Rattle.listing_start.specs.Started.{last_pattern, start_type, start_state, binding_locals}
use Rattle.body_calls_spec.specs.declared.PatternCallError.{PatternCallError}

-- the call of `pattern_match`: from block 0, with no else, on local 0 of the type t
unfoldable pub listing_call : List ℕ → ℕ → Called Out
listing_call image t =
    pattern_match_call image (binding_locals image) (encode (start_state image t)) (counts_of (start_state image t)) (last_pattern image)
    (record { 0 = 0 }) None (local_place (record { 0 = 0 }))

-- the text of what the call gives: the listing, or the refusal
unfoldable pub call_text : Called Out → List ℕ
call_text bad_image = refusal_text breaks_a_rule
call_text bad_call = refusal_text names_nothing
call_text (refused_at e p) = refusal_text (refusal_at e p)
call_text (accepted r) = listing r.then r.else (mir_of r.ctx.state)

-- "(2 if none)"
unfoldable pub typed_text : List ℕ → Option ℕ → List ℕ
typed_text image none = refusal_text names_nothing
typed_text image (some t) = call_text (listing_call image t)

-- what is printed for an image
unfoldable pub image_text : List ℕ → List ℕ
image_text image = cond (valid image) (typed_text image (start_type image)) (refusal_text breaks_a_rule)

-- the text of an answer, where the body is this
unfoldable pub answer_text : Body → MatchCall → List ℕ
answer_text b (Ok (c, then, els)) = listing then els (mir_of (decode b c))
answer_text b (Err (PatternCallError.Refused e p)) = refusal_text (refusal_at e p.0)
answer_text b (Err PatternCallError.BadCall) = refusal_text names_nothing
answer_text b (Err PatternCallError.BadImage) = refusal_text breaks_a_rule

-- the body of an accepted call can be listed: the counts are within the limits
abbrev pub Listable : MatchCall → Type 0
Listable (Ok (c, then, els)) = (c.blocks ≤ 512) × (c.statements ≤ 1024) × (c.locals ≤ 512)
Listable (Err (PatternCallError.Refused e p)) = Unit
Listable (Err PatternCallError.BadCall) = Unit
Listable (Err PatternCallError.BadImage) = Unit

-- A text stands at the start of a buffer, what lay behind it is as it was, and r says how many bytes the text has, if there was room for it, and otherwise 0: `before` lies
-- in the buffer before, and `after` after.
pub record Printed (before text : List ℕ) (r : ℕ) (after : List ℕ) : Type 0 where
  pub within : r ≤ length before
  pub stands : length text ≤ length before → (r ≡ length text) × (after ≡ text ++ drop (length text) before)
  pub no_room : length before < length text → r ≡ 0
