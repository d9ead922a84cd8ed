-- The answer of `pattern_match` in words, and the call as its words say. Assumes nothing.
use Rattle.std.specs.Prelude.{Ok, Err}
use Prim.Native.Nat.{ℕ}
use mathlib.Core.Path.{◌≡◌, ap, ◌∙◌}
use mathlib.Core.List.{List, [], ◌∷◌}
use Rattle.refusals.specs.declared.MirLowerError.{MirLowerError}
use Rattle.refusals.specs.Refusals.{number_of, reason_of}
use Rattle.image.specs.declared.PatId.{PatId}
use Rattle.place.specs.declared.Place.{Place}
use Rattle.mir.specs.declared.BasicBlockId.{BasicBlockId}
use Rattle.mir.specs.declared.Counts.{Counts}
use Rattle.state.specs.State.{Body}
use Rattle.lower_spec.specs.Results.{OptBlock}
use Rattle.pattern_calls_spec.specs.Results.{MatchCall}
use Rattle.pattern_walk_spec.specs.Calls.{Visits}
use Rattle.pattern_calls_spec.specs.Calls.{pattern_match_call, match_way, match_ctx}
use Rattle.pattern_calls_spec.proofs.Stepping.{visits_by}
use Rattle.lowering_c.specs.Words.{block_word, answer_words, refusal_words, Answered}
use Rattle.body_calls_spec.specs.declared.PatternCallError.{PatternCallError}

-- the words of a match
pub matched_words : {call : MatchCall} {c : Counts} {then : BasicBlockId} {els : OptBlock} {e : ℕ} → call ≡ Ok (c, then, els) → e ≡ block_word els →
    0 ∷ 0 ∷ 0 ∷ then.0 ∷ e ∷ c.blocks ∷ c.statements ∷ c.locals ∷ c.scopes ∷ c.entries ∷ [] ≡ answer_words call
unfolding answer_words
matched_words is els = rw (is, els)

-- the words of a refusal
pub refused_words : {call : MatchCall} {e : MirLowerError} {p : PatId} {number reason : ℕ} → call ≡ Err (PatternCallError.Refused e p) → number ≡ number_of e → reason ≡ reason_of e →
    refusal_words number p.0 reason ≡ answer_words call
unfolding answer_words
refused_words is number reason = rw (is, number, reason)

-- what the call gives is handed out: e is the else that its words say
pub hands_out : (image bindings : List ℕ) (p : ℕ) (current : BasicBlockId) (place : Place) {b b' : Body} {v v' : List ℕ} {c : Counts} {e e' : OptBlock} {r : MatchCall} {words : List ℕ} →
    e ≡ e' → Visits match_way match_ctx b v c (pattern_match_call image bindings b c p current e place) r b' v' → words ≡ answer_words r →
    Answered b v c (pattern_match_call image bindings b c p current e' place) words b' v'
hands_out image bindings p current place {b = b} {v = v} {c = c} ise G is =
    let G' = visits_by (λ i. pattern_match_call image bindings b c p current (ise i) place) G in
    record { answers = is ∙ ap answer_words G'.gives.reply; tables = G'.gives.tables; visits = G'.visits }
