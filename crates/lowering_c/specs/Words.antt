-- The words that a call of `pattern_match` from C is handed in, and those of its answer. Assumes nothing: these are definitions.
use Rattle.std.specs.Prelude.{Some, None, Ok, Err}
use Rattle.std.specs.Prelude.{ℕ, ◌≡◌, cond, List, [], ◌∷◌, eqb, get_or}
use Rattle.row_tables.specs.Rows.{zeros}
use Rattle.refusals.specs.Refusals.{number_of, reason_of}
use Rattle.mir.specs.declared.Counts.{Counts}
use Rattle.state.specs.State.{Body}
use Rattle.lower_spec.specs.Results.{OptBlock}
use Rattle.pattern_calls_spec.specs.Results.{MatchCall}
use Rattle.pattern_matching.specs.Walking.{Out, local_place}
use Rattle.calls_spec.specs.Calls.{Called, body_after}
use Rattle.pattern_walk_spec.specs.Calls.{visits_after}
use Rattle.pattern_calls_spec.specs.Calls.{match_answer, match_way, match_ctx, pattern_match_call}
use Rattle.body_calls_spec.specs.declared.PatternCallError.{PatternCallError}

-- a block's number, or 65535 for none
unfoldable pub block_or_none : ℕ → OptBlock
block_or_none word = cond (eqb word 65535) None (Some (record { 0 = word }))

-- the five counts are the first words
unfoldable pub counts_of_words : List ℕ → Counts
counts_of_words words =
    record { blocks = get_or words 0 0; statements = get_or words 1 0; locals = get_or words 2 0; scopes = get_or words 3 0; entries = get_or words 4 0 }

unfoldable pub block_word : OptBlock → ℕ
block_word None = 65535
block_word (Some b) = b.0

-- a refusal: document 01's three numbers, and zeros
abbrev pub refusal_words : ℕ → ℕ → ℕ → List ℕ
refusal_words number p reason = number ∷ p ∷ reason ∷ zeros 7

-- the words of an answer: after three zeros the block where a match goes on, the one where a mismatch does, and the five counts
unfoldable pub answer_words : MatchCall → List ℕ
answer_words (Ok (c, then, els)) =
    0 ∷ 0 ∷ 0 ∷ then.0 ∷ block_word els ∷ c.blocks ∷ c.statements ∷ c.locals ∷ c.scopes ∷ c.entries ∷ []
answer_words (Err (PatternCallError.Refused e p)) = refusal_words (number_of e) p.0 (reason_of e)
answer_words (Err PatternCallError.BadCall) = refusal_words 2 65535 0
answer_words (Err PatternCallError.BadImage) = refusal_words 1 65535 0

-- what a call promises: the words of the answer, and the tables b' and v' at exit, are those that the definition gives, from the tables b and v
pub record Answered (b : Body) (v : List ℕ) (c : Counts) (defined : Called Out) (words : List ℕ) (b' : Body) (v' : List ℕ) : Type 0 where
  pub answers : words ≡ answer_words (match_answer c defined)
  pub tables : b' ≡ body_after match_way.state_of b c defined
  pub visits : v' ≡ visits_after match_ctx v defined

-- the contract, of what the call is handed, nine words among it: the five counts, the pattern, the block to start from, the else and the local
abbrev pub WordsGive : List ℕ → List ℕ → List ℕ → Body → List ℕ → List ℕ → Body → List ℕ → Type 0
WordsGive image bindings words b v =
    Answered b v (counts_of_words words)
    (pattern_match_call image bindings b (counts_of_words words) (get_or words 5 0) (record { 0 = get_or words 6 0 }) (block_or_none (get_or words 7 0)) (local_place (record { 0 = get_or words 8 0 })))
