-- What is printed for a call on parameters: an image, and words for the opened scopes, self and the list. Assumes nothing: these are definitions.
use Rattle.std.specs.Prelude.{ℕ, cond, ◌&&◌, List, ltb, length, drop}
use Rattle.refusals.specs.Refusals.{names_nothing}
use Rattle.image.specs.Valid.{valid}
use Rattle.listing_text.specs.Listing.{refusal_text}
use Rattle.params_spec.specs.Results.{SelfParam}
use Rattle.params_text.specs.Texts.{call_text}
use Rattle.params_start.specs.Started.{call_words, many_of, start_call}

-- the text of the call from the start
unfoldable pub start_text : List ℕ → ℕ → SelfParam → List ℕ → List ℕ
start_text image opened self list = call_text 0 (many_of self (length list)) (start_call image opened self list)

-- what is printed for an image and words, the first four and the list: fewer than four words name nothing, and "1 is tried before 2"
unfoldable pub params_text : List ℕ → List ℕ → List ℕ
params_text image words =
    cond (valid image && ltb (length words) 4) (refusal_text names_nothing) (start_text image (call_words words).opened (call_words words).receiver (drop 4 words))
