-- What a call on parameters starts from: block 0, and words for the opened scopes, self and the list. Assumes nothing: these are definitions.
use Rattle.std.specs.Prelude.{Some, None}
use Rattle.std.specs.Prelude.{ℕ, ◌+◌, ◌/◌, ◌≡◌, cond, List, [], ◌∷◌, eqb, leb, get_or, replicate}
use Rattle.row_tables.specs.Rows.{zeros}
use Rattle.image.specs.Tables.{binding_count}
use Rattle.mir.specs.declared.Counts.{Counts}
use Rattle.state.specs.State.{Body, State, encode, counts_of}
use Rattle.params_spec.specs.Results.{SelfParam}
use Rattle.calls_spec.specs.Calls.{Called}
use Rattle.params_spec.specs.Params.{ParamsOut, self_count}
use Rattle.params_spec.specs.Calls.{params_call}
use Rattle.params_start.specs.declared.CallWords.{CallWords}

-- block 0 opened, no local, and a scope or none
unfoldable pub start_state : ℕ → State
start_state opened =
    record {
      blocks = zeros 12 ∷ [];
      statements = [];
      locals = [];
      scopes = cond (eqb opened 0) [] (0 ∷ []);
      entries = [];
    }

-- self, by a word that is 0 for none, its binding and its type
unfoldable pub receiver : ℕ → ℕ → ℕ → SelfParam
receiver own binding ty = cond (eqb own 0) None (Some (record { 0 = binding }, ty))

-- the words of a call: the opened scopes, 1 or 0 for self or none, and self's binding and type
unfoldable pub call_words : List ℕ → CallWords
call_words words = record { opened = get_or words 0 0; receiver = receiver (get_or words 1 0) (get_or words 2 0) (get_or words 3 0) }

-- no binding has a local
abbrev pub unbound : List ℕ → List ℕ
unbound image = replicate (binding_count image) 65535

-- how many locals self and the list have; a list of more than 64 parameters is not taken
unfoldable pub many_of : SelfParam → ℕ → ℕ
many_of self size = cond (leb size 128) (size / 2 + self_count self) 0

-- the call from the start, for an image, the opened scopes, self and the list
unfoldable pub start_call : List ℕ → ℕ → SelfParam → List ℕ → Called ParamsOut
start_call image opened self list =
    params_call image list self (unbound image) (encode (start_state opened)) (counts_of (start_state opened)) (record { 0 = 0 })

-- what the call is handed at the start
pub record Starts (image : List ℕ) (opened : ℕ) (m : List ℕ) (b : Body) (v : List ℕ) (c : Counts) : Type 0 where
  pub bindings : m ≡ unbound image
  pub tables : b ≡ encode (start_state opened)
  pub visits : v ≡ zeros 512
  pub counts : c ≡ counts_of (start_state opened)
