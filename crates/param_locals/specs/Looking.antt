-- What a call on parameters is handed, looked at before anything is written. Assumes nothing: these are definitions.
use Rattle.std.specs.Prelude.{Ok, Err}
use Rattle.std.specs.Prelude.{ℕ, ◌≡◌, true, cond, ◌&&◌, List}
use Rattle.image.specs.declared.Tables.{Tables}
use Rattle.image.specs.Tables.{tables_of}
use Rattle.image.specs.Valid.{valid}
use Rattle.mir.specs.declared.BasicBlockId.{BasicBlockId}
use Rattle.mir.specs.declared.Counts.{Counts}
use Rattle.state.specs.State.{Body}
use Rattle.body_calls_spec.specs.Results.{Opened}
use Rattle.body_calls_spec.specs.Calls.{body_taken}
use Rattle.body_calls_spec.specs.Sizes.{TakenLengths, Taken}
use Rattle.params_spec.specs.Results.{SelfParam}
use Rattle.params_spec.specs.Calls.{list_holds, params_hold}
use Rattle.body_calls_spec.specs.declared.Unopened.{Unopened}

-- the tables' places, where image, list, body and the call's own values are taken
unfoldable pub opened_params : List ℕ → List ℕ → SelfParam → List ℕ → Body → Counts → BasicBlockId → Opened
opened_params image words self bindings b c current =
    cond (valid image && list_holds image self words)
    (cond (body_taken image b c && params_hold image self bindings b.blocks c current) (Ok (tables_of image)) (Err Unopened.BadCall)) (Err Unopened.BadImage)

-- what `open_params` answers
pub record OpensParams (image words : List ℕ) (self : SelfParam) (bindings : List ℕ) (b : Body) (c : Counts) (current : BasicBlockId) (r : Opened) : Type 0 where
  pub answer : r ≡ opened_params image words self bindings b c current
  pub lengths : TakenLengths r b

-- image, list, body and the call's own values are taken
pub record ParamsTaken (image : List ℕ) (tables : Tables) (words : List ℕ) (self : SelfParam) (bindings : List ℕ) (b : Body) (c : Counts) (current : BasicBlockId) : Type 0 where
  pub both : Taken image tables b c
  pub list : list_holds image self words ≡ true
  pub call : params_hold image self bindings b.blocks c current ≡ true
