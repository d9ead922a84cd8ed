-- `open_params`: its ways through the code, and what its answers say. Assumes nothing.
use Rattle.std.specs.Prelude.{Some, None, Ok, Err}
use Prim.Native.Nat.{ℕ}
use mathlib.Core.Path.{◌≡◌, refl, sym, ap, ◌∙◌}
use mathlib.Core.Bool.{Bool, true, false, cond, ◌&&◌}
use mathlib.Core.List.{List}
use native.Mathlib.Omega.{arith}
use Rattle.image.specs.declared.Tables.{Tables}
use Rattle.image.specs.Tables.{Whole, tables_of}
use Rattle.image.specs.Valid.{valid}
use Rattle.image.proofs.Bools.{and_left, and_right}
use Rattle.read_image.specs.Read.{read_of}
use Rattle.mir.specs.declared.BasicBlockId.{BasicBlockId}
use Rattle.mir.specs.declared.Counts.{Counts}
use Rattle.state.specs.State.{Body}
use Rattle.body_row_rules.specs.Bodies.{body_holds}
use Rattle.body_calls_spec.specs.Results.{Opened}
use Rattle.body_calls_spec.specs.Calls.{body_taken}
use Rattle.calls_spec.specs.Lengths.{Lengths}
use Rattle.body_calls_spec.proofs.Prologue.{read_valid, read_refused, whole_of, opens_image, opens_no_body, not_taken, Looked, looked}
use Rattle.params_spec.specs.Results.{SelfParam}
use Rattle.params_spec.specs.Calls.{list_holds, params_hold}
use Rattle.param_locals.specs.Looking.{opened_params, ParamsTaken}
use Rattle.body_calls_spec.specs.declared.Unopened.{Unopened}

-- the tables of an image that was read
pub read_whole : (image : List ℕ) (tables : Tables) → Some tables ≡ read_of image → Whole image tables
read_whole image tables e = let v = read_valid image tables e in rw v.1 (whole_of image v.0)

-- image and body are taken
pub both_taken : (image : List ℕ) (b : Body) (c : Counts) (tables : Tables) {r : Bool} → Some tables ≡ read_of image →
    r ≡ body_holds tables.types.count tables.variants.count b.blocks b.statements b.locals b.scopes b.entries c → r ≡ true → Looked image b c tables
both_taken image b c tables read is t = looked image b c (opens_image image b c tables read is t)

module _ (image words : List ℕ) (self : SelfParam) (bindings : List ℕ) (b : Body) (c : Counts) (current : BasicBlockId) where
  -- what `open_params` gives
  abbrev opened : Opened
  opened = opened_params image words self bindings b c current

  -- the image breaks a rule
  pub no_image : None ≡ read_of image → (Err Unopened.BadImage) ≡ opened
  unfolding opened_params
  no_image e = rw (read_refused image e)

  module _ (tables : Tables) (read : Some tables ≡ read_of image) where
    -- the list breaks a rule
    pub no_list : {r : Bool} → r ≡ list_holds image self words → r ≡ false → (Err Unopened.BadImage) ≡ opened
    unfolding opened_params
    no_list is f = rw ((read_valid image tables read).0, sym is ∙ f)

    module _ (list : list_holds image self words ≡ true) {r : Bool}
        (is : r ≡ body_holds tables.types.count tables.variants.count b.blocks b.statements b.locals b.scopes b.entries c) where
      -- the body names something that is not there
      pub no_body : r ≡ false → (Err Unopened.BadCall) ≡ opened
      unfolding opened_params
      no_body f = let n = not_taken image b c (opens_no_body image b c tables read is f) in rw (n.0, list, n.1)

      module _ (t : r ≡ true) where
        -- the call's own values do
        pub no_call : {q : Bool} → q ≡ params_hold image self bindings b.blocks c current → q ≡ false → (Err Unopened.BadCall) ≡ opened
        unfolding opened_params
        no_call is' f = let T = both_taken image b c tables read is t in rw (T.valid_image, list, T.body, sym is' ∙ f)

        -- all is taken
        pub all_taken_lem : {q : Bool} → q ≡ params_hold image self bindings b.blocks c current → q ≡ true → Ok tables ≡ opened
        unfolding opened_params
        all_taken_lem is' y = let T = both_taken image b c tables read is t in rw (T.valid_image, list, T.body, sym is' ∙ y) (ap Ok (read_valid image tables read).1)

module _ (image words : List ℕ) (self : SelfParam) (bindings : List ℕ) (b : Body) (c : Counts) (current : BasicBlockId) where
  -- an image or a list that is refused
  pub not_image : (Err Unopened.BadImage) ≡ opened_params image words self bindings b c current → valid image && list_holds image self words ≡ false
  unfolding opened_params
  not_image e = go (valid image && list_holds image self words) (body_taken image b c && params_hold image self bindings b.blocks c current) e
    where
      go : (v t : Bool) → (Err Unopened.BadImage) ≡ cond v (cond t (Ok (tables_of image)) (Err Unopened.BadCall)) (Err Unopened.BadImage) → v ≡ false
      go true true q = absurd (let z : ◌≡◌ {A = ℕ} 0 1 = cc in omega arith)
      go true false q = absurd (let z : ◌≡◌ {A = ℕ} 0 1 = cc in omega arith)
      go false t q = refl

  -- a body or a value that is refused
  pub not_call : (Err Unopened.BadCall) ≡ opened_params image words self bindings b c current →
      (valid image && list_holds image self words ≡ true) × (body_taken image b c && params_hold image self bindings b.blocks c current ≡ false)
  unfolding opened_params
  not_call e = go (valid image && list_holds image self words) (body_taken image b c && params_hold image self bindings b.blocks c current) e
    where
      go : (v t : Bool) → (Err Unopened.BadCall) ≡ cond v (cond t (Ok (tables_of image)) (Err Unopened.BadCall)) (Err Unopened.BadImage) → (v ≡ true) × (t ≡ false)
      go true true q = absurd (let z : ◌≡◌ {A = ℕ} 0 1 = cc in omega arith)
      go true false q = (refl, refl)
      go false t q = absurd (let z : ◌≡◌ {A = ℕ} 0 1 = cc in omega arith)

  -- all is taken
  pub params_taken : {tables : Tables} → Ok tables ≡ opened_params image words self bindings b c current → Lengths b →
      ParamsTaken image tables words self bindings b c current
  unfolding opened_params
  params_taken {tables = tables} e long = go (valid image && list_holds image self words) (body_taken image b c && params_hold image self bindings b.blocks c current) refl refl e
    where
      go : (v t : Bool) → valid image && list_holds image self words ≡ v → body_taken image b c && params_hold image self bindings b.blocks c current ≡ t →
          Ok tables ≡ cond v (cond t (Ok (tables_of image)) (Err Unopened.BadCall)) (Err Unopened.BadImage) → ParamsTaken image tables words self bindings b c current
      go true true f h q =
          let same : tables ≡ tables_of image = cc in
          let v = and_left (valid image) (list_holds image self words) f in
          let held = params_hold image self bindings b.blocks c current in
          record {
            both = record { lengths = long; valid_image = v; whole = rw same (whole_of image v); body = and_left (body_taken image b c) held h };
            list = and_right (valid image) (list_holds image self words) f;
            call = and_right (body_taken image b c) held h;
          }
      go true false f h q = absurd (let z : ◌≡◌ {A = ℕ} 0 1 = cc in omega arith)
      go false t f h q = absurd (let z : ◌≡◌ {A = ℕ} 0 1 = cc in omega arith)
