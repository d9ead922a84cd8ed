-- Before a call's own step: what `open` answers, what is known of what it takes, and the blocks that a merge is handed. Assumes nothing.
use Rattle.std.specs.Prelude.{Some, None, Ok, Err}
use Prim.Native.Nat.{ℕ, ◌≤◌}
use mathlib.Core.Path.{◌≡◌, refl, sym, ap, ◌∙◌}
use mathlib.Core.Bool.{Bool, true, false, cond}
use mathlib.Core.List.{List}
use native.Mathlib.Omega.{arith}
use borrow.Author.Tests.{ltb-true}
use Rattle.image.specs.declared.Tables.{Tables}
use Rattle.image.specs.Tables.{tables_of, Whole}
use Rattle.image.specs.Lists.{all_true}
use Rattle.image.specs.Valid.{rules, valid}
use Rattle.image.proofs.Bools.{and_left, and_right, all_true_at}
use Rattle.read_image.specs.Parts.{framed, frame_of}
use Rattle.read_image.specs.Read.{read_of}
use Rattle.read_image.proofs.Frames.{known}
use Rattle.mir.specs.declared.Counts.{Counts}
use Rattle.state.specs.State.{Body}
use Rattle.calls_spec.specs.Lengths.{Lengths}
use Rattle.body_row_rules.specs.Bodies.{body_holds}
use Rattle.body_row_rules.proofs.Checked.{within}
use Rattle.lower_spec.specs.Results.{OptBlock}
use Rattle.lower_spec.specs.Promises.{Within}
use Rattle.handed.specs.Handed.{is_block_or_none, merge_holds}
use Rattle.body_calls_spec.specs.Calls.{body_taken, opened_of}
use Rattle.body_calls_spec.specs.Sizes.{Sized, Taken}
use Rattle.body_calls_spec.specs.declared.Unopened.{Unopened}

module _ (image : List ℕ) where
  -- an image that is read is valid
  pub read_valid : (tables : Tables) → Some tables ≡ read_of image → (valid image ≡ true) × (tables ≡ tables_of image)
  unfolding read_of
  read_valid tables e = go (valid image) refl e
    where
      go : (v : Bool) → valid image ≡ v → Some tables ≡ cond v (Some (tables_of image)) None → (valid image ≡ true) × (tables ≡ tables_of image)
      go true f q = (f, cc)
      go false f q = absurd (let z : ◌≡◌ {A = ℕ} 0 1 = cc in omega arith)

  -- and one that is refused is not
  pub read_refused : None ≡ read_of image → valid image ≡ false
  unfolding read_of
  read_refused e = go (valid image) e
    where
      go : (v : Bool) → None ≡ cond v (Some (tables_of image)) None → v ≡ false
      go true q = absurd (let z : ◌≡◌ {A = ℕ} 0 1 = cc in omega arith)
      go false q = refl

  -- a valid image's tables lie within it
  pub whole_of : valid image ≡ true → Whole image (tables_of image)
  unfolding valid framed all_true frame_of
  whole_of v =
      let frame : framed image ≡ true =
      rw (all_true_at (rules image) 0 v, all_true_at (rules image) 1 v, all_true_at (rules image) 2 v, all_true_at (rules image) 10 v) in
      (known image (tables_of image) (rw frame)).whole

module _ (image : List ℕ) (b : Body) (c : Counts) where
  -- the ways through `open`
  pub opens_none : None ≡ read_of image → (Err Unopened.BadImage) ≡ opened_of image b c
  unfolding opened_of
  opens_none e = rw (read_refused image e)

  -- the test of the body, by the tables that were read
  taken_by_lem : (tables : Tables) {r : Bool} → tables ≡ tables_of image →
      r ≡ body_holds tables.types.count tables.variants.count b.blocks b.statements b.locals b.scopes b.entries c → body_taken image b c ≡ r
  unfolding tables_of
  taken_by_lem tables same is =
      sym (is ∙ ap (λ (t : Tables). body_holds t.types.count t.variants.count b.blocks b.statements b.locals b.scopes b.entries c) same)

  pub opens_image : (tables : Tables) {r : Bool} → Some tables ≡ read_of image →
      r ≡ body_holds tables.types.count tables.variants.count b.blocks b.statements b.locals b.scopes b.entries c → r ≡ true →
      Ok tables ≡ opened_of image b c
  unfolding opened_of
  opens_image tables e is t =
      let v = read_valid image tables e in
      rw (v.0, taken_by_lem tables v.1 is ∙ t) (ap Ok v.1)

  pub opens_no_body : (tables : Tables) {r : Bool} → Some tables ≡ read_of image →
      r ≡ body_holds tables.types.count tables.variants.count b.blocks b.statements b.locals b.scopes b.entries c → r ≡ false →
      (Err Unopened.BadCall) ≡ opened_of image b c
  unfolding opened_of
  opens_no_body tables e is t =
      let v = read_valid image tables e in
      rw (v.0, taken_by_lem tables v.1 is ∙ t)

  -- what its answers say
  pub not_valid : (Err Unopened.BadImage) ≡ opened_of image b c → valid image ≡ false
  unfolding opened_of
  not_valid e = go (valid image) (body_taken image b c) e
    where
      go : (v t : Bool) → (Err Unopened.BadImage) ≡ cond v (cond t (Ok (tables_of image)) (Err Unopened.BadCall)) (Err Unopened.BadImage) → v ≡ false
      go true true q = absurd (let z : ◌≡◌ {A = ℕ} 0 1 = cc in omega arith)
      go true false q = absurd (let z : ◌≡◌ {A = ℕ} 0 1 = cc in omega arith)
      go false t q = refl

  pub not_taken : (Err Unopened.BadCall) ≡ opened_of image b c → (valid image ≡ true) × (body_taken image b c ≡ false)
  unfolding opened_of
  not_taken e = go (valid image) (body_taken image b c) e
    where
      go : (v t : Bool) → (Err Unopened.BadCall) ≡ cond v (cond t (Ok (tables_of image)) (Err Unopened.BadCall)) (Err Unopened.BadImage) → (v ≡ true) × (t ≡ false)
      go true true q = absurd (let z : ◌≡◌ {A = ℕ} 0 1 = cc in omega arith)
      go true false q = (refl, refl)
      go false t q = absurd (let z : ◌≡◌ {A = ℕ} 0 1 = cc in omega arith)

  -- image and body were looked at
  pub record Looked (tables : Tables) : Type 0 where
    pub valid_image : valid image ≡ true
    pub whole : Whole image tables
    pub body : body_taken image b c ≡ true

  pub looked : {tables : Tables} → Ok tables ≡ opened_of image b c → Looked tables
  unfolding opened_of
  looked {tables = tables} e = go (valid image) (body_taken image b c) refl refl e
    where
      go : (v t : Bool) → valid image ≡ v → body_taken image b c ≡ t → Ok tables ≡ cond v (cond t (Ok (tables_of image)) (Err Unopened.BadCall)) (Err Unopened.BadImage) → Looked tables
      go true true f h q =
          let same : tables ≡ tables_of image = cc in
          record { valid_image = f; whole = rw same (whole_of image f); body = h }
      go true false f h q = absurd (let z : ◌≡◌ {A = ℕ} 0 1 = cc in omega arith)
      go false t f h q = absurd (let z : ◌≡◌ {A = ℕ} 0 1 = cc in omega arith)

  -- it has at most 512 blocks
  pub few_blocks : {tables : Tables} → Looked tables → c.blocks ≤ 512
  few_blocks L = (within _ _ b.blocks b.statements b.locals b.scopes b.entries c L.body).blocks

  pub taken : {tables : Tables} → Ok tables ≡ opened_of image b c → Lengths b → Taken image tables b c
  taken e long = let L = looked e in record { lengths = long; valid_image = L.valid_image; whole = L.whole; body = L.body }

  -- a body that is taken has its sizes
  pub taken_sized : {tables : Tables} → Taken image tables b c → Sized b c
  taken_sized T =
      let few = within _ _ b.blocks b.statements b.locals b.scopes b.entries c T.body in
      record {
        blocks = T.lengths.blocks;
        statements = T.lengths.statements;
        locals = T.lengths.locals;
        scopes = T.lengths.scopes;
        entries = T.lengths.entries;
        block_count_lem = few.blocks;
        statement_count = few.statements;
        local_count = few.locals;
        scope_count = few.scopes;
        entry_count = few.entries;
      }

-- a block that is there, where there is one
block_within : (c : Counts) (x : OptBlock) → is_block_or_none c x ≡ true → Within c x
unfolding is_block_or_none
block_within c None e = tt
block_within c (Some k) e = ltb-true _ _ e

-- what a call of `merge_blocks` is handed is there
pub blocks_within : (c : Counts) (x y : OptBlock) → merge_holds c x y ≡ true → Within c x × Within c y
unfolding merge_holds
blocks_within c x y e = (block_within c x (and_left (is_block_or_none c x) (is_block_or_none c y) e), block_within c y (and_right (is_block_or_none c x) (is_block_or_none c y) e))
