-- What is known of a call's own values that name something. Assumes nothing.
use Rattle.std.specs.Prelude.{Some, None}
use Prim.Native.Nat.{ℕ, ◌≤◌, ◌<◌}
use mathlib.Core.Path.{◌≡◌}
use mathlib.Core.Bool.{Bool, true, not, ◌&&◌}
use mathlib.Core.List.{List, [], ◌∷◌}
use lib.Dec.{eqb, ltb, leb}
use lib.ListN.{length, get_or}
use borrow.Author.Tests.{ltb-true, leb-true, eqb-true}
use Rattle.row_tables.specs.Rows.{row_at}
use Rattle.image.specs.Lists.{all_below, all_in}
use Rattle.image.proofs.Bools.{and_left, and_right, all_true_at}
use Rattle.place.specs.declared.Place.{Place}
use Rattle.place.specs.Elems.{elem_of}
use Rattle.mir.specs.declared.BasicBlockId.{BasicBlockId}
use Rattle.mir.specs.declared.Counts.{Counts}
use Rattle.mir.specs.Blocks.{is_open, block_width}
use Rattle.body_row_rules.specs.Bodies.{is_block, is_local, elem_holds}
use Rattle.lower_spec.specs.Results.{OptBlock}
use Rattle.lower_spec.specs.Promises.{Within}
use Rattle.handed.specs.Handed.{start_holds, else_holds, place_holds, binding_local_holds, bindings_hold, Named, match_holds, self_holds}

-- the start is a block that there is
start_of_lem : (blocks : List ℕ) (c : Counts) (current : BasicBlockId) → start_holds blocks c current ≡ true → current.0 < c.blocks
unfolding start_holds
start_of_lem blocks c current e = ltb-true _ _ (and_left (is_block c current.0) (is_open (row_at block_width blocks current.0)) e)

-- the else is one, where there is one
else_of : (c : Counts) (current : BasicBlockId) (els : OptBlock) → else_holds c current els ≡ true → Within c els
unfolding else_holds
else_of c current None e = tt
else_of c current (Some b) e = ltb-true _ _ (and_left (is_block c b.0) (not (eqb b.0 current.0)) e)

-- the bindings' table has a word for each binding
bindings_of : (count : ℕ) (c : Counts) (bindings : List ℕ) → bindings_hold count c bindings ≡ true → length bindings ≡ count
unfolding bindings_hold
bindings_of count c bindings e = eqb-true _ _ (and_left (eqb (length bindings) count) (all_in (binding_local_holds c) bindings) e)

-- the place's elements are all of a known kind
abbrev elems_hold : ℕ → Place → Bool
elems_hold variants place = all_below (λ i. elem_holds variants (elem_of (get_or place.elems i 0))) place.len

module _ (named : Named) (bindings blocks : List ℕ) (c : Counts) (p : ℕ) (current : BasicBlockId) (els : OptBlock) (place : Place) where
  -- the tests
  abbrev rules : List Bool
  rules =
      ltb p named.patterns
      ∷ bindings_hold named.bindings c bindings
      ∷ start_holds blocks c current
      ∷ else_holds c current els
      ∷ place_holds named.variants c place
      ∷ []

  -- all that a call of `pattern_match` is handed names something
  abbrev pub Handed : Type 0
  Handed = match_holds named bindings blocks c p current els place ≡ true

  -- each test is passed
  rule : Handed → (k : ℕ) → get_or rules k true ≡ true
  unfolding match_holds
  rule h k = all_true_at rules k h

  -- the pattern is there
  pub pattern_there : Handed → p < named.patterns
  pattern_there h = ltb-true _ _ (rule h 0)

  pub bindings_sized : Handed → length bindings ≡ named.bindings
  bindings_sized h = bindings_of named.bindings c bindings (rule h 1)

  pub start_there : Handed → current.0 < c.blocks
  start_there h = start_of_lem blocks c current (rule h 2)

  pub else_there : Handed → Within c els
  else_there h = else_of c current els (rule h 3)

  -- the place's root is there
  pub root_there : Handed → place.local.0 < c.locals
  unfolding place_holds
  root_there h =
      ltb-true _ _
      (and_left (is_local c place.local.0) (leb place.len 16)
      (and_left (is_local c place.local.0 && leb place.len 16) (elems_hold named.variants place) (rule h 4)))

  -- the place has at most 16 elements
  pub elems_within : Handed → place.len ≤ 16
  unfolding place_holds
  elems_within h =
      leb-true _ _
      (and_right (is_local c place.local.0) (leb place.len 16)
      (and_left (is_local c place.local.0 && leb place.len 16) (elems_hold named.variants place) (rule h 4)))

module _ (named : Named) (bindings blocks : List ℕ) (c : Counts) (b : ℕ) (current : BasicBlockId) (l : ℕ) where
  -- the tests
  abbrev self_rules : List Bool
  self_rules = bindings_hold named.bindings c bindings ∷ ltb b named.bindings ∷ start_holds blocks c current ∷ is_local c l ∷ []

  -- all that a call of `match_self_param` is handed names something
  abbrev pub SelfHanded : Type 0
  SelfHanded = self_holds named bindings blocks c b current l ≡ true

  -- each test is passed
  self_rule : SelfHanded → (k : ℕ) → get_or self_rules k true ≡ true
  unfolding self_holds
  self_rule h k = all_true_at self_rules k h

  -- the binding has a word
  pub binding_there : SelfHanded → (b < length bindings)
  binding_there h = rw (bindings_of named.bindings c bindings (self_rule h 0)) (ltb-true _ _ (self_rule h 1))

  pub self_start_there : SelfHanded → current.0 < c.blocks
  self_start_there h = start_of_lem blocks c current (self_rule h 2)
