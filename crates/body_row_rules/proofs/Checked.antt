-- What is known of a body that may be handed in. Assumes nothing.
use Prim.Native.Nat.{ℕ, zero, suc, ◌+◌, ◌-◌, ◌≤◌, ◌<◌}
use mathlib.Core.Path.{◌≡◌}
use mathlib.Core.Bool.{Bool, true}
use mathlib.Core.List.{List, [], ◌∷◌}
use native.Mathlib.Omega.{arith}
use borrow.Author.Tests.{lt-ltb, le-ltb, ltb-true, leb-true}
use lib.Dec.{leb}
use lib.ListN.{get_or}
use Rattle.mir.specs.declared.Counts.{Counts}
use Rattle.image.specs.Lists.{all_below}
use Rattle.image.proofs.Bools.{all_true_at, below_at}
use Rattle.body_row_rules.specs.Bodies.{is_type_word, counts_within, block_holds, statement_holds, local_holds, scope_end, scope_holds, entry_holds, entries_belong, body_holds}

-- the counts are within the limits
pub record Within (c : Counts) : Type 0 where
  pub blocks : c.blocks ≤ 512
  pub statements : c.statements ≤ 1024
  pub locals : c.locals ≤ 512
  pub scopes : c.scopes ≤ 32
  pub entries : c.entries ≤ 1024

-- they are, where their test says so
pub within_of : (c : Counts) → counts_within c ≡ true → Within c
unfolding counts_within
within_of c e =
    let rules = leb c.blocks 512 ∷ leb c.statements 1024 ∷ leb c.locals 512 ∷ leb c.scopes 32 ∷ leb c.entries 1024 ∷ [] in
    record {
      blocks = leb-true _ _ (all_true_at rules 0 e);
      statements = leb-true _ _ (all_true_at rules 1 e);
      locals = leb-true _ _ (all_true_at rules 2 e);
      scopes = leb-true _ _ (all_true_at rules 3 e);
      entries = leb-true _ _ (all_true_at rules 4 e);
    }

module _ (types variants : ℕ) (blocks statements locals scopes entries : List ℕ) (c : Counts) where
  -- the rules
  abbrev rules : List Bool
  rules =
      counts_within c
      ∷ all_below (block_holds blocks c) c.blocks
      ∷ all_below (statement_holds types variants statements c) c.statements
      ∷ all_below (local_holds types locals) c.locals
      ∷ all_below (scope_holds scopes c) c.scopes
      ∷ all_below (entry_holds entries c) c.entries
      ∷ entries_belong scopes c
      ∷ []

  -- the body may be handed in
  abbrev pub Holds : Type 0
  Holds = body_holds types variants blocks statements locals scopes entries c ≡ true

  -- each rule holds
  rule : Holds → (k : ℕ) → get_or rules k true ≡ true
  unfolding body_holds
  rule h k = all_true_at rules k h

  -- the counts are within the limits
  pub within : Holds → Within c
  within h = within_of c (rule h 0)

  -- a local's type is there
  pub local_type : Holds → (i : ℕ) → i < c.locals → is_type_word types (get_or locals i 0) ≡ true
  unfolding local_holds
  local_type h i l = below_at (local_holds types locals) c.locals i (rule h 3) l

  -- an entry is a local that there is
  pub entry_local : Holds → (i : ℕ) → i < c.entries → get_or entries i 0 < c.locals
  unfolding entry_holds
  entry_local h i l = ltb-true _ _ (below_at (entry_holds entries c) c.entries i (rule h 5) l)

  -- a scope's entries do not end before they begin
  rises : Holds → (i : ℕ) → i < c.scopes → get_or scopes i 0 ≤ scope_end scopes c i
  unfolding scope_holds
  rises h i l = leb-true _ _ (below_at (scope_holds scopes c) c.scopes i (rule h 4) l)

  -- with d scopes behind it, the scope i begins at or before the end of the entries
  start_before : Holds → (d i : ℕ) → suc (i + d) ≡ c.scopes → get_or scopes i 0 ≤ c.entries
  unfolding scope_end
  start_before h zero i e = rw (le-ltb (i + 1) c.scopes (omega arith)) at (rises h i (omega arith))
  start_before h (suc d) i e =
      let next : get_or scopes i 0 ≤ get_or scopes (i + 1) 0 = rw (lt-ltb (i + 1) c.scopes (omega arith)) at (rises h i (omega arith)) in
      let rest = start_before h d (i + 1) (omega arith) in
      omega (arith, next, rest)

  -- no scope begins past the end of the entries
  pub scope_start_lem : Holds → (i : ℕ) → i < c.scopes → get_or scopes i 0 ≤ c.entries
  scope_start_lem h i l = start_before h (c.scopes - suc i) i (omega arith)
