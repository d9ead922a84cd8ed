-- What the call on parameters is handed, and the ways through the code before it. Assumes nothing.
use Rattle.std.specs.Prelude.{Some, None}
use Prim.Native.Nat.{ℕ, zero, suc, ◌+◌, ◌/◌, ◌≤◌, ◌<◌}
use mathlib.Core.Path.{◌≡◌, refl, sym, ap, ◌∙◌}
use mathlib.Core.Bool.{Bool, true, false, cond}
use mathlib.Core.List.{List, [], ◌∷◌}
use native.Mathlib.Omega.{arith}
use borrow.Author.Tests.{eq-eqb, ne_eqb, le-leb, lt-leb, leb-true}
use lib.Dec.{eqb, leb}
use lib.ListN.{length, get_or, take, replicate}
use Rattle.row_tables.specs.Rows.{zeros, joined, encode_rows, cleared}
use Rattle.image.specs.declared.BindingId.{BindingId}
use Rattle.image.specs.declared.Tables.{Tables}
use Rattle.image.specs.Tables.{Whole}
use Rattle.image.specs.Valid.{valid}
use Rattle.mir.specs.declared.Counts.{Counts}
use Rattle.mir.specs.Statements.{statement_words}
use Rattle.state.specs.State.{Body, body, encode, padded, counts_of}
use Rattle.body_tables.specs.Layout.{body_words, body_of}
use Rattle.pattern_calls_spec.proofs.Starting.{visits_cleared}
use Rattle.listing_start.proofs.Limits.{limits}
use Rattle.listing_start_body.proofs.Filling.{open_block, body_cleared}
use Rattle.params_spec.specs.Results.{SelfParam}
use Rattle.params_spec.specs.Params.{self_count}
use Rattle.params_spec.specs.Calls.{params_call}
use Rattle.params_start.specs.Started.{start_state, receiver, call_words, unbound, many_of, Starts, start_call}

-- the first of a list of one number
same_take : (m n a : ℕ) → m ≤ n → take m (replicate n a) ≡ replicate m a
same_take zero n a h = refl
same_take (suc m) zero a h = absurd (omega arith)
same_take (suc m) (suc n) a h = ap (λ (l : List ℕ). a ∷ l) (same_take m n a (omega arith))

-- 256 bindings without a local
abbrev none_of_all : List ℕ
none_of_all = replicate 256 65535

-- the scopes' table, with one scope or none: no entry was there when it was opened
scope_zeros : (none : Bool) → padded 32 (cond none [] (0 ∷ [])) ≡ zeros 32
unfolding padded
scope_zeros true = refl
scope_zeros false = refl

module _ (opened : ℕ) where
  -- `start_params`: the body at exit
  pub body_started : (w : List ℕ) {w₁ : List ℕ} → length w ≡ body_words → w₁ ≡ cleared w 0 → body_of w₁ ≡ encode (start_state opened)
  unfolding encode start_state encode_rows joined padded
  body_started w size is =
      body_cleared w size is ∙ λ i. body (sym open_block i) (zeros statement_words) (zeros 512) (sym (scope_zeros (eqb opened 0)) i) (zeros 1024)

  -- and the counts, with no scope or with one
  pub counts_none : opened ≡ 0 → record { blocks = 1; statements = 0; locals = 0; scopes = 0; entries = 0 } ≡ counts_of (start_state opened)
  unfolding counts_of start_state
  counts_none is = rw (eq-eqb opened 0 is)

  pub counts_one : (opened ≡ 0 → ⊥) → record { blocks = 1; statements = 0; locals = 0; scopes = 1; entries = 0 } ≡ counts_of (start_state opened)
  unfolding counts_of start_state
  counts_one is = rw (ne_eqb opened 0 is)

-- how many parameters are listed
pub many_few : (self : SelfParam) (size : ℕ) → many_of self size ≤ 65
unfolding many_of self_count
many_few self size = by_size (leb size 128) refl
  where
    few : (self : SelfParam) → self_count self ≤ 1
    few None = omega arith
    few (Some (b, ty)) = omega arith

    by_size : (r : Bool) → leb size 128 ≡ r → cond r (size / 2 + self_count self) 0 ≤ 65
    by_size true e = omega (arith, leb-true size 128 e, few self)
    by_size false e = omega arith

pub many_none : (self : SelfParam) (size : ℕ) → 128 < size → 0 ≡ many_of self size
unfolding many_of
many_none self size h = rw (lt-leb size 128 h)

pub many_listed : {self : SelfParam} (size : ℕ) → size ≤ 128 → self ≡ None → size / 2 ≡ many_of self size
unfolding many_of self_count
many_listed size h is = rw (le-leb size 128 h, is) (omega arith)

pub many_with_self : {self : SelfParam} {b : BindingId} {ty : ℕ} (size : ℕ) → size ≤ 128 → self ≡ Some (b, ty) → size / 2 + 1 ≡ many_of self size
unfolding many_of self_count
many_with_self size h is = rw (le-leb size 128 h, is)

-- what the call is handed is what the definition hands it
module _ {image : List ℕ} {opened : ℕ} {m v : List ℕ} {b : Body} {c : Counts} (S : Starts image opened m b v c) where
  pub same_call : (self : SelfParam) (list : List ℕ) → params_call image list self m b c (record { 0 = 0 }) ≡ start_call image opened self list
  unfolding start_call
  same_call self list = λ i. params_call image list self (S.bindings i) (S.tables i) (S.counts i) (record { 0 = 0 })

  pub no_locals : c.locals ≡ 0
  unfolding counts_of start_state
  no_locals = ap (λ (n : Counts). n.locals) S.counts

  -- the first parameter's local is 0
  pub few_locals : (self : SelfParam) (size : ℕ) {many : ℕ} → many ≡ many_of self size → c.locals + many ≤ 65535
  few_locals self size is = omega (arith, no_locals, is, many_few self size)

module _ (image : List ℕ) {tables : Tables} (v : valid image ≡ true) (W : Whole image tables) where
  -- the bindings' locals are within the array
  pub few : tables.bindings.count ≤ 256
  few = let L = limits image v in omega (arith, L.bindings, W.binding_count_lem)

  -- and none is there
  pub none_bound : {bindings : List ℕ} → bindings ≡ none_of_all → take tables.bindings.count bindings ≡ unbound image
  none_bound is = ap (take tables.bindings.count) is ∙ same_take tables.bindings.count 256 65535 few ∙ ap (λ (n : ℕ). replicate n 65535) W.binding_count_lem

  -- the call may be made
  pub starts : (before : List ℕ) {opened : ℕ} {bindings visits : List ℕ} {b : Body} {c : Counts} → bindings ≡ none_of_all → (c ≡ counts_of (start_state opened)) × (b ≡ encode (start_state opened)) →
      length before ≡ 512 → visits ≡ cleared before 0 → Starts image opened (take tables.bindings.count bindings) b visits c
  starts before is started long blank = record { bindings = none_bound is; tables = started.1; visits = visits_cleared before long blank; counts = started.0 }

-- `call_words`
pub words_are_lem : (words : List ℕ) {r : SelfParam} → r ≡ receiver (get_or words 1 0) (get_or words 2 0) (get_or words 3 0) → record { opened = get_or words 0 0; receiver = r } ≡ call_words words
unfolding call_words
words_are_lem words is = λ i. record { opened = get_or words 0 0; receiver = is i }
