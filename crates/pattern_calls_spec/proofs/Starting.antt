-- Where a walk starts: a body after zeros were written above the counts, and a place that was looked at. Assumes nothing.
use Prim.Native.Nat.{ℕ, zero, suc, ◌-◌, ◌≤◌, ◌<◌}
use mathlib.Core.Path.{◌≡◌, refl, sym, ap, ◌∙◌}
use mathlib.Core.Bool.{Bool, true, false, cond, ◌||◌}
use mathlib.Core.List.{List, ◌∷◌}
use native.Mathlib.Omega.{arith}
use lib.Dec.{ltb}
use lib.ListN.{length, get_or}
use borrow.Author.Tests.{ltb-true, lt-leb}
use Rattle.row_tables.specs.Rows.{zeros, row_at, rows_of, cleared}
use Rattle.row_tables.proofs.Tables.{row_of}
use Rattle.image.specs.declared.Tables.{Tables}
use Rattle.image.specs.Tables.{type_count}
use Rattle.place.specs.declared.Place.{Place}
use Rattle.place.specs.declared.place_ty.PlaceTy.{PlaceTy}
use Rattle.place.specs.PlaceTypes.{Named}
use Rattle.mir.specs.declared.Counts.{Counts}
use Rattle.mir.specs.Locals.{test_types, local_ty}
use Rattle.mir.specs.Blocks.{block_width}
use Rattle.state.specs.State.{Body, State, decode, encode}
use Rattle.body_row_rules.specs.Bodies.{is_type_word}
use Rattle.body_row_rules.proofs.Checked.{local_type}
use Rattle.body_calls_spec.specs.Sizes.{Taken}
use Rattle.body_calls_spec.proofs.Clearing.{Cleared, clears}
use Rattle.body_calls_spec.proofs.Prologue.{taken_sized}
use Rattle.body_calls_spec.proofs.Restoring.{same_word_lem}
use Rattle.pattern_walk_spec.specs.Answers.{Placed, visit_word, Holds}

-- zeros hold that no pattern was visited
no_visit : (n : ℕ) → Holds (zeros n) (zeros n)
unfolding visit_word
no_visit zero = refl
no_visit (suc n) = ap (λ (l : List ℕ). 0 ∷ l) (no_visit n)

pub no_visits : Holds (zeros 512) (zeros 512)
no_visits = no_visit 512

-- the visits' table after zeros were written in it
pub visits_cleared : (v : List ℕ) {v₁ : List ℕ} → length v ≡ 512 → v₁ ≡ cleared v 0 → v₁ ≡ zeros 512
unfolding cleared
visits_cleared v long is = let all : length v - 0 ≡ 512 = omega arith in is ∙ ap zeros all

-- the types that follow the table's name nothing of it
test_named : (image : List ℕ) (k : ℕ) → Named image (get_or test_types k PlaceTy.Inapplicable)
test_named image zero = tt
test_named image (suc zero) = tt
test_named image (suc (suc zero)) = tt
test_named image (suc (suc (suc k))) = tt

-- the word of a type names one that there is
pub word_named : (image : List ℕ) (word : ℕ) → is_type_word (type_count image) word ≡ true → Named image (local_ty word)
unfolding is_type_word local_ty
word_named image word e = go (ltb word 256) refl
  where
    or_false : (a : Bool) → a || false ≡ true → a ≡ true
    or_false true q = refl
    or_false false q = q

    go : (small : Bool) → ltb word 256 ≡ small → Named image (cond small (PlaceTy.Ty word) (get_or test_types (word - 256) PlaceTy.Inapplicable))
    go true s = ltb-true word (type_count image) (or_false (ltb word (type_count image)) (rw (lt-leb 256 word (ltb-true word 256 s)) at e))
    go false s = test_named image (word - 256)

-- the body after zeros were written above the counts
pub cleared_now : {image : List ℕ} {tables : Tables} {b : Body} {c : Counts} {b₁ : Body} → Taken image tables b c → b₁ ≡ encode (decode b c) → Cleared b c b₁
cleared_now {image = image} {b = b} {c = c} T is = clears (taken_sized image b c T) is

-- a block's row below the counts is as it was found
pub row_found : (b : Body) (c : Counts) (b₁ : Body) (k : ℕ) → Cleared b c b₁ → k < c.blocks → row_at block_width b.blocks k ≡ row_at block_width b₁.blocks k
unfolding decode
row_found b c b₁ k C h =
    let rows : rows_of block_width b.blocks c.blocks ≡ rows_of block_width b₁.blocks c.blocks = sym (ap (λ (st : State). st.blocks) C.same) in
    sym (row_of 12 b.blocks c.blocks k h) ∙ rw rows (row_of 12 b₁.blocks c.blocks k h)

-- a place whose root is there and which has at most 16 elements
pub placed_of : {image : List ℕ} {tables : Tables} {b : Body} {c : Counts} (t : Body) (place : Place) → Taken image tables b c → Cleared b c t →
    place.local.0 < c.locals → place.len ≤ 16 → Placed image t c place
unfolding decode
placed_of {image = image} {b = b} {c = c} t place T C root short =
    let l = place.local.0 in
    let same : get_or t.locals l 0 ≡ get_or b.locals l 0 = same_word_lem c.locals b.locals t.locals l (ap (λ (st : State). st.locals) C.same) root in
    let typed = local_type _ _ b.blocks b.statements b.locals b.scopes b.entries c T.body l root in
    record { root = root; named = rw same (word_named image (get_or b.locals l 0) typed); within = short }
