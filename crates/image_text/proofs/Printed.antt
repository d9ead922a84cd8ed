-- What is printed for an image: the call of `pattern_match` that the program makes, and the ways before it. Assumes nothing.
use Rattle.std.specs.Prelude.{Some, None}
use Prim.Native.Nat.{ℕ, ◌+◌, ◌≤◌, ◌<◌}
use mathlib.Core.Path.{◌≡◌, refl, sym, ap, subst, ◌∙◌}
use mathlib.Core.Bool.{true, false}
use mathlib.Core.Option.{none, some}
use mathlib.Core.List.{List, ◌++◌}
use native.Mathlib.Omega.{arith}
use native.Mathlib.Nat.{zero-add}
use borrow.Author.Tests.{leb-true, leb-false}
use lib.Dec.{leb}
use lib.ListN.{length, drop}
use Rattle.refusals.specs.declared.MirLowerError.{MirLowerError}
use Rattle.refusals.specs.Refusals.{breaks_a_rule, names_nothing, number_of, reason_of, refusal_at}
use Rattle.row_tables.specs.Rows.{zeros, stored}
use Rattle.image.specs.declared.Tables.{Tables}
use Rattle.image.specs.Tables.{Whole}
use Rattle.image.specs.Valid.{valid}
use Rattle.place.specs.declared.Place.{Place}
use Rattle.mir.specs.declared.Counts.{Counts}
use Rattle.state.specs.State.{Body, encode, counts_of}
use Rattle.read_image.specs.Results.{Read}
use Rattle.read_image.specs.Read.{Reads}
use Rattle.body_calls_spec.proofs.Prologue.{read_valid, read_refused, whole_of}
use Rattle.listing_text.specs.declared.pen.Pen.{Pen}
use Rattle.listing_text.specs.Listing.{refusal_text}
use Rattle.listing_text.specs.Writing.{Wrote}
use Rattle.pattern_matching.specs.Walking.{Out, local_place}
use Rattle.pattern_calls_spec.specs.Results.{MatchCall}
use Rattle.calls_spec.specs.Calls.{Called}
use Rattle.pattern_walk_spec.specs.Calls.{Visits}
use Rattle.pattern_calls_spec.specs.Calls.{pattern_match_call, match_way, match_ctx}
use Rattle.listing_start.specs.Started.{last_pattern, start_type, start_state, binding_locals}
use Rattle.image_text.specs.Listed.{listing_call, call_text, typed_text, image_text, Printed}

-- what was written is the same text by another name
pub wrote_as : {b₀ : List ℕ} {pen : Pen} {text text' : List ℕ} {pen' : Pen} {b : List ℕ} → text ≡ text' → Wrote b₀ pen text pen' b → Wrote b₀ pen text' pen' b
wrote_as {b₀} {pen} {text} {text'} {pen'} {b} e w = subst (λ (x : List ℕ). Wrote b₀ pen x pen' b) e w

-- `put_refused`: the numbers of a refusal
pub refusal_numbers : (e : MirLowerError) (p : ℕ) {number reason : ℕ} → number ≡ number_of e → reason ≡ reason_of e →
    refusal_text (record { number = number; pattern = p; reason = reason }) ≡ refusal_text (refusal_at e p)
unfolding refusal_at
refusal_numbers e p is why = λ i. refusal_text (record { number = is i; pattern = p; reason = why i })

-- what `pattern_match` is handed
pub record Handed (image : List ℕ) (t : ℕ) (bindings : List ℕ) (b : Body) (v : List ℕ) (c : Counts) (p : ℕ) (place : Place) : Type 0 where
  pub locals : bindings ≡ binding_locals image
  pub tables : b ≡ encode (start_state image t)
  pub visits : v ≡ zeros 512
  pub counts : c ≡ counts_of (start_state image t)
  pub pattern : p ≡ last_pattern image
  pub at : place ≡ local_place (record { 0 = 0 })

-- it is the call that the definition makes
same_call : {image : List ℕ} {t : ℕ} {bindings : List ℕ} {b : Body} {v : List ℕ} {c : Counts} {p : ℕ} {place : Place} → Handed image t bindings b v c p place →
    pattern_match_call image bindings b c p (record { 0 = 0 }) None place ≡ listing_call image t
unfolding listing_call
same_call {image} H = λ i. pattern_match_call image (H.locals i) (H.tables i) (H.counts i) (H.pattern i) (record { 0 = 0 }) None (H.at i)

pub called : {image : List ℕ} {t : ℕ} {bindings : List ℕ} {b : Body} {v : List ℕ} {c : Counts} {p : ℕ} {place : Place} {r : MatchCall} {b' : Body} {v' : List ℕ} →
    Handed image t bindings b v c p place → Visits match_way match_ctx b v c (pattern_match_call image bindings b c p (record { 0 = 0 }) None place) r b' v' →
    Visits match_way match_ctx b v c (listing_call image t) r b' v'
called {b = b} {v = v} {c = c} {r = r} {b' = b'} {v' = v'} H G = subst (λ (x : Called Out). Visits match_way match_ctx b v c x r b' v') (same_call H) G

-- the ways through `put_image`: the image is refused
module _ (image : List ℕ) where
  pub prints_refused : {r : Read} → Reads image r → r ≡ None → refusal_text breaks_a_rule ≡ image_text image
  unfolding image_text
  prints_refused R is = rw (read_refused image (sym is ∙ R.answer))

  -- the image is read
  pub is_read : {r : Read} {tables : Tables} → Reads image r → r ≡ Some tables → (valid image ≡ true) × Whole image tables
  is_read {tables = tables} R is =
      let (v, same) = read_valid image tables (sym is ∙ R.answer) in
      (v, rw same (whole_of image v))

  -- no type leads to the last pattern's
  pub prints_none : valid image ≡ true → none ≡ start_type image → refusal_text names_nothing ≡ image_text image
  unfolding image_text typed_text
  prints_none v e = rw v (ap (typed_text image) e)

  -- the type t does
  pub prints_lowered : {t : ℕ} → valid image ≡ true → some t ≡ start_type image → call_text (listing_call image t) ≡ image_text image
  unfolding image_text typed_text
  prints_lowered v e = rw v (ap (typed_text image) e)

-- the text from the start of a buffer on, where there was room for it
pub printed : {before text : List ℕ} {pen : Pen} {after : List ℕ} → Wrote before (record { at = 0; ok = true }) text pen after → pen.ok ≡ true → Printed before text pen.at after
unfolding stored
printed {before = before} {text = text} {pen = pen} {after = after} W ok =
    let room : leb (0 + length text) (length before) ≡ true = sym W.room ∙ ok in
    let fits : 0 + length text ≤ length before = leb-true (0 + length text) (length before) room in
    let count : pen.at ≡ length text = omega (arith, W.at ok) in
    record {
      within = omega (arith, count, fits);
      stands = λ short. (count, W.stands ok ∙ ap (λ (n : ℕ). text ++ drop n before) (zero-add (length text)));
      no_room = λ short. absurd (omega (arith, fits, short));
    }

-- and where there was none
pub not_printed : {before text : List ℕ} {pen : Pen} {after : List ℕ} → Wrote before (record { at = 0; ok = true }) text pen after → pen.ok ≡ false → Printed before text 0 after
not_printed {before = before} {text = text} {pen = pen} {after = after} W full =
    let room : leb (0 + length text) (length before) ≡ false = sym W.room ∙ full in
    let over : length before < 0 + length text = leb-false (0 + length text) (length before) room in
    record { within = omega arith; stands = λ short. absurd (omega (arith, over, short)); no_room = λ short. refl }
