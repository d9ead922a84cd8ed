-- The ways through the call's text. Assumes nothing.
use Rattle.std.specs.Prelude.{None}
use Prim.Native.Nat.{ℕ, ◌-◌, ◌≤◌, ◌<◌}
use mathlib.Core.Path.{◌≡◌, sym, ap, ◌∙◌}
use mathlib.Core.Bool.{true}
use mathlib.Core.List.{List}
use borrow.Author.Tests.{lt-ltb, le-ltb}
use borrow.Author.Rules.{part_to_end}
use lib.ListN.{length, take, drop}
use Rattle.refusals.specs.Refusals.{breaks_a_rule, names_nothing}
use Rattle.image.specs.Valid.{valid}
use Rattle.mir.specs.declared.Counts.{Counts}
use Rattle.state.specs.State.{Body}
use Rattle.read_image.specs.Results.{Read}
use Rattle.read_image.specs.Read.{Reads}
use Rattle.calls_spec.specs.Calls.{call}
use Rattle.body_calls_spec.proofs.Prologue.{read_refused}
use Rattle.listing_text.specs.Listing.{refusal_text}
use Rattle.params_spec.specs.Results.{SelfParam}
use Rattle.params_spec.specs.Calls.{params_call}
use Rattle.params_text.specs.Texts.{call_text}
use Rattle.params_start.specs.declared.CallWords.{CallWords}
use Rattle.params_start.specs.Started.{call_words, many_of, Starts, start_call}
use Rattle.params_start.proofs.Starting.{same_call, no_locals}
use Rattle.params_listing.specs.Listed.{start_text, params_text}

-- the text of the call is what the definition prints
pub text_is : {image : List ℕ} {opened : ℕ} {m v : List ℕ} {b : Body} {c : Counts} → Starts image opened m b v c → (self : SelfParam) (list : List ℕ) {many : ℕ} → many ≡ many_of self (length list) →
    call_text c.locals many (params_call image list self m b c (record { 0 = 0 })) ≡ start_text image opened self list
unfolding start_text
text_is S self list is = λ i. call_text (no_locals S i) (is i) (same_call S self list i)

-- the ways through `put_params`
module _ (image words : List ℕ) where
  pub prints_refused : {r : Read} → Reads image r → r ≡ None → refusal_text breaks_a_rule ≡ params_text image words
  unfolding params_text start_text start_call params_call call call_text
  prints_refused R is = rw (read_refused image (sym is ∙ R.answer))

  pub too_few : valid image ≡ true → length words < 4 → refusal_text names_nothing ≡ params_text image words
  unfolding params_text
  too_few v h = rw (v, lt-ltb (length words) 4 h)

  pub prints_lowered : {call : CallWords} → valid image ≡ true → 4 ≤ length words → call ≡ call_words words →
      start_text image call.opened call.receiver (take (length words - 4) (drop 4 words)) ≡ params_text image words
  unfolding params_text
  prints_lowered {call} v h is =
      let called : start_text image call.opened call.receiver (drop 4 words) ≡ params_text image words = rw (v, le-ltb (length words) 4 h, is) in
      ap (start_text image call.opened call.receiver) (part_to_end words 4) ∙ called
