-- The public fit test, by the ways through the code. Assumes nothing.
use Rattle.std.specs.Prelude.{Some, None}
use Prim.Native.Nat.{ℕ, ◌<◌}
use mathlib.Core.Path.{◌≡◌, sym, ◌∙◌}
use mathlib.Core.Bool.{Bool, true, false, ◌&&◌}
use mathlib.Core.List.{List}
use borrow.Author.Tests.{eqb-true, ltb-true}
use lib.Dec.{eqb, ltb}
use lib.ListN.{length}
use Rattle.image.specs.declared.Tables.{Tables}
use Rattle.image.specs.Tables.{Whole, type_count, pattern_count, binding_count}
use Rattle.image.specs.Tree.{tree}
use Rattle.image.specs.Valid.{valid}
use Rattle.image.proofs.Bools.{and_left, and_right}
use Rattle.read_image.specs.Read.{read_of}
use Rattle.body_calls_spec.proofs.Prologue.{read_valid, read_refused, whole_of}
use Rattle.meaning.specs.Fit.{fits}
use Rattle.fit_handed.specs.Handed.{handed}
use Rattle.fit.specs.declared.FitCall.{FitCall}
use Rattle.fit.specs.Calls.{fit_call, Gives}

-- what is there where all of them are
pub record Handed (image bindings : List ℕ) (p t : ℕ) : Type 0 where
  pub long : length bindings ≡ binding_count image
  pub pattern : p < pattern_count image
  pub type : t < type_count image

all_handed : (image bindings : List ℕ) (p t : ℕ) → handed (binding_count image) (pattern_count image) (type_count image) bindings p t ≡ true → Handed image bindings p t
unfolding handed
all_handed image bindings p t e =
    let a = eqb (length bindings) (binding_count image) in
    let b = ltb p (pattern_count image) in
    let c = ltb t (type_count image) in
    record {
      long = eqb-true (length bindings) (binding_count image) (and_left a b (and_left (a && b) c e));
      pattern = ltb-true p (pattern_count image) (and_right a b (and_left (a && b) c e));
      type = ltb-true t (type_count image) (and_right (a && b) c e);
    }

-- `fit`: an image that is read, and what the call is handed
module _ (image : List ℕ) {tables : Tables} (read : Some tables ≡ read_of image) where
  pub is_valid : valid image ≡ true
  is_valid = (read_valid image tables read).0

  pub is_whole : Whole image tables
  is_whole = rw (read_valid image tables read).1 (whole_of image is_valid)

  module _ (bindings : List ℕ) (p t : ℕ) {n : Bool} (names : n ≡ handed tables.bindings.count tables.patterns.count tables.types.count bindings p t) where
    by_image : n ≡ handed (binding_count image) (pattern_count image) (type_count image) bindings p t
    by_image = names ∙ rw (is_whole.binding_count_lem, is_whole.pattern_count_lem, is_whole.type_count_lem)

    pub are_handed : n ≡ true → Handed image bindings p t
    are_handed there = all_handed image bindings p t (sym by_image ∙ there)

    -- a number that names nothing, and what the test tells
    module _ (root : ℕ) where
      pub gives_no_number : n ≡ false → Gives (fit_call image bindings root t p) FitCall.BadCall
      unfolding fit_call
      gives_no_number e = record { reply = rw (is_valid, sym by_image ∙ e); refusal = rw (is_valid, sym by_image ∙ e) }

      module _ (there : n ≡ true) {f : Bool} (told : f ≡ fits image bindings root t (tree image p)) where
        pub gives_no : f ≡ false → Gives (fit_call image bindings root t p) FitCall.DoesNot
        unfolding fit_call
        gives_no e = record { reply = rw (is_valid, sym by_image ∙ there, sym told ∙ e); refusal = rw (is_valid, sym by_image ∙ there) }

        pub gives_yes : f ≡ true → Gives (fit_call image bindings root t p) FitCall.Fits
        unfolding fit_call
        gives_yes e = record { reply = rw (is_valid, sym by_image ∙ there, sym told ∙ e); refusal = rw (is_valid, sym by_image ∙ there) }

-- an image that is not
pub gives_no_image : (image bindings : List ℕ) (root : ℕ) (t p : ℕ) → None ≡ read_of image → Gives (fit_call image bindings root t p) FitCall.BadImage
unfolding fit_call
gives_no_image image bindings root t p e = let bad = read_refused image e in record { reply = rw bad; refusal = rw bad }
