-- Whether a parameter of a list binds self again: the invariant of the loop, and a law for each way through the code. Assumes nothing.
use Prim.Native.Nat.{ℕ, ◌+◌, ◌*◌, ◌-◌}
use mathlib.Core.Path.{◌≡◌, refl, sym, ap, ◌∙◌}
use mathlib.Core.Bool.{Bool, true, false, not, ◌&&◌}
use mathlib.Core.List.{List}
use native.Mathlib.Omega.{arith}
use lib.ListN.{get_or}
use Rattle.image.specs.Tree.{tree}
use Rattle.params_spec.specs.Results.{SelfParam}
use Rattle.params_spec.specs.Params.{plain_binding}
use Rattle.params_spec.specs.Calls.{params_from, param_count, params_of, list_formed, binds_receiver, none_binds_receiver, receiver_apart, list_holds}
use Rattle.param_lists.proofs.Listing.{params_none, params_more, Listed, list_taken, listed_behind}

-- the parameters from the word k on are left to look at, and decide
pub record Looked (image words : List ℕ) (b k left : ℕ) : Type 0 where
  pub listed : Listed image words k left
  pub rest : none_binds_receiver image b (params_from words k left) ≡ none_binds_receiver image b (params_of words)

module _ (image words : List ℕ) (b : ℕ) where
  -- before the loop
  pub looks_begin : list_formed image words ≡ true → Looked image words b 0 (param_count words - 0)
  looks_begin h =
      let all : param_count words - 0 ≡ param_count words = omega arith in
      rw all (record { listed = list_taken image words h; rest = refl })

  -- the parameter i was looked at: those behind it are left
  pub looks_next : (i n : ℕ) → Looked image words b (2 * i + 2) (n - i - 1) → Looked image words b (2 * (i + 1)) (n - (i + 1))
  looks_next i n L =
      let at : 2 * i + 2 ≡ 2 * (i + 1) = omega arith in
      let left : n - i - 1 ≡ n - (i + 1) = omega arith in
      rw (at, left) at L

  module _ {k left : ℕ} (L : Looked image words b k left) where
    -- after the loop
    pub looks_end : left ≡ 0 → true ≡ none_binds_receiver image b (params_of words)
    unfolding none_binds_receiver
    looks_end none = sym (ap (none_binds_receiver image b) (params_none words k left none)) ∙ L.rest

    module _ (some : left ≡ 0 → ⊥) {r : Bool} (is : r ≡ binds_receiver b (plain_binding (tree image (get_or words k 0)))) where
      -- the test of the first one, and of the others
      first : not (binds_receiver b (plain_binding (tree image (get_or words k 0)))) && none_binds_receiver image b (params_from words (k + 2) (left - 1))
          ≡ none_binds_receiver image b (params_of words)
      unfolding none_binds_receiver
      first = sym (ap (none_binds_receiver image b) (params_more words k left L.listed.fits some)) ∙ L.rest

      -- it binds self again
      pub looks_found : r ≡ true → false ≡ none_binds_receiver image b (params_of words)
      looks_found t = rw (sym is ∙ t) at first

      -- it does not
      pub looks_again : r ≡ false → Looked image words b (k + 2) (left - 1)
      looks_again f = record { listed = listed_behind L.listed some; rest = rw (sym is ∙ f) at first }

-- `list_holds`
module _ (image words : List ℕ) (self : SelfParam) {r : Bool} where
  pub list_unformed : r ≡ list_formed image words → r ≡ false → false ≡ list_holds image self words
  unfolding list_holds
  list_unformed is f = rw (sym is ∙ f)

  pub list_apart : list_formed image words ≡ true → r ≡ receiver_apart image self (params_of words) → r ≡ list_holds image self words
  unfolding list_holds
  list_apart h is = rw (h) is
