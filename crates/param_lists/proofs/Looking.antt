-- Whether a list's words name something, by the ways through the code. Assumes nothing.
use Prim.Native.Nat.{ℕ, ◌+◌, ◌*◌, ◌-◌, ◌≤◌, ◌<◌}
use mathlib.Core.Path.{◌≡◌, sym, ap, ◌∙◌}
use mathlib.Core.Bool.{Bool, true, false, ◌&&◌}
use mathlib.Core.List.{List}
use native.Mathlib.Omega.{arith}
use borrow.Author.Tests.{lt-ltb, le-ltb, le-leb, lt-leb, eq-eqb, ne_eqb}
use lib.Dec.{ltb}
use lib.ListN.{length, get_or}
use Rattle.image.specs.declared.Tables.{Tables}
use Rattle.image.specs.Tables.{Whole, type_count, pattern_count}
use Rattle.params_spec.specs.Calls.{params_from, param_count, params_of, params_named, list_formed}
use Rattle.param_lists.proofs.Listing.{params_none, params_more}

-- the parameters from the word k on are left to look at, and decide
pub record Left (image words : List ℕ) (k left : ℕ) : Type 0 where
  pub fits : k + 2 * left ≡ length words
  pub rest : params_named image (params_from words k left) ≡ params_named image (params_of words)

module _ (image words : List ℕ) where
  -- the parameter i was looked at: those behind it are left
  pub names_next : (i n : ℕ) → Left image words (2 * i + 2) (n - i - 1) → Left image words (2 * (i + 1)) (n - (i + 1))
  names_next i n L =
      let at : 2 * i + 2 ≡ 2 * (i + 1) = omega arith in
      let left : n - i - 1 ≡ n - (i + 1) = omega arith in
      rw (at, left) at L

  module _ {k left : ℕ} (L : Left image words k left) where
    -- after the loop
    pub names_end : left ≡ 0 → true ≡ params_named image (params_of words)
    unfolding params_named
    names_end none = sym (ap (params_named image) (params_none words k left none)) ∙ L.rest

    module _ (some : left ≡ 0 → ⊥) where
      -- the tests of the first one and of the others
      first : ltb (get_or words k 0) (pattern_count image) && ltb (get_or words (k + 1) 0) (type_count image) && params_named image (params_from words (k + 2) (left - 1))
          ≡ params_named image (params_of words)
      unfolding params_named
      first = sym (ap (params_named image) (params_more words k left L.fits some)) ∙ L.rest

      -- its words stand in the list
      pub in_list : k + 1 < length words
      in_list = omega (arith, L.fits, some)

      module _ {tables : Tables} (W : Whole image tables) where
        -- its pattern is not there
        pub no_pattern_lem : tables.patterns.count ≤ get_or words k 0 → false ≡ params_named image (params_of words)
        no_pattern_lem h = rw (le-ltb (get_or words k 0) (pattern_count image) (omega (arith, W.pattern_count_lem))) at first

        -- its pattern is there, and its type is not
        pub no_type_lem : get_or words k 0 < tables.patterns.count → tables.types.count ≤ get_or words (k + 1) 0 → false ≡ params_named image (params_of words)
        no_type_lem h t =
            rw (lt-ltb (get_or words k 0) (pattern_count image) (omega (arith, W.pattern_count_lem)), le-ltb (get_or words (k + 1) 0) (type_count image) (omega (arith, W.type_count_lem))) at first

        -- both are there
        pub names_again : get_or words k 0 < tables.patterns.count → get_or words (k + 1) 0 < tables.types.count → Left image words (k + 2) (left - 1)
        names_again h t =
            record {
              fits = omega (arith, L.fits, some);
              rest = rw (lt-ltb (get_or words k 0) (pattern_count image) (omega (arith, W.pattern_count_lem)), lt-ltb (get_or words (k + 1) 0) (type_count image) (omega (arith, W.type_count_lem))) at first;
            }

  -- `list_formed`
  pub list_long : 64 < param_count words → false ≡ list_formed image words
  unfolding list_formed
  list_long h = rw (lt-leb (param_count words) 64 h)

  pub list_odd : param_count words ≤ 64 → (2 * param_count words ≡ length words → ⊥) → false ≡ list_formed image words
  unfolding list_formed
  list_odd h odd = rw (le-leb (param_count words) 64 h, ne_eqb (2 * param_count words) (length words) odd)

  pub list_named : {r : Bool} → param_count words ≤ 64 → 2 * param_count words ≡ length words → r ≡ params_named image (params_of words) → r ≡ list_formed image words
  unfolding list_formed
  list_named h even is = rw (le-leb (param_count words) 64 h, eq-eqb (2 * param_count words) (length words) even) is
