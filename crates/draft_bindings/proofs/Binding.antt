-- The ways through the code that makes a binding. Assumes nothing.
use Rattle.std.specs.Prelude.{Some, None}
use Prim.Native.Nat.{ℕ, ◌+◌, ◌≤◌, ◌<◌}
use mathlib.Core.Path.{◌≡◌, refl, sym, ap, ap₂, subst, ◌∙◌}
use mathlib.Core.Bool.{Bool, true, false, cond}
use mathlib.Core.Option.{Option, none, some}
use mathlib.Core.List.{List, [], ◌∷◌}
use native.Mathlib.Omega.{arith}
use borrow.Author.Tests.{eq-eqb, ne_eqb}
use lib.Dec.{eqb}
use lib.ListN.{length, length-append}
use Rattle.image.specs.declared.Tables.{Tables}
use Rattle.image.specs.declared.rows.TypeRow.{TypeRow}
use Rattle.image.specs.Tables.{Whole}
use Rattle.pattern_syntax.specs.Reduced.{bytes_from}
use Rattle.pattern_typing.specs.Making.{BoundAt, bound_at_type, bound_at_array}
use Rattle.pattern_images.specs.Drafts.{Draft, next_type, add_type, add_binding, like_in, add_unless, with_type, number_of_type}
use Rattle.pattern_images.specs.Emitting.{array_row, with_bound_at, bound_type, reference_row, with_mode, mode_type, new_binding}
use Rattle.pattern_images.specs.Imaging.{derefs_within, within_image_limits}
use Rattle.draft_stack.specs.Stack.{Stacked}
use Rattle.draft_stack.proofs.Growing.{Grows, grows_both, grows_mode, grows_binding, past_limit}
use Rattle.draft_tables.specs.declared.DraftCounts.{DraftCounts}
use Rattle.draft_tables.specs.Layout.{draft_in, stacked_in, WithinDraft, binding_more, drafted, HoldsBinding}
use Rattle.draft_tables.specs.Room.{DraftRoom}
use Rattle.draft_tables.specs.Steps.{DraftHeld}
use Rattle.draft_tables.proofs.Counted.{room_within, binding_length}
use Rattle.draft_types.specs.Results.{TypeStep}
use Rattle.draft_types.specs.Types.{TypeStepped}
use Rattle.draft_bindings.specs.declared.BoundWords.{BoundWords}
use Rattle.draft_bindings.specs.Bindings.{bound_at_of, NumberHeld, NumberStepped}

-- types that are added leave the patterns
unless_patterns : (o : Option ℕ) (row : TypeRow) (d : Draft) → (add_unless o row d).patterns ≡ d.patterns
unfolding add_unless add_type
unless_patterns none row d = refl
unless_patterns (some t) row d = refl

bound_patterns : (sheet : List ℕ) (at : BoundAt) (d : Draft) → (with_bound_at sheet at d).patterns ≡ d.patterns
unfolding with_bound_at
bound_patterns sheet (bound_at_type t) d = refl
bound_patterns sheet (bound_at_array element many copy) d = unless_patterns (like_in sheet d (array_row element many copy)) (array_row element many copy) d

mode_patterns : (sheet : List ℕ) (mode t : ℕ) (d : Draft) → (with_mode sheet mode t d).patterns ≡ d.patterns
unfolding with_mode
mode_patterns sheet mode t d = by (eqb mode 0)
  where
    by : (b : Bool) → (cond b d (with_type sheet (reference_row t mode) d)).patterns ≡ d.patterns
    by true = refl
    by false = unless_patterns (like_in sheet d (reference_row t mode)) (reference_row t mode) d

module _ (sheet : List ℕ) (tables : Tables) (table : List ℕ) (c : DraftCounts) where
  -- a type that is looked for, as a step to its number
  type_number_lem : (row : TypeRow) (r : TypeStep) (after : List ℕ) → TypeStepped sheet tables table c row r after → NumberStepped sheet tables table c (with_type sheet row) (number_of_type sheet row) r after
  type_number_lem row (Some (t, counts)) after held = record { room = held.room; height = held.height; holds = held.holds; numbered = held.number }
  type_number_lem row None after past = past

  -- `with_bound`
  pub bound_type_lem : (at : BoundWords) → at.element ≡ 65535 → DraftRoom tables c → NumberHeld tables table c (with_bound_at sheet (bound_at_of at)) (bound_type sheet (bound_at_of at)) at.ty c table
  unfolding bound_at_of with_bound_at bound_type stacked_in
  bound_type_lem at e room = rw (eq-eqb at.element 65535 e) (record { room = room; height = refl; holds = λ names. refl; numbered = λ names. refl })

  pub bound_array : (at : BoundWords) (r : TypeStep) (after : List ℕ) → (at.element ≡ 65535 → ⊥) → TypeStepped sheet tables table c (array_row at.element at.many at.copy) r after → NumberStepped sheet tables table c (with_bound_at sheet (bound_at_of at)) (bound_type sheet (bound_at_of at)) r after
  unfolding bound_at_of with_bound_at bound_type
  bound_array at r after e step = rw (ne_eqb at.element 65535 e) (type_number_lem (array_row at.element at.many at.copy) r after step)

  -- `with_mode`
  pub mode_value : (mode t : ℕ) → mode ≡ 0 → DraftRoom tables c → NumberHeld tables table c (with_mode sheet mode t) (mode_type sheet mode t) t c table
  unfolding with_mode mode_type stacked_in
  mode_value mode t e room =
      subst (λ (b : Bool). NumberHeld tables table c (λ d. cond b d (with_type sheet (reference_row t mode) d)) (λ d. cond b t (number_of_type sheet (reference_row t mode) d)) t c table)
      (sym (eq-eqb mode 0 e)) (record { room = room; height = refl; holds = λ names. refl; numbered = λ names. refl })

  pub mode_reference : (mode t flag : ℕ) (r : TypeStep) (after : List ℕ) → (mode ≡ 0 → ⊥) → flag ≡ cond (eqb mode 1) 1 0 → TypeStepped sheet tables table c (record { kind = 7; a = t; b = 0; c = 0; copy = flag }) r after → NumberStepped sheet tables table c (with_mode sheet mode t) (mode_type sheet mode t) r after
  unfolding with_mode mode_type
  mode_reference mode t flag r after e is step =
      subst (λ (b : Bool). NumberStepped sheet tables table c (λ d. cond b d (with_type sheet (reference_row t mode) d)) (λ d. cond b t (number_of_type sheet (reference_row t mode) d)) r after)
      (sym (ne_eqb mode 0 e))
      (type_number_lem (reference_row t mode) r after (subst (λ (f : ℕ). TypeStepped sheet tables table c (record { kind = 7; a = t; b = 0; c = 0; copy = f }) r after) is step))

  -- `new_binding`
  module _ (mode from to : ℕ) (at : BoundAt) where
    abbrev anew : List ℕ → Draft → Draft
    anew names d = new_binding sheet mode (bytes_from names from to) at d

    abbrev typed : Draft → Draft
    typed d = with_mode sheet mode (bound_type sheet at d) (with_bound_at sheet at d)

    grows_anew : (names : List ℕ) (d : Draft) → Grows (typed d) (anew names d)
    unfolding new_binding
    grows_anew names d = grows_binding (typed d) _ (bytes_from names from to)

    kept_patterns : (d : Draft) → (typed d).patterns ≡ d.patterns
    kept_patterns d = mode_patterns sheet mode (bound_type sheet at d) (with_bound_at sheet at d) ∙ bound_patterns sheet at d

    pub past_bound : ((names : List ℕ) → 256 < next_type sheet (with_bound_at sheet at (draft_in names table c))) → (names : List ℕ) → within_image_limits sheet (anew names (stacked_in names table c).draft) ≡ false
    unfolding stacked_in
    past_bound past names =
        let d = draft_in names table c in
        let g = grows_both (grows_mode sheet mode (bound_type sheet at d) (with_bound_at sheet at d)) (grows_anew names d) in
        past_limit sheet (anew names d) (λ w. omega (arith, past names, w.types, g.types))

    module _ (bound : ℕ) (first : DraftCounts) (mid : List ℕ) (one : NumberHeld tables table c (with_bound_at sheet at) (bound_type sheet at) bound first mid) where
      -- what the second step starts from
      second_from : (names : List ℕ) → with_mode sheet mode bound (draft_in names mid first) ≡ typed (draft_in names table c)
      unfolding stacked_in
      second_from names = ap₂ (with_mode sheet mode) (one.numbered names) (ap (λ (s : Stacked). s.draft) (one.holds names))

      pub past_mode : ((names : List ℕ) → 256 < next_type sheet (with_mode sheet mode bound (draft_in names mid first))) → (names : List ℕ) → within_image_limits sheet (anew names (stacked_in names table c).draft) ≡ false
      unfolding stacked_in
      past_mode past names =
          let d = draft_in names table c in
          let g = grows_anew names d in
          past_limit sheet (anew names d) (λ w. omega (arith, past names, ap (next_type sheet) (second_from names), w.types, g.types))

      module _ (held : ℕ) (second : DraftCounts) (last : List ℕ) (two : NumberHeld tables mid first (with_mode sheet mode bound) (mode_type sheet mode bound) held second last) where
        both_types : (names : List ℕ) → stacked_in names last second ≡ drafted typed (stacked_in names table c)
        unfolding stacked_in
        both_types names =
            two.holds names
            ∙ (λ i. record { stack = (one.holds names i).stack; draft = second_from names i })

        pub past_bindings : (whole : Whole sheet tables) → 256 ≤ tables.bindings.count + second.bindings → (names : List ℕ) → within_image_limits sheet (anew names (stacked_in names table c).draft) ≡ false
        unfolding stacked_in new_binding add_binding
        past_bindings whole h names =
            let d = draft_in names table c in
            past_limit sheet (anew names d)
            (λ w. omega (arith, h, w.bindings, whole.binding_count_lem, binding_length names last second, ap (λ (s : Stacked). length s.draft.bindings) (both_types names), length-append (typed d).bindings (record { ty = mode_type sheet mode (bound_type sheet at d) (with_bound_at sheet at d); picked = 1 } ∷ [])))

        pub binding_within : tables.bindings.count + second.bindings < 256 → WithinDraft second × (second.bindings < 256)
        binding_within h = (room_within tables second two.room, omega arith)

        pub binding_held : (counts : DraftCounts) (after : List ℕ) → tables.bindings.count + second.bindings < 256 → counts ≡ binding_more second → HoldsBinding last second held from to after → DraftHeld tables table c (λ names s. drafted (anew names) s) counts after
        unfolding stacked_in new_binding add_binding
        binding_held counts after h is stored =
            record {
              room = subst (DraftRoom tables) (sym is) (record { types = two.room.types; patterns = two.room.patterns; bindings = omega arith; words = two.room.words; bytes = two.room.bytes; height = two.room.height });
              holds = all;
              derefs = λ kept names. ap (λ (s : Stacked). derefs_within s.draft.patterns) (all names) ∙ ap derefs_within (kept_patterns (draft_in names table c)) ∙ kept names;
            }
          where
            number : (names : List ℕ) → held ≡ mode_type sheet mode (bound_type sheet at (draft_in names table c)) (with_bound_at sheet at (draft_in names table c))
            number names = two.numbered names ∙ ap₂ (mode_type sheet mode) (one.numbered names) (ap (λ (s : Stacked). s.draft) (one.holds names))

            all : (names : List ℕ) → stacked_in names after counts ≡ drafted (anew names) (stacked_in names table c)
            all names =
                ap (stacked_in names after) is
                ∙ stored names
                ∙ ap (drafted (add_binding (record { ty = held; picked = 1 }) (bytes_from names from to))) (both_types names)
                ∙ ap (λ (t : ℕ). drafted (λ d. add_binding (record { ty = t; picked = 1 }) (bytes_from names from to) (typed d)) (stacked_in names table c)) (number names)
