-- The image of a sheet and what a text adds to it is valid. Assumes nothing.
use Prim.Native.Nat.{ℕ, zero, suc, ◌+◌, ◌-◌, ◌≤◌, ◌<◌}
use mathlib.Core.Path.{◌≡◌, refl, sym, ap, ap₂, ◌∙◌}
use mathlib.Core.Bool.{Bool, true, false}
use mathlib.Core.Option.{none}
use mathlib.Core.List.{List, [], ◌∷◌, ◌++◌}
use native.Mathlib.Nat.{zero-add, add-zero}
use native.Mathlib.Omega.{arith}
use borrow.Author.Tests.{ltb-true, ltb-false, le-leb, eq-eqb}
use lib.Dec.{eqb, ltb, leb}
use lib.ListN.{length, get_or}
use Rattle.image.specs.declared.rows.TypeRow.{TypeRow}
use Rattle.image.specs.declared.rows.PatRow.{PatRow}
use Rattle.image.specs.declared.rows.BindingRow.{BindingRow}
use Rattle.image.specs.Bytes.{byte_at, long_at}
use Rattle.image.specs.Tables.{type_count, variant_count, pattern_count, binding_count, tables_end}
use Rattle.image.specs.Kinds.{pat_kind}
use Rattle.image.specs.Rows.{pat_at}
use Rattle.image.specs.Lists.{all_below, all_true, gather}
use Rattle.image.specs.Rules.{counts_what_follows, version_is_one, tables_fill_the_rest, type_holds, adts_share_no_variant, variant_holds, binding_holds, within_limits}
use Rattle.image.specs.Subpatterns.{subpatterns_by, subpatterns}
use Rattle.image.specs.Patterns.{pattern_holds, subpatterns_below, used_once}
use Rattle.image.specs.Valid.{valid}
use Rattle.image.proofs.Bools.{and_left, and_right, and_true}
use Rattle.type_sheets.specs.Sheets.{sheet_holds}
use Rattle.pattern_syntax.specs.Written.{Written}
use Rattle.pattern_syntax.specs.Formed.{in_pattern}
use Rattle.pattern_typing.specs.Crossing.{by_value}
use Rattle.pattern_typing.specs.Contexts.{typed}
use Rattle.pattern_typing.specs.Making.{pattern_row}
use Rattle.pattern_images.specs.Drafts.{Draft, empty_draft, next_type, next_pattern, next_binding, next_word, next_byte}
use Rattle.pattern_images.specs.Emitting.{emitted}
use Rattle.pattern_images.specs.Imaging.{image_with, derefs_within}
use Rattle.pattern_reading.specs.Reads.{draft_of}
use Rattle.image_growth.specs.Growing.{Grown}
use Rattle.image_validity.specs.Validity.{Readable, HasValidImage}
use Rattle.image_growth.proofs.Grows.{grown}
use Rattle.image_growth.proofs.Limits.{Few, few}
use Rattle.image_validity.specs.Standing.{BindingGood, Good, PatternGood, TypeGood, below, one, times, used}
use Rattle.image_validity.proofs.Tests.{below_all, in_weaker, ltb_more, and_three, gather_split, in_gathered, times_join, distinct_by_times, times_distinct, times_failing}
use Rattle.image_validity.proofs.Keeping.{sheet_below, sheet_once, type_kept, variant_kept, binding_kept, pattern_kept, below_kept, used_kept, adts_kept}
use Rattle.image_validity.proofs.Extending.{extends_same}
use Rattle.image_validity.proofs.Steps.{each_at, below_one}
use Rattle.image_validity.proofs.Emits.{in_at}
use Rattle.image_validity.proofs.Whole.{tree_step}

-- what holds of the old numbers and of the added ones
old_and_added : (f : ℕ → Bool) (old added n : ℕ) → n ≡ old + added → ((k : ℕ) → k < old → f k ≡ true) → ((i : ℕ) → i < added → f (old + i) ≡ true) → all_below f n ≡ true
old_and_added f old added n e first second = below_all f n (λ k lt. by k lt (ltb k old) refl)
  where
    by : (k : ℕ) → k < n → (b : Bool) → ltb k old ≡ b → f k ≡ true
    by k lt true q = first k (ltb-true k old q)
    by k lt false q =
        let le = ltb-false k old q in
        let place : k ≡ old + (k - old) = omega (arith, le) in
        ap f place ∙ second (k - old) (omega (arith, le, lt, e))

-- the derefs of each row
derefs_at : (rs : List PatRow) (i : ℕ) (other : PatRow) → derefs_within rs ≡ true → i < length rs → leb (get_or rs i other).derefs 16 ≡ true
unfolding derefs_within
derefs_at [] i other h lt = absurd (omega arith)
derefs_at (r ∷ rs) zero other h lt = and_left (leb r.derefs 16) (derefs_within rs) h
derefs_at (r ∷ rs) (suc i) other h lt = derefs_at rs i other (and_right (leb r.derefs 16) (derefs_within rs) h) (omega arith)

abbrev no_type : TypeRow
no_type = record { kind = 0; a = 0; b = 0; c = 0; copy = 0 }

abbrev no_pattern : PatRow
no_pattern = pattern_row 0 0 0 0 0 0 0

abbrev no_binding : BindingRow
no_binding = record { ty = 0; picked = 0 }

-- the subpatterns of rows that stand one behind the other
gather_used : (image : List ℕ) (rs : List PatRow) (from : ℕ) → ((i : ℕ) → i < length rs → pat_at image (from + i) ≡ get_or rs i no_pattern) →
    gather (subpatterns image) from (length rs) ≡ used image rs
unfolding gather used
gather_used image [] from h = refl
gather_used image (r ∷ rs) from h =
    ap₂ ◌++◌ (ap (λ (row : PatRow). subpatterns_by (pat_kind row.kind) image row) (ap (pat_at image) (sym (add-zero from)) ∙ h 0 (omega arith)))
    (gather_used image rs (from + 1)
    (λ i lt. let e : from + 1 + i ≡ from + suc i = omega arith in ap (pat_at image) e ∙ h (suc i) (omega arith)))

module _ (sheet : List ℕ) (whole : Draft) (image : List ℕ) (g : Grown sheet whole image) (holds : sheet_holds sheet ≡ true) (good : Good sheet image whole) where
  added_type : (i : ℕ) → i < length whole.types → TypeGood image (0 + i) (get_or whole.types i no_type)
  added_type i lt = each_at (TypeGood image) whole.types 0 i no_type good.types lt

  all_types : all_below (type_holds image) (type_count image) ≡ true
  unfolding type_holds
  all_types =
      old_and_added (type_holds image) (type_count sheet) (length whole.types) (type_count image) g.types_are (type_kept sheet whole image g holds)
      (λ i lt. rw (g.types.behind i no_type lt) (added_type i lt).holds)

  all_variants : all_below (variant_holds image) (variant_count image) ≡ true
  all_variants = below_all (variant_holds image) (variant_count image) (λ v lt. variant_kept sheet whole image g holds v (omega (arith, lt, g.variants_are)))

  no_shared_variant : adts_share_no_variant image ≡ true
  no_shared_variant = adts_kept sheet whole image g holds (λ i lt. rw (g.types.behind i no_type lt) (added_type i lt).alone)

  added_pattern : (i : ℕ) → i < length whole.patterns → PatternGood image (pattern_count sheet + i) (get_or whole.patterns i no_pattern)
  added_pattern i lt = each_at (PatternGood image) whole.patterns (pattern_count sheet) i no_pattern good.patterns lt

  all_patterns : derefs_within whole.patterns ≡ true → all_below (pattern_holds image) (pattern_count image) ≡ true
  unfolding pattern_holds
  all_patterns few =
      old_and_added (pattern_holds image) (pattern_count sheet) (length whole.patterns) (pattern_count image) g.patterns_are (pattern_kept sheet whole image g holds)
      (λ i lt.
      let own = added_pattern i lt in
      rw (g.patterns.behind i no_pattern lt) (and_three _ _ _ own.named (derefs_at whole.patterns i no_pattern few lt) own.shape))

  all_below_lem : all_below (subpatterns_below image) (pattern_count image) ≡ true
  unfolding subpatterns_below
  all_below_lem =
      old_and_added (subpatterns_below image) (pattern_count sheet) (length whole.patterns) (pattern_count image) g.patterns_are (below_kept sheet whole image g holds)
      (λ i lt. rw (g.patterns.behind i no_pattern lt) (added_pattern i lt).subs)

  all_bindings : all_below (binding_holds image) (binding_count image) ≡ true
  unfolding binding_holds
  all_bindings =
      old_and_added (binding_holds image) (binding_count sheet) (length whole.bindings) (binding_count image) g.bindings_are (binding_kept sheet whole image g holds)
      (λ i lt. rw (g.bindings.behind i no_binding lt) (each_at (BindingGood image) whole.bindings 0 i no_binding good.bindings lt).holds)

  -- the sheet's own patterns use numbers of the sheet, each at most once
  sheet_uses : (q : ℕ) → times q (gather (subpatterns sheet) 0 (pattern_count sheet)) ≤ below q (pattern_count sheet)
  unfolding used_once subpatterns_below
  sheet_uses q = by (ltb q (pattern_count sheet)) refl
    where
      by : (b : Bool) → ltb q (pattern_count sheet) ≡ b → times q (gather (subpatterns sheet) 0 (pattern_count sheet)) ≤ one b
      by true e = times_distinct (gather (subpatterns sheet) 0 (pattern_count sheet)) q (sheet_once sheet holds)
      by false e =
          let none = times_failing (λ k. ltb k (pattern_count sheet)) q (gather (subpatterns sheet) 0 (pattern_count sheet))
          (in_gathered (subpatterns sheet) (λ k. ltb k (pattern_count sheet)) 0 (pattern_count sheet)
          (λ i lt. in_weaker (λ k. ltb k (0 + i)) (λ k. ltb k (pattern_count sheet)) (subpatterns sheet (0 + i)) (λ k. ltb_more k (0 + i) (pattern_count sheet) (omega arith))
          (sheet_below sheet holds (0 + i) (omega arith))))
          e
          in
          omega (arith, none)

  all_used : gather (subpatterns image) 0 (pattern_count image) ≡ gather (subpatterns sheet) 0 (pattern_count sheet) ++ used image whole.patterns
  all_used =
      ap (gather (subpatterns image) 0) g.patterns_are
      ∙ (gather_split (subpatterns image) 0 (pattern_count sheet) (length whole.patterns)
      ∙ ap₂ ◌++◌ (used_kept sheet whole image g holds)
      (ap (λ (k : ℕ). gather (subpatterns image) k (length whole.patterns)) (zero-add (pattern_count sheet))
      ∙ gather_used image whole.patterns (pattern_count sheet) (λ i lt. g.patterns.behind i no_pattern lt)))

  once_all : ((q : ℕ) → times q (used image whole.patterns) + below q (pattern_count sheet) ≤ 1) → used_once image ≡ true
  unfolding used_once
  once_all h =
      distinct_by_times (gather (subpatterns image) 0 (pattern_count image))
      (λ q. omega (arith, ap (times q) all_used, times_join q (gather (subpatterns sheet) 0 (pattern_count sheet)) (used image whole.patterns), sheet_uses q, h q))

frame_holds : (sheet : List ℕ) (whole : Draft) (image : List ℕ) → Grown sheet whole image →
    (counts_what_follows image ≡ true) × ((version_is_one image ≡ true) × (tables_fill_the_rest image ≡ true))
unfolding counts_what_follows version_is_one tables_fill_the_rest
frame_holds sheet whole image g = (
  and_true (leb 4 (length image)) (eqb (length image) (4 + long_at image 0)) (le-leb 4 (length image) (omega (arith, g.counted)))
      (eq-eqb (length image) (4 + long_at image 0) g.counted),
  (eq-eqb (byte_at image 4) 1 g.version, eq-eqb (length image) (tables_end image) g.filled),
)

limits_hold : (sheet : List ℕ) (whole : Draft) (image : List ℕ) → Grown sheet whole image → Few sheet whole → 1 ≤ next_pattern sheet whole → within_limits image ≡ true
unfolding within_limits
limits_hold sheet whole image g f some =
    rw (g.types_are, g.variants_are, g.patterns_are, g.bindings_are, g.words_are, g.bytes_are)
    (and_true _ _
    (and_true _ _
    (and_true _ _
    (and_three _ _ _ (le-leb (next_type sheet whole) 256 f.types) (le-leb (variant_count sheet) 512 f.variants)
    (and_true _ _ (le-leb 1 (next_pattern sheet whole) some) (le-leb (next_pattern sheet whole) 512 f.patterns)))
    (le-leb (next_binding sheet whole) 256 f.bindings))
    (le-leb (next_word sheet whole) 2048 f.words))
    (le-leb (next_byte sheet whole) 16384 f.bytes))

-- nothing is added
pub good_empty : (sheet image : List ℕ) → Good sheet image empty_draft
good_empty sheet image = record { called = refl; types = tt; patterns = tt; bindings = tt }

-- The theorem.
pub image_valid : (sheet names : List ℕ) (expected : ℕ) (w : Written) → Readable sheet names expected w → HasValidImage sheet names expected w
unfolding valid all_true used times
image_valid sheet names expected w readable =
    let holds = readable.sheet_holds_lem in
    let whole = draft_of sheet names expected w in
    let image = image_with sheet whole in
    let g = grown sheet whole holds in
    let step = tree_step sheet names whole image g holds readable.names_hold_lem readable.bytes w in_pattern (typed expected by_value) empty_draft readable.is_formed
    (readable.exists, omega arith) readable.taken (good_empty sheet image) (extends_same whole) in
    let good = step.good in
    let frame = frame_holds sheet whole image g in
    let root =
    ltb-true _ (next_pattern sheet whole)
    (in_at (λ q. ltb q (next_pattern sheet whole)) (emitted sheet names w (typed expected by_value) empty_draft).stands 0 0 step.stood.1
    (let l = step.stood.0 in omega (arith, l)))
    in
    let f = few sheet whole holds readable.within in
    let start : next_pattern sheet empty_draft ≡ pattern_count sheet = add-zero (pattern_count sheet) in
    let once : (q : ℕ) → times q (used image whole.patterns) + below q (pattern_count sheet) ≤ 1 =
    λ q. let l = step.once q in omega (arith, l, ap (below q) start, below_one q (next_pattern sheet whole))
    in
    and_true _ _ frame.0
    (and_true _ _ frame.1.0
    (and_true _ _ frame.1.1
    (and_true _ _ (all_types sheet whole image g holds good)
    (and_true _ _ (all_variants sheet whole image g holds good)
    (and_true _ _ (no_shared_variant sheet whole image g holds good)
    (and_true _ _ (all_patterns sheet whole image g holds good f.derefs)
    (and_true _ _ (all_bindings sheet whole image g holds good)
    (and_true _ _ (all_below_lem sheet whole image g holds good)
    (and_true _ _ (once_all sheet whole image g holds good once)
    (and_true _ _ (limits_hold sheet whole image g f (omega (arith, root))) refl))))))))))
