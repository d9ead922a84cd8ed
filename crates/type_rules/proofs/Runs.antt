-- The laws of the runs of type numbers. Assumes nothing.
use Prim.Native.Nat.{ℕ, zero, suc, ◌+◌, ◌-◌, ◌≤◌, ◌<◌}
use mathlib.Core.Path.{◌≡◌, refl, sym, ap, ◌∙◌}
use mathlib.Core.Bool.{Bool, true, false, cond, ◌&&◌}
use mathlib.Core.List.{List}
use mathlib.Core.Logic.{⊎_elim}
use native.Mathlib.Nat.{eq-or-lt_of_le}
use native.Mathlib.Numerals.{add-one}
use native.Mathlib.Omega.{arith}
use borrow.Author.Tests.{le-leb}
use lib.Dec.{leb, leb-zero, leb-suc-zero, leb-suc-suc}
use lib.ListN.{length, get_or, set, replicate, length-set, length-replicate, get_or-replicate}
use lib.Seq.{get_or-set_same, get_or-set_other}
use Rattle.image.specs.Tables.{list_count}
use Rattle.image.specs.Rows.{list_at}
use Rattle.image.specs.Lists.{all_in}
use Rattle.image.specs.Rules.{names_type, listed, types_listed}
use Rattle.type_rules.specs.Runs.{run, Runs}

-- a range lies within a run where each of its words names a type
run_covers : (image : List ℕ) (from count n : ℕ) → count ≤ n → leb count (run image from n) ≡ all_in (names_type image) (listed image 1 from count)
unfolding run listed all_in
run_covers image from zero n h = leb-zero (run image from n)
run_covers image from (suc count) zero h = absurd (omega arith)
run_covers image from (suc count) (suc n) h = go (names_type image (list_at image from)) (run_covers image (from + 1) count n (omega arith))
  where
    go : (t : Bool) → leb count (run image (from + 1) n) ≡ all_in (names_type image) (listed image 1 (from + 1) count) →
        leb (suc count) (cond t (suc (run image (from + 1) n)) 0) ≡ t && all_in (names_type image) (listed image 1 (from + 1) count)
    go true e = leb-suc-suc count (run image (from + 1) n) ∙ e
    go false e = leb-suc-zero count

pub listed_by_run : (image runs : List ℕ) (from count : ℕ) → Runs image runs → from + count ≤ list_count image → leb count (get_or runs from 0) ≡ types_listed image from count
unfolding types_listed
listed_by_run image runs from count R h =
    rw (le-leb (from + count) (list_count image) h, R.each from (omega arith)) (run_covers image from count (list_count image - from) (omega arith))

-- the runs are right from the place i of the list on
pub record From (image runs : List ℕ) (i : ℕ) : Type 0 where
  pub place : i ≤ list_count image
  pub size : length runs ≡ 2049
  pub each : (k : ℕ) → i ≤ k → k ≤ list_count image → get_or runs k 0 ≡ run image k (list_count image - k)

pub runs_begin : (image runs : List ℕ) (i : ℕ) → i ≡ list_count image → list_count image ≤ 2048 → runs ≡ replicate 2049 0 → From image runs i
unfolding run
runs_begin image runs i at h z =
    record {
      place = omega arith;
      size = ap length z ∙ length-replicate {A = ℕ} 2049 0;
      each = λ k a b.
          let last : list_count image - k ≡ 0 = omega arith in
          ap (λ (l : List ℕ). get_or l k 0) z ∙ get_or-replicate 2049 k 0 0 (omega arith) ∙ ap (run image k) (sym last);
    }

run_le : (image : List ℕ) (k n : ℕ) → run image k n ≤ n
unfolding run
run_le image k zero = omega arith
run_le image k (suc n) = go (names_type image (list_at image k)) (run_le image (k + 1) n)
  where
    go : (t : Bool) → run image (k + 1) n ≤ n → cond t (suc (run image (k + 1) n)) 0 ≤ suc n
    go true h = omega arith
    go false h = omega arith

-- the run behind the place before i is short enough to grow
pub run_short : (image runs : List ℕ) (i : ℕ) → From image runs i → 0 < i → list_count image ≤ 2048 → get_or runs (i - 1 + 1) 0 < 65535
run_short image runs i F h l =
    let same : i - 1 + 1 ≡ i = omega arith in
    rw (same, F.each i (omega arith) F.place) (omega (arith, run_le image i (list_count image - i)))

-- one place more
pub runs_more : (image runs : List ℕ) (i : ℕ) → From image runs i → 0 < i → list_count image ≤ 2048 →
    From image (set runs (i - 1) (cond (names_type image (list_at image (i - 1))) (get_or runs (i - 1 + 1) 0 + 1) 0)) (i - 1)
unfolding run
runs_more image runs i F h l =
    record {
      place = omega (arith, F.place);
      size = length-set runs (i - 1) _ ∙ F.size;
      each = λ k a b. ⊎_elim (λ (e : i - 1 ≡ k). here k e) (λ (lt : i - 1 < k). there k lt b) (eq-or-lt_of_le a);
    }
  where
    there : (k : ℕ) → i - 1 < k → k ≤ list_count image → get_or (set runs (i - 1) (cond (names_type image (list_at image (i - 1))) (get_or runs (i - 1 + 1) 0 + 1) 0)) k 0 ≡ run image k (list_count image - k)
    there k lt b = get_or-set_other runs (i - 1) k _ 0 (λ e. omega arith) ∙ F.each k (omega arith) b

    grown : (t : Bool) → cond t (get_or runs (i - 1 + 1) 0 + 1) 0 ≡ cond t (suc (run image (i - 1 + 1) (list_count image - i))) 0
    grown true =
        let same : i - 1 + 1 ≡ i = omega arith in
        rw (same, F.each i (omega arith) F.place) (add-one _)
    grown false = refl

    here : (k : ℕ) → i - 1 ≡ k → get_or (set runs (i - 1) (cond (names_type image (list_at image (i - 1))) (get_or runs (i - 1 + 1) 0 + 1) 0)) k 0 ≡ run image k (list_count image - k)
    here k e =
        let left : list_count image - (i - 1) ≡ suc (list_count image - i) = omega (arith, F.place) in
        rw (← e) (get_or-set_same runs (i - 1) _ 0 (omega (arith, F.place, F.size)) ∙ grown (names_type image (list_at image (i - 1))) ∙ ap (run image (i - 1)) (sym left))

pub runs_end : (image runs : List ℕ) (i : ℕ) → From image runs i → i ≡ 0 → list_count image ≤ 2048 → Runs image runs
runs_end image runs i F e l = record { size = F.size; list = l; each = λ k b. F.each k (omega arith) b }
