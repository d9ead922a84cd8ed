-- Number 20's position is the first at which a node is refused. Assumes nothing.
use Prim.Native.Nat.{ℕ, ◌≤◌, ◌<◌}
use mathlib.Core.Path.{◌≡◌, refl, ◌∙◌, sym, ap}
use mathlib.Core.Bool.{Bool, true, false, cond}
use mathlib.Core.Option.{Option, none, some}
use mathlib.Core.Logic.{◌⊎◌, inl, inr, ⊎_elim}
use mathlib.Core.List.{List}
use lib.Dec.{ltb}
use native.Mathlib.Omega.{arith}
use borrow.Author.Tests.{ltb-true, ltb-false}
use Rattle.pattern_syntax.specs.Written.{Node, Written, written, Parts, no_parts, more, part_count}
use Rattle.pattern_typing.specs.Contexts.{Context, PartsRead, part_context}
use Rattle.pattern_typing.specs.Failing.{lower, earlier, refused_in, refused_among}
use Rattle.reading_audit.specs.Places.{reads_parts, own_refusal, ReadsInside, itself, inside, ReadsAmong, in_last, in_earlier, RefusedInside, FirstRefused}

-- the lower of two positions is one of them, and below both
lower_one : (a b : ℕ) → (lower a b ≡ a) ⊎ (lower a b ≡ b)
unfolding lower
lower_one a b = by (ltb b a)
  where
    by : (t : Bool) → (cond t b a ≡ a) ⊎ (cond t b a ≡ b)
    by true = inr refl
    by false = inl refl

lower_left : (a b : ℕ) → lower a b ≤ a
unfolding lower
lower_left a b = by (ltb b a) refl
  where
    by : (t : Bool) → ltb b a ≡ t → cond t b a ≤ a
    by true e = let h = ltb-true b a e in omega arith
    by false e = omega arith

lower_right : (a b : ℕ) → lower a b ≤ b
unfolding lower
lower_right a b = by (ltb b a) refl
  where
    by : (t : Bool) → ltb b a ≡ t → cond t b a ≤ b
    by true e = omega arith
    by false e = ltb-false b a e

-- a position that is at most another
record AtMost (found : Option ℕ) (most : ℕ) : Type 0 where
  value : ℕ
  is : found ≡ some value
  below : value ≤ most

-- the earlier of two is one of them
one_of_lem : (x y : Option ℕ) (a : ℕ) → earlier x y ≡ some a → (x ≡ some a) ⊎ (y ≡ some a)
unfolding earlier
one_of_lem none y a e = inr e
one_of_lem (some b) none a e = inl e
one_of_lem (some b) (some c) a e = by (lower_one b c)
  where
    by : ((lower b c ≡ b) ⊎ (lower b c ≡ c)) → (some b ≡ some a) ⊎ (some c ≡ some a)
    by (inl l) = inl (ap some (sym l) ∙ e)
    by (inr l) = inr (ap some (sym l) ∙ e)

-- and at most each
at_most_left : (x y : Option ℕ) (b : ℕ) → x ≡ some b → AtMost (earlier x y) b
unfolding earlier
at_most_left x none b e = rw (e) (record { value = b; is = refl; below = omega arith })
at_most_left x (some c) b e = rw (e) (record { value = lower b c; is = refl; below = lower_left b c })

at_most_right : (x y : Option ℕ) (b : ℕ) → AtMost y b → AtMost (earlier x y) b
unfolding earlier
at_most_right none y b m = m
at_most_right (some a) y b m =
    let l = lower_right a m.value in
    let h = m.below in
    rw m.is (record { value = lower a m.value; is = refl; below = omega arith })

at_most_first : (x y : Option ℕ) (b : ℕ) → AtMost x b → AtMost (earlier x y) b
at_most_first x y b m =
    let f = at_most_left x y m.value m.is in
    let l = f.below in
    let h = m.below in
    record { value = f.value; is = f.is; below = omega arith }

module _ (sheet names : List ℕ) where
  record RefusedAmongThem (ps : Parts) (reads : PartsRead) (at : ℕ) : Type 0 where
    node : Written
    read : Context
    place : ReadsAmong sheet names ps reads node read
    own : own_refusal sheet names node read ≡ some at

  one_deeper :
      (at : ℕ) (n : Node) (ps : Parts) (c : Context) (a : ℕ) → RefusedAmongThem ps (reads_parts sheet names (written at n ps) c) a
      → RefusedInside sheet names (written at n ps) c a
  one_deeper at n ps c a r = record { node = r.node; read = r.read; place = inside r.place; own = r.own }

  last_of :
      (ps : Parts) (w : Written) (reads : PartsRead) (a : ℕ) → RefusedInside sheet names w (part_context sheet reads (part_count ps)) a
      → RefusedAmongThem (more ps w) reads a
  last_of ps w reads a r = record { node = r.node; read = r.read; place = in_last r.place; own = r.own }

  earlier_of : (ps : Parts) (w : Written) (reads : PartsRead) (a : ℕ) → RefusedAmongThem ps reads a → RefusedAmongThem (more ps w) reads a
  earlier_of ps w reads a r = record { node = r.node; read = r.read; place = in_earlier r.place; own = r.own }

  -- a position that is told is some node's own
  mutual
    unfolding refused_in refused_among reads_parts own_refusal

    pub refused_inside : (w : Written) (c : Context) (a : ℕ) → refused_in sheet names w c ≡ some a → RefusedInside sheet names w c a
    refused_inside (written at n ps) c a e =
        ⊎_elim
        (λ own. record { node = written at n ps; read = c; place = itself; own = own })
        (λ among. one_deeper at n ps c a (refused_among_lem ps (reads_parts sheet names (written at n ps) c) a among))
        (one_of_lem (own_refusal sheet names (written at n ps) c) (refused_among sheet names ps (reads_parts sheet names (written at n ps) c)) a e)

    refused_among_lem : (ps : Parts) (reads : PartsRead) (a : ℕ) → refused_among sheet names ps reads ≡ some a → RefusedAmongThem ps reads a
    refused_among_lem no_parts reads a e = absurd (let z : ◌≡◌ {A = ℕ} 0 1 = cc in omega arith)
    refused_among_lem (more ps w) reads a e =
        ⊎_elim
        (λ last. last_of ps w reads a (refused_inside w (part_context sheet reads (part_count ps)) a last))
        (λ before. earlier_of ps w reads a (refused_among_lem ps reads a before))
        (one_of_lem (refused_in sheet names w (part_context sheet reads (part_count ps))) (refused_among sheet names ps reads) a e)

  -- and no node's own is before it
  mutual
    unfolding refused_in refused_among reads_parts own_refusal

    least_inside :
        (w : Written) (c : Context) (v : Written) (k : Context) (b : ℕ) → ReadsInside sheet names w c v k → own_refusal sheet names v k ≡ some b
        → AtMost (refused_in sheet names w c) b
    least_inside (written at n ps) c v k b itself own =
        at_most_left (own_refusal sheet names (written at n ps) c) (refused_among sheet names ps (reads_parts sheet names (written at n ps) c)) b own
    least_inside (written at n ps) c v k b (inside r) own =
        at_most_right (own_refusal sheet names (written at n ps) c) (refused_among sheet names ps (reads_parts sheet names (written at n ps) c)) b
        (least_among ps (reads_parts sheet names (written at n ps) c) v k b r own)

    least_among :
        (ps : Parts) (reads : PartsRead) (v : Written) (k : Context) (b : ℕ) → ReadsAmong sheet names ps reads v k → own_refusal sheet names v k ≡ some b
        → AtMost (refused_among sheet names ps reads) b
    least_among (more ps w) reads v k b (in_last r) own =
        at_most_first (refused_in sheet names w (part_context sheet reads (part_count ps))) (refused_among sheet names ps reads) b
        (least_inside w (part_context sheet reads (part_count ps)) v k b r own)
    least_among (more ps w) reads v k b (in_earlier r) own =
        at_most_right (refused_in sheet names w (part_context sheet reads (part_count ps))) (refused_among sheet names ps reads) b
        (least_among ps reads v k b r own)
    least_among no_parts reads v k b x4 own = elim x4 [ ]

  pub first_refused : (w : Written) (c : Context) (a : ℕ) → refused_in sheet names w c ≡ some a → FirstRefused sheet names w c a
  first_refused w c a e =
      record {
        one = refused_inside w c a e;
        first =
            λ other r.
            let m = least_inside w c r.node r.read other r.place r.own in
            let same : some m.value ≡ some a = sym m.is ∙ e in
            let v : m.value ≡ a = cc in
            let h = m.below in
            omega arith;
      }
