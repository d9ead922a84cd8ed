-- Bindings in another order: where their locals differ, all locals hold the same after them. Assumes nothing.
use Prim.Native.Nat.{ℕ, zero, suc}
use native.Mathlib.Decide.{ℕ_discrete}
use native.Mathlib.Omega.{arith}
use mathlib.Core.Path.{◌≡◌, refl, sym, ap, ◌∙◌}
use mathlib.Core.Logic.{◌≢◌, ◌⊎◌, inl, inr}
use mathlib.Core.Bool.{Bool, cond}
use mathlib.Core.List.{List, [], ◌∷◌, ◌++◌, append_assoc, reverse_aux}
use borrow.Author.Tests.{ne_eqb}
use lib.ListN.{length, get_or, drop}
use Rattle.place.specs.declared.elems.ProjectionElem.{ProjectionElem}
use Rattle.views.specs.Views.{Path}
use Rattle.meaning.specs.Values.{Value, part_at}
use Rattle.meaning.specs.Running.{Held}
use Rattle.meaning.specs.Matching.{onto, Bound, bind_all}
use Rattle.correctness.specs.Demand2.{held_after}
use Rattle.correctness.proofs.Walking.{after_append}

-- what holds of each binding
abbrev pub Each : (Bound → Type 0) → List Bound → Type 0
Each P [] = Unit
Each P (b ∷ bs) = P b × Each P bs

-- of bindings and then more
pub each_append : (P : Bound → Type 0) (bs cs : List Bound) → Each P bs → Each P cs → Each P (bs ++ cs)
each_append P [] cs h k = k
each_append P (b ∷ bs) cs h k = (h.0, each_append P bs cs h.1 k)

-- what follows from it holds of each too
pub each_map : (P Q : Bound → Type 0) (bs : List Bound) → ((b : Bound) → P b → Q b) → Each P bs → Each Q bs
each_map P Q [] f h = tt
each_map P Q (b ∷ bs) f h = (f b h.0, each_map P Q bs f h.1)

-- the local of a binding
abbrev pub local_of : List ℕ → Bound → ℕ
local_of bindings b = get_or bindings b.binding 65535

-- a binding that has a local
abbrev pub HasLocal : List ℕ → Bound → Type 0
HasLocal bindings b = get_or bindings b.binding 65535 ≢ 65535

-- no two bindings have one local
abbrev pub LocalsApart : List ℕ → Type 0
LocalsApart bindings = (x y : ℕ) → get_or bindings x 65535 ≢ 65535 → get_or bindings x 65535 ≡ get_or bindings y 65535 → x ≡ y

-- what patterns bind, at a place and of a value
abbrev pub Binder : Type 0
Binder = Path → Value → List Bound

-- what holds of all that each of the binders binds
abbrev pub EachBinder : (Bound → Type 0) → List Binder → Type 0
EachBinder P [] = Unit
EachBinder P (b ∷ bs) = ((path : Path) (v : Value) → Each P (b path v)) × EachBinder P bs

-- what follows from it holds too
pub each_binder_map : (P Q : Bound → Type 0) (bs : List Binder) → ((b : Bound) → P b → Q b) → EachBinder P bs → EachBinder Q bs
each_binder_map P Q [] f h = tt
each_binder_map P Q (b ∷ bs) f h = ((λ path v. each_map P Q (b path v) f (h.0 path v)), each_binder_map P Q bs f h.1)

-- from the last binder on, before others
pub each_binder_turned : (P : Bound → Type 0) (bs cs : List Binder) → EachBinder P bs → EachBinder P cs → EachBinder P (reverse_aux bs cs)
each_binder_turned P [] cs h k = k
each_binder_turned P (b ∷ bs) cs h k = each_binder_turned P bs (b ∷ cs) h.1 (h.0, k)

-- at places one element on
pub each_bound : (P : Bound → Type 0) (bs : List Binder) (elems : List ProjectionElem) (path : Path) (v : Value) → EachBinder P bs → Each P (bind_all bs elems path v)
unfolding bind_all
each_bound P [] elems path v h = tt
each_bound P (b ∷ bs) [] path v h = tt
each_bound P (b ∷ bs) (elem ∷ elems) path v h =
    each_append P (b (onto path elem) (part_at elem v)) (bind_all bs elems path v) (h.0 (onto path elem) (part_at elem v)) (each_bound P bs elems path v h.1)

module _ (bindings : List ℕ) where
  -- the same after the one bindings as after the others
  pub record Same (bs cs : List Bound) : Type 0 where
    pub same : (l : ℕ) (held : Held) → held_after bindings bs l held ≡ held_after bindings cs l held

  -- the locals of the first all differ from those of the second
  abbrev pub Disjoint : List Bound → List Bound → Type 0
  Disjoint bs cs = Each (λ b. Each (λ c. local_of bindings b ≢ local_of bindings c) cs) bs

  -- a local that none of the bindings has is left as it was
  pub after_untouched : (bs : List Bound) (l : ℕ) (held : Held) → Each (λ b. l ≢ local_of bindings b) bs → held_after bindings bs l held ≡ held
  unfolding held_after
  after_untouched [] l held h = refl
  after_untouched (b ∷ bs) l held h =
      ap (λ (t : Bool). held_after bindings bs l (cond t b.what held)) (ne_eqb l (local_of bindings b) h.0) ∙ after_untouched bs l held h.1

  -- a local is that of a binding, or of none
  touched : (P : Bound → Type 0) (bs : List Bound) (l : ℕ) → Each P bs → Each (λ b. l ≢ local_of bindings b) bs ⊎ ((b : Bound) × P b × (l ≡ local_of bindings b))
  touched P [] l h = inl tt
  touched P (b ∷ bs) l h = by (ℕ_discrete l (local_of bindings b)) (touched P bs l h.1)
    where
      by : Dec (l ≡ local_of bindings b) → Each (λ c. l ≢ local_of bindings c) bs ⊎ ((c : Bound) × P c × (l ≡ local_of bindings c)) →
          ((l ≢ local_of bindings b) × Each (λ c. l ≢ local_of bindings c) bs) ⊎ ((c : Bound) × P c × (l ≡ local_of bindings c))
      by (yes e) k = inr (b, h.0, e)
      by (no n) (inl k) = inl (n, k)
      by (no n) (inr k) = inr k

  -- bindings of other locals change places
  pub exchange : (bs cs : List Bound) → Disjoint bs cs → Same (bs ++ cs) (cs ++ bs)
  exchange bs cs d =
      record {
        same = λ l held.
            after_append bindings bs cs l held ∙ by l held (touched (λ b. Each (λ c. local_of bindings b ≢ local_of bindings c) cs) bs l d) ∙ sym (after_append bindings cs bs l held);
      }
    where
      by : (l : ℕ) (held : Held) → Each (λ b. l ≢ local_of bindings b) bs ⊎ ((b : Bound) × Each (λ c. local_of bindings b ≢ local_of bindings c) cs × (l ≡ local_of bindings b)) →
          held_after bindings cs l (held_after bindings bs l held) ≡ held_after bindings bs l (held_after bindings cs l held)
      by l held (inl u) = ap (held_after bindings cs l) (after_untouched bs l held u) ∙ sym (after_untouched bs l (held_after bindings cs l held) u)
      by l held (inr (b, k, e)) =
          let u : Each (λ c. l ≢ local_of bindings c) cs =
          each_map (λ c. local_of bindings b ≢ local_of bindings c) (λ c. l ≢ local_of bindings c) cs (λ c n q. n (sym e ∙ q)) k in
          after_untouched cs l (held_after bindings bs l held) u ∙ ap (held_after bindings bs l) (sym (after_untouched cs l held u))

  -- of the same bindings
  pub same_refl : (bs : List Bound) → Same bs bs
  same_refl bs = record { same = λ l held. refl }

  -- by way of others
  pub same_trans : {bs cs ds : List Bound} → Same bs cs → Same cs ds → Same bs ds
  same_trans f g = record { same = λ l held. f.same l held ∙ g.same l held }

  -- the other way round
  pub same_sym : {bs cs : List Bound} → Same bs cs → Same cs bs
  same_sym f = record { same = λ l held. sym (f.same l held) }

  -- of equal lists
  pub same_is : {bs cs : List Bound} → bs ≡ cs → Same bs cs
  same_is e = record { same = λ l held. ap (λ (bs : List Bound). held_after bindings bs l held) e }

  -- before or behind others
  pub same_before : {bs cs : List Bound} (ds : List Bound) → Same bs cs → Same (bs ++ ds) (cs ++ ds)
  same_before {bs} {cs} ds f =
      record { same = λ l held. after_append bindings bs ds l held ∙ ap (held_after bindings ds l) (f.same l held) ∙ sym (after_append bindings cs ds l held) }

  -- behind others
  pub same_behind : (ds : List Bound) {bs cs : List Bound} → Same bs cs → Same (ds ++ bs) (ds ++ cs)
  same_behind ds {bs} {cs} f =
      record { same = λ l held. after_append bindings ds bs l held ∙ f.same l (held_after bindings ds l held) ∙ sym (after_append bindings ds cs l held) }

  module _ (path : Path) (v : Value) where
    -- what each of the binders binds has other locals than what those behind it bind
    abbrev pub PiecesApart : List Binder → List ProjectionElem → Type 0
    PiecesApart [] elems = Unit
    PiecesApart (b ∷ bs) [] = Unit
    PiecesApart (b ∷ bs) (elem ∷ elems) = Disjoint (b (onto path elem) (part_at elem v)) (bind_all bs elems path v) × PiecesApart bs elems

    -- binders and elements from the last on, before others
    pub turned : (bs cs : List Binder) (elems more : List ProjectionElem) → length bs ≡ length elems → PiecesApart bs elems →
        Same (bind_all (reverse_aux bs cs) (reverse_aux elems more) path v) (bind_all bs elems path v ++ bind_all cs more path v)
    unfolding bind_all
    turned [] cs [] more e h = same_refl (bind_all cs more path v)
    turned [] cs (elem ∷ elems) more e h = absurd (omega arith)
    turned (b ∷ bs) cs [] more e h = absurd (omega arith)
    turned (b ∷ bs) cs (elem ∷ elems) more e h =
        let first = b (onto path elem) (part_at elem v) in
        let others = bind_all bs elems path v in
        let end = bind_all cs more path v in
        same_trans (turned bs (b ∷ cs) elems (elem ∷ more) (omega arith) h.1)
        (same_trans (same_is (sym (append_assoc others first end)))
        (same_before end (same_sym (exchange first others h.0))))

-- all bindings have locals, and no binder binds what one behind it binds
abbrev pub Separate : List ℕ → List Binder → Type 0
Separate bindings [] = Unit
Separate bindings (b ∷ bs) =
    ((path path' : Path) (v v' : Value) (elems : List ProjectionElem) → Each (λ x. HasLocal bindings x × Each (λ y. x.binding ≢ y.binding) (bind_all bs elems path' v')) (b path v))
    × Separate bindings bs

-- of the last of them
pub separate_drop : (bindings : List ℕ) (n : ℕ) (bs : List Binder) → Separate bindings bs → Separate bindings (drop n bs)
separate_drop bindings zero bs h = h
separate_drop bindings (suc n) [] h = tt
separate_drop bindings (suc n) (b ∷ bs) h = separate_drop bindings n bs h.1

-- then, where the locals of bindings differ, these do
pub pieces_apart : (bindings : List ℕ) → LocalsApart bindings → (path : Path) (v : Value) (bs : List Binder) (elems : List ProjectionElem) → Separate bindings bs →
    PiecesApart bindings path v bs elems
pieces_apart bindings apart path v [] elems s = tt
pieces_apart bindings apart path v (b ∷ bs) [] s = tt
pieces_apart bindings apart path v (b ∷ bs) (elem ∷ elems) s =
    let others = bind_all bs elems path v in (
      each_map (λ x. HasLocal bindings x × Each (λ y. x.binding ≢ y.binding) others) (λ x. Each (λ y. local_of bindings x ≢ local_of bindings y) others) (b (onto path elem) (part_at elem v))
          (λ x h. each_map (λ y. x.binding ≢ y.binding) (λ y. local_of bindings x ≢ local_of bindings y) others (λ y n e. n (apart x.binding y.binding h.0 e)) h.1)
          (s.0 (onto path elem) path (part_at elem v) v elems),
      pieces_apart bindings apart path v bs elems s.1,
    )
