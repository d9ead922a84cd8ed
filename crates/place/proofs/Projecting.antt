-- One element more of a projection. Assumes nothing.
use Prim.Native.Nat.{ℕ, ◌+◌, ◌*◌, ◌/◌, ◌%◌, ◌≤◌, ◌<◌}
use mathlib.Core.Path.{◌≡◌, refl, sym, ap, ◌∙◌}
use mathlib.Core.Bool.{true, false, false≢true}
use mathlib.Core.List.{[], ◌∷◌, ◌++◌, map, map-append}
use native.Mathlib.Nat.{add-mul-mod_self_left, mod-eq_of_lt}
use native.Mathlib.Numerals.{add-one}
use native.Mathlib.Omega.{arith}
use borrow.Author.Tests.{le-ltb, lt-ltb}
use lib.ListN.{length, get_or, set, take}
use lib.Seq.{take-suc-set}
use Rattle.place.specs.declared.Place.{Place}
use Rattle.place.specs.declared.elems.ProjectionElem.{ProjectionElem}
use Rattle.place.specs.Elems.{elem_kinds, elem_of, word_of, Fits}
use Rattle.place.specs.Places.{projection_of, onward, Projects}

-- the parts of a word
parts : (kind a b word : ℕ) → word ≡ kind + 8 * (b + 8192 * a) → kind < 8 → b < 8192 → elem_of word ≡ get_or (elem_kinds a b) kind ProjectionElem.Unknown
unfolding elem_of
parts kind a b word e k h =
    let r : word % 8 ≡ kind = ap (λ (w : ℕ). w % 8) e ∙ add-mul-mod_self_left kind 8 (b + 8192 * a) ∙ mod-eq_of_lt k in
    let q : word / 8 ≡ b + 8192 * a = omega arith in
    let s : word / 8 % 8192 ≡ b = ap (λ (w : ℕ). w % 8192) q ∙ add-mul-mod_self_left b 8192 a ∙ mod-eq_of_lt h in
    let t : word / 65536 ≡ a = omega arith in
    ap (λ (x : ℕ). get_or (elem_kinds (word / 65536) (word / 8 % 8192)) x ProjectionElem.Unknown) r
    ∙ ap (λ (x : ℕ). get_or (elem_kinds x (word / 8 % 8192)) kind ProjectionElem.Unknown) t
    ∙ ap (λ (x : ℕ). get_or (elem_kinds a x) kind ProjectionElem.Unknown) s

-- the element of an element's word
pub elem_of_word : (elem : ProjectionElem) → Fits elem → elem_of (word_of elem) ≡ elem
unfolding word_of
elem_of_word ProjectionElem.Deref f = parts 0 0 0 0 (omega arith) (omega arith) (omega arith)
elem_of_word (ProjectionElem.Field a) f = parts 1 a 0 _ (omega arith) (omega arith) (omega arith)
elem_of_word (ProjectionElem.Index a) f = parts 2 a 0 _ (omega arith) (omega arith) (omega arith)
elem_of_word (ProjectionElem.IndexFromEnd a) f = parts 3 a 0 _ (omega arith) (omega arith) (omega arith)
elem_of_word (ProjectionElem.Subslice a b) f = parts 4 a b _ (omega arith) (omega arith) f
elem_of_word (ProjectionElem.Downcast a) f = parts 5 a 0 _ (omega arith) (omega arith) (omega arith)
elem_of_word ProjectionElem.Unknown f = parts 6 0 0 6 (omega arith) (omega arith) (omega arith)

-- a place that has 16 elements
pub full : (place : Place) (elem : ProjectionElem) → 16 ≤ place.len → Projects place elem (record { ok = false; place = place })
full place elem h = record { room = sym (le-ltb place.len 16 h); is = rw (le-ltb place.len 16 h) refl; elems = λ e. absurd (false≢true e) }

-- a place that has fewer
pub longer : (place : Place) (elem : ProjectionElem) → Fits elem → length place.elems ≡ 16 → place.len < 16 →
    Projects place elem (record { ok = true; place = onward place elem })
unfolding projection_of
longer place elem f n h =
    record {
      room = sym (lt-ltb place.len 16 h);
      is = rw (lt-ltb place.len 16 h) refl;
      elems = λ e.
          ap (λ (k : ℕ). map elem_of (take k (set place.elems place.len (word_of elem)))) (add-one place.len)
          ∙ ap (map elem_of) (take-suc-set place.elems place.len (word_of elem) (omega arith))
          ∙ map-append elem_of (take place.len place.elems) (word_of elem ∷ [])
          ∙ ap (λ (x : ProjectionElem). map elem_of (take place.len place.elems) ++ (x ∷ [])) (elem_of_word elem f);
    }
