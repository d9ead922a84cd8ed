-- Pieces of text written one behind the other. Assumes nothing.
use Prim.Native.Nat.{ℕ, ◌+◌, ◌-◌, ◌≤◌, ◌<◌}
use mathlib.Core.Path.{◌≡◌, refl, sym, ap, ◌∙◌}
use mathlib.Core.Bool.{Bool, true, false, not, ◌&&◌, false≢true}
use mathlib.Core.List.{List, [], ◌∷◌, ◌++◌, append_assoc}
use native.Mathlib.Numerals.{add-one}
use native.Mathlib.Omega.{arith}
use borrow.Author.Tests.{not-true, not-false, leb-true, leb-false, le-leb, lt-leb}
use lib.Dec.{leb}
use lib.ListN.{length, set, length-append}
use lib.Seq.{set_split}
use Rattle.image.proofs.Bools.{and_left, and_right, and_true, and_false_left}
use Rattle.row_tables.specs.Rows.{stored}
use Rattle.row_tables.proofs.Loops.{store_start, store_end}
use Rattle.row_tables.proofs.Tables.{length_stored}
use Rattle.mir.proofs.RowParts.{stored_behind}
use Rattle.listing_text.specs.declared.pen.Pen.{Pen}
use Rattle.listing_text.specs.Writing.{Wrote}

-- a text of so many bytes fits where the pen is
abbrev pub has_room : List ℕ → Pen → ℕ → Bool
has_room b pen count = pen.ok && leb (pen.at + count) (length b)

-- what is left of the buffer from the pen on is enough for so many bytes
pub room_left : (size : ℕ) (pen : Pen) (count : ℕ) → pen.ok ≡ true → pen.at ≤ size → leb count (size - pen.at) ≡ (pen.ok && leb (pen.at + count) size)
room_left size pen count e h = rw e (same (leb count (size - pen.at)) refl)
  where
    same : (r : Bool) → leb count (size - pen.at) ≡ r → leb count (size - pen.at) ≡ leb (pen.at + count) size
    same true q = q ∙ sym (le-leb (pen.at + count) size (omega (arith, leb-true count (size - pen.at) q)))
    same false q = q ∙ sym (lt-leb (pen.at + count) size (omega (arith, leb-false count (size - pen.at) q)))

-- one byte stored
pub stored_one : (b : List ℕ) (at byte : ℕ) → at < length b → set b at byte ≡ stored b at (byte ∷ [])
unfolding stored
stored_one b at byte h = rw add-one (set_split b at byte h)

-- `has_room` says no: the text is not written, whatever the buffer holds then
pub no_room : {b : List ℕ} {pen : Pen} {text : List ℕ} {r : Bool} {at : ℕ} {b' : List ℕ} → r ≡ has_room b pen (length text) → not r ≡ true →
    Wrote b pen text (record { at = at; ok = false }) b'
no_room {r} e n = record { room = sym (not-true r n) ∙ e; at = λ q. absurd (false≢true q); stands = λ q. absurd (false≢true q) }

-- `has_room` says yes: the bytes lie in the buffer
pub room : (b : List ℕ) (pen : Pen) (count : ℕ) (r : Bool) → r ≡ has_room b pen count → not r ≡ false → pen.at + count ≤ length b
room b pen count r e n = leb-true _ _ (and_right pen.ok (leb (pen.at + count) (length b)) (sym e ∙ not-false r n))

-- `has_room` says yes, and the text is stored: it is written
pub written : {b : List ℕ} {pen : Pen} {text : List ℕ} {r : Bool} {b' : List ℕ} → r ≡ has_room b pen (length text) → not r ≡ false → b' ≡ stored b pen.at text →
    Wrote b pen text (record { at = pen.at + length text; ok = true }) b'
written {r} e n s = record { room = sym (not-false r n) ∙ e; at = λ q. refl; stands = λ q. s }

module _ {b₀ : List ℕ} {pen : Pen} {text : List ℕ} {pen' : Pen} {b : List ℕ} (w : Wrote b₀ pen text pen' b) where
  -- all of a text was written: so was what stood before it
  was_ok : pen'.ok ≡ true → pen.ok ≡ true
  was_ok e = and_left pen.ok _ (sym w.room ∙ e)

  -- there was room
  had_room : pen'.ok ≡ true → pen.at + length text ≤ length b₀
  had_room e = leb-true _ _ (and_right pen.ok _ (sym w.room ∙ e))

  -- the buffer keeps its length
  kept : pen'.ok ≡ true → length b ≡ length b₀
  kept e = ap length (w.stands e) ∙ length_stored b₀ pen.at text (had_room e)

-- where a text does not fit, one that begins with it does not fit
none_fits : (b : List ℕ) (pen : Pen) (x y : List ℕ) → has_room b pen (length x) ≡ false → has_room b pen (length (x ++ y)) ≡ false
none_fits b pen x y e = by_ok pen.ok e
  where
    by_ok : (o : Bool) → o && leb (pen.at + length x) (length b) ≡ false → o && leb (pen.at + length (x ++ y)) (length b) ≡ false
    by_ok false q = refl
    by_ok true q = lt-leb (pen.at + length (x ++ y)) (length b) (omega (arith, leb-false (pen.at + length x) (length b) q, length-append x y))

module _ {b₀ : List ℕ} {pen : Pen} {x : List ℕ} {pen₁ : Pen} {b₁ : List ℕ} {y : List ℕ} {pen₂ : Pen} {b₂ : List ℕ} (w : Wrote b₀ pen x pen₁ b₁) (v : Wrote b₁ pen₁ y pen₂ b₂) where
  -- the last pen says whether both have room, by what the first says
  both_room : (o : Bool) → pen₁.ok ≡ o → pen₂.ok ≡ has_room b₀ pen (length (x ++ y))
  both_room true e =
      let here : pen₁.at + length y ≡ pen.at + length (x ++ y) = omega (arith, w.at e, length-append x y) in
      v.room ∙ rw (here, kept w e, e, was_ok w e)
  both_room false e = v.room ∙ and_false_left pen₁.ok _ e ∙ sym (none_fits b₀ pen x y (sym w.room ∙ e))

  -- a piece, and then another
  pub and_then_lem : Wrote b₀ pen (x ++ y) pen₂ b₂
  and_then_lem =
      record {
        room = both_room pen₁.ok refl;
        at = λ e. omega (arith, v.at e, w.at (was_ok v e), length-append x y);
        stands = λ e.
            let first = was_ok v e in
            v.stands e
            ∙ rw (w.stands first)
            (stored_behind b₀ pen.at x y pen₁.at (w.at first) (omega (arith, had_room v e, w.at first, kept w first)));
      }

module _ {b₀ : List ℕ} {pen : Pen} {pen₁ : Pen} {b₁ : List ℕ} {z : List ℕ} {pen₂ : Pen} {b₂ : List ℕ} where
  -- a piece of two parts, and then another
  pub two_then : (x y : List ℕ) → Wrote b₀ pen (x ++ y) pen₁ b₁ → Wrote b₁ pen₁ z pen₂ b₂ → Wrote b₀ pen (x ++ (y ++ z)) pen₂ b₂
  two_then x y w v = rw append_assoc at (and_then_lem w v)

  -- a piece of three parts, and then another
  pub three_then : (x y t : List ℕ) → Wrote b₀ pen (x ++ (y ++ t)) pen₁ b₁ → Wrote b₁ pen₁ z pen₂ b₂ → Wrote b₀ pen (x ++ (y ++ (t ++ z))) pen₂ b₂
  three_then x y t w v = simp append_assoc at (and_then_lem w v)

-- behind a text that is written there is room for an empty one
pub settled : {b₀ : List ℕ} {pen : Pen} {x : List ℕ} {pen₁ : Pen} {b₁ : List ℕ} → Wrote b₀ pen x pen₁ b₁ → Wrote b₁ pen₁ [] pen₁ b₁
settled {pen₁} {b₁} w =
    record {
      room = here pen₁.ok refl;
      at = λ e. omega arith;
      stands = λ e. store_end store_start (omega arith);
    }
  where
    here : (o : Bool) → pen₁.ok ≡ o → pen₁.ok ≡ has_room b₁ pen₁ 0
    here true e = e ∙ sym (and_true pen₁.ok _ e (le-leb (pen₁.at + 0) (length b₁) (omega (arith, w.at e, had_room w e, kept w e))))
    here false e = e ∙ sym (and_false_left pen₁.ok _ e)
