-- A text that a loop writes, a piece in each turn. Assumes nothing.
use Prim.Native.Nat.{ℕ}
use mathlib.Core.Path.{◌≡◌, refl, sym, ap, ◌∙◌}
use mathlib.Core.List.{List, [], ◌++◌, append_assoc, append-nil}
use lib.ListN.{length}
use Rattle.listing_text.specs.declared.pen.Pen.{Pen}
use Rattle.listing_text.specs.Writing.{Wrote}
use Rattle.listing_text.proofs.Pieces.{and_then_lem, settled}

-- of the whole text, all but the rest is written
pub record Going (b₀ : List ℕ) (pen₀ : Pen) (whole rest : List ℕ) (pen : Pen) (b : List ℕ) : Type 0 where
  pub text : List ℕ
  pub wrote : Wrote b₀ pen₀ text pen b
  pub splits : text ++ rest ≡ whole
  pub long : length b ≡ length b₀

-- where the loop begins, behind a text that is written
pub going_start : {b : List ℕ} {pen : Pen} {x : List ℕ} {pen₀ : Pen} {b₀ : List ℕ} {whole rest : List ℕ} → Wrote b pen x pen₀ b₀ → rest ≡ whole → Going b₀ pen₀ whole rest pen₀ b₀
going_start w e = record { text = []; wrote = settled w; splits = e; long = refl }

module _ {b₀ : List ℕ} {pen₀ : Pen} {whole rest : List ℕ} {pen : Pen} {b : List ℕ} (g : Going b₀ pen₀ whole rest pen b) where
  -- a turn writes the next piece
  pub going_more : {x rest' : List ℕ} {pen' : Pen} {b' : List ℕ} → Wrote b pen x pen' b' → length b' ≡ length b → rest ≡ x ++ rest' → Going b₀ pen₀ whole rest' pen' b'
  going_more {x} {rest'} w k e =
      record {
        text = g.text ++ x;
        wrote = and_then_lem g.wrote w;
        splits = append_assoc g.text x rest' ∙ ap (λ (l : List ℕ). g.text ++ l) (sym e) ∙ g.splits;
        long = k ∙ g.long;
      }

  -- a turn writes nothing
  pub going_on_lem : {rest' : List ℕ} → rest ≡ rest' → Going b₀ pen₀ whole rest' pen b
  going_on_lem e = record { text = g.text; wrote = g.wrote; splits = rw e at g.splits; long = g.long }

  -- the loop's end
  pub going_end : rest ≡ [] → Wrote b₀ pen₀ whole pen b
  going_end e =
      let all : g.text ≡ whole = sym (append-nil g.text) ∙ ap (λ (l : List ℕ). g.text ++ l) (sym e) ∙ g.splits in
      rw all at g.wrote
