-- What is held behind a name. Assumes nothing.
use Prim.Native.Nat.{ℕ}
use mathlib.Core.Path.{◌≡◌, sym, ap, ◌∙◌}
use mathlib.Core.Bool.{false, cond}
use native.Mathlib.Omega.{arith}
use lib.Dec.{eqb}
use Rattle.parsing_machine.specs.declared.ReadState.{ReadState}
use Rattle.parsing_moves.specs.declared.HeldRow.{HeldRow}
use Rattle.parsing_moves.specs.declared.NodeMove.{NodeMove}
use Rattle.parsing_moves.specs.declared.NodeMove.TheVariants.{Halts, Holds}
use Rattle.parsing_moves.specs.Rows.{holds_name}
use Rattle.parsing_moves.specs.Roles.{role, DecidesName}
use Rattle.parsing_names.specs.Naming.{NamesHeld}

same_row_lem : (move : NodeMove) (t s : ReadState) (g h : HeldRow) → move ≡ Holds t g → move ≡ Holds s h → h ≡ g
same_row_lem move t s g h e f = cc

not_held : (move : NodeMove) (at : ℕ) (s : ReadState) (h : HeldRow) → move ≡ Halts at → move ≡ Holds s h → ⊥
not_held move at s h e f =
    let z : ◌≡◌ {A = ℕ} 0 1 = cc in
    omega arith

-- a name of its own
pub held_name_lem :
    {s : ReadState} {h : HeldRow} {top from start end : ℕ} {move : NodeMove} {k : ℕ} {t : ReadState} {at more spot : ℕ}
    → DecidesName s h top from start end move → k ≡ role s → eqb k 2 ≡ false → move ≡ holds_name t at more spot start end → NamesHeld s h top from start end move
held_name_lem {s} {h} {top} {from} {start} {end} {move} {k} {t} {at} {more} {spot} d e z m = record {
  decides = d;
  ends = λ s' h' f.
      let g = same_row_lem move t s' _ h' m f in
      (ap (λ (x : HeldRow). x.from) g ∙ sym (ap (λ b. cond b h.from start) (ap (λ x. eqb x 2) (sym e) ∙ z)), ap (λ (x : HeldRow). x.to) g);
}

-- one behind `::`
pub held_path_lem :
    {s : ReadState} {h : HeldRow} {top from start end : ℕ} {move : NodeMove} {k : ℕ} {t : ReadState} {at more spot : ℕ}
    → DecidesName s h top from start end move → k ≡ role s → k ≡ 2 → move ≡ holds_name t at more spot h.from end → NamesHeld s h top from start end move
held_path_lem {s} {h} {top} {from} {start} {end} {move} {k} {t} {at} {more} {spot} d e z m = record {
  decides = d;
  ends = λ s' h' f.
      let g = same_row_lem move t s' _ h' m f in
      (ap (λ (x : HeldRow). x.from) g ∙ sym (ap (λ x. cond (eqb x 2) h.from start) (sym e ∙ z)), ap (λ (x : HeldRow). x.to) g);
}

-- none
pub held_none :
    {s : ReadState} {h : HeldRow} {top from start end : ℕ} {move : NodeMove} {at : ℕ}
    → DecidesName s h top from start end move → move ≡ Halts at → NamesHeld s h top from start end move
held_none {move} d m = record { decides = d; ends = λ s' h' f. absurd (not_held move _ s' h' m f) }
