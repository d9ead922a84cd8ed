-- A move is made: by its form, and the room that it asks for. Assumes nothing.
use Prim.Native.Nat.{ℕ, ◌+◌, ◌<◌, ◌≤◌}
use mathlib.Core.Path.{◌≡◌, refl, sym, ap, ◌∙◌}
use mathlib.Core.List.{List}
use native.Mathlib.Omega.{arith}
use Rattle.node_rows.specs.declared.NodeRow.{NodeRow}
use Rattle.parsing_machine.specs.declared.ReadState.{ReadState}
use Rattle.parsing_machine.specs.Parser.{perform}
use Rattle.node_tables.specs.Tables.{opened_of}
use Rattle.parsing_bounds.specs.Weights.{owed, or_one, gain}
use Rattle.parsing_moves.specs.declared.HeldRow.{HeldRow}
use Rattle.parsing_moves.specs.declared.NodeMove.{NodeMove}
use Rattle.parsing_moves.specs.declared.NodeMove.TheVariants.{Halts, Holds, Opens, OpensTwo, OpensBehind, Mutates, Shuts, ShutsBefore, ShutsRange, ShutsRangeBefore, ShutsOpenRange, ShutsRest, PassesOn, ShutsTop, AddsField, AddsLastField}
use Rattle.parsing_moves.specs.Rows.{move_of}
use Rattle.parsing_steps.specs.declared.ParseStep.{ParseStep}
use Rattle.parsing_steps.specs.declared.ParseStep.TheVariants.{Going, Halted}
use Rattle.parsing_steps.specs.Stepping.{course_of}
use Rattle.parsing_behind.specs.Behind.{StandsBehind}
use Rattle.parsing_rests.specs.Resting.{OpensRange, RestsRead}
use Rattle.parsing_steps.specs.Moving.{PerformsMove, PerformsAny, PerformsOver}
use Rattle.parsing_performing.specs.Performing.{move_gain}

-- neither the text nor the bytes of names decide how many rows a move adds
pub gain_any : (text names : List ℕ) (move : NodeMove) (m : ℕ) → gain (move_of text names move) m ≡ move_gain move m
unfolding move_gain gain move_of
gain_any text names (Halts at) m = refl
gain_any text names (Holds s h) m = refl
gain_any text names (Opens s f) m = refl
gain_any text names (OpensTwo f g) m = refl
gain_any text names (OpensBehind s w f) m = refl
gain_any text names Mutates m = refl
gain_any text names (Shuts w) m = refl
gain_any text names (ShutsBefore w) m = refl
gain_any text names (ShutsRange w) m = refl
gain_any text names (ShutsRangeBefore w) m = refl
gain_any text names ShutsOpenRange m = refl
gain_any text names ShutsRest m = refl
gain_any text names PassesOn m = refl
gain_any text names ShutsTop m = refl
gain_any text names (AddsField w f) m = refl
gain_any text names (AddsLastField w f) m = refl

-- the same of the form that a move has
pub by_form :
    {stack nodes : List ℕ} {depth rows : ℕ} {move x : NodeMove} {m at : ℕ} {stack' nodes' : List ℕ} {r : ParseStep} → move ≡ x → PerformsMove stack nodes depth rows x m at stack' nodes' r
    → PerformsMove stack nodes depth rows move m at stack' nodes' r
by_form {stack} {nodes} {depth} {rows} {m = m} {at = at} e p = record {
  shows = λ text names. p.shows text names ∙ ap (λ y. perform (move_of text names y) m at (opened_of text names stack nodes depth rows)) (sym e);
}

pub by_any :
    {stack nodes : List ℕ} {depth rows : ℕ} {move x : NodeMove} {m at : ℕ} {stack' nodes' : List ℕ} {r : ParseStep} → move ≡ x → PerformsAny stack nodes depth rows x stack' nodes' r
    → PerformsMove stack nodes depth rows move m at stack' nodes' r
by_any {m = m} {at = at} e p = by_form e (record { shows = λ text names. p.shows text names m at })

pub by_over :
    {stack nodes : List ℕ} {depth rows : ℕ} {move x : NodeMove} {m at : ℕ} {stack' : List ℕ} {r : ParseStep} → move ≡ x → PerformsOver stack depth rows x stack' r
    → PerformsMove stack nodes depth rows move m at stack' nodes r
by_over {nodes = nodes} {m = m} {at = at} e p = by_form e (record { shows = λ text names. p.shows text names nodes m at })

pub made_halts : {stack nodes : List ℕ} {depth rows place m at : ℕ} {move : NodeMove} → move ≡ Halts place → PerformsMove stack nodes depth rows move m at stack nodes (Halted place)
unfolding course_of perform move_of
made_halts e = by_form e (record { shows = λ text names. refl })

pub made_holds :
    {stack nodes : List ℕ} {depth rows m at : ℕ} {move : NodeMove} {s : ReadState} {h : HeldRow} {r : ParseStep} → move ≡ Holds s h
    → r ≡ Going (record { state = s; held = h; depth = depth; rows = rows }) → PerformsMove stack nodes depth rows move m at stack nodes r
unfolding course_of perform move_of
made_holds {stack} {nodes} e re = by_form e (record { shows = λ text names. ap (course_of text names stack nodes) re })

pub made_before :
    {stack nodes : List ℕ} {depth rows m at : ℕ} {move : NodeMove} {w : NodeRow} {stack' nodes' : List ℕ} {r : ParseStep} → move ≡ ShutsBefore w
    → Rattle.parsing_rests.specs.Resting.ShutsBefore stack nodes depth rows w m at stack' nodes' r → PerformsMove stack nodes depth rows move m at stack' nodes' r
unfolding perform move_of opened_of
made_before e s = by_form e (record { shows = s.shows })

pub made_range :
    {stack nodes : List ℕ} {depth rows m at : ℕ} {move : NodeMove} {stack' nodes' : List ℕ} {r : ParseStep} → move ≡ ShutsOpenRange → OpensRange stack nodes depth rows m at stack' nodes' r
    → PerformsMove stack nodes depth rows move m at stack' nodes' r
unfolding perform move_of opened_of
made_range e s = by_form e (record { shows = s.shows })

pub made_rest :
    {stack nodes : List ℕ} {depth rows m at : ℕ} {move : NodeMove} {stack' nodes' : List ℕ} {r : ParseStep} → move ≡ ShutsRest → RestsRead stack nodes depth rows m at stack' nodes' r
    → PerformsMove stack nodes depth rows move m at stack' nodes' r
unfolding perform move_of opened_of
made_rest e s = by_form e (record { shows = s.shows })

pub made_passes :
    {stack nodes : List ℕ} {depth rows m at : ℕ} {move : NodeMove} {stack' nodes' : List ℕ} {r : ParseStep} → move ≡ PassesOn → StandsBehind stack nodes depth rows m at stack' nodes' r
    → PerformsMove stack nodes depth rows move m at stack' nodes' r
unfolding perform move_of
made_passes e s = by_form e (record { shows = s.shows })

-- the room for what a form adds
room : {move x : NodeMove} (total m k : ℕ) → move ≡ x → move_gain x m ≡ k → total + move_gain move m ≤ 16384 → total + k ≤ 16384
room total m k e g h = let f = ap (λ y. move_gain y m) e in omega (arith, f, g, h)

pub room_opens : {move : NodeMove} {s : ReadState} {f : NodeRow} (total m : ℕ) → move ≡ Opens s f → total + move_gain move m ≤ 16384 → total < 16384
unfolding move_gain gain move_of
room_opens {s = s} total m e h = let g = room total m (1 + owed s) e refl h in omega (arith, g)

pub room_two : {move : NodeMove} {f g : NodeRow} (total m : ℕ) → move ≡ OpensTwo f g → total + move_gain move m ≤ 16384 → total + 2 ≤ 16384
unfolding move_gain gain move_of
room_two total m e h = room total m 2 e refl h

pub room_behind_lem : {move : NodeMove} {s : ReadState} {w f : NodeRow} (total m : ℕ) → move ≡ OpensBehind s w f → total + move_gain move m ≤ 16384 → total + 2 ≤ 16384
unfolding move_gain gain move_of
room_behind_lem {s = s} total m e h = let g = room total m (2 + owed s) e refl h in omega (arith, g)

pub room_shuts : {move : NodeMove} {w : NodeRow} (total m : ℕ) → move ≡ Shuts w → total + move_gain move m ≤ 16384 → total < 16384
unfolding move_gain gain move_of
room_shuts total m e h = let g = room total m 1 e refl h in omega (arith, g)

pub room_range : {move : NodeMove} {w : NodeRow} (total m : ℕ) → move ≡ ShutsRange w → total + move_gain move m ≤ 16384 → total < 16384
unfolding move_gain gain move_of
room_range total m e h = let g = room total m 1 e refl h in omega (arith, g)

pub room_before : {move : NodeMove} {w : NodeRow} (total m : ℕ) → move ≡ ShutsBefore w → total + move_gain move m ≤ 16384 → total + 1 + or_one m ≤ 16384
unfolding move_gain gain move_of
room_before total m e h = let g = room total m (1 + or_one m) e refl h in omega (arith, g)

pub room_range_before : {move : NodeMove} {w : NodeRow} (total m : ℕ) → move ≡ ShutsRangeBefore w → total + move_gain move m ≤ 16384 → total + 1 + or_one m ≤ 16384
unfolding move_gain gain move_of
room_range_before total m e h = let g = room total m (1 + or_one m) e refl h in omega (arith, g)

pub room_open : {move : NodeMove} (total m : ℕ) → move ≡ ShutsOpenRange → total + move_gain move m ≤ 16384 → total + or_one m ≤ 16384
unfolding move_gain gain move_of
room_open total m e h = room total m (or_one m) e refl h

pub room_passes : {move : NodeMove} (total m : ℕ) → move ≡ PassesOn → total + move_gain move m ≤ 16384 → total + or_one m ≤ 16384
unfolding move_gain gain move_of
room_passes total m e h = room total m (or_one m) e refl h

pub room_field : {move : NodeMove} {w f : NodeRow} (total m : ℕ) → move ≡ AddsField w f → total + move_gain move m ≤ 16384 → total + 2 ≤ 16384
unfolding move_gain gain move_of
room_field total m e h = room total m 2 e refl h

pub room_last : {move : NodeMove} {w f : NodeRow} (total m : ℕ) → move ≡ AddsLastField w f → total + move_gain move m ≤ 16384 → total + 2 ≤ 16384
unfolding move_gain gain move_of
room_last total m e h = room total m 2 e refl h
