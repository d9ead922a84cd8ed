-- Moves behind which something is held or waits, on the tables as in the machine. Assumes nothing.
use Prim.Native.Nat.{ℕ, suc}
use mathlib.Core.Path.{◌≡◌, refl, sym, ap, ◌∙◌}
use mathlib.Core.List.{List, ◌∷◌}
use Rattle.pattern_syntax.specs.Reduced.{bytes_from}
use Rattle.node_rows.specs.declared.NodeRow.{NodeRow}
use Rattle.node_rows.specs.Nodes.{literal_in, closed_node_of}
use Rattle.parsing_machine.specs.declared.ReadState.{ReadState}
use Rattle.parsing_machine.specs.declared.ReadState.TheVariants.{Begin, Expect, BehindAmp, BehindRef, BehindMut, AtName, AtBound, AtPath, AtSep, AtMinus, AtLiteral, AtDots, AtFrom, AtTo, AtToPath, AtAlt, AtBrace, AtLabel, AtIndex, AtField, AtEtc}
use Rattle.parsing_machine.specs.Waiting.{opened, pushed, noted, grown}
use Rattle.parsing_machine.specs.Moves.{nothing_held}
use Rattle.parsing_machine.specs.Parser.{going_in, perform}
use Rattle.node_tables.specs.Tables.{Puts, rows_down, opened_of}
use Rattle.node_tables.proofs.Downward.{rows_put}
use Rattle.parsing_moves.specs.declared.NodeMove.TheVariants.{Opens, OpensTwo, OpensBehind, Mutates, AddsField}
use Rattle.parsing_moves.specs.Rows.{held_in, move_of}
use Rattle.parsing_steps.specs.declared.ParseStep.{ParseStep}
use Rattle.parsing_steps.specs.Stepping.{course_of, going_on, GrowsTop}
use Rattle.parsing_rests.specs.Resting.{MutatesTop}
use Rattle.parsing_steps.specs.Moving.{PerformsAny, PerformsOver}

-- a state that holds nothing, whatever it could hold
nothing_held_lem : (text names : List ℕ) (s : ReadState) → held_in text names s (record { at = 0; more = 0; spot = 0; from = 0; to = 0 }) ≡ nothing_held
unfolding held_in literal_in bytes_from
nothing_held_lem text names Begin = refl
nothing_held_lem text names Expect = refl
nothing_held_lem text names BehindAmp = refl
nothing_held_lem text names BehindRef = refl
nothing_held_lem text names BehindMut = refl
nothing_held_lem text names AtName = refl
nothing_held_lem text names AtBound = refl
nothing_held_lem text names AtPath = refl
nothing_held_lem text names AtSep = refl
nothing_held_lem text names AtMinus = refl
nothing_held_lem text names AtLiteral = refl
nothing_held_lem text names AtDots = refl
nothing_held_lem text names AtFrom = refl
nothing_held_lem text names AtTo = refl
nothing_held_lem text names AtToPath = refl
nothing_held_lem text names AtAlt = refl
nothing_held_lem text names AtBrace = refl
nothing_held_lem text names AtLabel = refl
nothing_held_lem text names AtIndex = refl
nothing_held_lem text names AtField = refl
nothing_held_lem text names AtEtc = refl

-- a row is put on what waits, or on what has closed
pub row_pushed :
    {stack after : List ℕ} {depth : ℕ} {f : NodeRow} → Puts stack depth f after → (text names nodes : List ℕ) (rows d : ℕ) → d ≡ suc depth
    → opened_of text names after nodes d rows ≡ pushed (closed_node_of text names f) (opened_of text names stack nodes depth rows)
unfolding opened_of pushed
row_pushed {stack} {after} w text names nodes rows d e =
    ap (λ x. opened (rows_down text names after x) (rows_down text names nodes rows)) e
    ∙ ap (λ ws. opened ws (rows_down text names nodes rows)) (rows_put w text names)

pub row_noted :
    {nodes after : List ℕ} {rows : ℕ} {w : NodeRow} → Puts nodes rows w after → (text names stack : List ℕ) (depth n : ℕ) → n ≡ suc rows
    → opened_of text names stack after depth n ≡ noted (closed_node_of text names w) (opened_of text names stack nodes depth rows)
unfolding opened_of noted
row_noted {nodes} {after} p text names stack depth n e =
    ap (λ x. opened (rows_down text names stack depth) (rows_down text names after x)) e
    ∙ ap (opened (rows_down text names stack depth)) (rows_put p text names)

-- the ways of the code
pub opens_node :
    (stack after : List ℕ) (depth rows d : ℕ) (s : ReadState) (f : NodeRow) (r : ParseStep) → Puts stack depth f after → d ≡ suc depth → r ≡ going_on s (record { depth = d; rows = rows })
    → PerformsOver stack depth rows (Opens s f) after r
unfolding course_of perform move_of
opens_node stack after depth rows d s f r w e re = record {
  shows = λ text names nodes m at.
      ap (course_of text names after nodes) re
      ∙ (ap (λ h. going_in s h (opened_of text names after nodes d rows)) (nothing_held_lem text names s)
      ∙ ap (going_in s nothing_held) (row_pushed w text names nodes rows d e));
}

pub opens_two_lem :
    {stack middle after : List ℕ} {depth rows d : ℕ} {f g : NodeRow} {r : ParseStep} → Puts stack depth f middle → d ≡ suc depth → PerformsOver middle d rows (Opens BehindAmp g) after r
    → PerformsOver stack depth rows (OpensTwo f g) after r
unfolding perform move_of
opens_two_lem {rows = rows} {d = d} {g = g} w e p = record {
  shows = λ text names nodes m at.
      p.shows text names nodes m at
      ∙ ap (λ o. going_in BehindAmp nothing_held (pushed (closed_node_of text names g) o)) (row_pushed w text names nodes rows d e);
}

pub opens_behind_lem :
    {stack nodes middle after : List ℕ} {depth rows n : ℕ} {s : ReadState} {w f : NodeRow} {r : ParseStep} → Puts nodes rows w middle → n ≡ suc rows → PerformsOver stack depth n (Opens s f) after r
    → PerformsAny stack nodes depth rows (OpensBehind s w f) after middle r
unfolding perform move_of
opens_behind_lem {stack = stack} {middle = middle} {depth = depth} {n = n} {s = s} {f = f} w e p = record {
  shows = λ text names m at.
      p.shows text names middle m at
      ∙ ap (λ o. going_in s nothing_held (pushed (closed_node_of text names f) o)) (row_noted w text names stack depth n e);
}

pub mutates_top :
    (stack after : List ℕ) (depth rows : ℕ) (r : ParseStep) → MutatesTop stack depth after → r ≡ going_on Expect (record { depth = depth; rows = rows }) → PerformsOver stack depth rows Mutates after r
unfolding course_of held_in perform move_of opened_of
mutates_top stack after depth rows r w re = record {
  shows = λ text names nodes m at.
      ap (course_of text names after nodes) re ∙ ap (λ ws. going_in Expect nothing_held (opened ws (rows_down text names nodes rows))) (w.shows text names);
}

pub adds_field_lem :
    (stack nodes middle stack' nodes' : List ℕ) (depth rows i n : ℕ) (w f : NodeRow) (r : ParseStep) → Puts nodes rows w middle → i ≡ suc rows → Puts middle i f nodes' → n ≡ suc (suc rows)
    → GrowsTop stack depth stack' → r ≡ going_on AtBrace (record { depth = depth; rows = n }) → PerformsAny stack nodes depth rows (AddsField w f) stack' nodes' r
unfolding course_of held_in perform move_of opened_of
adds_field_lem stack nodes middle stack' nodes' depth rows i n w f r a ie b ne g re = record {
  shows = λ text names m at.
      ap (course_of text names stack' nodes') re
      ∙ (ap (λ ws. going_in AtBrace nothing_held (opened ws (rows_down text names nodes' n))) (g.shows text names)
      ∙ ap (λ cs. going_in AtBrace nothing_held (opened (grown (rows_down text names stack depth)) cs))
      (ap (rows_down text names nodes') (ne ∙ ap suc (sym ie))
      ∙ (rows_put b text names ∙ ap (λ cs. closed_node_of text names f ∷ cs) (ap (rows_down text names middle) ie ∙ rows_put a text names))));
}
