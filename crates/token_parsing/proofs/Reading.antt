-- What a token leads to. Assumes nothing.
use Prim.Native.Nat.{ℕ, zero, suc, ◌+◌, ◌*◌, ◌<◌, ◌≤◌}
use mathlib.Core.Path.{◌≡◌, refl, sym, ap, subst, ◌∙◌}
use mathlib.Core.Bool.{Bool, true, false, not, cond, false≢true}
use mathlib.Core.List.{List}
use native.Mathlib.Omega.{arith}
use lib.Dec.{eqb}
use lib.ListN.{length}
use Rattle.pattern_tokens.specs.Tokens.{token_at}
use Rattle.pattern_grammar.specs.Lexemes.{Spot, Lexeme, name, scalar, mark, lexeme}
use Rattle.node_rows.specs.Nodes.{node_row_at, closed_node_of}
use Rattle.parsing_machine.specs.declared.ReadState.{ReadState}
use Rattle.parsing_machine.specs.declared.ReadState.TheVariants.{Begin, Expect, BehindAmp, BehindRef, BehindMut, AtName, AtBound, AtPath, AtSep, AtMinus, AtLiteral, AtDots, AtFrom, AtTo, AtToPath, AtAlt, AtBrace, AtLabel, AtIndex, AtField, AtEtc}
use Rattle.parsing_machine.specs.Moves.{Held}
use Rattle.parsing_machine.specs.Parser.{perform, stepped}
use Rattle.parsing_bounds.specs.Weights.{owed, opened_size, weight, gain, lexeme_bytes}
use Rattle.parsing_bounds.specs.Parts.{parts_at, PartsWithin, waiting_of}
use Rattle.parsing_bounds.proofs.Gains.{step_weight, name_weighs, scalar_weighs, mark_weighs}
use Rattle.parsing_bounds.proofs.Tokens.{step_within}
use Rattle.node_tables.specs.Tables.{rows_down, opened_of}
use Rattle.node_tables.proofs.Downward.{rows_long}
use Rattle.parsing_moves.specs.declared.HeldRow.{HeldRow}
use Rattle.parsing_moves.specs.declared.NodeMove.{NodeMove}
use Rattle.parsing_moves.specs.declared.NodeMove.TheVariants.{Halts, Holds, Opens, OpensTwo, OpensBehind, Mutates, Shuts, ShutsBefore, ShutsRange, ShutsRangeBefore, ShutsOpenRange, ShutsRest, PassesOn, ShutsTop, AddsField, AddsLastField}
use Rattle.parsing_moves.specs.Rows.{held_in, move_of}
use Rattle.parsing_steps.specs.declared.ParseState.{ParseState}
use Rattle.parsing_steps.specs.declared.ParseStep.{ParseStep}
use Rattle.parsing_steps.specs.declared.ParseStep.TheVariants.{Going, Ended, Halted}
use Rattle.parsing_steps.specs.Settling.{PartsMost}
use Rattle.parsing_steps.specs.Stepping.{course_of}
use Rattle.parsing_behind.specs.Behind.{InnermostIs}
use Rattle.parsing_steps.proofs.Bridging.{parts_most, parts_up}
use Rattle.parsing_performing.specs.Performing.{move_gain, HoldsRow, Performed}
use Rattle.parsing_performing.proofs.Made.{gain_any}
use Rattle.parsing_course.specs.Course.{parser_of, SameBelow, StepsTo}
use Rattle.parsing_course.proofs.Reading.{token_inside, goes_on_lem, ends_there, fails_there_lem}
use Rattle.token_spans.specs.Spans.{lexeme_spot, Spans}
use Rattle.token_spans.proofs.Standing.{spot_of_lem}
use Rattle.token_rows.specs.declared.TokenRow.{TokenRow}
use Rattle.token_rows.specs.TokenRows.{spot_from, lexeme_of}
use Rattle.token_next.proofs.Wording.{row_spot, row_spans}
use Rattle.token_moves.specs.TokenMoves.{move_at, pending, pending_behind, holds_path, PathEnds, Readable, MovesOn}
use Rattle.token_moves.proofs.Stepping.{step_by_row}
use Rattle.token_parsing.specs.Standing.{ParsingAt, TokenRead}
use Rattle.token_parsing.proofs.Calming.{is_calm, is_holding, step_calm}

-- a table's parts as the machine's
parts_within : (text names stack : List ℕ) (most depth : ℕ) → PartsMost most stack depth → PartsWithin most (rows_down text names stack depth)
unfolding rows_down parts_at closed_node_of
parts_within text names stack most depth M = record { fit = by depth M.fit }
  where
    by : (d : ℕ) → ((i : ℕ) → i < d → (node_row_at stack i).parts ≤ most) → (i : ℕ) → parts_at (rows_down text names stack d) i ≤ most
    by zero f i = omega arith
    by (suc d) f zero = f d (omega arith)
    by (suc d) f (suc i) = by d (λ j h. f j (omega (arith, h))) i

-- what a token's move gains
token_weighs : (text : List ℕ) (s : ReadState) (h : Held) (top : ℕ) (r : TokenRow) → gain (move_at text s h top (lexeme_of r)) r.mark ≤ owed s + lexeme_bytes (lexeme_of r)
unfolding lexeme_of move_at lexeme_bytes
token_weighs text s h top r = by (eqb r.sort 0) (eqb r.sort 1)
  where
    q : Spot
    q = spot_from r.from r.to

    chosen : Bool → Bool → Lexeme
    chosen a b = cond a (name (record { own = r.own; spot = q })) (cond b (scalar (r.own * 65536 + r.mark) q) (mark r.mark q))

    by : (a b : Bool) → gain (move_at text s h top (chosen a b)) r.mark ≤ owed s + lexeme_bytes (chosen a b)
    by true b = name_weighs text s h top (record { own = r.own; spot = q }) r.mark
    by false true = scalar_weighs s (r.own * 65536 + r.mark) q r.mark
    by false false = mark_weighs text s h top r.mark q

-- what a token that holds nothing leaves held is nothing that may go on
calm_ends : (s : ReadState) (h : HeldRow) (named : ℕ) → not (holds_path s) ≡ true → PathEnds s h named
calm_ends s h named e f = absurd (by (holds_path s) e f)
  where
    by : (b : Bool) → not b ≡ true → b ≡ true → ⊥
    by true e f = false≢true e
    by false e f = false≢true f

calm_pends : (s : ReadState) → not (holds_path s) ≡ true → pending s ≡ 0
unfolding holds_path pending
calm_pends Begin e = refl
calm_pends Expect e = refl
calm_pends BehindAmp e = refl
calm_pends BehindRef e = refl
calm_pends BehindMut e = refl
calm_pends AtName e = refl
calm_pends AtBound e = refl
calm_pends AtPath e = refl
calm_pends AtSep e = absurd (false≢true e)
calm_pends AtMinus e = refl
calm_pends AtLiteral e = refl
calm_pends AtDots e = refl
calm_pends AtFrom e = refl
calm_pends AtTo e = refl
calm_pends AtToPath e = refl
calm_pends AtAlt e = refl
calm_pends AtBrace e = refl
calm_pends AtLabel e = refl
calm_pends AtIndex e = refl
calm_pends AtField e = refl
calm_pends AtEtc e = refl

-- what is held behind a move: its own row, or nothing that may go on
unfoldable state_of : ParseStep → ParseState → ParseState
state_of (Going q) other = q
state_of (Ended n) other = other
state_of (Halted at) other = other

record HeldBehind (q : ParseState) (next bytes : ℕ) : Type 0 where
  path : PathEnds q.state q.held next
  spelled : next + pending q.state ≤ bytes

held_behind :
    {text before : List ℕ} {named : ℕ} {s : ReadState} {h : HeldRow} {top : ℕ} {t : Lexeme} {made : NodeMove} {next : ℕ} {after : List ℕ} {q : ParseState} (depth rows : ℕ)
    → MovesOn text before named s h top t made next after → HoldsRow made depth rows (Going q)
    → (is_holding (move_of text after made) ≡ false → not (holds_path q.state) ≡ true) → HeldBehind q next (lexeme_spot t).to
unfolding is_holding move_of pending_behind state_of
held_behind {text} {before} {named} {s} {h} {top} {t} {made} {next} {after} {q} depth rows M H calm = by made refl
  where
    quiet : not (holds_path q.state) ≡ true → HeldBehind q next (lexeme_spot t).to
    quiet e = record { path = calm_ends q.state q.held next e; spelled = omega (arith, calm_pends q.state e, M.room) }

    by : (x : NodeMove) → made ≡ x → HeldBehind q next (lexeme_spot t).to
    by (Halts at) e = quiet (calm (rw e refl))
    by (Holds s' h') e =
        let same = subst (λ (x : NodeMove). HoldsRow x depth rows (Going q)) e H in
        let own = ap (λ (x : ParseStep). state_of x q) same in
        record {
          path = subst (λ (z : ParseState). PathEnds z.state z.held next) (sym own) (M.ends s' h' e);
          spelled = subst (λ (z : ParseState). next + pending z.state ≤ (lexeme_spot t).to) (sym own) (rw e at M.room);
        }
    by (Opens s' f) e = quiet (calm (rw e refl))
    by (OpensTwo f g) e = quiet (calm (rw e refl))
    by (OpensBehind s' w f) e = quiet (calm (rw e refl))
    by Mutates e = quiet (calm (rw e refl))
    by (Shuts w) e = quiet (calm (rw e refl))
    by (ShutsBefore w) e = quiet (calm (rw e refl))
    by (ShutsRange w) e = quiet (calm (rw e refl))
    by (ShutsRangeBefore w) e = quiet (calm (rw e refl))
    by ShutsOpenRange e = quiet (calm (rw e refl))
    by ShutsRest e = quiet (calm (rw e refl))
    by PassesOn e = quiet (calm (rw e refl))
    by ShutsTop e = quiet (calm (rw e refl))
    by (AddsField w f) e = quiet (calm (rw e refl))
    by (AddsLastField w f) e = quiet (calm (rw e refl))

-- before a token
module _ {text names : List ℕ} {named : ℕ} {stack nodes : List ℕ} {at : ℕ} {p : ParseState} (few : length text ≤ 16384) (P : ParsingAt text names named stack nodes at p) (r : TokenRow) (e : lexeme_of r ≡ lexeme (token_at text at)) where
  spans : Spans text at (lexeme_of r)
  spans = row_spans text at r P.inside e

  pub token_ends : r.to ≤ 16384
  token_ends = let to = ap (λ (q : Spot). q.to) (row_spot r) in omega (arith, few, to, spans.lies.inside)

  pub token_readable : Readable text named p.state p.held (lexeme_of r)
  token_readable = record { short = few; lies = spans.lies; room = omega (arith, P.spelled, spans.behind); path = P.path }

  -- its move is made
  module _ {top : ℕ} (T : InnermostIs stack p.depth top) {made : NodeMove} {next : ℕ} {after : List ℕ} (M : MovesOn text names named p.state p.held top (lexeme_of r) made next after) where
    pub token_room : p.depth + p.rows + move_gain made r.mark ≤ 16384
    token_room =
        let g = token_weighs text p.state (held_in text after p.state p.held) top r in
        let s = ap (λ m. gain m r.mark) (M.moves after refl) in
        let a = gain_any text after made r.mark in
        omega (arith, g, s, a, few, P.weighs, spans.behind, spans.lies.inside, spans.lies.long)

    pub token_parts : PartsMost 30001 stack p.depth
    token_parts = parts_up (omega (arith, few, P.inside)) P.parts

    -- and the tables hold what the machine comes to
    module _ {stack' nodes' : List ℕ} {step : ParseStep} (W : Performed stack nodes p.depth p.rows made r.mark r.from stack' nodes' step) where
      by_token : (other : List ℕ) → SameBelow next after other → course_of text other stack' nodes' step ≡ stepped text (parser_of text other stack nodes p) (lexeme_of r)
      unfolding opened_of
      by_token other so =
          W.performs.shows text other
          ∙ (ap (λ m. perform m r.mark r.from (opened_of text other stack nodes p.depth p.rows)) (M.moves other so.same)
          ∙ (ap (λ k. perform (move_at text p.state (held_in text other p.state p.held) k (lexeme_of r)) r.mark r.from (opened_of text other stack nodes p.depth p.rows)) (T.tells text other)
          ∙ sym (step_by_row text (parser_of text other stack nodes p) r)))

      steps_to : StepsTo text stack nodes at p after next stack' nodes' step
      steps_to = record { shows = λ other so. by_token other so ∙ ap (stepped text (parser_of text other stack nodes p)) e }

      kept : SameBelow named names after
      kept = record { same = M.below }

      ends_at : r.to ≡ (token_at text at).to
      unfolding lexeme
      ends_at =
          sym (ap (λ (q : Spot). q.to) (row_spot r))
          ∙ (ap (λ (t : Lexeme). (lexeme_spot t).to) e ∙ ap (λ (q : Spot). q.to) (spot_of_lem (token_at text at).kind _))

      -- what the parser weighs then
      step_bound : weight (course_of text after stack' nodes' step) ≤ r.to
      unfolding weight opened_size opened_of
      step_bound =
          let w = step_weight text (parser_of text after stack nodes p) (lexeme_of r) in
          let s = ap weight (by_token after (record { same = refl })) in
          let d = rows_long text after stack p.depth in
          let n = rows_long text after nodes p.rows in
          let to = ap (λ (q : Spot). q.to) (row_spot r) in
          omega (arith, w, s, d, n, to, P.weighs, spans.behind, spans.lies.long)

-- The token leads to this.
module _ {text names : List ℕ} {named : ℕ} {stack nodes : List ℕ} {at : ℕ} {p : ParseState} (few : length text ≤ 16384) (P : ParsingAt text names named stack nodes at p) (r : TokenRow) (e : lexeme_of r ≡ lexeme (token_at text at)) {top : ℕ} (T : InnermostIs stack p.depth top) {made : NodeMove} {next : ℕ} {after : List ℕ} (M : MovesOn text names named p.state p.held top (lexeme_of r) made next after) {stack' nodes' : List ℕ} where
  going_read : (q : ParseState) → Performed stack nodes p.depth p.rows made r.mark r.from stack' nodes' (Going q)
      → ParsingAt text after next stack' nodes' r.to q × (at < r.to)
  unfolding weight opened_size opened_of course_of waiting_of is_calm
  going_read q W =
      let S = steps_to few P r e T M W in
      let k = kept few P r e T M W in
      let inside = token_inside P.so_far P.inside k M.grows q S in
      let same = ends_at few P r e T M W in
      let bound = step_bound few P r e T M W in
      let d = rows_long text after stack' q.depth in
      let n = rows_long text after nodes' q.rows in
      let w = (step_within text (parser_of text after stack nodes p) (lexeme_of r) (parts_within text after stack at p.depth P.parts)).waits in
      let parts = rw (sym (by_token few P r e T M W after (record { same = refl }))) at w in
      let held = held_behind p.depth p.rows M W.holds (calm_behind q W) in
      let to = ap (λ (s : Spot). s.to) (row_spot r) in (
        record {
          so_far = rw same (goes_on_lem P.so_far P.inside k M.grows q S);
          inside = omega (arith, same, inside.1);
          weighs = omega (arith, bound, d, n);
          parts = parts_up (omega (arith, same, inside.0)) (parts_most text after stack' (suc at) q.depth parts);
          path = held.path;
          spelled = omega (arith, held.spelled, to);
        },
        omega (arith, same, inside.0),
      )
    where
      calm_behind : (z : ParseState) → Performed stack nodes p.depth p.rows made r.mark r.from stack' nodes' (Going z)
          → is_holding (move_of text after made) ≡ false → not (holds_path z.state) ≡ true
      calm_behind z D f =
          ap is_calm (D.performs.shows text after)
          ∙ rw (sym (M.moves after refl)) at (step_calm text p.state (held_in text after p.state p.held) top (lexeme_of r) r.mark r.from (opened_of text after stack nodes p.depth p.rows) (rw (M.moves after refl) at f))

  pub token_read : (step : ParseStep) → Performed stack nodes p.depth p.rows made r.mark r.from stack' nodes' step → TokenRead text at step r.to next after stack' nodes'
  unfolding weight course_of
  token_read (Going q) W = going_read q W
  token_read (Ended n) W =
      let S = steps_to few P r e T M W in
      let bound = step_bound few P r e T M W in
      let rows = rows_long text after nodes' n in
      let to = ap (λ (s : Spot). s.to) (row_spot r) in
      record {
        same = ends_there P.so_far P.inside (kept few P r e T M W) M.grows n S few;
        few = omega (arith, bound, rows, few, to, (row_spans text at r P.inside e).lies.inside);
      }
  token_read (Halted place) W = fails_there_lem P.so_far P.inside (kept few P r e T M W) M.grows place (steps_to few P r e T M W) few
