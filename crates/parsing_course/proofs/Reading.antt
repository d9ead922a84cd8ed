-- A step of the code, within what is read of the whole text. Assumes nothing.
use Prim.Native.Nat.{ℕ, zero, suc, ◌+◌, ◌<◌, ◌≤◌}
use mathlib.Core.Path.{◌≡◌, refl, sym, ap, ◌∙◌}
use mathlib.Core.Bool.{Bool, true, false, cond, false≢true}
use mathlib.Core.Logic.{◌⊎◌, inl, inr}
use mathlib.Core.List.{List, [], ◌∷◌}
use native.Mathlib.Omega.{arith}
use lib.ListN.{length, take}
use lib.Seq.{take-take}
use Rattle.pattern_tokens.specs.Tokens.{token_at}
use Rattle.pattern_grammar.specs.Lexemes.{Lexeme, lexeme}
use Rattle.pattern_grammar.specs.Parsed.{is_last, lexemes_from, lexemes}
use Rattle.pattern_grammar.proofs.Progress.{advances}
use Rattle.parsing_machine.specs.Parser.{Course, halted_at, step_course, read_on}
use Rattle.parsing_machine.specs.Answers.{nodes_are, fails_there, parsed_nodes, answer_from, fresh_course}
use Rattle.parsing_machine.proofs.Answering.{parser_answers}
use Rattle.node_rows.specs.Nodes.{nodes_in}
use Rattle.node_tables.proofs.Downward.{rows_in_order}
use Rattle.parsing_bounds.specs.Parts.{is_going}
use Rattle.parsing_bounds.proofs.Lasts.{last_stops}
use Rattle.parsing_steps.specs.declared.ParseState.{ParseState}
use Rattle.parsing_steps.specs.declared.ParseStep.{ParseStep}
use Rattle.parsing_steps.specs.declared.ParseStep.TheVariants.{Going, Ended, Halted}
use Rattle.parsing_steps.specs.Stepping.{course_of}
use Rattle.parsing_course.specs.Course.{has_ended, SameBelow, ReadSoFar, StepsTo}
use Rattle.parsing_course.proofs.Ending.{ends_last}

-- bytes that are the same below a place are so below another before it
same_below : {named more : ℕ} {names after other : List ℕ} → named ≤ more → SameBelow named names after → SameBelow more after other → SameBelow named names other
same_below {named} {more} {names} {after} {other} h kept so =
    record {
      same = sym (take-take named more other h) ∙ (ap (take named) so.same ∙ (take-take named more after h ∙ kept.same));
    }

-- bytes are as they are
itself : {named : ℕ} {names : List ℕ} → SameBelow named names names
itself = record { same = refl }

halted_stays : (text : List ℕ) (ts : List Lexeme) (at : ℕ) → read_on text ts (halted_at at) ≡ halted_at at
unfolding read_on step_course
halted_stays text [] at = refl
halted_stays text (t ∷ ts) at = halted_stays text ts at

-- some tokens are left within the text
some_left : {A : Type 0} (left at : ℕ) (text : List ℕ) → length text < left + at → at ≤ length text → ((k : ℕ) → left ≡ suc k → A) → A
some_left zero at text h inside f = absurd (omega (arith, h, inside))
some_left (suc k) at text h inside f = f k refl

-- what is read so far, within the text, and names that only grow
module _ {text names : List ℕ} {named : ℕ} {stack nodes : List ℕ} {at : ℕ} {p : ParseState} {after : List ℕ} {more : ℕ} {stack' nodes' : List ℕ} (S : ReadSoFar text names named stack nodes at p) (inside : at ≤ length text) (kept : SameBelow named names after) (grows : named ≤ more) where
  -- reading on behind the token
  on :
      (k : ℕ) → S.left ≡ suc k → (r : ParseStep) → StepsTo text stack nodes at p after more stack' nodes' r → (other : List ℕ) → SameBelow more after other
      → read_on text (cond (is_last (lexeme (token_at text at))) [] (lexemes_from k text (token_at text at).to)) (course_of text other stack' nodes' r) ≡ read_on text (lexemes text) fresh_course
  unfolding lexemes_from read_on step_course course_of
  on k e r W other same =
      ap (λ (c : Course). read_on text (cond (is_last (lexeme (token_at text at))) [] (lexemes_from k text (token_at text at).to)) c) (W.shows other same)
      ∙ (rw e at (S.comes other (same_below grows kept same)))

  not_last : (q : ParseState) → StepsTo text stack nodes at p after more stack' nodes' (Going q) → is_last (lexeme (token_at text at)) ≡ false
  unfolding is_going course_of
  not_last q W = by (is_last (lexeme (token_at text at))) refl
    where
      by : (b : Bool) → is_last (lexeme (token_at text at)) ≡ b → b ≡ false
      by false e = refl
      by true e = absurd (false≢true (sym (last_stops text _ _ e) ∙ sym (ap is_going (W.shows after itself))))

  is_last_lem : (n : ℕ) → StepsTo text stack nodes at p after more stack' nodes' (Ended n) → is_last (lexeme (token_at text at)) ≡ true
  unfolding has_ended course_of
  is_last_lem n W = by (is_last (lexeme (token_at text at))) refl
    where
      by : (b : Bool) → is_last (lexeme (token_at text at)) ≡ b → b ≡ true
      by true e = refl
      by false e = absurd (false≢true (sym (ends_last text _ _ e) ∙ sym (ap has_ended (W.shows after itself))))

  -- a token behind which others come is in the text
  pub token_inside : (q : ParseState) → StepsTo text stack nodes at p after more stack' nodes' (Going q) → (at < (token_at text at).to) × ((token_at text at).to ≤ length text)
  token_inside q W = by (advances text at)
    where
      by : ((is_last (lexeme (token_at text at)) ≡ true) ⊎ ((at < (token_at text at).to) × ((token_at text at).to ≤ length text))) → (at < (token_at text at).to) × ((token_at text at).to ≤ length text)
      by (inl e) = absurd (false≢true (sym (not_last q W) ∙ e))
      by (inr a) = a

  -- It goes on behind the token.
  pub goes_on_lem : (q : ParseState) → StepsTo text stack nodes at p after more stack' nodes' (Going q) → ReadSoFar text after more stack' nodes' (token_at text at).to q
  goes_on_lem q W =
      some_left S.left at text S.enough inside (λ k e.
      record {
        left = k;
        enough = omega (arith, e, S.enough, (token_inside q W).0);
        comes = λ other same. rw (not_last q W) at (on k e (Going q) W other same);
      })

  -- The text has ended: the rows are its nodes.
  pub ends_there : (n : ℕ) → StepsTo text stack nodes at p after more stack' nodes' (Ended n) → length text ≤ 16384 → nodes_are (nodes_in text after nodes' n) ≡ parsed_nodes text
  unfolding read_on course_of answer_from
  ends_there n W few =
      some_left S.left at text S.enough inside (λ k e.
      ap nodes_are (sym (rows_in_order text after nodes' n))
      ∙ (ap answer_from (rw (is_last_lem n W) at (on k e (Ended n) W after itself)) ∙ parser_answers text few))

  -- It fails there.
  pub fails_there_lem : (place : ℕ) → StepsTo text stack nodes at p after more stack' nodes' (Halted place) → length text ≤ 16384 → fails_there place ≡ parsed_nodes text
  unfolding course_of answer_from
  fails_there_lem place W few =
      some_left S.left at text S.enough inside (λ k e.
      ap answer_from (sym (halted_stays text _ place) ∙ on k e (Halted place) W after itself) ∙ parser_answers text few)
