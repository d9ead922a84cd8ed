use borrow.Author.Rules.{rules}
use mathlib.Core.Path.{sym, ◌∙◌}
use borrow.Author.Tests.{eq-eqb, ne_eqb}
use lib.ListN.{length}
use Rattle.pattern_words.proofs.Spelling.{by_number, word_by_number, word_long}
use Rattle.pattern_words.proofs.words.word_of.Goals as goal

pub returns-then-size-gt8 : goal.returns-then-size-gt8
returns-then-size-gt8 c = c.piece_as.ensures ∙ sym (word_long c.args.at (length c.args.word.now) c.args.word.now c.if-size-gt8.true)

pub returns-then-number-eq-UNDERSCORE : goal.returns-then-number-eq-UNDERSCORE
unfolding by_number
returns-then-number-eq-UNDERSCORE c = sym (word_by_number c.args.at (length c.args.word.now) c.args.word.now c.requires ∙ simp (← c.word_number-number.ensures, eq-eqb _ _ c.if-number-eq-UNDERSCORE.true) (sym c.piece_as-then-number-eq-UNDERSCORE.ensures))

pub returns-then-number-eq-REF : goal.returns-then-number-eq-REF
unfolding by_number
returns-then-number-eq-REF c = sym (word_by_number c.args.at (length c.args.word.now) c.args.word.now c.requires ∙ simp (← c.word_number-number.ensures, ne_eqb _ _ c.if-number-eq-UNDERSCORE.false, eq-eqb _ _ c.if-number-eq-REF.true) (sym c.piece_as-then-number-eq-REF.ensures))

pub returns-then-number-eq-MUT : goal.returns-then-number-eq-MUT
unfolding by_number
returns-then-number-eq-MUT c = sym (word_by_number c.args.at (length c.args.word.now) c.args.word.now c.requires ∙ simp (← c.word_number-number.ensures, ne_eqb _ _ c.if-number-eq-UNDERSCORE.false, ne_eqb _ _ c.if-number-eq-REF.false, eq-eqb _ _ c.if-number-eq-MUT.true) (sym c.piece_as-then-number-eq-MUT.ensures))

pub returns-then-number-eq-TRUE : goal.returns-then-number-eq-TRUE
unfolding by_number
returns-then-number-eq-TRUE c = sym (word_by_number c.args.at (length c.args.word.now) c.args.word.now c.requires ∙ simp (← c.word_number-number.ensures, ne_eqb _ _ c.if-number-eq-UNDERSCORE.false, ne_eqb _ _ c.if-number-eq-REF.false, ne_eqb _ _ c.if-number-eq-MUT.false, eq-eqb _ _ c.if-number-eq-TRUE.true) (sym c.piece_as-then-number-eq-TRUE.ensures))

pub returns-then-number-eq-FALSE : goal.returns-then-number-eq-FALSE
unfolding by_number
returns-then-number-eq-FALSE c = sym (word_by_number c.args.at (length c.args.word.now) c.args.word.now c.requires ∙ simp (← c.word_number-number.ensures, ne_eqb _ _ c.if-number-eq-UNDERSCORE.false, ne_eqb _ _ c.if-number-eq-REF.false, ne_eqb _ _ c.if-number-eq-MUT.false, ne_eqb _ _ c.if-number-eq-TRUE.false, eq-eqb _ _ c.if-number-eq-FALSE.true) (sym c.piece_as-then-number-eq-FALSE.ensures))

pub returns-then-is_keyword : goal.returns-then-is_keyword
unfolding by_number
returns-then-is_keyword c = sym (word_by_number c.args.at (length c.args.word.now) c.args.word.now c.requires ∙ simp (← c.word_number-number.ensures, ne_eqb _ _ c.if-number-eq-UNDERSCORE.false, ne_eqb _ _ c.if-number-eq-REF.false, ne_eqb _ _ c.if-number-eq-MUT.false, ne_eqb _ _ c.if-number-eq-TRUE.false, ne_eqb _ _ c.if-number-eq-FALSE.false, sym c.is_keyword.ensures ∙ c.if-is_keyword.true) (sym c.piece_as-then-is_keyword.ensures))

pub returns : goal.returns
unfolding by_number
returns c = sym (word_by_number c.args.at (length c.args.word.now) c.args.word.now c.requires ∙ simp (← c.word_number-number.ensures, ne_eqb _ _ c.if-number-eq-UNDERSCORE.false, ne_eqb _ _ c.if-number-eq-REF.false, ne_eqb _ _ c.if-number-eq-MUT.false, ne_eqb _ _ c.if-number-eq-TRUE.false, ne_eqb _ _ c.if-number-eq-FALSE.false, sym c.is_keyword.ensures ∙ c.if-is_keyword.false) (sym c.piece_as-2.ensures))
