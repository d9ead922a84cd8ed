use borrow.Author.Rules.{rules}
use mathlib.Core.Path.{refl}
use Rattle.pattern_words.specs.declared.Kind.{Kind}
use Rattle.pattern_grammar.specs.Lexemes.{of_kind}
use Rattle.token_kinds.proofs.Sorts.{name_is, char_is, mark_is}
use Rattle.token_kinds.proofs.row_of.Goals as goal

pub name_row-requires : goal.name_row-requires
name_row-requires c = c.requires _ c.in-Name.is

pub returns-in-Name : goal.returns-in-Name
returns-in-Name c = name_is _ _ _ _ _ c.in-Name.is c.name_row.ensures

pub returns-in-Ref : goal.returns-in-Ref
unfolding of_kind
returns-in-Ref c = mark_is _ _ Kind.Ref _ _ _ c.in-Ref.is refl c.mark_row.ensures

pub returns-in-Mut : goal.returns-in-Mut
unfolding of_kind
returns-in-Mut c = mark_is _ _ Kind.Mut _ _ _ c.in-Mut.is refl c.mark_row-in-Mut.ensures

pub returns-in-True : goal.returns-in-True
unfolding of_kind
returns-in-True c = mark_is _ _ Kind.True _ _ _ c.in-True.is refl c.mark_row-in-True.ensures

pub returns-in-False : goal.returns-in-False
unfolding of_kind
returns-in-False c = mark_is _ _ Kind.False _ _ _ c.in-False.is refl c.mark_row-in-False.ensures

pub returns-in-Underscore : goal.returns-in-Underscore
unfolding of_kind
returns-in-Underscore c = mark_is _ _ Kind.Underscore _ _ _ c.in-Underscore.is refl c.mark_row-in-Underscore.ensures

pub returns-in-Integer : goal.returns-in-Integer
unfolding of_kind
returns-in-Integer c = mark_is _ _ Kind.Integer _ _ _ c.in-Integer.is refl c.mark_row-in-Integer.ensures

pub returns-in-Char : goal.returns-in-Char
returns-in-Char c = char_is _ _ _ _ _ c.in-Char.is c.char_row.ensures

pub returns-in-OpenParen : goal.returns-in-OpenParen
unfolding of_kind
returns-in-OpenParen c = mark_is _ _ Kind.OpenParen _ _ _ c.in-OpenParen.is refl c.mark_row-in-OpenParen.ensures

pub returns-in-CloseParen : goal.returns-in-CloseParen
unfolding of_kind
returns-in-CloseParen c = mark_is _ _ Kind.CloseParen _ _ _ c.in-CloseParen.is refl c.mark_row-in-CloseParen.ensures

pub returns-in-OpenBracket : goal.returns-in-OpenBracket
unfolding of_kind
returns-in-OpenBracket c = mark_is _ _ Kind.OpenBracket _ _ _ c.in-OpenBracket.is refl c.mark_row-in-OpenBracket.ensures

pub returns-in-CloseBracket : goal.returns-in-CloseBracket
unfolding of_kind
returns-in-CloseBracket c = mark_is _ _ Kind.CloseBracket _ _ _ c.in-CloseBracket.is refl c.mark_row-in-CloseBracket.ensures

pub returns-in-OpenBrace : goal.returns-in-OpenBrace
unfolding of_kind
returns-in-OpenBrace c = mark_is _ _ Kind.OpenBrace _ _ _ c.in-OpenBrace.is refl c.mark_row-in-OpenBrace.ensures

pub returns-in-CloseBrace : goal.returns-in-CloseBrace
unfolding of_kind
returns-in-CloseBrace c = mark_is _ _ Kind.CloseBrace _ _ _ c.in-CloseBrace.is refl c.mark_row-in-CloseBrace.ensures

pub returns-in-Comma : goal.returns-in-Comma
unfolding of_kind
returns-in-Comma c = mark_is _ _ Kind.Comma _ _ _ c.in-Comma.is refl c.mark_row-in-Comma.ensures

pub returns-in-Or : goal.returns-in-Or
unfolding of_kind
returns-in-Or c = mark_is _ _ Kind.Or _ _ _ c.in-Or.is refl c.mark_row-in-Or.ensures

pub returns-in-And : goal.returns-in-And
unfolding of_kind
returns-in-And c = mark_is _ _ Kind.And _ _ _ c.in-And.is refl c.mark_row-in-And.ensures

pub returns-in-AndAnd : goal.returns-in-AndAnd
unfolding of_kind
returns-in-AndAnd c = mark_is _ _ Kind.AndAnd _ _ _ c.in-AndAnd.is refl c.mark_row-in-AndAnd.ensures

pub returns-in-Bind : goal.returns-in-Bind
unfolding of_kind
returns-in-Bind c = mark_is _ _ Kind.Bind _ _ _ c.in-Bind.is refl c.mark_row-in-Bind.ensures

pub returns-in-Minus : goal.returns-in-Minus
unfolding of_kind
returns-in-Minus c = mark_is _ _ Kind.Minus _ _ _ c.in-Minus.is refl c.mark_row-in-Minus.ensures

pub returns-in-Colon : goal.returns-in-Colon
unfolding of_kind
returns-in-Colon c = mark_is _ _ Kind.Colon _ _ _ c.in-Colon.is refl c.mark_row-in-Colon.ensures

pub returns-in-PathSep : goal.returns-in-PathSep
unfolding of_kind
returns-in-PathSep c = mark_is _ _ Kind.PathSep _ _ _ c.in-PathSep.is refl c.mark_row-in-PathSep.ensures

pub returns-in-DotDot : goal.returns-in-DotDot
unfolding of_kind
returns-in-DotDot c = mark_is _ _ Kind.DotDot _ _ _ c.in-DotDot.is refl c.mark_row-in-DotDot.ensures

pub returns-in-DotDotEq : goal.returns-in-DotDotEq
unfolding of_kind
returns-in-DotDotEq c = mark_is _ _ Kind.DotDotEq _ _ _ c.in-DotDotEq.is refl c.mark_row-in-DotDotEq.ensures

pub returns-in-End : goal.returns-in-End
unfolding of_kind
returns-in-End c = mark_is _ _ Kind.End _ _ _ c.in-End.is refl c.mark_row-in-End.ensures

pub returns-in-Fails : goal.returns-in-Fails
unfolding of_kind
returns-in-Fails c = mark_is _ _ Kind.Fails _ _ _ c.in-Fails.is refl c.mark_row-in-Fails.ensures
