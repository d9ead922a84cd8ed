use borrow.Author.Tests.{eq-eqb, ne_eqb}
use Rattle.listing_text.specs.Words.{bool_word, usize_word, i128_word, type_word}
use Rattle.listing_text.specs.Listing.{local_ty_text}
use Rattle.listing_places.proofs.locals.put_local_ty.Goals as goal

pub returns-then-word-eq-BOOL : goal.returns-then-word-eq-BOOL
unfolding local_ty_text bool_word
returns-then-word-eq-BOOL c = rw (eq-eqb _ 256 c.if-word-eq-BOOL.true) c.put.ensures

pub returns-then-word-eq-USIZE : goal.returns-then-word-eq-USIZE
unfolding local_ty_text usize_word
returns-then-word-eq-USIZE c = rw (ne_eqb _ 256 c.if-word-eq-BOOL.false, eq-eqb _ 257 c.if-word-eq-USIZE.true) c.put-then-word-eq-USIZE.ensures

pub returns-then-word-eq-I128 : goal.returns-then-word-eq-I128
unfolding local_ty_text i128_word
returns-then-word-eq-I128 c = rw (ne_eqb _ 256 c.if-word-eq-BOOL.false, ne_eqb _ 257 c.if-word-eq-USIZE.false, eq-eqb _ 258 c.if-word-eq-I128.true) c.put-then-word-eq-I128.ensures

pub returns : goal.returns
unfolding local_ty_text type_word
returns c = rw (ne_eqb _ 256 c.if-word-eq-BOOL.false, ne_eqb _ 257 c.if-word-eq-USIZE.false, ne_eqb _ 258 c.if-word-eq-I128.false) c.put_numbered.ensures
