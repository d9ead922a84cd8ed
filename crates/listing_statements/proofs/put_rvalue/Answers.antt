use borrow.Author.Rules.{rules}
use Rattle.listing_text.specs.Words.{copy_word, ref_word, mut_word, len_word, discr_word, eq_word, le_word, ge_word, gt_word}
use Rattle.listing_text.specs.Listing.{place_rvalue_word, operator_word, rvalue_text}
use Rattle.listing_places.proofs.Readings.{rvalue_kind, rvalue_unknown}
use Rattle.listing_statements.proofs.put_rvalue.Goals as goal

pub returns-in-3 : goal.returns-in-3
unfolding rvalue_text place_rvalue_word copy_word
returns-in-3 c = rw (rvalue_kind c.args.row.now 3 c.in-3.is) c.put_of_place.ensures

pub returns-in-4 : goal.returns-in-4
unfolding rvalue_text place_rvalue_word ref_word
returns-in-4 c = rw (rvalue_kind c.args.row.now 4 c.in-4.is) c.put_of_place-in-4.ensures

pub returns-in-5 : goal.returns-in-5
unfolding rvalue_text place_rvalue_word mut_word
returns-in-5 c = rw (rvalue_kind c.args.row.now 5 c.in-5.is) c.put_of_place-in-5.ensures

pub returns-in-6 : goal.returns-in-6
unfolding rvalue_text place_rvalue_word len_word
returns-in-6 c = rw (rvalue_kind c.args.row.now 6 c.in-6.is) c.put_of_place-in-6.ensures

pub returns-in-7 : goal.returns-in-7
unfolding rvalue_text place_rvalue_word discr_word
returns-in-7 c = rw (rvalue_kind c.args.row.now 7 c.in-7.is) c.put_of_place-in-7.ensures

pub returns-in-8 : goal.returns-in-8
returns-in-8 c = rw (rvalue_kind c.args.row.now 8 c.in-8.is) c.put_constant.ensures

pub returns-in-9 : goal.returns-in-9
unfolding rvalue_text operator_word eq_word
returns-in-9 c = rw (rvalue_kind c.args.row.now 9 c.in-9.is) c.put_binary.ensures

pub returns-in-10 : goal.returns-in-10
unfolding rvalue_text operator_word le_word
returns-in-10 c = rw (rvalue_kind c.args.row.now 10 c.in-10.is) c.put_binary-in-10.ensures

pub returns-in-11 : goal.returns-in-11
unfolding rvalue_text operator_word ge_word
returns-in-11 c = rw (rvalue_kind c.args.row.now 11 c.in-11.is) c.put_binary-in-11.ensures

pub returns-in-12 : goal.returns-in-12
unfolding rvalue_text operator_word gt_word
returns-in-12 c = rw (rvalue_kind c.args.row.now 12 c.in-12.is) c.put_binary-in-12.ensures

pub returns-in_default : goal.returns-in_default
unfolding rvalue_text
returns-in_default c = rw (rvalue_unknown c.args.row.now c.in_default.in_default-own.rest) c.put.ensures
