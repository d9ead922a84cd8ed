use Rattle.listing_text.specs.Words.{deref_word, field_word, index_word, from_end_word, subslice_word, dash, downcast_word}
use Rattle.listing_text.specs.Listing.{elem_text}
use Rattle.listing_text.proofs.Pieces.{two_then}
use Rattle.listing_places.proofs.places.put_elem.Goals as goal

pub returns-in-Deref : goal.returns-in-Deref
unfolding elem_text deref_word
returns-in-Deref c = rw c.in-Deref.is c.put.ensures

pub returns-in-Field : goal.returns-in-Field
unfolding elem_text field_word
returns-in-Field c = rw c.in-Field.is c.put_numbered.ensures

pub returns-in-Index : goal.returns-in-Index
unfolding elem_text index_word
returns-in-Index c = rw c.in-Index.is c.put_numbered-in-Index.ensures

pub returns-in-IndexFromEnd : goal.returns-in-IndexFromEnd
unfolding elem_text from_end_word
returns-in-IndexFromEnd c = rw c.in-IndexFromEnd.is c.put_numbered-in-IndexFromEnd.ensures

pub returns-in-Subslice : goal.returns-in-Subslice
unfolding elem_text subslice_word dash
returns-in-Subslice c = rw c.in-Subslice.is (two_then subslice_word _ c.put_numbered-begun.ensures c.put_numbered-in-Subslice.ensures)

pub returns-in-Downcast : goal.returns-in-Downcast
unfolding elem_text downcast_word
returns-in-Downcast c = rw c.in-Downcast.is c.put_numbered-in-Downcast.ensures

pub returns-in-Unknown : goal.returns-in-Unknown
unfolding elem_text
returns-in-Unknown c = rw c.in-Unknown.is c.put-in-Unknown.ensures
