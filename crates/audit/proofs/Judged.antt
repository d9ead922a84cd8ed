-- Whether patterns fit, what they match and bind, and where a run comes, computed from the images' bytes: document 01's corners that are marked [P], and every kind of pattern, operand and binding. What is wanted was written by hand in
-- samples/judged.py, from which samples/corner_theorems.py writes the rows out. Assumes nothing.
use Prim.Native.Nat.{ℕ}
use mathlib.Core.Path.{◌≡◌, refl}
use mathlib.Core.Bool.{true, false}
use mathlib.Core.List.{List, [], ◌∷◌, map}
use lib.IntN.{pos, negsuc}
use Rattle.place.specs.declared.elems.ProjectionElem.{ProjectionElem}
use Rattle.meaning.specs.Values.{Value, Int, Bool', Char, Str, Tuple, Adt, Reference, Array, Slice, no_more, more}
use Rattle.meaning.specs.Running.{Held, value, refers_to}
use Rattle.meaning.specs.Matching.{Bound}
use Rattle.audit.specs.Started.{start_state, start}
use Rattle.audit.specs.Judged.{to_then, to_else, not_of_type, unmatched, matched, Judgement, try, judged}

abbrev wild_row : Judgement
wild_row = record { image = 0 ∷ 0 ∷ 0 ∷ 37 ∷ 1 ∷ 0 ∷ 1 ∷ 0 ∷ 0 ∷ 0 ∷ 1 ∷ 0 ∷ 0 ∷ 0 ∷ 0 ∷ 0 ∷ 0 ∷ 0 ∷ 1 ∷ 0 ∷ 1 ∷ 0 ∷ 0 ∷ 0 ∷ 0 ∷ 0 ∷ 1 ∷ 0 ∷ 3 ∷ 0 ∷ 0 ∷ 0 ∷ 0 ∷ 0 ∷ 0 ∷ 0 ∷ 0 ∷ 0 ∷ 0 ∷ 0 ∷ 0 ∷ []; holds = true; ty = 0; locals = ([]); fit = true; tried = (matched (Int (pos 0)) ([]) (to_then ([])) ∷ matched (Int (pos 255)) ([]) (to_then ([])) ∷ not_of_type (Int (pos 256)) ∷ not_of_type (Int (negsuc 0)) ∷ not_of_type (Bool' true) ∷ []) }

abbrev literal7_row : Judgement
literal7_row = record { image = 0 ∷ 0 ∷ 0 ∷ 59 ∷ 1 ∷ 0 ∷ 1 ∷ 0 ∷ 0 ∷ 0 ∷ 1 ∷ 0 ∷ 0 ∷ 0 ∷ 3 ∷ 0 ∷ 16 ∷ 0 ∷ 1 ∷ 0 ∷ 1 ∷ 0 ∷ 0 ∷ 0 ∷ 0 ∷ 0 ∷ 1 ∷ 0 ∷ 10 ∷ 0 ∷ 0 ∷ 0 ∷ 0 ∷ 0 ∷ 0 ∷ 0 ∷ 0 ∷ 0 ∷ 0 ∷ 0 ∷ 0 ∷ 0 ∷ 1 ∷ 0 ∷ 0 ∷ 0 ∷ 16 ∷ 7 ∷ 0 ∷ 0 ∷ 0 ∷ 0 ∷ 0 ∷ 0 ∷ 0 ∷ 0 ∷ 0 ∷ 0 ∷ 0 ∷ 0 ∷ 0 ∷ 0 ∷ 0 ∷ []; holds = true; ty = 0; locals = ([]); fit = true; tried = (matched (Int (pos 7)) ([]) (to_then ([])) ∷ unmatched (Int (pos 8)) to_else ∷ unmatched (Int (pos 0)) to_else ∷ []) }

abbrev range_row : Judgement
range_row = record { image = 0 ∷ 0 ∷ 0 ∷ 81 ∷ 1 ∷ 0 ∷ 1 ∷ 0 ∷ 0 ∷ 0 ∷ 1 ∷ 0 ∷ 0 ∷ 0 ∷ 6 ∷ 0 ∷ 32 ∷ 0 ∷ 1 ∷ 0 ∷ 1 ∷ 0 ∷ 0 ∷ 0 ∷ 0 ∷ 0 ∷ 1 ∷ 0 ∷ 7 ∷ 0 ∷ 0 ∷ 0 ∷ 0 ∷ 0 ∷ 0 ∷ 0 ∷ 3 ∷ 0 ∷ 0 ∷ 0 ∷ 0 ∷ 0 ∷ 2 ∷ 0 ∷ 0 ∷ 0 ∷ 16 ∷ 0 ∷ 2 ∷ 0 ∷ 16 ∷ 0 ∷ 16 ∷ 1 ∷ 0 ∷ 0 ∷ 0 ∷ 0 ∷ 0 ∷ 0 ∷ 0 ∷ 0 ∷ 0 ∷ 0 ∷ 0 ∷ 0 ∷ 0 ∷ 0 ∷ 0 ∷ 3 ∷ 0 ∷ 0 ∷ 0 ∷ 0 ∷ 0 ∷ 0 ∷ 0 ∷ 0 ∷ 0 ∷ 0 ∷ 0 ∷ 0 ∷ 0 ∷ 0 ∷ 0 ∷ []; holds = true; ty = 0; locals = ([]); fit = true; tried = (unmatched (Int (pos 0)) to_else ∷ matched (Int (pos 1)) ([]) (to_then ([])) ∷ matched (Int (pos 3)) ([]) (to_then ([])) ∷ unmatched (Int (pos 4)) to_else ∷ []) }

abbrev or_1_2_row : Judgement
or_1_2_row = record { image = 0 ∷ 0 ∷ 0 ∷ 113 ∷ 1 ∷ 0 ∷ 1 ∷ 0 ∷ 0 ∷ 0 ∷ 3 ∷ 0 ∷ 0 ∷ 0 ∷ 8 ∷ 0 ∷ 32 ∷ 0 ∷ 1 ∷ 0 ∷ 1 ∷ 0 ∷ 0 ∷ 0 ∷ 0 ∷ 0 ∷ 1 ∷ 0 ∷ 10 ∷ 0 ∷ 0 ∷ 0 ∷ 0 ∷ 0 ∷ 0 ∷ 0 ∷ 0 ∷ 0 ∷ 0 ∷ 0 ∷ 0 ∷ 0 ∷ 10 ∷ 0 ∷ 0 ∷ 0 ∷ 0 ∷ 0 ∷ 3 ∷ 0 ∷ 0 ∷ 0 ∷ 0 ∷ 0 ∷ 0 ∷ 0 ∷ 5 ∷ 0 ∷ 0 ∷ 0 ∷ 0 ∷ 0 ∷ 6 ∷ 0 ∷ 2 ∷ 0 ∷ 0 ∷ 0 ∷ 0 ∷ 0 ∷ 1 ∷ 0 ∷ 0 ∷ 0 ∷ 16 ∷ 0 ∷ 1 ∷ 0 ∷ 16 ∷ 0 ∷ 16 ∷ 0 ∷ 0 ∷ 0 ∷ 1 ∷ 1 ∷ 0 ∷ 0 ∷ 0 ∷ 0 ∷ 0 ∷ 0 ∷ 0 ∷ 0 ∷ 0 ∷ 0 ∷ 0 ∷ 0 ∷ 0 ∷ 0 ∷ 0 ∷ 2 ∷ 0 ∷ 0 ∷ 0 ∷ 0 ∷ 0 ∷ 0 ∷ 0 ∷ 0 ∷ 0 ∷ 0 ∷ 0 ∷ 0 ∷ 0 ∷ 0 ∷ 0 ∷ []; holds = true; ty = 0; locals = ([]); fit = true; tried = (matched (Int (pos 1)) ([]) (to_then ([])) ∷ matched (Int (pos 2)) ([]) (to_then ([])) ∷ unmatched (Int (pos 3)) to_else ∷ []) }

abbrev wild_or_2_row : Judgement
wild_or_2_row = record { image = 0 ∷ 0 ∷ 0 ∷ 91 ∷ 1 ∷ 0 ∷ 1 ∷ 0 ∷ 0 ∷ 0 ∷ 3 ∷ 0 ∷ 0 ∷ 0 ∷ 5 ∷ 0 ∷ 16 ∷ 0 ∷ 1 ∷ 0 ∷ 1 ∷ 0 ∷ 0 ∷ 0 ∷ 0 ∷ 0 ∷ 1 ∷ 0 ∷ 3 ∷ 0 ∷ 0 ∷ 0 ∷ 0 ∷ 0 ∷ 0 ∷ 0 ∷ 0 ∷ 0 ∷ 0 ∷ 0 ∷ 0 ∷ 0 ∷ 10 ∷ 0 ∷ 0 ∷ 0 ∷ 0 ∷ 0 ∷ 0 ∷ 0 ∷ 0 ∷ 0 ∷ 0 ∷ 0 ∷ 0 ∷ 0 ∷ 5 ∷ 0 ∷ 0 ∷ 0 ∷ 0 ∷ 0 ∷ 3 ∷ 0 ∷ 2 ∷ 0 ∷ 0 ∷ 0 ∷ 0 ∷ 0 ∷ 1 ∷ 0 ∷ 0 ∷ 0 ∷ 16 ∷ 0 ∷ 0 ∷ 0 ∷ 1 ∷ 2 ∷ 0 ∷ 0 ∷ 0 ∷ 0 ∷ 0 ∷ 0 ∷ 0 ∷ 0 ∷ 0 ∷ 0 ∷ 0 ∷ 0 ∷ 0 ∷ 0 ∷ 0 ∷ []; holds = true; ty = 0; locals = ([]); fit = true; tried = (matched (Int (pos 2)) ([]) (to_then ([])) ∷ matched (Int (pos 5)) ([]) (to_then ([])) ∷ []) }

abbrev or_none_row : Judgement
or_none_row = record { image = 0 ∷ 0 ∷ 0 ∷ 37 ∷ 1 ∷ 0 ∷ 1 ∷ 0 ∷ 0 ∷ 0 ∷ 1 ∷ 0 ∷ 0 ∷ 0 ∷ 0 ∷ 0 ∷ 0 ∷ 0 ∷ 1 ∷ 0 ∷ 1 ∷ 0 ∷ 0 ∷ 0 ∷ 0 ∷ 0 ∷ 1 ∷ 0 ∷ 5 ∷ 0 ∷ 0 ∷ 0 ∷ 0 ∷ 0 ∷ 0 ∷ 0 ∷ 0 ∷ 0 ∷ 0 ∷ 0 ∷ 0 ∷ []; holds = true; ty = 0; locals = ([]); fit = false; tried = ([]) }

abbrev slice_two_row : Judgement
slice_two_row = record { image = 0 ∷ 0 ∷ 0 ∷ 83 ∷ 1 ∷ 0 ∷ 2 ∷ 0 ∷ 0 ∷ 0 ∷ 3 ∷ 0 ∷ 1 ∷ 0 ∷ 2 ∷ 0 ∷ 0 ∷ 0 ∷ 1 ∷ 0 ∷ 1 ∷ 0 ∷ 0 ∷ 0 ∷ 0 ∷ 0 ∷ 1 ∷ 0 ∷ 9 ∷ 0 ∷ 0 ∷ 0 ∷ 0 ∷ 0 ∷ 0 ∷ 0 ∷ 0 ∷ 0 ∷ 11 ∷ 0 ∷ 0 ∷ 0 ∷ 0 ∷ 0 ∷ 0 ∷ 255 ∷ 255 ∷ 0 ∷ 0 ∷ 0 ∷ 0 ∷ 0 ∷ 3 ∷ 0 ∷ 0 ∷ 0 ∷ 0 ∷ 0 ∷ 0 ∷ 0 ∷ 0 ∷ 0 ∷ 0 ∷ 0 ∷ 0 ∷ 0 ∷ 8 ∷ 0 ∷ 1 ∷ 0 ∷ 0 ∷ 0 ∷ 0 ∷ 0 ∷ 2 ∷ 0 ∷ 0 ∷ 255 ∷ 255 ∷ 0 ∷ 0 ∷ 0 ∷ 1 ∷ 0 ∷ 0 ∷ 0 ∷ 1 ∷ []; holds = true; ty = 1; locals = (1 ∷ []); fit = true; tried = (matched (Slice (more (Int (pos 5)) (more (Int (pos 6)) no_more))) (record { binding = 0; what = value (Int (pos 5)) } ∷ []) (to_then (value (Int (pos 5)) ∷ [])) ∷ unmatched (Slice (more (Int (pos 5)) no_more)) to_else ∷ unmatched (Slice (more (Int (pos 5)) (more (Int (pos 6)) (more (Int (pos 7)) no_more)))) to_else ∷ not_of_type (Array (more (Int (pos 5)) (more (Int (pos 6)) no_more))) ∷ []) }

abbrev array_row : Judgement
array_row = record { image = 0 ∷ 0 ∷ 0 ∷ 83 ∷ 1 ∷ 0 ∷ 2 ∷ 0 ∷ 0 ∷ 0 ∷ 3 ∷ 0 ∷ 1 ∷ 0 ∷ 2 ∷ 0 ∷ 0 ∷ 0 ∷ 1 ∷ 0 ∷ 1 ∷ 0 ∷ 0 ∷ 0 ∷ 0 ∷ 0 ∷ 1 ∷ 0 ∷ 8 ∷ 0 ∷ 0 ∷ 0 ∷ 2 ∷ 0 ∷ 0 ∷ 0 ∷ 1 ∷ 0 ∷ 11 ∷ 0 ∷ 0 ∷ 0 ∷ 0 ∷ 0 ∷ 0 ∷ 255 ∷ 255 ∷ 0 ∷ 0 ∷ 0 ∷ 0 ∷ 0 ∷ 3 ∷ 0 ∷ 0 ∷ 0 ∷ 0 ∷ 0 ∷ 0 ∷ 0 ∷ 0 ∷ 0 ∷ 0 ∷ 0 ∷ 0 ∷ 0 ∷ 8 ∷ 0 ∷ 1 ∷ 0 ∷ 0 ∷ 0 ∷ 0 ∷ 0 ∷ 2 ∷ 0 ∷ 0 ∷ 255 ∷ 255 ∷ 0 ∷ 0 ∷ 0 ∷ 1 ∷ 0 ∷ 0 ∷ 0 ∷ 1 ∷ []; holds = true; ty = 1; locals = (1 ∷ []); fit = true; tried = (matched (Array (more (Int (pos 5)) (more (Int (pos 6)) no_more))) (record { binding = 0; what = value (Int (pos 5)) } ∷ []) (to_then (value (Int (pos 5)) ∷ [])) ∷ not_of_type (Array (more (Int (pos 5)) no_more)) ∷ not_of_type (Slice (more (Int (pos 5)) (more (Int (pos 6)) no_more))) ∷ []) }

abbrev slice_any_row : Judgement
slice_any_row = record { image = 0 ∷ 0 ∷ 0 ∷ 61 ∷ 1 ∷ 0 ∷ 2 ∷ 0 ∷ 0 ∷ 0 ∷ 2 ∷ 0 ∷ 0 ∷ 0 ∷ 0 ∷ 0 ∷ 0 ∷ 0 ∷ 1 ∷ 0 ∷ 1 ∷ 0 ∷ 0 ∷ 0 ∷ 0 ∷ 0 ∷ 1 ∷ 0 ∷ 9 ∷ 0 ∷ 0 ∷ 0 ∷ 0 ∷ 0 ∷ 0 ∷ 0 ∷ 0 ∷ 0 ∷ 1 ∷ 0 ∷ 1 ∷ 0 ∷ 0 ∷ 0 ∷ 0 ∷ 0 ∷ 0 ∷ 0 ∷ 0 ∷ 0 ∷ 0 ∷ 0 ∷ 8 ∷ 0 ∷ 1 ∷ 0 ∷ 0 ∷ 0 ∷ 0 ∷ 0 ∷ 0 ∷ 0 ∷ 0 ∷ 0 ∷ 0 ∷ []; holds = true; ty = 1; locals = ([]); fit = true; tried = (matched (Slice no_more) ([]) (to_then ([])) ∷ matched (Slice (more (Int (pos 1)) (more (Int (pos 2)) no_more))) ([]) (to_then ([])) ∷ []) }

abbrev tuple_ellipsis_row : Judgement
tuple_ellipsis_row = record { image = 0 ∷ 0 ∷ 0 ∷ 115 ∷ 1 ∷ 0 ∷ 2 ∷ 0 ∷ 0 ∷ 0 ∷ 4 ∷ 0 ∷ 3 ∷ 0 ∷ 7 ∷ 0 ∷ 0 ∷ 0 ∷ 1 ∷ 0 ∷ 1 ∷ 0 ∷ 0 ∷ 0 ∷ 0 ∷ 0 ∷ 1 ∷ 0 ∷ 5 ∷ 0 ∷ 0 ∷ 0 ∷ 4 ∷ 0 ∷ 0 ∷ 0 ∷ 1 ∷ 0 ∷ 11 ∷ 0 ∷ 0 ∷ 0 ∷ 0 ∷ 0 ∷ 0 ∷ 255 ∷ 255 ∷ 0 ∷ 0 ∷ 0 ∷ 0 ∷ 0 ∷ 11 ∷ 0 ∷ 0 ∷ 0 ∷ 0 ∷ 0 ∷ 1 ∷ 255 ∷ 255 ∷ 0 ∷ 0 ∷ 0 ∷ 0 ∷ 0 ∷ 11 ∷ 0 ∷ 0 ∷ 0 ∷ 0 ∷ 0 ∷ 2 ∷ 255 ∷ 255 ∷ 0 ∷ 0 ∷ 0 ∷ 0 ∷ 0 ∷ 4 ∷ 0 ∷ 1 ∷ 0 ∷ 0 ∷ 0 ∷ 4 ∷ 0 ∷ 3 ∷ 0 ∷ 1 ∷ 0 ∷ 0 ∷ 0 ∷ 0 ∷ 0 ∷ 1 ∷ 0 ∷ 0 ∷ 0 ∷ 1 ∷ 0 ∷ 0 ∷ 0 ∷ 1 ∷ 0 ∷ 0 ∷ 0 ∷ 0 ∷ 0 ∷ 0 ∷ 0 ∷ 0 ∷ 0 ∷ 0 ∷ 0 ∷ 1 ∷ 0 ∷ 2 ∷ []; holds = true; ty = 1; locals = (1 ∷ 2 ∷ 3 ∷ []); fit = true; tried = (matched (Tuple (more (Int (pos 1)) (more (Int (pos 2)) (more (Int (pos 3)) (more (Int (pos 4)) no_more))))) (record { binding = 0; what = value (Int (pos 1)) } ∷ record { binding = 1; what = value (Int (pos 3)) } ∷ record { binding = 2; what = value (Int (pos 4)) } ∷ []) (to_then (value (Int (pos 1)) ∷ value (Int (pos 3)) ∷ value (Int (pos 4)) ∷ [])) ∷ not_of_type (Tuple (more (Int (pos 1)) (more (Int (pos 2)) (more (Int (pos 3)) no_more)))) ∷ []) }

abbrev ellipsis_2_row : Judgement
ellipsis_2_row = record { image = 0 ∷ 0 ∷ 0 ∷ 87 ∷ 1 ∷ 0 ∷ 2 ∷ 0 ∷ 0 ∷ 0 ∷ 3 ∷ 0 ∷ 0 ∷ 0 ∷ 6 ∷ 0 ∷ 0 ∷ 0 ∷ 1 ∷ 0 ∷ 1 ∷ 0 ∷ 0 ∷ 0 ∷ 0 ∷ 0 ∷ 1 ∷ 0 ∷ 5 ∷ 0 ∷ 0 ∷ 0 ∷ 4 ∷ 0 ∷ 0 ∷ 0 ∷ 1 ∷ 0 ∷ 3 ∷ 0 ∷ 0 ∷ 0 ∷ 0 ∷ 0 ∷ 0 ∷ 0 ∷ 0 ∷ 0 ∷ 0 ∷ 0 ∷ 0 ∷ 0 ∷ 3 ∷ 0 ∷ 0 ∷ 0 ∷ 0 ∷ 0 ∷ 0 ∷ 0 ∷ 0 ∷ 0 ∷ 0 ∷ 0 ∷ 0 ∷ 0 ∷ 4 ∷ 0 ∷ 1 ∷ 0 ∷ 0 ∷ 0 ∷ 4 ∷ 0 ∷ 2 ∷ 0 ∷ 2 ∷ 0 ∷ 0 ∷ 0 ∷ 0 ∷ 0 ∷ 0 ∷ 0 ∷ 0 ∷ 0 ∷ 0 ∷ 0 ∷ 0 ∷ 0 ∷ 1 ∷ []; holds = true; ty = 1; locals = ([]); fit = true; tried = (matched (Tuple (more (Int (pos 1)) (more (Int (pos 2)) (more (Int (pos 3)) (more (Int (pos 4)) no_more))))) ([]) (to_then ([])) ∷ []) }

abbrev ellipsis_3_row : Judgement
ellipsis_3_row = record { image = 0 ∷ 0 ∷ 0 ∷ 87 ∷ 1 ∷ 0 ∷ 2 ∷ 0 ∷ 0 ∷ 0 ∷ 3 ∷ 0 ∷ 0 ∷ 0 ∷ 6 ∷ 0 ∷ 0 ∷ 0 ∷ 1 ∷ 0 ∷ 1 ∷ 0 ∷ 0 ∷ 0 ∷ 0 ∷ 0 ∷ 1 ∷ 0 ∷ 5 ∷ 0 ∷ 0 ∷ 0 ∷ 4 ∷ 0 ∷ 0 ∷ 0 ∷ 1 ∷ 0 ∷ 3 ∷ 0 ∷ 0 ∷ 0 ∷ 0 ∷ 0 ∷ 0 ∷ 0 ∷ 0 ∷ 0 ∷ 0 ∷ 0 ∷ 0 ∷ 0 ∷ 0 ∷ 0 ∷ 0 ∷ 0 ∷ 0 ∷ 0 ∷ 0 ∷ 0 ∷ 0 ∷ 0 ∷ 0 ∷ 0 ∷ 0 ∷ 0 ∷ 4 ∷ 0 ∷ 1 ∷ 0 ∷ 0 ∷ 0 ∷ 4 ∷ 0 ∷ 2 ∷ 0 ∷ 3 ∷ 0 ∷ 0 ∷ 0 ∷ 0 ∷ 0 ∷ 0 ∷ 0 ∷ 0 ∷ 0 ∷ 0 ∷ 0 ∷ 0 ∷ 0 ∷ 1 ∷ []; holds = true; ty = 1; locals = ([]); fit = false; tried = ([]) }

abbrev surplus_row : Judgement
surplus_row = record { image = 0 ∷ 0 ∷ 0 ∷ 143 ∷ 1 ∷ 0 ∷ 2 ∷ 0 ∷ 0 ∷ 0 ∷ 4 ∷ 0 ∷ 0 ∷ 0 ∷ 11 ∷ 0 ∷ 32 ∷ 0 ∷ 1 ∷ 0 ∷ 1 ∷ 0 ∷ 0 ∷ 0 ∷ 0 ∷ 0 ∷ 1 ∷ 0 ∷ 5 ∷ 0 ∷ 0 ∷ 0 ∷ 2 ∷ 0 ∷ 0 ∷ 0 ∷ 1 ∷ 0 ∷ 3 ∷ 0 ∷ 0 ∷ 0 ∷ 0 ∷ 0 ∷ 0 ∷ 0 ∷ 0 ∷ 0 ∷ 0 ∷ 0 ∷ 0 ∷ 0 ∷ 10 ∷ 0 ∷ 0 ∷ 0 ∷ 0 ∷ 0 ∷ 2 ∷ 0 ∷ 0 ∷ 0 ∷ 0 ∷ 0 ∷ 0 ∷ 0 ∷ 10 ∷ 0 ∷ 0 ∷ 0 ∷ 0 ∷ 0 ∷ 5 ∷ 0 ∷ 0 ∷ 0 ∷ 0 ∷ 0 ∷ 0 ∷ 0 ∷ 4 ∷ 0 ∷ 1 ∷ 0 ∷ 0 ∷ 0 ∷ 8 ∷ 0 ∷ 3 ∷ 255 ∷ 255 ∷ 0 ∷ 0 ∷ 0 ∷ 0 ∷ 0 ∷ 0 ∷ 0 ∷ 1 ∷ 0 ∷ 0 ∷ 0 ∷ 16 ∷ 0 ∷ 1 ∷ 0 ∷ 16 ∷ 0 ∷ 16 ∷ 0 ∷ 0 ∷ 0 ∷ 1 ∷ 0 ∷ 2 ∷ 1 ∷ 0 ∷ 0 ∷ 0 ∷ 0 ∷ 0 ∷ 0 ∷ 0 ∷ 0 ∷ 0 ∷ 0 ∷ 0 ∷ 0 ∷ 0 ∷ 0 ∷ 0 ∷ 2 ∷ 0 ∷ 0 ∷ 0 ∷ 0 ∷ 0 ∷ 0 ∷ 0 ∷ 0 ∷ 0 ∷ 0 ∷ 0 ∷ 0 ∷ 0 ∷ 0 ∷ 0 ∷ []; holds = true; ty = 1; locals = ([]); fit = false; tried = ([]) }

abbrev enum_twice_row : Judgement
enum_twice_row = record { image = 0 ∷ 0 ∷ 0 ∷ 141 ∷ 1 ∷ 0 ∷ 2 ∷ 0 ∷ 2 ∷ 0 ∷ 4 ∷ 0 ∷ 0 ∷ 0 ∷ 4 ∷ 0 ∷ 32 ∷ 0 ∷ 1 ∷ 0 ∷ 1 ∷ 0 ∷ 0 ∷ 0 ∷ 0 ∷ 0 ∷ 1 ∷ 0 ∷ 6 ∷ 0 ∷ 0 ∷ 0 ∷ 2 ∷ 0 ∷ 1 ∷ 0 ∷ 0 ∷ 0 ∷ 0 ∷ 0 ∷ 1 ∷ 0 ∷ 0 ∷ 0 ∷ 1 ∷ 0 ∷ 0 ∷ 0 ∷ 16 ∷ 0 ∷ 3 ∷ 0 ∷ 0 ∷ 0 ∷ 0 ∷ 0 ∷ 0 ∷ 0 ∷ 0 ∷ 0 ∷ 0 ∷ 0 ∷ 0 ∷ 0 ∷ 12 ∷ 0 ∷ 1 ∷ 0 ∷ 0 ∷ 0 ∷ 1 ∷ 0 ∷ 1 ∷ 255 ∷ 255 ∷ 0 ∷ 0 ∷ 0 ∷ 9 ∷ 0 ∷ 1 ∷ 0 ∷ 0 ∷ 0 ∷ 1 ∷ 0 ∷ 1 ∷ 0 ∷ 0 ∷ 0 ∷ 0 ∷ 0 ∷ 5 ∷ 0 ∷ 1 ∷ 0 ∷ 0 ∷ 0 ∷ 2 ∷ 0 ∷ 2 ∷ 0 ∷ 0 ∷ 0 ∷ 0 ∷ 0 ∷ 0 ∷ 0 ∷ 0 ∷ 0 ∷ 1 ∷ 0 ∷ 2 ∷ 1 ∷ 0 ∷ 0 ∷ 0 ∷ 0 ∷ 0 ∷ 0 ∷ 0 ∷ 0 ∷ 0 ∷ 0 ∷ 0 ∷ 0 ∷ 0 ∷ 0 ∷ 0 ∷ 0 ∷ 0 ∷ 0 ∷ 0 ∷ 0 ∷ 0 ∷ 0 ∷ 0 ∷ 0 ∷ 0 ∷ 0 ∷ 0 ∷ 0 ∷ 0 ∷ 0 ∷ 0 ∷ []; holds = true; ty = 1; locals = ([]); fit = true; tried = (matched (Adt 0 (more (Int (pos 9)) no_more)) ([]) (to_then ([])) ∷ matched (Adt 1 no_more) ([]) (to_then ([])) ∷ not_of_type (Adt 0 no_more) ∷ not_of_type (Adt 2 no_more) ∷ []) }

abbrev bind_some_row : Judgement
bind_some_row = record { image = 0 ∷ 0 ∷ 0 ∷ 127 ∷ 1 ∷ 0 ∷ 2 ∷ 0 ∷ 2 ∷ 0 ∷ 3 ∷ 0 ∷ 1 ∷ 0 ∷ 2 ∷ 0 ∷ 32 ∷ 0 ∷ 1 ∷ 0 ∷ 1 ∷ 0 ∷ 0 ∷ 0 ∷ 0 ∷ 0 ∷ 1 ∷ 0 ∷ 6 ∷ 0 ∷ 0 ∷ 0 ∷ 2 ∷ 0 ∷ 1 ∷ 0 ∷ 0 ∷ 0 ∷ 0 ∷ 0 ∷ 1 ∷ 0 ∷ 0 ∷ 0 ∷ 1 ∷ 0 ∷ 0 ∷ 0 ∷ 16 ∷ 0 ∷ 3 ∷ 0 ∷ 0 ∷ 0 ∷ 0 ∷ 0 ∷ 0 ∷ 0 ∷ 0 ∷ 0 ∷ 0 ∷ 0 ∷ 0 ∷ 0 ∷ 12 ∷ 0 ∷ 1 ∷ 0 ∷ 0 ∷ 0 ∷ 1 ∷ 0 ∷ 1 ∷ 255 ∷ 255 ∷ 0 ∷ 0 ∷ 0 ∷ 11 ∷ 0 ∷ 1 ∷ 0 ∷ 0 ∷ 0 ∷ 0 ∷ 0 ∷ 1 ∷ 0 ∷ 0 ∷ 0 ∷ 0 ∷ 0 ∷ 1 ∷ 0 ∷ 1 ∷ 0 ∷ 0 ∷ 0 ∷ 0 ∷ 1 ∷ 0 ∷ 0 ∷ 0 ∷ 0 ∷ 0 ∷ 0 ∷ 0 ∷ 0 ∷ 0 ∷ 0 ∷ 0 ∷ 0 ∷ 0 ∷ 0 ∷ 0 ∷ 0 ∷ 0 ∷ 0 ∷ 0 ∷ 0 ∷ 0 ∷ 0 ∷ 0 ∷ 0 ∷ 0 ∷ 0 ∷ 0 ∷ 0 ∷ 0 ∷ 0 ∷ 0 ∷ []; holds = true; ty = 1; locals = (1 ∷ []); fit = true; tried = (matched (Adt 0 (more (Int (pos 3)) no_more)) (record { binding = 0; what = value (Adt 0 (more (Int (pos 3)) no_more)) } ∷ []) (to_then (value (Adt 0 (more (Int (pos 3)) no_more)) ∷ [])) ∷ unmatched (Adt 1 no_more) to_else ∷ []) }

abbrev nested_or_row : Judgement
nested_or_row = record { image = 0 ∷ 0 ∷ 0 ∷ 185 ∷ 1 ∷ 0 ∷ 1 ∷ 0 ∷ 0 ∷ 0 ∷ 6 ∷ 0 ∷ 1 ∷ 0 ∷ 13 ∷ 0 ∷ 48 ∷ 0 ∷ 1 ∷ 0 ∷ 1 ∷ 0 ∷ 0 ∷ 0 ∷ 0 ∷ 0 ∷ 1 ∷ 0 ∷ 10 ∷ 0 ∷ 0 ∷ 0 ∷ 0 ∷ 0 ∷ 0 ∷ 0 ∷ 0 ∷ 0 ∷ 0 ∷ 0 ∷ 0 ∷ 0 ∷ 10 ∷ 0 ∷ 0 ∷ 0 ∷ 0 ∷ 0 ∷ 3 ∷ 0 ∷ 0 ∷ 0 ∷ 0 ∷ 0 ∷ 0 ∷ 0 ∷ 10 ∷ 0 ∷ 0 ∷ 0 ∷ 0 ∷ 0 ∷ 6 ∷ 0 ∷ 0 ∷ 0 ∷ 0 ∷ 0 ∷ 0 ∷ 0 ∷ 5 ∷ 0 ∷ 0 ∷ 0 ∷ 0 ∷ 0 ∷ 9 ∷ 0 ∷ 2 ∷ 0 ∷ 0 ∷ 0 ∷ 0 ∷ 0 ∷ 5 ∷ 0 ∷ 0 ∷ 0 ∷ 0 ∷ 0 ∷ 11 ∷ 0 ∷ 2 ∷ 0 ∷ 0 ∷ 0 ∷ 0 ∷ 0 ∷ 11 ∷ 0 ∷ 0 ∷ 0 ∷ 0 ∷ 0 ∷ 0 ∷ 0 ∷ 4 ∷ 0 ∷ 0 ∷ 0 ∷ 0 ∷ 0 ∷ 0 ∷ 0 ∷ 1 ∷ 0 ∷ 1 ∷ 0 ∷ 0 ∷ 0 ∷ 16 ∷ 0 ∷ 1 ∷ 0 ∷ 16 ∷ 0 ∷ 16 ∷ 0 ∷ 1 ∷ 0 ∷ 32 ∷ 0 ∷ 16 ∷ 0 ∷ 1 ∷ 0 ∷ 2 ∷ 0 ∷ 0 ∷ 0 ∷ 3 ∷ 1 ∷ 0 ∷ 0 ∷ 0 ∷ 0 ∷ 0 ∷ 0 ∷ 0 ∷ 0 ∷ 0 ∷ 0 ∷ 0 ∷ 0 ∷ 0 ∷ 0 ∷ 0 ∷ 2 ∷ 0 ∷ 0 ∷ 0 ∷ 0 ∷ 0 ∷ 0 ∷ 0 ∷ 0 ∷ 0 ∷ 0 ∷ 0 ∷ 0 ∷ 0 ∷ 0 ∷ 0 ∷ 3 ∷ 0 ∷ 0 ∷ 0 ∷ 0 ∷ 0 ∷ 0 ∷ 0 ∷ 0 ∷ 0 ∷ 0 ∷ 0 ∷ 0 ∷ 0 ∷ 0 ∷ 0 ∷ []; holds = true; ty = 0; locals = (1 ∷ []); fit = true; tried = (matched (Int (pos 2)) (record { binding = 0; what = value (Int (pos 2)) } ∷ []) (to_then (value (Int (pos 2)) ∷ [])) ∷ matched (Int (pos 3)) (record { binding = 0; what = value (Int (pos 3)) } ∷ []) (to_then (value (Int (pos 3)) ∷ [])) ∷ unmatched (Int (pos 4)) to_else ∷ []) }

abbrev or_of_binds_row : Judgement
or_of_binds_row = record { image = 0 ∷ 0 ∷ 0 ∷ 195 ∷ 1 ∷ 0 ∷ 2 ∷ 0 ∷ 0 ∷ 0 ∷ 7 ∷ 0 ∷ 1 ∷ 0 ∷ 14 ∷ 0 ∷ 32 ∷ 0 ∷ 1 ∷ 0 ∷ 1 ∷ 0 ∷ 0 ∷ 0 ∷ 0 ∷ 0 ∷ 1 ∷ 0 ∷ 5 ∷ 0 ∷ 0 ∷ 0 ∷ 2 ∷ 0 ∷ 0 ∷ 0 ∷ 1 ∷ 0 ∷ 11 ∷ 0 ∷ 0 ∷ 0 ∷ 0 ∷ 0 ∷ 0 ∷ 255 ∷ 255 ∷ 0 ∷ 0 ∷ 0 ∷ 0 ∷ 0 ∷ 10 ∷ 0 ∷ 0 ∷ 0 ∷ 0 ∷ 0 ∷ 2 ∷ 0 ∷ 0 ∷ 0 ∷ 0 ∷ 0 ∷ 0 ∷ 0 ∷ 4 ∷ 0 ∷ 1 ∷ 0 ∷ 0 ∷ 0 ∷ 5 ∷ 0 ∷ 2 ∷ 255 ∷ 255 ∷ 0 ∷ 0 ∷ 0 ∷ 11 ∷ 0 ∷ 0 ∷ 0 ∷ 0 ∷ 0 ∷ 0 ∷ 255 ∷ 255 ∷ 0 ∷ 0 ∷ 0 ∷ 0 ∷ 0 ∷ 10 ∷ 0 ∷ 0 ∷ 0 ∷ 0 ∷ 0 ∷ 7 ∷ 0 ∷ 0 ∷ 0 ∷ 0 ∷ 0 ∷ 0 ∷ 0 ∷ 4 ∷ 0 ∷ 1 ∷ 0 ∷ 0 ∷ 0 ∷ 10 ∷ 0 ∷ 2 ∷ 255 ∷ 255 ∷ 0 ∷ 0 ∷ 0 ∷ 5 ∷ 0 ∷ 1 ∷ 0 ∷ 0 ∷ 0 ∷ 12 ∷ 0 ∷ 2 ∷ 0 ∷ 0 ∷ 0 ∷ 0 ∷ 0 ∷ 0 ∷ 0 ∷ 1 ∷ 0 ∷ 0 ∷ 0 ∷ 0 ∷ 0 ∷ 1 ∷ 0 ∷ 0 ∷ 0 ∷ 16 ∷ 0 ∷ 0 ∷ 0 ∷ 1 ∷ 0 ∷ 1 ∷ 0 ∷ 16 ∷ 0 ∷ 16 ∷ 0 ∷ 4 ∷ 0 ∷ 3 ∷ 0 ∷ 2 ∷ 0 ∷ 5 ∷ 1 ∷ 0 ∷ 0 ∷ 0 ∷ 0 ∷ 0 ∷ 0 ∷ 0 ∷ 0 ∷ 0 ∷ 0 ∷ 0 ∷ 0 ∷ 0 ∷ 0 ∷ 0 ∷ 2 ∷ 0 ∷ 0 ∷ 0 ∷ 0 ∷ 0 ∷ 0 ∷ 0 ∷ 0 ∷ 0 ∷ 0 ∷ 0 ∷ 0 ∷ 0 ∷ 0 ∷ 0 ∷ []; holds = true; ty = 1; locals = (1 ∷ []); fit = true; tried = (matched (Tuple (more (Int (pos 5)) (more (Int (pos 1)) no_more))) (record { binding = 0; what = value (Int (pos 5)) } ∷ []) (to_then (value (Int (pos 5)) ∷ [])) ∷ matched (Tuple (more (Int (pos 2)) (more (Int (pos 7)) no_more))) (record { binding = 0; what = value (Int (pos 7)) } ∷ []) (to_then (value (Int (pos 7)) ∷ [])) ∷ matched (Tuple (more (Int (pos 2)) (more (Int (pos 1)) no_more))) (record { binding = 0; what = value (Int (pos 2)) } ∷ []) (to_then (value (Int (pos 2)) ∷ [])) ∷ unmatched (Tuple (more (Int (pos 3)) (more (Int (pos 3)) no_more))) to_else ∷ []) }

abbrev record_row : Judgement
record_row = record { image = 0 ∷ 0 ∷ 0 ∷ 135 ∷ 1 ∷ 0 ∷ 2 ∷ 0 ∷ 1 ∷ 0 ∷ 3 ∷ 0 ∷ 1 ∷ 0 ∷ 9 ∷ 0 ∷ 32 ∷ 0 ∷ 1 ∷ 0 ∷ 1 ∷ 0 ∷ 0 ∷ 0 ∷ 0 ∷ 0 ∷ 1 ∷ 0 ∷ 6 ∷ 0 ∷ 0 ∷ 0 ∷ 1 ∷ 0 ∷ 0 ∷ 0 ∷ 0 ∷ 0 ∷ 0 ∷ 0 ∷ 2 ∷ 0 ∷ 0 ∷ 0 ∷ 11 ∷ 0 ∷ 0 ∷ 0 ∷ 0 ∷ 0 ∷ 0 ∷ 255 ∷ 255 ∷ 0 ∷ 2 ∷ 0 ∷ 0 ∷ 0 ∷ 10 ∷ 0 ∷ 0 ∷ 0 ∷ 0 ∷ 0 ∷ 2 ∷ 0 ∷ 0 ∷ 0 ∷ 0 ∷ 0 ∷ 0 ∷ 0 ∷ 6 ∷ 0 ∷ 1 ∷ 0 ∷ 0 ∷ 0 ∷ 5 ∷ 0 ∷ 2 ∷ 0 ∷ 0 ∷ 0 ∷ 0 ∷ 0 ∷ 0 ∷ 0 ∷ 1 ∷ 0 ∷ 0 ∷ 0 ∷ 0 ∷ 0 ∷ 1 ∷ 0 ∷ 16 ∷ 0 ∷ 16 ∷ 0 ∷ 1 ∷ 0 ∷ 0 ∷ 0 ∷ 0 ∷ 0 ∷ 1 ∷ 0 ∷ 0 ∷ 0 ∷ 0 ∷ 0 ∷ 0 ∷ 0 ∷ 0 ∷ 0 ∷ 0 ∷ 0 ∷ 0 ∷ 0 ∷ 0 ∷ 0 ∷ 0 ∷ 7 ∷ 0 ∷ 0 ∷ 0 ∷ 0 ∷ 0 ∷ 0 ∷ 0 ∷ 0 ∷ 0 ∷ 0 ∷ 0 ∷ 0 ∷ 0 ∷ 0 ∷ 0 ∷ []; holds = true; ty = 1; locals = (1 ∷ []); fit = true; tried = (matched (Adt 0 (more (Int (pos 7)) (more (Int (pos 4)) no_more))) (record { binding = 0; what = refers_to true (record { local = 0; elems = ((ProjectionElem.Field 1) ∷ []) }) } ∷ []) (to_then (refers_to true (record { local = 0; elems = ((ProjectionElem.Field 1) ∷ []) }) ∷ [])) ∷ unmatched (Adt 0 (more (Int (pos 8)) (more (Int (pos 4)) no_more))) to_else ∷ []) }

abbrev struct_ellipsis_row : Judgement
struct_ellipsis_row = record { image = 0 ∷ 0 ∷ 0 ∷ 133 ∷ 1 ∷ 0 ∷ 2 ∷ 0 ∷ 1 ∷ 0 ∷ 3 ∷ 0 ∷ 1 ∷ 0 ∷ 8 ∷ 0 ∷ 32 ∷ 0 ∷ 1 ∷ 0 ∷ 1 ∷ 0 ∷ 0 ∷ 0 ∷ 0 ∷ 0 ∷ 1 ∷ 0 ∷ 6 ∷ 0 ∷ 0 ∷ 0 ∷ 1 ∷ 0 ∷ 1 ∷ 0 ∷ 0 ∷ 0 ∷ 0 ∷ 0 ∷ 3 ∷ 0 ∷ 0 ∷ 0 ∷ 10 ∷ 0 ∷ 0 ∷ 0 ∷ 0 ∷ 0 ∷ 3 ∷ 0 ∷ 0 ∷ 0 ∷ 0 ∷ 0 ∷ 0 ∷ 0 ∷ 11 ∷ 0 ∷ 0 ∷ 0 ∷ 0 ∷ 0 ∷ 0 ∷ 255 ∷ 255 ∷ 0 ∷ 1 ∷ 0 ∷ 0 ∷ 0 ∷ 12 ∷ 0 ∷ 1 ∷ 0 ∷ 0 ∷ 0 ∷ 6 ∷ 0 ∷ 2 ∷ 0 ∷ 1 ∷ 0 ∷ 0 ∷ 0 ∷ 0 ∷ 0 ∷ 1 ∷ 0 ∷ 0 ∷ 0 ∷ 0 ∷ 0 ∷ 0 ∷ 0 ∷ 1 ∷ 0 ∷ 16 ∷ 0 ∷ 16 ∷ 0 ∷ 0 ∷ 0 ∷ 1 ∷ 255 ∷ 255 ∷ 255 ∷ 255 ∷ 255 ∷ 255 ∷ 255 ∷ 255 ∷ 255 ∷ 255 ∷ 255 ∷ 255 ∷ 255 ∷ 255 ∷ 255 ∷ 255 ∷ 1 ∷ 0 ∷ 0 ∷ 0 ∷ 0 ∷ 0 ∷ 0 ∷ 0 ∷ 0 ∷ 0 ∷ 0 ∷ 0 ∷ 0 ∷ 0 ∷ 0 ∷ 0 ∷ []; holds = true; ty = 1; locals = (1 ∷ []); fit = true; tried = (matched (Adt 0 (more (Int (pos 1)) (more (Int (pos 9)) (more (Int (pos 4)) no_more)))) (record { binding = 0; what = refers_to false (record { local = 0; elems = ((ProjectionElem.Downcast 0) ∷ (ProjectionElem.Field 2) ∷ []) }) } ∷ []) (to_then (refers_to false (record { local = 0; elems = ((ProjectionElem.Downcast 0) ∷ (ProjectionElem.Field 2) ∷ []) }) ∷ [])) ∷ unmatched (Adt 0 (more (Int (pos 2)) (more (Int (pos 9)) (more (Int (pos 4)) no_more)))) to_else ∷ []) }

abbrev string_row : Judgement
string_row = record { image = 0 ∷ 0 ∷ 0 ∷ 56 ∷ 1 ∷ 0 ∷ 2 ∷ 0 ∷ 0 ∷ 0 ∷ 1 ∷ 0 ∷ 0 ∷ 0 ∷ 3 ∷ 0 ∷ 3 ∷ 0 ∷ 4 ∷ 0 ∷ 0 ∷ 0 ∷ 0 ∷ 0 ∷ 0 ∷ 0 ∷ 0 ∷ 0 ∷ 7 ∷ 0 ∷ 0 ∷ 0 ∷ 0 ∷ 0 ∷ 0 ∷ 0 ∷ 1 ∷ 0 ∷ 10 ∷ 0 ∷ 1 ∷ 0 ∷ 0 ∷ 0 ∷ 0 ∷ 0 ∷ 0 ∷ 0 ∷ 0 ∷ 0 ∷ 0 ∷ 0 ∷ 5 ∷ 0 ∷ 0 ∷ 0 ∷ 3 ∷ 82 ∷ 69 ∷ 84 ∷ []; holds = true; ty = 1; locals = ([]); fit = true; tried = (matched (Reference (Str (82 ∷ 69 ∷ 84 ∷ []))) ([]) (to_then ([])) ∷ unmatched (Reference (Str (82 ∷ 69 ∷ 68 ∷ []))) to_else ∷ unmatched (Reference (Str (82 ∷ 69 ∷ []))) to_else ∷ unmatched (Reference (Str ([]))) to_else ∷ unmatched (Reference (Str (82 ∷ 69 ∷ 84 ∷ 83 ∷ []))) to_else ∷ not_of_type (Reference (Int (pos 7))) ∷ []) }

abbrev c_string_row : Judgement
c_string_row = record { image = 0 ∷ 0 ∷ 0 ∷ 55 ∷ 1 ∷ 0 ∷ 2 ∷ 0 ∷ 0 ∷ 0 ∷ 1 ∷ 0 ∷ 0 ∷ 0 ∷ 3 ∷ 0 ∷ 2 ∷ 0 ∷ 4 ∷ 0 ∷ 0 ∷ 0 ∷ 0 ∷ 0 ∷ 0 ∷ 0 ∷ 0 ∷ 0 ∷ 7 ∷ 0 ∷ 0 ∷ 0 ∷ 0 ∷ 0 ∷ 0 ∷ 0 ∷ 1 ∷ 0 ∷ 10 ∷ 0 ∷ 1 ∷ 0 ∷ 0 ∷ 0 ∷ 0 ∷ 0 ∷ 0 ∷ 0 ∷ 0 ∷ 0 ∷ 0 ∷ 0 ∷ 6 ∷ 0 ∷ 0 ∷ 0 ∷ 2 ∷ 79 ∷ 75 ∷ []; holds = true; ty = 1; locals = ([]); fit = false; tried = ([]) }

abbrev the_constant_row : Judgement
the_constant_row = record { image = 0 ∷ 0 ∷ 0 ∷ 44 ∷ 1 ∷ 0 ∷ 1 ∷ 0 ∷ 0 ∷ 0 ∷ 1 ∷ 0 ∷ 0 ∷ 0 ∷ 3 ∷ 0 ∷ 1 ∷ 0 ∷ 1 ∷ 0 ∷ 1 ∷ 0 ∷ 0 ∷ 0 ∷ 0 ∷ 0 ∷ 1 ∷ 0 ∷ 9 ∷ 0 ∷ 0 ∷ 0 ∷ 0 ∷ 0 ∷ 3 ∷ 0 ∷ 0 ∷ 0 ∷ 0 ∷ 0 ∷ 0 ∷ 0 ∷ 8 ∷ 0 ∷ 0 ∷ 0 ∷ 1 ∷ 5 ∷ []; holds = true; ty = 0; locals = ([]); fit = true; tried = (matched (Int (pos 5)) ([]) (to_then ([])) ∷ unmatched (Int (pos 6)) to_else ∷ []) }

abbrev half_open_row : Judgement
half_open_row = record { image = 0 ∷ 0 ∷ 0 ∷ 59 ∷ 1 ∷ 0 ∷ 1 ∷ 0 ∷ 0 ∷ 0 ∷ 1 ∷ 0 ∷ 0 ∷ 0 ∷ 3 ∷ 0 ∷ 16 ∷ 0 ∷ 1 ∷ 0 ∷ 1 ∷ 0 ∷ 0 ∷ 0 ∷ 0 ∷ 0 ∷ 1 ∷ 0 ∷ 7 ∷ 0 ∷ 0 ∷ 0 ∷ 0 ∷ 0 ∷ 0 ∷ 255 ∷ 255 ∷ 0 ∷ 1 ∷ 0 ∷ 0 ∷ 0 ∷ 1 ∷ 0 ∷ 0 ∷ 0 ∷ 16 ∷ 1 ∷ 0 ∷ 0 ∷ 0 ∷ 0 ∷ 0 ∷ 0 ∷ 0 ∷ 0 ∷ 0 ∷ 0 ∷ 0 ∷ 0 ∷ 0 ∷ 0 ∷ 0 ∷ []; holds = true; ty = 0; locals = ([]); fit = true; tried = (unmatched (Int (pos 0)) to_else ∷ matched (Int (pos 1)) ([]) (to_then ([])) ∷ matched (Int (pos 255)) ([]) (to_then ([])) ∷ []) }

abbrev half_open_end_row : Judgement
half_open_end_row = record { image = 0 ∷ 0 ∷ 0 ∷ 66 ∷ 1 ∷ 0 ∷ 1 ∷ 0 ∷ 0 ∷ 0 ∷ 1 ∷ 0 ∷ 0 ∷ 0 ∷ 6 ∷ 0 ∷ 17 ∷ 0 ∷ 1 ∷ 0 ∷ 1 ∷ 0 ∷ 0 ∷ 0 ∷ 0 ∷ 0 ∷ 1 ∷ 0 ∷ 7 ∷ 0 ∷ 0 ∷ 0 ∷ 0 ∷ 0 ∷ 3 ∷ 0 ∷ 0 ∷ 0 ∷ 1 ∷ 0 ∷ 0 ∷ 0 ∷ 8 ∷ 0 ∷ 0 ∷ 0 ∷ 1 ∷ 0 ∷ 1 ∷ 0 ∷ 1 ∷ 0 ∷ 16 ∷ 3 ∷ 1 ∷ 0 ∷ 0 ∷ 0 ∷ 0 ∷ 0 ∷ 0 ∷ 0 ∷ 0 ∷ 0 ∷ 0 ∷ 0 ∷ 0 ∷ 0 ∷ 0 ∷ 0 ∷ []; holds = true; ty = 0; locals = ([]); fit = true; tried = (unmatched (Int (pos 0)) to_else ∷ matched (Int (pos 1)) ([]) (to_then ([])) ∷ matched (Int (pos 2)) ([]) (to_then ([])) ∷ unmatched (Int (pos 3)) to_else ∷ unmatched (Int (pos 4)) to_else ∷ []) }

abbrev first_three_row : Judgement
first_three_row = record { image = 0 ∷ 0 ∷ 0 ∷ 81 ∷ 1 ∷ 0 ∷ 1 ∷ 0 ∷ 0 ∷ 0 ∷ 1 ∷ 0 ∷ 0 ∷ 0 ∷ 6 ∷ 0 ∷ 32 ∷ 0 ∷ 1 ∷ 0 ∷ 1 ∷ 0 ∷ 0 ∷ 0 ∷ 0 ∷ 0 ∷ 1 ∷ 0 ∷ 7 ∷ 0 ∷ 0 ∷ 0 ∷ 0 ∷ 0 ∷ 0 ∷ 0 ∷ 3 ∷ 0 ∷ 1 ∷ 0 ∷ 0 ∷ 0 ∷ 1 ∷ 0 ∷ 0 ∷ 0 ∷ 16 ∷ 0 ∷ 1 ∷ 0 ∷ 16 ∷ 0 ∷ 16 ∷ 1 ∷ 0 ∷ 0 ∷ 0 ∷ 0 ∷ 0 ∷ 0 ∷ 0 ∷ 0 ∷ 0 ∷ 0 ∷ 0 ∷ 0 ∷ 0 ∷ 0 ∷ 0 ∷ 4 ∷ 0 ∷ 0 ∷ 0 ∷ 0 ∷ 0 ∷ 0 ∷ 0 ∷ 0 ∷ 0 ∷ 0 ∷ 0 ∷ 0 ∷ 0 ∷ 0 ∷ 0 ∷ []; holds = true; ty = 0; locals = ([]); fit = true; tried = (unmatched (Int (pos 0)) to_else ∷ matched (Int (pos 1)) ([]) (to_then ([])) ∷ matched (Int (pos 2)) ([]) (to_then ([])) ∷ matched (Int (pos 3)) ([]) (to_then ([])) ∷ unmatched (Int (pos 4)) to_else ∷ unmatched (Int (pos 255)) to_else ∷ []) }

abbrev half_open_to_row : Judgement
half_open_to_row = record { image = 0 ∷ 0 ∷ 0 ∷ 59 ∷ 1 ∷ 0 ∷ 1 ∷ 0 ∷ 0 ∷ 0 ∷ 1 ∷ 0 ∷ 0 ∷ 0 ∷ 3 ∷ 0 ∷ 16 ∷ 0 ∷ 1 ∷ 0 ∷ 1 ∷ 0 ∷ 1 ∷ 0 ∷ 0 ∷ 0 ∷ 1 ∷ 0 ∷ 7 ∷ 0 ∷ 0 ∷ 0 ∷ 0 ∷ 255 ∷ 255 ∷ 0 ∷ 0 ∷ 0 ∷ 1 ∷ 0 ∷ 0 ∷ 0 ∷ 1 ∷ 0 ∷ 0 ∷ 0 ∷ 16 ∷ 255 ∷ 255 ∷ 255 ∷ 255 ∷ 255 ∷ 255 ∷ 255 ∷ 255 ∷ 255 ∷ 255 ∷ 255 ∷ 255 ∷ 255 ∷ 255 ∷ 255 ∷ 255 ∷ []; holds = true; ty = 0; locals = ([]); fit = true; tried = (matched (Int (negsuc 127)) ([]) (to_then ([])) ∷ matched (Int (negsuc 1)) ([]) (to_then ([])) ∷ unmatched (Int (negsuc 0)) to_else ∷ unmatched (Int (pos 0)) to_else ∷ unmatched (Int (pos 127)) to_else ∷ []) }

abbrev half_open_char_row : Judgement
half_open_char_row = record { image = 0 ∷ 0 ∷ 0 ∷ 57 ∷ 1 ∷ 0 ∷ 1 ∷ 0 ∷ 0 ∷ 0 ∷ 1 ∷ 0 ∷ 0 ∷ 0 ∷ 6 ∷ 0 ∷ 8 ∷ 0 ∷ 3 ∷ 0 ∷ 0 ∷ 0 ∷ 0 ∷ 0 ∷ 0 ∷ 0 ∷ 1 ∷ 0 ∷ 7 ∷ 0 ∷ 0 ∷ 0 ∷ 0 ∷ 0 ∷ 0 ∷ 0 ∷ 3 ∷ 0 ∷ 1 ∷ 0 ∷ 0 ∷ 0 ∷ 3 ∷ 0 ∷ 0 ∷ 0 ∷ 4 ∷ 0 ∷ 3 ∷ 0 ∷ 4 ∷ 0 ∷ 4 ∷ 97 ∷ 0 ∷ 0 ∷ 0 ∷ 100 ∷ 0 ∷ 0 ∷ 0 ∷ []; holds = true; ty = 0; locals = ([]); fit = true; tried = (unmatched (Char 96) to_else ∷ matched (Char 97) ([]) (to_then ([])) ∷ matched (Char 99) ([]) (to_then ([])) ∷ unmatched (Char 100) to_else ∷ unmatched (Char 101) to_else ∷ []) }

abbrev half_open_nothing_row : Judgement
half_open_nothing_row = record { image = 0 ∷ 0 ∷ 0 ∷ 59 ∷ 1 ∷ 0 ∷ 1 ∷ 0 ∷ 0 ∷ 0 ∷ 1 ∷ 0 ∷ 0 ∷ 0 ∷ 3 ∷ 0 ∷ 16 ∷ 0 ∷ 1 ∷ 0 ∷ 1 ∷ 0 ∷ 0 ∷ 0 ∷ 0 ∷ 0 ∷ 1 ∷ 0 ∷ 7 ∷ 0 ∷ 0 ∷ 0 ∷ 0 ∷ 0 ∷ 0 ∷ 0 ∷ 0 ∷ 0 ∷ 1 ∷ 0 ∷ 0 ∷ 0 ∷ 1 ∷ 0 ∷ 0 ∷ 0 ∷ 16 ∷ 3 ∷ 0 ∷ 0 ∷ 0 ∷ 0 ∷ 0 ∷ 0 ∷ 0 ∷ 0 ∷ 0 ∷ 0 ∷ 0 ∷ 0 ∷ 0 ∷ 0 ∷ 0 ∷ []; holds = true; ty = 0; locals = ([]); fit = true; tried = (unmatched (Int (pos 2)) to_else ∷ unmatched (Int (pos 3)) to_else ∷ unmatched (Int (pos 4)) to_else ∷ []) }

abbrev flag_2_row : Judgement
flag_2_row = record { image = 0 ∷ 0 ∷ 0 ∷ 81 ∷ 1 ∷ 0 ∷ 1 ∷ 0 ∷ 0 ∷ 0 ∷ 1 ∷ 0 ∷ 0 ∷ 0 ∷ 6 ∷ 0 ∷ 32 ∷ 0 ∷ 1 ∷ 0 ∷ 1 ∷ 0 ∷ 0 ∷ 0 ∷ 0 ∷ 0 ∷ 1 ∷ 0 ∷ 7 ∷ 0 ∷ 0 ∷ 0 ∷ 0 ∷ 0 ∷ 0 ∷ 0 ∷ 3 ∷ 0 ∷ 2 ∷ 0 ∷ 0 ∷ 0 ∷ 1 ∷ 0 ∷ 0 ∷ 0 ∷ 16 ∷ 0 ∷ 1 ∷ 0 ∷ 16 ∷ 0 ∷ 16 ∷ 1 ∷ 0 ∷ 0 ∷ 0 ∷ 0 ∷ 0 ∷ 0 ∷ 0 ∷ 0 ∷ 0 ∷ 0 ∷ 0 ∷ 0 ∷ 0 ∷ 0 ∷ 0 ∷ 3 ∷ 0 ∷ 0 ∷ 0 ∷ 0 ∷ 0 ∷ 0 ∷ 0 ∷ 0 ∷ 0 ∷ 0 ∷ 0 ∷ 0 ∷ 0 ∷ 0 ∷ 0 ∷ []; holds = true; ty = 0; locals = ([]); fit = true; tried = (unmatched (Int (pos 0)) to_else ∷ matched (Int (pos 1)) ([]) (to_then ([])) ∷ matched (Int (pos 3)) ([]) (to_then ([])) ∷ unmatched (Int (pos 4)) to_else ∷ []) }

abbrev slice_rest_binding_row : Judgement
slice_rest_binding_row = record { image = 0 ∷ 0 ∷ 0 ∷ 135 ∷ 1 ∷ 0 ∷ 2 ∷ 0 ∷ 0 ∷ 0 ∷ 6 ∷ 0 ∷ 3 ∷ 0 ∷ 3 ∷ 0 ∷ 0 ∷ 0 ∷ 1 ∷ 0 ∷ 1 ∷ 0 ∷ 0 ∷ 0 ∷ 0 ∷ 0 ∷ 1 ∷ 0 ∷ 9 ∷ 0 ∷ 0 ∷ 0 ∷ 0 ∷ 0 ∷ 0 ∷ 0 ∷ 0 ∷ 0 ∷ 1 ∷ 0 ∷ 1 ∷ 0 ∷ 0 ∷ 0 ∷ 0 ∷ 0 ∷ 0 ∷ 0 ∷ 0 ∷ 0 ∷ 0 ∷ 0 ∷ 11 ∷ 0 ∷ 1 ∷ 0 ∷ 0 ∷ 0 ∷ 0 ∷ 0 ∷ 0 ∷ 0 ∷ 1 ∷ 0 ∷ 0 ∷ 0 ∷ 3 ∷ 0 ∷ 0 ∷ 0 ∷ 0 ∷ 0 ∷ 0 ∷ 0 ∷ 0 ∷ 0 ∷ 0 ∷ 0 ∷ 0 ∷ 0 ∷ 11 ∷ 0 ∷ 0 ∷ 0 ∷ 0 ∷ 0 ∷ 1 ∷ 255 ∷ 255 ∷ 0 ∷ 0 ∷ 0 ∷ 0 ∷ 0 ∷ 11 ∷ 0 ∷ 0 ∷ 0 ∷ 0 ∷ 0 ∷ 2 ∷ 255 ∷ 255 ∷ 0 ∷ 0 ∷ 0 ∷ 0 ∷ 0 ∷ 8 ∷ 0 ∷ 1 ∷ 0 ∷ 0 ∷ 0 ∷ 0 ∷ 0 ∷ 1 ∷ 0 ∷ 2 ∷ 0 ∷ 1 ∷ 0 ∷ 1 ∷ 0 ∷ 1 ∷ 0 ∷ 0 ∷ 0 ∷ 1 ∷ 0 ∷ 0 ∷ 0 ∷ 1 ∷ 0 ∷ 2 ∷ 0 ∷ 3 ∷ 0 ∷ 4 ∷ []; holds = true; ty = 1; locals = (1 ∷ 2 ∷ 3 ∷ []); fit = true; tried = (matched (Slice (more (Int (pos 1)) (more (Int (pos 2)) (more (Int (pos 3)) (more (Int (pos 4)) no_more))))) (record { binding = 0; what = refers_to false (record { local = 0; elems = ((ProjectionElem.Subslice 1 2) ∷ []) }) } ∷ record { binding = 1; what = value (Int (pos 3)) } ∷ record { binding = 2; what = value (Int (pos 4)) } ∷ []) (to_then (refers_to false (record { local = 0; elems = ((ProjectionElem.Subslice 1 2) ∷ []) }) ∷ value (Int (pos 3)) ∷ value (Int (pos 4)) ∷ [])) ∷ matched (Slice (more (Int (pos 1)) (more (Int (pos 3)) (more (Int (pos 4)) no_more)))) (record { binding = 0; what = refers_to false (record { local = 0; elems = ((ProjectionElem.Subslice 1 2) ∷ []) }) } ∷ record { binding = 1; what = value (Int (pos 3)) } ∷ record { binding = 2; what = value (Int (pos 4)) } ∷ []) (to_then (refers_to false (record { local = 0; elems = ((ProjectionElem.Subslice 1 2) ∷ []) }) ∷ value (Int (pos 3)) ∷ value (Int (pos 4)) ∷ [])) ∷ unmatched (Slice (more (Int (pos 1)) (more (Int (pos 2)) no_more))) to_else ∷ []) }

abbrev array_rest_binding_row : Judgement
array_rest_binding_row = record { image = 0 ∷ 0 ∷ 0 ∷ 135 ∷ 1 ∷ 0 ∷ 2 ∷ 0 ∷ 0 ∷ 0 ∷ 6 ∷ 0 ∷ 3 ∷ 0 ∷ 3 ∷ 0 ∷ 0 ∷ 0 ∷ 1 ∷ 0 ∷ 1 ∷ 0 ∷ 0 ∷ 0 ∷ 0 ∷ 0 ∷ 1 ∷ 0 ∷ 8 ∷ 0 ∷ 0 ∷ 0 ∷ 5 ∷ 0 ∷ 0 ∷ 0 ∷ 0 ∷ 0 ∷ 1 ∷ 0 ∷ 1 ∷ 0 ∷ 0 ∷ 0 ∷ 0 ∷ 0 ∷ 0 ∷ 0 ∷ 0 ∷ 0 ∷ 0 ∷ 0 ∷ 11 ∷ 0 ∷ 1 ∷ 0 ∷ 0 ∷ 0 ∷ 0 ∷ 0 ∷ 0 ∷ 0 ∷ 1 ∷ 0 ∷ 0 ∷ 0 ∷ 3 ∷ 0 ∷ 0 ∷ 0 ∷ 0 ∷ 0 ∷ 0 ∷ 0 ∷ 0 ∷ 0 ∷ 0 ∷ 0 ∷ 0 ∷ 0 ∷ 11 ∷ 0 ∷ 0 ∷ 0 ∷ 0 ∷ 0 ∷ 1 ∷ 255 ∷ 255 ∷ 0 ∷ 0 ∷ 0 ∷ 0 ∷ 0 ∷ 11 ∷ 0 ∷ 0 ∷ 0 ∷ 0 ∷ 0 ∷ 2 ∷ 255 ∷ 255 ∷ 0 ∷ 0 ∷ 0 ∷ 0 ∷ 0 ∷ 8 ∷ 0 ∷ 1 ∷ 0 ∷ 0 ∷ 0 ∷ 0 ∷ 0 ∷ 1 ∷ 0 ∷ 2 ∷ 0 ∷ 1 ∷ 0 ∷ 1 ∷ 0 ∷ 1 ∷ 0 ∷ 0 ∷ 0 ∷ 1 ∷ 0 ∷ 0 ∷ 0 ∷ 1 ∷ 0 ∷ 2 ∷ 0 ∷ 3 ∷ 0 ∷ 4 ∷ []; holds = true; ty = 1; locals = (1 ∷ 2 ∷ 3 ∷ []); fit = true; tried = (matched (Array (more (Int (pos 1)) (more (Int (pos 2)) (more (Int (pos 3)) (more (Int (pos 4)) (more (Int (pos 5)) no_more)))))) (record { binding = 0; what = refers_to false (record { local = 0; elems = ((ProjectionElem.Subslice 1 2) ∷ []) }) } ∷ record { binding = 1; what = value (Int (pos 4)) } ∷ record { binding = 2; what = value (Int (pos 5)) } ∷ []) (to_then (refers_to false (record { local = 0; elems = ((ProjectionElem.Subslice 1 2) ∷ []) }) ∷ value (Int (pos 4)) ∷ value (Int (pos 5)) ∷ [])) ∷ []) }

abbrev last_two_row : Judgement
last_two_row = record { image = 0 ∷ 0 ∷ 0 ∷ 101 ∷ 1 ∷ 0 ∷ 2 ∷ 0 ∷ 0 ∷ 0 ∷ 4 ∷ 0 ∷ 2 ∷ 0 ∷ 2 ∷ 0 ∷ 0 ∷ 0 ∷ 1 ∷ 0 ∷ 1 ∷ 0 ∷ 0 ∷ 0 ∷ 0 ∷ 0 ∷ 1 ∷ 0 ∷ 9 ∷ 0 ∷ 0 ∷ 0 ∷ 0 ∷ 0 ∷ 0 ∷ 0 ∷ 0 ∷ 0 ∷ 11 ∷ 0 ∷ 0 ∷ 0 ∷ 0 ∷ 0 ∷ 0 ∷ 255 ∷ 255 ∷ 0 ∷ 0 ∷ 0 ∷ 0 ∷ 0 ∷ 11 ∷ 0 ∷ 0 ∷ 0 ∷ 0 ∷ 0 ∷ 1 ∷ 255 ∷ 255 ∷ 0 ∷ 0 ∷ 0 ∷ 0 ∷ 0 ∷ 1 ∷ 0 ∷ 1 ∷ 0 ∷ 0 ∷ 0 ∷ 0 ∷ 0 ∷ 0 ∷ 0 ∷ 0 ∷ 0 ∷ 0 ∷ 0 ∷ 8 ∷ 0 ∷ 1 ∷ 0 ∷ 0 ∷ 0 ∷ 0 ∷ 0 ∷ 0 ∷ 0 ∷ 2 ∷ 0 ∷ 2 ∷ 0 ∷ 0 ∷ 0 ∷ 1 ∷ 0 ∷ 0 ∷ 0 ∷ 1 ∷ 0 ∷ 0 ∷ 0 ∷ 1 ∷ []; holds = true; ty = 1; locals = (1 ∷ 2 ∷ []); fit = true; tried = (matched (Slice (more (Int (pos 1)) (more (Int (pos 2)) (more (Int (pos 3)) no_more)))) (record { binding = 0; what = value (Int (pos 2)) } ∷ record { binding = 1; what = value (Int (pos 3)) } ∷ []) (to_then (value (Int (pos 2)) ∷ value (Int (pos 3)) ∷ [])) ∷ matched (Slice (more (Int (pos 1)) (more (Int (pos 2)) no_more))) (record { binding = 0; what = value (Int (pos 1)) } ∷ record { binding = 1; what = value (Int (pos 2)) } ∷ []) (to_then (value (Int (pos 1)) ∷ value (Int (pos 2)) ∷ [])) ∷ unmatched (Slice (more (Int (pos 1)) no_more)) to_else ∷ []) }

abbrev suffix_three_row : Judgement
suffix_three_row = record { image = 0 ∷ 0 ∷ 0 ∷ 217 ∷ 1 ∷ 0 ∷ 2 ∷ 0 ∷ 0 ∷ 0 ∷ 6 ∷ 0 ∷ 1 ∷ 0 ∷ 16 ∷ 0 ∷ 64 ∷ 0 ∷ 1 ∷ 0 ∷ 1 ∷ 0 ∷ 0 ∷ 0 ∷ 0 ∷ 0 ∷ 1 ∷ 0 ∷ 9 ∷ 0 ∷ 0 ∷ 0 ∷ 0 ∷ 0 ∷ 0 ∷ 0 ∷ 0 ∷ 0 ∷ 10 ∷ 0 ∷ 0 ∷ 0 ∷ 0 ∷ 0 ∷ 0 ∷ 0 ∷ 0 ∷ 0 ∷ 0 ∷ 0 ∷ 0 ∷ 0 ∷ 10 ∷ 0 ∷ 0 ∷ 0 ∷ 0 ∷ 0 ∷ 3 ∷ 0 ∷ 0 ∷ 0 ∷ 0 ∷ 0 ∷ 0 ∷ 0 ∷ 11 ∷ 0 ∷ 0 ∷ 0 ∷ 0 ∷ 0 ∷ 0 ∷ 255 ∷ 255 ∷ 0 ∷ 0 ∷ 0 ∷ 0 ∷ 0 ∷ 7 ∷ 0 ∷ 0 ∷ 0 ∷ 0 ∷ 0 ∷ 6 ∷ 0 ∷ 9 ∷ 0 ∷ 1 ∷ 0 ∷ 0 ∷ 0 ∷ 1 ∷ 0 ∷ 1 ∷ 0 ∷ 0 ∷ 0 ∷ 0 ∷ 0 ∷ 0 ∷ 0 ∷ 0 ∷ 0 ∷ 0 ∷ 0 ∷ 8 ∷ 0 ∷ 1 ∷ 0 ∷ 0 ∷ 0 ∷ 12 ∷ 0 ∷ 1 ∷ 0 ∷ 3 ∷ 0 ∷ 4 ∷ 0 ∷ 0 ∷ 0 ∷ 1 ∷ 0 ∷ 1 ∷ 0 ∷ 0 ∷ 0 ∷ 16 ∷ 0 ∷ 1 ∷ 0 ∷ 16 ∷ 0 ∷ 16 ∷ 0 ∷ 1 ∷ 0 ∷ 32 ∷ 0 ∷ 16 ∷ 0 ∷ 1 ∷ 0 ∷ 48 ∷ 0 ∷ 16 ∷ 0 ∷ 0 ∷ 0 ∷ 1 ∷ 0 ∷ 2 ∷ 0 ∷ 3 ∷ 1 ∷ 0 ∷ 0 ∷ 0 ∷ 0 ∷ 0 ∷ 0 ∷ 0 ∷ 0 ∷ 0 ∷ 0 ∷ 0 ∷ 0 ∷ 0 ∷ 0 ∷ 0 ∷ 2 ∷ 0 ∷ 0 ∷ 0 ∷ 0 ∷ 0 ∷ 0 ∷ 0 ∷ 0 ∷ 0 ∷ 0 ∷ 0 ∷ 0 ∷ 0 ∷ 0 ∷ 0 ∷ 3 ∷ 0 ∷ 0 ∷ 0 ∷ 0 ∷ 0 ∷ 0 ∷ 0 ∷ 0 ∷ 0 ∷ 0 ∷ 0 ∷ 0 ∷ 0 ∷ 0 ∷ 0 ∷ 5 ∷ 0 ∷ 0 ∷ 0 ∷ 0 ∷ 0 ∷ 0 ∷ 0 ∷ 0 ∷ 0 ∷ 0 ∷ 0 ∷ 0 ∷ 0 ∷ 0 ∷ 0 ∷ []; holds = true; ty = 1; locals = (1 ∷ []); fit = true; tried = (matched (Slice (more (Int (pos 1)) (more (Int (pos 2)) (more (Int (pos 9)) (more (Int (pos 3)) no_more))))) (record { binding = 0; what = value (Int (pos 9)) } ∷ []) (to_then (value (Int (pos 9)) ∷ [])) ∷ matched (Slice (more (Int (pos 1)) (more (Int (pos 0)) (more (Int (pos 2)) (more (Int (pos 9)) (more (Int (pos 4)) no_more)))))) (record { binding = 0; what = value (Int (pos 9)) } ∷ []) (to_then (value (Int (pos 9)) ∷ [])) ∷ unmatched (Slice (more (Int (pos 1)) (more (Int (pos 2)) (more (Int (pos 9)) (more (Int (pos 5)) no_more))))) to_else ∷ unmatched (Slice (more (Int (pos 1)) (more (Int (pos 3)) (more (Int (pos 9)) (more (Int (pos 2)) no_more))))) to_else ∷ unmatched (Slice (more (Int (pos 2)) (more (Int (pos 9)) (more (Int (pos 3)) no_more)))) to_else ∷ []) }

abbrev suffix_in_suffix_row : Judgement
suffix_in_suffix_row = record { image = 0 ∷ 0 ∷ 0 ∷ 195 ∷ 1 ∷ 0 ∷ 3 ∷ 0 ∷ 0 ∷ 0 ∷ 8 ∷ 0 ∷ 2 ∷ 0 ∷ 8 ∷ 0 ∷ 16 ∷ 0 ∷ 1 ∷ 0 ∷ 1 ∷ 0 ∷ 0 ∷ 0 ∷ 0 ∷ 0 ∷ 1 ∷ 0 ∷ 8 ∷ 0 ∷ 0 ∷ 0 ∷ 4 ∷ 0 ∷ 0 ∷ 0 ∷ 1 ∷ 0 ∷ 8 ∷ 0 ∷ 1 ∷ 0 ∷ 3 ∷ 0 ∷ 0 ∷ 0 ∷ 1 ∷ 0 ∷ 11 ∷ 0 ∷ 0 ∷ 0 ∷ 0 ∷ 0 ∷ 0 ∷ 255 ∷ 255 ∷ 0 ∷ 0 ∷ 0 ∷ 0 ∷ 0 ∷ 10 ∷ 0 ∷ 0 ∷ 0 ∷ 0 ∷ 0 ∷ 0 ∷ 0 ∷ 0 ∷ 0 ∷ 0 ∷ 0 ∷ 0 ∷ 0 ∷ 11 ∷ 0 ∷ 0 ∷ 0 ∷ 0 ∷ 0 ∷ 1 ∷ 255 ∷ 255 ∷ 0 ∷ 0 ∷ 0 ∷ 0 ∷ 0 ∷ 1 ∷ 0 ∷ 1 ∷ 0 ∷ 0 ∷ 0 ∷ 0 ∷ 0 ∷ 0 ∷ 0 ∷ 0 ∷ 0 ∷ 0 ∷ 0 ∷ 8 ∷ 0 ∷ 1 ∷ 0 ∷ 0 ∷ 0 ∷ 3 ∷ 0 ∷ 0 ∷ 0 ∷ 3 ∷ 0 ∷ 3 ∷ 0 ∷ 3 ∷ 0 ∷ 1 ∷ 0 ∷ 0 ∷ 0 ∷ 0 ∷ 0 ∷ 0 ∷ 0 ∷ 0 ∷ 0 ∷ 0 ∷ 0 ∷ 1 ∷ 0 ∷ 2 ∷ 0 ∷ 0 ∷ 0 ∷ 0 ∷ 0 ∷ 0 ∷ 0 ∷ 0 ∷ 0 ∷ 0 ∷ 0 ∷ 8 ∷ 0 ∷ 2 ∷ 0 ∷ 0 ∷ 0 ∷ 6 ∷ 0 ∷ 0 ∷ 0 ∷ 2 ∷ 0 ∷ 6 ∷ 0 ∷ 0 ∷ 0 ∷ 1 ∷ 0 ∷ 0 ∷ 0 ∷ 1 ∷ 0 ∷ 1 ∷ 0 ∷ 0 ∷ 0 ∷ 16 ∷ 0 ∷ 0 ∷ 0 ∷ 1 ∷ 0 ∷ 2 ∷ 0 ∷ 4 ∷ 0 ∷ 5 ∷ 7 ∷ 0 ∷ 0 ∷ 0 ∷ 0 ∷ 0 ∷ 0 ∷ 0 ∷ 0 ∷ 0 ∷ 0 ∷ 0 ∷ 0 ∷ 0 ∷ 0 ∷ 0 ∷ []; holds = true; ty = 2; locals = (1 ∷ 2 ∷ []); fit = true; tried = (matched (Array (more (Array (more (Int (pos 0)) (more (Int (pos 0)) (more (Int (pos 0)) (more (Int (pos 0)) no_more))))) (more (Array (more (Int (pos 1)) (more (Int (pos 2)) (more (Int (pos 7)) (more (Int (pos 4)) no_more))))) (more (Array (more (Int (pos 0)) (more (Int (pos 0)) (more (Int (pos 0)) (more (Int (pos 0)) no_more))))) no_more)))) (record { binding = 0; what = value (Int (pos 2)) } ∷ record { binding = 1; what = value (Int (pos 4)) } ∷ []) (to_then (value (Int (pos 2)) ∷ value (Int (pos 4)) ∷ [])) ∷ unmatched (Array (more (Array (more (Int (pos 0)) (more (Int (pos 0)) (more (Int (pos 0)) (more (Int (pos 0)) no_more))))) (more (Array (more (Int (pos 1)) (more (Int (pos 7)) (more (Int (pos 2)) (more (Int (pos 4)) no_more))))) (more (Array (more (Int (pos 1)) (more (Int (pos 2)) (more (Int (pos 7)) (more (Int (pos 4)) no_more))))) no_more)))) to_else ∷ []) }

abbrev range_no_ends_row : Judgement
range_no_ends_row = record { image = 0 ∷ 0 ∷ 0 ∷ 37 ∷ 1 ∷ 0 ∷ 1 ∷ 0 ∷ 0 ∷ 0 ∷ 1 ∷ 0 ∷ 0 ∷ 0 ∷ 0 ∷ 0 ∷ 0 ∷ 0 ∷ 1 ∷ 0 ∷ 1 ∷ 0 ∷ 0 ∷ 0 ∷ 0 ∷ 0 ∷ 1 ∷ 0 ∷ 7 ∷ 0 ∷ 0 ∷ 0 ∷ 0 ∷ 255 ∷ 255 ∷ 255 ∷ 255 ∷ 0 ∷ 0 ∷ 0 ∷ 0 ∷ []; holds = true; ty = 0; locals = ([]); fit = false; tried = ([]) }

abbrev reference_row : Judgement
reference_row = record { image = 0 ∷ 0 ∷ 0 ∷ 65 ∷ 1 ∷ 0 ∷ 2 ∷ 0 ∷ 0 ∷ 0 ∷ 2 ∷ 0 ∷ 1 ∷ 0 ∷ 0 ∷ 0 ∷ 0 ∷ 0 ∷ 1 ∷ 0 ∷ 1 ∷ 0 ∷ 0 ∷ 0 ∷ 0 ∷ 0 ∷ 1 ∷ 0 ∷ 7 ∷ 0 ∷ 0 ∷ 0 ∷ 0 ∷ 0 ∷ 0 ∷ 0 ∷ 1 ∷ 0 ∷ 11 ∷ 0 ∷ 0 ∷ 0 ∷ 0 ∷ 0 ∷ 0 ∷ 255 ∷ 255 ∷ 0 ∷ 0 ∷ 0 ∷ 0 ∷ 0 ∷ 13 ∷ 0 ∷ 1 ∷ 0 ∷ 0 ∷ 0 ∷ 0 ∷ 0 ∷ 0 ∷ 0 ∷ 0 ∷ 0 ∷ 0 ∷ 0 ∷ 0 ∷ 0 ∷ 1 ∷ []; holds = true; ty = 1; locals = (1 ∷ []); fit = true; tried = (matched (Reference (Int (pos 5))) (record { binding = 0; what = value (Int (pos 5)) } ∷ []) (to_then (value (Int (pos 5)) ∷ [])) ∷ []) }

abbrev deref_1_row : Judgement
deref_1_row = record { image = 0 ∷ 0 ∷ 0 ∷ 69 ∷ 1 ∷ 0 ∷ 2 ∷ 0 ∷ 0 ∷ 0 ∷ 1 ∷ 0 ∷ 0 ∷ 0 ∷ 3 ∷ 0 ∷ 16 ∷ 0 ∷ 1 ∷ 0 ∷ 1 ∷ 0 ∷ 0 ∷ 0 ∷ 0 ∷ 0 ∷ 1 ∷ 0 ∷ 7 ∷ 0 ∷ 0 ∷ 0 ∷ 0 ∷ 0 ∷ 0 ∷ 0 ∷ 1 ∷ 0 ∷ 10 ∷ 0 ∷ 0 ∷ 0 ∷ 1 ∷ 0 ∷ 0 ∷ 0 ∷ 0 ∷ 0 ∷ 0 ∷ 0 ∷ 0 ∷ 0 ∷ 1 ∷ 0 ∷ 0 ∷ 0 ∷ 16 ∷ 1 ∷ 0 ∷ 0 ∷ 0 ∷ 0 ∷ 0 ∷ 0 ∷ 0 ∷ 0 ∷ 0 ∷ 0 ∷ 0 ∷ 0 ∷ 0 ∷ 0 ∷ 0 ∷ []; holds = true; ty = 1; locals = ([]); fit = true; tried = (matched (Reference (Int (pos 1))) ([]) (to_then ([])) ∷ unmatched (Reference (Int (pos 2))) to_else ∷ not_of_type (Int (pos 1)) ∷ []) }

abbrev missing_row : Judgement
missing_row = record { image = 0 ∷ 0 ∷ 0 ∷ 69 ∷ 1 ∷ 0 ∷ 2 ∷ 0 ∷ 0 ∷ 0 ∷ 2 ∷ 0 ∷ 1 ∷ 0 ∷ 2 ∷ 0 ∷ 0 ∷ 0 ∷ 1 ∷ 0 ∷ 1 ∷ 0 ∷ 0 ∷ 0 ∷ 0 ∷ 0 ∷ 1 ∷ 0 ∷ 5 ∷ 0 ∷ 0 ∷ 0 ∷ 1 ∷ 0 ∷ 0 ∷ 0 ∷ 1 ∷ 0 ∷ 0 ∷ 0 ∷ 0 ∷ 0 ∷ 0 ∷ 0 ∷ 0 ∷ 0 ∷ 0 ∷ 0 ∷ 0 ∷ 0 ∷ 0 ∷ 0 ∷ 4 ∷ 0 ∷ 1 ∷ 0 ∷ 0 ∷ 0 ∷ 1 ∷ 0 ∷ 1 ∷ 255 ∷ 255 ∷ 0 ∷ 0 ∷ 0 ∷ 0 ∷ 0 ∷ 1 ∷ 0 ∷ 0 ∷ 0 ∷ 0 ∷ []; holds = true; ty = 1; locals = (1 ∷ []); fit = false; tried = ([]) }

abbrev rest_row : Judgement
rest_row = record { image = 0 ∷ 0 ∷ 0 ∷ 69 ∷ 1 ∷ 0 ∷ 2 ∷ 0 ∷ 0 ∷ 0 ∷ 2 ∷ 0 ∷ 1 ∷ 0 ∷ 2 ∷ 0 ∷ 0 ∷ 0 ∷ 1 ∷ 0 ∷ 1 ∷ 0 ∷ 0 ∷ 0 ∷ 0 ∷ 0 ∷ 1 ∷ 0 ∷ 5 ∷ 0 ∷ 0 ∷ 0 ∷ 1 ∷ 0 ∷ 0 ∷ 0 ∷ 1 ∷ 0 ∷ 1 ∷ 0 ∷ 0 ∷ 0 ∷ 0 ∷ 0 ∷ 0 ∷ 0 ∷ 0 ∷ 0 ∷ 0 ∷ 0 ∷ 0 ∷ 0 ∷ 4 ∷ 0 ∷ 1 ∷ 0 ∷ 0 ∷ 0 ∷ 1 ∷ 0 ∷ 1 ∷ 255 ∷ 255 ∷ 0 ∷ 0 ∷ 0 ∷ 0 ∷ 0 ∷ 1 ∷ 0 ∷ 0 ∷ 0 ∷ 0 ∷ []; holds = true; ty = 1; locals = (1 ∷ []); fit = false; tried = ([]) }

abbrev not_null_row : Judgement
not_null_row = record { image = 0 ∷ 0 ∷ 0 ∷ 69 ∷ 1 ∷ 0 ∷ 2 ∷ 0 ∷ 0 ∷ 0 ∷ 2 ∷ 0 ∷ 1 ∷ 0 ∷ 2 ∷ 0 ∷ 0 ∷ 0 ∷ 1 ∷ 0 ∷ 1 ∷ 0 ∷ 0 ∷ 0 ∷ 0 ∷ 0 ∷ 1 ∷ 0 ∷ 5 ∷ 0 ∷ 0 ∷ 0 ∷ 1 ∷ 0 ∷ 0 ∷ 0 ∷ 1 ∷ 0 ∷ 2 ∷ 0 ∷ 0 ∷ 0 ∷ 0 ∷ 0 ∷ 0 ∷ 0 ∷ 0 ∷ 0 ∷ 0 ∷ 0 ∷ 0 ∷ 0 ∷ 4 ∷ 0 ∷ 1 ∷ 0 ∷ 0 ∷ 0 ∷ 1 ∷ 0 ∷ 1 ∷ 255 ∷ 255 ∷ 0 ∷ 0 ∷ 0 ∷ 0 ∷ 0 ∷ 1 ∷ 0 ∷ 0 ∷ 0 ∷ 0 ∷ []; holds = true; ty = 1; locals = (1 ∷ []); fit = false; tried = ([]) }

abbrev expr_row : Judgement
expr_row = record { image = 0 ∷ 0 ∷ 0 ∷ 69 ∷ 1 ∷ 0 ∷ 2 ∷ 0 ∷ 0 ∷ 0 ∷ 2 ∷ 0 ∷ 1 ∷ 0 ∷ 2 ∷ 0 ∷ 0 ∷ 0 ∷ 1 ∷ 0 ∷ 1 ∷ 0 ∷ 0 ∷ 0 ∷ 0 ∷ 0 ∷ 1 ∷ 0 ∷ 5 ∷ 0 ∷ 0 ∷ 0 ∷ 1 ∷ 0 ∷ 0 ∷ 0 ∷ 1 ∷ 0 ∷ 14 ∷ 0 ∷ 0 ∷ 0 ∷ 0 ∷ 0 ∷ 0 ∷ 0 ∷ 0 ∷ 0 ∷ 0 ∷ 0 ∷ 0 ∷ 0 ∷ 4 ∷ 0 ∷ 1 ∷ 0 ∷ 0 ∷ 0 ∷ 1 ∷ 0 ∷ 1 ∷ 255 ∷ 255 ∷ 0 ∷ 0 ∷ 0 ∷ 0 ∷ 0 ∷ 1 ∷ 0 ∷ 0 ∷ 0 ∷ 0 ∷ []; holds = true; ty = 1; locals = (1 ∷ []); fit = false; tried = ([]) }

abbrev box_row : Judgement
box_row = record { image = 0 ∷ 0 ∷ 0 ∷ 69 ∷ 1 ∷ 0 ∷ 2 ∷ 0 ∷ 0 ∷ 0 ∷ 2 ∷ 0 ∷ 1 ∷ 0 ∷ 2 ∷ 0 ∷ 0 ∷ 0 ∷ 1 ∷ 0 ∷ 1 ∷ 0 ∷ 0 ∷ 0 ∷ 0 ∷ 0 ∷ 1 ∷ 0 ∷ 5 ∷ 0 ∷ 0 ∷ 0 ∷ 1 ∷ 0 ∷ 0 ∷ 0 ∷ 1 ∷ 0 ∷ 15 ∷ 0 ∷ 0 ∷ 0 ∷ 0 ∷ 0 ∷ 0 ∷ 0 ∷ 0 ∷ 0 ∷ 0 ∷ 0 ∷ 0 ∷ 0 ∷ 4 ∷ 0 ∷ 1 ∷ 0 ∷ 0 ∷ 0 ∷ 1 ∷ 0 ∷ 1 ∷ 255 ∷ 255 ∷ 0 ∷ 0 ∷ 0 ∷ 0 ∷ 0 ∷ 1 ∷ 0 ∷ 0 ∷ 0 ∷ 0 ∷ []; holds = true; ty = 1; locals = (1 ∷ []); fit = false; tried = ([]) }

abbrev deref_row : Judgement
deref_row = record { image = 0 ∷ 0 ∷ 0 ∷ 69 ∷ 1 ∷ 0 ∷ 2 ∷ 0 ∷ 0 ∷ 0 ∷ 2 ∷ 0 ∷ 1 ∷ 0 ∷ 2 ∷ 0 ∷ 0 ∷ 0 ∷ 1 ∷ 0 ∷ 1 ∷ 0 ∷ 0 ∷ 0 ∷ 0 ∷ 0 ∷ 1 ∷ 0 ∷ 5 ∷ 0 ∷ 0 ∷ 0 ∷ 1 ∷ 0 ∷ 0 ∷ 0 ∷ 1 ∷ 0 ∷ 16 ∷ 0 ∷ 0 ∷ 0 ∷ 0 ∷ 0 ∷ 0 ∷ 0 ∷ 0 ∷ 0 ∷ 0 ∷ 0 ∷ 0 ∷ 0 ∷ 4 ∷ 0 ∷ 1 ∷ 0 ∷ 0 ∷ 0 ∷ 1 ∷ 0 ∷ 1 ∷ 255 ∷ 255 ∷ 0 ∷ 0 ∷ 0 ∷ 0 ∷ 0 ∷ 1 ∷ 0 ∷ 0 ∷ 0 ∷ 0 ∷ []; holds = true; ty = 1; locals = (1 ∷ []); fit = false; tried = ([]) }

abbrev unresolved_row : Judgement
unresolved_row = record { image = 0 ∷ 0 ∷ 0 ∷ 69 ∷ 1 ∷ 0 ∷ 2 ∷ 0 ∷ 0 ∷ 0 ∷ 2 ∷ 0 ∷ 1 ∷ 0 ∷ 2 ∷ 0 ∷ 0 ∷ 0 ∷ 1 ∷ 0 ∷ 1 ∷ 0 ∷ 0 ∷ 0 ∷ 0 ∷ 0 ∷ 1 ∷ 0 ∷ 5 ∷ 0 ∷ 0 ∷ 0 ∷ 1 ∷ 0 ∷ 0 ∷ 0 ∷ 1 ∷ 0 ∷ 9 ∷ 0 ∷ 0 ∷ 0 ∷ 0 ∷ 0 ∷ 0 ∷ 0 ∷ 0 ∷ 0 ∷ 0 ∷ 0 ∷ 0 ∷ 0 ∷ 4 ∷ 0 ∷ 1 ∷ 0 ∷ 0 ∷ 0 ∷ 1 ∷ 0 ∷ 1 ∷ 255 ∷ 255 ∷ 0 ∷ 0 ∷ 0 ∷ 0 ∷ 0 ∷ 1 ∷ 0 ∷ 0 ∷ 0 ∷ 0 ∷ []; holds = true; ty = 1; locals = (1 ∷ []); fit = false; tried = ([]) }

abbrev path_other_row : Judgement
path_other_row = record { image = 0 ∷ 0 ∷ 0 ∷ 69 ∷ 1 ∷ 0 ∷ 2 ∷ 0 ∷ 0 ∷ 0 ∷ 2 ∷ 0 ∷ 1 ∷ 0 ∷ 2 ∷ 0 ∷ 0 ∷ 0 ∷ 1 ∷ 0 ∷ 1 ∷ 0 ∷ 0 ∷ 0 ∷ 0 ∷ 0 ∷ 1 ∷ 0 ∷ 5 ∷ 0 ∷ 0 ∷ 0 ∷ 1 ∷ 0 ∷ 0 ∷ 0 ∷ 1 ∷ 0 ∷ 9 ∷ 0 ∷ 0 ∷ 0 ∷ 0 ∷ 0 ∷ 4 ∷ 0 ∷ 0 ∷ 0 ∷ 0 ∷ 0 ∷ 0 ∷ 0 ∷ 4 ∷ 0 ∷ 1 ∷ 0 ∷ 0 ∷ 0 ∷ 1 ∷ 0 ∷ 1 ∷ 255 ∷ 255 ∷ 0 ∷ 0 ∷ 0 ∷ 0 ∷ 0 ∷ 1 ∷ 0 ∷ 0 ∷ 0 ∷ 0 ∷ []; holds = true; ty = 1; locals = (1 ∷ []); fit = false; tried = ([]) }

abbrev path_binding_row : Judgement
path_binding_row = record { image = 0 ∷ 0 ∷ 0 ∷ 69 ∷ 1 ∷ 0 ∷ 2 ∷ 0 ∷ 0 ∷ 0 ∷ 2 ∷ 0 ∷ 1 ∷ 0 ∷ 2 ∷ 0 ∷ 0 ∷ 0 ∷ 1 ∷ 0 ∷ 1 ∷ 0 ∷ 0 ∷ 0 ∷ 0 ∷ 0 ∷ 1 ∷ 0 ∷ 5 ∷ 0 ∷ 0 ∷ 0 ∷ 1 ∷ 0 ∷ 0 ∷ 0 ∷ 1 ∷ 0 ∷ 9 ∷ 0 ∷ 0 ∷ 0 ∷ 0 ∷ 0 ∷ 2 ∷ 0 ∷ 0 ∷ 0 ∷ 0 ∷ 0 ∷ 0 ∷ 0 ∷ 4 ∷ 0 ∷ 1 ∷ 0 ∷ 0 ∷ 0 ∷ 1 ∷ 0 ∷ 1 ∷ 255 ∷ 255 ∷ 0 ∷ 0 ∷ 0 ∷ 0 ∷ 0 ∷ 1 ∷ 0 ∷ 0 ∷ 0 ∷ 0 ∷ []; holds = true; ty = 1; locals = (1 ∷ []); fit = false; tried = ([]) }

abbrev lit_float_row : Judgement
lit_float_row = record { image = 0 ∷ 0 ∷ 0 ∷ 47 ∷ 1 ∷ 0 ∷ 1 ∷ 0 ∷ 0 ∷ 0 ∷ 1 ∷ 0 ∷ 0 ∷ 0 ∷ 3 ∷ 0 ∷ 4 ∷ 0 ∷ 1 ∷ 0 ∷ 1 ∷ 0 ∷ 0 ∷ 0 ∷ 0 ∷ 0 ∷ 1 ∷ 0 ∷ 10 ∷ 0 ∷ 0 ∷ 0 ∷ 0 ∷ 0 ∷ 0 ∷ 0 ∷ 0 ∷ 0 ∷ 0 ∷ 0 ∷ 0 ∷ 0 ∷ 9 ∷ 0 ∷ 0 ∷ 0 ∷ 4 ∷ 0 ∷ 0 ∷ 0 ∷ 0 ∷ []; holds = true; ty = 0; locals = ([]); fit = false; tried = ([]) }

abbrev lit_other_row : Judgement
lit_other_row = record { image = 0 ∷ 0 ∷ 0 ∷ 43 ∷ 1 ∷ 0 ∷ 1 ∷ 0 ∷ 0 ∷ 0 ∷ 1 ∷ 0 ∷ 0 ∷ 0 ∷ 3 ∷ 0 ∷ 0 ∷ 0 ∷ 1 ∷ 0 ∷ 1 ∷ 0 ∷ 0 ∷ 0 ∷ 0 ∷ 0 ∷ 1 ∷ 0 ∷ 10 ∷ 0 ∷ 0 ∷ 0 ∷ 0 ∷ 0 ∷ 0 ∷ 0 ∷ 0 ∷ 0 ∷ 0 ∷ 0 ∷ 0 ∷ 0 ∷ 10 ∷ 0 ∷ 0 ∷ 0 ∷ 0 ∷ []; holds = true; ty = 0; locals = ([]); fit = false; tried = ([]) }

abbrev bind_value_row : Judgement
bind_value_row = record { image = 0 ∷ 0 ∷ 0 ∷ 41 ∷ 1 ∷ 0 ∷ 1 ∷ 0 ∷ 0 ∷ 0 ∷ 1 ∷ 0 ∷ 1 ∷ 0 ∷ 0 ∷ 0 ∷ 0 ∷ 0 ∷ 1 ∷ 0 ∷ 1 ∷ 0 ∷ 0 ∷ 0 ∷ 0 ∷ 0 ∷ 1 ∷ 0 ∷ 11 ∷ 0 ∷ 0 ∷ 0 ∷ 0 ∷ 0 ∷ 0 ∷ 255 ∷ 255 ∷ 0 ∷ 0 ∷ 0 ∷ 0 ∷ 0 ∷ 0 ∷ 0 ∷ 1 ∷ []; holds = true; ty = 0; locals = (1 ∷ []); fit = true; tried = (matched (Int (pos 9)) (record { binding = 0; what = value (Int (pos 9)) } ∷ []) (to_then (value (Int (pos 9)) ∷ [])) ∷ []) }

abbrev bind_ref_row : Judgement
bind_ref_row = record { image = 0 ∷ 0 ∷ 0 ∷ 41 ∷ 1 ∷ 0 ∷ 1 ∷ 0 ∷ 0 ∷ 0 ∷ 1 ∷ 0 ∷ 1 ∷ 0 ∷ 0 ∷ 0 ∷ 0 ∷ 0 ∷ 1 ∷ 0 ∷ 1 ∷ 0 ∷ 0 ∷ 0 ∷ 0 ∷ 0 ∷ 1 ∷ 0 ∷ 11 ∷ 0 ∷ 0 ∷ 0 ∷ 0 ∷ 0 ∷ 0 ∷ 255 ∷ 255 ∷ 0 ∷ 1 ∷ 0 ∷ 0 ∷ 0 ∷ 0 ∷ 0 ∷ 1 ∷ []; holds = true; ty = 0; locals = (1 ∷ []); fit = true; tried = (matched (Int (pos 9)) (record { binding = 0; what = refers_to false (record { local = 0; elems = ([]) }) } ∷ []) (to_then (refers_to false (record { local = 0; elems = ([]) }) ∷ [])) ∷ []) }

abbrev bind_over_row : Judgement
bind_over_row = record { image = 0 ∷ 0 ∷ 0 ∷ 99 ∷ 1 ∷ 0 ∷ 1 ∷ 0 ∷ 0 ∷ 0 ∷ 2 ∷ 0 ∷ 1 ∷ 0 ∷ 6 ∷ 0 ∷ 32 ∷ 0 ∷ 1 ∷ 0 ∷ 1 ∷ 0 ∷ 0 ∷ 0 ∷ 0 ∷ 0 ∷ 1 ∷ 0 ∷ 7 ∷ 0 ∷ 0 ∷ 0 ∷ 0 ∷ 0 ∷ 0 ∷ 0 ∷ 3 ∷ 0 ∷ 0 ∷ 0 ∷ 0 ∷ 0 ∷ 11 ∷ 0 ∷ 0 ∷ 0 ∷ 0 ∷ 0 ∷ 0 ∷ 0 ∷ 0 ∷ 0 ∷ 0 ∷ 0 ∷ 0 ∷ 0 ∷ 0 ∷ 0 ∷ 1 ∷ 0 ∷ 1 ∷ 0 ∷ 0 ∷ 0 ∷ 16 ∷ 0 ∷ 1 ∷ 0 ∷ 16 ∷ 0 ∷ 16 ∷ 1 ∷ 0 ∷ 0 ∷ 0 ∷ 0 ∷ 0 ∷ 0 ∷ 0 ∷ 0 ∷ 0 ∷ 0 ∷ 0 ∷ 0 ∷ 0 ∷ 0 ∷ 0 ∷ 3 ∷ 0 ∷ 0 ∷ 0 ∷ 0 ∷ 0 ∷ 0 ∷ 0 ∷ 0 ∷ 0 ∷ 0 ∷ 0 ∷ 0 ∷ 0 ∷ 0 ∷ 0 ∷ []; holds = true; ty = 0; locals = (1 ∷ []); fit = true; tried = (matched (Int (pos 2)) (record { binding = 0; what = value (Int (pos 2)) } ∷ []) (to_then (value (Int (pos 2)) ∷ [])) ∷ unmatched (Int (pos 4)) to_else ∷ []) }

abbrev literal_true_row : Judgement
literal_true_row = record { image = 0 ∷ 0 ∷ 0 ∷ 44 ∷ 1 ∷ 0 ∷ 1 ∷ 0 ∷ 0 ∷ 0 ∷ 1 ∷ 0 ∷ 0 ∷ 0 ∷ 3 ∷ 0 ∷ 1 ∷ 0 ∷ 2 ∷ 0 ∷ 0 ∷ 0 ∷ 0 ∷ 0 ∷ 0 ∷ 0 ∷ 1 ∷ 0 ∷ 10 ∷ 0 ∷ 0 ∷ 0 ∷ 0 ∷ 0 ∷ 0 ∷ 0 ∷ 0 ∷ 0 ∷ 0 ∷ 0 ∷ 0 ∷ 0 ∷ 4 ∷ 0 ∷ 0 ∷ 0 ∷ 1 ∷ 1 ∷ []; holds = true; ty = 0; locals = ([]); fit = true; tried = (matched (Bool' true) ([]) (to_then ([])) ∷ unmatched (Bool' false) to_else ∷ not_of_type (Int (pos 1)) ∷ []) }

abbrev literal_false_row : Judgement
literal_false_row = record { image = 0 ∷ 0 ∷ 0 ∷ 44 ∷ 1 ∷ 0 ∷ 1 ∷ 0 ∷ 0 ∷ 0 ∷ 1 ∷ 0 ∷ 0 ∷ 0 ∷ 3 ∷ 0 ∷ 1 ∷ 0 ∷ 2 ∷ 0 ∷ 0 ∷ 0 ∷ 0 ∷ 0 ∷ 0 ∷ 0 ∷ 1 ∷ 0 ∷ 10 ∷ 0 ∷ 0 ∷ 0 ∷ 0 ∷ 0 ∷ 0 ∷ 0 ∷ 0 ∷ 0 ∷ 0 ∷ 0 ∷ 0 ∷ 0 ∷ 4 ∷ 0 ∷ 0 ∷ 0 ∷ 1 ∷ 0 ∷ []; holds = true; ty = 0; locals = ([]); fit = true; tried = (matched (Bool' false) ([]) (to_then ([])) ∷ unmatched (Bool' true) to_else ∷ []) }

abbrev literal_char_row : Judgement
literal_char_row = record { image = 0 ∷ 0 ∷ 0 ∷ 47 ∷ 1 ∷ 0 ∷ 1 ∷ 0 ∷ 0 ∷ 0 ∷ 1 ∷ 0 ∷ 0 ∷ 0 ∷ 3 ∷ 0 ∷ 4 ∷ 0 ∷ 3 ∷ 0 ∷ 0 ∷ 0 ∷ 0 ∷ 0 ∷ 0 ∷ 0 ∷ 1 ∷ 0 ∷ 10 ∷ 0 ∷ 0 ∷ 0 ∷ 0 ∷ 0 ∷ 0 ∷ 0 ∷ 0 ∷ 0 ∷ 0 ∷ 0 ∷ 0 ∷ 0 ∷ 3 ∷ 0 ∷ 0 ∷ 0 ∷ 4 ∷ 97 ∷ 0 ∷ 0 ∷ 0 ∷ []; holds = true; ty = 0; locals = ([]); fit = true; tried = (matched (Char 97) ([]) (to_then ([])) ∷ unmatched (Char 98) to_else ∷ not_of_type (Char 55296) ∷ not_of_type (Int (pos 97)) ∷ []) }

abbrev literal_negative_row : Judgement
literal_negative_row = record { image = 0 ∷ 0 ∷ 0 ∷ 59 ∷ 1 ∷ 0 ∷ 1 ∷ 0 ∷ 0 ∷ 0 ∷ 1 ∷ 0 ∷ 0 ∷ 0 ∷ 3 ∷ 0 ∷ 16 ∷ 0 ∷ 1 ∷ 0 ∷ 1 ∷ 0 ∷ 1 ∷ 0 ∷ 0 ∷ 0 ∷ 1 ∷ 0 ∷ 10 ∷ 0 ∷ 0 ∷ 0 ∷ 0 ∷ 0 ∷ 0 ∷ 0 ∷ 0 ∷ 0 ∷ 0 ∷ 0 ∷ 0 ∷ 0 ∷ 1 ∷ 0 ∷ 0 ∷ 0 ∷ 16 ∷ 255 ∷ 255 ∷ 255 ∷ 255 ∷ 255 ∷ 255 ∷ 255 ∷ 255 ∷ 255 ∷ 255 ∷ 255 ∷ 255 ∷ 255 ∷ 255 ∷ 255 ∷ 255 ∷ []; holds = true; ty = 0; locals = ([]); fit = true; tried = (matched (Int (negsuc 0)) ([]) (to_then ([])) ∷ unmatched (Int (pos 1)) to_else ∷ unmatched (Int (pos 0)) to_else ∷ not_of_type (Int (pos 255)) ∷ []) }

abbrev empty_string_row : Judgement
empty_string_row = record { image = 0 ∷ 0 ∷ 0 ∷ 53 ∷ 1 ∷ 0 ∷ 2 ∷ 0 ∷ 0 ∷ 0 ∷ 1 ∷ 0 ∷ 0 ∷ 0 ∷ 3 ∷ 0 ∷ 0 ∷ 0 ∷ 4 ∷ 0 ∷ 0 ∷ 0 ∷ 0 ∷ 0 ∷ 0 ∷ 0 ∷ 0 ∷ 0 ∷ 7 ∷ 0 ∷ 0 ∷ 0 ∷ 0 ∷ 0 ∷ 0 ∷ 0 ∷ 1 ∷ 0 ∷ 10 ∷ 0 ∷ 1 ∷ 0 ∷ 0 ∷ 0 ∷ 0 ∷ 0 ∷ 0 ∷ 0 ∷ 0 ∷ 0 ∷ 0 ∷ 0 ∷ 5 ∷ 0 ∷ 0 ∷ 0 ∷ 0 ∷ []; holds = true; ty = 1; locals = ([]); fit = true; tried = (matched (Reference (Str ([]))) ([]) (to_then ([])) ∷ unmatched (Reference (Str (97 ∷ []))) to_else ∷ []) }

abbrev negative_range_row : Judgement
negative_range_row = record { image = 0 ∷ 0 ∷ 0 ∷ 81 ∷ 1 ∷ 0 ∷ 1 ∷ 0 ∷ 0 ∷ 0 ∷ 1 ∷ 0 ∷ 0 ∷ 0 ∷ 6 ∷ 0 ∷ 32 ∷ 0 ∷ 1 ∷ 0 ∷ 1 ∷ 0 ∷ 1 ∷ 0 ∷ 0 ∷ 0 ∷ 1 ∷ 0 ∷ 7 ∷ 0 ∷ 0 ∷ 0 ∷ 0 ∷ 0 ∷ 0 ∷ 0 ∷ 3 ∷ 0 ∷ 0 ∷ 0 ∷ 0 ∷ 0 ∷ 1 ∷ 0 ∷ 0 ∷ 0 ∷ 16 ∷ 0 ∷ 1 ∷ 0 ∷ 16 ∷ 0 ∷ 16 ∷ 253 ∷ 255 ∷ 255 ∷ 255 ∷ 255 ∷ 255 ∷ 255 ∷ 255 ∷ 255 ∷ 255 ∷ 255 ∷ 255 ∷ 255 ∷ 255 ∷ 255 ∷ 255 ∷ 255 ∷ 255 ∷ 255 ∷ 255 ∷ 255 ∷ 255 ∷ 255 ∷ 255 ∷ 255 ∷ 255 ∷ 255 ∷ 255 ∷ 255 ∷ 255 ∷ 255 ∷ 255 ∷ []; holds = true; ty = 0; locals = ([]); fit = true; tried = (unmatched (Int (negsuc 3)) to_else ∷ matched (Int (negsuc 2)) ([]) (to_then ([])) ∷ matched (Int (negsuc 0)) ([]) (to_then ([])) ∷ unmatched (Int (pos 0)) to_else ∷ unmatched (Int (pos 3)) to_else ∷ []) }

abbrev range_over_zero_row : Judgement
range_over_zero_row = record { image = 0 ∷ 0 ∷ 0 ∷ 81 ∷ 1 ∷ 0 ∷ 1 ∷ 0 ∷ 0 ∷ 0 ∷ 1 ∷ 0 ∷ 0 ∷ 0 ∷ 6 ∷ 0 ∷ 32 ∷ 0 ∷ 1 ∷ 0 ∷ 1 ∷ 0 ∷ 1 ∷ 0 ∷ 0 ∷ 0 ∷ 1 ∷ 0 ∷ 7 ∷ 0 ∷ 0 ∷ 0 ∷ 0 ∷ 0 ∷ 0 ∷ 0 ∷ 3 ∷ 0 ∷ 0 ∷ 0 ∷ 0 ∷ 0 ∷ 1 ∷ 0 ∷ 0 ∷ 0 ∷ 16 ∷ 0 ∷ 1 ∷ 0 ∷ 16 ∷ 0 ∷ 16 ∷ 255 ∷ 255 ∷ 255 ∷ 255 ∷ 255 ∷ 255 ∷ 255 ∷ 255 ∷ 255 ∷ 255 ∷ 255 ∷ 255 ∷ 255 ∷ 255 ∷ 255 ∷ 255 ∷ 1 ∷ 0 ∷ 0 ∷ 0 ∷ 0 ∷ 0 ∷ 0 ∷ 0 ∷ 0 ∷ 0 ∷ 0 ∷ 0 ∷ 0 ∷ 0 ∷ 0 ∷ 0 ∷ []; holds = true; ty = 0; locals = ([]); fit = true; tried = (unmatched (Int (negsuc 1)) to_else ∷ matched (Int (negsuc 0)) ([]) (to_then ([])) ∷ matched (Int (pos 0)) ([]) (to_then ([])) ∷ matched (Int (pos 1)) ([]) (to_then ([])) ∷ unmatched (Int (pos 2)) to_else ∷ []) }

abbrev char_range_row : Judgement
char_range_row = record { image = 0 ∷ 0 ∷ 0 ∷ 57 ∷ 1 ∷ 0 ∷ 1 ∷ 0 ∷ 0 ∷ 0 ∷ 1 ∷ 0 ∷ 0 ∷ 0 ∷ 6 ∷ 0 ∷ 8 ∷ 0 ∷ 3 ∷ 0 ∷ 0 ∷ 0 ∷ 0 ∷ 0 ∷ 0 ∷ 0 ∷ 1 ∷ 0 ∷ 7 ∷ 0 ∷ 0 ∷ 0 ∷ 0 ∷ 0 ∷ 0 ∷ 0 ∷ 3 ∷ 0 ∷ 0 ∷ 0 ∷ 0 ∷ 0 ∷ 3 ∷ 0 ∷ 0 ∷ 0 ∷ 4 ∷ 0 ∷ 3 ∷ 0 ∷ 4 ∷ 0 ∷ 4 ∷ 98 ∷ 0 ∷ 0 ∷ 0 ∷ 100 ∷ 0 ∷ 0 ∷ 0 ∷ []; holds = true; ty = 0; locals = ([]); fit = true; tried = (unmatched (Char 97) to_else ∷ matched (Char 98) ([]) (to_then ([])) ∷ matched (Char 100) ([]) (to_then ([])) ∷ unmatched (Char 101) to_else ∷ []) }

abbrev range_to_row : Judgement
range_to_row = record { image = 0 ∷ 0 ∷ 0 ∷ 59 ∷ 1 ∷ 0 ∷ 1 ∷ 0 ∷ 0 ∷ 0 ∷ 1 ∷ 0 ∷ 0 ∷ 0 ∷ 3 ∷ 0 ∷ 16 ∷ 0 ∷ 1 ∷ 0 ∷ 1 ∷ 0 ∷ 0 ∷ 0 ∷ 0 ∷ 0 ∷ 1 ∷ 0 ∷ 7 ∷ 0 ∷ 0 ∷ 0 ∷ 0 ∷ 255 ∷ 255 ∷ 0 ∷ 0 ∷ 0 ∷ 0 ∷ 0 ∷ 0 ∷ 0 ∷ 1 ∷ 0 ∷ 0 ∷ 0 ∷ 16 ∷ 3 ∷ 0 ∷ 0 ∷ 0 ∷ 0 ∷ 0 ∷ 0 ∷ 0 ∷ 0 ∷ 0 ∷ 0 ∷ 0 ∷ 0 ∷ 0 ∷ 0 ∷ 0 ∷ []; holds = true; ty = 0; locals = ([]); fit = true; tried = (matched (Int (pos 0)) ([]) (to_then ([])) ∷ matched (Int (pos 3)) ([]) (to_then ([])) ∷ unmatched (Int (pos 4)) to_else ∷ []) }

abbrev range_below_least_row : Judgement
range_below_least_row = record { image = 0 ∷ 0 ∷ 0 ∷ 59 ∷ 1 ∷ 0 ∷ 1 ∷ 0 ∷ 0 ∷ 0 ∷ 1 ∷ 0 ∷ 0 ∷ 0 ∷ 3 ∷ 0 ∷ 16 ∷ 0 ∷ 1 ∷ 0 ∷ 1 ∷ 0 ∷ 1 ∷ 0 ∷ 0 ∷ 0 ∷ 1 ∷ 0 ∷ 7 ∷ 0 ∷ 0 ∷ 0 ∷ 0 ∷ 255 ∷ 255 ∷ 0 ∷ 0 ∷ 0 ∷ 1 ∷ 0 ∷ 0 ∷ 0 ∷ 1 ∷ 0 ∷ 0 ∷ 0 ∷ 16 ∷ 128 ∷ 255 ∷ 255 ∷ 255 ∷ 255 ∷ 255 ∷ 255 ∷ 255 ∷ 255 ∷ 255 ∷ 255 ∷ 255 ∷ 255 ∷ 255 ∷ 255 ∷ 255 ∷ []; holds = true; ty = 0; locals = ([]); fit = true; tried = (unmatched (Int (negsuc 127)) to_else ∷ unmatched (Int (pos 127)) to_else ∷ []) }

abbrev half_open_over_zero_row : Judgement
half_open_over_zero_row = record { image = 0 ∷ 0 ∷ 0 ∷ 81 ∷ 1 ∷ 0 ∷ 1 ∷ 0 ∷ 0 ∷ 0 ∷ 1 ∷ 0 ∷ 0 ∷ 0 ∷ 6 ∷ 0 ∷ 32 ∷ 0 ∷ 1 ∷ 0 ∷ 1 ∷ 0 ∷ 1 ∷ 0 ∷ 0 ∷ 0 ∷ 1 ∷ 0 ∷ 7 ∷ 0 ∷ 0 ∷ 0 ∷ 0 ∷ 0 ∷ 0 ∷ 0 ∷ 3 ∷ 0 ∷ 1 ∷ 0 ∷ 0 ∷ 0 ∷ 1 ∷ 0 ∷ 0 ∷ 0 ∷ 16 ∷ 0 ∷ 1 ∷ 0 ∷ 16 ∷ 0 ∷ 16 ∷ 255 ∷ 255 ∷ 255 ∷ 255 ∷ 255 ∷ 255 ∷ 255 ∷ 255 ∷ 255 ∷ 255 ∷ 255 ∷ 255 ∷ 255 ∷ 255 ∷ 255 ∷ 255 ∷ 1 ∷ 0 ∷ 0 ∷ 0 ∷ 0 ∷ 0 ∷ 0 ∷ 0 ∷ 0 ∷ 0 ∷ 0 ∷ 0 ∷ 0 ∷ 0 ∷ 0 ∷ 0 ∷ []; holds = true; ty = 0; locals = ([]); fit = true; tried = (unmatched (Int (negsuc 1)) to_else ∷ matched (Int (negsuc 0)) ([]) (to_then ([])) ∷ matched (Int (pos 0)) ([]) (to_then ([])) ∷ unmatched (Int (pos 1)) to_else ∷ []) }

abbrev range_turned_round_row : Judgement
range_turned_round_row = record { image = 0 ∷ 0 ∷ 0 ∷ 81 ∷ 1 ∷ 0 ∷ 1 ∷ 0 ∷ 0 ∷ 0 ∷ 1 ∷ 0 ∷ 0 ∷ 0 ∷ 6 ∷ 0 ∷ 32 ∷ 0 ∷ 1 ∷ 0 ∷ 1 ∷ 0 ∷ 0 ∷ 0 ∷ 0 ∷ 0 ∷ 1 ∷ 0 ∷ 7 ∷ 0 ∷ 0 ∷ 0 ∷ 0 ∷ 0 ∷ 0 ∷ 0 ∷ 3 ∷ 0 ∷ 1 ∷ 0 ∷ 0 ∷ 0 ∷ 1 ∷ 0 ∷ 0 ∷ 0 ∷ 16 ∷ 0 ∷ 1 ∷ 0 ∷ 16 ∷ 0 ∷ 16 ∷ 4 ∷ 0 ∷ 0 ∷ 0 ∷ 0 ∷ 0 ∷ 0 ∷ 0 ∷ 0 ∷ 0 ∷ 0 ∷ 0 ∷ 0 ∷ 0 ∷ 0 ∷ 0 ∷ 2 ∷ 0 ∷ 0 ∷ 0 ∷ 0 ∷ 0 ∷ 0 ∷ 0 ∷ 0 ∷ 0 ∷ 0 ∷ 0 ∷ 0 ∷ 0 ∷ 0 ∷ 0 ∷ []; holds = true; ty = 0; locals = ([]); fit = true; tried = (unmatched (Int (pos 2)) to_else ∷ unmatched (Int (pos 3)) to_else ∷ unmatched (Int (pos 4)) to_else ∷ []) }

abbrev range_of_constants_row : Judgement
range_of_constants_row = record { image = 0 ∷ 0 ∷ 0 ∷ 51 ∷ 1 ∷ 0 ∷ 1 ∷ 0 ∷ 0 ∷ 0 ∷ 1 ∷ 0 ∷ 0 ∷ 0 ∷ 6 ∷ 0 ∷ 2 ∷ 0 ∷ 1 ∷ 0 ∷ 1 ∷ 0 ∷ 0 ∷ 0 ∷ 0 ∷ 0 ∷ 1 ∷ 0 ∷ 7 ∷ 0 ∷ 0 ∷ 0 ∷ 0 ∷ 0 ∷ 0 ∷ 0 ∷ 3 ∷ 0 ∷ 0 ∷ 0 ∷ 0 ∷ 0 ∷ 8 ∷ 0 ∷ 0 ∷ 0 ∷ 1 ∷ 0 ∷ 8 ∷ 0 ∷ 1 ∷ 0 ∷ 1 ∷ 2 ∷ 4 ∷ []; holds = true; ty = 0; locals = ([]); fit = true; tried = (unmatched (Int (pos 1)) to_else ∷ matched (Int (pos 2)) ([]) (to_then ([])) ∷ matched (Int (pos 4)) ([]) (to_then ([])) ∷ unmatched (Int (pos 5)) to_else ∷ []) }

abbrev constant_true_row : Judgement
constant_true_row = record { image = 0 ∷ 0 ∷ 0 ∷ 44 ∷ 1 ∷ 0 ∷ 1 ∷ 0 ∷ 0 ∷ 0 ∷ 1 ∷ 0 ∷ 0 ∷ 0 ∷ 3 ∷ 0 ∷ 1 ∷ 0 ∷ 2 ∷ 0 ∷ 0 ∷ 0 ∷ 0 ∷ 0 ∷ 0 ∷ 0 ∷ 1 ∷ 0 ∷ 9 ∷ 0 ∷ 0 ∷ 0 ∷ 0 ∷ 0 ∷ 3 ∷ 0 ∷ 0 ∷ 0 ∷ 0 ∷ 0 ∷ 0 ∷ 0 ∷ 8 ∷ 0 ∷ 0 ∷ 0 ∷ 1 ∷ 1 ∷ []; holds = true; ty = 0; locals = ([]); fit = true; tried = (matched (Bool' true) ([]) (to_then ([])) ∷ unmatched (Bool' false) to_else ∷ []) }

abbrev constant_char_row : Judgement
constant_char_row = record { image = 0 ∷ 0 ∷ 0 ∷ 47 ∷ 1 ∷ 0 ∷ 1 ∷ 0 ∷ 0 ∷ 0 ∷ 1 ∷ 0 ∷ 0 ∷ 0 ∷ 3 ∷ 0 ∷ 4 ∷ 0 ∷ 3 ∷ 0 ∷ 0 ∷ 0 ∷ 0 ∷ 0 ∷ 0 ∷ 0 ∷ 1 ∷ 0 ∷ 9 ∷ 0 ∷ 0 ∷ 0 ∷ 0 ∷ 0 ∷ 3 ∷ 0 ∷ 0 ∷ 0 ∷ 0 ∷ 0 ∷ 0 ∷ 0 ∷ 8 ∷ 0 ∷ 0 ∷ 0 ∷ 4 ∷ 97 ∷ 0 ∷ 0 ∷ 0 ∷ []; holds = true; ty = 0; locals = ([]); fit = true; tried = (matched (Char 97) ([]) (to_then ([])) ∷ unmatched (Char 98) to_else ∷ []) }

abbrev constant_negative_row : Judgement
constant_negative_row = record { image = 0 ∷ 0 ∷ 0 ∷ 44 ∷ 1 ∷ 0 ∷ 1 ∷ 0 ∷ 0 ∷ 0 ∷ 1 ∷ 0 ∷ 0 ∷ 0 ∷ 3 ∷ 0 ∷ 1 ∷ 0 ∷ 1 ∷ 0 ∷ 1 ∷ 0 ∷ 1 ∷ 0 ∷ 0 ∷ 0 ∷ 1 ∷ 0 ∷ 9 ∷ 0 ∷ 0 ∷ 0 ∷ 0 ∷ 0 ∷ 3 ∷ 0 ∷ 0 ∷ 0 ∷ 0 ∷ 0 ∷ 0 ∷ 0 ∷ 8 ∷ 0 ∷ 0 ∷ 0 ∷ 1 ∷ 255 ∷ []; holds = true; ty = 0; locals = ([]); fit = true; tried = (matched (Int (negsuc 0)) ([]) (to_then ([])) ∷ unmatched (Int (pos 1)) to_else ∷ unmatched (Int (pos 127)) to_else ∷ []) }

abbrev constant_two_bytes_row : Judgement
constant_two_bytes_row = record { image = 0 ∷ 0 ∷ 0 ∷ 45 ∷ 1 ∷ 0 ∷ 1 ∷ 0 ∷ 0 ∷ 0 ∷ 1 ∷ 0 ∷ 0 ∷ 0 ∷ 3 ∷ 0 ∷ 2 ∷ 0 ∷ 1 ∷ 0 ∷ 2 ∷ 0 ∷ 0 ∷ 0 ∷ 0 ∷ 0 ∷ 1 ∷ 0 ∷ 9 ∷ 0 ∷ 0 ∷ 0 ∷ 0 ∷ 0 ∷ 3 ∷ 0 ∷ 0 ∷ 0 ∷ 0 ∷ 0 ∷ 0 ∷ 0 ∷ 8 ∷ 0 ∷ 0 ∷ 0 ∷ 2 ∷ 1 ∷ 2 ∷ []; holds = true; ty = 0; locals = ([]); fit = true; tried = (matched (Int (pos 513)) ([]) (to_then ([])) ∷ unmatched (Int (pos 258)) to_else ∷ []) }

abbrev unit_variant_row : Judgement
unit_variant_row = record { image = 0 ∷ 0 ∷ 0 ∷ 93 ∷ 1 ∷ 0 ∷ 2 ∷ 0 ∷ 2 ∷ 0 ∷ 1 ∷ 0 ∷ 0 ∷ 0 ∷ 1 ∷ 0 ∷ 32 ∷ 0 ∷ 1 ∷ 0 ∷ 1 ∷ 0 ∷ 0 ∷ 0 ∷ 0 ∷ 0 ∷ 1 ∷ 0 ∷ 6 ∷ 0 ∷ 0 ∷ 0 ∷ 2 ∷ 0 ∷ 1 ∷ 0 ∷ 0 ∷ 0 ∷ 0 ∷ 0 ∷ 1 ∷ 0 ∷ 0 ∷ 0 ∷ 1 ∷ 0 ∷ 0 ∷ 0 ∷ 16 ∷ 0 ∷ 9 ∷ 0 ∷ 1 ∷ 0 ∷ 0 ∷ 0 ∷ 1 ∷ 0 ∷ 1 ∷ 0 ∷ 0 ∷ 0 ∷ 0 ∷ 0 ∷ 0 ∷ 1 ∷ 0 ∷ 0 ∷ 0 ∷ 0 ∷ 0 ∷ 0 ∷ 0 ∷ 0 ∷ 0 ∷ 0 ∷ 0 ∷ 0 ∷ 0 ∷ 0 ∷ 0 ∷ 0 ∷ 0 ∷ 0 ∷ 0 ∷ 0 ∷ 0 ∷ 0 ∷ 0 ∷ 0 ∷ 0 ∷ 0 ∷ 0 ∷ 0 ∷ 0 ∷ 0 ∷ 0 ∷ []; holds = true; ty = 1; locals = ([]); fit = true; tried = (matched (Adt 1 no_more) ([]) (to_then ([])) ∷ unmatched (Adt 0 (more (Int (pos 1)) no_more)) to_else ∷ []) }

abbrev tuple_struct_row : Judgement
tuple_struct_row = record { image = 0 ∷ 0 ∷ 0 ∷ 113 ∷ 1 ∷ 0 ∷ 2 ∷ 0 ∷ 2 ∷ 0 ∷ 2 ∷ 0 ∷ 1 ∷ 0 ∷ 2 ∷ 0 ∷ 32 ∷ 0 ∷ 1 ∷ 0 ∷ 1 ∷ 0 ∷ 0 ∷ 0 ∷ 0 ∷ 0 ∷ 1 ∷ 0 ∷ 6 ∷ 0 ∷ 0 ∷ 0 ∷ 2 ∷ 0 ∷ 1 ∷ 0 ∷ 0 ∷ 0 ∷ 0 ∷ 0 ∷ 1 ∷ 0 ∷ 0 ∷ 0 ∷ 1 ∷ 0 ∷ 0 ∷ 0 ∷ 16 ∷ 0 ∷ 11 ∷ 0 ∷ 0 ∷ 0 ∷ 0 ∷ 0 ∷ 0 ∷ 255 ∷ 255 ∷ 0 ∷ 0 ∷ 0 ∷ 0 ∷ 0 ∷ 12 ∷ 0 ∷ 1 ∷ 0 ∷ 0 ∷ 0 ∷ 1 ∷ 0 ∷ 1 ∷ 255 ∷ 255 ∷ 0 ∷ 0 ∷ 0 ∷ 0 ∷ 0 ∷ 1 ∷ 0 ∷ 0 ∷ 0 ∷ 0 ∷ 1 ∷ 0 ∷ 0 ∷ 0 ∷ 0 ∷ 0 ∷ 0 ∷ 0 ∷ 0 ∷ 0 ∷ 0 ∷ 0 ∷ 0 ∷ 0 ∷ 0 ∷ 0 ∷ 0 ∷ 0 ∷ 0 ∷ 0 ∷ 0 ∷ 0 ∷ 0 ∷ 0 ∷ 0 ∷ 0 ∷ 0 ∷ 0 ∷ 0 ∷ 0 ∷ 0 ∷ 0 ∷ []; holds = true; ty = 1; locals = (1 ∷ []); fit = true; tried = (matched (Adt 0 (more (Int (pos 8)) no_more)) (record { binding = 0; what = value (Int (pos 8)) } ∷ []) (to_then (value (Int (pos 8)) ∷ [])) ∷ unmatched (Adt 1 no_more) to_else ∷ []) }

abbrev record_of_enum_row : Judgement
record_of_enum_row = record { image = 0 ∷ 0 ∷ 0 ∷ 115 ∷ 1 ∷ 0 ∷ 2 ∷ 0 ∷ 2 ∷ 0 ∷ 2 ∷ 0 ∷ 1 ∷ 0 ∷ 3 ∷ 0 ∷ 32 ∷ 0 ∷ 1 ∷ 0 ∷ 1 ∷ 0 ∷ 0 ∷ 0 ∷ 0 ∷ 0 ∷ 1 ∷ 0 ∷ 6 ∷ 0 ∷ 0 ∷ 0 ∷ 2 ∷ 0 ∷ 1 ∷ 0 ∷ 0 ∷ 0 ∷ 0 ∷ 0 ∷ 1 ∷ 0 ∷ 0 ∷ 0 ∷ 1 ∷ 0 ∷ 0 ∷ 0 ∷ 16 ∷ 0 ∷ 11 ∷ 0 ∷ 0 ∷ 0 ∷ 0 ∷ 0 ∷ 0 ∷ 255 ∷ 255 ∷ 0 ∷ 1 ∷ 0 ∷ 0 ∷ 0 ∷ 6 ∷ 0 ∷ 1 ∷ 0 ∷ 0 ∷ 0 ∷ 1 ∷ 0 ∷ 1 ∷ 0 ∷ 0 ∷ 0 ∷ 0 ∷ 0 ∷ 0 ∷ 0 ∷ 1 ∷ 0 ∷ 0 ∷ 0 ∷ 0 ∷ 0 ∷ 0 ∷ 1 ∷ 0 ∷ 0 ∷ 0 ∷ 0 ∷ 0 ∷ 0 ∷ 0 ∷ 0 ∷ 0 ∷ 0 ∷ 0 ∷ 0 ∷ 0 ∷ 0 ∷ 0 ∷ 0 ∷ 0 ∷ 0 ∷ 0 ∷ 0 ∷ 0 ∷ 0 ∷ 0 ∷ 0 ∷ 0 ∷ 0 ∷ 0 ∷ 0 ∷ 0 ∷ 0 ∷ 0 ∷ []; holds = true; ty = 1; locals = (1 ∷ []); fit = true; tried = (matched (Adt 0 (more (Int (pos 8)) no_more)) (record { binding = 0; what = refers_to false (record { local = 0; elems = ((ProjectionElem.Downcast 0) ∷ (ProjectionElem.Field 0) ∷ []) }) } ∷ []) (to_then (refers_to false (record { local = 0; elems = ((ProjectionElem.Downcast 0) ∷ (ProjectionElem.Field 0) ∷ []) }) ∷ [])) ∷ unmatched (Adt 1 no_more) to_else ∷ []) }

abbrev record_in_part_row : Judgement
record_in_part_row = record { image = 0 ∷ 0 ∷ 0 ∷ 113 ∷ 1 ∷ 0 ∷ 2 ∷ 0 ∷ 1 ∷ 0 ∷ 2 ∷ 0 ∷ 0 ∷ 0 ∷ 7 ∷ 0 ∷ 32 ∷ 0 ∷ 1 ∷ 0 ∷ 1 ∷ 0 ∷ 0 ∷ 0 ∷ 0 ∷ 0 ∷ 1 ∷ 0 ∷ 6 ∷ 0 ∷ 0 ∷ 0 ∷ 1 ∷ 0 ∷ 0 ∷ 0 ∷ 0 ∷ 0 ∷ 0 ∷ 0 ∷ 2 ∷ 0 ∷ 0 ∷ 0 ∷ 10 ∷ 0 ∷ 0 ∷ 0 ∷ 0 ∷ 0 ∷ 2 ∷ 0 ∷ 0 ∷ 0 ∷ 0 ∷ 0 ∷ 0 ∷ 0 ∷ 6 ∷ 0 ∷ 1 ∷ 0 ∷ 0 ∷ 0 ∷ 5 ∷ 0 ∷ 1 ∷ 0 ∷ 0 ∷ 0 ∷ 0 ∷ 0 ∷ 0 ∷ 0 ∷ 0 ∷ 0 ∷ 1 ∷ 0 ∷ 16 ∷ 0 ∷ 16 ∷ 0 ∷ 1 ∷ 0 ∷ 0 ∷ 0 ∷ 0 ∷ 0 ∷ 0 ∷ 0 ∷ 0 ∷ 0 ∷ 0 ∷ 0 ∷ 0 ∷ 0 ∷ 0 ∷ 0 ∷ 0 ∷ 0 ∷ 0 ∷ 4 ∷ 0 ∷ 0 ∷ 0 ∷ 0 ∷ 0 ∷ 0 ∷ 0 ∷ 0 ∷ 0 ∷ 0 ∷ 0 ∷ 0 ∷ 0 ∷ 0 ∷ 0 ∷ []; holds = true; ty = 1; locals = ([]); fit = true; tried = (matched (Adt 0 (more (Int (pos 9)) (more (Int (pos 4)) no_more))) ([]) (to_then ([])) ∷ unmatched (Adt 0 (more (Int (pos 4)) (more (Int (pos 9)) no_more))) to_else ∷ []) }

abbrev tuple_of_tests_row : Judgement
tuple_of_tests_row = record { image = 0 ∷ 0 ∷ 0 ∷ 127 ∷ 1 ∷ 0 ∷ 2 ∷ 0 ∷ 0 ∷ 0 ∷ 3 ∷ 0 ∷ 0 ∷ 0 ∷ 10 ∷ 0 ∷ 32 ∷ 0 ∷ 1 ∷ 0 ∷ 1 ∷ 0 ∷ 0 ∷ 0 ∷ 0 ∷ 0 ∷ 1 ∷ 0 ∷ 5 ∷ 0 ∷ 0 ∷ 0 ∷ 2 ∷ 0 ∷ 0 ∷ 0 ∷ 1 ∷ 0 ∷ 10 ∷ 0 ∷ 0 ∷ 0 ∷ 0 ∷ 0 ∷ 2 ∷ 0 ∷ 0 ∷ 0 ∷ 0 ∷ 0 ∷ 0 ∷ 0 ∷ 10 ∷ 0 ∷ 0 ∷ 0 ∷ 0 ∷ 0 ∷ 5 ∷ 0 ∷ 0 ∷ 0 ∷ 0 ∷ 0 ∷ 0 ∷ 0 ∷ 4 ∷ 0 ∷ 1 ∷ 0 ∷ 0 ∷ 0 ∷ 8 ∷ 0 ∷ 2 ∷ 255 ∷ 255 ∷ 0 ∷ 0 ∷ 0 ∷ 0 ∷ 0 ∷ 0 ∷ 0 ∷ 1 ∷ 0 ∷ 0 ∷ 0 ∷ 16 ∷ 0 ∷ 1 ∷ 0 ∷ 16 ∷ 0 ∷ 16 ∷ 0 ∷ 0 ∷ 0 ∷ 1 ∷ 1 ∷ 0 ∷ 0 ∷ 0 ∷ 0 ∷ 0 ∷ 0 ∷ 0 ∷ 0 ∷ 0 ∷ 0 ∷ 0 ∷ 0 ∷ 0 ∷ 0 ∷ 0 ∷ 2 ∷ 0 ∷ 0 ∷ 0 ∷ 0 ∷ 0 ∷ 0 ∷ 0 ∷ 0 ∷ 0 ∷ 0 ∷ 0 ∷ 0 ∷ 0 ∷ 0 ∷ 0 ∷ []; holds = true; ty = 1; locals = ([]); fit = true; tried = (matched (Tuple (more (Int (pos 1)) (more (Int (pos 2)) no_more))) ([]) (to_then ([])) ∷ unmatched (Tuple (more (Int (pos 1)) (more (Int (pos 1)) no_more))) to_else ∷ unmatched (Tuple (more (Int (pos 2)) (more (Int (pos 2)) no_more))) to_else ∷ not_of_type (Tuple (more (Int (pos 1)) no_more)) ∷ []) }

abbrev through_a_reference_row : Judgement
through_a_reference_row = record { image = 0 ∷ 0 ∷ 0 ∷ 119 ∷ 1 ∷ 0 ∷ 3 ∷ 0 ∷ 0 ∷ 0 ∷ 3 ∷ 0 ∷ 1 ∷ 0 ∷ 7 ∷ 0 ∷ 16 ∷ 0 ∷ 1 ∷ 0 ∷ 1 ∷ 0 ∷ 0 ∷ 0 ∷ 0 ∷ 0 ∷ 1 ∷ 0 ∷ 5 ∷ 0 ∷ 0 ∷ 0 ∷ 2 ∷ 0 ∷ 0 ∷ 0 ∷ 1 ∷ 0 ∷ 7 ∷ 0 ∷ 1 ∷ 0 ∷ 0 ∷ 0 ∷ 0 ∷ 0 ∷ 1 ∷ 0 ∷ 10 ∷ 0 ∷ 0 ∷ 0 ∷ 0 ∷ 0 ∷ 2 ∷ 0 ∷ 0 ∷ 0 ∷ 0 ∷ 0 ∷ 0 ∷ 0 ∷ 11 ∷ 0 ∷ 0 ∷ 0 ∷ 0 ∷ 0 ∷ 0 ∷ 255 ∷ 255 ∷ 0 ∷ 0 ∷ 0 ∷ 0 ∷ 0 ∷ 4 ∷ 0 ∷ 1 ∷ 0 ∷ 1 ∷ 0 ∷ 5 ∷ 0 ∷ 2 ∷ 255 ∷ 255 ∷ 0 ∷ 0 ∷ 0 ∷ 0 ∷ 0 ∷ 1 ∷ 0 ∷ 0 ∷ 0 ∷ 0 ∷ 0 ∷ 1 ∷ 0 ∷ 0 ∷ 0 ∷ 16 ∷ 0 ∷ 0 ∷ 0 ∷ 1 ∷ 1 ∷ 0 ∷ 0 ∷ 0 ∷ 0 ∷ 0 ∷ 0 ∷ 0 ∷ 0 ∷ 0 ∷ 0 ∷ 0 ∷ 0 ∷ 0 ∷ 0 ∷ 0 ∷ []; holds = true; ty = 2; locals = (1 ∷ []); fit = true; tried = (matched (Reference (Tuple (more (Int (pos 1)) (more (Int (pos 6)) no_more)))) (record { binding = 0; what = value (Int (pos 6)) } ∷ []) (to_then (value (Int (pos 6)) ∷ [])) ∷ unmatched (Reference (Tuple (more (Int (pos 2)) (more (Int (pos 6)) no_more)))) to_else ∷ []) }

abbrev reference_bound_row : Judgement
reference_bound_row = record { image = 0 ∷ 0 ∷ 0 ∷ 65 ∷ 1 ∷ 0 ∷ 2 ∷ 0 ∷ 0 ∷ 0 ∷ 2 ∷ 0 ∷ 1 ∷ 0 ∷ 0 ∷ 0 ∷ 0 ∷ 0 ∷ 1 ∷ 0 ∷ 1 ∷ 0 ∷ 0 ∷ 0 ∷ 0 ∷ 0 ∷ 1 ∷ 0 ∷ 7 ∷ 0 ∷ 0 ∷ 0 ∷ 0 ∷ 0 ∷ 0 ∷ 0 ∷ 1 ∷ 0 ∷ 11 ∷ 0 ∷ 0 ∷ 0 ∷ 0 ∷ 0 ∷ 0 ∷ 255 ∷ 255 ∷ 0 ∷ 1 ∷ 0 ∷ 0 ∷ 0 ∷ 13 ∷ 0 ∷ 1 ∷ 0 ∷ 0 ∷ 0 ∷ 0 ∷ 0 ∷ 0 ∷ 0 ∷ 0 ∷ 0 ∷ 0 ∷ 0 ∷ 0 ∷ 0 ∷ 1 ∷ []; holds = true; ty = 1; locals = (1 ∷ []); fit = true; tried = (matched (Reference (Int (pos 5))) (record { binding = 0; what = refers_to false (record { local = 0; elems = (ProjectionElem.Deref ∷ []) }) } ∷ []) (to_then (refers_to false (record { local = 0; elems = (ProjectionElem.Deref ∷ []) }) ∷ [])) ∷ []) }

abbrev first_and_last_row : Judgement
first_and_last_row = record { image = 0 ∷ 0 ∷ 0 ∷ 137 ∷ 1 ∷ 0 ∷ 2 ∷ 0 ∷ 0 ∷ 0 ∷ 4 ∷ 0 ∷ 0 ∷ 0 ∷ 8 ∷ 0 ∷ 32 ∷ 0 ∷ 1 ∷ 0 ∷ 1 ∷ 0 ∷ 0 ∷ 0 ∷ 0 ∷ 0 ∷ 1 ∷ 0 ∷ 9 ∷ 0 ∷ 0 ∷ 0 ∷ 0 ∷ 0 ∷ 0 ∷ 0 ∷ 0 ∷ 0 ∷ 10 ∷ 0 ∷ 0 ∷ 0 ∷ 0 ∷ 0 ∷ 0 ∷ 0 ∷ 0 ∷ 0 ∷ 0 ∷ 0 ∷ 0 ∷ 0 ∷ 10 ∷ 0 ∷ 0 ∷ 0 ∷ 0 ∷ 0 ∷ 3 ∷ 0 ∷ 0 ∷ 0 ∷ 0 ∷ 0 ∷ 0 ∷ 0 ∷ 1 ∷ 0 ∷ 1 ∷ 0 ∷ 0 ∷ 0 ∷ 0 ∷ 0 ∷ 0 ∷ 0 ∷ 0 ∷ 0 ∷ 0 ∷ 0 ∷ 8 ∷ 0 ∷ 1 ∷ 0 ∷ 0 ∷ 0 ∷ 6 ∷ 0 ∷ 1 ∷ 0 ∷ 1 ∷ 0 ∷ 2 ∷ 0 ∷ 1 ∷ 0 ∷ 0 ∷ 0 ∷ 16 ∷ 0 ∷ 1 ∷ 0 ∷ 16 ∷ 0 ∷ 16 ∷ 0 ∷ 0 ∷ 0 ∷ 1 ∷ 1 ∷ 0 ∷ 0 ∷ 0 ∷ 0 ∷ 0 ∷ 0 ∷ 0 ∷ 0 ∷ 0 ∷ 0 ∷ 0 ∷ 0 ∷ 0 ∷ 0 ∷ 0 ∷ 2 ∷ 0 ∷ 0 ∷ 0 ∷ 0 ∷ 0 ∷ 0 ∷ 0 ∷ 0 ∷ 0 ∷ 0 ∷ 0 ∷ 0 ∷ 0 ∷ 0 ∷ 0 ∷ []; holds = true; ty = 1; locals = ([]); fit = true; tried = (matched (Slice (more (Int (pos 1)) (more (Int (pos 2)) no_more))) ([]) (to_then ([])) ∷ matched (Slice (more (Int (pos 1)) (more (Int (pos 9)) (more (Int (pos 2)) no_more)))) ([]) (to_then ([])) ∷ unmatched (Slice (more (Int (pos 1)) no_more)) to_else ∷ unmatched (Slice (more (Int (pos 1)) (more (Int (pos 2)) (more (Int (pos 3)) no_more)))) to_else ∷ []) }

abbrev last_two_of_array_row : Judgement
last_two_of_array_row = record { image = 0 ∷ 0 ∷ 0 ∷ 101 ∷ 1 ∷ 0 ∷ 2 ∷ 0 ∷ 0 ∷ 0 ∷ 4 ∷ 0 ∷ 2 ∷ 0 ∷ 2 ∷ 0 ∷ 0 ∷ 0 ∷ 1 ∷ 0 ∷ 1 ∷ 0 ∷ 0 ∷ 0 ∷ 0 ∷ 0 ∷ 1 ∷ 0 ∷ 8 ∷ 0 ∷ 0 ∷ 0 ∷ 3 ∷ 0 ∷ 0 ∷ 0 ∷ 1 ∷ 0 ∷ 11 ∷ 0 ∷ 0 ∷ 0 ∷ 0 ∷ 0 ∷ 0 ∷ 255 ∷ 255 ∷ 0 ∷ 0 ∷ 0 ∷ 0 ∷ 0 ∷ 11 ∷ 0 ∷ 0 ∷ 0 ∷ 0 ∷ 0 ∷ 1 ∷ 255 ∷ 255 ∷ 0 ∷ 1 ∷ 0 ∷ 0 ∷ 0 ∷ 1 ∷ 0 ∷ 1 ∷ 0 ∷ 0 ∷ 0 ∷ 0 ∷ 0 ∷ 0 ∷ 0 ∷ 0 ∷ 0 ∷ 0 ∷ 0 ∷ 8 ∷ 0 ∷ 1 ∷ 0 ∷ 0 ∷ 0 ∷ 0 ∷ 0 ∷ 0 ∷ 0 ∷ 2 ∷ 0 ∷ 2 ∷ 0 ∷ 0 ∷ 0 ∷ 1 ∷ 0 ∷ 0 ∷ 0 ∷ 1 ∷ 0 ∷ 0 ∷ 0 ∷ 1 ∷ []; holds = true; ty = 1; locals = (1 ∷ 2 ∷ []); fit = true; tried = (matched (Array (more (Int (pos 1)) (more (Int (pos 2)) (more (Int (pos 3)) no_more)))) (record { binding = 0; what = value (Int (pos 2)) } ∷ record { binding = 1; what = refers_to false (record { local = 0; elems = ((ProjectionElem.IndexFromEnd 0) ∷ []) }) } ∷ []) (to_then (value (Int (pos 2)) ∷ refers_to false (record { local = 0; elems = ((ProjectionElem.IndexFromEnd 0) ∷ []) }) ∷ [])) ∷ []) }

abbrev no_rest_before_the_end_row : Judgement
no_rest_before_the_end_row = record { image = 0 ∷ 0 ∷ 0 ∷ 143 ∷ 1 ∷ 0 ∷ 2 ∷ 0 ∷ 0 ∷ 0 ∷ 4 ∷ 0 ∷ 1 ∷ 0 ∷ 9 ∷ 0 ∷ 32 ∷ 0 ∷ 1 ∷ 0 ∷ 1 ∷ 0 ∷ 0 ∷ 0 ∷ 0 ∷ 0 ∷ 1 ∷ 0 ∷ 8 ∷ 0 ∷ 0 ∷ 0 ∷ 3 ∷ 0 ∷ 0 ∷ 0 ∷ 1 ∷ 0 ∷ 10 ∷ 0 ∷ 0 ∷ 0 ∷ 0 ∷ 0 ∷ 0 ∷ 0 ∷ 0 ∷ 0 ∷ 0 ∷ 0 ∷ 0 ∷ 0 ∷ 10 ∷ 0 ∷ 0 ∷ 0 ∷ 0 ∷ 0 ∷ 3 ∷ 0 ∷ 0 ∷ 0 ∷ 0 ∷ 0 ∷ 0 ∷ 0 ∷ 11 ∷ 0 ∷ 0 ∷ 0 ∷ 0 ∷ 0 ∷ 0 ∷ 255 ∷ 255 ∷ 0 ∷ 0 ∷ 0 ∷ 0 ∷ 0 ∷ 8 ∷ 0 ∷ 1 ∷ 0 ∷ 0 ∷ 0 ∷ 6 ∷ 0 ∷ 1 ∷ 0 ∷ 2 ∷ 255 ∷ 255 ∷ 0 ∷ 0 ∷ 0 ∷ 1 ∷ 0 ∷ 1 ∷ 0 ∷ 0 ∷ 0 ∷ 16 ∷ 0 ∷ 1 ∷ 0 ∷ 16 ∷ 0 ∷ 16 ∷ 0 ∷ 0 ∷ 0 ∷ 1 ∷ 0 ∷ 2 ∷ 1 ∷ 0 ∷ 0 ∷ 0 ∷ 0 ∷ 0 ∷ 0 ∷ 0 ∷ 0 ∷ 0 ∷ 0 ∷ 0 ∷ 0 ∷ 0 ∷ 0 ∷ 0 ∷ 2 ∷ 0 ∷ 0 ∷ 0 ∷ 0 ∷ 0 ∷ 0 ∷ 0 ∷ 0 ∷ 0 ∷ 0 ∷ 0 ∷ 0 ∷ 0 ∷ 0 ∷ 0 ∷ []; holds = true; ty = 1; locals = (1 ∷ []); fit = true; tried = (matched (Array (more (Int (pos 1)) (more (Int (pos 2)) (more (Int (pos 3)) no_more)))) (record { binding = 0; what = value (Int (pos 3)) } ∷ []) (to_then (value (Int (pos 3)) ∷ [])) ∷ unmatched (Array (more (Int (pos 1)) (more (Int (pos 3)) (more (Int (pos 2)) no_more)))) to_else ∷ []) }

abbrev rest_of_array_row : Judgement
rest_of_array_row = record { image = 0 ∷ 0 ∷ 0 ∷ 111 ∷ 1 ∷ 0 ∷ 2 ∷ 0 ∷ 0 ∷ 0 ∷ 5 ∷ 0 ∷ 1 ∷ 0 ∷ 2 ∷ 0 ∷ 0 ∷ 0 ∷ 1 ∷ 0 ∷ 1 ∷ 0 ∷ 0 ∷ 0 ∷ 0 ∷ 0 ∷ 1 ∷ 0 ∷ 8 ∷ 0 ∷ 0 ∷ 0 ∷ 3 ∷ 0 ∷ 0 ∷ 0 ∷ 1 ∷ 0 ∷ 3 ∷ 0 ∷ 0 ∷ 0 ∷ 0 ∷ 0 ∷ 0 ∷ 0 ∷ 0 ∷ 0 ∷ 0 ∷ 0 ∷ 0 ∷ 0 ∷ 3 ∷ 0 ∷ 0 ∷ 0 ∷ 0 ∷ 0 ∷ 0 ∷ 0 ∷ 0 ∷ 0 ∷ 0 ∷ 0 ∷ 0 ∷ 0 ∷ 1 ∷ 0 ∷ 1 ∷ 0 ∷ 0 ∷ 0 ∷ 0 ∷ 0 ∷ 0 ∷ 0 ∷ 0 ∷ 0 ∷ 0 ∷ 0 ∷ 11 ∷ 0 ∷ 1 ∷ 0 ∷ 0 ∷ 0 ∷ 0 ∷ 0 ∷ 2 ∷ 0 ∷ 0 ∷ 0 ∷ 0 ∷ 0 ∷ 8 ∷ 0 ∷ 1 ∷ 0 ∷ 0 ∷ 0 ∷ 0 ∷ 0 ∷ 1 ∷ 0 ∷ 1 ∷ 0 ∷ 3 ∷ 0 ∷ 1 ∷ 0 ∷ 1 ∷ 0 ∷ 0 ∷ 0 ∷ 1 ∷ []; holds = true; ty = 1; locals = (1 ∷ []); fit = true; tried = (matched (Array (more (Int (pos 1)) (more (Int (pos 2)) (more (Int (pos 3)) no_more)))) (record { binding = 0; what = value (Array (more (Int (pos 2)) no_more)) } ∷ []) (to_then (value (Array (more (Int (pos 2)) no_more)) ∷ [])) ∷ []) }

abbrev rest_of_slice_row : Judgement
rest_of_slice_row = record { image = 0 ∷ 0 ∷ 0 ∷ 95 ∷ 1 ∷ 0 ∷ 2 ∷ 0 ∷ 0 ∷ 0 ∷ 4 ∷ 0 ∷ 1 ∷ 0 ∷ 1 ∷ 0 ∷ 0 ∷ 0 ∷ 1 ∷ 0 ∷ 1 ∷ 0 ∷ 0 ∷ 0 ∷ 0 ∷ 0 ∷ 1 ∷ 0 ∷ 9 ∷ 0 ∷ 0 ∷ 0 ∷ 0 ∷ 0 ∷ 0 ∷ 0 ∷ 0 ∷ 0 ∷ 3 ∷ 0 ∷ 0 ∷ 0 ∷ 0 ∷ 0 ∷ 0 ∷ 0 ∷ 0 ∷ 0 ∷ 0 ∷ 0 ∷ 0 ∷ 0 ∷ 1 ∷ 0 ∷ 1 ∷ 0 ∷ 0 ∷ 0 ∷ 0 ∷ 0 ∷ 0 ∷ 0 ∷ 0 ∷ 0 ∷ 0 ∷ 0 ∷ 11 ∷ 0 ∷ 1 ∷ 0 ∷ 0 ∷ 0 ∷ 0 ∷ 0 ∷ 1 ∷ 0 ∷ 0 ∷ 0 ∷ 0 ∷ 0 ∷ 8 ∷ 0 ∷ 1 ∷ 0 ∷ 0 ∷ 0 ∷ 0 ∷ 0 ∷ 1 ∷ 0 ∷ 0 ∷ 0 ∷ 2 ∷ 0 ∷ 1 ∷ 0 ∷ 1 ∷ 0 ∷ 0 ∷ []; holds = true; ty = 1; locals = (1 ∷ []); fit = true; tried = (matched (Slice (more (Int (pos 1)) (more (Int (pos 2)) (more (Int (pos 3)) no_more)))) (record { binding = 0; what = value (Slice (more (Int (pos 2)) (more (Int (pos 3)) no_more))) } ∷ []) (to_then (value (Slice (more (Int (pos 2)) (more (Int (pos 3)) no_more))) ∷ [])) ∷ unmatched (Slice no_more) to_else ∷ []) }

abbrev pub rows : List Judgement
rows = wild_row ∷ literal7_row ∷ range_row ∷ or_1_2_row ∷ wild_or_2_row ∷ or_none_row ∷ slice_two_row ∷ array_row ∷ slice_any_row ∷ tuple_ellipsis_row ∷ ellipsis_2_row ∷ ellipsis_3_row ∷ surplus_row ∷ enum_twice_row ∷ bind_some_row ∷ nested_or_row ∷ or_of_binds_row ∷ record_row ∷ struct_ellipsis_row ∷ string_row ∷ c_string_row ∷ the_constant_row ∷ half_open_row ∷ half_open_end_row ∷ first_three_row ∷ half_open_to_row ∷ half_open_char_row ∷ half_open_nothing_row ∷ flag_2_row ∷ slice_rest_binding_row ∷ array_rest_binding_row ∷ last_two_row ∷ suffix_three_row ∷ suffix_in_suffix_row ∷ range_no_ends_row ∷ reference_row ∷ deref_1_row ∷ missing_row ∷ rest_row ∷ not_null_row ∷ expr_row ∷ box_row ∷ deref_row ∷ unresolved_row ∷ path_other_row ∷ path_binding_row ∷ lit_float_row ∷ lit_other_row ∷ bind_value_row ∷ bind_ref_row ∷ bind_over_row ∷ literal_true_row ∷ literal_false_row ∷ literal_char_row ∷ literal_negative_row ∷ empty_string_row ∷ negative_range_row ∷ range_over_zero_row ∷ char_range_row ∷ range_to_row ∷ range_below_least_row ∷ half_open_over_zero_row ∷ range_turned_round_row ∷ range_of_constants_row ∷ constant_true_row ∷ constant_char_row ∷ constant_negative_row ∷ constant_two_bytes_row ∷ unit_variant_row ∷ tuple_struct_row ∷ record_of_enum_row ∷ record_in_part_row ∷ tuple_of_tests_row ∷ through_a_reference_row ∷ reference_bound_row ∷ first_and_last_row ∷ last_two_of_array_row ∷ no_rest_before_the_end_row ∷ rest_of_array_row ∷ rest_of_slice_row ∷ []

-- each row's answers, computed anew, are those that are wanted
pub as_judged : map judged rows ≡ rows
unfolding Rattle.image.specs.Bytes.word_at Rattle.image.specs.Bytes.little_endian Rattle.image.specs.Tables.tables_of Rattle.image.specs.Rows.type_at Rattle.image.specs.Rows.variant_at Rattle.image.specs.Rows.pat_at Rattle.image.specs.Rows.binding_at Rattle.image.specs.Rows.list_at Rattle.image.specs.Rows.operand_at Rattle.image.specs.Rows.operand_bytes Rattle.image.specs.Lists.all_below Rattle.image.specs.Lists.all_in Rattle.image.specs.Lists.all_true Rattle.image.specs.Lists.member Rattle.image.specs.Lists.distinct Rattle.image.specs.Lists.up_from Rattle.image.specs.Lists.gather Rattle.image.specs.Operands.is_scalar_value Rattle.image.specs.Operands.operand_value_holds Rattle.image.specs.Operands.operand_holds Rattle.image.specs.Rules.counts_what_follows Rattle.image.specs.Rules.version_is_one Rattle.image.specs.Rules.tables_fill_the_rest Rattle.image.specs.Rules.listed Rattle.image.specs.Rules.types_listed Rattle.image.specs.Rules.is_integer_size Rattle.image.specs.Rules.adt_may_have Rattle.image.specs.Rules.type_shape_holds Rattle.image.specs.Rules.type_holds Rattle.image.specs.Rules.variants_by Rattle.image.specs.Rules.adts_share_no_variant Rattle.image.specs.Rules.variant_holds Rattle.image.specs.Rules.binding_holds Rattle.image.specs.Rules.within_limits Rattle.image.specs.Subpatterns.if_present Rattle.image.specs.Subpatterns.subpatterns_by Rattle.image.specs.Patterns.path_holds Rattle.image.specs.Patterns.pattern_shape_holds Rattle.image.specs.Patterns.pattern_holds Rattle.image.specs.Patterns.subpatterns_below Rattle.image.specs.Patterns.used_once Rattle.image.specs.Valid.valid Rattle.image.specs.Types.shape_by Rattle.image.specs.Types.ty_of Rattle.image.specs.Types.variant_of Rattle.image.specs.Types.binding_of Rattle.image.specs.Types.operand_of Rattle.image.specs.Tree.word? Rattle.image.specs.Tree.operand? Rattle.image.specs.Tree.trees Rattle.image.specs.Tree.tree? Rattle.image.specs.Tree.target Rattle.image.specs.Tree.node_by Rattle.image.specs.Tree.node Rattle.image.specs.Tree.tree_of Rattle.image.specs.Tree.tree Rattle.place.specs.Elems.elem_of Rattle.place.specs.Elems.word_of Rattle.place.specs.Places.projection_of Rattle.place.specs.PlaceTypes.field_of Rattle.place.specs.PlaceTypes.deref_ty Rattle.place.specs.PlaceTypes.adt_field_ty Rattle.place.specs.PlaceTypes.field_ty Rattle.place.specs.PlaceTypes.element_ty Rattle.place.specs.PlaceTypes.subslice_ty Rattle.place.specs.PlaceTypes.adt_downcast_ty Rattle.place.specs.PlaceTypes.downcast_ty Rattle.place.specs.PlaceTypes.ty_projection Rattle.place.specs.PlaceTypes.variant_projection Rattle.place.specs.PlaceTypes.part_projection Rattle.place.specs.PlaceTypes.projection_ty Rattle.place.specs.PlaceTypes.multi_projection_ty Rattle.mir.specs.Blocks.term_row Rattle.mir.specs.Statements.halves Rattle.mir.specs.Statements.place_words Rattle.mir.specs.Locals.local_ty Rattle.mir.specs.Rvalues.constant_words Rattle.mir.specs.Rvalues.left_words Rattle.mir.specs.Rvalues.place_rvalue_kind Rattle.mir.specs.Rvalues.binary_kind Rattle.mir.specs.Rvalues.live_row Rattle.mir.specs.Rvalues.dead_row Rattle.mir.specs.Rvalues.place_rvalue_row Rattle.mir.specs.Rvalues.constant_row Rattle.mir.specs.Rvalues.binary_row Rattle.state.specs.Steps.new_block Rattle.state.specs.Steps.set_terminator Rattle.state.specs.Steps.push_statement Rattle.state.specs.Steps.new_local Rattle.state.specs.Steps.push_scope Rattle.state.specs.Steps.push_entry Rattle.state.specs.Steps.try_block Rattle.state.specs.Steps.try_statement Rattle.state.specs.Steps.try_local Rattle.state.specs.Steps.try_scope Rattle.state.specs.Steps.try_entry Rattle.literals.specs.Literals.constant_of Rattle.literals.specs.Literals.string_constant Rattle.literals.specs.Literals.integer_constant Rattle.literals.specs.Literals.literal_by Rattle.literals.specs.Literals.lower_literal_to_operand Rattle.literals.specs.Literals.lower_const_to_operand Rattle.literals.specs.Literals.literal_or_const_by Rattle.literals.specs.Literals.lower_literal_or_const_to_operand Rattle.lower_spec.specs.Temps.is_slice Rattle.lower_spec.specs.Temps.is_held Rattle.lower_spec.specs.Temps.mark_live Rattle.lower_spec.specs.Temps.temp Rattle.lower_spec.specs.Temps.binding_local Rattle.views.specs.Views.terminator_of Rattle.views.specs.Views.elems_at Rattle.views.specs.Views.path_of Rattle.views.specs.Views.constant_at Rattle.views.specs.Views.left_of Rattle.views.specs.Views.line_of Rattle.views.specs.Views.mir_of Rattle.refusals.specs.Refusals.number_of Rattle.refusals.specs.Refusals.reason_of Rattle.refusals.specs.Refusals.refusal_at Rattle.pattern_matching.specs.Walking.visited Rattle.pattern_matching.specs.Walking.project Rattle.pattern_matching.specs.Walking.local_place Rattle.pattern_matching.specs.Walking.else_state Rattle.pattern_matching.specs.Walking.else_block Rattle.pattern_matching.specs.Walking.derefed Rattle.pattern_matching.specs.Walking.entered Rattle.pattern_matching.specs.Tests.compare Rattle.pattern_matching.specs.Tests.pattern_match_const Rattle.pattern_matching.specs.Tests.literal Rattle.pattern_matching.specs.Tests.lit_by Rattle.pattern_matching.specs.Tests.constant_path Rattle.pattern_matching.specs.Tests.range_end Rattle.pattern_matching.specs.Tests.range_end? Rattle.pattern_matching.specs.Tests.binding_rvalue Rattle.pattern_matching.specs.Tests.pattern_match_binding Rattle.pattern_matching.specs.Tests.local_path Rattle.pattern_matching.specs.Variants.place_ty Rattle.pattern_matching.specs.Variants.shape_of Rattle.pattern_matching.specs.Variants.pattern_match_adt Rattle.pattern_matching.specs.Variants.pattern_match_tuple_like Rattle.pattern_matching.specs.Variants.ellipsis_at Rattle.pattern_matching.specs.Variants.tuple_on Rattle.pattern_matching.specs.Variants.tuple_pattern Rattle.pattern_matching.specs.Variants.ref_on Rattle.pattern_matching.specs.Variants.ref_pattern Rattle.pattern_matching.specs.Variants.resolved Rattle.pattern_matching.specs.Variants.record_fields Rattle.pattern_matching.specs.Variants.variant_fields Rattle.pattern_matching.specs.Variants.discriminant_test Rattle.pattern_matching.specs.Variants.variant_on Rattle.pattern_matching.specs.Variants.adt_on Rattle.pattern_matching.specs.Variants.pattern_matching_variant Rattle.pattern_matching.specs.Variants.variant_pattern Rattle.pattern_matching.specs.Slices.length_constant Rattle.pattern_matching.specs.Slices.length_compared Rattle.pattern_matching.specs.Slices.length_test Rattle.pattern_matching.specs.Slices.rest_bound Rattle.pattern_matching.specs.Slices.slice_items Rattle.pattern_matching.specs.Slices.slice_on Rattle.pattern_matching.specs.Patterns.alternatives Rattle.pattern_matching.specs.Patterns.alternatives_end Rattle.pattern_matching.specs.Patterns.or_pattern Rattle.pattern_matching.specs.Patterns.end_op Rattle.pattern_matching.specs.Patterns.range_pattern Rattle.pattern_matching.specs.Patterns.path_pattern Rattle.pattern_matching.specs.Patterns.bind_pattern Rattle.pattern_matching.specs.Patterns.rest_by Rattle.pattern_matching.specs.Patterns.rest_of Rattle.pattern_matching.specs.Patterns.pattern_match_inner Rattle.pattern_matching.specs.Patterns.lowerings Rattle.pattern_matching.specs.Patterns.lowering? Rattle.pattern_matching.specs.Patterns.pattern_match Rattle.image.specs.Integers.least_value Rattle.image.specs.Integers.greatest_value Rattle.image.specs.Integers.in_range Rattle.image.specs.Integers.integer_value Rattle.cases_spec.specs.Cases.kind_number Rattle.cases_spec.specs.Cases.tuple_fields Rattle.cases_spec.specs.Cases.referent Rattle.counting.specs.Reaching.is_enum Rattle.counting.specs.Reaching.is_slice_shape Rattle.counting.specs.Reaching.behind_derefs Rattle.counting.specs.Reaching.field_count Rattle.counting.specs.Reaching.path_tests Rattle.counting.specs.Reaching.zip Rattle.counting.specs.Reaching.in_a_row Rattle.counting.specs.Reaching.by_fields Rattle.counting.specs.Reaching.downcast Rattle.counting.specs.Reaching.of_variant Rattle.counting.specs.Reaching.slice_arguments Rattle.counting.specs.Reaching.some_argument Rattle.counting.specs.Reaching.all_alternatives Rattle.counting.specs.Reaching.can_fail Rattle.meaning.specs.Values.items Rattle.meaning.specs.Values.values Rattle.meaning.specs.Values.derefed Rattle.meaning.specs.Values.parts_of Rattle.meaning.specs.Values.middle Rattle.meaning.specs.Values.subslice Rattle.meaning.specs.Values.part_at Rattle.meaning.specs.Values.place_in Rattle.meaning.specs.Values.int_fits Rattle.meaning.specs.Values.has_variant Rattle.meaning.specs.Values.value_fits Rattle.meaning.specs.Running.update Rattle.meaning.specs.Running.value_of Rattle.meaning.specs.Running.data_bytes Rattle.meaning.specs.Running.signed_number Rattle.meaning.specs.Running.constant_by Rattle.meaning.specs.Running.constant_value Rattle.meaning.specs.Running.scalar_of Rattle.meaning.specs.Running.bytes_of Rattle.meaning.specs.Running.same_numbers Rattle.meaning.specs.Running.same_value Rattle.meaning.specs.Running.compared Rattle.meaning.specs.Running.discriminant_of Rattle.meaning.specs.Running.elem_numbers Rattle.meaning.specs.Running.same_elem Rattle.meaning.specs.Running.behind_root Rattle.meaning.specs.Running.part_behind Rattle.meaning.specs.Running.read Rattle.meaning.specs.Running.of_place_value Rattle.meaning.specs.Running.left_value Rattle.meaning.specs.Running.rvalue_value Rattle.meaning.specs.Running.execute Rattle.meaning.specs.Running.switched Rattle.meaning.specs.Executing.runs Rattle.meaning.specs.Matching.onto Rattle.meaning.specs.Matching.crossed Rattle.meaning.specs.Matching.crossed_path Rattle.meaning.specs.Matching.evaluated Rattle.meaning.specs.Matching.created Rattle.meaning.specs.Matching.from_start Rattle.meaning.specs.Matching.to_end Rattle.meaning.specs.Matching.match_all Rattle.meaning.specs.Matching.match_row Rattle.meaning.specs.Matching.match_fields Rattle.meaning.specs.Matching.is_variant Rattle.meaning.specs.Matching.path_matches Rattle.meaning.specs.Matching.matches Rattle.meaning.specs.Matching.bound_as Rattle.meaning.specs.Matching.bind_all Rattle.meaning.specs.Matching.row_fields Rattle.meaning.specs.Matching.record_fields Rattle.meaning.specs.Matching.last_items Rattle.meaning.specs.Matching.variant_path Rattle.meaning.specs.Binding.rest_binds? Rattle.meaning.specs.Binding.binds Rattle.meaning.specs.Typing.adt_variants Rattle.meaning.specs.Typing.variant_fields Rattle.meaning.specs.Typing.field_type Rattle.meaning.specs.Typing.element_type Rattle.meaning.specs.Fit.behind Rattle.meaning.specs.Fit.type_is_the_places Rattle.meaning.specs.Fit.arguments_fit Rattle.meaning.specs.Fit.field_numbers Rattle.meaning.specs.Fit.discriminants_differ Rattle.meaning.specs.Fit.items_fit Rattle.meaning.specs.Fit.rest_fits Rattle.meaning.specs.Fit.integer_fits Rattle.meaning.specs.Fit.refers_to_str Rattle.meaning.specs.Fit.constant_fits Rattle.meaning.specs.Fit.literal_fits Rattle.meaning.specs.Fit.end_fits Rattle.meaning.specs.Fit.path_fits Rattle.meaning.specs.Fit.each_fits Rattle.meaning.specs.Fit.row_fits Rattle.meaning.specs.Fit.by_fields_fit Rattle.meaning.specs.Fit.items_all_fit Rattle.meaning.specs.Fit.types_fit Rattle.meaning.specs.Fit.stands_in Rattle.meaning.specs.Fit.within Rattle.meaning.specs.Fit.rest_ty Rattle.meaning.specs.Fit.rest_bound? Rattle.meaning.specs.Fit.pat_count Rattle.meaning.specs.Fit.bound_in Rattle.meaning.specs.Fit.bindings_fit Rattle.meaning.specs.Fit.fields_there Rattle.meaning.specs.Fit.path_taken Rattle.meaning.specs.Fit.nothing_refused Rattle.meaning.specs.Fit.present Rattle.meaning.specs.Fit.locals_differ Rattle.meaning.specs.Fit.fits start_state start try judged
as_judged = refl
