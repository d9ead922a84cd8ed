-- Texts read over sheets and name tables: the definitions, computed. Assumes nothing.
use Prim.Native.Nat.{ℕ, ◌+◌, ◌*◌, ◌%◌}
use mathlib.Core.Path.{◌≡◌, refl}
use mathlib.Core.List.{List, [], ◌∷◌, map}
use Rattle.text_chars.specs.Bytes.{ascii}
use Rattle.reading_samples.proofs.Tables.{Row, row, given, wants, total, told, types_told, patterns_told, bindings_told, draft_told, drafted, answered, laser_names, laser_sheet, mixed_names, mixed_sheet, text_names, text_sheet}

unfoldable pub rows_typed2 : List Row
rows_typed2 =
    row (ascii "Entry { finish: Disqualified(Protest(10 | 18 | 31)), .. }  // out by a rule on right of way or on touching a mark") laser_sheet laser_names 14 (1 ∷ 0 ∷ 7 ∷ 10 ∷ 7 ∷ 0 ∷ 25 ∷ 0 ∷ 0 ∷ 0 ∷ 10 ∷ 7 ∷ 0 ∷ 28 ∷ 0 ∷ 0 ∷ 0 ∷ 10 ∷ 7 ∷ 0 ∷ 31 ∷ 0 ∷ 0 ∷ 0 ∷ 5 ∷ 7 ∷ 0 ∷ 34 ∷ 3 ∷ 0 ∷ 0 ∷ 12 ∷ 1 ∷ 0 ∷ 37 ∷ 1 ∷ 65535 ∷ 6 ∷ 12 ∷ 0 ∷ 0 ∷ 38 ∷ 1 ∷ 65535 ∷ 2 ∷ 6 ∷ 3 ∷ 1 ∷ 39 ∷ 1 ∷ 10 ∷ 0 ∷ 0 ∷ 16 ∷ 2 ∷ 186 ∷ 16 ∷ 2 ∷ 202 ∷ 16 ∷ 2 ∷ 218 ∷ 16 ∷ 0 ∷ 1 ∷ 2 ∷ 3 ∷ 4 ∷ 1 ∷ 5 ∷ 10 ∷ 0 ∷ 0 ∷ 0 ∷ 0 ∷ 0 ∷ 0 ∷ 0 ∷ 0 ∷ 0 ∷ 0 ∷ 0 ∷ 0 ∷ 0 ∷ 0 ∷ 0 ∷ 18 ∷ 0 ∷ 0 ∷ 0 ∷ 0 ∷ 0 ∷ 0 ∷ 0 ∷ 0 ∷ 0 ∷ 0 ∷ 0 ∷ 0 ∷ 0 ∷ 0 ∷ 0 ∷ 31 ∷ 0 ∷ 0 ∷ 0 ∷ 0 ∷ 0 ∷ 0 ∷ 0 ∷ 0 ∷ 0 ∷ 0 ∷ 0 ∷ 0 ∷ 0 ∷ 0 ∷ 0 ∷ [])
    ∷ row (ascii "Entry { finish: Disqualified(cause @ (Gear | Conduct)), boat: Boat { sail, rig: _ }, .. }  // out for another cause, with her sail number") laser_sheet laser_names 14 (1 ∷ 2 ∷ 7 ∷ 1 ∷ 0 ∷ 0 ∷ 1 ∷ 7 ∷ 5 ∷ 0 ∷ 0 ∷ 1 ∷ 9 ∷ 9 ∷ 1 ∷ 0 ∷ 1 ∷ 7 ∷ 0 ∷ 0 ∷ 9 ∷ 1 ∷ 0 ∷ 1 ∷ 8 ∷ 0 ∷ 0 ∷ 5 ∷ 1 ∷ 0 ∷ 25 ∷ 2 ∷ 0 ∷ 0 ∷ 11 ∷ 1 ∷ 0 ∷ 0 ∷ 2 ∷ 1 ∷ 0 ∷ 12 ∷ 0 ∷ 0 ∷ 27 ∷ 1 ∷ 65535 ∷ 2 ∷ 11 ∷ 5 ∷ 0 ∷ 1 ∷ 65535 ∷ 1 ∷ 0 ∷ 3 ∷ 8 ∷ 0 ∷ 0 ∷ 0 ∷ 0 ∷ 0 ∷ 6 ∷ 2 ∷ 0 ∷ 28 ∷ 2 ∷ 9 ∷ 0 ∷ 6 ∷ 3 ∷ 1 ∷ 32 ∷ 2 ∷ 10 ∷ 0 ∷ 2 ∷ 15 ∷ 1 ∷ 16 ∷ 1 ∷ 11 ∷ 0 ∷ 1 ∷ 3 ∷ 0 ∷ 5 ∷ 1 ∷ 6 ∷ 1 ∷ 4 ∷ 0 ∷ 7 ∷ [])
    ∷ row (ascii "Entry { places: [first, .., last], finish: _, .. }  // the first and the last race of the series") laser_sheet laser_names 14 (1 ∷ 1 ∷ 7 ∷ 4 ∷ 0 ∷ 0 ∷ 1 ∷ 6 ∷ 11 ∷ 4 ∷ 0 ∷ 0 ∷ 65535 ∷ 1 ∷ 0 ∷ 1 ∷ 9 ∷ 0 ∷ 0 ∷ 0 ∷ 0 ∷ 0 ∷ 11 ∷ 4 ∷ 0 ∷ 1 ∷ 65535 ∷ 1 ∷ 0 ∷ 8 ∷ 9 ∷ 0 ∷ 25 ∷ 1 ∷ 1 ∷ 1 ∷ 3 ∷ 0 ∷ 0 ∷ 0 ∷ 0 ∷ 0 ∷ 0 ∷ 6 ∷ 3 ∷ 1 ∷ 27 ∷ 2 ∷ 10 ∷ 0 ∷ 2 ∷ 15 ∷ 1 ∷ 15 ∷ 1 ∷ 6 ∷ 0 ∷ 2 ∷ 2 ∷ 3 ∷ 1 ∷ 4 ∷ [])
    ∷ row (ascii "Entry { places: [FLEET, rest @ ..] | [rest @ .., FLEET], .. }  // last of the whole fleet in the first or the last race, and her other races") laser_sheet laser_names 14 (1 ∷ 2 ∷ 8 ∷ 4 ∷ 5 ∷ 0 ∷ 1 ∷ 7 ∷ 15 ∷ 0 ∷ 0 ∷ 1 ∷ 10 ∷ 9 ∷ 4 ∷ 0 ∷ 3 ∷ 16 ∷ 0 ∷ 0 ∷ 1 ∷ 9 ∷ 0 ∷ 0 ∷ 0 ∷ 0 ∷ 0 ∷ 11 ∷ 9 ∷ 0 ∷ 0 ∷ 1 ∷ 1 ∷ 0 ∷ 8 ∷ 9 ∷ 0 ∷ 25 ∷ 1 ∷ 0 ∷ 2 ∷ 1 ∷ 9 ∷ 0 ∷ 0 ∷ 0 ∷ 0 ∷ 0 ∷ 11 ∷ 9 ∷ 0 ∷ 0 ∷ 4 ∷ 1 ∷ 0 ∷ 9 ∷ 4 ∷ 0 ∷ 3 ∷ 16 ∷ 0 ∷ 0 ∷ 8 ∷ 9 ∷ 0 ∷ 26 ∷ 0 ∷ 1 ∷ 5 ∷ 5 ∷ 9 ∷ 0 ∷ 27 ∷ 2 ∷ 0 ∷ 0 ∷ 6 ∷ 3 ∷ 1 ∷ 29 ∷ 1 ∷ 10 ∷ 0 ∷ 1 ∷ 16 ∷ 1 ∷ 6 ∷ 0 ∷ 6 ∷ 3 ∷ 7 ∷ 2 ∷ 8 ∷ [])
    ∷ row (ascii "Entry { boat: Boat { rig: RADIAL | 'r', .. }, crew: [] | [_], fees: (.., -100..=-1), .. }  // a small rig sailed alone, and money still owed") laser_sheet laser_names 14 (1 ∷ 0 ∷ 11 ∷ 9 ∷ 8 ∷ 0 ∷ 3 ∷ 22 ∷ 0 ∷ 0 ∷ 10 ∷ 8 ∷ 0 ∷ 25 ∷ 0 ∷ 0 ∷ 0 ∷ 5 ∷ 8 ∷ 0 ∷ 28 ∷ 2 ∷ 0 ∷ 0 ∷ 6 ∷ 2 ∷ 0 ∷ 30 ∷ 1 ∷ 9 ∷ 0 ∷ 8 ∷ 10 ∷ 1 ∷ 0 ∷ 0 ∷ 0 ∷ 65535 ∷ 3 ∷ 7 ∷ 0 ∷ 0 ∷ 0 ∷ 0 ∷ 0 ∷ 8 ∷ 10 ∷ 1 ∷ 32 ∷ 1 ∷ 0 ∷ 65535 ∷ 5 ∷ 11 ∷ 0 ∷ 33 ∷ 2 ∷ 0 ∷ 0 ∷ 7 ∷ 12 ∷ 0 ∷ 35 ∷ 38 ∷ 0 ∷ 0 ∷ 4 ∷ 13 ∷ 0 ∷ 41 ∷ 1 ∷ 0 ∷ 0 ∷ 6 ∷ 3 ∷ 1 ∷ 42 ∷ 3 ∷ 10 ∷ 0 ∷ 0 ∷ 23 ∷ 3 ∷ 186 ∷ 4 ∷ 0 ∷ 1 ∷ 1 ∷ 2 ∷ 5 ∷ 4 ∷ 6 ∷ 1 ∷ 190 ∷ 16 ∷ 1 ∷ 206 ∷ 16 ∷ 8 ∷ 0 ∷ 3 ∷ 3 ∷ 7 ∷ 4 ∷ 9 ∷ 114 ∷ 0 ∷ 0 ∷ 0 ∷ 156 ∷ 255 ∷ 255 ∷ 255 ∷ 255 ∷ 255 ∷ 255 ∷ 255 ∷ 255 ∷ 255 ∷ 255 ∷ 255 ∷ 255 ∷ 255 ∷ 255 ∷ 255 ∷ 255 ∷ 255 ∷ 255 ∷ 255 ∷ 255 ∷ 255 ∷ 255 ∷ 255 ∷ 255 ∷ 255 ∷ 255 ∷ 255 ∷ 255 ∷ 255 ∷ 255 ∷ 255 ∷ [])
    ∷ row (ascii "&Entry { finish: ref outcome @ (Finished { .. } | Redress(1..)), boat: Boat { ref sail, .. }, .. }  // scored, by her place or by redress") laser_sheet laser_names 14 (1 ∷ 2 ∷ 7 ∷ 0 ∷ 0 ∷ 0 ∷ 1 ∷ 7 ∷ 5 ∷ 0 ∷ 0 ∷ 1 ∷ 9 ∷ 6 ∷ 0 ∷ 0 ∷ 0 ∷ 0 ∷ 0 ∷ 0 ∷ 7 ∷ 4 ∷ 0 ∷ 25 ∷ 65535 ∷ 1 ∷ 0 ∷ 12 ∷ 0 ∷ 0 ∷ 28 ∷ 1 ∷ 65535 ∷ 5 ∷ 5 ∷ 0 ∷ 0 ∷ 29 ∷ 2 ∷ 0 ∷ 0 ∷ 11 ∷ 0 ∷ 0 ∷ 0 ∷ 3 ∷ 1 ∷ 2 ∷ 11 ∷ 5 ∷ 0 ∷ 1 ∷ 65535 ∷ 1 ∷ 2 ∷ 6 ∷ 2 ∷ 0 ∷ 31 ∷ 1 ∷ 9 ∷ 0 ∷ 6 ∷ 3 ∷ 0 ∷ 33 ∷ 2 ∷ 10 ∷ 0 ∷ 13 ∷ 14 ∷ 0 ∷ 7 ∷ 0 ∷ 0 ∷ 0 ∷ 2 ∷ 15 ∷ 1 ∷ 16 ∷ 1 ∷ 12 ∷ 2 ∷ 186 ∷ 16 ∷ 1 ∷ 0 ∷ 2 ∷ 0 ∷ 5 ∷ 1 ∷ 4 ∷ 0 ∷ 6 ∷ 1 ∷ 0 ∷ 0 ∷ 0 ∷ 0 ∷ 0 ∷ 0 ∷ 0 ∷ 0 ∷ 0 ∷ 0 ∷ 0 ∷ 0 ∷ 0 ∷ 0 ∷ 0 ∷ [])
    ∷ row (ascii "(5, mut v1)") text_sheet text_names 28 (1 ∷ 0 ∷ 3 ∷ 10 ∷ 6 ∷ 1 ∷ 43 ∷ 0 ∷ 0 ∷ 0 ∷ 11 ∷ 27 ∷ 0 ∷ 0 ∷ 65535 ∷ 0 ∷ 1 ∷ 4 ∷ 28 ∷ 0 ∷ 46 ∷ 2 ∷ 65535 ∷ 0 ∷ 1 ∷ 27 ∷ 1 ∷ 5 ∷ 2 ∷ 119 ∷ 16 ∷ 0 ∷ 1 ∷ 5 ∷ 0 ∷ 0 ∷ 0 ∷ 0 ∷ 0 ∷ 0 ∷ 0 ∷ 0 ∷ 0 ∷ 0 ∷ 0 ∷ 0 ∷ 0 ∷ 0 ∷ 0 ∷ [])
    ∷ row (ascii "Pair(5 | _, 1) | (.., &1) | Pair(_, 0)") text_sheet text_names 2 (0 ∷ 20 ∷ 22 ∷ [])
    ∷ row (ascii "mut v1") text_sheet text_names 5 (1 ∷ 0 ∷ 1 ∷ 11 ∷ 5 ∷ 0 ∷ 0 ∷ 65535 ∷ 0 ∷ 1 ∷ 1 ∷ 5 ∷ 1 ∷ 0 ∷ [])
    ∷ row (ascii "[[3..=7, .., true, 0..=5], ref mut v2]") text_sheet text_names 25 (1 ∷ 1 ∷ 7 ∷ 11 ∷ 0 ∷ 0 ∷ 0 ∷ 7 ∷ 7 ∷ 6 ∷ 0 ∷ 43 ∷ 46 ∷ 0 ∷ 0 ∷ 1 ∷ 11 ∷ 0 ∷ 0 ∷ 0 ∷ 0 ∷ 0 ∷ 10 ∷ 6 ∷ 0 ∷ 49 ∷ 0 ∷ 0 ∷ 0 ∷ 7 ∷ 6 ∷ 0 ∷ 52 ∷ 55 ∷ 0 ∷ 0 ∷ 8 ∷ 11 ∷ 0 ∷ 58 ∷ 1 ∷ 2 ∷ 1 ∷ 11 ∷ 11 ∷ 0 ∷ 0 ∷ 65535 ∷ 2 ∷ 2 ∷ 8 ∷ 25 ∷ 0 ∷ 61 ∷ 2 ∷ 0 ∷ 65535 ∷ 1 ∷ 31 ∷ 1 ∷ 20 ∷ 2 ∷ 119 ∷ 16 ∷ 2 ∷ 135 ∷ 16 ∷ 4 ∷ 151 ∷ 1 ∷ 2 ∷ 152 ∷ 16 ∷ 2 ∷ 168 ∷ 16 ∷ 0 ∷ 2 ∷ 3 ∷ 4 ∷ 5 ∷ 3 ∷ 0 ∷ 0 ∷ 0 ∷ 0 ∷ 0 ∷ 0 ∷ 0 ∷ 0 ∷ 0 ∷ 0 ∷ 0 ∷ 0 ∷ 0 ∷ 0 ∷ 0 ∷ 7 ∷ 0 ∷ 0 ∷ 0 ∷ 0 ∷ 0 ∷ 0 ∷ 0 ∷ 0 ∷ 0 ∷ 0 ∷ 0 ∷ 0 ∷ 0 ∷ 0 ∷ 0 ∷ 1 ∷ 0 ∷ 0 ∷ 0 ∷ 0 ∷ 0 ∷ 0 ∷ 0 ∷ 0 ∷ 0 ∷ 0 ∷ 0 ∷ 0 ∷ 0 ∷ 0 ∷ 0 ∷ 0 ∷ 5 ∷ 0 ∷ 0 ∷ 0 ∷ 0 ∷ 0 ∷ 0 ∷ 0 ∷ 0 ∷ 0 ∷ 0 ∷ 0 ∷ 0 ∷ 0 ∷ 0 ∷ 0 ∷ [])
    ∷ row (ascii "[v1, mut v2, ref v3 @ ..]") text_sheet text_names 25 (1 ∷ 2 ∷ 8 ∷ 11 ∷ 0 ∷ 0 ∷ 1 ∷ 7 ∷ 31 ∷ 0 ∷ 0 ∷ 1 ∷ 5 ∷ 11 ∷ 11 ∷ 0 ∷ 0 ∷ 65535 ∷ 0 ∷ 0 ∷ 11 ∷ 11 ∷ 0 ∷ 1 ∷ 65535 ∷ 0 ∷ 1 ∷ 1 ∷ 25 ∷ 0 ∷ 0 ∷ 0 ∷ 0 ∷ 0 ∷ 11 ∷ 25 ∷ 0 ∷ 2 ∷ 2 ∷ 1 ∷ 2 ∷ 8 ∷ 25 ∷ 0 ∷ 43 ∷ 2 ∷ 0 ∷ 3 ∷ 3 ∷ 11 ∷ 1 ∷ 11 ∷ 1 ∷ 32 ∷ 1 ∷ 2 ∷ 0 ∷ 1 ∷ [])
    ∷ row (ascii "ref mut v1") text_sheet text_names 10 (1 ∷ 1 ∷ 7 ∷ 10 ∷ 0 ∷ 0 ∷ 0 ∷ 1 ∷ 11 ∷ 10 ∷ 0 ∷ 0 ∷ 65535 ∷ 2 ∷ 2 ∷ 1 ∷ 31 ∷ 1 ∷ 0 ∷ [])
    ∷ row (ascii "[P { y: 40, x: ref mut v1 @ 40 }, P { mut x, y: (1) }, ref v2 @ ..]") text_sheet text_names 20 (1 ∷ 2 ∷ 8 ∷ 1 ∷ 2 ∷ 0 ∷ 1 ∷ 7 ∷ 31 ∷ 0 ∷ 0 ∷ 1 ∷ 10 ∷ 10 ∷ 8 ∷ 0 ∷ 43 ∷ 0 ∷ 0 ∷ 0 ∷ 10 ∷ 6 ∷ 0 ∷ 46 ∷ 0 ∷ 0 ∷ 0 ∷ 11 ∷ 6 ∷ 0 ∷ 0 ∷ 1 ∷ 2 ∷ 2 ∷ 6 ∷ 1 ∷ 0 ∷ 49 ∷ 2 ∷ 3 ∷ 0 ∷ 11 ∷ 6 ∷ 0 ∷ 1 ∷ 65535 ∷ 0 ∷ 1 ∷ 10 ∷ 8 ∷ 0 ∷ 53 ∷ 0 ∷ 0 ∷ 0 ∷ 6 ∷ 1 ∷ 0 ∷ 56 ∷ 2 ∷ 3 ∷ 0 ∷ 1 ∷ 20 ∷ 0 ∷ 0 ∷ 0 ∷ 0 ∷ 0 ∷ 11 ∷ 20 ∷ 0 ∷ 2 ∷ 7 ∷ 1 ∷ 2 ∷ 8 ∷ 20 ∷ 0 ∷ 60 ∷ 2 ∷ 0 ∷ 8 ∷ 3 ∷ 27 ∷ 1 ∷ 6 ∷ 1 ∷ 32 ∷ 1 ∷ 19 ∷ 2 ∷ 119 ∷ 16 ∷ 2 ∷ 135 ∷ 16 ∷ 1 ∷ 0 ∷ 0 ∷ 2 ∷ 2 ∷ 151 ∷ 16 ∷ 0 ∷ 4 ∷ 1 ∷ 5 ∷ 3 ∷ 6 ∷ 40 ∷ 0 ∷ 0 ∷ 0 ∷ 0 ∷ 0 ∷ 0 ∷ 0 ∷ 0 ∷ 0 ∷ 0 ∷ 0 ∷ 0 ∷ 0 ∷ 0 ∷ 0 ∷ 40 ∷ 0 ∷ 0 ∷ 0 ∷ 0 ∷ 0 ∷ 0 ∷ 0 ∷ 0 ∷ 0 ∷ 0 ∷ 0 ∷ 0 ∷ 0 ∷ 0 ∷ 0 ∷ 1 ∷ 0 ∷ 0 ∷ 0 ∷ 0 ∷ 0 ∷ 0 ∷ 0 ∷ 0 ∷ 0 ∷ 0 ∷ 0 ∷ 0 ∷ 0 ∷ 0 ∷ 0 ∷ [])
    ∷ row (ascii "&Pair(0, 0)") text_sheet text_names 23 (1 ∷ 0 ∷ 4 ∷ 10 ∷ 6 ∷ 0 ∷ 43 ∷ 0 ∷ 0 ∷ 0 ∷ 10 ∷ 6 ∷ 0 ∷ 46 ∷ 0 ∷ 0 ∷ 0 ∷ 12 ∷ 2 ∷ 0 ∷ 49 ∷ 2 ∷ 65535 ∷ 4 ∷ 13 ∷ 23 ∷ 0 ∷ 2 ∷ 0 ∷ 0 ∷ 0 ∷ 0 ∷ 8 ∷ 2 ∷ 119 ∷ 16 ∷ 2 ∷ 135 ∷ 16 ∷ 0 ∷ 1 ∷ 0 ∷ 0 ∷ 0 ∷ 0 ∷ 0 ∷ 0 ∷ 0 ∷ 0 ∷ 0 ∷ 0 ∷ 0 ∷ 0 ∷ 0 ∷ 0 ∷ 0 ∷ 0 ∷ 0 ∷ 0 ∷ 0 ∷ 0 ∷ 0 ∷ 0 ∷ 0 ∷ 0 ∷ 0 ∷ 0 ∷ 0 ∷ 0 ∷ 0 ∷ 0 ∷ 0 ∷ 0 ∷ [])
    ∷ row (ascii "Pair(ref v1, ..)") text_sheet text_names 2 (1 ∷ 0 ∷ 2 ∷ 11 ∷ 6 ∷ 0 ∷ 0 ∷ 65535 ∷ 1 ∷ 2 ∷ 12 ∷ 2 ∷ 0 ∷ 43 ∷ 1 ∷ 1 ∷ 4 ∷ 1 ∷ 26 ∷ 1 ∷ 1 ∷ 0 ∷ [])
    ∷ row (ascii "P { x: _ | _ | _, y: -129..=0 }") text_sheet text_names 21 (1 ∷ 0 ∷ 6 ∷ 3 ∷ 6 ∷ 0 ∷ 0 ∷ 0 ∷ 0 ∷ 0 ∷ 3 ∷ 6 ∷ 0 ∷ 0 ∷ 0 ∷ 0 ∷ 0 ∷ 3 ∷ 6 ∷ 0 ∷ 0 ∷ 0 ∷ 0 ∷ 0 ∷ 5 ∷ 6 ∷ 0 ∷ 43 ∷ 3 ∷ 0 ∷ 0 ∷ 7 ∷ 8 ∷ 0 ∷ 46 ∷ 49 ∷ 0 ∷ 0 ∷ 6 ∷ 1 ∷ 1 ∷ 52 ∷ 2 ∷ 3 ∷ 0 ∷ 0 ∷ 13 ∷ 0 ∷ 1 ∷ 2 ∷ 1 ∷ 119 ∷ 16 ∷ 2 ∷ 135 ∷ 16 ∷ 0 ∷ 3 ∷ 1 ∷ 4 ∷ 127 ∷ 255 ∷ 255 ∷ 255 ∷ 255 ∷ 255 ∷ 255 ∷ 255 ∷ 255 ∷ 255 ∷ 255 ∷ 255 ∷ 255 ∷ 255 ∷ 255 ∷ 255 ∷ 0 ∷ 0 ∷ 0 ∷ 0 ∷ 0 ∷ 0 ∷ 0 ∷ 0 ∷ 0 ∷ 0 ∷ 0 ∷ 0 ∷ 0 ∷ 0 ∷ 0 ∷ 0 ∷ [])
    ∷ row (ascii "&(ref mut v1)") text_sheet text_names 23 (1 ∷ 1 ∷ 7 ∷ 2 ∷ 0 ∷ 0 ∷ 0 ∷ 2 ∷ 11 ∷ 2 ∷ 0 ∷ 0 ∷ 65535 ∷ 2 ∷ 2 ∷ 13 ∷ 23 ∷ 0 ∷ 0 ∷ 0 ∷ 0 ∷ 0 ∷ 1 ∷ 31 ∷ 1 ∷ 0 ∷ [])
    ∷ row (ascii "[..,]") text_sheet text_names 12 (1 ∷ 0 ∷ 2 ∷ 1 ∷ 12 ∷ 0 ∷ 0 ∷ 0 ∷ 0 ∷ 0 ∷ 8 ∷ 12 ∷ 0 ∷ 0 ∷ 0 ∷ 0 ∷ 0 ∷ 0 ∷ 0 ∷ [])
    ∷ row (ascii "All { f: v1, h: &mut (&(v2 @ ref v3)), n: 3, .. }") text_sheet text_names 4 (1 ∷ 0 ∷ 7 ∷ 11 ∷ 19 ∷ 0 ∷ 0 ∷ 65535 ∷ 0 ∷ 0 ∷ 11 ∷ 1 ∷ 0 ∷ 1 ∷ 65535 ∷ 1 ∷ 2 ∷ 11 ∷ 1 ∷ 0 ∷ 2 ∷ 1 ∷ 0 ∷ 0 ∷ 13 ∷ 21 ∷ 0 ∷ 2 ∷ 0 ∷ 0 ∷ 0 ∷ 13 ∷ 22 ∷ 0 ∷ 3 ∷ 0 ∷ 0 ∷ 0 ∷ 10 ∷ 29 ∷ 0 ∷ 43 ∷ 0 ∷ 0 ∷ 0 ∷ 6 ∷ 4 ∷ 0 ∷ 46 ∷ 3 ∷ 6 ∷ 0 ∷ 3 ∷ 19 ∷ 1 ∷ 21 ∷ 1 ∷ 1 ∷ 1 ∷ 9 ∷ 2 ∷ 119 ∷ 16 ∷ 5 ∷ 0 ∷ 7 ∷ 4 ∷ 13 ∷ 5 ∷ 3 ∷ 0 ∷ 0 ∷ 0 ∷ 0 ∷ 0 ∷ 0 ∷ 0 ∷ 0 ∷ 0 ∷ 0 ∷ 0 ∷ 0 ∷ 0 ∷ 0 ∷ 0 ∷ [])
    ∷ row (ascii "ref r#v1") text_sheet text_names 2 (1 ∷ 0 ∷ 1 ∷ 11 ∷ 2 ∷ 0 ∷ 0 ∷ 65535 ∷ 1 ∷ 2 ∷ 1 ∷ 23 ∷ 1 ∷ 0 ∷ [])
    ∷ row (ascii "[P { y: ..=100, .. }, P { y: 40, x: Z..2 }, ref mut v1 @ v2, P { .. }]") text_sheet text_names 20 (1 ∷ 1 ∷ 7 ∷ 1 ∷ 0 ∷ 0 ∷ 0 ∷ 9 ∷ 7 ∷ 8 ∷ 0 ∷ 65535 ∷ 43 ∷ 0 ∷ 0 ∷ 6 ∷ 1 ∷ 0 ∷ 46 ∷ 1 ∷ 3 ∷ 0 ∷ 10 ∷ 8 ∷ 0 ∷ 48 ∷ 0 ∷ 0 ∷ 0 ∷ 7 ∷ 6 ∷ 0 ∷ 15 ∷ 51 ∷ 1 ∷ 0 ∷ 6 ∷ 1 ∷ 0 ∷ 54 ∷ 2 ∷ 3 ∷ 0 ∷ 11 ∷ 1 ∷ 0 ∷ 0 ∷ 65535 ∷ 0 ∷ 0 ∷ 11 ∷ 1 ∷ 0 ∷ 1 ∷ 5 ∷ 2 ∷ 2 ∷ 6 ∷ 1 ∷ 0 ∷ 0 ∷ 0 ∷ 3 ∷ 0 ∷ 8 ∷ 20 ∷ 0 ∷ 58 ∷ 4 ∷ 0 ∷ 65535 ∷ 2 ∷ 1 ∷ 1 ∷ 31 ∷ 1 ∷ 19 ∷ 2 ∷ 119 ∷ 16 ∷ 1 ∷ 0 ∷ 2 ∷ 135 ∷ 16 ∷ 2 ∷ 151 ∷ 16 ∷ 1 ∷ 2 ∷ 0 ∷ 3 ∷ 1 ∷ 4 ∷ 6 ∷ 7 ∷ 100 ∷ 0 ∷ 0 ∷ 0 ∷ 0 ∷ 0 ∷ 0 ∷ 0 ∷ 0 ∷ 0 ∷ 0 ∷ 0 ∷ 0 ∷ 0 ∷ 0 ∷ 0 ∷ 40 ∷ 0 ∷ 0 ∷ 0 ∷ 0 ∷ 0 ∷ 0 ∷ 0 ∷ 0 ∷ 0 ∷ 0 ∷ 0 ∷ 0 ∷ 0 ∷ 0 ∷ 0 ∷ 2 ∷ 0 ∷ 0 ∷ 0 ∷ 0 ∷ 0 ∷ 0 ∷ 0 ∷ 0 ∷ 0 ∷ 0 ∷ 0 ∷ 0 ∷ 0 ∷ 0 ∷ 0 ∷ [])
    ∷ row (ascii "&ref mut v1") laser_sheet laser_names 14 (1 ∷ 1 ∷ 7 ∷ 3 ∷ 0 ∷ 0 ∷ 0 ∷ 2 ∷ 11 ∷ 3 ∷ 0 ∷ 0 ∷ 65535 ∷ 2 ∷ 2 ∷ 13 ∷ 14 ∷ 0 ∷ 0 ∷ 0 ∷ 0 ∷ 0 ∷ 1 ∷ 15 ∷ 1 ∷ 0 ∷ [])
    ∷ row (ascii "40") laser_sheet laser_names 5 (1 ∷ 0 ∷ 1 ∷ 10 ∷ 5 ∷ 0 ∷ 25 ∷ 0 ∷ 0 ∷ 0 ∷ 0 ∷ 3 ∷ 2 ∷ 186 ∷ 16 ∷ 40 ∷ 0 ∷ 0 ∷ 0 ∷ 0 ∷ 0 ∷ 0 ∷ 0 ∷ 0 ∷ 0 ∷ 0 ∷ 0 ∷ 0 ∷ 0 ∷ 0 ∷ 0 ∷ [])
    ∷ row (39 ∷ 92 ∷ 39 ∷ 39 ∷ []) laser_sheet laser_names 8 (1 ∷ 0 ∷ 1 ∷ 10 ∷ 8 ∷ 0 ∷ 25 ∷ 0 ∷ 0 ∷ 0 ∷ 0 ∷ 3 ∷ 3 ∷ 186 ∷ 4 ∷ 39 ∷ 0 ∷ 0 ∷ 0 ∷ [])
    ∷ row (ascii "_ | Gear | _") laser_sheet laser_names 1 (1 ∷ 0 ∷ 4 ∷ 3 ∷ 1 ∷ 0 ∷ 0 ∷ 0 ∷ 0 ∷ 0 ∷ 9 ∷ 1 ∷ 0 ∷ 1 ∷ 7 ∷ 0 ∷ 0 ∷ 3 ∷ 1 ∷ 0 ∷ 0 ∷ 0 ∷ 0 ∷ 0 ∷ 5 ∷ 1 ∷ 0 ∷ 25 ∷ 3 ∷ 0 ∷ 0 ∷ 0 ∷ 3 ∷ 0 ∷ 1 ∷ 2 ∷ [])
    ∷ row (ascii "[..40, _, r#v1 @ rules::LIMIT, false, 40, v2 @ ..]") laser_sheet laser_names 7 (0 ∷ 20 ∷ 1 ∷ [])
    ∷ row (40 ∷ 46 ∷ 46 ∷ 61 ∷ 52 ∷ 48 ∷ 41 ∷ 32 ∷ 124 ∷ 10 ∷ 50 ∷ 46 ∷ 46 ∷ 49 ∷ 48 ∷ 48 ∷ []) laser_sheet laser_names 5 (1 ∷ 0 ∷ 3 ∷ 7 ∷ 5 ∷ 0 ∷ 65535 ∷ 25 ∷ 0 ∷ 0 ∷ 7 ∷ 5 ∷ 0 ∷ 28 ∷ 31 ∷ 1 ∷ 0 ∷ 5 ∷ 5 ∷ 0 ∷ 34 ∷ 2 ∷ 0 ∷ 0 ∷ 0 ∷ 11 ∷ 2 ∷ 186 ∷ 16 ∷ 2 ∷ 202 ∷ 16 ∷ 2 ∷ 218 ∷ 16 ∷ 0 ∷ 1 ∷ 40 ∷ 0 ∷ 0 ∷ 0 ∷ 0 ∷ 0 ∷ 0 ∷ 0 ∷ 0 ∷ 0 ∷ 0 ∷ 0 ∷ 0 ∷ 0 ∷ 0 ∷ 0 ∷ 2 ∷ 0 ∷ 0 ∷ 0 ∷ 0 ∷ 0 ∷ 0 ∷ 0 ∷ 0 ∷ 0 ∷ 0 ∷ 0 ∷ 0 ∷ 0 ∷ 0 ∷ 0 ∷ 100 ∷ 0 ∷ 0 ∷ 0 ∷ 0 ∷ 0 ∷ 0 ∷ 0 ∷ 0 ∷ 0 ∷ 0 ∷ 0 ∷ 0 ∷ 0 ∷ 0 ∷ 0 ∷ [])
    ∷ row (ascii "1") laser_sheet laser_names 1 (1 ∷ 0 ∷ 1 ∷ 10 ∷ 1 ∷ 0 ∷ 25 ∷ 0 ∷ 0 ∷ 0 ∷ 0 ∷ 3 ∷ 2 ∷ 186 ∷ 16 ∷ 1 ∷ 0 ∷ 0 ∷ 0 ∷ 0 ∷ 0 ∷ 0 ∷ 0 ∷ 0 ∷ 0 ∷ 0 ∷ 0 ∷ 0 ∷ 0 ∷ 0 ∷ 0 ∷ [])
    ∷ row (ascii "Conduct") laser_sheet laser_names 1 (1 ∷ 0 ∷ 1 ∷ 9 ∷ 1 ∷ 0 ∷ 1 ∷ 8 ∷ 0 ∷ 0 ∷ 0 ∷ 0 ∷ [])
    ∷ row (ascii "ref mut v1") laser_sheet laser_names 13 (1 ∷ 1 ∷ 7 ∷ 13 ∷ 0 ∷ 0 ∷ 0 ∷ 1 ∷ 11 ∷ 13 ∷ 0 ∷ 0 ∷ 65535 ∷ 2 ∷ 2 ∷ 1 ∷ 15 ∷ 1 ∷ 0 ∷ [])
    ∷ row (ascii "| _") laser_sheet laser_names 3 (1 ∷ 0 ∷ 1 ∷ 3 ∷ 3 ∷ 0 ∷ 0 ∷ 0 ∷ 0 ∷ 0 ∷ 0 ∷ 0 ∷ [])
    ∷ row (ascii "FLEET") laser_sheet laser_names 6 (1 ∷ 0 ∷ 1 ∷ 9 ∷ 6 ∷ 0 ∷ 3 ∷ 16 ∷ 0 ∷ 0 ∷ 0 ∷ 0 ∷ [])
    ∷ row (69 ∷ 110 ∷ 116 ∷ 114 ∷ 121 ∷ 32 ∷ 123 ∷ 32 ∷ 98 ∷ 111 ∷ 97 ∷ 116 ∷ 58 ∷ 32 ∷ 66 ∷ 111 ∷ 97 ∷ 116 ∷ 32 ∷ 123 ∷ 32 ∷ 114 ∷ 105 ∷ 103 ∷ 58 ∷ 32 ∷ 70 ∷ 76 ∷ 69 ∷ 69 ∷ 84 ∷ 46 ∷ 46 ∷ 61 ∷ 39 ∷ 92 ∷ 39 ∷ 39 ∷ 44 ∷ 32 ∷ 115 ∷ 97 ∷ 105 ∷ 108 ∷ 58 ∷ 32 ∷ 50 ∷ 32 ∷ 125 ∷ 44 ∷ 32 ∷ 114 ∷ 101 ∷ 102 ∷ 32 ∷ 112 ∷ 108 ∷ 97 ∷ 99 ∷ 101 ∷ 115 ∷ 44 ∷ 32 ∷ 99 ∷ 114 ∷ 101 ∷ 119 ∷ 58 ∷ 32 ∷ 38 ∷ 40 ∷ 91 ∷ 118 ∷ 49 ∷ 32 ∷ 64 ∷ 32 ∷ 51 ∷ 93 ∷ 41 ∷ 44 ∷ 32 ∷ 102 ∷ 105 ∷ 110 ∷ 105 ∷ 115 ∷ 104 ∷ 58 ∷ 32 ∷ 82 ∷ 101 ∷ 116 ∷ 105 ∷ 114 ∷ 101 ∷ 100 ∷ 32 ∷ 124 ∷ 32 ∷ 82 ∷ 101 ∷ 116 ∷ 105 ∷ 114 ∷ 101 ∷ 100 ∷ 44 ∷ 32 ∷ 102 ∷ 101 ∷ 101 ∷ 115 ∷ 58 ∷ 32 ∷ 40 ∷ 82 ∷ 65 ∷ 68 ∷ 73 ∷ 65 ∷ 76 ∷ 32 ∷ 124 ∷ 32 ∷ 48 ∷ 44 ∷ 32 ∷ 45 ∷ 51 ∷ 50 ∷ 55 ∷ 54 ∷ 56 ∷ 41 ∷ 32 ∷ 125 ∷ []) laser_sheet laser_names 3 (1 ∷ 1 ∷ 7 ∷ 9 ∷ 0 ∷ 0 ∷ 1 ∷ 17 ∷ 7 ∷ 8 ∷ 0 ∷ 16 ∷ 25 ∷ 0 ∷ 0 ∷ 10 ∷ 5 ∷ 0 ∷ 28 ∷ 0 ∷ 0 ∷ 0 ∷ 6 ∷ 2 ∷ 0 ∷ 31 ∷ 2 ∷ 9 ∷ 0 ∷ 11 ∷ 9 ∷ 0 ∷ 0 ∷ 65535 ∷ 1 ∷ 2 ∷ 10 ∷ 7 ∷ 0 ∷ 35 ∷ 0 ∷ 0 ∷ 0 ∷ 11 ∷ 7 ∷ 0 ∷ 1 ∷ 4 ∷ 0 ∷ 0 ∷ 8 ∷ 10 ∷ 0 ∷ 38 ∷ 1 ∷ 0 ∷ 65535 ∷ 13 ∷ 11 ∷ 0 ∷ 6 ∷ 0 ∷ 0 ∷ 0 ∷ 9 ∷ 0 ∷ 0 ∷ 1 ∷ 1 ∷ 0 ∷ 0 ∷ 9 ∷ 0 ∷ 0 ∷ 1 ∷ 1 ∷ 0 ∷ 0 ∷ 5 ∷ 0 ∷ 0 ∷ 39 ∷ 2 ∷ 0 ∷ 0 ∷ 9 ∷ 4 ∷ 0 ∷ 3 ∷ 22 ∷ 0 ∷ 0 ∷ 10 ∷ 4 ∷ 0 ∷ 41 ∷ 0 ∷ 0 ∷ 0 ∷ 5 ∷ 4 ∷ 0 ∷ 44 ∷ 2 ∷ 0 ∷ 0 ∷ 10 ∷ 12 ∷ 0 ∷ 46 ∷ 0 ∷ 0 ∷ 0 ∷ 4 ∷ 13 ∷ 0 ∷ 49 ∷ 2 ∷ 65535 ∷ 0 ∷ 6 ∷ 3 ∷ 0 ∷ 51 ∷ 5 ∷ 10 ∷ 0 ∷ 2 ∷ 15 ∷ 1 ∷ 7 ∷ 1 ∷ 36 ∷ 3 ∷ 186 ∷ 4 ∷ 2 ∷ 190 ∷ 16 ∷ 1 ∷ 0 ∷ 0 ∷ 1 ∷ 2 ∷ 206 ∷ 16 ∷ 5 ∷ 8 ∷ 9 ∷ 2 ∷ 222 ∷ 16 ∷ 11 ∷ 12 ∷ 1 ∷ 238 ∷ 16 ∷ 13 ∷ 14 ∷ 0 ∷ 2 ∷ 2 ∷ 3 ∷ 3 ∷ 7 ∷ 1 ∷ 10 ∷ 4 ∷ 15 ∷ 39 ∷ 0 ∷ 0 ∷ 0 ∷ 2 ∷ 0 ∷ 0 ∷ 0 ∷ 0 ∷ 0 ∷ 0 ∷ 0 ∷ 0 ∷ 0 ∷ 0 ∷ 0 ∷ 0 ∷ 0 ∷ 0 ∷ 0 ∷ 3 ∷ 0 ∷ 0 ∷ 0 ∷ 0 ∷ 0 ∷ 0 ∷ 0 ∷ 0 ∷ 0 ∷ 0 ∷ 0 ∷ 0 ∷ 0 ∷ 0 ∷ 0 ∷ 0 ∷ 0 ∷ 0 ∷ 0 ∷ 0 ∷ 0 ∷ 0 ∷ 0 ∷ 0 ∷ 0 ∷ 0 ∷ 0 ∷ 0 ∷ 0 ∷ 0 ∷ 0 ∷ 0 ∷ 128 ∷ 255 ∷ 255 ∷ 255 ∷ 255 ∷ 255 ∷ 255 ∷ 255 ∷ 255 ∷ 255 ∷ 255 ∷ 255 ∷ 255 ∷ 255 ∷ 255 ∷ [])
    ∷ row (ascii "Entry { .. }") laser_sheet laser_names 14 (1 ∷ 0 ∷ 1 ∷ 6 ∷ 3 ∷ 1 ∷ 0 ∷ 0 ∷ 10 ∷ 0 ∷ 0 ∷ 0 ∷ [])
    ∷ row (ascii "&([ref v1 @ ..])") laser_sheet laser_names 11 (1 ∷ 0 ∷ 4 ∷ 1 ∷ 10 ∷ 0 ∷ 0 ∷ 0 ∷ 0 ∷ 0 ∷ 11 ∷ 10 ∷ 0 ∷ 0 ∷ 0 ∷ 1 ∷ 2 ∷ 8 ∷ 10 ∷ 0 ∷ 0 ∷ 0 ∷ 0 ∷ 1 ∷ 13 ∷ 11 ∷ 0 ∷ 2 ∷ 0 ∷ 0 ∷ 0 ∷ 1 ∷ 11 ∷ 1 ∷ 0 ∷ [])
    ∷ row (ascii "(FLEET)") laser_sheet laser_names 12 (1 ∷ 0 ∷ 1 ∷ 9 ∷ 12 ∷ 0 ∷ 3 ∷ 16 ∷ 0 ∷ 0 ∷ 0 ∷ 0 ∷ [])
    ∷ row (ascii "ref v1") mixed_sheet mixed_names 2 (1 ∷ 1 ∷ 7 ∷ 2 ∷ 0 ∷ 0 ∷ 1 ∷ 1 ∷ 11 ∷ 2 ∷ 0 ∷ 0 ∷ 65535 ∷ 1 ∷ 2 ∷ 1 ∷ 52 ∷ 1 ∷ 0 ∷ [])
    ∷ row (ascii "(.., (_, false,), _ | [.., _, _] | [_, _], Q { b: ref mut v2, a: ..=7 })") mixed_sheet mixed_names 41 (1 ∷ 1 ∷ 7 ∷ 12 ∷ 0 ∷ 0 ∷ 0 ∷ 16 ∷ 3 ∷ 3 ∷ 0 ∷ 0 ∷ 0 ∷ 0 ∷ 0 ∷ 10 ∷ 6 ∷ 0 ∷ 53 ∷ 0 ∷ 0 ∷ 0 ∷ 4 ∷ 7 ∷ 0 ∷ 56 ∷ 2 ∷ 65535 ∷ 0 ∷ 3 ∷ 40 ∷ 0 ∷ 0 ∷ 0 ∷ 0 ∷ 0 ∷ 1 ∷ 40 ∷ 0 ∷ 0 ∷ 0 ∷ 0 ∷ 0 ∷ 3 ∷ 1 ∷ 0 ∷ 0 ∷ 0 ∷ 0 ∷ 0 ∷ 3 ∷ 1 ∷ 0 ∷ 0 ∷ 0 ∷ 0 ∷ 0 ∷ 8 ∷ 40 ∷ 0 ∷ 58 ∷ 0 ∷ 2 ∷ 4 ∷ 3 ∷ 1 ∷ 0 ∷ 0 ∷ 0 ∷ 0 ∷ 0 ∷ 3 ∷ 1 ∷ 0 ∷ 0 ∷ 0 ∷ 0 ∷ 0 ∷ 8 ∷ 40 ∷ 0 ∷ 60 ∷ 2 ∷ 0 ∷ 65535 ∷ 5 ∷ 40 ∷ 0 ∷ 62 ∷ 3 ∷ 0 ∷ 0 ∷ 11 ∷ 12 ∷ 0 ∷ 0 ∷ 65535 ∷ 2 ∷ 2 ∷ 7 ∷ 3 ∷ 0 ∷ 65535 ∷ 65 ∷ 0 ∷ 0 ∷ 6 ∷ 1 ∷ 0 ∷ 68 ∷ 2 ∷ 4 ∷ 0 ∷ 4 ∷ 41 ∷ 0 ∷ 72 ∷ 3 ∷ 0 ∷ 0 ∷ 1 ∷ 52 ∷ 1 ∷ 22 ∷ 4 ∷ 103 ∷ 1 ∷ 0 ∷ 1 ∷ 5 ∷ 6 ∷ 8 ∷ 9 ∷ 3 ∷ 7 ∷ 10 ∷ 2 ∷ 104 ∷ 16 ∷ 1 ∷ 12 ∷ 0 ∷ 13 ∷ 2 ∷ 11 ∷ 14 ∷ 0 ∷ 7 ∷ 0 ∷ 0 ∷ 0 ∷ 0 ∷ 0 ∷ 0 ∷ 0 ∷ 0 ∷ 0 ∷ 0 ∷ 0 ∷ 0 ∷ 0 ∷ 0 ∷ 0 ∷ [])
    ∷ row (ascii "[7, /* a /* b */ */ -32768]") mixed_sheet mixed_names 10 (1 ∷ 0 ∷ 3 ∷ 10 ∷ 8 ∷ 0 ∷ 53 ∷ 0 ∷ 0 ∷ 0 ∷ 10 ∷ 8 ∷ 0 ∷ 56 ∷ 0 ∷ 0 ∷ 0 ∷ 8 ∷ 9 ∷ 1 ∷ 59 ∷ 2 ∷ 0 ∷ 65535 ∷ 0 ∷ 8 ∷ 2 ∷ 103 ∷ 16 ∷ 1 ∷ 119 ∷ 16 ∷ 0 ∷ 1 ∷ 7 ∷ 0 ∷ 0 ∷ 0 ∷ 0 ∷ 0 ∷ 0 ∷ 0 ∷ 0 ∷ 0 ∷ 0 ∷ 0 ∷ 0 ∷ 0 ∷ 0 ∷ 0 ∷ 0 ∷ 128 ∷ 255 ∷ 255 ∷ 255 ∷ 255 ∷ 255 ∷ 255 ∷ 255 ∷ 255 ∷ 255 ∷ 255 ∷ 255 ∷ 255 ∷ 255 ∷ 255 ∷ [])
    ∷ row (ascii "((..), [v2 | v2, Tree::Fork(&mut v3, ref v4, _)], Q { b: (..), a: ref x @ ON })") mixed_sheet mixed_names 42 (0 ∷ 20 ∷ 28 ∷ [])
    ∷ row (ascii "(ref r#v1, ref v2)") mixed_sheet mixed_names 32 (1 ∷ 1 ∷ 7 ∷ 31 ∷ 0 ∷ 0 ∷ 1 ∷ 3 ∷ 11 ∷ 28 ∷ 0 ∷ 0 ∷ 65535 ∷ 1 ∷ 2 ∷ 11 ∷ 31 ∷ 0 ∷ 1 ∷ 65535 ∷ 1 ∷ 2 ∷ 4 ∷ 32 ∷ 0 ∷ 53 ∷ 2 ∷ 65535 ∷ 0 ∷ 2 ∷ 29 ∷ 1 ∷ 52 ∷ 1 ∷ 2 ∷ 0 ∷ 1 ∷ [])
    ∷ row (ascii "(Q { a: ..100, .. }, &_)") mixed_sheet mixed_names 32 (1 ∷ 0 ∷ 5 ∷ 7 ∷ 3 ∷ 0 ∷ 65535 ∷ 53 ∷ 1 ∷ 0 ∷ 6 ∷ 1 ∷ 1 ∷ 56 ∷ 1 ∷ 4 ∷ 0 ∷ 3 ∷ 1 ∷ 0 ∷ 0 ∷ 0 ∷ 0 ∷ 0 ∷ 13 ∷ 31 ∷ 0 ∷ 2 ∷ 0 ∷ 0 ∷ 0 ∷ 4 ∷ 32 ∷ 0 ∷ 58 ∷ 2 ∷ 65535 ∷ 0 ∷ 0 ∷ 7 ∷ 2 ∷ 103 ∷ 16 ∷ 0 ∷ 0 ∷ 1 ∷ 3 ∷ 100 ∷ 0 ∷ 0 ∷ 0 ∷ 0 ∷ 0 ∷ 0 ∷ 0 ∷ 0 ∷ 0 ∷ 0 ∷ 0 ∷ 0 ∷ 0 ∷ 0 ∷ 0 ∷ [])
    ∷ row (ascii "mut v1") mixed_sheet mixed_names 23 (1 ∷ 0 ∷ 1 ∷ 11 ∷ 23 ∷ 0 ∷ 0 ∷ 65535 ∷ 0 ∷ 1 ∷ 1 ∷ 23 ∷ 1 ∷ 0 ∷ [])
    ∷ row (ascii "[_, ref mut x, v2]") mixed_sheet mixed_names 43 (1 ∷ 0 ∷ 4 ∷ 3 ∷ 13 ∷ 0 ∷ 0 ∷ 0 ∷ 0 ∷ 0 ∷ 11 ∷ 13 ∷ 0 ∷ 0 ∷ 65535 ∷ 2 ∷ 2 ∷ 11 ∷ 13 ∷ 0 ∷ 1 ∷ 65535 ∷ 0 ∷ 0 ∷ 8 ∷ 43 ∷ 0 ∷ 53 ∷ 3 ∷ 0 ∷ 65535 ∷ 2 ∷ 14 ∷ 1 ∷ 13 ∷ 1 ∷ 3 ∷ 0 ∷ 1 ∷ 2 ∷ [])
    ∷ row (ascii "1") mixed_sheet mixed_names 8 (1 ∷ 0 ∷ 1 ∷ 10 ∷ 8 ∷ 0 ∷ 53 ∷ 0 ∷ 0 ∷ 0 ∷ 0 ∷ 3 ∷ 2 ∷ 103 ∷ 16 ∷ 1 ∷ 0 ∷ 0 ∷ 0 ∷ 0 ∷ 0 ∷ 0 ∷ 0 ∷ 0 ∷ 0 ∷ 0 ∷ 0 ∷ 0 ∷ 0 ∷ 0 ∷ 0 ∷ [])
    ∷ row (ascii "-32768") mixed_sheet mixed_names 8 (1 ∷ 0 ∷ 1 ∷ 10 ∷ 8 ∷ 0 ∷ 53 ∷ 0 ∷ 0 ∷ 0 ∷ 0 ∷ 3 ∷ 1 ∷ 103 ∷ 16 ∷ 0 ∷ 128 ∷ 255 ∷ 255 ∷ 255 ∷ 255 ∷ 255 ∷ 255 ∷ 255 ∷ 255 ∷ 255 ∷ 255 ∷ 255 ∷ 255 ∷ 255 ∷ 255 ∷ [])
    ∷ row (ascii "v1 @ ref mut v2") mixed_sheet mixed_names 45 (1 ∷ 1 ∷ 7 ∷ 45 ∷ 0 ∷ 0 ∷ 0 ∷ 2 ∷ 11 ∷ 45 ∷ 0 ∷ 0 ∷ 65535 ∷ 2 ∷ 2 ∷ 11 ∷ 45 ∷ 0 ∷ 1 ∷ 0 ∷ 0 ∷ 0 ∷ 2 ∷ 52 ∷ 1 ∷ 45 ∷ 1 ∷ 0 ∷ [])
    ∷ row (ascii "Tree::Bare") mixed_sheet mixed_names 4 (1 ∷ 0 ∷ 1 ∷ 9 ∷ 0 ∷ 1 ∷ 1 ∷ 3 ∷ 0 ∷ 0 ∷ 0 ∷ 0 ∷ [])
    ∷ row (ascii "_") mixed_sheet mixed_names 36 (1 ∷ 0 ∷ 1 ∷ 3 ∷ 36 ∷ 0 ∷ 0 ∷ 0 ∷ 0 ∷ 0 ∷ 0 ∷ 0 ∷ [])
    ∷ row (ascii "_ | _ | _") mixed_sheet mixed_names 47 (1 ∷ 0 ∷ 4 ∷ 3 ∷ 47 ∷ 0 ∷ 0 ∷ 0 ∷ 0 ∷ 0 ∷ 3 ∷ 47 ∷ 0 ∷ 0 ∷ 0 ∷ 0 ∷ 0 ∷ 3 ∷ 47 ∷ 0 ∷ 0 ∷ 0 ∷ 0 ∷ 0 ∷ 5 ∷ 47 ∷ 0 ∷ 53 ∷ 3 ∷ 0 ∷ 0 ∷ 0 ∷ 3 ∷ 0 ∷ 1 ∷ 2 ∷ [])
    ∷ row (ascii "_") mixed_sheet mixed_names 34 (1 ∷ 0 ∷ 1 ∷ 3 ∷ 34 ∷ 0 ∷ 0 ∷ 0 ∷ 0 ∷ 0 ∷ 0 ∷ 0 ∷ [])
    ∷ []

pub as_judged_typed2 : map given rows_typed2 ≡ map wants rows_typed2
unfolding rows_typed2 total told types_told patterns_told bindings_told draft_told drafted answered Rattle.image.specs.Bytes.word_at Rattle.image.specs.Bytes.little_endian Rattle.image.specs.Rows.type_at Rattle.image.specs.Rows.variant_at Rattle.image.specs.Rows.pat_at Rattle.image.specs.Rows.binding_at Rattle.image.specs.Rows.list_at Rattle.image.specs.Rows.operand_at Rattle.image.specs.Rows.operand_bytes Rattle.image.specs.Lists.all_below Rattle.image.specs.Lists.all_in Rattle.image.specs.Lists.all_true Rattle.image.specs.Lists.member Rattle.image.specs.Lists.distinct Rattle.image.specs.Lists.up_from Rattle.image.specs.Lists.gather Rattle.image.specs.Operands.is_scalar_value Rattle.image.specs.Operands.operand_value_holds Rattle.image.specs.Operands.operand_holds Rattle.image.specs.Rules.counts_what_follows Rattle.image.specs.Rules.version_is_one Rattle.image.specs.Rules.tables_fill_the_rest Rattle.image.specs.Rules.listed Rattle.image.specs.Rules.types_listed Rattle.image.specs.Rules.is_integer_size Rattle.image.specs.Rules.adt_may_have Rattle.image.specs.Rules.type_shape_holds Rattle.image.specs.Rules.type_holds Rattle.image.specs.Rules.variants_by Rattle.image.specs.Rules.adts_share_no_variant Rattle.image.specs.Rules.variant_holds Rattle.image.specs.Rules.binding_holds Rattle.image.specs.Rules.within_limits Rattle.image.specs.Subpatterns.if_present Rattle.image.specs.Subpatterns.subpatterns_by Rattle.image.specs.Patterns.path_holds Rattle.image.specs.Patterns.pattern_shape_holds Rattle.image.specs.Patterns.pattern_holds Rattle.image.specs.Patterns.subpatterns_below Rattle.image.specs.Patterns.used_once Rattle.text_chars.specs.Bytes.ascii Rattle.text_chars.specs.Bytes.run Rattle.text_chars.specs.Scalars.is_tail Rattle.text_chars.specs.Scalars.shortest_form Rattle.text_chars.specs.Scalars.scalar_from Rattle.text_chars.specs.Scalars.scalar_of Rattle.text_chars.specs.Scalars.is_utf8 Rattle.text_chars.specs.Gaps.whitespace Rattle.text_chars.specs.Gaps.is_whitespace Rattle.text_chars.specs.Gaps.in_line Rattle.text_chars.specs.Gaps.is_line_doc Rattle.text_chars.specs.Gaps.is_block_doc Rattle.text_chars.specs.Gaps.opens Rattle.text_chars.specs.Gaps.closes Rattle.text_chars.specs.Gaps.depth_behind Rattle.text_chars.specs.Gaps.unpaired Rattle.text_chars.specs.Gaps.block_from Rattle.text_chars.specs.Gaps.in_utf8 Rattle.text_chars.specs.Gaps.line_gap Rattle.text_chars.specs.Gaps.block_gap Rattle.text_chars.specs.Gaps.comment_of Rattle.text_chars.specs.Gaps.gap_of Rattle.text_chars.specs.Gaps.start_from Rattle.pattern_words.specs.Words.is_between Rattle.pattern_words.specs.Words.is_digit Rattle.pattern_words.specs.Words.is_letter Rattle.pattern_words.specs.Words.begins_word Rattle.pattern_words.specs.Words.in_word Rattle.pattern_words.specs.Words.same_word Rattle.pattern_words.specs.Words.is_one_of Rattle.pattern_words.specs.Words.keywords Rattle.pattern_words.specs.Words.never_raw Rattle.pattern_words.specs.Words.word_of Rattle.pattern_words.specs.Words.ends_prefix Rattle.pattern_words.specs.Words.is_raw Rattle.pattern_words.specs.Words.raw_piece Rattle.pattern_words.specs.Words.plain_piece Rattle.pattern_words.specs.Words.word_piece Rattle.pattern_tokens.specs.Literals.in_integer Rattle.pattern_tokens.specs.Literals.goes_on Rattle.pattern_tokens.specs.Literals.integer_of Rattle.pattern_tokens.specs.Literals.integer_piece Rattle.pattern_tokens.specs.Literals.hex_digit Rattle.pattern_tokens.specs.Literals.simple_escape Rattle.pattern_tokens.specs.Literals.byte_escape Rattle.pattern_tokens.specs.Literals.escaped Rattle.pattern_tokens.specs.Literals.unicode_from Rattle.pattern_tokens.specs.Literals.escape_of Rattle.pattern_tokens.specs.Literals.plain_char Rattle.pattern_tokens.specs.Literals.char_of Rattle.pattern_tokens.specs.Literals.is_suffix Rattle.pattern_tokens.specs.Literals.closed_char Rattle.pattern_tokens.specs.Literals.char_piece Rattle.pattern_tokens.specs.Tokens.begins Rattle.pattern_tokens.specs.Tokens.punctuation Rattle.pattern_tokens.specs.Tokens.first_where Rattle.pattern_tokens.specs.Tokens.piece_of Rattle.pattern_tokens.specs.Tokens.token_from Rattle.pattern_tokens.specs.Tokens.token_behind Rattle.pattern_tokens.specs.Tokens.token_at Rattle.decimal_values.specs.Values.decimal_from Rattle.decimal_values.specs.Values.in_halves Rattle.decimal_values.specs.Values.integer_value Rattle.pattern_grammar.specs.Lexemes.lexeme_at Rattle.pattern_grammar.specs.Lexemes.of_kind Rattle.pattern_grammar.specs.Lexemes.lexeme Rattle.pattern_grammar.specs.Lexemes.over Rattle.pattern_grammar.specs.Lexemes.wide Rattle.pattern_grammar.specs.Trees.closer Rattle.pattern_grammar.specs.Admitted.path_at Rattle.pattern_grammar.specs.Admitted.literal_at Rattle.pattern_grammar.specs.Admitted.bound_at Rattle.pattern_grammar.specs.Admitted.upward_at Rattle.pattern_grammar.specs.Admitted.open_at Rattle.pattern_grammar.specs.Admitted.when_strict Rattle.pattern_grammar.specs.Admitted.open_item_at Rattle.pattern_grammar.specs.Admitted.fits_rest Rattle.pattern_grammar.specs.Admitted.behind_name Rattle.pattern_grammar.specs.Admitted.behind_bar Rattle.pattern_grammar.specs.Admitted.list_room Rattle.pattern_grammar.specs.Admitted.is_rest_alt Rattle.pattern_grammar.specs.Admitted.is_rest_plain Rattle.pattern_grammar.specs.Admitted.is_rest Rattle.pattern_grammar.specs.Admitted.has_rest Rattle.pattern_grammar.specs.Admitted.item_room Rattle.pattern_grammar.specs.Admitted.second Rattle.pattern_grammar.specs.Admitted.is_mut_first Rattle.pattern_grammar.specs.Admitted.begins_mut Rattle.pattern_grammar.specs.Admitted.mut_is_own Rattle.pattern_grammar.specs.Admitted.literal_fits Rattle.pattern_grammar.specs.Admitted.bound_fits Rattle.pattern_grammar.specs.Admitted.key_fits Rattle.pattern_grammar.specs.Admitted.is_none Rattle.pattern_grammar.specs.Admitted.pattern_ok Rattle.pattern_grammar.specs.Admitted.alt_ok Rattle.pattern_grammar.specs.Admitted.plain_ok Rattle.pattern_grammar.specs.Admitted.items_ok Rattle.pattern_grammar.specs.Admitted.fields_ok Rattle.pattern_grammar.specs.Admitted.field_ok Rattle.pattern_grammar.specs.Admitted.admitted Rattle.pattern_grammar.specs.Machine.range_of Rattle.pattern_grammar.specs.Machine.close_alt Rattle.pattern_grammar.specs.Machine.close_plain Rattle.pattern_grammar.specs.Machine.room_in Rattle.pattern_grammar.specs.Machine.room_behind Rattle.pattern_grammar.specs.Machine.room_of Rattle.pattern_grammar.specs.Machine.ranged Rattle.pattern_grammar.specs.Machine.dots_in Rattle.pattern_grammar.specs.Machine.rest_stands Rattle.pattern_grammar.specs.Machine.fitting Rattle.pattern_grammar.specs.Machine.unless_open Rattle.pattern_grammar.specs.Machine.starts Rattle.pattern_grammar.specs.Machine.bounds Rattle.pattern_grammar.specs.Machine.behind Rattle.pattern_grammar.specs.Machine.ends Rattle.pattern_grammar.specs.Machine.named_in Rattle.pattern_grammar.specs.Machine.path_in Rattle.pattern_grammar.specs.Machine.negative_in Rattle.pattern_grammar.specs.Machine.behind_path Rattle.pattern_grammar.specs.Machine.behind_field Rattle.pattern_grammar.specs.Machine.on_mark Rattle.pattern_grammar.specs.Machine.on_name Rattle.pattern_grammar.specs.Machine.on_char Rattle.pattern_grammar.specs.Machine.step Rattle.pattern_grammar.specs.Machine.feed Rattle.pattern_grammar.specs.Machine.is_failed Rattle.pattern_grammar.specs.Parsed.is_last Rattle.pattern_grammar.specs.Parsed.lexemes_from Rattle.pattern_grammar.specs.Parsed.lexemes Rattle.pattern_grammar.specs.Parsed.parsed Rattle.pattern_syntax.specs.Written.part_count Rattle.pattern_syntax.specs.Written.beginning Rattle.pattern_syntax.specs.Written.begun_at Rattle.pattern_syntax.specs.Reduced.bytes_from Rattle.pattern_syntax.specs.Reduced.ident_bytes Rattle.pattern_syntax.specs.Reduced.path_bytes Rattle.pattern_syntax.specs.Reduced.key_name Rattle.pattern_syntax.specs.Reduced.literal_value Rattle.pattern_syntax.specs.Reduced.bound_in Rattle.pattern_syntax.specs.Reduced.dots_at Rattle.pattern_syntax.specs.Reduced.is_exclusive Rattle.pattern_syntax.specs.Reduced.is_there Rattle.pattern_syntax.specs.Reduced.first_place Rattle.pattern_syntax.specs.Reduced.bound_name_at Rattle.pattern_syntax.specs.Reduced.written_ident Rattle.pattern_syntax.specs.Reduced.written_reference Rattle.pattern_syntax.specs.Reduced.head_at Rattle.pattern_syntax.specs.Reduced.list_node Rattle.pattern_syntax.specs.Reduced.item_count Rattle.pattern_syntax.specs.Reduced.or_else Rattle.pattern_syntax.specs.Reduced.before_rest Rattle.pattern_syntax.specs.Reduced.is_part Rattle.pattern_syntax.specs.Reduced.is_group Rattle.pattern_syntax.specs.Reduced.first_beginning Rattle.pattern_syntax.specs.Reduced.one_of Rattle.pattern_syntax.specs.Reduced.alternatives Rattle.pattern_syntax.specs.Reduced.written_alt Rattle.pattern_syntax.specs.Reduced.written_plain Rattle.pattern_syntax.specs.Reduced.written_items Rattle.pattern_syntax.specs.Reduced.written_fields Rattle.pattern_syntax.specs.Reduced.written_field_of Rattle.pattern_syntax.specs.Reduced.reduced Rattle.name_tables.specs.Names.name_row_at Rattle.name_tables.specs.Names.row_name Rattle.name_tables.specs.Names.name_frame_holds Rattle.name_tables.specs.Names.names_something Rattle.name_tables.specs.Names.name_row_holds Rattle.name_tables.specs.Names.names_hold Rattle.name_tables.specs.Names.first_from Rattle.name_tables.specs.Names.serves Rattle.name_tables.specs.Names.is_named Rattle.name_tables.specs.Names.row_for Rattle.type_sheets.specs.Sheets.within_sheet_limits Rattle.type_sheets.specs.Sheets.sheet_holds Rattle.pattern_typing.specs.Crossing.is_written_as Rattle.pattern_typing.specs.Crossing.behind_reference Rattle.pattern_typing.specs.Crossing.cross_one Rattle.pattern_typing.specs.Crossing.cross_up_to Rattle.pattern_typing.specs.Crossing.crossed Rattle.pattern_typing.specs.Crossing.tuple_fields Rattle.pattern_typing.specs.Crossing.has_variant_of Rattle.pattern_typing.specs.Crossing.variant_fields_of Rattle.pattern_typing.specs.Contexts.field_context Rattle.pattern_typing.specs.Contexts.stands_before Rattle.pattern_typing.specs.Contexts.argument_context Rattle.pattern_typing.specs.Contexts.is_rest_item Rattle.pattern_typing.specs.Contexts.item_context Rattle.pattern_typing.specs.Contexts.target_context Rattle.pattern_typing.specs.Contexts.part_context Rattle.pattern_typing.specs.Making.or_absent Rattle.pattern_typing.specs.Resolving.where_named Rattle.pattern_typing.specs.Resolving.path_made Rattle.pattern_typing.specs.Resolving.resolved_path Rattle.pattern_typing.specs.Resolving.mode_of Rattle.pattern_typing.specs.Resolving.annotation_of Rattle.pattern_typing.specs.Resolving.resolved_ident Rattle.pattern_typing.specs.Resolving.rest_bound_at Rattle.pattern_typing.specs.Resolving.rest_holds Rattle.pattern_typing.specs.Resolving.resolved_bound_rest Rattle.pattern_typing.specs.Resolving.resolved_rest Rattle.pattern_typing.specs.Resolving.binds_in Rattle.pattern_typing.specs.Resolving.field_name Rattle.pattern_typing.specs.Resolving.tuple_struct_as Rattle.pattern_typing.specs.Resolving.record_as Rattle.pattern_typing.specs.Resolving.resolved_node Rattle.pattern_typing.specs.Resolving.resolved_field Rattle.pattern_typing.specs.Resolving.resolved Rattle.pattern_typing.specs.Failing.lower Rattle.pattern_typing.specs.Failing.earlier Rattle.pattern_typing.specs.Failing.refused_in Rattle.pattern_typing.specs.Failing.refused_among Rattle.pattern_images.specs.Drafts.add_type Rattle.pattern_images.specs.Drafts.add_pattern Rattle.pattern_images.specs.Drafts.add_binding Rattle.pattern_images.specs.Drafts.add_words Rattle.pattern_images.specs.Drafts.add_bytes Rattle.pattern_images.specs.Drafts.little_endian_bytes Rattle.pattern_images.specs.Drafts.operand_kind_of Rattle.pattern_images.specs.Drafts.literal_bytes Rattle.pattern_images.specs.Drafts.add_operand Rattle.pattern_images.specs.Drafts.type_in Rattle.pattern_images.specs.Drafts.alike Rattle.pattern_images.specs.Drafts.like_in Rattle.pattern_images.specs.Drafts.add_unless Rattle.pattern_images.specs.Drafts.number_or Rattle.pattern_images.specs.Drafts.binding_for Rattle.pattern_images.specs.Emitting.list_from Rattle.pattern_images.specs.Emitting.with_bound_at Rattle.pattern_images.specs.Emitting.bound_type Rattle.pattern_images.specs.Emitting.with_mode Rattle.pattern_images.specs.Emitting.mode_type Rattle.pattern_images.specs.Emitting.new_binding Rattle.pattern_images.specs.Emitting.with_binding Rattle.pattern_images.specs.Emitting.binding_number Rattle.pattern_images.specs.Emitting.item_words Rattle.pattern_images.specs.Emitting.prefix_count Rattle.pattern_images.specs.Emitting.suffix_count Rattle.pattern_images.specs.Emitting.rest_word Rattle.pattern_images.specs.Emitting.emit_node Rattle.pattern_images.specs.Emitting.emitted Rattle.pattern_images.specs.Emitting.emitted_parts Rattle.pattern_images.specs.Imaging.word_bytes Rattle.pattern_images.specs.Imaging.words_bytes Rattle.pattern_images.specs.Imaging.long_bytes Rattle.pattern_images.specs.Imaging.type_bytes Rattle.pattern_images.specs.Imaging.pattern_bytes Rattle.pattern_images.specs.Imaging.binding_bytes Rattle.pattern_images.specs.Imaging.tables_with Rattle.pattern_images.specs.Imaging.behind_length Rattle.pattern_images.specs.Imaging.image_with Rattle.pattern_images.specs.Imaging.derefs_within Rattle.pattern_images.specs.Imaging.within_image_limits Rattle.pattern_reading.specs.Reads.outcome Rattle.pattern_reading.specs.Reads.imaged Rattle.pattern_reading.specs.Reads.unless_refused Rattle.pattern_reading.specs.Reads.read_typed Rattle.pattern_reading.specs.Reads.read_tree Rattle.pattern_reading.specs.Reads.after_parsing Rattle.pattern_reading.specs.Reads.read_pattern
as_judged_typed2 = refl
