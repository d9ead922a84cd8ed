-- What the limits of a sheet and of an image say. Assumes nothing.
use Prim.Native.Nat.{ℕ, ◌≤◌}
use mathlib.Core.Path.{◌≡◌}
use mathlib.Core.Bool.{Bool, true, ◌&&◌}
use mathlib.Core.List.{List}
use borrow.Author.Tests.{leb-true}
use lib.Dec.{leb}
use Rattle.image.specs.Tables.{type_count, variant_count, pattern_count, binding_count, list_count, data_count}
use Rattle.image.proofs.Bools.{and_left, and_right, all_true_at}
use Rattle.type_sheets.specs.Sheets.{within_sheet_limits, sheet_rules, sheet_holds}
use Rattle.pattern_images.specs.Drafts.{Draft, next_type, next_pattern, next_binding, next_word, next_byte}
use Rattle.pattern_images.specs.Imaging.{derefs_within, within_image_limits}

-- six tests in a row
record Six (a b c d e f : Bool) : Type 0 where
  first : a ≡ true
  second : b ≡ true
  third : c ≡ true
  fourth : d ≡ true
  fifth : e ≡ true
  sixth : f ≡ true

six : (a b c d e f : Bool) → a && b && c && d && e && f ≡ true → Six a b c d e f
six a b c d e f h =
    let five = and_left (a && b && c && d && e) f h in
    let four = and_left (a && b && c && d) e five in
    let three = and_left (a && b && c) d four in
    let two = and_left (a && b) c three in
    record {
      first = and_left a b two;
      second = and_right a b two;
      third = and_right (a && b) c three;
      fourth = and_right (a && b && c) d four;
      fifth = and_right (a && b && c && d) e five;
      sixth = and_right (a && b && c && d && e) f h;
    }

-- no count passes a limit, and no pattern has too many derefs
pub record Few (sheet : List ℕ) (d : Draft) : Type 0 where
  pub types : next_type sheet d ≤ 256
  pub variants : variant_count sheet ≤ 512
  pub patterns : next_pattern sheet d ≤ 512
  pub bindings : next_binding sheet d ≤ 256
  pub words : next_word sheet d ≤ 2048
  pub bytes : next_byte sheet d ≤ 16384
  pub derefs : derefs_within d.patterns ≡ true

pub few : (sheet : List ℕ) (d : Draft) → sheet_holds sheet ≡ true → within_image_limits sheet d ≡ true → Few sheet d
unfolding sheet_holds within_sheet_limits within_image_limits
few sheet d holds within =
    let own =
    six (leb (next_type sheet d) 256) (leb (next_pattern sheet d) 512) (leb (next_binding sheet d) 256) (leb (next_word sheet d) 2048)
    (leb (next_byte sheet d) 16384) (derefs_within d.patterns) within
    in
    let old =
    six (leb (type_count sheet) 256) (leb (variant_count sheet) 512) (leb (pattern_count sheet) 512) (leb (binding_count sheet) 256)
    (leb (list_count sheet) 2048) (leb (data_count sheet) 16384) (all_true_at (sheet_rules sheet) 10 holds)
    in
    record {
      types = leb-true (next_type sheet d) 256 own.first;
      variants = leb-true (variant_count sheet) 512 old.second;
      patterns = leb-true (next_pattern sheet d) 512 own.second;
      bindings = leb-true (next_binding sheet d) 256 own.third;
      words = leb-true (next_word sheet d) 2048 own.fourth;
      bytes = leb-true (next_byte sheet d) 16384 own.fifth;
      derefs = own.sixth;
    }
