-- What an answer of reading tells of its text. Assumes nothing.
use Prim.Native.Nat.{ℕ, ◌<◌, ◌≤◌}
use mathlib.Core.Path.{◌≡◌, refl, ◌∙◌, sym, ap}
use mathlib.Core.Bool.{Bool, true, false, cond, ◌&&◌}
use mathlib.Core.Option.{Option, none, some}
use mathlib.Core.Logic.{◌⊎◌, inl, inr}
use mathlib.Core.List.{List}
use native.Mathlib.Omega.{arith}
use borrow.Author.Tests.{ltb-true, ltb-false}
use lib.Dec.{ltb}
use lib.ListN.{length}
use Rattle.image.specs.Tables.{type_count}
use Rattle.image.specs.Rules.{absent}
use Rattle.image.specs.Valid.{valid}
use Rattle.image.proofs.Bools.{and_left, and_right}
use Rattle.pattern_grammar.specs.Lexemes.{Spot, strictly}
use Rattle.pattern_grammar.specs.Trees.{Pattern}
use Rattle.pattern_grammar.specs.Admitted.{admitted}
use Rattle.pattern_grammar.specs.Machine.{Reading, done, failed}
use Rattle.pattern_grammar.specs.Parsed.{lexemes, parsed}
use Rattle.pattern_grammar.proofs.Complete.{one_tree}
use Rattle.pattern_grammar.proofs.Verdicts.{Refused}
use Rattle.pattern_grammar.proofs.Endings.{Over, text_over, text_long, text_read, text_refused}
use Rattle.pattern_syntax.specs.Written.{Written}
use Rattle.pattern_syntax.specs.Reduced.{reduced}
use Rattle.type_sheets.specs.Sheets.{sheet_holds}
use Rattle.name_tables.specs.Names.{names_hold}
use Rattle.pattern_typing.specs.Crossing.{by_value}
use Rattle.pattern_typing.specs.Contexts.{typed}
use Rattle.pattern_typing.specs.Failing.{refused_in}
use Rattle.pattern_images.specs.Drafts.{Draft}
use Rattle.pattern_images.specs.Imaging.{image_with, within_image_limits}
use Rattle.pattern_reading.specs.Reads.{Answer, image_of, refused_with, Outcome, tree_is, fails_at, outcome, draft_of, imaged, unless_refused, read_typed, read_tree, after_parsing, read_pattern}
use Rattle.image_growth.specs.Growing.{IsBytes}
use Rattle.image_validity.specs.Validity.{Readable}
use Rattle.image_validity.proofs.Valid.{image_valid}
use Rattle.image_words.proofs.Trees.{tree_bytes}
use Rattle.tree_forms.proofs.Forms.{tree_read, tree_formed}
use Rattle.tree_forms.proofs.Ellipses.{tree_ellipses}
use Rattle.reading_audit.specs.Texts.{OneTree, IsRead, FirstPlace}
use Rattle.reading_audit.proofs.First.{first_refused}

-- an image is no refusal
not_both : {A : Type 0} (bytes : List ℕ) (number at : ℕ) → image_of bytes ≡ refused_with number at → A
not_both bytes number at e =
    let z : ◌≡◌ {A = ℕ} 0 1 = cc in
    absurd (omega arith)

-- a text that has a tree is at most 16,384 bytes long, and is written as it
tree_one : (text : List ℕ) (p : Pattern) → outcome (parsed text) ≡ tree_is p → OneTree text p
tree_one text p h = by (ltb 16384 (length text)) refl (tree_read (parsed text) p (text_over text) h)
  where
    by : (b : Bool) → ltb 16384 (length text) ≡ b → ((e : Spot) × (parsed text ≡ done p e)) → OneTree text p
    by true l r =
        let long : failed 16384 ≡ done p r.0 = sym (text_long text (ltb-true 16384 (length text) l)) ∙ r.1 in
        let z : ◌≡◌ {A = ℕ} 0 1 = cc in
        absurd (omega arith)
    by false l r =
        let read = (text_read text p r.0 (ltb-false 16384 (length text) l)).0 r.1 in
        record {
          end = r.0;
          written = read.0;
          allowed = read.1;
          only = λ other end w a. one_tree (strictly text) other p end r.0 a read.1 (w ∙ sym read.0);
        }

-- what is taken behind a test passed it
taken_where : (b : Bool) (x : Answer) (number at : ℕ) (bytes : List ℕ) → cond b x (refused_with number at) ≡ image_of bytes → (b ≡ true) × (x ≡ image_of bytes)
taken_where true x number at bytes e = (refl, e)
taken_where false x number at bytes e = not_both bytes number at (sym e)

taken_unless : (r : Option ℕ) (x : Answer) (bytes : List ℕ) → unless_refused r x ≡ image_of bytes → (r ≡ none) × (x ≡ image_of bytes)
unfolding unless_refused
taken_unless none x bytes e = (refl, e)
taken_unless (some at) x bytes e = not_both bytes 20 at (sym e)

-- all that a tree which is taken has passed
record Passed (sheet names : List ℕ) (expected : ℕ) (w : Written) (bytes : List ℕ) : Type 0 where
  sheet_holds_lem : sheet_holds sheet ≡ true
  names_hold_lem : names_hold sheet names ≡ true
  exists : expected < type_count sheet
  taken : refused_in sheet names w (typed expected by_value) ≡ none
  within : within_image_limits sheet (draft_of sheet names expected w) ≡ true
  image : bytes ≡ image_with sheet (draft_of sheet names expected w)

passed : (sheet names : List ℕ) (expected : ℕ) (w : Written) (bytes : List ℕ) → read_tree sheet names expected w ≡ image_of bytes → Passed sheet names expected w bytes
unfolding read_tree read_typed imaged
passed sheet names expected w bytes e =
    let both = ltb expected (type_count sheet) && names_hold sheet names in
    let kept = taken_where (sheet_holds sheet) _ 1 absent bytes e in
    let given = taken_where both _ 2 absent bytes kept.1 in
    let free = taken_unless (refused_in sheet names w (typed expected by_value)) _ bytes given.1 in
    let small = taken_where (within_image_limits sheet (draft_of sheet names expected w)) _ 1 absent bytes free.1 in
    let same : image_of (image_with sheet (draft_of sheet names expected w)) ≡ image_of bytes = small.1 in
    record {
      sheet_holds_lem = kept.0;
      names_hold_lem = and_right (ltb expected (type_count sheet)) (names_hold sheet names) given.0;
      exists = ltb-true expected (type_count sheet) (and_left (ltb expected (type_count sheet)) (names_hold sheet names) given.0);
      taken = free.0;
      within = small.0;
      image = cc;
    }

-- the tree that an answer is read from
record FromTree (text sheet names : List ℕ) (expected : ℕ) (answer : Answer) : Type 0 where
  tree : Pattern
  has : outcome (parsed text) ≡ tree_is tree
  reads : read_tree sheet names expected (reduced text tree) ≡ answer

from_tree :
    (text sheet names : List ℕ) (expected : ℕ) (o : Outcome) (bytes : List ℕ) → outcome (parsed text) ≡ o → after_parsing text sheet names expected o ≡ image_of bytes
    → FromTree text sheet names expected (image_of bytes)
unfolding after_parsing
from_tree text sheet names expected (tree_is p) bytes h e = record { tree = p; has = h; reads = e }
from_tree text sheet names expected (fails_at at) bytes h e = not_both bytes 19 at (sym e)

-- a refusal has one number
other_number : {A : Type 0} (m n at other : ℕ) → (m ≡ n → ⊥) → refused_with m at ≡ refused_with n other → A
other_number m n at other apart e =
    let same : m ≡ n = cc in
    absurd (apart same)

same_place : (m at other : ℕ) → refused_with m at ≡ refused_with m other → at ≡ other
same_place m at other e = cc

-- what fails has failed there
fails_read : (r : Reading) (at : ℕ) → Over r → outcome r ≡ fails_at at → r ≡ failed at
unfolding outcome
fails_read _ at (Over.whole q e) h =
    let z : ◌≡◌ {A = ℕ} 0 1 = cc in
    absurd (omega arith)
fails_read _ at (Over.broken a) h =
    let same : a ≡ at = cc in
    ap failed same

-- a tree is refused by 1, 2 and 20, and by 20 where its first place is
twenty_where : (b : Bool) (x : Answer) (number other at : ℕ) → (number ≡ 20 → ⊥) → cond b x (refused_with number other) ≡ refused_with 20 at → x ≡ refused_with 20 at
twenty_where true x number other at apart e = e
twenty_where false x number other at apart e = other_number number 20 other at apart e

twenty_unless : (r : Option ℕ) (x : Answer) (at : ℕ) → (x ≡ refused_with 20 at → ⊥) → unless_refused r x ≡ refused_with 20 at → r ≡ some at
unfolding unless_refused
twenty_unless none x at apart e = absurd (apart e)
twenty_unless (some a) x at apart e = ap some (same_place 20 a at e)

image_not_twenty : (sheet : List ℕ) (d : Draft) (b : Bool) (at : ℕ) → cond b (image_of (image_with sheet d)) (refused_with 1 absent) ≡ refused_with 20 at → ⊥
image_not_twenty sheet d true at e = not_both (image_with sheet d) 20 at e
image_not_twenty sheet d false at e = other_number 1 20 absent at (λ z. omega (arith, z)) e

twenty : (sheet names : List ℕ) (expected : ℕ) (w : Written) (at : ℕ) → read_tree sheet names expected w ≡ refused_with 20 at → refused_in sheet names w (typed expected by_value) ≡ some at
unfolding read_tree read_typed imaged
twenty sheet names expected w at e =
    twenty_unless (refused_in sheet names w (typed expected by_value)) _ at
    (image_not_twenty sheet (draft_of sheet names expected w) (within_image_limits sheet (draft_of sheet names expected w)) at)
    (twenty_where (ltb expected (type_count sheet) && names_hold sheet names) _ 2 absent at (λ z. omega (arith, z))
    (twenty_where (sheet_holds sheet) _ 1 absent at (λ z. omega (arith, z)) e))

nineteen_where : (b : Bool) (x : Answer) (number other at : ℕ) → (number ≡ 19 → ⊥) → cond b x (refused_with number other) ≡ refused_with 19 at → x ≡ refused_with 19 at
nineteen_where true x number other at apart e = e
nineteen_where false x number other at apart e = other_number number 19 other at apart e

not_nineteen : (r : Option ℕ) (b : Bool) (bytes : List ℕ) (at : ℕ) → unless_refused r (cond b (image_of bytes) (refused_with 1 absent)) ≡ refused_with 19 at → ⊥
unfolding unless_refused
not_nineteen (some a) b bytes at e = other_number 20 19 a at (λ z. omega (arith, z)) e
not_nineteen none true bytes at e = not_both bytes 19 at e
not_nineteen none false bytes at e = other_number 1 19 absent at (λ z. omega (arith, z)) e

never_nineteen : (sheet names : List ℕ) (expected : ℕ) (w : Written) (at : ℕ) → read_tree sheet names expected w ≡ refused_with 19 at → ⊥
unfolding read_tree read_typed imaged
never_nineteen sheet names expected w at e =
    not_nineteen (refused_in sheet names w (typed expected by_value)) (within_image_limits sheet (draft_of sheet names expected w)) (image_with sheet (draft_of sheet names expected w)) at
    (nineteen_where (ltb expected (type_count sheet) && names_hold sheet names) _ 2 absent at (λ z. omega (arith, z))
    (nineteen_where (sheet_holds sheet) _ 1 absent at (λ z. omega (arith, z)) e))

-- the text alone decides 19
fails_there_lem : (text sheet names : List ℕ) (expected at : ℕ) (o : Outcome) → outcome (parsed text) ≡ o → after_parsing text sheet names expected o ≡ refused_with 19 at → outcome (parsed text) ≡ fails_at at
unfolding after_parsing
fails_there_lem text sheet names expected at (tree_is p) h e = absurd (never_nineteen sheet names expected (reduced text p) at e)
fails_there_lem text sheet names expected at (fails_at a) h e = h ∙ ap fails_at (same_place 19 a at e)

by_length : (text : List ℕ) (at : ℕ) (b : Bool) → ltb 16384 (length text) ≡ b → parsed text ≡ failed at → ((16384 < length text) × (at ≡ 16384)) ⊎ Refused text (lexemes text) at
by_length text at true l e =
    let long = ltb-true 16384 (length text) l in
    let same : failed 16384 ≡ failed at = sym (text_long text long) ∙ e in
    inl (long, cc)
by_length text at false l e = inr (text_refused text at (ltb-false 16384 (length text) l) e)

from_refused :
    (text sheet names : List ℕ) (expected at : ℕ) (o : Outcome) → outcome (parsed text) ≡ o → after_parsing text sheet names expected o ≡ refused_with 20 at
    → FromTree text sheet names expected (refused_with 20 at)
unfolding after_parsing
from_refused text sheet names expected at (tree_is p) h e = record { tree = p; has = h; reads = e }
from_refused text sheet names expected at (fails_at a) h e = other_number 19 20 a at (λ z. omega (arith, z)) e

module _ (text sheet names : List ℕ) (expected : ℕ) where
  pub read_one : (bytes : List ℕ) → read_pattern text sheet names expected ≡ image_of bytes → IsRead text sheet names expected bytes
  unfolding read_pattern
  read_one bytes e =
      let f = from_tree text sheet names expected (outcome (parsed text)) bytes refl e in
      record {
        tree = f.tree;
        one = tree_one text f.tree f.has;
        image = (passed sheet names expected (reduced text f.tree) bytes f.reads).image;
      }

  pub read_valid : (bytes : List ℕ) → IsBytes sheet → read_pattern text sheet names expected ≡ image_of bytes → (valid bytes ≡ true) × IsBytes bytes
  unfolding read_pattern
  read_valid bytes are-bytes e =
      let f = from_tree text sheet names expected (outcome (parsed text)) bytes refl e in
      let p = passed sheet names expected (reduced text f.tree) bytes f.reads in
      let w = reduced text f.tree in
      let readable : Readable sheet names expected w =
      record {
        bytes = are-bytes;
        sheet_holds_lem = p.sheet_holds_lem;
        names_hold_lem = p.names_hold_lem;
        exists = p.exists;
        is_formed = tree_formed text f.tree f.has;
        taken = p.taken;
        within = p.within;
      }
      in
      let own = tree_bytes sheet names expected w readable (tree_ellipses text f.tree f.has) in
      (ap valid p.image ∙ image_valid sheet names expected w readable, λ k. rw (sym p.image) at (own k))

  pub refused_19 : (at : ℕ) → read_pattern text sheet names expected ≡ refused_with 19 at → ((16384 < length text) × (at ≡ 16384)) ⊎ Refused text (lexemes text) at
  unfolding read_pattern
  refused_19 at e =
      by_length text at (ltb 16384 (length text)) refl (fails_read (parsed text) at (text_over text) (fails_there_lem text sheet names expected at (outcome (parsed text)) refl e))

  pub no_tree_19 : (at : ℕ) → parsed text ≡ failed at → read_pattern text sheet names expected ≡ refused_with 19 at
  unfolding read_pattern after_parsing outcome
  no_tree_19 at e = rw (e) refl

  pub refused_20 : (at : ℕ) → read_pattern text sheet names expected ≡ refused_with 20 at → FirstPlace text sheet names expected at
  unfolding read_pattern
  refused_20 at e =
      let f = from_refused text sheet names expected at (outcome (parsed text)) refl e in
      record {
        tree = f.tree;
        one = tree_one text f.tree f.has;
        first = first_refused sheet names (reduced text f.tree) (typed expected by_value) at (twenty sheet names expected (reduced text f.tree) at f.reads);
      }
