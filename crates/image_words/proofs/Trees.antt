-- The image of a tree whose ellipses are words is a string of bytes. Assumes nothing.
use Prim.Native.Nat.{ℕ}
use mathlib.Core.Path.{◌≡◌}
use mathlib.Core.Bool.{true, ◌&&◌}
use mathlib.Core.Option.{none}
use mathlib.Core.List.{List}
use native.Mathlib.Omega.{arith}
use Rattle.image.proofs.Bools.{and_left, and_right}
use Rattle.type_sheets.specs.Sheets.{sheet_holds}
use Rattle.name_tables.specs.Names.{names_hold}
use Rattle.pattern_syntax.specs.Written.{Written, written, Parts, no_parts, more, part_count}
use Rattle.pattern_syntax.specs.Formed.{node_formed, Stand, in_pattern, stands_in, may_stand, rest_place, node_in, rest_part_formed, formed, parts_formed}
use Rattle.pattern_typing.specs.Crossing.{by_value}
use Rattle.pattern_typing.specs.Contexts.{Context, typed, PartsRead, part_context}
use Rattle.pattern_typing.specs.Resolving.{resolved}
use Rattle.pattern_typing.specs.Failing.{refused_in, refused_among}
use Rattle.pattern_images.specs.Drafts.{Draft, empty_draft}
use Rattle.pattern_images.specs.Emitting.{emitted, emitted_parts}
use Rattle.pattern_images.specs.Imaging.{image_with}
use Rattle.pattern_reading.specs.Reads.{draft_of}
use Rattle.image_growth.specs.Growing.{IsBytes, Grown}
use Rattle.image_growth.proofs.Grows.{grown}
use Rattle.image_growth.proofs.Limits.{Few, few}
use Rattle.image_growth.proofs.Bytes.{image_bytes}
use Rattle.image_validity.specs.Standing.{Good}
use Rattle.image_validity.specs.Validity.{Readable}
use Rattle.image_validity.proofs.Tests.{and_first, and_second, and_third}
use Rattle.image_validity.proofs.Extending.{Extends, extends_same, extends_on, node_extends, emitted_extends}
use Rattle.image_validity.proofs.Contexts.{Fits, ReadsFit}
use Rattle.image_validity.proofs.Nodes.{resolves}
use Rattle.image_validity.proofs.Whole.{neither, parts_step}
use Rattle.image_validity.proofs.Valid.{good_empty}
use Rattle.tree_forms.specs.Ellipses.{ellipsis_fits, ellipses_fit, parts_ellipses_fit}
use Rattle.image_words.specs.Bounds.{DraftWords, MadeWords}
use Rattle.image_words.proofs.Lists.{words_join, draft_empty, draft_bounded}
use Rattle.image_words.proofs.Emits.{emits_words}
use Rattle.image_words.proofs.Brings.{brings}

module _ (sheet names : List ℕ) (whole : Draft) (image : List ℕ) (g : Grown sheet whole image) (holds : sheet_holds sheet ≡ true) (named : names_hold sheet names ≡ true)
    (bytes : IsBytes sheet) (f : Few sheet whole) where
  mutual
    unfolding part_count node_in formed parts_formed refused_in refused_among emitted emitted_parts ellipses_fit parts_ellipses_fit

    tree_words : (w : Written) (s : Stand) (c : Context) (d : Draft) → formed w s ≡ true → ellipses_fit w ≡ true → Fits sheet c (node_in w) s → refused_in sheet names w c ≡ none →
        Good sheet image d → DraftWords d → Extends (emitted sheet names w c d).draft whole → MadeWords (emitted sheet names w c d)
    tree_words (written at n ps) s c d form dots fits taken good words x =
        let r = resolved sheet names at n (part_count ps) c in
        let m = emitted_parts sheet names ps r.reads d in
        let free = neither r.refused_at (refused_among sheet names ps r.reads) taken in
        let stands = may_stand n s in
        let node = node_formed n (part_count ps) in
        let rest = rest_part_formed (rest_place n) ps in
        let below = parts_formed ps (stands_in n) in
        let own = and_left (stands && node && rest) below form in
        let parts = and_right (stands && node && rest) below form in
        let fit =
        resolves sheet names whole image g holds named bytes c s n at ps fits (and_first stands node rest own) (and_second stands node rest own)
        (and_third stands node rest own) free.0
        in
        let early = extends_on (node_extends sheet r.making (part_count ps) m.stands m.draft) x in
        let step = parts_step sheet names whole image g holds named bytes ps (stands_in n) r.reads d parts fit.reads free.1 good early in
        emits_words sheet whole image g f r.making (part_count ps) s (stands_in n) d m fit.sound
        (brings sheet names holds named f.variants (omega (arith, f.words)) c n at (part_count ps) (and_left (ellipsis_fits n) (parts_ellipses_fit ps) dots)) step
        (parts_words ps (stands_in n) r.reads d parts (and_right (ellipsis_fits n) (parts_ellipses_fit ps) dots) fit.reads free.1 good words early) early x

    parts_words : (ps : Parts) (s : Stand) (reads : PartsRead) (d : Draft) → parts_formed ps s ≡ true → parts_ellipses_fit ps ≡ true → ReadsFit sheet reads ps s →
        refused_among sheet names ps reads ≡ none → Good sheet image d → DraftWords d → Extends (emitted_parts sheet names ps reads d).draft whole →
        MadeWords (emitted_parts sheet names ps reads d)
    parts_words no_parts s reads d form dots fits taken good words x = record { draft = words; stands = tt }
    parts_words (more ps w) s reads d form dots fits taken good words x =
        let c = part_context sheet reads (part_count ps) in
        let m = emitted_parts sheet names ps reads d in
        let free = neither (refused_in sheet names w c) (refused_among sheet names ps reads) taken in
        let early = extends_on (emitted_extends sheet w names c m.draft) x in
        let parts = and_left (parts_formed ps s) (formed w s) form in
        let step = parts_step sheet names whole image g holds named bytes ps s reads d parts fits.0 free.1 good early in
        let first = parts_words ps s reads d parts (and_left (parts_ellipses_fit ps) (ellipses_fit w) dots) fits.0 free.1 good words early in
        let last =
        tree_words w s c m.draft (and_right (parts_formed ps s) (formed w s) form) (and_right (parts_ellipses_fit ps) (ellipses_fit w) dots) fits.1 free.0 step.good
        first.draft x
        in
        record { draft = last.draft; stands = words_join m.stands _ first.stands last.stands }

-- The theorem.
pub tree_bytes : (sheet names : List ℕ) (expected : ℕ) (w : Written) → Readable sheet names expected w → ellipses_fit w ≡ true →
    IsBytes (image_with sheet (draft_of sheet names expected w))
tree_bytes sheet names expected w readable dots =
    let whole = draft_of sheet names expected w in
    let image = image_with sheet whole in
    let holds = readable.sheet_holds_lem in
    let f = few sheet whole holds readable.within in
    let made =
    tree_words sheet names whole image (grown sheet whole holds) holds readable.names_hold_lem readable.bytes f w in_pattern (typed expected by_value) empty_draft
    readable.is_formed dots (readable.exists, omega arith) readable.taken (good_empty sheet image) draft_empty (extends_same whole)
    in
    image_bytes sheet whole readable.bytes holds (draft_bounded whole made.draft f.derefs) readable.within
