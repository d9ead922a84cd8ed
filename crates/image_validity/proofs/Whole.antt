-- What a formed tree that is not refused adds to a sheet holds in the whole image, and each pattern is used at most once. Assumes nothing.
use Prim.Native.Nat.{ℕ}
use mathlib.Core.Path.{◌≡◌, refl}
use mathlib.Core.Bool.{true, ◌&&◌}
use mathlib.Core.Option.{Option, none, some}
use mathlib.Core.List.{List}
use native.Mathlib.Omega.{arith}
use Rattle.image.proofs.Bools.{and_left, and_right}
use Rattle.type_sheets.specs.Sheets.{sheet_holds}
use Rattle.name_tables.specs.Names.{names_hold}
use Rattle.pattern_syntax.specs.Written.{Written, written, Parts, no_parts, more, part_count}
use Rattle.pattern_syntax.specs.Formed.{node_formed, Stand, stands_in, may_stand, rest_place, node_in, rest_part_formed, formed, parts_formed}
use Rattle.pattern_typing.specs.Contexts.{Context, PartsRead, part_context}
use Rattle.pattern_typing.specs.Resolving.{resolved}
use Rattle.pattern_typing.specs.Failing.{earlier, refused_in, refused_among}
use Rattle.pattern_images.specs.Drafts.{Draft}
use Rattle.pattern_images.specs.Emitting.{emitted, emitted_parts}
use Rattle.image_growth.specs.Growing.{IsBytes, Grown}
use Rattle.image_validity.specs.Standing.{Good, Step}
use Rattle.image_validity.proofs.Tests.{and_first, and_second, and_third}
use Rattle.image_validity.proofs.Extending.{Extends, extends_on, node_extends, emitted_extends}
use Rattle.image_validity.proofs.Steps.{step_none, step_more}
use Rattle.image_validity.proofs.Makes.{emits}
use Rattle.image_validity.proofs.Contexts.{Fits, ReadsFit}
use Rattle.image_validity.proofs.Nodes.{resolves}

-- where neither of two is refused
pub neither : (a b : Option ℕ) → earlier a b ≡ none → (a ≡ none) × (b ≡ none)
unfolding earlier
neither none b e = (refl, e)
neither (some x) none e =
    let z : ◌≡◌ {A = ℕ} 0 1 = cc in
    absurd (omega arith)
neither (some x) (some y) e =
    let z : ◌≡◌ {A = ℕ} 0 1 = cc in
    absurd (omega arith)

module _ (sheet names : List ℕ) (whole : Draft) (image : List ℕ) (g : Grown sheet whole image) (holds : sheet_holds sheet ≡ true) (named : names_hold sheet names ≡ true)
    (bytes : IsBytes sheet) where
  mutual
    unfolding part_count node_in formed parts_formed refused_in refused_among emitted emitted_parts

    pub tree_step : (w : Written) (s : Stand) (c : Context) (d : Draft) → formed w s ≡ true → Fits sheet c (node_in w) s → refused_in sheet names w c ≡ none → Good sheet image d →
        Extends (emitted sheet names w c d).draft whole → Step sheet image s 1 d (emitted sheet names w c d)
    tree_step (written at n ps) s c d form fits taken good x =
        let r = resolved sheet names at n (part_count ps) c in
        let m = emitted_parts sheet names ps r.reads d in
        let free = neither r.refused_at (refused_among sheet names ps r.reads) taken in
        let stands = may_stand n s in
        let node = node_formed n (part_count ps) in
        let rest = rest_part_formed (rest_place n) ps in
        let below = parts_formed ps (stands_in n) in
        let own = and_left (stands && node && rest) below form in
        let fit =
        resolves sheet names whole image g holds named bytes c s n at ps fits (and_first stands node rest own) (and_second stands node rest own) (and_third stands node rest own)
        free.0
        in
        let early = extends_on (node_extends sheet r.making (part_count ps) m.stands m.draft) x in
        emits sheet whole image g r.making (part_count ps) s (stands_in n) d m fit.sound
        (parts_step ps (stands_in n) r.reads d (and_right (stands && node && rest) below form) fit.reads free.1 good early) x

    pub parts_step : (ps : Parts) (s : Stand) (reads : PartsRead) (d : Draft) → parts_formed ps s ≡ true → ReadsFit sheet reads ps s → refused_among sheet names ps reads ≡ none →
        Good sheet image d →
        Extends (emitted_parts sheet names ps reads d).draft whole → Step sheet image s (part_count ps) d (emitted_parts sheet names ps reads d)
    parts_step no_parts s reads d form fits taken good x = step_none sheet image s d good
    parts_step (more ps w) s reads d form fits taken good x =
        let c = part_context sheet reads (part_count ps) in
        let m = emitted_parts sheet names ps reads d in
        let free = neither (refused_in sheet names w c) (refused_among sheet names ps reads) taken in
        let grows = emitted_extends sheet w names c m.draft in
        let first = parts_step ps s reads d (and_left (parts_formed ps s) (formed w s) form) fits.0 free.1 good (extends_on grows x) in
        step_more sheet image s (part_count ps) d m (emitted sheet names w c m.draft) first grows
        (tree_step w s c m.draft (and_right (parts_formed ps s) (formed w s) form) fits.1 free.0 first.good x)
