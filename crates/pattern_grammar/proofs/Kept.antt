-- What is read is admitted: no step makes what is open hold another part. Assumes nothing.
use Prim.Native.Nat.{ℕ}
use mathlib.Core.Path.{◌≡◌, refl, sym, ap, subst, ◌∙◌}
use mathlib.Core.Bool.{Bool, true, false, not, ◌&&◌, ◌||◌, true≢false, false≢true}
use mathlib.Core.Option.{none}
use mathlib.Core.List.{List, [], ◌∷◌}
use lib.Dec.{eqb}
use borrow.Author.Tests.{not-true}
use Rattle.image.proofs.Bools.{and_left, and_right, and_true}
use Rattle.pattern_grammar.specs.Lexemes.{Spot, Identifier, Lexeme, name, scalar, mark, end_mark, comma_mark, or_mark, close_brace_mark, ref_mark, mut_mark, true_mark, false_mark, underscore_mark, integer_mark, minus_mark, open_paren_mark, open_bracket_mark, open_brace_mark, and_mark, and_and_mark, bind_mark, colon_mark, path_sep_mark, dot_dot_mark, dot_dot_eq_mark, follows, wide, Source}
use Rattle.pattern_grammar.specs.Trees.{NamePath, segment, inside, true_at, false_at, character, whole, negative, RangeBound, constant, place, exclusive, inclusive, BoundName, bare_name, closer, RecordHead, index, Pattern, NoTopAlt, plain, upward, WithoutRange, literal, ident, wild, rest, path, list, list_to, record_of, record_to, record_dots, RecordFields, RecordField, keyed, short}
use Rattle.pattern_grammar.specs.Admitted.{open_item_at, RestRoom, no_rest, fits_rest, item_room, second, is_mut_first, begins_mut, literal_fits, bound_fits, key_fits, is_none, pattern_ok, alt_ok, plain_ok, items_ok, fields_ok, field_ok, admitted}
use Rattle.pattern_grammar.specs.Machine.{ForPlain, any_alt, behind_amp, ForAlt, first_alt, ForPattern, whole_text, for_item, for_field, Closed, RangeHead, up_to_head, from_head, range_of, BoundPlace, at_start, at_end, NamePlace, in_pattern, in_record, Reading, begin, expect, read_amp, read_ref, read_mut, read_name, read_bound, read_path, read_sep, read_minus, read_literal, read_dots, read_from, read_to, read_to_path, read_alt, read_brace, read_label, read_index, read_field, read_etc, done, failed, close_alt, close_plain, after, room_in, room_of, ranged, starts, bounds, behind, ends, named_in, path_in, negative_in, behind_path, behind_field, on_mark, on_name, on_char, step, feed, fresh, dots_in, rest_stands}
use Rattle.pattern_grammar.proofs.Fine.{mut_free, fine_plain, fine_alt, fine_open, head_fits, fine_bound, fine_name, fine, Fine, fine_if, fine_failed, fine_fitting, fine_unless, free_false, pattern_roomy, cut, cut_none, FineClosed, fine_alt_lem, fine_plain_lem, fine_read}

-- an alternative of its own closes
read_plain :
    (w : WithoutRange) (s : ForPlain) (text : Source)
    → plain_ok text no_rest w ≡ true → begins_mut w ≡ false → fine_plain text s ≡ true → FineClosed text false (close_plain w s)
unfolding cut
read_plain w s text e g f = fine_plain_lem s text false w e (rw g (free_false s)) f

read_alt_lem : (a : NoTopAlt) (l : ForAlt) (text : Source) → alt_ok text no_rest a ≡ true → fine_alt text l ≡ true → FineClosed text false (close_alt a l)
unfolding cut
read_alt_lem a l text e f = fine_alt_lem l text false a e f

range_ok : (h : RangeHead) (b : RangeBound) (text : Source) → head_fits text h ≡ true → bound_fits text b ≡ true → alt_ok text no_rest (range_of h b) ≡ true
unfolding head_fits range_of alt_ok
range_ok (up_to_head d) b text e f = f
range_ok (from_head a d) b text e f = and_true (bound_fits text a) (bound_fits text b) e f

read_range :
    (h : RangeHead) (b : RangeBound) (l : ForAlt) (text : Source)
    → head_fits text h && fine_alt text l ≡ true → bound_fits text b ≡ true → FineClosed text false (close_alt (range_of h b) l)
read_range h b l text e f =
    read_alt_lem (range_of h b) l text (range_ok h b text (and_left (head_fits text h) (fine_alt text l) e) f) (and_right (head_fits text h) (fine_alt text l) e)

fine_ranged :
    (s : ForPlain) (q : Spot) (go : ForAlt → Reading) (text : Source)
    → fine_plain text s ≡ true → ((l : ForAlt) → fine_alt text l ≡ true → Fine text (go l)) → Fine text (ranged s q go)
unfolding ranged fine_plain
fine_ranged (any_alt l) q go text f h = h l f
fine_ranged (behind_amp a m s) q go text f h = fine_failed

fine_dots : (s : ForPlain) (text : Source) (q : Spot) → fine_plain text s ≡ true → Fine text (dots_in text s q)
unfolding dots_in fine fine_plain plain_ok begins_mut fits_rest
fine_dots (any_alt l) text q f = record { holds = f }
fine_dots (behind_amp a m s) text q f =
    fine_if text.strict (λ _. fine_failed) (λ e. fine_read (read_plain (rest q) (behind_amp a m s) text (rw e refl) refl f))

fine_starts :
    (text : Source) (s : ForPlain) (m : ℕ) (q : Spot)
    → fine_plain text s ≡ true → (eqb m mut_mark ≡ true → mut_free s true ≡ true) → Fine text (starts text s m q)
unfolding starts fine fine_name fine_bound fine_plain head_fits literal_fits plain_ok begins_mut second items_ok
fine_starts text s m q f g =
    fine_if (eqb m ref_mark) (λ _. record { holds = and_true (mut_free s false) (fine_plain text s) (free_false s) f }) (λ _.
    fine_if (eqb m mut_mark) (λ e. record { holds = and_true (mut_free s true) (fine_plain text s) (g e) f }) (λ _.
    fine_if (eqb m true_mark) (λ _. record { holds = f }) (λ _.
    fine_if (eqb m false_mark) (λ _. record { holds = f }) (λ _.
    fine_if (eqb m underscore_mark) (λ _. fine_read (read_plain (wild q) s text refl refl f)) (λ _.
    fine_if (eqb m integer_mark) (λ _. fine_fitting false q (λ e. record { holds = and_true (not (wide text false q)) (fine_plain text s) e f })) (λ _.
    fine_if (eqb m minus_mark) (λ _. record { holds = f }) (λ _.
    fine_if (eqb m open_paren_mark) (λ _. record { holds = f }) (λ _.
    fine_if (eqb m open_bracket_mark) (λ _. record { holds = f }) (λ _.
    fine_if (eqb m and_mark) (λ _. record { holds = f }) (λ _.
    fine_if (eqb m and_and_mark) (λ _. record { holds = f }) (λ _.
    fine_if (eqb m dot_dot_mark) (λ _. fine_dots s text q f) (λ _.
    fine_if (eqb m dot_dot_eq_mark) (λ _. fine_ranged s q (read_to (up_to_head (inclusive q))) text f (λ l h. record { holds = h })) (λ _.
    fine_failed)))))))))))))

fine_bounds :
    (text : Source) (h : RangeHead) (l : ForAlt) (m : ℕ) (q : Spot) (other : Reading)
    → head_fits text h && fine_alt text l ≡ true → Fine text other → Fine text (bounds text h l m q other)
unfolding bounds fine fine_bound bound_fits literal_fits
fine_bounds text h l m q other f o =
    fine_if (eqb m true_mark) (λ _. fine_read (read_range h (constant (true_at q)) l text f refl)) (λ _.
    fine_if (eqb m false_mark) (λ _. fine_read (read_range h (constant (false_at q)) l text f refl)) (λ _.
    fine_if (eqb m integer_mark) (λ _. fine_fitting false q (λ e. fine_read (read_range h (constant (whole q)) l text f e))) (λ _.
    fine_if (eqb m minus_mark) (λ _. record { holds = f }) (λ _.
    o))))

no_or : (free b : Bool) → free && b ≡ false → b ≡ true → free ≡ false
no_or true b e f = sym f ∙ e
no_or false b e f = refl

cut_any : (free : Bool) (room : RestRoom) (p : Pattern) (text : Source) → pattern_ok text (cut free room) p ≡ true → pattern_ok text room p ≡ true
unfolding cut
cut_any true room p text e = e
cut_any false room p text e = pattern_roomy p text room e

cut_off : (free : Bool) (room : RestRoom) (p : Pattern) (text : Source) → free ≡ false → pattern_ok text (cut free room) p ≡ true → pattern_ok text no_rest p ≡ true
unfolding cut
cut_off true room p text f e = absurd (true≢false f)
cut_off false room p text f e = e

-- a mark behind a whole alternative, no `|` where it is a rest
fine_behind :
    (o : ForPattern) (p : Pattern) (text : Source) (free : Bool) (m : ℕ) (q : Spot)
    → pattern_ok text (cut free (room_of o)) p ≡ true → fine_open text o ≡ true → free && eqb m or_mark ≡ false → Fine text (behind text p o m q)
unfolding behind fine fine_plain mut_free room_of admitted field_ok items_ok fields_ok plain_ok begins_mut
fine_behind whole_text p text free m q e f g =
    let own : pattern_ok text no_rest p ≡ true = subst (λ room. pattern_ok text room p ≡ true) (cut_none free) e in
    fine_if (eqb m or_mark) (λ _. record { holds = and_true (pattern_ok text no_rest p) true own refl }) (λ _.
    fine_if (eqb m end_mark) (λ _. record { holds = own }) (λ _.
    fine_failed))
fine_behind (for_item h is s) p text free m q e f g =
    let own : pattern_ok text (item_room h is) p ≡ true = cut_any free (item_room h is) p text e in
    let items : items_ok text h is ≡ true = and_left (items_ok text h is) (fine_plain text s) f in
    let below : fine_plain text s ≡ true = and_right (items_ok text h is) (fine_plain text s) f in
    let whole : is_none (open_item_at text h p) ≡ true → items_ok text h is && (pattern_ok text (item_room h is) p && is_none (open_item_at text h p)) ≡ true =
    λ n. and_true (items_ok text h is) _ items (and_true (pattern_ok text (item_room h is) p) (is_none (open_item_at text h p)) own n) in
    fine_if (eqb m or_mark)
    (λ c. record {
      holds = and_true (pattern_ok text no_rest p) (items_ok text h is && fine_plain text s)
          (cut_off free (item_room h is) p text (no_or free (eqb m or_mark) g c) e) f;
    }) (λ _.
    fine_if (eqb m comma_mark)
    (λ _. fine_unless (open_item_at text h p) (λ n. record {
      holds = and_true (items_ok text h is && (pattern_ok text (item_room h is) p && is_none (open_item_at text h p))) (fine_plain text s) (whole n) below;
    })) (λ _.
    fine_if (eqb m (closer h)) (λ _. fine_unless (open_item_at text h p) (λ n. fine_read (read_plain (list_to h is p q) s text (whole n) refl below))) (λ _.
    fine_failed)))
fine_behind (for_field h fs key c s) p text free m q e f g =
    let own : pattern_ok text no_rest p ≡ true = subst (λ room. pattern_ok text room p ≡ true) (cut_none free) e in
    let fields : fields_ok text fs ≡ true = and_left (fields_ok text fs) _ f in
    let rests : key_fits text key && fine_plain text s ≡ true = and_right (fields_ok text fs) _ f in
    let below : fine_plain text s ≡ true = and_right (key_fits text key) _ rests in
    let whole : fields_ok text fs && (key_fits text key && pattern_ok text no_rest p) ≡ true =
    and_true (fields_ok text fs) _ fields (and_true (key_fits text key) _ (and_left (key_fits text key) _ rests) own) in
    fine_if (eqb m or_mark) (λ _. record { holds = and_true (pattern_ok text no_rest p) (fields_ok text fs && (key_fits text key && fine_plain text s)) own f }) (λ _.
    fine_if (eqb m comma_mark) (λ _. record { holds = and_true (fields_ok text fs && (key_fits text key && pattern_ok text no_rest p)) (fine_plain text s) whole below }) (λ _.
    fine_if (eqb m close_brace_mark) (λ _. fine_read (read_plain (record_to h fs (keyed key c p) q) s text whole refl below)) (λ _.
    fine_failed)))

-- and where it is none
fine_after : (c : Closed) (text : Source) (m : ℕ) (q : Spot) → FineClosed text false c → Fine text (after text c m q)
fine_after c text m q h = fine_behind c.waiting c.pattern text false m q h.pattern h.waiting refl

fine_path : (p : NamePath) (s : ForPlain) (text : Source) (m : ℕ) (q : Spot) → fine_plain text s ≡ true → Fine text (behind_path p s m q)
unfolding behind_path fine fine_bound fine_plain bound_fits head_fits items_ok
fine_path p s text m q f =
    fine_if (eqb m path_sep_mark) (λ _. record { holds = f }) (λ _.
    fine_if (eqb m open_paren_mark) (λ _. record { holds = f }) (λ _.
    fine_if (eqb m open_brace_mark) (λ _. record { holds = f }) (λ _.
    fine_if (eqb m dot_dot_mark) (λ _. fine_ranged s q (read_from (place p) q) text f (λ l h. record { holds = h })) (λ _.
    fine_if (eqb m dot_dot_eq_mark) (λ _. fine_ranged s q (read_to (from_head (place p) (inclusive q))) text f (λ l h. record { holds = h })) (λ _.
    fine_failed)))))

fine_field :
    (x : RecordField) (h : RecordHead) (fs : RecordFields) (s : ForPlain) (text : Source) (m : ℕ) (q : Spot)
    → field_ok text x ≡ true → fields_ok text fs && fine_plain text s ≡ true → Fine text (behind_field x h fs s m q)
unfolding behind_field fine fields_ok plain_ok begins_mut
fine_field x h fs s text m q e f =
    let below : fine_plain text s ≡ true = and_right (fields_ok text fs) _ f in
    let whole : fields_ok text fs && field_ok text x ≡ true = and_true (fields_ok text fs) _ (and_left (fields_ok text fs) (fine_plain text s) f) e in
    fine_if (eqb m comma_mark) (λ _. record { holds = and_true (fields_ok text fs && field_ok text x) (fine_plain text s) whole below }) (λ _.
    fine_if (eqb m close_brace_mark) (λ _. fine_read (read_plain (record_to h fs x q) s text whole refl below)) (λ _.
    fine_failed))

fine_ends : (o : ForPattern) (text : Source) (m : ℕ) (q : Spot) → fine_open text o ≡ true → Fine text (ends o m q)
unfolding ends fine_plain plain_ok begins_mut
fine_ends whole_text text m q f = fine_failed
fine_ends (for_item h is s) text m q f =
    fine_if (eqb m (closer h))
    (λ _. fine_read (read_plain (list h is q) s text (and_left (items_ok text h is) (fine_plain text s) f) refl (and_right (items_ok text h is) (fine_plain text s) f)))
    (λ _. fine_failed)
fine_ends (for_field h fs key c s) text m q f = fine_failed

fine_named : (i : NamePlace) (b : BoundName) (text : Source) → fine_name text i (is_mut_first b) ≡ true → Fine text (named_in i b)
unfolding named_in fine fine_name field_ok
fine_named (in_pattern s) b text f = record { holds = f }
fine_named (in_record h fs s) b text f = record { holds = f }

-- with `ref` before it a `mut` is not first
place_free : (i : NamePlace) (text : Source) (muts : Bool) → fine_name text i false ≡ true → muts ≡ false → fine_name text i muts ≡ true
place_free i text muts f e = rw e f

read_name_lem :
    (b : BoundName) (s : ForPlain) (text : Source) → mut_free s (is_mut_first b) && fine_plain text s ≡ true → FineClosed text false (close_plain (ident b) s)
unfolding cut plain_ok begins_mut
read_name_lem b s text f =
    fine_plain_lem s text false (ident b) refl (and_left (mut_free s (is_mut_first b)) (fine_plain text s) f) (and_right (mut_free s (is_mut_first b)) (fine_plain text s) f)

fine_negative :
    (i : BoundPlace) (c q : Spot) (text : Source) → fine_bound text i ≡ true → not (wide text true q) ≡ true → Fine text (negative_in i (negative c q))
unfolding negative_in fine fine_bound literal_fits bound_fits
fine_negative (at_start s) c q text f e = record { holds = and_true (not (wide text true q)) (fine_plain text s) e f }
fine_negative (at_end h l) c q text f e = fine_read (read_range h (constant (negative c q)) l text f e)

full_room : (room : RestRoom) → fits_rest room ≡ true → fits_rest (cut true room) ≡ true
unfolding cut
full_room room h = h

fine_rest_closed :
    (d : Spot) (l : ForAlt) (text : Source) (free : Bool)
    → fine_alt text l ≡ true → (fits_rest (cut free (room_in l)) || not text.strict) ≡ true → FineClosed text free (close_alt (plain (rest d)) l)
unfolding alt_ok
fine_rest_closed d l text free f h = fine_alt_lem l text free (plain (rest d)) h f

-- a rest closes where it may stand
fine_rest :
    (d : Spot) (l : ForAlt) (text : Source) (m : ℕ) (q : Spot)
    → fine_alt text l ≡ true → rest_stands text l m ≡ true → Fine text (after text (close_alt (plain (rest d)) l) m q)
unfolding rest_stands
fine_rest d l text m q f e = by text.strict refl e
  where
    loose : text.strict ≡ false → (x : Bool) → (x || not text.strict) ≡ true
    loose s true = refl
    loose s false = rw s refl

    roomy : (x y : Bool) → (x && y || false) ≡ true → (x ≡ true) × (y ≡ true)
    roomy true true g = (refl, refl)
    roomy true false g = absurd (false≢true g)
    roomy false y g = absurd (false≢true g)

    any : (x z : Bool) → x ≡ true → (x || z) ≡ true
    any true z g = refl
    any false z g = absurd (false≢true g)

    by :
        (b : Bool) → text.strict ≡ b → (fits_rest (room_in l) && not (eqb m or_mark) || not b) ≡ true
        → Fine text (after text (close_alt (plain (rest d)) l) m q)
    by false s g = fine_after _ text m q (fine_rest_closed d l text false f (loose s (fits_rest (cut false (room_in l)))))
    by true s g =
        let both = roomy (fits_rest (room_in l)) (not (eqb m or_mark)) g in
        let closed : FineClosed text true (close_alt (plain (rest d)) l) = fine_rest_closed d l text true f (any (fits_rest (cut true (room_in l))) (not text.strict) (full_room (room_in l) both.0)) in
        fine_behind (close_alt (plain (rest d)) l).waiting (close_alt (plain (rest d)) l).pattern text true m q closed.pattern closed.waiting
        (not-true (eqb m or_mark) both.1)

fine_mark : (r : Reading) (text : Source) (m : ℕ) (q : Spot) → fine text r ≡ true → Fine text (on_mark text r m q)
unfolding on_mark fine fine_name fine_bound fine_plain mut_free head_fits literal_fits bound_fits plain_ok alt_ok begins_mut second is_mut_first field_ok key_fits cut
fine_mark (begin o) text m q f =
    fine_if (eqb m or_mark) (λ _. record { holds = f }) (λ _.
    fine_if (follows m) (λ _. fine_ends o text m q f) (λ _.
    fine_starts text (any_alt (first_alt none o)) m q f (λ _. refl)))
fine_mark (expect s) text m q f =
    fine_starts text s m q (and_right (mut_free s true) (fine_plain text s) f) (λ _. and_left (mut_free s true) (fine_plain text s) f)
fine_mark (read_amp a s) text m q f =
    fine_if (eqb m mut_mark) (λ _. record { holds = f }) (λ n.
    fine_starts text (behind_amp a none s) m q f (λ e. absurd (true≢false (sym e ∙ n))))
fine_mark (read_ref i r) text m q f = fine_if (eqb m mut_mark) (λ _. record { holds = place_free i text false f refl }) (λ _. fine_failed)
fine_mark (read_mut i r u) text m q f = fine_failed
fine_mark (read_name n s) text m q f =
    fine_if (follows m) (λ _. fine_after _ text m q (read_plain (ident (bare_name n)) s text refl refl f)) (λ _.
    fine_if (eqb m bind_mark) (λ _. record { holds = and_true (mut_free s false) (fine_plain text s) (free_false s) f }) (λ _.
    fine_path (segment n) s text m q f))
fine_mark (read_bound b s) text m q f =
    fine_if (follows m) (λ _. fine_after _ text m q (read_name_lem b s text f)) (λ _.
    fine_if (eqb m bind_mark) (λ _. record { holds = f }) (λ _.
    fine_failed))
fine_mark (read_path p c n s) text m q f =
    fine_if (follows m) (λ _. fine_after _ text m q (read_plain (path p c n) s text refl refl f)) (λ _. fine_path (inside p c n) s text m q f)
fine_mark (read_sep p c i) text m q f = fine_failed
fine_mark (read_minus c i) text m q f =
    fine_if (eqb m integer_mark) (λ _. fine_fitting true q (λ e. fine_negative i c q text f e)) (λ _. fine_failed)
fine_mark (read_literal v s) text m q f =
    let own : literal_fits text v ≡ true = and_left (literal_fits text v) (fine_plain text s) f in
    let below : fine_plain text s ≡ true = and_right (literal_fits text v) (fine_plain text s) f in
    fine_if (follows m) (λ _. fine_after _ text m q (read_plain (literal v) s text own refl below)) (λ _.
    fine_if (eqb m dot_dot_mark)
    (λ _. fine_ranged s q (read_from (constant v) q) text below (λ l h. record { holds = and_true (literal_fits text v) (fine_alt text l) own h })) (λ _.
    fine_if (eqb m dot_dot_eq_mark)
    (λ _. fine_ranged s q (read_to (from_head (constant v) (inclusive q))) text below
    (λ l h. record { holds = and_true (literal_fits text v) (fine_alt text l) own h })) (λ _.
    fine_failed)))
fine_mark (read_dots d l) text m q f =
    fine_bounds text (up_to_head (exclusive d)) l m q _ f
    (fine_if (rest_stands text l m) (λ e. fine_rest d l text m q f e) (λ _. fine_failed))
fine_mark (read_from a d l) text m q f =
    fine_bounds text (from_head a (exclusive d)) l m q _ f
    (fine_if (follows m)
    (λ _. fine_after _ text m q (read_alt_lem (upward a d) l text (and_left (bound_fits text a) (fine_alt text l) f) (and_right (bound_fits text a) (fine_alt text l) f)))
    (λ _. fine_failed))
fine_mark (read_to h l) text m q f = fine_bounds text h l m q _ f fine_failed
fine_mark (read_to_path p h l) text m q f =
    fine_if (follows m) (λ _. fine_after _ text m q (read_range h (place p) l text f refl)) (λ _.
    fine_if (eqb m path_sep_mark) (λ _. record { holds = f }) (λ _.
    fine_failed))
fine_mark (read_alt c) text m q f =
    fine_after c text m q (record {
      pattern = and_left (pattern_ok text no_rest c.pattern) (fine_open text c.waiting) f;
      waiting = and_right (pattern_ok text no_rest c.pattern) (fine_open text c.waiting) f;
    })
fine_mark (read_brace h fs s) text m q f =
    fine_if (eqb m close_brace_mark)
    (λ _. fine_read (read_plain (record_of h fs q) s text (and_left (fields_ok text fs) (fine_plain text s) f) refl (and_right (fields_ok text fs) (fine_plain text s) f)))
    (λ _.
    fine_if (eqb m dot_dot_mark) (λ _. record { holds = f }) (λ _.
    fine_if (eqb m integer_mark)
    (λ _. fine_fitting false q (λ e. record { holds = and_true (not (wide text false q)) (fields_ok text fs && fine_plain text s) e f })) (λ _.
    fine_if (eqb m ref_mark) (λ _. record { holds = f }) (λ _.
    fine_if (eqb m mut_mark) (λ _. record { holds = f }) (λ _.
    fine_failed)))))
fine_mark (read_label n h fs s) text m q f =
    fine_if (eqb m colon_mark) (λ _. record { holds = f }) (λ _. fine_field (short (bare_name n)) h fs s text m q refl f)
fine_mark (read_index i h fs s) text m q f =
    let own : key_fits text (index i) ≡ true = and_left (key_fits text (index i)) (fields_ok text fs && fine_plain text s) f in
    let below : fields_ok text fs && fine_plain text s ≡ true = and_right (key_fits text (index i)) (fields_ok text fs && fine_plain text s) f in
    fine_if (eqb m colon_mark)
    (λ _. record {
      holds = and_true (fields_ok text fs) (key_fits text (index i) && fine_plain text s) (and_left (fields_ok text fs) (fine_plain text s) below)
          (and_true (key_fits text (index i)) (fine_plain text s) own (and_right (fields_ok text fs) (fine_plain text s) below));
    })
    (λ _. fine_failed)
fine_mark (read_field x h fs s) text m q f =
    fine_field x h fs s text m q (and_left (field_ok text x) (fields_ok text fs && fine_plain text s) f) (and_right (field_ok text x) (fields_ok text fs && fine_plain text s) f)
fine_mark (read_etc d h fs s) text m q f =
    fine_if (eqb m close_brace_mark)
    (λ _. fine_read (read_plain (record_dots h fs d q) s text (and_left (fields_ok text fs) (fine_plain text s) f) refl (and_right (fields_ok text fs) (fine_plain text s) f)))
    (λ _. fine_failed)
fine_mark (done p e) text m q f = fine_failed
fine_mark (failed at) text m q f = fine_failed

fine_name_lem : (r : Reading) (text : Source) (n : Identifier) → fine text r ≡ true → Fine text (on_name r n)
unfolding on_name fine fine_bound fine_plain head_fits path_in second is_mut_first
fine_name_lem (begin o) text n f = record { holds = f }
fine_name_lem (expect s) text n f = record { holds = and_right (mut_free s true) (fine_plain text s) f }
fine_name_lem (read_amp a s) text n f = record { holds = f }
fine_name_lem (read_ref i r) text n f = fine_named i _ text f
fine_name_lem (read_mut i r u) text n f = fine_named i _ text f
fine_name_lem (read_name x s) text n f = fine_failed
fine_name_lem (read_bound b s) text n f = fine_failed
fine_name_lem (read_path p c x s) text n f = fine_failed
fine_name_lem (read_sep p c (at_start s)) text n f = record { holds = f }
fine_name_lem (read_sep p c (at_end h l)) text n f = record { holds = f }
fine_name_lem (read_minus c i) text n f = fine_failed
fine_name_lem (read_literal l s) text n f = fine_failed
fine_name_lem (read_dots d l) text n f = record { holds = f }
fine_name_lem (read_from a d l) text n f = record { holds = f }
fine_name_lem (read_to h l) text n f = record { holds = f }
fine_name_lem (read_to_path p h l) text n f = fine_failed
fine_name_lem (read_alt c) text n f = fine_failed
fine_name_lem (read_brace h fs s) text n f = record { holds = f }
fine_name_lem (read_label x h fs s) text n f = fine_failed
fine_name_lem (read_index i h fs s) text n f = fine_failed
fine_name_lem (read_field x h fs s) text n f = fine_failed
fine_name_lem (read_etc d h fs s) text n f = fine_failed
fine_name_lem (done p e) text n f = fine_failed
fine_name_lem (failed at) text n f = fine_failed

fine_scalar : (r : Reading) (text : Source) (v : ℕ) (q : Spot) → fine text r ≡ true → Fine text (on_char r v q)
unfolding on_char fine fine_plain head_fits literal_fits bound_fits range_of
fine_scalar (begin o) text v q f = record { holds = f }
fine_scalar (expect s) text v q f = record { holds = and_right (mut_free s true) (fine_plain text s) f }
fine_scalar (read_amp a s) text v q f = record { holds = f }
fine_scalar (read_ref i r) text v q f = fine_failed
fine_scalar (read_mut i r u) text v q f = fine_failed
fine_scalar (read_name x s) text v q f = fine_failed
fine_scalar (read_bound b s) text v q f = fine_failed
fine_scalar (read_path p c x s) text v q f = fine_failed
fine_scalar (read_sep p c i) text v q f = fine_failed
fine_scalar (read_minus c i) text v q f = fine_failed
fine_scalar (read_literal l s) text v q f = fine_failed
fine_scalar (read_dots d l) text v q f = fine_read (read_range (up_to_head (exclusive d)) (constant (character v q)) l text f refl)
fine_scalar (read_from a d l) text v q f = fine_read (read_range (from_head a (exclusive d)) (constant (character v q)) l text f refl)
fine_scalar (read_to h l) text v q f = fine_read (read_range h (constant (character v q)) l text f refl)
fine_scalar (read_to_path p h l) text v q f = fine_failed
fine_scalar (read_alt c) text v q f = fine_failed
fine_scalar (read_brace h fs s) text v q f = fine_failed
fine_scalar (read_label x h fs s) text v q f = fine_failed
fine_scalar (read_index i h fs s) text v q f = fine_failed
fine_scalar (read_field x h fs s) text v q f = fine_failed
fine_scalar (read_etc d h fs s) text v q f = fine_failed
fine_scalar (done p e) text v q f = fine_failed
fine_scalar (failed at) text v q f = fine_failed

fine_step : (t : Lexeme) (text : Source) (r : Reading) → fine text r ≡ true → Fine text (step text r t)
unfolding step
fine_step (name n) text r f = fine_name_lem r text n f
fine_step (scalar v q) text r f = fine_scalar r text v q f
fine_step (mark m q) text r f = fine_mark r text m q f

pub fine_feed : (ts : List Lexeme) (text : Source) (r : Reading) → fine text r ≡ true → fine text (feed text ts r) ≡ true
unfolding feed
fine_feed [] text r f = f
fine_feed (t ∷ ts) text r f = fine_feed ts text (step text r t) (fine_step t text r f).holds

-- what is read is admitted
pub read_admitted : (text : Source) (ts : List Lexeme) (p : Pattern) (e : Spot) → feed text ts fresh ≡ done p e → admitted text p ≡ true
unfolding fine fine_plain
read_admitted text ts p e h = sym (ap (fine text) h) ∙ fine_feed ts text fresh refl
