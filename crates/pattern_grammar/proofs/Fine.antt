-- What is open holds admitted parts alone. Assumes nothing.
use Prim.Native.Nat.{ℕ}
use mathlib.Core.Path.{◌≡◌, refl, subst}
use mathlib.Core.Bool.{Bool, true, false, not, cond, ◌&&◌, ◌||◌}
use mathlib.Core.Option.{Option, none, some}
use Rattle.image.proofs.Bools.{and_left, and_right, and_true}
use Rattle.pattern_grammar.specs.Lexemes.{Spot, wide, Source}
use Rattle.pattern_grammar.specs.Trees.{Ampersand, index, Pattern, alone, or, NoTopAlt, plain, between, upward, up_to, WithoutRange, literal, ident, ident_at, wild, rest, reference, path, list, list_to, record_of, record_to, record_dots}
use Rattle.pattern_grammar.specs.Admitted.{RestRoom, no_rest, fits_rest, behind_name, behind_bar, second, is_mut_first, begins_mut, mut_is_own, literal_fits, bound_fits, key_fits, is_none, pattern_ok, alt_ok, plain_ok, items_ok, fields_ok, field_ok, admitted}
use Rattle.pattern_grammar.specs.Machine.{ForPlain, any_alt, behind_amp, ForAlt, first_alt, next_alt, behind_at, ForPattern, whole_text, for_item, for_field, Closed, RangeHead, up_to_head, from_head, BoundPlace, at_start, at_end, NamePlace, in_pattern, in_record, Reading, begin, expect, read_amp, read_ref, read_mut, read_name, read_bound, read_path, read_sep, read_minus, read_literal, read_dots, read_from, read_to, read_to_path, read_alt, read_brace, read_label, read_index, read_field, read_etc, done, failed, close_alt, close_plain, room_in, room_behind, room_of, fitting, unless_open}

-- a tree that begins with `mut`, or not, may close here: behind `&` the `mut` would be the reference's
unfoldable pub mut_free : ForPlain → Bool → Bool
mut_free (any_alt l) muts = true
mut_free (behind_amp a none s) muts = not muts
mut_free (behind_amp a (some q) s) muts = true

unfoldable mutual
  pub fine_plain : Source → ForPlain → Bool
  fine_plain text (any_alt l) = fine_alt text l
  fine_plain text (behind_amp a m s) = fine_plain text s

  pub fine_alt : Source → ForAlt → Bool
  fine_alt text (first_alt lead o) = fine_open text o
  fine_alt text (next_alt p c o) = pattern_ok text no_rest p && fine_open text o
  fine_alt text (behind_at b c s) = mut_free s (is_mut_first b) && fine_plain text s

  pub fine_open : Source → ForPattern → Bool
  fine_open text whole_text = true
  fine_open text (for_item h is s) = items_ok text h is && fine_plain text s
  fine_open text (for_field h fs key c s) = fields_ok text fs && (key_fits text key && fine_plain text s)

unfoldable pub head_fits : Source → RangeHead → Bool
head_fits text (up_to_head d) = true
head_fits text (from_head a d) = bound_fits text a

unfoldable pub fine_bound : Source → BoundPlace → Bool
fine_bound text (at_start s) = fine_plain text s
fine_bound text (at_end h l) = head_fits text h && fine_alt text l

-- before a name that has `mut` first, or not
unfoldable pub fine_name : Source → NamePlace → Bool → Bool
fine_name text (in_pattern s) muts = mut_free s muts && fine_plain text s
fine_name text (in_record h fs s) muts = fields_ok text fs && fine_plain text s

unfoldable pub fine : Source → Reading → Bool
fine text (begin o) = fine_open text o
fine text (expect s) = mut_free s true && fine_plain text s
fine text (read_amp a s) = fine_plain text s
fine text (read_ref i r) = fine_name text i false
fine text (read_mut i r u) = fine_name text i (second r (some u))
fine text (read_name n s) = fine_plain text s
fine text (read_bound b s) = mut_free s (is_mut_first b) && fine_plain text s
fine text (read_path p c n s) = fine_plain text s
fine text (read_sep p c i) = fine_bound text i
fine text (read_minus c i) = fine_bound text i
fine text (read_literal v s) = literal_fits text v && fine_plain text s
fine text (read_dots d l) = fine_alt text l
fine text (read_from a d l) = bound_fits text a && fine_alt text l
fine text (read_to h l) = head_fits text h && fine_alt text l
fine text (read_to_path p h l) = head_fits text h && fine_alt text l
fine text (read_alt c) = pattern_ok text no_rest c.pattern && fine_open text c.waiting
fine text (read_brace h fs s) = fields_ok text fs && fine_plain text s
fine text (read_label n h fs s) = fields_ok text fs && fine_plain text s
fine text (read_index i h fs s) = key_fits text (index i) && (fields_ok text fs && fine_plain text s)
fine text (read_field f h fs s) = field_ok text f && (fields_ok text fs && fine_plain text s)
fine text (read_etc d h fs s) = fields_ok text fs && fine_plain text s
fine text (done p e) = admitted text p
fine text (failed at) = true

-- a reading holds admitted parts alone
pub record Fine (text : Source) (z : Reading) : Type 0 where
  pub holds : fine text z ≡ true

pub fine_if :
    {text : Source} {x y : Reading} (b : Bool) → (b ≡ true → Fine text x) → (b ≡ false → Fine text y) → Fine text (cond b x y)
fine_if true h g = h refl
fine_if false h g = g refl

pub fine_failed : {text : Source} {at : ℕ} → Fine text (failed at)
unfolding fine
fine_failed = record { holds = refl }

pub fine_fitting :
    {text : Source} {go : Reading} (minus : Bool) (q : Spot) → (not (wide text minus q) ≡ true → Fine text go) → Fine text (fitting text minus q go)
unfolding fitting
fine_fitting {text} minus q h = fine_if (wide text minus q) (λ e. fine_failed) (λ e. h (rw e refl))

pub fine_unless : {text : Source} {go : Reading} (o : Option ℕ) → (is_none o ≡ true → Fine text go) → Fine text (unless_open o go)
unfolding unless_open is_none
fine_unless none h = h refl
fine_unless (some at) h = fine_failed

pub free_false : (s : ForPlain) → mut_free s false ≡ true
unfolding mut_free
free_false (any_alt l) = refl
free_false (behind_amp a none s) = refl
free_false (behind_amp a (some q) s) = refl

or_second : (a b : Bool) → b ≡ true → (a || b) ≡ true
or_second true b e = refl
or_second false b e = e

-- where no rest may stand, or where one may
mutual
  unfolding pattern_ok behind_name fits_rest

  alt_roomy : (a : NoTopAlt) (text : Source) (room : RestRoom) → alt_ok text no_rest a ≡ true → alt_ok text room a ≡ true
  alt_roomy (plain w) text room e = plain_roomy w text room e
  alt_roomy (between a d b) text room e = e
  alt_roomy (upward a q) text room e = e
  alt_roomy (up_to d b) text room e = e

  plain_roomy : (w : WithoutRange) (text : Source) (room : RestRoom) → plain_ok text no_rest w ≡ true → plain_ok text room w ≡ true
  plain_roomy (literal v) text room e = e
  plain_roomy (ident b) text room e = e
  plain_roomy (ident_at b c a) text room e = alt_roomy a text (behind_name room) e
  plain_roomy (wild q) text room e = e
  plain_roomy (rest q) text room e = or_second (fits_rest room) (not text.strict) e
  plain_roomy (reference a m w) text room e = e
  plain_roomy (path p c n) text room e = e
  plain_roomy (list h is q) text room e = e
  plain_roomy (list_to h is p q) text room e = e
  plain_roomy (record_of h fs q) text room e = e
  plain_roomy (record_to h fs f q) text room e = e
  plain_roomy (record_dots h fs d q) text room e = e

pub pattern_roomy : (p : Pattern) (text : Source) (room : RestRoom) → pattern_ok text no_rest p ≡ true → pattern_ok text room p ≡ true
unfolding pattern_ok behind_bar
pattern_roomy (alone none a) text room e = alt_roomy a text room e
pattern_roomy (alone (some q) a) text room e = e
pattern_roomy (or p c a) text room e = e

-- the room that there is, or none
unfoldable pub cut : Bool → RestRoom → RestRoom
cut free room = cond free room no_rest

cut_bar : (free : Bool) (lead : Option Spot) (room : RestRoom) → cut free (behind_bar lead room) ≡ behind_bar lead (cut free room)
unfolding cut behind_bar
cut_bar true lead room = refl
cut_bar false none room = refl
cut_bar false (some q) room = refl

cut_name : (free : Bool) (room : RestRoom) → cut free (behind_name room) ≡ behind_name (cut free room)
unfolding cut behind_name
cut_name true room = refl
cut_name false room = refl

pub cut_none : (free : Bool) → cut free no_rest ≡ no_rest
unfolding cut
cut_none true = refl
cut_none false = refl

-- a pattern that has closed is admitted, and so is what waits for it
pub record FineClosed (text : Source) (free : Bool) (c : Closed) : Type 0 where
  pub pattern : pattern_ok text (cut free (room_of c.waiting)) c.pattern ≡ true
  pub waiting : fine_open text c.waiting ≡ true

own_mut :
    (a : Ampersand) (m : Option Spot) (s : ForPlain) (w : WithoutRange) → mut_free (behind_amp a m s) (begins_mut w) ≡ true → mut_is_own m w ≡ true
unfolding mut_free mut_is_own
own_mut a none s w e = e
own_mut a (some q) s w e = refl

mutual
  unfolding close_alt pattern_ok room_in fine_plain begins_mut

  pub fine_alt_lem :
      (l : ForAlt) (text : Source) (free : Bool) (a : NoTopAlt)
      → alt_ok text (cut free (room_in l)) a ≡ true → fine_alt text l ≡ true → FineClosed text free (close_alt a l)
  fine_alt_lem (first_alt lead o) text free a e f = record {
    pattern = subst (λ room. alt_ok text room a ≡ true) (cut_bar free lead (room_of o)) e;
    waiting = f;
  }
  fine_alt_lem (next_alt p c o) text free a e f = record {
    pattern =
        and_true (pattern_ok text no_rest p) (alt_ok text no_rest a) (and_left (pattern_ok text no_rest p) (fine_open text o) f) (subst (λ room. alt_ok text room a ≡ true) (cut_none free) e);
    waiting = and_right (pattern_ok text no_rest p) _ f;
  }
  fine_alt_lem (behind_at b c s) text free a e f =
      fine_plain_lem s text free (ident_at b c a)
      (subst (λ room. alt_ok text room a ≡ true) (cut_name free (room_behind s)) e)
      (and_left _ (fine_plain text s) f)
      (and_right (mut_free s (is_mut_first b)) _ f)

  pub fine_plain_lem :
      (s : ForPlain) (text : Source) (free : Bool) (w : WithoutRange)
      → plain_ok text (cut free (room_behind s)) w ≡ true → mut_free s (begins_mut w) ≡ true → fine_plain text s ≡ true
      → FineClosed text free (close_plain w s)
  fine_plain_lem (any_alt l) text free w e g f = fine_alt_lem l text free (plain w) e f
  fine_plain_lem (behind_amp a m s) text free w e g f =
      fine_plain_lem s text free (reference a m w)
      (and_true _ _ (own_mut a m s w g) (subst (λ room. plain_ok text room w ≡ true) (cut_none free) e))
      (free_false s)
      f

-- a whole alternative with no rest is read
pub fine_read : {text : Source} {c : Closed} → FineClosed text false c → Fine text (read_alt c)
unfolding fine cut
fine_read h = record { holds = and_true _ _ h.pattern h.waiting }
