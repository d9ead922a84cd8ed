-- The ways through the code that looks for a type: what it answers is what the definitions say. Assumes nothing.
use Prim.Native.Nat.{ℕ, ◌+◌, ◌-◌, ◌≤◌, ◌<◌}
use mathlib.Core.Path.{◌≡◌, refl, sym, ap, subst, ◌∙◌}
use mathlib.Core.Bool.{Bool, true, false, not, cond, ◌&&◌, ◌||◌}
use mathlib.Core.Option.{Option, none, some}
use mathlib.Core.List.{List, [], ◌∷◌}
use native.Mathlib.Omega.{arith}
use borrow.Author.Tests.{eq-eqb, ne_eqb, lt-ltb, le-ltb, ltb-false}
use lib.Dec.{eqb, ltb}
use lib.ListN.{get_or, length-append}
use Rattle.image.specs.declared.rows.TypeRow.{TypeRow}
use Rattle.image.specs.declared.Tables.{Tables}
use Rattle.image.specs.Tables.{type_count}
use Rattle.image.specs.Rows.{type_at}
use Rattle.row_tables.specs.Rows.{row_at}
use Rattle.name_tables.specs.Names.{first_from}
use Rattle.pattern_images.specs.Drafts.{type_in, same_flag, alike, like_in, next_type, add_unless, number_or, add_type}
use Rattle.draft_tables.specs.declared.DraftCounts.{DraftCounts}
use Rattle.draft_tables.specs.Layout.{type_of_words, draft_in, stacked_in, type_more, drafted, HoldsType}
use Rattle.draft_tables.specs.Room.{DraftRoom}
use Rattle.draft_tables.proofs.Counted.{type_length, type_at_row}
use Rattle.draft_types.specs.Types.{type_from, TypeHeld}
use Rattle.draft_types.proofs.Firsts.{first_same}

-- `same_flag`
pub flag_set : (flag other : ℕ) → flag ≡ 1 → eqb other 1 ≡ same_flag (eqb flag 1) (eqb other 1)
flag_set flag other e = rw (eq-eqb flag 1 e) refl

pub flag_clear : (flag other : ℕ) → (flag ≡ 1 → ⊥) → not (eqb other 1) ≡ same_flag (eqb flag 1) (eqb other 1)
flag_clear flag other e = rw (ne_eqb flag 1 e) (turned (eqb other 1))
  where
    turned : (b : Bool) → not b ≡ cond b false true
    turned true = refl
    turned false = refl

-- `same_length`
pub length_free : (kind b other : ℕ) → kind ≡ 7 → true ≡ (eqb kind 7 || eqb b other)
length_free kind b other e = rw (eq-eqb kind 7 e) refl

pub length_asked : (kind b other : ℕ) → (kind ≡ 7 → ⊥) → eqb b other ≡ (eqb kind 7 || eqb b other)
length_asked kind b other e = rw (ne_eqb kind 7 e) refl

-- `is_alike`
module _ (row other : TypeRow) where
  pub other_kind : (row.kind ≡ other.kind → ⊥) → false ≡ alike row other
  unfolding alike
  other_kind e = rw (ne_eqb row.kind other.kind e) refl

  pub other_word : row.kind ≡ other.kind → (row.a ≡ other.a → ⊥) → false ≡ alike row other
  unfolding alike
  other_word k e = rw (eq-eqb row.kind other.kind k, ne_eqb row.a other.a e) refl

  pub other_length : (same : Bool) → row.kind ≡ other.kind → row.a ≡ other.a → same ≡ (eqb row.kind 7 || eqb row.b other.b) → same ≡ false → false ≡ alike row other
  unfolding alike
  other_length same k a s e = rw (eq-eqb row.kind other.kind k, eq-eqb row.a other.a a, sym s, e) refl

  pub by_flags : (same flags : Bool) → row.kind ≡ other.kind → row.a ≡ other.a → same ≡ (eqb row.kind 7 || eqb row.b other.b) → flags ≡ same_flag (eqb row.copy 1) (eqb other.copy 1) → same && flags ≡ alike row other
  unfolding alike
  by_flags same flags k a s f = rw (eq-eqb row.kind other.kind k, eq-eqb row.a other.a a, sym s, sym f) refl

-- `type_from`
pub sheet_type : (sheet table : List ℕ) (t : ℕ) → t < type_count sheet → type_at sheet t ≡ type_from sheet table t
unfolding type_from
sheet_type sheet table t h = rw (lt-ltb t (type_count sheet) h) refl

pub draft_type : (sheet table : List ℕ) (t : ℕ) → type_count sheet ≤ t → type_of_words (row_at 5 table (t - type_count sheet)) ≡ type_from sheet table t
unfolding type_from
draft_type sheet table t h = rw (le-ltb t (type_count sheet) h) refl

-- `with_type`
module _ (sheet table : List ℕ) (c : DraftCounts) (row : TypeRow) where
  -- the types of the table are those of its draft
  same_type : (names : List ℕ) (t : ℕ) → t < type_count sheet + c.types → type_in sheet (draft_in names table c) t ≡ type_from sheet table t
  unfolding type_in type_from
  same_type names t h = by (ltb t (type_count sheet)) refl
    where
      by : (b : Bool) → ltb t (type_count sheet) ≡ b → cond (ltb t (type_count sheet)) (type_at sheet t) (get_or (draft_in names table c).types (t - type_count sheet) (type_at sheet t)) ≡ cond (ltb t (type_count sheet)) (type_at sheet t) (type_of_words (row_at 5 table (t - type_count sheet)))
      by true e = rw e refl
      by false e = rw e (type_at_row names table c (t - type_count sheet) (type_at sheet t) (omega (arith, ltb-false t (type_count sheet) e)))

  abbrev like : ℕ → Option ℕ
  like many = first_from (λ t. alike row (type_from sheet table t)) 0 many

  same_like : (names : List ℕ) → like_in sheet (draft_in names table c) row ≡ like (type_count sheet + c.types)
  unfolding like_in
  same_like names =
      ap (first_from (λ t. alike row (type_in sheet (draft_in names table c) t)) 0) (ap (λ (k : ℕ). type_count sheet + k) (type_length names table c))
      ∙ first_same (λ t. alike row (type_in sheet (draft_in names table c) t)) (λ t. alike row (type_from sheet table t)) 0 (type_count sheet + c.types)
      (λ t low high. ap (alike row) (same_type names t (omega arith)))

  -- what was found among so many types
  module _ (tables : Tables) (counted : tables.types.count ≡ type_count sheet) where
    abbrev many : ℕ
    many = tables.types.count + c.types

    all : many ≡ type_count sheet + c.types
    all = ap (λ (k : ℕ). k + c.types) counted

    found_like : (o : Option ℕ) (names : List ℕ) → o ≡ like many → o ≡ like_in sheet (draft_in names table c) row
    found_like o names e = e ∙ ap like all ∙ sym (same_like names)

    -- one is there
    pub held_already : (t : ℕ) → DraftRoom tables c → some t ≡ like many → TypeHeld sheet tables table c row t c table
    unfolding add_unless number_or stacked_in
    held_already t room e =
        record {
          room = room;
          height = refl;
          holds = λ names. ap (λ (o : Option ℕ). drafted (add_unless o row) (stacked_in names table c)) (found_like (some t) names e);
          number = λ names. ap (λ (o : Option ℕ). number_or o (next_type sheet (draft_in names table c))) (found_like (some t) names e);
        }

    -- one is added
    pub held_anew : (counts : DraftCounts) (after : List ℕ) → DraftRoom tables c → none ≡ like many → many < 256 → counts ≡ type_more c → HoldsType table c row after → TypeHeld sheet tables table c row many counts after
    unfolding add_unless number_or stacked_in
    held_anew counts after room e h more holds =
        subst (λ (d : DraftCounts). TypeHeld sheet tables table c row many d after) (sym more)
        (record {
          room = record { types = omega arith; patterns = room.patterns; bindings = room.bindings; words = room.words; bytes = room.bytes; height = room.height };
          height = refl;
          holds = λ names. holds names ∙ ap (λ (o : Option ℕ). drafted (add_unless o row) (stacked_in names table c)) (found_like none names e);
          number =
              λ names. all ∙ ap (λ (k : ℕ). type_count sheet + k) (sym (type_length names table c))
              ∙ ap (λ (o : Option ℕ). number_or o (next_type sheet (draft_in names table c))) (found_like none names e);
        })

    -- there are too many
    pub past_types : none ≡ like many → 256 ≤ many → (names : List ℕ) → 256 < next_type sheet (add_unless (like_in sheet (draft_in names table c) row) row (draft_in names table c))
    unfolding add_unless add_type
    past_types e h names =
        let grown = ap (λ (o : Option ℕ). next_type sheet (add_unless o row (draft_in names table c))) (found_like none names e) in
        omega (arith, grown, all, length-append (draft_in names table c).types (row ∷ []), type_length names table c)
