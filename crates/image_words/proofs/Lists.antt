-- Laws of lists of words and bytes, and of drafts of them. Assumes nothing.
use Prim.Native.Nat.{ℕ, zero, suc, ◌/◌, ◌%◌}
use mathlib.Core.Path.{◌≡◌}
use mathlib.Core.Bool.{true, false}
use mathlib.Core.Option.{Option, none, some}
use mathlib.Core.List.{List, [], ◌∷◌, ◌++◌}
use native.Mathlib.Nat.{mod-lt}
use native.Mathlib.Omega.{arith}
use borrow.Author.Tests.{leb-true}
use lib.Dec.{leb}
use lib.ListN.{get_or, take, drop}
use Rattle.image.specs.declared.rows.TypeRow.{TypeRow}
use Rattle.image.specs.declared.rows.PatRow.{PatRow}
use Rattle.image.specs.declared.rows.BindingRow.{BindingRow}
use Rattle.image.proofs.Bools.{and_left, and_right}
use Rattle.pattern_syntax.specs.Written.{LiteralValue, bool_value, char_value, whole_value, minus_value}
use Rattle.pattern_images.specs.Drafts.{Draft, empty_draft, add_type, add_pattern, add_binding, add_words, add_bytes, little_endian_bytes, literal_bytes, operand_kind_of}
use Rattle.pattern_images.specs.Emitting.{item_words}
use Rattle.pattern_images.specs.Imaging.{derefs_within}
use Rattle.image_growth.specs.Growing.{IsBytes, AreWords, EachWords, Bounded, type_words, pattern_words, binding_words}
use Rattle.image_growth.proofs.Bytes.{bytes_none, bytes_more_lem, bytes_join}
use Rattle.image_words.specs.Bounds.{IsWord, own_words, DraftWords}

pub words_join : (xs ys : List ℕ) → AreWords xs → AreWords ys → AreWords (xs ++ ys)
words_join [] ys h g = g
words_join (x ∷ xs) ys h g = (h.0, words_join xs ys h.1 g)

pub words_take : (n : ℕ) (xs : List ℕ) → AreWords xs → AreWords (take n xs)
words_take zero xs h = tt
words_take (suc n) [] h = tt
words_take (suc n) (x ∷ xs) h = (h.0, words_take n xs h.1)

pub words_drop : (n : ℕ) (xs : List ℕ) → AreWords xs → AreWords (drop n xs)
words_drop zero xs h = h
words_drop (suc n) [] h = tt
words_drop (suc n) (x ∷ xs) h = words_drop n xs h.1

pub words_at : (xs : List ℕ) (i other : ℕ) → AreWords xs → IsWord other → IsWord (get_or xs i other)
words_at [] i other h o = o
words_at (x ∷ xs) zero other h o = h.0
words_at (x ∷ xs) (suc i) other h o = words_at xs i other h.1 o

pub item_words_lem : (before : Option ℕ) (xs : List ℕ) → AreWords xs → AreWords (item_words before xs)
unfolding item_words
item_words_lem none xs h = h
item_words_lem (some before) xs h = words_join (take before xs) (drop (suc before) xs) (words_take before xs h) (words_drop (suc before) xs h)

pub each_words_more : {A : Type 0} (words : A → List ℕ) (rs : List A) (r : A) → EachWords words rs → AreWords (words r) → EachWords words (rs ++ (r ∷ []))
each_words_more words [] r h own = (own, tt)
each_words_more words (x ∷ rs) r h own = (h.0, each_words_more words rs r h.1 own)

little_endian_bytes_lem : (n v : ℕ) → IsBytes (little_endian_bytes n v)
unfolding little_endian_bytes
little_endian_bytes_lem zero v = bytes_none
little_endian_bytes_lem (suc n) v = bytes_more_lem (v % 256) (little_endian_bytes n (v / 256)) (mod-lt v (omega arith)) (little_endian_bytes_lem n (v / 256))

pub literal_bytes_lem : (v : LiteralValue) → IsBytes (literal_bytes v)
unfolding literal_bytes
literal_bytes_lem (bool_value true) = bytes_more_lem 1 [] (omega arith) bytes_none
literal_bytes_lem (bool_value false) = bytes_more_lem 0 [] (omega arith) bytes_none
literal_bytes_lem (char_value v) = little_endian_bytes_lem 4 v
literal_bytes_lem (whole_value v) = little_endian_bytes_lem 16 v
literal_bytes_lem (minus_value v) = little_endian_bytes_lem 16 _

pub literal_kind : (v : LiteralValue) → IsWord (operand_kind_of v)
unfolding operand_kind_of
literal_kind (bool_value b) = omega arith
literal_kind (char_value v) = omega arith
literal_kind (whole_value v) = omega arith
literal_kind (minus_value v) = omega arith

-- one more at a table's end
pub draft_empty : DraftWords empty_draft
draft_empty = record { types = tt; patterns = tt; bindings = tt; words = tt; bytes = bytes_none }

pub draft_type : (row : TypeRow) (d : Draft) → DraftWords d → AreWords (type_words row) → DraftWords (add_type row d)
unfolding add_type
draft_type row d h own =
    record { types = each_words_more type_words d.types row h.types own; patterns = h.patterns; bindings = h.bindings; words = h.words; bytes = h.bytes }

pub draft_pattern : (row : PatRow) (d : Draft) → DraftWords d → AreWords (own_words row) → DraftWords (add_pattern row d)
unfolding add_pattern
draft_pattern row d h own =
    record { types = h.types; patterns = each_words_more own_words d.patterns row h.patterns own; bindings = h.bindings; words = h.words; bytes = h.bytes }

pub draft_binding : (row : BindingRow) (name : List ℕ) (d : Draft) → DraftWords d → AreWords (binding_words row) → DraftWords (add_binding row name d)
unfolding add_binding
draft_binding row name d h own =
    record { types = h.types; patterns = h.patterns; bindings = each_words_more binding_words d.bindings row h.bindings own; words = h.words; bytes = h.bytes }

pub draft_words : (ws : List ℕ) (d : Draft) → DraftWords d → AreWords ws → DraftWords (add_words ws d)
unfolding add_words
draft_words ws d h own = record { types = h.types; patterns = h.patterns; bindings = h.bindings; words = words_join d.words ws h.words own; bytes = h.bytes }

pub draft_bytes : (bs : List ℕ) (d : Draft) → DraftWords d → IsBytes bs → DraftWords (add_bytes bs d)
unfolding add_bytes
draft_bytes bs d h own = record { types = h.types; patterns = h.patterns; bindings = h.bindings; words = h.words; bytes = bytes_join d.bytes bs h.bytes own }

-- with few derefs all words are words
pub draft_bounded : (d : Draft) → DraftWords d → derefs_within d.patterns ≡ true → Bounded d
unfolding derefs_within
draft_bounded d h few = record { types = h.types; patterns = rows d.patterns h.patterns few; bindings = h.bindings; words = h.words; bytes = h.bytes }
  where
    rows : (rs : List PatRow) → EachWords own_words rs → derefs_within rs ≡ true → EachWords pattern_words rs
    rows [] g e = tt
    rows (r ∷ rs) g e =
        let less = leb-true r.derefs 16 (and_left (leb r.derefs 16) (derefs_within rs) e) in
        let own = g.0 in (
          (own.0, (own.1.0, (omega (arith, less), (own.1.1.0, (own.1.1.1.0, (own.1.1.1.1.0, (own.1.1.1.1.1.0, tt))))))),
          rows rs g.1 (and_right (leb r.derefs 16) (derefs_within rs) e),
        )
