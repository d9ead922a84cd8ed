-- The locals of the bindings, and the tables of the body that the program starts from. Assumes nothing.
use Prim.Native.Nat.{ℕ, zero, suc, ◌+◌, ◌-◌, ◌≤◌, ◌<◌}
use mathlib.Core.Path.{◌≡◌, refl, sym, ap, ◌∙◌}
use mathlib.Core.List.{List, [], ◌∷◌, ◌++◌, map}
use native.Mathlib.Nat.{zero-add}
use native.Mathlib.Omega.{arith}
use lib.ListN.{length, get_or, set, take, drop, length-map, replicate-append-replicate}
use Rattle.row_tables.specs.Rows.{zeros, joined, encode_rows, stored, cleared}
use Rattle.row_tables.proofs.Zeros.{drop_zeros}
use Rattle.row_tables.proofs.Loops.{Storing, store_more, store_end}
use Rattle.image.specs.declared.rows.BindingRow.{BindingRow}
use Rattle.image.specs.Tables.{binding_count}
use Rattle.image.specs.Lists.{up_from}
use Rattle.image.specs.Rows.{binding_at}
use Rattle.image.specs.Types.{binding_of}
use Rattle.mir.specs.Blocks.{block_words}
use Rattle.mir.specs.Statements.{statement_words}
use Rattle.state.specs.State.{Body, body, encode, padded, counts_of}
use Rattle.body_tables.specs.Layout.{body_words, statements_at, locals_at, scopes_at, entries_at, body_of, with_locals}
use Rattle.meaning.proofs.Children.{length_from}
use Rattle.listing_start.specs.Started.{start_state}
use Rattle.listing_start.specs.Sizes.{locals_filled}
use Rattle.listing_start.proofs.Numbers.{from_at}

-- what a function has of one of a list
map_at : (f : ℕ → ℕ) (xs : List ℕ) (i : ℕ) → i < length xs → get_or (map f xs) i 0 ≡ f (get_or xs i 0)
map_at f [] i h = absurd (omega arith)
map_at f (x ∷ xs) zero h = refl
map_at f (x ∷ xs) (suc i) h = map_at f xs i (omega arith)

-- the words of the bindings' types
abbrev type_words : List ℕ → List ℕ
type_words image = map (λ b. (binding_of image b).ty) (up_from 0 (binding_count image))

length_words : (image : List ℕ) → length (type_words image) ≡ binding_count image
length_words image = length-map (up_from 0 (binding_count image)) (λ b. (binding_of image b).ty) ∙ length_from 0 (binding_count image)

word_at_lem : (image : List ℕ) (i : ℕ) → i < binding_count image → get_or (type_words image) i 0 ≡ (binding_at image i).ty
unfolding binding_of
word_at_lem image i h =
    let few = length_from 0 (binding_count image) in
    let e = from_at 0 (binding_count image) i h ∙ zero-add i in
    map_at (λ b. (binding_of image b).ty) (up_from 0 (binding_count image)) i (omega arith) ∙ ap (λ (b : ℕ). (binding_at image b).ty) e

-- `type_bindings`: the locals of the first i bindings have their types
abbrev pub Typing : List ℕ → List ℕ → ℕ → List ℕ → Type 0
Typing image before i locals = Storing before 1 (type_words image) i locals

module _ (image : List ℕ) {before : List ℕ} where
  pub type_more_lem : {i : ℕ} {locals : List ℕ} {row : BindingRow} → Typing image before i locals → binding_count image ≤ 256 → length before ≡ 512 → i < binding_count image →
      row ≡ binding_at image i → Typing image before (i + 1) (set locals (1 + i) row.ty)
  type_more_lem {i} {locals} {row} T few long h e =
      let words = length_words image in
      let word : get_or (type_words image) i 0 ≡ row.ty = word_at_lem image i h ∙ sym (ap (λ (r : BindingRow). r.ty) e) in
      rw word at (store_more T (omega arith) (omega arith))

  pub type_end : {i : ℕ} {locals : List ℕ} → Typing image before i locals → binding_count image ≤ i → locals ≡ locals_filled image before
  unfolding locals_filled
  type_end T h = store_end T (omega (arith, length_words image))

-- a table that is cleared whole
pub all_zeros : {size : ℕ} (t : List ℕ) → length t ≡ size → cleared t 0 ≡ zeros size
unfolding cleared
all_zeros {size} t long = let all : length t - 0 ≡ size = omega arith in ap (λ (n : ℕ). zeros n) all

-- the table with one open block
pub open_block : encode_rows block_words (zeros 12 ∷ []) ≡ zeros block_words
unfolding encode_rows joined
open_block = replicate-append-replicate 12 6132 0

-- the locals' table: the type of local 0, the bindings' types, and zeros
locals_filled_lem : (image : List ℕ) (t : ℕ) → locals_filled image (set (zeros 512) 0 t) ≡ padded 512 (t ∷ type_words image)
unfolding locals_filled stored padded
locals_filled_lem image t =
    let words = type_words image in
    let next : 1 + length words ≡ suc (length words) = omega arith in
    let left : 511 - length words ≡ 512 - length (t ∷ words) = omega arith in
    ap (λ (l : List ℕ). t ∷ (words ++ l)) (ap (λ (n : ℕ). drop n (t ∷ zeros 511)) next ∙ drop_zeros (length words) 511 ∙ ap (λ (n : ℕ). zeros n) left)

-- a part of zeros
mid_zeros : (p m n : ℕ) → p + m ≤ n → take m (drop p (zeros n)) ≡ zeros m
mid_zeros p m n h = ap (take m) (drop_zeros p n) ∙ take_zeros m (n - p) (omega arith)
  where
    take_zeros : (m n : ℕ) → m ≤ n → take m (zeros n) ≡ zeros m
    take_zeros zero n h = refl
    take_zeros (suc m) zero h = absurd (omega arith)
    take_zeros (suc m) (suc n) h = ap (λ (l : List ℕ). 0 ∷ l) (take_zeros m n (omega arith))

-- the tables of a body that is cleared whole
pub body_cleared : (w : List ℕ) {w₁ : List ℕ} → length w ≡ body_words → w₁ ≡ cleared w 0 → body_of w₁ ≡ body (zeros block_words) (zeros statement_words) (zeros 512) (zeros 32) (zeros 1024)
unfolding body_of
body_cleared w size is =
    ap body_of (is ∙ all_zeros w size)
    ∙ λ i. body (mid_zeros 0 block_words body_words (omega arith) i) (mid_zeros statements_at statement_words body_words (omega arith) i) (mid_zeros locals_at 512 body_words (omega arith) i) (mid_zeros scopes_at 32 body_words (omega arith) i) (mid_zeros entries_at 1024 body_words (omega arith) i)

module _ (image : List ℕ) (t : ℕ) where
  -- `start_body`: the body at exit
  pub body_started : (w : List ℕ) {w₁ : List ℕ} {b : Body} → length w ≡ body_words → w₁ ≡ cleared w 0 → b ≡ with_locals (body_of w₁) (locals_filled image (set (body_of w₁).locals 0 t)) → b ≡ encode (start_state image t)
  unfolding encode start_state encode_rows joined padded
  body_started w size is filled =
      filled
      ∙ ap (λ (x : Body). with_locals x (locals_filled image (set x.locals 0 t))) (body_cleared w size is)
      ∙ λ i. body (sym open_block i) (zeros statement_words) (locals_filled_lem image t i) (zeros 32) (zeros 1024)

  -- and the counts
  pub counts_started : {n : ℕ} → n ≡ binding_count image → record { blocks = 1; statements = 0; locals = 1 + n; scopes = 1; entries = 0 } ≡ counts_of (start_state image t)
  unfolding counts_of start_state
  counts_started {n} is =
      let count : 1 + n ≡ suc (length (type_words image)) = omega (arith, length_words image) in
      ap (λ (k : ℕ). record { blocks = 1; statements = 0; locals = k; scopes = 1; entries = 0 }) count
