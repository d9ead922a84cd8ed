-- What is kept along a draft: its rows hold in the whole image, and each pattern is used or still open at most once. Assumes nothing: these are
-- definitions.
use Rattle.std.specs.Prelude.{ℕ, suc, ◌+◌, ◌*◌, ◌≤◌, ◌≡◌, Bool, true, cond, ◌&&◌, List, [], ◌∷◌, ◌++◌, eqb, ltb, length}
use Rattle.image.specs.declared.rows.TypeRow.{TypeRow}
use Rattle.image.specs.declared.rows.PatRow.{PatRow}
use Rattle.image.specs.declared.rows.BindingRow.{BindingRow}
use Rattle.image.specs.Tables.{pattern_count}
use Rattle.image.specs.Kinds.{type_kind, pat_kind}
use Rattle.image.specs.Lists.{all_in}
use Rattle.image.specs.Operands.{operand_holds}
use Rattle.image.specs.Rules.{is_flag, names_type, type_shape_holds, variants_by}
use Rattle.image.specs.Subpatterns.{subpatterns_by}
use Rattle.image.specs.Patterns.{pattern_shape_holds}
use Rattle.pattern_syntax.specs.Formed.{Stand, in_pattern, in_range, in_record}
use Rattle.pattern_images.specs.Drafts.{Draft, Made, next_pattern}

-- how often a number stands in a list
abbrev pub one : Bool → ℕ
one b = cond b 1 0

unfoldable pub times : ℕ → List ℕ → ℕ
times q [] = 0
times q (x ∷ xs) = one (eqb q x) + times q xs

-- one below a number
abbrev pub below : ℕ → ℕ → ℕ
below q n = one (ltb q n)

-- the second of each two
unfoldable pub seconds : List ℕ → List ℕ
seconds [] = []
seconds (x ∷ []) = []
seconds (x ∷ y ∷ zs) = y ∷ seconds zs

-- the patterns among what stands for parts: all, none in a range, and each behind its field in a record
abbrev pub open_in : Stand → List ℕ → List ℕ
open_in in_pattern stands = stands
open_in in_range stands = []
open_in in_record stands = seconds stands

-- each of a list's rows, by its number from n on
abbrev pub Each : {A : Type 0} → (ℕ → A → Type 0) → ℕ → List A → Type 0
Each holds n [] = Unit
Each holds n (x ∷ xs) = holds n x × Each holds (suc n) xs

-- an added type holds, and has no variants
pub record TypeGood (image : List ℕ) (n : ℕ) (row : TypeRow) : Type 0 where
  pub holds : is_flag row.copy && type_shape_holds (type_kind row.kind) image row ≡ true
  pub alone : variants_by (type_kind row.kind) row ≡ []

-- the pattern n holds, but for its derefs, and its subpatterns are below it
pub record PatternGood (image : List ℕ) (n : ℕ) (row : PatRow) : Type 0 where
  pub named : names_type image row.ty ≡ true
  pub shape : pattern_shape_holds (pat_kind row.kind) image row ≡ true
  pub subs : all_in (λ q. ltb q n) (subpatterns_by (pat_kind row.kind) image row) ≡ true

pub record BindingGood (image : List ℕ) (n : ℕ) (row : BindingRow) : Type 0 where
  pub holds : names_type image row.ty && is_flag row.picked ≡ true

-- the rows of a draft hold in the image
pub record Good (sheet image : List ℕ) (d : Draft) : Type 0 where
  pub called : length d.called ≡ length d.bindings
  pub types : Each (TypeGood image) 0 d.types
  pub patterns : Each (PatternGood image) (pattern_count sheet) d.patterns
  pub bindings : Each (BindingGood image) 0 d.bindings

-- the subpatterns of rows
unfoldable pub used : List ℕ → List PatRow → List ℕ
used image [] = []
used image (r ∷ rs) = subpatterns_by (pat_kind r.kind) image r ++ used image rs

-- what stands for so many parts
abbrev pub Stood : List ℕ → List ℕ → Stand → ℕ → Draft → List ℕ → Type 0
Stood sheet image in_pattern many d stands = (length stands ≡ many) × (all_in (λ q. ltb q (next_pattern sheet d)) stands ≡ true)
Stood sheet image in_range many d stands = (length stands ≡ many) × (all_in (operand_holds image) stands ≡ true)
Stood sheet image in_record many d stands = (length stands ≡ 2 * many) × (all_in (λ q. ltb q (next_pattern sheet d)) (seconds stands) ≡ true)

-- so many parts lead from a draft to what is made: each number from the next pattern before to the one behind is used or open at most once, and
-- no other is
pub record Step (sheet image : List ℕ) (s : Stand) (many : ℕ) (d : Draft) (m : Made) : Type 0 where
  pub good : Good sheet image m.draft
  pub once : (q : ℕ) →
      times q (used image m.draft.patterns) + times q (open_in s m.stands) + below q (next_pattern sheet d)
      ≤ times q (used image d.patterns) + below q (next_pattern sheet m.draft)
  pub stood : Stood sheet image s many m.draft m.stands
