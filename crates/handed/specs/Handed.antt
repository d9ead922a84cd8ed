-- What a call on a pattern may be handed besides image and body: document 01's number 2. Its words stand in quotation marks.
-- Assumes nothing: these are definitions.
use Rattle.std.specs.Prelude.{Some, None}
use Rattle.std.specs.Prelude.{ℕ, Bool, true, not, ◌&&◌, ◌||◌, List, [], ◌∷◌, eqb, ltb, leb, length, get_or}
use Rattle.row_tables.specs.Rows.{row_at}
use Rattle.image.specs.Lists.{all_below, all_in, all_true}
use Rattle.place.specs.declared.Place.{Place}
use Rattle.place.specs.Elems.{elem_of}
use Rattle.mir.specs.declared.BasicBlockId.{BasicBlockId}
use Rattle.mir.specs.declared.Counts.{Counts}
use Rattle.mir.specs.Blocks.{is_open, block_width}
use Rattle.body_row_rules.specs.Bodies.{is_block, is_local, elem_holds}
use Rattle.lower_spec.specs.Results.{OptBlock}

-- "start block missing or not open" is refused
unfoldable pub start_holds : List ℕ → Counts → BasicBlockId → Bool
start_holds blocks c current = is_block c current.0 && is_open (row_at block_width blocks current.0)

-- "else missing or equal to it" is refused
unfoldable pub else_holds : Counts → BasicBlockId → OptBlock → Bool
else_holds c current None = true
else_holds c current (Some b) = is_block c b.0 && not (eqb b.0 current.0)

-- "place root missing or over 16 elements" is refused, and so is an element of no kind, or that names no variant
unfoldable pub place_holds : ℕ → Counts → Place → Bool
place_holds variants c place = is_local c place.local.0 && leb place.len 16 && all_below (λ i. elem_holds variants (elem_of (get_or place.elems i 0))) place.len

-- the word of a binding's local: a local that there is, or none
unfoldable pub binding_local_holds : Counts → ℕ → Bool
binding_local_holds c l = eqb l 65535 || is_local c l

-- the bindings' table has a word for each binding
unfoldable pub bindings_hold : ℕ → Counts → List ℕ → Bool
bindings_hold count c bindings = eqb (length bindings) count && all_in (binding_local_holds c) bindings

-- how many variants, patterns and bindings the image has
pub record Named : Type 0 where
  pub variants : ℕ
  pub patterns : ℕ
  pub bindings : ℕ

-- all that a call of `pattern_match` is handed names something
unfoldable pub match_holds : Named → List ℕ → List ℕ → Counts → ℕ → BasicBlockId → OptBlock → Place → Bool
match_holds named bindings blocks c p current els place =
    all_true
    (ltb p named.patterns
    ∷ bindings_hold named.bindings c bindings
    ∷ start_holds blocks c current
    ∷ else_holds c current els
    ∷ place_holds named.variants c place
    ∷ [])

-- all that a call of `match_self_param` is handed names something
unfoldable pub self_holds : Named → List ℕ → List ℕ → Counts → ℕ → BasicBlockId → ℕ → Bool
self_holds named bindings blocks c b current l =
    all_true (bindings_hold named.bindings c bindings ∷ ltb b named.bindings ∷ start_holds blocks c current ∷ is_local c l ∷ [])

-- a block that there is, where there is one
unfoldable pub is_block_or_none : Counts → OptBlock → Bool
is_block_or_none c None = true
is_block_or_none c (Some b) = is_block c b.0

-- all that a call of `merge_blocks` is handed names something
unfoldable pub merge_holds : Counts → OptBlock → OptBlock → Bool
merge_holds c x y = is_block_or_none c x && is_block_or_none c y
