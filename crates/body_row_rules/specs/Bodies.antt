-- When the tables of a body and its scopes may be handed in: document 01's number 2, "a handed-in body or scope table over a limit, or naming a missing
-- block, local or type". Only rows in use are looked at; a row of no known kind names nothing. There are so many types and variants. A table of another length than
-- docs/BODY.md gives is shut out by its type, and so is looked at here by nothing.
-- Assumes nothing: these are definitions.
use Rattle.std.specs.Prelude.{ℕ, ◌+◌, ◌*◌, Bool, true, false, cond, ◌&&◌, ◌||◌, List, [], ◌∷◌, eqb, ltb, leb, get_or}
use Rattle.image.specs.Lists.{all_below, all_true}
use Rattle.place.specs.declared.elems.ProjectionElem.{ProjectionElem}
use Rattle.place.specs.Elems.{elem_of, by_elem}
use Rattle.mir.specs.declared.Counts.{Counts}
use Rattle.mir.specs.Blocks.{block_width}
use Rattle.mir.specs.Statements.{statement_width}

-- the word k of the row i, in a table of rows of w words
abbrev pub word_of : ℕ → List ℕ → ℕ → ℕ → ℕ
word_of w table i k = get_or table (w * i + k) 0

-- a block, or a local, that there is
abbrev pub is_block : Counts → ℕ → Bool
is_block c b = ltb b c.blocks

abbrev pub is_local : Counts → ℕ → Bool
is_local c l = ltb l c.locals

-- the word of a type: a number of the type table, 256 bool, 257 usize or 258 i128
unfoldable pub is_type_word : ℕ → ℕ → Bool
is_type_word types word = ltb word types || (leb 256 word && leb word 258)

-- "Body: 512 blocks, 1,024 statements, 512 locals, 32 scopes with 1,024 entries together"
unfoldable pub counts_within : Counts → Bool
counts_within c = all_true (leb c.blocks 512 ∷ leb c.statements 1024 ∷ leb c.locals 512 ∷ leb c.scopes 32 ∷ leb c.entries 1024 ∷ [])

-- the terminator of the block i is open, goto, switch, unreachable or drop, and names blocks and locals that there are
unfoldable pub block_holds : List ℕ → Counts → ℕ → Bool
block_holds table c i =
    get_or (
    true
    ∷ is_block c (word_of block_width table i 2)
    ∷ (is_local c (word_of block_width table i 1) && is_block c (word_of block_width table i 2) && is_block c (word_of block_width table i 3))
    ∷ true
    ∷ (is_local c (word_of block_width table i 1) && is_block c (word_of block_width table i 2))
    ∷ []
    )
    (word_of block_width table i 0)
    false

-- an element of a known kind; a Downcast names a variant that there is, and other numbers are not looked at
unfoldable pub elem_holds : ℕ → ProjectionElem → Bool
elem_holds variants elem = by_elem elem true (λ i. true) true true (λ v. ltb v variants) false

-- the element j of the place in the statement i
unfoldable pub elem_at_holds : ℕ → List ℕ → ℕ → ℕ → Bool
elem_at_holds variants table i j = elem_holds variants (elem_of (word_of statement_width table i (17 + 2 * j) + 65536 * word_of statement_width table i (18 + 2 * j)))

-- the place in the statement i: its root is there, and it has at most 16 elements, each of which holds
unfoldable pub statement_place_holds : ℕ → List ℕ → Counts → ℕ → Bool
statement_place_holds variants table c i = is_local c (word_of statement_width table i 15) && leb (word_of statement_width table i 16) 16 && all_below (elem_at_holds variants table i) (word_of statement_width table i 16)

-- the constant in the statement i: at most 16 bytes, of a type that there is
unfoldable pub constant_holds : ℕ → List ℕ → ℕ → Bool
constant_holds types table i = eqb (word_of statement_width table i 3) 2 && leb (word_of statement_width table i 4) 16 && is_type_word types (word_of statement_width table i 5)

-- the left operand in the statement i: a local or a constant
unfoldable pub left_holds : ℕ → List ℕ → Counts → ℕ → Bool
left_holds types table c i = cond (eqb (word_of statement_width table i 3) 1) (is_local c (word_of statement_width table i 4)) (constant_holds types table i)

-- what a statement of this kind makes its local of: nothing for live and dead; a place for copy, ref, mut, len and discr; a constant; two operands for eq,
-- le, ge and gt
unfoldable pub rvalue_holds : ℕ → ℕ → List ℕ → Counts → ℕ → ℕ → Bool
rvalue_holds types variants table c i kind =
    cond (ltb kind 1) false
    (cond (leb kind 2) true
    (cond (leb kind 7) (statement_place_holds variants table c i)
    (cond (eqb kind 8) (constant_holds types table i)
    (cond (leb kind 12) (left_holds types table c i && statement_place_holds variants table c i) false))))

-- the statement i stands in a block that there is, is about a local that there is, and names nothing else that is missing
unfoldable pub statement_holds : ℕ → ℕ → List ℕ → Counts → ℕ → Bool
statement_holds types variants table c i =
    is_block c (word_of statement_width table i 0) && is_local c (word_of statement_width table i 2) && rvalue_holds types variants table c i (word_of statement_width table i 1)

-- the local i has a type that there is
unfoldable pub local_holds : ℕ → List ℕ → ℕ → Bool
local_holds types table i = is_type_word types (get_or table i 0)

-- the entry i is a local that there is
unfoldable pub entry_holds : List ℕ → Counts → ℕ → Bool
entry_holds table c i = is_local c (get_or table i 0)

-- where the entries of the scope i end: where those of the next begin, or with the last entry
unfoldable pub scope_end : List ℕ → Counts → ℕ → ℕ
scope_end table c i = cond (ltb (i + 1) c.scopes) (get_or table (i + 1) 0) c.entries

-- the entries of the scope i do not end before they begin
unfoldable pub scope_holds : List ℕ → Counts → ℕ → Bool
scope_holds table c i = leb (get_or table i 0) (scope_end table c i)

-- every entry belongs to a scope: the first scope's begin with the first, and without a scope there is none
unfoldable pub entries_belong : List ℕ → Counts → Bool
entries_belong table c = cond (eqb c.scopes 0) (eqb c.entries 0) (eqb (get_or table 0 0) 0)

-- all of it
unfoldable pub body_holds : ℕ → ℕ → List ℕ → List ℕ → List ℕ → List ℕ → List ℕ → Counts → Bool
body_holds types variants blocks statements locals scopes entries c =
    all_true (
    counts_within c
    ∷ all_below (block_holds blocks c) c.blocks
    ∷ all_below (statement_holds types variants statements c) c.statements
    ∷ all_below (local_holds types locals) c.locals
    ∷ all_below (scope_holds scopes c) c.scopes
    ∷ all_below (entry_holds entries c) c.entries
    ∷ entries_belong scopes c
    ∷ []
    )
