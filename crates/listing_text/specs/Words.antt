-- The words of the listing, as bytes. Assumes nothing: these are definitions.
use Rattle.std.specs.Prelude.{ℕ, List, [], ◌∷◌}

-- "then "
unfoldable pub then_word : List ℕ
then_word = 116 ∷ 104 ∷ 101 ∷ 110 ∷ 32 ∷ []

-- " else "
unfoldable pub else_word : List ℕ
else_word = 32 ∷ 101 ∷ 108 ∷ 115 ∷ 101 ∷ 32 ∷ []

-- "local "
unfoldable pub local_word : List ℕ
local_word = 108 ∷ 111 ∷ 99 ∷ 97 ∷ 108 ∷ 32 ∷ []

-- "bool"
unfoldable pub bool_word : List ℕ
bool_word = 98 ∷ 111 ∷ 111 ∷ 108 ∷ []

-- "usize"
unfoldable pub usize_word : List ℕ
usize_word = 117 ∷ 115 ∷ 105 ∷ 122 ∷ 101 ∷ []

-- "i128"
unfoldable pub i128_word : List ℕ
i128_word = 105 ∷ 49 ∷ 50 ∷ 56 ∷ []

-- "t"
unfoldable pub type_word : List ℕ
type_word = 116 ∷ []

-- "bb "
unfoldable pub block_word : List ℕ
block_word = 98 ∷ 98 ∷ 32 ∷ []

-- "live "
unfoldable pub live_word : List ℕ
live_word = 108 ∷ 105 ∷ 118 ∷ 101 ∷ 32 ∷ []

-- "dead "
unfoldable pub dead_word : List ℕ
dead_word = 100 ∷ 101 ∷ 97 ∷ 100 ∷ 32 ∷ []

-- "set "
unfoldable pub set_word : List ℕ
set_word = 115 ∷ 101 ∷ 116 ∷ 32 ∷ []

-- "copy "
unfoldable pub copy_word : List ℕ
copy_word = 99 ∷ 111 ∷ 112 ∷ 121 ∷ 32 ∷ []

-- "ref "
unfoldable pub ref_word : List ℕ
ref_word = 114 ∷ 101 ∷ 102 ∷ 32 ∷ []

-- "mut "
unfoldable pub mut_word : List ℕ
mut_word = 109 ∷ 117 ∷ 116 ∷ 32 ∷ []

-- "len "
unfoldable pub len_word : List ℕ
len_word = 108 ∷ 101 ∷ 110 ∷ 32 ∷ []

-- "discr "
unfoldable pub discr_word : List ℕ
discr_word = 100 ∷ 105 ∷ 115 ∷ 99 ∷ 114 ∷ 32 ∷ []

-- "eq "
unfoldable pub eq_word : List ℕ
eq_word = 101 ∷ 113 ∷ 32 ∷ []

-- "le "
unfoldable pub le_word : List ℕ
le_word = 108 ∷ 101 ∷ 32 ∷ []

-- "ge "
unfoldable pub ge_word : List ℕ
ge_word = 103 ∷ 101 ∷ 32 ∷ []

-- "gt "
unfoldable pub gt_word : List ℕ
gt_word = 103 ∷ 116 ∷ 32 ∷ []

-- "switch "
unfoldable pub switch_word : List ℕ
switch_word = 115 ∷ 119 ∷ 105 ∷ 116 ∷ 99 ∷ 104 ∷ 32 ∷ []

-- "goto "
unfoldable pub goto_word : List ℕ
goto_word = 103 ∷ 111 ∷ 116 ∷ 111 ∷ 32 ∷ []

-- "unreachable"
unfoldable pub unreachable_word : List ℕ
unreachable_word = 117 ∷ 110 ∷ 114 ∷ 101 ∷ 97 ∷ 99 ∷ 104 ∷ 97 ∷ 98 ∷ 108 ∷ 101 ∷ []

-- "drop "
unfoldable pub drop_word : List ℕ
drop_word = 100 ∷ 114 ∷ 111 ∷ 112 ∷ 32 ∷ []

-- "open"
unfoldable pub open_word : List ℕ
open_word = 111 ∷ 112 ∷ 101 ∷ 110 ∷ []

-- ".deref"
unfoldable pub deref_word : List ℕ
deref_word = 46 ∷ 100 ∷ 101 ∷ 114 ∷ 101 ∷ 102 ∷ []

-- ".f"
unfoldable pub field_word : List ℕ
field_word = 46 ∷ 102 ∷ []

-- ".i"
unfoldable pub index_word : List ℕ
index_word = 46 ∷ 105 ∷ []

-- ".e"
unfoldable pub from_end_word : List ℕ
from_end_word = 46 ∷ 101 ∷ []

-- ".s"
unfoldable pub subslice_word : List ℕ
subslice_word = 46 ∷ 115 ∷ []

-- ".v"
unfoldable pub downcast_word : List ℕ
downcast_word = 46 ∷ 118 ∷ []

-- "refused "
unfoldable pub refused_word : List ℕ
refused_word = 114 ∷ 101 ∷ 102 ∷ 117 ∷ 115 ∷ 101 ∷ 100 ∷ 32 ∷ []

-- " copy "
unfoldable pub and_copy_word : List ℕ
and_copy_word = 32 ∷ 99 ∷ 111 ∷ 112 ∷ 121 ∷ 32 ∷ []

-- a space
unfoldable pub space : List ℕ
space = 32 ∷ []

-- "-"
unfoldable pub dash : List ℕ
dash = 45 ∷ []

-- the end of a line
unfoldable pub newline : List ℕ
newline = 10 ∷ []
