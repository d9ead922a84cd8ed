-- The elements of a projection, and the words that hold them. Assumes nothing: these are definitions.
use Rattle.std.specs.Prelude.{ℕ, ◌+◌, ◌*◌, ◌/◌, ◌%◌, ◌<◌, List, [], ◌∷◌, get_or}
use Rattle.place.specs.declared.elems.ProjectionElem.{ProjectionElem}

-- the elements of each kind with these numbers, the kinds numbered from 0
abbrev pub elem_kinds : ℕ → ℕ → List ProjectionElem
elem_kinds a b = ProjectionElem.Deref ∷ ProjectionElem.Field a ∷ ProjectionElem.Index a ∷ ProjectionElem.IndexFromEnd a ∷ ProjectionElem.Subslice a b ∷ ProjectionElem.Downcast a ∷ []

-- the element of a word: 3 bits of kind, 13 of b, 16 of a
unfoldable pub elem_of : ℕ → ProjectionElem
elem_of word = get_or (elem_kinds (word / 65536) (word / 8 % 8192)) (word % 8) ProjectionElem.Unknown

-- the word of an element
unfoldable pub word_of : ProjectionElem → ℕ
word_of ProjectionElem.Deref = 0
word_of (ProjectionElem.Field a) = 1 + 65536 * a
word_of (ProjectionElem.Index a) = 2 + 65536 * a
word_of (ProjectionElem.IndexFromEnd a) = 3 + 65536 * a
word_of (ProjectionElem.Subslice a b) = 4 + 8 * b + 65536 * a
word_of (ProjectionElem.Downcast a) = 5 + 65536 * a
word_of ProjectionElem.Unknown = 6

-- the element has a word: all but a subslice that leaves out 8,192 elements or more at the end
abbrev pub Fits : ProjectionElem → Type 0
Fits ProjectionElem.Deref = Unit
Fits (ProjectionElem.Field a) = Unit
Fits (ProjectionElem.Index a) = Unit
Fits (ProjectionElem.IndexFromEnd a) = Unit
Fits (ProjectionElem.Subslice a b) = b < 8192
Fits (ProjectionElem.Downcast a) = Unit
Fits ProjectionElem.Unknown = Unit

-- what is made of a Deref, of a Field by its number, of an element from the front or from the end, of a Subslice, and of a Downcast by its variant; or else
abbrev pub by_elem : {A : Type 0} → ProjectionElem → A → (ℕ → A) → A → A → (ℕ → A) → A → A
by_elem ProjectionElem.Deref ofDeref ofField ofElement ofSubslice ofDowncast other = ofDeref
by_elem (ProjectionElem.Field i) ofDeref ofField ofElement ofSubslice ofDowncast other = ofField i
by_elem (ProjectionElem.Index i) ofDeref ofField ofElement ofSubslice ofDowncast other = ofElement
by_elem (ProjectionElem.IndexFromEnd i) ofDeref ofField ofElement ofSubslice ofDowncast other = ofElement
by_elem (ProjectionElem.Subslice a b) ofDeref ofField ofElement ofSubslice ofDowncast other = ofSubslice
by_elem (ProjectionElem.Downcast v) ofDeref ofField ofElement ofSubslice ofDowncast other = ofDowncast v
by_elem ProjectionElem.Unknown ofDeref ofField ofElement ofSubslice ofDowncast other = other
