-- The draft of a row of makings in the order in which they close: each takes the words of its parts from a stack and puts its own there. Assumes
-- nothing: these are definitions.
use Rattle.std.specs.Prelude.{ℕ, suc, ◌+◌, ◌-◌, ◌*◌, Bool, true, cond, ◌&&◌, List, [], ◌∷◌, ◌++◌, eqb, leb, length, take, drop}
use Rattle.pattern_syntax.specs.Formed.{one_if, rest_within}
use Rattle.pattern_typing.specs.Making.{Making, not_made, row_made, literal_made, operand_made, operand_named, range_made, bind_made, reference_made, list_made, slice_made, field_made}
use Rattle.pattern_typing.specs.Closed.{ClosedMaking}
use Rattle.pattern_images.specs.Drafts.{Draft, Made}
use Rattle.pattern_images.specs.Emitting.{emit_node}

-- the stack, what was made last at its end, and the draft
pub record Stacked : Type 0 where
  pub stack : List ℕ
  pub draft : Draft

-- how many words stand for each part: a Record's are fields, with a number and a pattern
unfoldable pub words_each : Making → ℕ
words_each not_made = 1
words_each (row_made row) = 1
words_each (literal_made t derefs v) = 1
words_each (operand_made v) = 1
words_each (operand_named o) = 1
words_each (range_made t derefs lower upper dots) = 1
words_each (bind_made t mode annotation name at) = 1
words_each (reference_made t) = 1
words_each (list_made row) = cond (eqb row.kind 6) 2 1
words_each (slice_made t derefs before) = 1
words_each (field_made number) = 1

-- how many words a making takes from the stack
unfoldable pub words_taken : ClosedMaking → ℕ
words_taken m = words_each m.makes * m.parts

-- how many it puts there, where it took so many
unfoldable pub words_put : Making → ℕ → ℕ
words_put not_made taken = 0
words_put (row_made row) taken = 1
words_put (literal_made t derefs v) taken = 1
words_put (operand_made v) taken = 1
words_put (operand_named o) taken = 1
words_put (range_made t derefs lower upper dots) taken = 1
words_put (bind_made t mode annotation name at) taken = 1
words_put (reference_made t) taken = 1
words_put (list_made row) taken = 1
words_put (slice_made t derefs before) taken = 1
words_put (field_made number) taken = suc taken

-- what is made, on top of a stack
abbrev pub stacked_on : List ℕ → Made → Stacked
stacked_on stack m = record { stack = stack ++ m.stands; draft = m.draft }

-- one making
unfoldable pub emit_one : List ℕ → ClosedMaking → List ℕ → Draft → Stacked
emit_one sheet m stack d =
    stacked_on (take (length stack - words_taken m) stack)
    (emit_node sheet m.makes m.parts (drop (length stack - words_taken m) stack) d)

-- one after another
unfoldable pub emit_up : List ℕ → List ClosedMaking → List ℕ → Draft → Stacked
emit_up sheet [] stack d = record { stack = stack; draft = d }
emit_up sheet (m ∷ ms) stack d = emit_up sheet ms (emit_one sheet m stack d).stack (emit_one sheet m stack d).draft

-- how many parts a making may have: a Range its bounds, a Slice its rest among others, a field its pattern
unfoldable pub may_have_parts : Making → ℕ → Bool
may_have_parts not_made many = true
may_have_parts (row_made row) many = true
may_have_parts (literal_made t derefs v) many = true
may_have_parts (operand_made v) many = true
may_have_parts (operand_named o) many = true
may_have_parts (range_made t derefs lower upper dots) many = eqb many (one_if lower + one_if upper)
may_have_parts (bind_made t mode annotation name at) many = true
may_have_parts (reference_made t) many = true
may_have_parts (list_made row) many = true
may_have_parts (slice_made t derefs before) many = rest_within before many
may_have_parts (field_made number) many = eqb many 1

-- from a stack of so many words each making finds its parts there, and may have so many
unfoldable pub parts_stand : List ClosedMaking → ℕ → Bool
parts_stand [] height = true
parts_stand (m ∷ ms) height =
    may_have_parts m.makes m.parts && leb (words_taken m) height
    && parts_stand ms (height - words_taken m + words_put m.makes (words_taken m))
