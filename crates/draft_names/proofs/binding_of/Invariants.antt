use Prim.Native.Nat.{◌-◌, ◌≤◌}
use mathlib.Core.Path.{◌≡◌}
use lib.ListN.{drop}
use Rattle.row_tables.specs.Rows.{row_at}
use Rattle.pattern_words.specs.Words.{same_word}
use Rattle.name_tables.specs.Names.{first_from}
use Rattle.pattern_syntax.specs.Reduced.{bytes_from}
use Rattle.draft_tables.specs.Layout.{name_of_words}
use Rattle.draft_names.proofs.binding_of.Given as goal

abbrev pub invariant-loop-b : goal.invariant-loop-b
invariant-loop-b l = (l.b ≤ l.many) × (first_from (λ k. same_word (name_of_words l.names (row_at 2 (drop 5376 l.draft) k)) (bytes_from l.names l.from l.to)) l.b (l.many - l.b) ≡ first_from (λ k. same_word (name_of_words l.names (row_at 2 (drop 5376 l.draft) k)) (bytes_from l.names l.from l.to)) 0 l.many)
