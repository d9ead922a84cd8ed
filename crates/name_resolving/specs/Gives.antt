-- What the rows of a node that is resolved stand for. Assumes nothing: these are definitions.
use Rattle.std.specs.Prelude.{Some, None}
use Rattle.std.specs.Prelude.{ℕ, ◌≡◌, cond, ◌||◌, List, eqb, leb}
use Rattle.std.proofs.Math.Option.{Option, none, some}
use Rattle.name_tables.specs.Names.{name_row_at}
use Rattle.name_modes.specs.Modes.{mode_word, annotation_word}
use Rattle.pattern_typing.specs.Making.{BoundAt, bound_at_type, bound_at_array}
use Rattle.pattern_typing.specs.Resolving.{Resolved, Marked}
use Rattle.node_rows.specs.declared.NodeRow.{NodeRow}
use Rattle.node_rows.specs.declared.MakingRow.{MakingRow}
use Rattle.node_rows.specs.Nodes.{name_in}
use Rattle.node_rows.specs.Makings.{making_of}
use Rattle.type_parts.specs.declared.CrossedType.{CrossedType}
use Rattle.type_parts.specs.declared.FieldRun.{FieldRun}
use Rattle.type_parts.specs.declared.PartsRow.{PartsRow}
use Rattle.type_parts.specs.Parts.{parts_of}
use Rattle.name_resolving.specs.Results.{Refused}
use Rattle.name_resolving.specs.declared.Resolution.{Resolution}
use Rattle.name_resolving.specs.Results.{Named}

unfoldable pub refused_of : Refused → Option ℕ
refused_of None = none
refused_of (Some at) = some at

unfoldable pub resolved_of : List ℕ → List ℕ → Resolution → Resolved
resolved_of text names r = record { refused_at = refused_of r.refused; making = making_of text names r.making; reads = parts_of r.reads }

-- rows stand for what a node with so many parts is resolved to, whatever the text: they only say where an integer's digits are
pub record Gives (names : List ℕ) (r : Resolution) (many : ℕ) (wanted : List ℕ → Resolved) : Type 0 where
  pub same : (text : List ℕ) → resolved_of text names r ≡ wanted text
  pub parts : r.making.parts ≡ many

-- the same where no name is among them
pub record GivesAlways (r : Resolution) (many : ℕ) (wanted : List ℕ → Resolved) : Type 0 where
  pub same : (text names : List ℕ) → resolved_of text names r ≡ wanted text
  pub parts : r.making.parts ≡ many

-- a row with these words, the others 0
abbrev pub made_row : ℕ → ℕ → ℕ → ℕ → ℕ → ℕ → ℕ → MakingRow
made_row kind parts ty derefs a b c =
    record { kind = kind; parts = parts; ty = ty; derefs = derefs; a = a; b = b; c = c; from = 0; to = 0; element = 0; many = 0; copy = 0 }

-- a literal's
abbrev pub literal_row : ℕ → NodeRow → ℕ → ℕ → MakingRow
literal_row kind node ty derefs =
    record { kind = kind; parts = node.parts; ty = ty; derefs = derefs; a = node.more; b = 0; c = 0; from = node.from; to = node.to; element = 0; many = 0; copy = 0 }

abbrev pub unseen_row : PartsRow
unseen_row = record { kind = 0; a = 0; b = 0; c = 0; mode = 0; many = 0 }

abbrev pub same_row : ℕ → ℕ → PartsRow
same_row t mode = record { kind = 1; a = t; b = 0; c = 0; mode = mode; many = 0 }

-- arguments of these fields
abbrev pub arguments_row : FieldRun → NodeRow → ℕ → PartsRow
arguments_row fields node mode = record { kind = 3; a = fields.start; b = fields.count; c = node.more; mode = mode; many = node.parts }

abbrev pub refused_row : ℕ → ℕ → Resolution
refused_row parts at = record { refused = Some at; making = made_row 0 parts 0 0 0 0 0; reads = unseen_row }

abbrev pub not_made_row : ℕ → Resolution
not_made_row parts = record { refused = None; making = made_row 0 parts 0 0 0 0 0; reads = unseen_row }

-- the kind and number of a row that is found
unfoldable pub named_as : List ℕ → Option ℕ → Named
named_as names none = None
named_as names (some row) = Some ((name_row_at names row).kind, (name_row_at names row).number)

-- a node's name with `ref` and `mut` before it
abbrev pub marked_in : List ℕ → NodeRow → Marked
marked_in names node = record { reference = eqb node.more 1 || eqb node.more 3; mutable = leb 2 node.more; called = name_in names node }

-- what a name is bound at: a type, or an array where its element's type is given
abbrev pub bound_at_of : ℕ → ℕ → ℕ → ℕ → BoundAt
bound_at_of t element many copy = cond (eqb element 65535) (bound_at_type t) (bound_at_array element many copy)

-- a binding's row
abbrev pub bind_row : NodeRow → ℕ → ℕ → ℕ → ℕ → ℕ → MakingRow
bind_row node t mode element many copy =
    record {
      kind = 6;
      parts = node.parts;
      ty = t;
      derefs = 0;
      a = mode_word node.more mode;
      b = annotation_word node.more;
      c = 0;
      from = node.from;
      to = node.to;
      element = element;
      many = many;
      copy = copy;
    }

-- a binding: its parts are read as it is
abbrev pub bind_resolution : NodeRow → ℕ → ℕ → ℕ → ℕ → ℕ → Resolution
bind_resolution node t mode element many copy =
    record { refused = None; making = bind_row node t mode element many copy; reads = same_row t mode }

-- the word of a path's kind: a variant or a constant
abbrev pub path_word : ℕ → ℕ
path_word kind = cond (eqb kind 1) 1 3

-- a path behind the references that are crossed
abbrev pub path_resolution : ℕ → CrossedType → ℕ → ℕ → Resolution
path_resolution parts c kind number =
    record { refused = None; making = made_row 1 parts c.ty c.derefs 9 (path_word kind) number; reads = unseen_row }

-- a row that is whole, of this kind
abbrev pub whole_resolution : ℕ → ℕ → ℕ → Resolution
whole_resolution parts t kind = record { refused = None; making = made_row 1 parts t 0 kind 0 0; reads = unseen_row }
