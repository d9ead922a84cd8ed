-- Document 01's listing of a body. Its words stand in quotation marks. Assumes nothing: these are definitions.
use Rattle.std.specs.Prelude.{Some, None}
use Rattle.std.specs.Prelude.{ℕ, ◌+◌, cond, List, [], ◌∷◌, ◌++◌, eqb}
use Rattle.refusals.specs.Refusals.{Refusal}
use Rattle.place.specs.declared.elems.ProjectionElem.{ProjectionElem}
use Rattle.mir.specs.declared.BasicBlockId.{BasicBlockId}
use Rattle.mir.specs.declared.blocks.Terminator.{Terminator}
use Rattle.mir.specs.declared.rvalues.BinOp.{BinOp}
use Rattle.mir.specs.declared.rvalues.Left.{Left}
use Rattle.mir.specs.declared.rvalues.PlaceRvalue.{PlaceRvalue}
use Rattle.lower_spec.specs.Results.{OptBlock}
use Rattle.views.specs.Views.{Path, Rvalue, of_place, of_constant, binary, unknown_rvalue, Statement, live, dead, set, Line, Mir}
use Rattle.listing_text.specs.Words.{then_word, else_word, local_word, bool_word, usize_word, i128_word, type_word, block_word, live_word, dead_word, set_word, copy_word, ref_word, mut_word, len_word, discr_word, eq_word, le_word, ge_word, gt_word, switch_word, goto_word, unreachable_word, drop_word, open_word, deref_word, field_word, index_word, from_end_word, subslice_word, downcast_word, refused_word, and_copy_word, space, dash, newline}
use Rattle.listing_text.specs.Numbers.{decimal, hex_halves, constant_bytes}

-- "`.deref`, `.f`N, `.i`N (from the front), `.e`N (from the end), `.s`A`-`B, `.v`N"
unfoldable pub elem_text : ProjectionElem → List ℕ
elem_text ProjectionElem.Deref = deref_word
elem_text (ProjectionElem.Field n) = field_word ++ decimal n
elem_text (ProjectionElem.Index n) = index_word ++ decimal n
elem_text (ProjectionElem.IndexFromEnd n) = from_end_word ++ decimal n
elem_text (ProjectionElem.Subslice a b) = subslice_word ++ (decimal a ++ (dash ++ decimal b))
elem_text (ProjectionElem.Downcast v) = downcast_word ++ decimal v
elem_text ProjectionElem.Unknown = []

unfoldable pub elems_text : List ProjectionElem → List ℕ
elems_text [] = []
elems_text (elem ∷ elems) = elem_text elem ++ elems_text elems

-- "A place is a local followed by .."
unfoldable pub place_text : Path → List ℕ
place_text path = decimal path.local ++ elems_text path.elems

-- "`copy` PLACE, `ref` PLACE, `mut` PLACE, `len` PLACE, `discr` PLACE"
unfoldable pub place_rvalue_word : PlaceRvalue → List ℕ
place_rvalue_word PlaceRvalue.Copy = copy_word
place_rvalue_word PlaceRvalue.Ref = ref_word
place_rvalue_word PlaceRvalue.Mut = mut_word
place_rvalue_word PlaceRvalue.Len = len_word
place_rvalue_word PlaceRvalue.Discr = discr_word

-- "an operator (eq, le, ge) with two operands"; gt is request S-1's
unfoldable pub operator_word : BinOp → List ℕ
operator_word BinOp.Eq = eq_word
operator_word BinOp.Le = le_word
operator_word BinOp.Ge = ge_word
operator_word BinOp.Gt = gt_word

unfoldable pub left_text : Left → List ℕ
left_text (Left.Local l) = copy_word ++ decimal l.0
left_text (Left.Constant c) = constant_bytes c.count c.low c.high

unfoldable pub rvalue_text : Rvalue → List ℕ
rvalue_text (of_place rvalue path) = place_rvalue_word rvalue ++ place_text path
rvalue_text (of_constant c) = constant_bytes c.count c.low c.high
rvalue_text (binary op left path) = operator_word op ++ (left_text left ++ (and_copy_word ++ place_text path))
rvalue_text unknown_rvalue = []

-- "`live`, `dead` name a local. `set` has the target, then .."
unfoldable pub statement_text : Statement → List ℕ
statement_text (live l) = live_word ++ (decimal l ++ newline)
statement_text (dead l) = dead_word ++ (decimal l ++ newline)
statement_text (set l rvalue) = set_word ++ (decimal l ++ (space ++ (rvalue_text rvalue ++ newline)))

-- "`switch` has local, value in hexadecimal without leading zeros, then, else. Terminators also: `goto` B, `unreachable`, `drop` L B, `open`."
unfoldable pub terminator_text : Terminator → List ℕ
terminator_text Terminator.Open = open_word ++ newline
terminator_text (Terminator.Goto b) = goto_word ++ (decimal b.0 ++ newline)
terminator_text (Terminator.Switch l low high then other) =
    switch_word ++ (decimal l.0 ++ (space ++ (hex_halves low high ++ (space ++ (decimal then.0 ++ (space ++ (decimal other.0 ++ newline)))))))
terminator_text Terminator.Unreachable = unreachable_word ++ newline
terminator_text (Terminator.Drop l b) = drop_word ++ (decimal l.0 ++ (space ++ (decimal b.0 ++ newline)))

-- "bool, usize, i128 or t with the type number", by the word of a local's type
unfoldable pub local_ty_text : ℕ → List ℕ
local_ty_text w =
    cond (eqb w 256) bool_word (cond (eqb w 257) usize_word (cond (eqb w 258) i128_word (type_word ++ decimal w)))

-- "`local` has its number and .."
unfoldable pub local_text : ℕ → ℕ → List ℕ
local_text i w = local_word ++ (decimal i ++ (space ++ (local_ty_text w ++ newline)))

-- the locals from the number i on
unfoldable pub locals_text : ℕ → List ℕ → List ℕ
locals_text i [] = []
locals_text i (w ∷ ws) = local_text i w ++ locals_text (i + 1) ws

-- the statements of the block b, in order
unfoldable pub lines_text : ℕ → List Line → List ℕ
lines_text b [] = []
lines_text b (line ∷ lines) = cond (eqb line.block b) (statement_text line.statement) [] ++ lines_text b lines

-- the block b, with its statements and its terminator
unfoldable pub block_text : List Line → ℕ → Terminator → List ℕ
block_text lines b t = block_word ++ (decimal b ++ (newline ++ (lines_text b lines ++ terminator_text t)))

-- the blocks from the number b on
unfoldable pub blocks_text : List Line → ℕ → List Terminator → List ℕ
blocks_text lines b [] = []
blocks_text lines b (t ∷ ts) = block_text lines b t ++ blocks_text lines (b + 1) ts

-- "`else -` is none"
unfoldable pub else_text : OptBlock → List ℕ
else_text None = dash
else_text (Some b) = decimal b.0

-- the listing of an accepted lowering
unfoldable pub listing : BasicBlockId → OptBlock → Mir → List ℕ
listing then els mir =
    then_word ++ (decimal then.0 ++ (else_word ++ (else_text els ++ (newline ++ (locals_text 0 mir.locals ++ blocks_text mir.lines 0 mir.terminators)))))

-- "A refusal prints `refused` and its three numbers."
unfoldable pub refusal_text : Refusal → List ℕ
refusal_text r = refused_word ++ (decimal r.number ++ (space ++ (decimal r.pattern ++ (space ++ (decimal r.reason ++ newline)))))
