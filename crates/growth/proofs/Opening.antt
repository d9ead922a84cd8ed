-- Steps that close no block: lines at the end of the current block, new blocks, new locals. Assumes nothing.
use Rattle.std.specs.Prelude.{Some, None}
use Prim.Native.Nat.{ℕ, suc, ◌≤◌, ◌<◌}
use native.Mathlib.Nat.{le_refl, le_trans}
use native.Mathlib.Omega.{arith}
use mathlib.Core.Path.{◌≡◌, refl, sym, ap, subst, ◌∙◌}
use mathlib.Core.Logic.{◌≢◌}
use mathlib.Core.Bool.{Bool, true, false, cond}
use mathlib.Core.List.{List, [], ◌∷◌, ◌++◌, map, append_assoc, append-nil}
use lib.Dec.{eqb, ltb}
use lib.ListN.{length, get_or}
use Rattle.refusals.specs.declared.MirLowerError.{MirLowerError}
use Rattle.refusals.specs.Refusals.{Result, done, stopped, and_then}
use Rattle.place.specs.declared.LocalId.{LocalId}
use Rattle.place.specs.declared.Place.{Place}
use Rattle.mir.specs.declared.BasicBlockId.{BasicBlockId}
use Rattle.mir.specs.declared.blocks.Terminator.{Terminator}
use Rattle.mir.specs.declared.rvalues.Constant.{Constant}
use Rattle.mir.specs.declared.rvalues.BinOp.{BinOp}
use Rattle.mir.specs.declared.rvalues.PlaceRvalue.{PlaceRvalue}
use Rattle.mir.specs.declared.rvalues.Left.{Left}
use Rattle.mir.specs.Blocks.{block_limit}
use Rattle.mir.specs.Statements.{statement_limit}
use Rattle.mir.specs.Locals.{local_limit}
use Rattle.mir.specs.Scopes.{entry_limit}
use Rattle.mir.specs.Rvalues.{live_row, place_rvalue_row, constant_row, binary_row}
use Rattle.state.specs.State.{State}
use Rattle.state.specs.Steps.{within, next_local, new_block, push_statement, new_local, push_entry, try_block, try_statement, try_local, try_entry}
use Rattle.lower_spec.specs.Results.{OptBlock}
use Rattle.lower_spec.specs.Temps.{is_slice, record_unless, mark_live, temp}
use Rattle.views.specs.Views.{Line, terminator_of, line_of, mir_of}
use Rattle.views.specs.Growing.{Quiet}
use Rattle.pattern_matching.specs.Walking.{else_state}
use Rattle.growth.specs.Opened.{count, terminator, lines, Below, Worked}
use Rattle.growth.proofs.States.{count_block, terminator_block, lines_statement}

-- all lines of the list stand in block b
abbrev pub Own : ℕ → List Line → Type 0
Own b [] = Unit {0}
Own b (x ∷ xs) = (x.block ≡ b) × Own b xs

-- lines and then more, all of block b
own_append : (b : ℕ) (l l' : List Line) → Own b l → Own b l' → Own b (l ++ l')
own_append b [] l' h h' = h'
own_append b (x ∷ l) l' h h' = (h.0, own_append b l l' h.1 h')

-- then none of them stands in another block
pub own_quiet : (c b : ℕ) (l : List Line) → b ≢ c → Own c l → Quiet b l
own_quiet c b [] n h = tt
own_quiet c b (x ∷ l) n h = (λ e. n (sym e ∙ h.0), own_quiet c b l n h.1)

-- they stand in a block below n, if theirs is
own_below : (c n : ℕ) (l : List Line) → c < n → Own c l → Below n l
own_below c n [] i h = tt
own_below c n (x ∷ l) i h = (subst (λ (k : ℕ). k < n) (sym h.0) i, own_below c n l i h.1)

-- no terminator is set, and all new lines stand in the block current
pub record Opens (st : State) (current : ℕ) (st₁ : State) : Type 0 where
  pub blocks : count st ≤ count st₁
  pub terms : (b : ℕ) → terminator st₁ b ≡ terminator st b
  pub more : List Line
  pub grown : lines st₁ ≡ lines st ++ more
  pub own : Own current more
  pub more_locals : List ℕ
  pub locals : st₁.locals ≡ st.locals ++ more_locals

-- the same, and no block is new
pub record Adds (st : State) (current : ℕ) (st₁ : State) : Type 0 where
  pub opens : Opens st current st₁
  pub same : count st₁ ≡ count st

-- it is work at that block
pub opens_worked : {st st₁ : State} {current : ℕ} → current < count st → Opens st current st₁ → Worked st current st₁
opens_worked {st} {st₁} {current} h o =
    record {
      blocks = o.blocks;
      more = o.more;
      grown = o.grown;
      still = λ b i n. own_quiet current b o.more n o.own;
      kept = λ b i n. o.terms b;
      below = own_below current (count st₁) o.more (omega (arith, o.blocks)) o.own;
      more_locals = o.more_locals;
      locals = o.locals;
    }

-- one such step after another
pub opens_seq : {st st₁ st₂ : State} {current : ℕ} → Opens st current st₁ → Opens st₁ current st₂ → Opens st current st₂
opens_seq {st} {st₁} {st₂} {current} f g =
    record {
      blocks = le_trans f.blocks g.blocks;
      terms = λ b. g.terms b ∙ f.terms b;
      more = f.more ++ g.more;
      grown = g.grown ∙ ap (λ (l : List Line). l ++ g.more) f.grown ∙ append_assoc (lines st) f.more g.more;
      own = own_append current f.more g.more f.own g.own;
      more_locals = f.more_locals ++ g.more_locals;
      locals = g.locals ∙ ap (λ (l : List ℕ). l ++ g.more_locals) f.locals ∙ append_assoc st.locals f.more_locals g.more_locals;
    }

-- the same with no block new
pub adds_seq : {st st₁ st₂ : State} {current : ℕ} → Adds st current st₁ → Adds st₁ current st₂ → Adds st current st₂
adds_seq f g = record { opens = opens_seq f.opens g.opens; same = g.same ∙ f.same }

-- nothing done
pub opens_same : (st : State) (current : ℕ) → Opens st current st
opens_same st current =
    record {
      blocks = le_refl _;
      terms = λ b. refl;
      more = [];
      grown = sym (append-nil (lines st));
      own = tt;
      more_locals = [];
      locals = sym (append-nil st.locals);
    }

-- nothing done, with no block new
pub adds_same : (st : State) (current : ℕ) → Adds st current st
adds_same st current = record { opens = opens_same st current; same = refl }

-- one block more
opens_new : (st : State) (current : ℕ) → Opens st current (new_block st)
unfolding new_block mir_of
opens_new st current =
    record {
      blocks = omega (arith, count_block st);
      terms = λ b. terminator_block st b;
      more = [];
      grown = sym (append-nil (lines st));
      own = tt;
      more_locals = [];
      locals = sym (append-nil st.locals);
    }

-- one line more
adds_line : (st : State) (current : ℕ) (row : List ℕ) → (line_of row).block ≡ current → Adds st current (push_statement st row)
unfolding push_statement mir_of
adds_line st current row e =
    record {
      opens =
          record {
            blocks = le_refl _;
            terms = λ b. refl;
            more = line_of row ∷ [];
            grown = lines_statement st row;
            own = (e, tt);
            more_locals = [];
            locals = sym (append-nil st.locals);
          };
      same = refl;
    }

-- new locals, and nothing else of a body
pub adds_words : (st st₁ : State) (current : ℕ) (words : List ℕ) → st₁.blocks ≡ st.blocks → st₁.statements ≡ st.statements → st₁.locals ≡ st.locals ++ words → Adds st current st₁
unfolding mir_of
adds_words st st₁ current words b s l =
    let same : count st₁ ≡ count st = ap (λ (rows : List (List ℕ)). length rows) b in
    record {
      opens =
          record {
            blocks = omega arith;
            terms = λ k. ap (λ (rows : List (List ℕ)). get_or (map terminator_of rows) k Terminator.Open) b;
            more = [];
            grown = ap (map line_of) s ∙ sym (append-nil (lines st));
            own = tt;
            more_locals = words;
            locals = l;
          };
      same = same;
    }

-- one local more
adds_local : (st : State) (current word : ℕ) → Adds st current (new_local st word)
unfolding new_local
adds_local st current word = adds_words st (new_local st word) current (word ∷ []) refl refl refl

-- one entry more
adds_entry : (st : State) (current : ℕ) (l : LocalId) → Adds st current (push_entry st l)
unfolding push_entry
adds_entry st current l = adds_words st (push_entry st l) current [] refl refl (sym (append-nil st.locals))

-- what is refused is not given
refused_not_ok : {A : Type 0} {x : MirLowerError} {b : A} → stopped x ≡ done b → ⊥
refused_not_ok e = let z : ◌≡◌ {A = ℕ} 0 1 = cc in omega arith

-- what was given where there was room
given : {A : Type 0} (room : Bool) (a b : A) → within room a ≡ done b → a ≡ b
given true a b e = cc
given false a b e = absurd (refused_not_ok e)

-- what follows where nothing was refused
unrefused : {A : Type 0} (test : Bool) (x : MirLowerError) (w : Result A) {b : A} → cond test (stopped x) w ≡ done b → w ≡ done b
unrefused true x w e = absurd (refused_not_ok e)
unrefused false x w e = e

-- what one step gave, and what followed it
followed : {A B C : Type 0} (w : Result A) (next : A → Result B) {b : B} → and_then w next ≡ done b → ((a : A) → w ≡ done a → next a ≡ done b → C) → C
followed (done a) next e k = k a refl e
followed (stopped x) next e k = absurd (refused_not_ok e)

-- one block more, where there is room
pub opens_block : (st st₁ : State) (current : ℕ) → try_block st ≡ done st₁ → Opens st current st₁
unfolding try_block
opens_block st st₁ current e = subst (λ (s : State). Opens st current s) (given (ltb (count st) block_limit) (new_block st) st₁ e) (opens_new st current)

-- it is counted
pub count_tried : (st st₁ : State) → try_block st ≡ done st₁ → count st₁ ≡ suc (count st)
unfolding try_block
count_tried st st₁ e = subst (λ (s : State). count s ≡ suc (count st)) (given (ltb (count st) block_limit) (new_block st) st₁ e) (count_block st)

-- one line more, where there is room
pub adds_statement : (st st₁ : State) (current : ℕ) (row : List ℕ) → (line_of row).block ≡ current → try_statement st row ≡ done st₁ → Adds st current st₁
unfolding try_statement
adds_statement st st₁ current row h e = subst (λ (s : State). Adds st current s) (given (ltb (length st.statements) statement_limit) (push_statement st row) st₁ e) (adds_line st current row h)

-- the block of a live mark
pub live_block : (block : BasicBlockId) (l : LocalId) → (line_of (live_row block l)).block ≡ block.0
unfolding line_of live_row
live_block block l = refl

-- the block of a line that uses a place
pub place_block : (block : BasicBlockId) (target : LocalId) (rvalue : PlaceRvalue) (place : Place) → (line_of (place_rvalue_row block target rvalue place)).block ≡ block.0
unfolding line_of place_rvalue_row
place_block block target rvalue place = refl

-- the block of a line that sets a constant
pub constant_block : (block : BasicBlockId) (target : LocalId) (c : Constant) → (line_of (constant_row block target c)).block ≡ block.0
unfolding line_of constant_row
constant_block block target c = refl

-- the block of a line with an operator
pub binary_block : (block : BasicBlockId) (target : LocalId) (op : BinOp) (left : Left) (place : Place) → (line_of (binary_row block target op left place)).block ≡ block.0
unfolding line_of binary_row
binary_block block target op left place = refl

-- a local that is held, or one entry more, where there is room
adds_recorded : (held : Bool) (st st₁ : State) (current : ℕ) (l : LocalId) → record_unless held st l ≡ done st₁ → Adds st current st₁
unfolding try_entry
adds_recorded true st st₁ current l e = let same : st ≡ st₁ = cc in subst (λ (s : State). Adds st current s) same (adds_same st current)
adds_recorded false st st₁ current l e =
    subst (λ (s : State). Adds st current s) (given (ltb (length st.entries) entry_limit) (push_entry st l) st₁ e) (adds_entry st current l)

-- a local made live, held or not
pub adds_live : (held : Bool) (st st₁ : State) (l : LocalId) (block : BasicBlockId) → mark_live held st l block ≡ done st₁ → Adds st block.0 st₁
unfolding mark_live
adds_live held st st₁ l block e =
    followed (record_unless held st l) _ (unrefused (eqb (length st.scopes) 0) MirLowerError.NoScope _ e) (λ st₂ e₂ e₃.
    adds_seq (adds_recorded held st st₂ block.0 l e₂) (adds_statement st₂ st₁ block.0 (live_row block l) (live_block block l) e₃))

-- a temporary
pub adds_temp : (image : List ℕ) (st st₁ : State) (word : ℕ) (block : BasicBlockId) → temp image st word block ≡ done st₁ → Adds st block.0 st₁
unfolding temp try_local
adds_temp image st st₁ word block e =
    followed (try_local st word) _ (unrefused (is_slice image word) MirLowerError.UnsizedTemporary _ e) (λ st₂ e₂ e₃.
    adds_seq (subst (λ (s : State). Adds st block.0 s) (given (ltb (length st.locals) local_limit) (new_local st word) st₂ e₂) (adds_local st block.0 word))
    (adds_live false st₂ st₁ (next_local st) block e₃))

-- the else that there is, or a new block
pub opens_else : (st st₁ : State) (current : ℕ) (els : OptBlock) → else_state st els ≡ done st₁ → Opens st current st₁
unfolding else_state
opens_else st st₁ current (Some b) e = let same : st ≡ st₁ = cc in subst (λ (s : State). Opens st current s) same (opens_same st current)
opens_else st st₁ current None e = opens_block st st₁ current e

-- how many blocks there are with an else, of n
abbrev pub WithElse : OptBlock → ℕ → ℕ → Type 0
WithElse (Some b) n m = m ≡ n
WithElse None n m = m ≡ suc n

-- a new else is counted
pub count_else : (st st₁ : State) (els : OptBlock) → else_state st els ≡ done st₁ → WithElse els (count st) (count st₁)
unfolding else_state
count_else st st₁ (Some b) e = let same : st₁ ≡ st = cc in ap (λ (s : State). count s) same
count_else st st₁ None e = count_tried st st₁ e
