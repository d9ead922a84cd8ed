-- Locals leave: one by one, and those of a scope in a loop. Assumes nothing.
use Rattle.std.specs.Prelude.{Some, None, Ok, Err}
use Prim.Native.Nat.{ℕ, suc, ◌+◌, ◌*◌, ◌-◌, ◌<◌, ◌≤◌}
use mathlib.Core.Path.{◌≡◌, refl, sym, ap, ◌∙◌}
use mathlib.Core.Bool.{true, false}
use mathlib.Core.Logic.{inl, inr}
use mathlib.Core.Option.{Option, some}
use mathlib.Core.List.{List, ◌∷◌}
use native.Mathlib.Nat.{le_refl, le_trans}
use native.Mathlib.Omega.{arith}
use lib.ListN.{get_or}
use lib.Seq.{get_or-take}
use Rattle.refusals.specs.declared.MirLowerError.{MirLowerError}
use Rattle.refusals.specs.Refusals.{Result, done, stopped, and_then}
use Rattle.row_tables.specs.Rows.{stored}
use Rattle.place.specs.declared.LocalId.{LocalId}
use Rattle.mir.specs.declared.BasicBlockId.{BasicBlockId}
use Rattle.mir.specs.declared.Counts.{Counts}
use Rattle.mir.specs.declared.blocks.Terminator.{Terminator}
use Rattle.mir.specs.Blocks.{term_row, new_block, block_width}
use Rattle.mir.specs.Statements.{new_statement, statements_after}
use Rattle.mir.specs.Rvalues.{dead_row}
use Rattle.state.specs.State.{Body, State, decode}
use Rattle.state.specs.Steps.{next_block, try_block, set_terminator}
use Rattle.state.specs.Promises.{Ready, Own, Answers}
use Rattle.state.proofs.RowLengths.{dead_length}
use Rattle.state.proofs.Answering.{grown_refl, grown_trans, kept_refl, kept_trans, then, stops, no_step, block_full, next_block_lem}
use Rattle.drop_scopes_spec.specs.Results.{AtBlock}
use Rattle.drop_scopes_spec.specs.Dropping.{At, is_copy, mark_dead, emit_drop_and_storage_dead, leave_all, last_first}
use Rattle.drop_scopes_spec.specs.Promises.{LeftAt}
use Rattle.body_tables.specs.Layout.{with_blocks, with_statements}
use Rattle.body_tables.proofs.Building.{block_made, statement_made, terminator_set}
use Rattle.body_leaving.specs.Promises.{Beside, Leaves}
use Rattle.body_leaving.proofs.Making.{made_block, no_block, made_statement}

-- locals, scopes and entries stay where nothing is done, and by one thing after the other
pub beside_refl : (b : Body) → Beside b b
beside_refl b = record { locals = refl; scopes = refl; entries = refl }

pub beside_trans : {b b₁ b₂ : Body} → Beside b b₁ → Beside b₁ b₂ → Beside b b₂
beside_trans B C = record { locals = C.locals ∙ B.locals; scopes = C.scopes ∙ B.scopes; entries = C.entries ∙ B.entries }

-- they stay where another table of blocks, or of statements, takes the place of its own
beside_blocks : {b b₁ : Body} {t : List ℕ} → b₁ ≡ with_blocks b t → Beside b b₁
beside_blocks e = record { locals = ap (λ (x : Body). x.locals) e; scopes = ap (λ (x : Body). x.scopes) e; entries = ap (λ (x : Body). x.entries) e }

beside_statements : {b b₁ : Body} {t : List ℕ} → b₁ ≡ with_statements b t → Beside b b₁
beside_statements e = record { locals = ap (λ (x : Body). x.locals) e; scopes = ap (λ (x : Body). x.scopes) e; entries = ap (λ (x : Body). x.entries) e }

-- `mark_dead`: b₀ is the body at entry, b the one with a statement more where there is room
module _ (c : Counts) (block : BasicBlockId) (l : LocalId) (b₀ : Body) {b : Body} (is : b ≡ with_statements b₀ (statements_after c b₀.statements (dead_row block l))) where
  -- a local is dead
  pub dead_marked : {c₁ : Counts} → block.0 < c.blocks → Some c₁ ≡ new_statement c → Leaves (λ st. mark_dead st block l) c block b₀ (Ok (c₁, block)) b
  unfolding mark_dead
  dead_marked {c₁ = c₁} h made =
      let same = (made_statement c c₁ made).1 in
      record {
        answers = λ R.
            let F = statement_made b₀ c block.0 (dead_row block l) (dead_length block l) made is R in
            then (λ st₁. done (record { state = st₁; block = block })) F (inl refl) (no_step {current = block.0} (record { state = decode b c₁; block = block }) F.goes.0);
        left = rw same (h, inl refl, le_refl c.blocks, refl, refl, refl);
        beside = beside_statements is;
      }

  -- a limit is passed before it is
  pub dead_refused : None ≡ new_statement c → Leaves (λ st. mark_dead st block l) c block b₀ (Err MirLowerError.Limit) b
  unfolding mark_dead
  dead_refused full =
      record {
        answers = λ R. stops (λ st₁. done (record { state = st₁; block = block })) (statement_made b₀ c block.0 (dead_row block l) (dead_length block l) full is R);
        left = tt;
        beside = beside_statements is;
      }

-- a block of one's own, after another
own_trans : (c c₁ : Counts) (block next last : ℕ) → c.blocks ≤ c₁.blocks → Own c block next → Own c₁ next last → Own c block last
own_trans c c₁ block next last h own (inr new) = inr (le_trans h new)
own_trans c c₁ block next last h (inl same) (inl again) = inl (again ∙ same)
own_trans c c₁ block next last h (inr new) (inl again) = inr (omega arith)

-- where one step has led to counts and a block, and the next goes on from there
left_trans : (c c₁ : Counts) (block next : BasicBlockId) (r : AtBlock) → LeftAt c block (Ok (c₁, next)) → LeftAt c₁ next r → LeftAt c block r
left_trans c c₁ block next (Ok (c₂, last)) L M =
    (M.0, own_trans c c₁ block.0 next.0 last.0 L.2 L.1 M.1, le_trans L.2 M.2, M.3 ∙ L.3, M.4 ∙ L.4, M.5 ∙ L.5)
left_trans c c₁ block next (Err e) L M = tt

-- three steps, the first two taken together
and_then_twice : {A B C : Type 0} (r : Result A) (f : A → Result B) (g : B → Result C) → and_then (and_then r f) g ≡ and_then r (λ a. and_then (f a) g)
and_then_twice (done a) f g = refl
and_then_twice (stopped e) f g = refl

-- an answer to the same, said in another way
meant : {A : Type 0} {b b₁ : Body} {c : Counts} {current : ℕ} {c₁ : Option Counts} {given defined defined₁ : A} → defined ≡ defined₁ → Answers b c current b₁ c₁ given defined → Answers b c current b₁ c₁ given defined₁
meant same F = record { says = F.says ∙ same; goes = F.goes; kept = F.kept }

-- image and the rest are the parameters of `emit_drop_and_storage_dead`, b₀ its body at entry
module _ (image : List ℕ) (c : Counts) (block : BasicBlockId) (l : LocalId) (b₀ : Body) (named : l.0 < c.locals) where
  -- the word of its type is among those in use
  word_taken : get_or (decode b₀ c).locals l.0 0 ≡ get_or b₀.locals l.0 0
  unfolding decode
  word_taken = get_or-take c.locals b₀.locals l.0 0 named

  -- one that is copy
  pub copy_leaves : {r : AtBlock} {b : Body} → is_copy image (get_or b₀.locals l.0 0) ≡ true → Leaves (λ st. mark_dead st block l) c block b₀ r b → Leaves (λ st. emit_drop_and_storage_dead image st block l) c block b₀ r b
  unfolding emit_drop_and_storage_dead
  copy_leaves copy D = record { answers = λ R. rw (word_taken, copy) (D.answers R); left = D.left; beside = D.beside }

  -- one that is not, where there is no room for a block
  pub no_room_leaves : is_copy image (get_or b₀.locals l.0 0) ≡ false → None ≡ new_block c →
      Leaves (λ st. emit_drop_and_storage_dead image st block l) c block b₀ (Err MirLowerError.Limit) b₀
  unfolding emit_drop_and_storage_dead
  no_room_leaves moves full =
      record {
        answers = λ R.
            rw (word_taken, moves) (stops (λ st₁. mark_dead (set_terminator st₁ block (Terminator.Drop l (next_block (decode b₀ c)))) (next_block (decode b₀ c)) l) (block_full b₀ c block.0 (no_block c full)));
        left = tt;
        beside = beside_refl b₀;
      }

  -- one that is not, and is dropped
  pub drop_leaves : {c₁ : Counts} {next : BasicBlockId} {r : AtBlock} {b₁ b : Body} → is_copy image (get_or b₀.locals l.0 0) ≡ false → block.0 < c.blocks → Some (c₁, next) ≡ new_block c →
      b₁ ≡ with_blocks b₀ (stored b₀.blocks (block_width * block.0) (term_row (Terminator.Drop l next))) → Leaves (λ st. mark_dead st next l) c₁ next b₁ r b →
      Leaves (λ st. emit_drop_and_storage_dead image st block l) c block b₀ r b
  unfolding emit_drop_and_storage_dead
  drop_leaves {c₁ = c₁} {next = next} {r = r} {b₁ = b₁} {b = b} moves h made is D =
      let m = made_block c c₁ next made in
      let grown : c.blocks ≤ c₁.blocks = omega (arith, ap (λ (x : Counts). x.blocks) m.1) in
      let below : block.0 < c₁.blocks = omega arith in
      let number : next.0 ≡ c.blocks = ap (λ (x : BasicBlockId). x.0) m.2 in
      let own : c.blocks ≤ next.0 = omega arith in
      let set-drop : State → Result State = λ st₁. done (set_terminator st₁ block (Terminator.Drop l next)) in
      let marks : State → Result At = λ st₂. mark_dead st₂ next l in
      record {
        answers = λ R.
            let is-next : next ≡ next_block (decode b₀ c) = m.2 ∙ next_block_lem b₀ c in
            let F = block_made b₀ c block.0 made R in
            let G = terminator_set b₀ c₁ block (Terminator.Drop l next) is below F.goes.0 in
            rw (word_taken, moves, ← is-next)
            (meant (and_then_twice (try_block (decode b₀ c)) set-drop marks) (then marks (then set-drop F (inl refl) G) (inr own) (D.answers G.goes.0)));
        left = left_trans c c₁ block next r (rw (m.1, number) (omega arith, inr (le_refl c.blocks), omega arith, refl, refl, refl)) D.left;
        beside = beside_trans (beside_blocks is) D.beside;
      }

-- the entries from `start` on, before i: the last, and the others
last_peeled : (e : List ℕ) (start i : ℕ) → start < i → last_first e start (i - start) ≡ get_or e (i - 1) 0 ∷ last_first e start (i - 1 - start)
unfolding last_first
last_peeled e start i h =
    let more : i - start ≡ suc (i - 1 - start) = omega arith in
    let place : start + (i - 1 - start) ≡ i - 1 = omega arith in
    ap (last_first e start) more ∙ ap (λ (k : ℕ). get_or e k 0 ∷ last_first e start (i - 1 - start)) place

-- the entries from i on, before `end`, have left: what is left to do from the body now is what was to do from that at entry
pub record Departed (image : List ℕ) (start end : ℕ) (b₀ : Body) (c₀ : Counts) (block : BasicBlockId) (b : Body) (c : Counts) (at : BasicBlockId) (i : ℕ) : Type 0 where
  pub answers : Ready b₀ c₀ →
      Answers b₀ c₀ block.0 b (some c) (leave_all image (decode b c) at (last_first b₀.entries start (i - start))) (leave_all image (decode b₀ c₀) block (last_first b₀.entries start (end - start)))
  pub left : LeftAt c₀ block (Ok (c, at))
  pub begun : start ≤ i
  pub before : i ≤ end
  pub beside : Beside b₀ b

-- where the loop begins
pub departing_starts : {image : List ℕ} {start end : ℕ} {b₀ : Body} {c₀ : Counts} {block : BasicBlockId} → block.0 < c₀.blocks → start ≤ end → Departed image start end b₀ c₀ block b₀ c₀ block end
departing_starts {b₀ = b₀} {c₀ = c₀} {block = block} h le =
    record {
      answers = λ R. record { says = refl; goes = (R, grown_refl c₀); kept = kept_refl c₀ block.0 b₀ };
      left = (h, inl refl, le_refl c₀.blocks, refl, refl, refl);
      begun = le;
      before = omega arith;
      beside = beside_refl b₀;
    }

module _ {image : List ℕ} {start end : ℕ} {b₀ : Body} {c₀ : Counts} {block : BasicBlockId} {b : Body} {c : Counts} {at : BasicBlockId} {i : ℕ} (D : Departed image start end b₀ c₀ block b c at i) where
  -- the local of an entry now is that at entry
  entry_same : {l : LocalId} → l.0 ≡ get_or b.entries (i - 1) 0 → ◌≡◌ {A = LocalId} l (record { 0 = get_or b₀.entries (i - 1) 0 })
  entry_same is = λ j. record { 0 = (is ∙ ap (λ (t : List ℕ). get_or t (i - 1) 0) D.beside.entries) j }

  -- it is a local that there is, if each entry at entry is
  pub entry_named : {l : LocalId} → l.0 ≡ get_or b.entries (i - 1) 0 → get_or b₀.entries (i - 1) 0 < c₀.locals → l.0 < c.locals
  entry_named is h = omega (arith, h, is, ap (λ (t : List ℕ). get_or t (i - 1) 0) D.beside.entries, D.left.3)

  -- what is left to do, after the last entry
  after_last : {l : LocalId} {r : Result At} → start < i → l.0 ≡ get_or b.entries (i - 1) 0 → r ≡ emit_drop_and_storage_dead image (decode b c) at l →
      and_then r (λ a. leave_all image a.state a.block (last_first b₀.entries start (i - 1 - start))) ≡ leave_all image (decode b c) at (last_first b₀.entries start (i - start))
  unfolding leave_all
  after_last h is says =
      ap (λ (x : Result At). and_then x (λ a. leave_all image a.state a.block (last_first b₀.entries start (i - 1 - start)))) (says ∙ ap (emit_drop_and_storage_dead image (decode b c) at) (entry_same is))
      ∙ ap (leave_all image (decode b c) at) (sym (last_peeled b₀.entries start i h))

  -- a turn: one local more leaves
  pub departs : {l : LocalId} {c₁ : Counts} {at₁ : BasicBlockId} {b₁ : Body} → start < i → l.0 ≡ get_or b.entries (i - 1) 0 →
      Leaves (λ st. emit_drop_and_storage_dead image st at l) c at b (Ok (c₁, at₁)) b₁ → Departed image start end b₀ c₀ block b₁ c₁ at₁ (i - 1)
  departs {c₁ = c₁} {at₁ = at₁} h is L =
      record {
        answers = λ R.
            let A = D.answers R in
            let B = L.answers A.goes.0 in
            record {
              says = after_last h is B.says ∙ A.says;
              goes = (B.goes.0, grown_trans A.goes.1 B.goes.1);
              kept = kept_trans A.kept A.goes.1 D.left.1 B.kept;
            };
        left = left_trans c₀ c block at (Ok (c₁, at₁)) D.left L.left;
        begun = omega arith;
        before = omega (arith, D.before);
        beside = beside_trans D.beside L.beside;
      }

  -- a turn that is refused
  pub departing_stops : {l : LocalId} {err : MirLowerError} {b₁ : Body} → start < i → l.0 ≡ get_or b.entries (i - 1) 0 →
      Leaves (λ st. emit_drop_and_storage_dead image st at l) c at b (Err err) b₁ →
      Leaves (λ st. leave_all image st block (last_first b₀.entries start (end - start))) c₀ block b₀ (Err err) b₁
  departing_stops h is L =
      record {
        answers = λ R.
            let A = D.answers R in
            let B = L.answers A.goes.0 in
            record { says = after_last h is B.says ∙ A.says; goes = tt; kept = kept_trans A.kept A.goes.1 D.left.1 B.kept };
        left = tt;
        beside = beside_trans D.beside L.beside;
      }

  -- the loop's end
  pub departing_ends : i ≤ start → Leaves (λ st. leave_all image st block (last_first b₀.entries start (end - start))) c₀ block b₀ (Ok (c, at)) b
  unfolding leave_all last_first
  departing_ends h =
      let none_left : i - start ≡ 0 = omega arith in
      record {
        answers = λ R.
            let A = D.answers R in
            record { says = ap (λ (k : ℕ). leave_all image (decode b c) at (last_first b₀.entries start k)) (sym none_left) ∙ A.says; goes = A.goes; kept = A.kept };
        left = D.left;
        beside = D.beside;
      }
