-- The steps that build a body are not refused for a limit while there is room. Assumes nothing.
use Rattle.std.specs.Prelude.{Some, None}
use mathlib.Core.Path.{◌≡◌, refl, sym, ◌∙◌}
use mathlib.Core.Bool.{Bool, true, false, cond, true≢false}
use mathlib.Core.List.{List, [], ◌∷◌, ◌++◌}
use Prim.Native.Nat.{ℕ, ◌+◌, ◌≤◌, ◌<◌}
use native.Mathlib.Omega.{arith}
use borrow.Author.Tests.{lt-ltb, ltb-true, eqb-true}
use lib.Dec.{eqb, ltb}
use lib.ListN.{length, length-append, length-set, get_or-append}
use Rattle.image.specs.Lists.{member}
use Rattle.refusals.specs.declared.MirLowerError.{MirLowerError}
use Rattle.refusals.specs.Refusals.{and_then}
use Rattle.refusals.specs.Refusals.{stopped}
use Rattle.row_tables.specs.Rows.{zeros}
use Rattle.place.specs.declared.LocalId.{LocalId}
use Rattle.mir.specs.declared.BasicBlockId.{BasicBlockId}
use Rattle.mir.specs.declared.blocks.Terminator.{Terminator}
use Rattle.mir.specs.Blocks.{term_row}
use Rattle.mir.specs.Rvalues.{live_row}
use Rattle.state.specs.State.{State}
use Rattle.state.specs.Steps.{new_block, set_terminator, push_statement, new_local, push_entry, within, try_block, try_statement, try_local, try_entry, next_local}
use Rattle.lower_spec.specs.Results.{OptBlock}
use Rattle.lower_spec.specs.Temps.{is_slice, is_held, record_unless, mark_live, push_storage_live_for_local, temp}
use Rattle.lower_spec.specs.Recorded.{recorded}
use Rattle.pattern_matching.specs.Walking.{else_state}
use Rattle.counting.specs.Counting.{else_made}
use Rattle.fitted.proofs.Building.{Kept, kept_on}
use Rattle.room.proofs.Telling.{Origin, Sure, sure_done, sure_stopped, sure_then}
use Rattle.room.proofs.Recording.{or_neither, Alike, recorded_another, recorded_more}

-- the tables that a walk adds to
pub data Table : Type 0 where
  block : Table
  statement : Table
  local : Table
  entry : Table

-- how much there is in them; entries, when these locals are recorded, too
abbrev pub amount : List ℕ → Table → State → ℕ
amount ls block st = length st.blocks
amount ls statement st = length st.statements
amount ls local st = length st.locals
amount ls entry st = length (recorded st.entries ls)

-- how much there may be
abbrev pub limit : Table → ℕ
limit block = 512
limit statement = 1024
limit local = 512
limit entry = 1024

-- so much for each
abbrev pub make : ℕ → ℕ → ℕ → ℕ → Table → ℕ
make b s l e block = b
make b s l e statement = s
make b s l e local = l
make b s l e entry = e

-- what a walk leads to: so much in each table, and locals of bindings that are marked live only behind it
pub record Goal : Type 0 where
  pub sums : Table → ℕ
  pub later : List ℕ

-- the same, before these are marked live
abbrev pub owing : List ℕ → Goal → Goal
owing ls T = record { sums = T.sums; later = ls ++ T.later }

-- none of these is a local that is not in the body yet
abbrev pub NoneNew : State → List ℕ → Type 0
NoneNew st ls = (l : ℕ) → length st.locals ≤ l → l < 512 → member l ls ≡ false

-- A state that the walk from `base` has come to: scopes and locals are as there, what is needed still comes to T in all, and, if A holds, there is room for that.
pub record Has (A : Type 0) (base : Origin) (T : Goal) (st : State) (need : Table → ℕ) : Type 0 where
  pub scopes : length st.scopes ≡ length base.ctx.state.scopes
  pub kept : Kept base.ctx.state st
  pub old : NoneNew base.ctx.state T.later
  pub sum : (w : Table) → amount T.later w st + need w ≡ T.sums w
  pub room : A → (w : Table) → T.sums w ≤ limit w

-- the same of each table
by_table : (f g : Table → ℕ) → f block ≡ g block → f statement ≡ g statement → f local ≡ g local → f entry ≡ g entry → (w : Table) → f w ≡ g w
by_table f g a b c d block = a
by_table f g a b c d statement = b
by_table f g a b c d local = c
by_table f g a b c d entry = d

-- the same need, said otherwise
pub has_as : {A : Type 0} {base : Origin} {T : Goal} {st : State} {need : Table → ℕ} (same : Table → ℕ) → ((w : Table) → same w ≡ need w) → Has A base T st need → Has A base T st same
has_as same f h = record { scopes = h.scopes; kept = h.kept; old = h.old; sum = λ w. let x = h.sum w in let y = f w in omega (arith, x, y); room = h.room }

-- the same, table by table
pub has_by : {A : Type 0} {base : Origin} {T : Goal} {st : State} {need : Table → ℕ} → Has A base T st need → (same : Table → ℕ) → same block ≡ need block → same statement ≡ need statement →
    same local ≡ need local → same entry ≡ need entry → Has A base T st same
has_by {need = need} h same a b c d = has_as same (by_table same need a b c d) h

-- locals to be marked live, said otherwise
pub has_alike : {A : Type 0} {base : Origin} {st : State} {need : Table → ℕ} (T : Goal) (ls ls' : List ℕ) → Alike (ls ++ T.later) (ls' ++ T.later) → Has A base (owing ls T) st need →
    Has A base (owing ls' T) st need
has_alike {st = st} {need = need} T ls ls' like h =
    record {
      scopes = h.scopes;
      kept = h.kept;
      old = λ l a b. sym (like.members l) ∙ h.old l a b;
      room = h.room;
      sum =
          let c = like.counts st.entries in
          let u = h.sum entry in
          by_table (λ w. amount (ls' ++ T.later) w st + need w) T.sums (h.sum block) (h.sum statement) (h.sum local) (omega (arith, c, u));
    }

-- a step within a limit
pub within_room : {A : Type 0} {base : Origin} {X : Type 0} (Q : X → Type 0) (n most : ℕ) (x : X) → (A → n < most) → (n < most → Q x) → Sure A base Q (within (ltb n most) x)
within_room {A = A} {base = base} Q n most x room q = by (ltb n most) refl
  where
    by : (b : Bool) → ltb n most ≡ b → Sure A base Q (within b x)
    by true e = sure_done Q x (q (ltb-true n most e))
    by false e = sure_stopped Q MirLowerError.Limit (λ a. true≢false (sym (lt-ltb n most (room a)) ∙ e))

module _ {A : Type 0} {base : Origin} {T : Goal} (st : State) (m : Table → ℕ) where
  -- one block
  pub spend_block : Has A base T st (λ w. make 1 0 0 0 w + m w) → Sure A base (λ st'. Has A base T st' m) (try_block st)
  unfolding try_block new_block
  spend_block h =
      within_room (λ st'. Has A base T st' m) (length st.blocks) 512 (new_block st) (λ a. let x = h.sum block in let y = h.room a block in omega (arith, x, y)) (λ _.
      record {
        scopes = h.scopes;
        kept = record { locals = h.kept.locals; kept = h.kept.kept };
        old = h.old;
        room = h.room;
        sum =
            let n = length-append st.blocks (zeros 12 ∷ []) in
            let x = h.sum block in
            let y = h.sum statement in
            let z = h.sum local in
            let u = h.sum entry in
            by_table _ _ (omega (arith, n, x)) (omega (arith, y)) (omega (arith, z)) (omega (arith, u));
      })

  -- one statement
  pub spend_statement : (row : List ℕ) → Has A base T st (λ w. make 0 1 0 0 w + m w) → Sure A base (λ st'. Has A base T st' m) (try_statement st row)
  unfolding try_statement push_statement
  spend_statement row h =
      within_room (λ st'. Has A base T st' m) (length st.statements) 1024 (push_statement st row) (λ a. let x = h.sum statement in let y = h.room a statement in omega (arith, x, y)) (λ _.
      record {
        scopes = h.scopes;
        kept = record { locals = h.kept.locals; kept = h.kept.kept };
        old = h.old;
        room = h.room;
        sum =
            let n = length-append st.statements (row ∷ []) in
            let x = h.sum block in
            let y = h.sum statement in
            let z = h.sum local in
            let u = h.sum entry in
            by_table _ _ (omega (arith, x)) (omega (arith, n, y)) (omega (arith, z)) (omega (arith, u));
      })

  -- an entry of a local that is not to be marked live
  spend_entry : (l : LocalId) → member l.0 T.later ≡ false → Has A base T st (λ w. make 0 0 0 1 w + m w) → Sure A base (λ st'. Has A base T st' m) (try_entry st l)
  unfolding try_entry push_entry
  spend_entry l other h =
      let n = recorded_more T.later st.entries in
      within_room (λ st'. Has A base T st' m) (length st.entries) 1024 (push_entry st l) (λ a. let x = h.sum entry in let y = h.room a entry in omega (arith, n, x, y)) (λ _.
      record {
        scopes = h.scopes;
        kept = record { locals = h.kept.locals; kept = h.kept.kept };
        old = h.old;
        room = h.room;
        sum =
            let n = recorded_another l.0 T.later st.entries other in
            let x = h.sum block in
            let y = h.sum statement in
            let z = h.sum local in
            let u = h.sum entry in
            by_table _ _ (omega (arith, x)) (omega (arith, y)) (omega (arith, z)) (omega (arith, n, u));
      })

  -- one local
  spend_local : (word : ℕ) → Has A base T st (λ w. make 0 0 1 0 w + m w) → Sure A base (λ st'. Has A base T st' m × (length st.locals < 512)) (try_local st word)
  unfolding try_local new_local
  spend_local word h =
      within_room (λ st'. Has A base T st' m × (length st.locals < 512)) (length st.locals) 512 (new_local st word) (λ a. let x = h.sum local in let y = h.room a local in omega (arith, x, y)) (λ less. (
        record {
          scopes = h.scopes;
          kept = kept_on h.kept (record {
            locals = let e = length-append st.locals (word ∷ []) in omega (arith, e);
            kept = λ i l. get_or-append st.locals (word ∷ []) 0 i l;
          });
          old = h.old;
          room = h.room;
          sum =
              let n = length-append st.locals (word ∷ []) in
              let x = h.sum block in
              let y = h.sum statement in
              let z = h.sum local in
              let u = h.sum entry in
              by_table _ _ (omega (arith, x)) (omega (arith, y)) (omega (arith, n, z)) (omega (arith, u));
        },
        less,
      ))

  -- a terminator takes no room
  pub has_terminator : (b : BasicBlockId) (t : Terminator) → Has A base T st m → Has A base T (set_terminator st b t) m
  unfolding set_terminator
  has_terminator b t h =
      record {
        scopes = h.scopes;
        kept = record { locals = h.kept.locals; kept = h.kept.kept };
        old = h.old;
        room = h.room;
        sum =
            let n = length-set st.blocks b.0 (term_row t) in
            let x = h.sum block in
            by_table _ _ (omega (arith, n, x)) (h.sum statement) (h.sum local) (h.sum entry);
      }

-- a local made live, held or not: behind its entry, or none, one statement
spend_live : {A : Type 0} {base : Origin} {T : Goal} (held : Bool) (st : State) (m : Table → ℕ) (l : LocalId) (b : BasicBlockId) → length st.scopes ≡ length base.ctx.state.scopes →
    Sure A base (λ st'. Has A base T st' (λ w. make 0 1 0 0 w + m w)) (record_unless held st l) → Sure A base (λ st'. Has A base T st' m) (mark_live held st l b)
unfolding mark_live
spend_live {A = A} {base = base} {T = T} held st m l b scopes recording = by (eqb (length st.scopes) 0) refl
  where
    by : (x : Bool) → eqb (length st.scopes) 0 ≡ x → Sure A base (λ st'. Has A base T st' m) (cond x (stopped MirLowerError.NoScope) (and_then (record_unless held st l) (λ st₁. try_statement st₁ (live_row b l))))
    by true e = sure_stopped (λ st'. Has A base T st' m) MirLowerError.NoScope (sym scopes ∙ eqb-true (length st.scopes) 0 e)
    by false e =
        sure_then {Q = λ st'. Has A base T st' m} (record_unless held st l) (λ st₁. try_statement st₁ (live_row b l)) recording (λ st₁ h₁. spend_statement st₁ m (live_row b l) h₁)

-- a local that is to be marked live: an entry, unless an open scope holds it
spend_recorded : {A : Type 0} {base : Origin} {T : Goal} (st : State) (m : Table → ℕ) (l : LocalId) → Has A base (owing (l.0 ∷ []) T) st m →
    Sure A base (λ st'. Has A base T st' m) (record_unless (is_held st l) st l)
unfolding is_held recorded member try_entry push_entry
spend_recorded {A = A} {base = base} {T = T} st m l h = by (member l.0 st.entries) (h.sum entry)
  where
    old : NoneNew base.ctx.state T.later
    old x a b = or_neither (eqb x l.0) (member x T.later) (h.old x a b)

    by : (held : Bool) → length (recorded (cond held st.entries (st.entries ++ (l.0 ∷ []))) T.later) + m entry ≡ T.sums entry →
        Sure A base (λ st'. Has A base T st' m) (record_unless held st l)
    by true u =
        sure_done (λ st'. Has A base T st' m) st
        (record { scopes = h.scopes; kept = h.kept; old = old; room = h.room; sum = by_table _ _ (h.sum block) (h.sum statement) (h.sum local) u })
    by false u =
        let n = recorded_more T.later (st.entries ++ (l.0 ∷ [])) in
        let k = length-append st.entries (l.0 ∷ []) in
        within_room (λ st'. Has A base T st' m) (length st.entries) 1024 (push_entry st l) (λ a. let y = h.room a entry in omega (arith, n, k, u, y)) (λ _.
        record {
          scopes = h.scopes;
          kept = record { locals = h.kept.locals; kept = h.kept.kept };
          old = old;
          room = h.room;
          sum = by_table _ _ (h.sum block) (h.sum statement) (h.sum local) u;
        })

-- it is made live
pub spend_bound : {A : Type 0} {base : Origin} {T : Goal} (st : State) (m : Table → ℕ) (l : LocalId) (b : BasicBlockId) → Has A base (owing (l.0 ∷ []) T) st (λ w. make 0 1 0 0 w + m w) →
    Sure A base (λ st'. Has A base T st' m) (push_storage_live_for_local st l b)
spend_bound st m l b h = spend_live (is_held st l) st m l b h.scopes (spend_recorded st (λ w. make 0 1 0 0 w + m w) l h)

-- a temporary: a new local, made live
pub spend_temp : {A : Type 0} {base : Origin} {T : Goal} (image : List ℕ) (st : State) (m : Table → ℕ) (word : ℕ) (b : BasicBlockId) → Has A base T st (λ w. make 0 1 1 1 w + m w) →
    Sure A base (λ st'. Has A base T st' m) (temp image st word b)
unfolding temp
spend_temp {A = A} {base = base} {T = T} image st m word b h = by (is_slice image word)
  where
    by : (x : Bool) → Sure A base (λ st'. Has A base T st' m) (cond x (stopped MirLowerError.UnsizedTemporary) (and_then (try_local st word) (λ st₁. mark_live false st₁ (next_local st) b)))
    by true = sure_stopped (λ st'. Has A base T st' m) MirLowerError.UnsizedTemporary tt
    by false =
        sure_then {Q = λ st'. Has A base T st' m} (try_local st word) (λ st₁. mark_live false st₁ (next_local st) b)
        (spend_local st (λ w. make 0 1 0 1 w + m w) word (has_by h _ (omega arith) (omega arith) (omega arith) (omega arith)))
        (λ st₁ (h₁, less).
        spend_live false st₁ m (next_local st) b h₁.scopes
        (spend_entry st₁ (λ w. make 0 1 0 0 w + m w) (next_local st) (h.old (length st.locals) h.kept.locals less) (has_by h₁ _ (omega arith) (omega arith) (omega arith) (omega arith))))

-- what may still be made once: an else in Check. F says whether something can fail
abbrev pub once_more : Bool → OptBlock → Table → ℕ
once_more F els block = else_made F els
once_more F els statement = 0
once_more F els local = 0
once_more F els entry = 0

-- the else that there is, or a new block
pub spend_else : {A : Type 0} {base : Origin} {T : Goal} (st : State) (m : Table → ℕ) (els : OptBlock) → Has A base T st (λ w. make (else_made true els) 0 0 0 w + m w) →
    Sure A base (λ st'. Has A base T st' m) (else_state st els)
unfolding else_state
spend_else {A = A} {base = base} {T = T} st m (Some x) h =
    sure_done (λ st'. Has A base T st' m) st (has_by h m (omega arith) (omega arith) (omega arith) (omega arith))
spend_else st m None h = spend_block st m h
