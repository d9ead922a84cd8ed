-- Makings that are added one after another: the next one is ready, and what it adds. Assumes nothing.
use Prim.Native.Nat.{ℕ, zero, suc, ◌+◌, ◌≤◌, ◌<◌}
use mathlib.Core.Path.{◌≡◌, sym, ap, subst, ◌∙◌}
use mathlib.Core.Bool.{true, false}
use mathlib.Core.Logic.{⊎_elim}
use mathlib.Core.List.{List, [], ◌∷◌, ◌++◌, append_assoc}
use native.Mathlib.Nat.{eq-or-lt_of_le}
use native.Mathlib.Numerals.{add-one}
use native.Mathlib.Omega.{arith}
use lib.ListN.{length}
use Rattle.image.specs.declared.Tables.{Tables}
use Rattle.image.proofs.Bools.{and_left, and_right}
use Rattle.pattern_typing.specs.Making.{Making, not_made, row_made, literal_made, operand_made, operand_named, range_made, bind_made, reference_made, list_made, slice_made, field_made}
use Rattle.pattern_typing.specs.Closed.{ClosedMaking}
use Rattle.node_rows.specs.Makings.{making_row_at, closed_making_of, makings_in}
use Rattle.pattern_images.specs.Drafts.{empty_draft}
use Rattle.pattern_images.specs.Imaging.{within_image_limits}
use Rattle.draft_stack.specs.Stack.{Stacked, words_taken, words_put, emit_one, emit_up, parts_stand}
use Rattle.draft_stack.proofs.Stacks.{emit_append, height_one, stand_first, stand_behind}
use Rattle.draft_stack.proofs.Growing.{grows_up, past_grows}
use Rattle.draft_tables.specs.declared.DraftCounts.{DraftCounts}
use Rattle.draft_tables.specs.Layout.{stacked_in}
use Rattle.draft_tables.proofs.Counted.{room_within, stack_length}
use Rattle.draft_binds.specs.Named.{HeldFor}
use Rattle.draft_makings.specs.Makings.{making_fits, literals_fit, MakingReady, making_step}
use Rattle.image_making.specs.Images.{ImageReady, draft_up, EmittedUp}

-- a row of makings, the one behind it, and those behind that
record Behind (all done : List ClosedMaking) (next : ClosedMaking) : Type 0 where
  rest : List ClosedMaking
  split : all ≡ done ++ (next ∷ rest)

-- literals of makings behind others
fit_behind : (xs ys : List ClosedMaking) → literals_fit (xs ++ ys) ≡ true → literals_fit ys ≡ true
unfolding literals_fit
fit_behind [] ys e = e
fit_behind (x ∷ xs) ys e = fit_behind xs ys (and_right (making_fits x.makes) (literals_fit (xs ++ ys)) e)

-- a making puts at most one word more than it takes
put_most : (m : Making) (taken : ℕ) → words_put m taken ≤ suc taken
unfolding words_put
put_most not_made taken = omega arith
put_most (row_made row) taken = omega arith
put_most (literal_made t derefs v) taken = omega arith
put_most (operand_made v) taken = omega arith
put_most (operand_named o) taken = omega arith
put_most (range_made t derefs lower upper dots) taken = omega arith
put_most (bind_made t mode annotation name at) taken = omega arith
put_most (reference_made t) taken = omega arith
put_most (list_made row) taken = omega arith
put_most (slice_made t derefs before) taken = omega arith
put_most (field_made number) taken = omega arith

module _ (text names makings : List ℕ) where
  abbrev rows : ℕ → List ClosedMaking
  rows k = makings_in text names makings k

  abbrev row : ℕ → ClosedMaking
  row k = closed_making_of text names (making_row_at makings k)

  behind : (n i : ℕ) → i < n → Behind (rows n) (rows i) (row i)
  unfolding makings_in
  behind zero i h = absurd (omega arith)
  behind (suc n) i h = ⊎_elim last (λ (g : i < n). before (behind n i g)) (eq-or-lt_of_le (within h))
    where
      within : i < suc n → i ≤ n
      within g = omega arith

      last : i ≡ n → Behind (rows (suc n)) (rows i) (row i)
      last same = record { rest = []; split = ap (λ (k : ℕ). rows k ++ (row k ∷ [])) (sym same) }

      before : Behind (rows n) (rows i) (row i) → Behind (rows (suc n)) (rows i) (row i)
      before b =
          record { rest = b.rest ++ (row n ∷ []); split = ap (λ (l : List ClosedMaking). l ++ (row n ∷ [])) b.split ∙ append_assoc (rows i) (row i ∷ b.rest) (row n ∷ []) }

  module _ (sheet : List ℕ) (tables : Tables) (n : ℕ) where
    -- so many rows are done
    pub record Done (i : ℕ) (counts : DraftCounts) (table : List ℕ) : Type 0 where
      pub emitted : EmittedUp names sheet tables (rows i) counts table
      pub up_to : i ≤ n
      pub low : counts.height ≤ i
      pub long : length table ≡ 40704

    module _ (ready : ImageReady sheet tables (rows n)) (few : n ≤ 16384) (i : ℕ) (counts : DraftCounts) (table : List ℕ) (done : Done i counts table) (more : i < n) where
      abbrev up : Stacked
      up = emit_up sheet (rows i) [] empty_draft

      height_is_lem : length up.stack ≡ counts.height
      height_is_lem =
          sym (ap (λ (s : Stacked). length s.stack) done.emitted.holds)
          ∙ stack_length names table counts done.long (room_within tables counts done.emitted.room)

      -- the next one stands on its parts
      pub next_ready : MakingReady tables counts (row i)
      unfolding literals_fit
      next_ready =
          let b = behind n i more in
          let stands = stand_behind sheet (rows i) (row i ∷ b.rest) [] empty_draft (subst (λ (l : List ClosedMaking). parts_stand l 0 ≡ true) b.split ready.stand) in
          let first = stand_first sheet (row i) b.rest up.stack up.draft stands in
          let fits = fit_behind (rows i) (row i ∷ b.rest) (subst (λ (l : List ClosedMaking). literals_fit l ≡ true) b.split ready.fit) in
          record {
            room = done.emitted.room;
            high = omega (arith, done.low, more, few);
            may = first.0;
            enough = omega (arith, first.1.0, height_is_lem);
            fits = and_left (making_fits (row i).makes) (literals_fit b.rest) fits;
          }

      -- what it adds is past a limit: so is the whole
      pub next_past : within_image_limits sheet (making_step sheet text names (making_row_at makings i) (stacked_in names table counts)).draft ≡ false →
          within_image_limits sheet (draft_up sheet (rows n)) ≡ false
      unfolding emit_up
      next_past past =
          let b = behind n i more in
          let one = emit_one sheet (row i) up.stack up.draft in
          let here : within_image_limits sheet one.draft ≡ false =
          sym (ap (λ (s : Stacked). within_image_limits sheet (emit_one sheet (row i) s.stack s.draft).draft) done.emitted.holds) ∙ past in
          ap (λ (l : List ClosedMaking). within_image_limits sheet (draft_up sheet l)) b.split
          ∙ ap (λ (s : Stacked). within_image_limits sheet s.draft) (emit_append sheet (rows i) (row i ∷ b.rest) [] empty_draft)
          ∙ past_grows sheet (grows_up sheet b.rest one.stack one.draft) here

      -- it is added
      pub next_done : (counts' : DraftCounts) (after : List ℕ) → length after ≡ 40704 →
          HeldFor names tables table counts (making_step sheet text names (making_row_at makings i)) counts' after → Done (i + 1) counts' after
      unfolding emit_up makings_in
      next_done counts' after size held =
          let adds : emit_one sheet (row i) up.stack up.draft ≡ emit_up sheet (rows (suc i)) [] empty_draft = sym (emit_append sheet (rows i) (row i ∷ []) [] empty_draft) in
          let holds : stacked_in names after counts' ≡ emit_up sheet (rows (suc i)) [] empty_draft =
          held.holds ∙ ap (λ (s : Stacked). emit_one sheet (row i) s.stack s.draft) done.emitted.holds ∙ adds in
          let own = stack_length names after counts' size (room_within tables counts' held.room) in
          let same : length (emit_one sheet (row i) up.stack up.draft).stack ≡ counts'.height =
          sym (ap (λ (s : Stacked). length s.stack) (held.holds ∙ ap (λ (s : Stacked). emit_one sheet (row i) s.stack s.draft) done.emitted.holds)) ∙ own in
          let enough = next_ready.enough in
          let grown = height_one sheet (row i) up.stack up.draft (omega (arith, enough, height_is_lem)) in
          subst (λ (k : ℕ). Done k counts' after) (sym (add-one i))
          (record {
            emitted = record { room = held.room; holds = holds; derefs = held.derefs done.emitted.derefs };
            up_to = omega arith;
            low = omega (arith, same, grown, enough, height_is_lem, put_most (row i).makes (words_taken (row i)), done.low);
            long = size;
          })
