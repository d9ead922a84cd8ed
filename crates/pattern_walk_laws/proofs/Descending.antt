-- `enter`: in Check the walk goes down through Binds. Assumes nothing.
use Prim.Native.Nat.{ℕ, ◌≤◌, ◌<◌}
use mathlib.Core.Path.{◌≡◌, refl, sym, ap, ◌∙◌}
use mathlib.Core.Bool.{Bool, true, false, not, ◌&&◌, true≢false, false≢true}
use mathlib.Core.List.{List}
use native.Mathlib.Omega.{arith}
use borrow.Author.Tests.{ne_eqb}
use lib.Dec.{eqb}
use Rattle.image.specs.declared.PatId.{PatId}
use Rattle.image.specs.declared.Tables.{Tables}
use Rattle.image.specs.declared.kinds.PatKind.{PatKind}
use Rattle.image.specs.declared.rows.PatRow.{PatRow}
use Rattle.image.specs.Tables.{pattern_count}
use Rattle.image.specs.Kinds.{pat_kind, path_kind}
use Rattle.image.specs.Rows.{pat_at}
use Rattle.image.specs.Tree.{tree, tree?}
use Rattle.image.specs.Valid.{valid}
use Rattle.image.proofs.Bools.{and_left, and_right}
use Rattle.place.specs.declared.Place.{Place}
use Rattle.place.specs.declared.Projected.{Projected}
use Rattle.mir.specs.declared.BasicBlockId.{BasicBlockId}
use Rattle.mir.specs.declared.Counts.{Counts}
use Rattle.lower_spec.specs.Results.{OptBlock}
use Rattle.pattern_matching.specs.declared.MatchingMode.{MatchingMode}
use Rattle.pattern_matching.specs.Modes.{is_check}
use Rattle.pattern_matching.specs.Walking.{Ctx, Out, Walk, ok, refused, next, in_check}
use Rattle.pattern_matching.specs.Patterns.{bind_pattern, pattern_match_inner, lowering?}
use Rattle.pattern_walk_spec.specs.Results.{Lowered}
use Rattle.pattern_walk_spec.specs.Answers.{Lowers}
use Rattle.pattern_walk_spec.proofs.Sequences.{lowers_walks, walks_by}
use Rattle.pattern_entering.specs.Entering.{projected_result, derefs_of}
use Rattle.pattern_parts.specs.Parts.{is_bind}
use Rattle.pattern_entering.proofs.Visiting.{Reached, reached_refl, reached_trans, visited_in}
use Rattle.pattern_nodes.specs.Leaves.{is_leaf, leaf_pattern}
use Rattle.pattern_nodes.specs.Nodes.{kind_pattern}
use Rattle.pattern_nodes.proofs.Nodes.{applied, leaf_by_kind}
use Rattle.pattern_nodes.proofs.Each.{subpattern_there}
use Rattle.pattern_nodes.proofs.There.{bind_there}
use Rattle.pattern_walk_laws.specs.Walk.{Walkable, Inner, passes_on, Enters}
use Rattle.pattern_walk_laws.proofs.Asking.{walkable_at}
use Rattle.pattern_walk_laws.proofs.Trying.{in_check_lem}
use Rattle.pattern_walk_laws.proofs.Entering.{derefs_done, derefs_reached, inner_stops, inner_goes}
use Rattle.state.specs.State.{Body}

-- a kind that is Bind
bind_is : (k : PatKind) → is_bind k ≡ true → k ≡ PatKind.Bind
unfolding is_bind
bind_is PatKind.Missing e = absurd (false≢true e)
bind_is PatKind.Rest e = absurd (false≢true e)
bind_is PatKind.NotNull e = absurd (false≢true e)
bind_is PatKind.Wild e = absurd (false≢true e)
bind_is PatKind.Tuple e = absurd (false≢true e)
bind_is PatKind.Or e = absurd (false≢true e)
bind_is PatKind.Record e = absurd (false≢true e)
bind_is PatKind.Range e = absurd (false≢true e)
bind_is PatKind.Slice e = absurd (false≢true e)
bind_is PatKind.Path e = absurd (false≢true e)
bind_is PatKind.Lit e = absurd (false≢true e)
bind_is PatKind.Bind e = refl
bind_is PatKind.TupleStruct e = absurd (false≢true e)
bind_is PatKind.Ref e = absurd (false≢true e)
bind_is PatKind.Expr e = absurd (false≢true e)
bind_is PatKind.Box e = absurd (false≢true e)
bind_is PatKind.Deref e = absurd (false≢true e)
bind_is PatKind.Unknown e = absurd (false≢true e)

-- in Check a walk is handed on as it is
handed_on : (mode : MatchingMode) (w : Walk Out) (beyond : Out → Walk Out) → is_check mode ≡ true → w ≡ next w (λ r. in_check mode (ok r) (beyond r))
handed_on mode (ok r) beyond e = sym (in_check_lem mode (ok r) (beyond r) e)
handed_on mode (refused x p) beyond e = refl

-- `passes_on`
module _ (mode : MatchingMode) (row : PatRow) where
  -- beyond Check
  pub passes_unchecked : is_check mode ≡ false → false ≡ passes_on mode row
  unfolding passes_on
  passes_unchecked e = rw e refl

  -- there is no subpattern
  pub passes_absent : row.b ≡ 65535 → false ≡ passes_on mode row
  unfolding passes_on
  passes_absent e = rw e (go (is_check mode))
    where
      go : (b : Bool) → false ≡ b && false
      go true = refl
      go false = refl

  -- there is one
  pub passes_by_lem : {k : PatKind} {b : Bool} → is_check mode ≡ true → (row.b ≡ 65535 → ⊥) → k ≡ pat_kind row.kind → b ≡ is_bind k → b ≡ passes_on mode row
  unfolding passes_on
  passes_by_lem e d is by = by ∙ ap is_bind is ∙ rw (e, ne_eqb row.b 65535 d) refl

module _ (image : List ℕ) (mode : MatchingMode) (q : PatId) (row : PatRow) (passes : passes_on mode row ≡ true) where
  -- what is known of a row that the walk passes
  is_checked : is_check mode ≡ true
  unfolding passes_on
  is_checked = and_left (is_check mode) (not (eqb row.b 65535) && is_bind (pat_kind row.kind)) passes

  has_subpattern : eqb row.b 65535 ≡ false
  unfolding passes_on
  has_subpattern = go (eqb row.b 65535) (and_left (not (eqb row.b 65535)) (is_bind (pat_kind row.kind)) (and_right (is_check mode) (not (eqb row.b 65535) && is_bind (pat_kind row.kind)) passes))
    where
      go : (b : Bool) → not b ≡ true → b ≡ false
      go true e = absurd (false≢true e)
      go false e = refl

  pub passes_bind : pat_kind row.kind ≡ PatKind.Bind
  unfolding passes_on
  passes_bind = bind_is (pat_kind row.kind) (and_right (not (eqb row.b 65535)) (is_bind (pat_kind row.kind)) (and_right (is_check mode) (not (eqb row.b 65535) && is_bind (pat_kind row.kind)) passes))

  -- it does what its subpattern does
  passed : (bindings : List ℕ) (ctx : Ctx) (current : BasicBlockId) (els : OptBlock) (place : Place) →
      pattern_match_inner image bindings (tree image row.b) mode ctx current els place ≡ kind_pattern (pat_kind row.kind) image bindings q.0 row mode ctx current els place
  unfolding kind_pattern bind_pattern tree? pattern_match_inner
  passed bindings ctx current els place =
      rw (passes_bind, has_subpattern) (handed_on mode (pattern_match_inner image bindings (tree image row.b) mode ctx current els place) _ is_checked)

-- the invariant of the loop: the walk is at the pattern q and the place `here`, and what it promises from there is what it promises of p
pub record Descending (image : List ℕ) (mode : MatchingMode) (p : PatId) (place : Place) (v : List ℕ) (q : PatId) (here : Place) (v₁ : List ℕ) : Type 0 where
  pub below : q.0 ≤ p.0
  pub reached : Reached place here
  pub walks : (bindings : List ℕ) (c : Counts) (current : BasicBlockId) (els : OptBlock) (t : Body) {r : Lowered} {t₂ : Body} {v₂ : List ℕ} →
      Inner image bindings q mode c current els here t v₁ r t₂ v₂ → Inner image bindings p mode c current els place t v r t₂ v₂

-- it holds at the start
pub descending_begin : (image : List ℕ) (mode : MatchingMode) (p : PatId) (place : Place) (v : List ℕ) → Descending image mode p place v p place v
descending_begin image mode p place v = record { below = omega arith; reached = reached_refl place; walks = λ bindings c current els t W. W }

-- a turn: q is visited, and its derefs are appended
module _ {image : List ℕ} {mode : MatchingMode} {p : PatId} {place : Place} {v : List ℕ} {q : PatId} {here : Place} {v₁ : List ℕ} (D : Descending image mode p place v q here v₁)
    (row : PatRow) {v₂ : List ℕ} (b : Projected) (good : valid image ≡ true) (h : p.0 < pattern_count image) (same : row ≡ pat_at image q.0) (seen : v₂ ≡ visited_in v₁ q)
    (is : projected_result b ≡ derefs_of here row.derefs) where
  there : q.0 < pattern_count image
  there = omega (arith, D.below)

  -- there is no room for them
  pub enter_full : {to : Place} → b.ok ≡ false → Enters image mode p place v false q to v₂
  enter_full e = record {
    below = D.below;
    root = λ z. absurd (false≢true z);
    stops = λ z bindings c current els t. D.walks bindings c current els t (inner_stops image bindings q row mode c current els here t v₁ b good there same seen is e);
    goes = λ z. absurd (false≢true z);
  }

  module _ (e : b.ok ≡ true) where
    further : Reached place b.place
    further = reached_trans D.reached (derefs_reached here row.derefs b is e)

    -- q is where the walk goes on by the kind
    pub enter_at : Enters image mode p place v true q b.place v₂
    enter_at = record {
      below = D.below;
      root = λ z. (further.local, further.within);
      stops = λ z. absurd (true≢false z);
      goes = λ z read is_read bindings c current els t W.
          D.walks bindings c current els t (inner_goes image bindings q read mode c current els here t v₁ b good there is_read seen (rw (same ∙ sym is_read) at is) e W);
    }

    -- its subpattern is
    pub descending_again : passes_on mode row ≡ true → Descending image mode p place v (record { 0 = row.b }) b.place v₂ × (row.b < q.0)
    descending_again passes =
        let falls = subpattern_there row.b q.0 (bind_there image q.0 row good there same (passes_bind image mode q row passes)).1 (λ z. true≢false (sym (ap (λ (w : ℕ). eqb w 65535) z) ∙ has_subpattern image mode q row passes)) in (
          record {
            below = omega (arith, falls, D.below);
            reached = further;
            walks = λ bindings c current els t W.
                D.walks bindings c current els t
                (inner_goes image bindings q row mode c current els here t v₁ b good there same seen is e (walks_by (λ ctx. passed image mode q row passes bindings ctx current els b.place) W));
          },
          falls,
        )

-- the place behind derefs, and behind none
module _ (here : Place) (n : ℕ) {to : Place} where
  pub behind_derefs_lem : (b : Projected) → projected_result b ≡ derefs_of here n → b.ok ≡ true → to ≡ b.place → projected_result (record { ok = true; place = to }) ≡ derefs_of here n
  behind_derefs_lem b is e same = ap (λ (q : Place). projected_result (record { ok = true; place = q })) same ∙ derefs_done here n b is e

  pub behind_none : n ≡ 0 → to ≡ here → projected_result (record { ok = true; place = to }) ≡ derefs_of here n
  unfolding derefs_of
  behind_none e same = rw (e, same) refl

-- a pattern that was entered
module _ {image : List ℕ} {mode : MatchingMode} {p : PatId} {place : Place} {v : List ℕ} {room : Bool} {q : PatId} {to : Place} {v₁ : List ℕ} (E : Enters image mode p place v room q to v₁) where
  -- the one where the walk goes on is there
  pub entered_there : p.0 < pattern_count image → q.0 < pattern_count image
  entered_there h = omega (arith, E.below)

  module _ (e : room ≡ true) where
    entered_reaches : Reached place to
    entered_reaches = record { local = (E.root e).0; within = (E.root e).1 }

    -- where the walk may go on
    pub entered_walkable : {tables : Tables} {bindings : List ℕ} {t : Body} {c : Counts} {current : BasicBlockId} {els : OptBlock} → Walkable image tables bindings t c current els place →
        Walkable image tables bindings t c current els to
    entered_walkable W = walkable_at W entered_reaches

    -- it has no subpattern
    pub entered_leaf : (row : PatRow) → row ≡ pat_at image q.0 → (bindings : List ℕ) (c : Counts) (current : BasicBlockId) (els : OptBlock) (t : Body) {r : Lowered} {t₂ : Body} →
        is_leaf (pat_kind row.kind) (path_kind row.a) ≡ true → Lowers (λ ctx. leaf_pattern (pat_kind row.kind) image bindings q.0 row mode ctx current els to) c current els t r t₂ →
        Inner image bindings p mode c current els place t v r t₂ v₁
    entered_leaf row same bindings c current els t leaf L =
        E.goes e row same bindings c current els t
        (walks_by (λ ctx. sym (applied (leaf_by_kind (pat_kind row.kind) image bindings q.0 row leaf) mode ctx current els to)) (lowers_walks v₁ L))
