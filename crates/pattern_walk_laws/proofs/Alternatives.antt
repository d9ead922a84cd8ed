-- `alts`: a law for each way through it, and the invariant of its loop. Assumes nothing.
use Rattle.std.specs.Prelude.{Some, None, Ok, Err}
use mathlib.Core.Path.{◌≡◌, refl, sym, ap, ◌∙◌}
use mathlib.Core.Logic.{inl, inr}
use mathlib.Core.Option.{some}
use mathlib.Core.List.{List}
use Prim.Native.Nat.{ℕ, ◌+◌, ◌*◌, ◌-◌, ◌≤◌, ◌<◌}
use native.Mathlib.Nat.{le_refl, le_trans}
use native.Mathlib.Omega.{arith}
use Rattle.refusals.specs.declared.MirLowerError.{MirLowerError}
use Rattle.refusals.specs.Refusals.{Result}
use Rattle.refusals.specs.Refusals.{done}
use Rattle.image.specs.declared.PatId.{PatId}
use Rattle.image.specs.declared.Tables.{Tables}
use Rattle.image.specs.Rows.{list_at}
use Rattle.image.specs.Tree.{tree}
use Rattle.row_tables.specs.Rows.{stored}
use Rattle.place.specs.declared.Place.{Place}
use Rattle.mir.specs.declared.BasicBlockId.{BasicBlockId}
use Rattle.mir.specs.declared.Counts.{Counts}
use Rattle.mir.specs.declared.blocks.Terminator.{Terminator}
use Rattle.mir.specs.Blocks.{term_row, new_block, block_width}
use Rattle.state.specs.State.{Body, State, decode}
use Rattle.state.specs.Steps.{next_block}
use Rattle.state.specs.Promises.{Ready, Grown, Own, Kept, Answers}
use Rattle.state.proofs.Answering.{kept_trans, next_block_lem}
use Rattle.body_tables.specs.Layout.{with_blocks}
use Rattle.body_tables.proofs.Building as building
use Rattle.body_tables.proofs.Building.{terminator_set}
use Rattle.lower_spec.specs.Results.{OptBlock}
use Rattle.lower_spec.specs.Merging.{set_goto}
use Rattle.pattern_matching.specs.declared.MatchingMode.{MatchingMode}
use Rattle.pattern_matching.specs.Walking.{Ctx, Out, Walk, refused, next, step, out, with_state}
use Rattle.pattern_matching.specs.Patterns.{alternative, or_pattern, pattern_match_inner}
use Rattle.pattern_walk_spec.specs.Results.{Lowered}
use Rattle.pattern_walk_spec.specs.Answers.{Begins, ctx_of, lowered_counts, OwnElse, OnwardBy, Walks, JoinedBy, Ends}
use Rattle.pattern_walk_spec.proofs.Following.{goes_on_lem, step_then, step_stops, answers_by, next_stops, own_else_trans, onward_refl, begins_grown, block_made, block_onward}
use Rattle.pattern_walk_spec.proofs.Sequences.{grown_after, placed_after}
use Rattle.pattern_nodes.specs.Arguments.{lowered}
use Rattle.pattern_nodes.specs.Modes.{alternatives_left}
use Rattle.pattern_nodes.specs.Nodes.{alternatives_from}
use Rattle.pattern_nodes.proofs.Alternatives.{after_alternative, alternatives_start, alternatives_none, alternatives_more, or_by_rows}
use Rattle.pattern_walk_laws.specs.Walk.{Walkable, Joins}

-- the same of alternatives by another definition
joins_by : {defined defined₁ : Ctx → Walk Out} {c : Counts} {current join : BasicBlockId} {els : OptBlock} {t₀ t : Body} {v₀ v : List ℕ} {r : Lowered} → ((ctx : Ctx) → defined ctx ≡ defined₁ ctx) →
    Joins defined c current join els t₀ v₀ r t v → Joins defined₁ c current join els t₀ v₀ r t v
joins_by same S = record {
  answers = λ visits R H. let F = S.answers visits R H in record { visits' = F.visits'; holds = F.holds; answers = answers_by (same _) F.answers };
  leaves = S.leaves;
  onward = S.onward;
}

-- where they go on, after more blocks
joined_by : (c c₁ : Counts) (join : BasicBlockId) (els : OptBlock) (r : Lowered) → Grown c c₁ → OwnElse c els els → JoinedBy c₁ join els r → JoinedBy c join els r
joined_by c c₁ join els (Ok (c₂, then, els₂)) G own S = record { at = S.at; own_else = own_else_trans c c₁ els els els₂ G own S.own_else; begins = S.begins }
joined_by c c₁ join els (Err (e, p)) G own S = tt

module _ (image bindings : List ℕ) (p : PatId) (from count : ℕ) (mode : MatchingMode) (join : BasicBlockId) (els : OptBlock) (place : Place) where
  -- what is to be done from the alternative i on
  abbrev pub alternatives_go : ℕ → BasicBlockId → Ctx → Walk Out
  alternatives_go i here ctx = alternatives_from image bindings p.0 (from + i) (count - i) mode ctx join here els place

  -- behind the alternative i
  abbrev behind_alternative : ℕ → Out → Walk Out
  behind_alternative i r =
      after_alternative r.else (with_state r.ctx (set_goto r.ctx.state r.then join)) join els (λ b.
      alternatives_from image bindings p.0 (from + (i + 1)) (count - (i + 1)) mode (with_state r.ctx (set_goto r.ctx.state r.then join)) join b els place)

  module _ (i : ℕ) (c : Counts) (here : BasicBlockId) (t : Body) (v : List ℕ) where
    -- what the rest promises
    abbrev pub Rest : Lowered → Body → List ℕ → Type 0
    Rest = Joins (alternatives_go i here) c here join els t v

    -- no alternative is left: by what `alternatives_end` promises
    pub alternatives_over : {r : Lowered} {t₁ : Body} → count ≤ i → Ends (λ ctx. alternatives_left p.0 mode ctx here join els) c here join els t r t₁ → Rest r t₁ v
    alternatives_over h F = record {
      answers = λ visits R H.
          record { visits' = visits; holds = H; answers = answers_by (sym (alternatives_none image bindings p.0 mode join here els place from count i h _)) (F.answers visits R) };
      leaves = λ P. let A = F.answers v P in (A.goes, A.kept);
      onward = F.onward;
    }

    -- the alternative i, which is the pattern q
    module _ (h : i < count) (q : PatId) (names : q.0 ≡ list_at image (from + i)) where
      -- it, and what is behind it
      alternative_as : (ctx : Ctx) → next (alternative (pattern_match_inner image bindings (tree image q.0)) mode ctx here place) (behind_alternative i) ≡ alternatives_go i here ctx
      alternative_as ctx =
          ap (λ (n : ℕ). next (alternative (pattern_match_inner image bindings (tree image n)) mode ctx here place) (behind_alternative i)) names
          ∙ sym (alternatives_more image bindings p.0 mode join here els place from count i h ctx)

      -- it is refused
      pub alternatives_stop : {x : MirLowerError} {at : PatId} {t₁ : Body} {v₁ : List ℕ} →
          Walks (λ ctx. alternative (pattern_match_inner image bindings (tree image q.0)) mode ctx here place) c here None t v (Err (x, at)) t₁ v₁ → Rest (Err (x, at)) t₁ v₁
      alternatives_stop W = joins_by alternative_as (record {
        answers = λ visits R H. let F = W.answers visits R H in record { visits' = F.visits'; holds = F.holds; answers = next_stops (behind_alternative i) F.answers };
        leaves = W.leaves;
        onward = tt;
      })

      -- where it matched it goes on at `join`
      module _ {c₁ : Counts} {then : BasicBlockId} {other : OptBlock} {t₁ t₂ : Body} {v₁ : List ℕ}
          (W : Walks (λ ctx. alternative (pattern_match_inner image bindings (tree image q.0)) mode ctx here place) c here None t v (Ok (c₁, then, other)) t₁ v₁)
          (set : t₂ ≡ with_blocks t₁ (stored t₁.blocks (block_width * then.0) (term_row (Terminator.Goto join)))) where
        goto_answers : Ready t₁ c₁ →
            Answers t₁ c₁ then.0 t₂ (some c₁) (done (decode t₂ c₁)) (done (set_goto (decode t₁ c₁) then join))
        goto_answers R = terminator_set t₁ c₁ then (Terminator.Goto join) set W.onward.begins.start R

        -- what is left in the tables then
        goto_leaves : Ready t c → (Ready t₂ c₁ × Grown c c₁) × Kept c here.0 t t₂
        goto_leaves P =
            let A = W.leaves P in
            let S = goto_answers A.0.0 in
            ((S.goes.0, A.0.1), kept_trans A.1 A.0.1 W.onward.own S.kept)

      -- it cannot fail, and is the last
      pub alternatives_sure : {c₁ : Counts} {then : BasicBlockId} {t₁ t₂ : Body} {v₁ : List ℕ} → Begins c here els → join.0 < c.blocks → Ready t c →
          Walks (λ ctx. alternative (pattern_match_inner image bindings (tree image q.0)) mode ctx here place) c here None t v (Ok (c₁, then, None)) t₁ v₁ →
          t₂ ≡ with_blocks t₁ (stored t₁.blocks (block_width * then.0) (term_row (Terminator.Goto join))) → Rest (Ok (c₁, join, els)) t₂ v₁
      alternatives_sure {c₁ = c₁} B inside P W set = joins_by alternative_as (record {
        answers = λ visits R H.
            let F = W.answers visits R H in
            let S = goto_answers W set F.answers.goes.0 in
            record {
              visits' = F.visits';
              holds = F.holds;
              answers = record {
                says = ap (λ (r : Result State). step p.0 r (λ st. out (record { state = st; visits = F.visits' }) join els)) S.says ∙ ap (λ (r : Walk Out). next r (behind_alternative i)) F.answers.says;
                goes = (S.goes.0, F.answers.goes.1);
                kept = kept_trans F.answers.kept F.answers.goes.1 W.onward.own S.kept;
              };
            };
        leaves = goto_leaves W set;
        onward =
            let G = grown_after W P in
            record { at = refl; own_else = (onward_refl B).own_else; begins = record { start = le_trans inside G.blocks; else = (begins_grown G B).else } };
      })

      -- the others start where it does not match
      pub alternatives_next : {c₁ : Counts} {then on : BasicBlockId} {t₁ t₂ : Body} {v₁ : List ℕ} → Begins c here els → Ready t c →
          Walks (λ ctx. alternative (pattern_match_inner image bindings (tree image q.0)) mode ctx here place) c here None t v (Ok (c₁, then, Some on)) t₁ v₁ →
          t₂ ≡ with_blocks t₁ (stored t₁.blocks (block_width * then.0) (term_row (Terminator.Goto join))) →
          {r : Lowered} {t₃ : Body} {v₂ : List ℕ} → Joins (alternatives_go (i + 1) on) c₁ on join els t₂ v₁ r t₃ v₂ → Rest r t₃ v₂
      alternatives_next {c₁ = c₁} {on = on} B P W set {r = r} {t₃ = t₃} N = joins_by alternative_as (record {
        answers = λ visits R H.
            let F = W.answers visits R H in
            let S = goto_answers W set F.answers.goes.0 in
            let L = N.answers F.visits' S.goes.0 F.holds in
            record {
              visits' = L.visits';
              holds = L.holds;
              answers = record {
                says = L.answers.says
                    ∙ ap (λ (r : Result State). step p.0 r (λ st. alternatives_go (i + 1) on (record { state = st; visits = F.visits' }))) S.says
                    ∙ ap (λ (r : Walk Out). next r (behind_alternative i)) F.answers.says;
                goes = goes_on_lem t₃ (lowered_counts r) F.answers.goes.1 L.answers.goes;
                kept = kept_trans (kept_trans F.answers.kept F.answers.goes.1 W.onward.own S.kept) F.answers.goes.1 (own_next W.onward.own_else) L.answers.kept;
              };
            };
        leaves = λ Q.
            let A = goto_leaves W set Q in
            let L = N.leaves A.0.0 in
            (goes_on_lem t₃ (lowered_counts r) A.0.1 L.0, kept_trans A.1 A.0.1 (own_next W.onward.own_else) L.1);
        onward = joined_by c c₁ join els r (grown_after W P) (onward_refl B).own_else N.onward;
      })
        where
          own_next : OwnElse c None (Some on) → Own c here.0 on.0
          own_next (inl same) = let z : ◌≡◌ {A = ℕ} 0 1 = cc in absurd (omega arith)
          own_next (inr new) = inr new

-- the invariant of the loop: the walk may go on from where it is now, and what the rest promises from there is what the whole promises from where it began
pub record AlternativesGoing (image : List ℕ) (tables : Tables) (bindings : List ℕ) (p : PatId) (from count : ℕ) (mode : MatchingMode) (join : BasicBlockId) (els : OptBlock) (place : Place)
    (c₀ : Counts) (b₀ : BasicBlockId) (t₀ : Body) (v₀ : List ℕ) (c : Counts) (here : BasicBlockId) (t : Body) (v : List ℕ) (i : ℕ) : Type 0 where
  pub walkable : Walkable image tables bindings t c here els place
  pub inside : join.0 < c.blocks
  pub rest : {r : Lowered} {t₁ : Body} {v₁ : List ℕ} → Joins (alternatives_go image bindings p from count mode join els place i here) c here join els t v r t₁ v₁ →
      Joins (λ ctx. alternatives_from image bindings p.0 from count mode ctx join b₀ els place) c₀ b₀ join els t₀ v₀ r t₁ v₁

-- it holds at the start
pub alternatives_begin : (image : List ℕ) (tables : Tables) (bindings : List ℕ) (p : PatId) (from count : ℕ) (mode : MatchingMode) (join : BasicBlockId) (els : OptBlock) (place : Place)
    (c : Counts) (here : BasicBlockId) (t : Body) (v : List ℕ) → Walkable image tables bindings t c here els place → join.0 < c.blocks →
    AlternativesGoing image tables bindings p from count mode join els place c here t v c here t v 0
alternatives_begin image tables bindings p from count mode join els place c here t v W inside = record {
  walkable = W;
  inside = inside;
  rest = λ S. joins_by (λ ctx. sym (alternatives_start image bindings p.0 mode join here els place from count ctx)) S;
}

module _ {image : List ℕ} {tables : Tables} {bindings : List ℕ} {p : PatId} {from count : ℕ} {mode : MatchingMode} {join : BasicBlockId} {els : OptBlock} {place : Place} {c₀ : Counts} {b₀ : BasicBlockId} {t₀ : Body} {v₀ : List ℕ}
    {c : Counts} {here : BasicBlockId} {t : Body} {v : List ℕ} {i : ℕ} (G : AlternativesGoing image tables bindings p from count mode join els place c₀ b₀ t₀ v₀ c here t v i)
    (h : i < count) (q : PatId) (names : q.0 ≡ list_at image (from + i)) {c₁ : Counts} {then on : BasicBlockId} {t₁ t₂ : Body} {v₁ : List ℕ} where
  -- and after one more alternative
  pub alternatives_again :
      Walks (λ ctx. alternative (pattern_match_inner image bindings (tree image q.0)) mode ctx here place) c here None t v (Ok (c₁, then, Some on)) t₁ v₁ →
      t₂ ≡ with_blocks t₁ (stored t₁.blocks (block_width * then.0) (term_row (Terminator.Goto join))) →
      AlternativesGoing image tables bindings p from count mode join els place c₀ b₀ t₀ v₀ c₁ on t₂ v₁ (i + 1)
  alternatives_again W set =
      let K = G.walkable in
      let more = grown_after W K.ready in
      record {
        walkable = record {
          image_valid = K.image_valid;
          whole = K.whole;
          locals_of_bindings = K.locals_of_bindings;
          ready = (goto_leaves image bindings p from count mode join els place i c here t v h q names W set K.ready).0.0;
          begins = record { start = W.onward.begins.else; else = (begins_grown more K.begins).else };
          placed = let Q = placed_after W K.ready K.placed in record { root = Q.root; named = rw set Q.named; within = Q.within };
        };
        inside = le_trans G.inside more.blocks;
        rest = λ S. G.rest (alternatives_next image bindings p from count mode join els place i c here t v h q names K.begins K.ready W set S);
      }

-- where the loop begins and ends: the block that all alternatives go on at is made first
module _ (image bindings : List ℕ) (p : PatId) (from count : ℕ) (mode : MatchingMode) (c : Counts) (current : BasicBlockId) (els : OptBlock) (place : Place) (t : Body) (v : List ℕ) where
  -- what it promises
  abbrev Or : Lowered → Body → List ℕ → Type 0
  Or = Walks (λ ctx. or_pattern p.0 (lowered image bindings from count) mode ctx current els place) c current els t v

  -- there is no room for a new block
  pub or_full : None ≡ new_block c → Or (Err (MirLowerError.Limit, p)) t v
  or_full is = record {
    answers = λ visits R H. record {
      visits' = visits;
      holds = H;
      answers = answers_by (sym (or_by_rows image bindings p.0 from count mode _ current els place))
          (step_stops p.0 _ (building.block_made t c current.0 is R));
    };
    leaves = λ P. (tt, (building.block_made t c current.0 is P).kept);
    onward = tt;
  }

  -- what matches goes on at it
  pub or_goes : {c₁ : Counts} {join : BasicBlockId} {r : Lowered} {t₁ : Body} {v₁ : List ℕ} → Begins c current els → Some (c₁, join) ≡ new_block c →
      Joins (λ ctx. alternatives_from image bindings p.0 from count mode ctx join current els place) c₁ current join els t v r t₁ v₁ → Or r t₁ v₁
  or_goes {c₁ = c₁} {join = join} {r = r} {t₁ = t₁} B is S = record {
    answers = λ visits R H.
        let N = building.block_made t c current.0 is R in
        let F = S.answers visits N.goes.0 H in
        let at : join ≡ next_block (decode t c) = (block_made c is).1 ∙ next_block_lem t c in
        record {
          visits' = F.visits';
          holds = F.holds;
          answers = answers_by (sym (or_by_rows image bindings p.0 from count mode _ current els place))
              (step_then p.0 _ N (inl refl)
              (answers_by (ap (λ (b : BasicBlockId). alternatives_from image bindings p.0 from count mode (ctx_of t c₁ visits) b current els place) at) F.answers));
        };
    leaves = λ P.
        let N = building.block_made t c current.0 is P in
        let L = S.leaves N.goes.0 in
        (goes_on_lem t₁ (lowered_counts r) N.goes.1 L.0, kept_trans N.kept N.goes.1 (inl refl) L.1);
    onward = joined r S.onward;
  }
    where
      more : Grown c c₁
      more = (block_onward c is B).0

      joined : (r : Lowered) → JoinedBy c₁ join els r → OnwardBy c current els r
      joined (Ok (c₂, then, els₂)) D =
          record { own = inr (rw (D.at, (block_made c is).1) (le_refl c.blocks)); own_else = own_else_trans c c₁ els els els₂ more (onward_refl B).own_else D.own_else; begins = D.begins }
      joined (Err (e, at)) D = tt
