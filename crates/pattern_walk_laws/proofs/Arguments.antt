-- `pattern_match_adt`: a law for each way through it, and the invariant of its loop. Assumes nothing.
use Rattle.std.specs.Prelude.{Ok, Err}
use mathlib.Core.Path.{◌≡◌, refl, sym, ap, ◌∙◌}
use mathlib.Core.Bool.{true}
use mathlib.Core.List.{List}
use Prim.Native.Nat.{ℕ, ◌+◌, ◌-◌, ◌≤◌, ◌<◌}
use borrow.Author.Tests.{lt-ltb, le-ltb}
use lib.ListN.{length}
use Rattle.refusals.specs.declared.MirLowerError.{MirLowerError}
use Rattle.refusals.specs.Refusals.{done, stopped}
use Rattle.image.specs.declared.PatId.{PatId}
use Rattle.image.specs.declared.Tables.{Tables}
use Rattle.image.specs.Tree.{tree}
use Rattle.place.specs.declared.Place.{Place}
use Rattle.place.specs.declared.Projected.{Projected}
use Rattle.place.specs.declared.elems.ProjectionElem.{ProjectionElem}
use Rattle.place.specs.Elems.{Fits}
use Rattle.place.specs.Places.{onward, Projects}
use Rattle.mir.specs.declared.BasicBlockId.{BasicBlockId}
use Rattle.mir.specs.declared.Counts.{Counts}
use Rattle.lower_spec.specs.Results.{OptBlock}
use Rattle.pattern_matching.specs.declared.MatchingMode.{MatchingMode}
use Rattle.pattern_matching.specs.Walking.{Ctx, Out, Walk, next, step, project}
use Rattle.pattern_matching.specs.Patterns.{pattern_match_inner}
use Rattle.pattern_walk_spec.specs.Results.{Lowered}
use Rattle.pattern_walk_spec.specs.Answers.{Begins, Walks}
use Rattle.pattern_walk_spec.proofs.Sequences.{walks_by, walks_stops, walks_then}
use Rattle.pattern_rows.specs.declared.ArgumentRow.{ArgumentRow}
use Rattle.pattern_rows.specs.Rows.{argument_elem, argument_pat}
use Rattle.pattern_nodes.proofs.Nodes.{applied}
use Rattle.pattern_nodes.proofs.Arguments.{arguments_from, arguments_start, arguments_none, arguments_more}
use Rattle.pattern_walk_laws.specs.Walk.{Walkable}
use Rattle.pattern_walk_laws.proofs.Asking.{walkable_after}
use Rattle.pattern_walk_laws.proofs.Looking.{walks_skips, looks_stops, looks_then}
use Rattle.state.specs.State.{Body}
use Rattle.state.specs.Promises.{Ready}

module _ (row : ArgumentRow) (image bindings : List ℕ) (p : PatId) (from fields count : ℕ) (mode : MatchingMode) (place : Place) where
  -- what is to be done from the argument i on
  abbrev pub arguments_left : ℕ → BasicBlockId → OptBlock → Ctx → Walk Out
  arguments_left i here other ctx = arguments_from row image bindings p.0 from fields i (count - i) mode ctx here other place

  module _ (i : ℕ) (c : Counts) (here : BasicBlockId) (other : OptBlock) (t : Body) (v : List ℕ) where
    -- no argument is left
    pub arguments_end : count ≤ i → Begins c here other → Walks (arguments_left i here other) c here other t v (Ok (c, here, other)) t v
    arguments_end h B = walks_skips (λ ctx. sym (applied (arguments_none row image bindings p.0 from fields count i h) mode ctx here other place)) B

    -- the argument i, which is the pattern q, on the place `to`
    module _ (h : i < count) {elem : ProjectionElem} (is : elem ≡ argument_elem row image from fields i) where
      -- it, and then the rest
      abbrev argument : Place → Ctx → Walk Out
      argument to ctx =
          next (pattern_match_inner image bindings (tree image (argument_pat row image from i)) mode ctx here other to) (λ r.
          arguments_from row image bindings p.0 from fields (i + 1) (count - (i + 1)) mode r.ctx r.then r.else place)

      argument_looks : (ctx : Ctx) → arguments_left i here other ctx ≡ step p.0 (project place elem) (λ to. argument to ctx)
      argument_looks ctx =
          applied (arguments_more row image bindings p.0 from fields count i h) mode ctx here other place
          ∙ ap (λ (e : ProjectionElem). step p.0 (project place e) (λ to. argument to ctx)) (sym is)

      -- there is no room for the element
      pub argument_full : stopped MirLowerError.Limit ≡ project place elem → Walks (arguments_left i here other) c here other t v (Err (MirLowerError.Limit, p)) t v
      argument_full full = looks_stops p (λ ctx. project place elem) argument argument_looks (λ visits. full)

      module _ {to : Place} (there : done to ≡ project place elem) (q : PatId) (names : q.0 ≡ argument_pat row image from i) where
        argument_walks : {r : Lowered} {t₁ : Body} {v₁ : List ℕ} → Walks (argument to) c here other t v r t₁ v₁ → Walks (arguments_left i here other) c here other t v r t₁ v₁
        argument_walks W = looks_then p (λ ctx. project place elem) argument argument_looks (λ visits. there) W

        -- its answer by the pattern's number
        argument_named : {r : Lowered} {t₁ : Body} {v₁ : List ℕ} → Walks (λ ctx. pattern_match_inner image bindings (tree image q.0) mode ctx here other to) c here other t v r t₁ v₁ →
            Walks (λ ctx. pattern_match_inner image bindings (tree image (argument_pat row image from i)) mode ctx here other to) c here other t v r t₁ v₁
        argument_named W = walks_by (λ ctx. ap (λ (n : ℕ). pattern_match_inner image bindings (tree image n) mode ctx here other to) names) W

        -- it is refused
        pub argument_stops : {x : MirLowerError} {at : PatId} {t₁ : Body} {v₁ : List ℕ} →
            Walks (λ ctx. pattern_match_inner image bindings (tree image q.0) mode ctx here other to) c here other t v (Err (x, at)) t₁ v₁ →
            Walks (arguments_left i here other) c here other t v (Err (x, at)) t₁ v₁
        argument_stops W =
            argument_walks (walks_stops (λ r. arguments_from row image bindings p.0 from fields (i + 1) (count - (i + 1)) mode r.ctx r.then r.else place) (argument_named W))

        -- the rest behind it
        pub argument_goes : {c₁ : Counts} {then : BasicBlockId} {els : OptBlock} {t₁ : Body} {v₁ : List ℕ} → Ready t c →
            Walks (λ ctx. pattern_match_inner image bindings (tree image q.0) mode ctx here other to) c here other t v (Ok (c₁, then, els)) t₁ v₁ →
            {r : Lowered} {t₂ : Body} {v₂ : List ℕ} → Walks (arguments_left (i + 1) then els) c₁ then els t₁ v₁ r t₂ v₂ →
            Walks (arguments_left i here other) c here other t v r t₂ v₂
        argument_goes R W S =
            argument_walks (walks_then (argument_named W) R (λ r. arguments_from row image bindings p.0 from fields (i + 1) (count - (i + 1)) mode r.ctx r.then r.else place) S)

-- one element on: there is no room for it, or there is
module _ (place : Place) (elem : ProjectionElem) where
  pub no_room : 16 ≤ place.len → stopped MirLowerError.Limit ≡ project place elem
  unfolding project
  no_room h = rw (le-ltb place.len 16 h) refl

  pub some_room : place.len < 16 → done (onward place elem) ≡ project place elem
  unfolding project
  some_room h = rw (lt-ltb place.len 16 h) refl

  -- as it was projected
  pub room_taken : {on : Projected} → Projects place elem on → place.len < 16 → on.ok ≡ true
  room_taken P h = P.room ∙ lt-ltb place.len 16 h

-- the element of an argument has a word
pub argument_fits : (row : ArgumentRow) (image : List ℕ) (from fields i : ℕ) {elem : ProjectionElem} → elem ≡ argument_elem row image from fields i → Fits elem
unfolding argument_elem
argument_fits ArgumentRow.Fields image from fields i e = rw e tt
argument_fits ArgumentRow.LastFields image from fields i e = rw e tt
argument_fits ArgumentRow.RecordFields image from fields i e = rw e tt
argument_fits ArgumentRow.Items image from fields i e = rw e tt
argument_fits ArgumentRow.LastItems image from fields i e = rw e tt

-- the invariant of the loop: the walk may go on from where it is now, and what the rest promises from there is what the whole promises from where it began
pub record ArgumentsGoing (row : ArgumentRow) (image : List ℕ) (tables : Tables) (bindings : List ℕ) (p : PatId) (from fields count : ℕ) (mode : MatchingMode) (place : Place)
    (c₀ : Counts) (b₀ : BasicBlockId) (e₀ : OptBlock) (t₀ : Body) (v₀ : List ℕ) (c : Counts) (here : BasicBlockId) (other : OptBlock) (t : Body) (v : List ℕ) (i : ℕ) : Type 0 where
  pub walkable : Walkable image tables bindings t c here other place
  pub rest : {r : Lowered} {t₁ : Body} {v₁ : List ℕ} → Walks (arguments_left row image bindings p from fields count mode place i here other) c here other t v r t₁ v₁ →
      Walks (λ ctx. arguments_from row image bindings p.0 from fields 0 count mode ctx b₀ e₀ place) c₀ b₀ e₀ t₀ v₀ r t₁ v₁

-- it holds at the start
pub arguments_begin : (row : ArgumentRow) (image : List ℕ) (tables : Tables) (bindings : List ℕ) (p : PatId) (from fields count : ℕ) (mode : MatchingMode) (place : Place)
    (c : Counts) (here : BasicBlockId) (other : OptBlock) (t : Body) (v : List ℕ) → Walkable image tables bindings t c here other place →
    ArgumentsGoing row image tables bindings p from fields count mode place c here other t v c here other t v 0
arguments_begin row image tables bindings p from fields count mode place c here other t v W = record {
  walkable = W;
  rest = λ S. walks_by (λ ctx. sym (applied (arguments_start row image bindings p.0 from fields count) mode ctx here other place)) S;
}

-- and after one more argument
module _ {row : ArgumentRow} {image : List ℕ} {tables : Tables} {bindings : List ℕ} {p : PatId} {from fields count : ℕ} {mode : MatchingMode} {place : Place} {c₀ : Counts} {b₀ : BasicBlockId} {e₀ : OptBlock} {t₀ : Body} {v₀ : List ℕ}
    {c : Counts} {here : BasicBlockId} {other : OptBlock} {t : Body} {v : List ℕ} {i : ℕ}
    (G : ArgumentsGoing row image tables bindings p from fields count mode place c₀ b₀ e₀ t₀ v₀ c here other t v i) where
  pub arguments_again : (h : i < count) {elem : ProjectionElem} → elem ≡ argument_elem row image from fields i → {to : Place} → done to ≡ project place elem →
      (q : PatId) → q.0 ≡ argument_pat row image from i → {c₁ : Counts} {then : BasicBlockId} {els : OptBlock} {t₁ : Body} {v₁ : List ℕ} →
      Walks (λ ctx. pattern_match_inner image bindings (tree image q.0) mode ctx here other to) c here other t v (Ok (c₁, then, els)) t₁ v₁ →
      ArgumentsGoing row image tables bindings p from fields count mode place c₀ b₀ e₀ t₀ v₀ c₁ then els t₁ v₁ (i + 1)
  arguments_again h is there q names W = record {
    walkable = walkable_after G.walkable W;
    rest = λ S. G.rest (argument_goes row image bindings p from fields count mode place i c here other t v h is there q names G.walkable.ready W S);
  }
