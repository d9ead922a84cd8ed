-- The locals of the bindings that are picked and have none, by the ways through the code. Assumes nothing.
use Rattle.std.specs.Prelude.{Some, None, Ok, Err}
use Prim.Native.Nat.{ℕ, suc, ◌+◌, ◌-◌, ◌<◌}
use mathlib.Core.Path.{◌≡◌, refl, sym, ap, ◌∙◌}
use mathlib.Core.Logic.{inl}
use mathlib.Core.List.{List}
use native.Mathlib.Omega.{arith}
use borrow.Author.Tests.{eq-eqb, ne_eqb}
use lib.ListN.{length, set, get_or}
use Rattle.refusals.specs.declared.MirLowerError.{MirLowerError}
use Rattle.refusals.specs.Refusals.{Result, done, and_then}
use Rattle.image.specs.declared.rows.BindingRow.{BindingRow}
use Rattle.image.specs.Rows.{binding_at}
use Rattle.image.specs.Tables.{binding_count}
use Rattle.image.specs.Types.{binding_of}
use Rattle.place.specs.declared.LocalId.{LocalId}
use Rattle.mir.specs.declared.Counts.{Counts}
use Rattle.mir.specs.Locals.{new_local, locals_after}
use Rattle.state.specs.Results.{Stepped}
use Rattle.state.specs.State.{Body, decode}
use Rattle.state.specs.Steps.{try_local}
use Rattle.state.proofs.Answering.{local_count, then, stops, no_step}
use Rattle.state.proofs.Calls.{local_number}
use Rattle.pattern_walk_spec.proofs.Following.{answers_by}
use Rattle.params_spec.specs.Params.{Declared, declare_binding, declare_bindings}
use Rattle.param_locals.specs.Declaring.{declared_of, Declares}
use Rattle.body_tables.specs.Layout.{with_locals}
use Rattle.body_tables.proofs.Building.{local_made}
use Rattle.param_lists.proofs.Listing.{word_within}
use Rattle.param_locals.proofs.Making.{declares_nothing, declares_by, declares_stops, declares_then}

-- a local of the type ty for the binding k
abbrev picks : ℕ → ℕ → Declared → Result Declared
picks k ty d = and_then (try_local d.state ty) (λ st. done (record { state = st; bindings = set d.bindings k (length d.state.locals) }))

-- `declare_binding`
module _ (image : List ℕ) (k : ℕ) (row : BindingRow) (same : row ≡ binding_at image k) where
  -- it is not picked
  pub not_picked : {c : Counts} {m : List ℕ} {b : Body} → (row.picked ≡ 1 → ⊥) → Declares (declare_binding image k) c m b (Ok c) m b
  unfolding declare_binding binding_of
  not_picked n = declares_by (λ d. rw (← same, ne_eqb row.picked 1 n)) declares_nothing

  module _ {c : Counts} {m : List ℕ} {b : Body} (within : k < length m) (picked : row.picked ≡ 1) where
    -- it has a local
    pub has_local_lem : (get_or m k 0 ≡ 65535 → ⊥) → Declares (declare_binding image k) c m b (Ok c) m b
    unfolding declare_binding binding_of
    has_local_lem n = record { answers = λ current R. rw (← same, eq-eqb row.picked 1 picked, word_within m k 65535 0 within, ne_eqb (get_or m k 0) 65535 n) (no_step (declared_of b c m) R) }

    module _ (none : get_or m k 0 ≡ 65535) {b₁ : Body} (after : b₁ ≡ with_locals b (locals_after c b.locals row.ty)) where
      by_local : {r : Stepped} {m₁ : List ℕ} → Declares (picks k row.ty) c m b r m₁ b₁ → Declares (declare_binding image k) c m b r m₁ b₁
      unfolding declare_binding binding_of
      by_local D = record { answers = λ current R. rw (← same, eq-eqb row.picked 1 picked, word_within m k 65535 0 within, eq-eqb (get_or m k 0) 65535 none) (D.answers current R) }

      -- there is no room for its local
      pub no_room : {m₁ : List ℕ} → None ≡ new_local c → Declares (declare_binding image k) c m b (Err MirLowerError.Limit) m₁ b₁
      no_room full =
          by_local (record { answers = λ current R. stops (λ st. done (record { state = st; bindings = set m k (length (decode b c).locals) })) (local_made b c current row.ty full after R) })

      -- it has a local now
      pub picked_now : {m₁ : List ℕ} {c₁ : Counts} {n : LocalId} → Some (c₁, n) ≡ new_local c → m₁ ≡ set m k n.0 → Declares (declare_binding image k) c m b (Ok c₁) m₁ b₁
      picked_now {m₁ = m₁} {c₁ = c₁} {n = n} is put =
          by_local
          (record {
            answers = λ current R.
                let F = local_made b c current row.ty is after R in
                let number : n.0 ≡ length (decode b c).locals = ap (λ (l : LocalId). l.0) (local_number c is) ∙ sym (local_count b c R) in
                let same : m₁ ≡ set m k (length (decode b c).locals) = put ∙ ap (set m k) number in
                then (λ st. done (record { state = st; bindings = set m k (length (decode b c).locals) })) F (inl refl)
                (answers_by (λ i. done (record { state = decode b₁ c₁; bindings = same i })) (no_step (declared_of b₁ c₁ m₁) F.goes.0));
          })

-- the invariant of the loop over the bindings: what those from k on come to from now is what all come to from the start
pub record BindingsGoing (image : List ℕ) (c₀ : Counts) (m₀ : List ℕ) (b₀ : Body) (c : Counts) (m : List ℕ) (b : Body) (k left : ℕ) : Type 0 where
  pub ends : k + left ≡ binding_count image
  pub words : length m ≡ binding_count image
  pub rest : {r : Stepped} {m' : List ℕ} {b' : Body} → Declares (declare_bindings image k left) c m b r m' b' → Declares (declare_bindings image 0 (binding_count image)) c₀ m₀ b₀ r m' b'

-- it holds at the start
pub bindings_begin : {image : List ℕ} {c : Counts} {m : List ℕ} (b : Body) {n : ℕ} → n ≡ binding_count image → length m ≡ binding_count image → BindingsGoing image c m b c m b 0 n
bindings_begin b is long = record { ends = omega arith; words = long; rest = λ {r} {m'} {b'} D. rw is at D }

module _ {image : List ℕ} {c₀ : Counts} {m₀ : List ℕ} {b₀ : Body} {c : Counts} {m : List ℕ} {b : Body} {k left : ℕ} (G : BindingsGoing image c₀ m₀ b₀ c m b k left) where
  -- after the loop
  pub bindings_end : left ≡ 0 → Declares (declare_bindings image 0 (binding_count image)) c₀ m₀ b₀ (Ok c) m b
  unfolding declare_bindings
  bindings_end none = G.rest (rw none declares_nothing)

  module _ (some : left ≡ 0 → ⊥) where
    -- the binding k is there
    pub binding_there : k < binding_count image
    binding_there = omega (arith, G.ends, some)

    -- the binding k, and then those behind it
    from_first : {r : Stepped} {m' : List ℕ} {b' : Body} → Declares (λ d. and_then (declare_binding image k d) (λ d₁. declare_bindings image (k + 1) (left - 1) d₁)) c m b r m' b' →
        Declares (declare_bindings image k left) c m b r m' b'
    unfolding declare_bindings
    from_first D =
        let more : left ≡ suc (left - 1) = omega (arith, some) in
        let first : (d : Declared) → and_then (declare_binding image k d) (λ d₁. declare_bindings image (k + 1) (left - 1) d₁) ≡ declare_bindings image k left d =
        λ d. ap (λ (n : ℕ). declare_bindings image k n d) (sym more)
        in
        declares_by first D

    -- the binding is refused
    pub binding_stops : {err : MirLowerError} {m₁ : List ℕ} {b₁ : Body} → Declares (declare_binding image k) c m b (Err err) m₁ b₁ →
        Declares (declare_bindings image 0 (binding_count image)) c₀ m₀ b₀ (Err err) m₁ b₁
    binding_stops D = G.rest (from_first (declares_stops (λ d₁. declare_bindings image (k + 1) (left - 1) d₁) D))

    -- one binding less
    pub bindings_again : {c₁ : Counts} {m₁ : List ℕ} {b₁ : Body} → length m₁ ≡ length m → Declares (declare_binding image k) c m b (Ok c₁) m₁ b₁ →
        BindingsGoing image c₀ m₀ b₀ c₁ m₁ b₁ (k + 1) (left - 1)
    bindings_again ms D =
        record {
          ends = omega (arith, G.ends, some);
          words = ms ∙ G.words;
          rest = λ S. G.rest (from_first (declares_then (λ d₁. declare_bindings image (k + 1) (left - 1) d₁) D S));
        }
