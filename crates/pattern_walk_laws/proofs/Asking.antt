-- What the functions of the walk ask for: after a call, at a place that was reached, with another else, and what they ask of what they call. Assumes nothing.
use Rattle.std.specs.Prelude.{Some, None, Ok}
use mathlib.Core.Path.{◌≡◌, ◌∙◌}
use mathlib.Core.Bool.{true}
use mathlib.Core.List.{List, []}
use Prim.Native.Nat.{ℕ, ◌≤◌, ◌<◌}
use native.Mathlib.Nat.{le_trans}
use native.Mathlib.Omega.{arith}
use lib.ListN.{length, get_or}
use Rattle.image.specs.declared.Tables.{Tables}
use Rattle.image.specs.Tables.{Whole, variant_count, pattern_count, binding_count, list_count}
use Rattle.image.specs.Valid.{valid}
use Rattle.place.specs.declared.Place.{Place}
use Rattle.place.specs.PlaceTypes.{Named}
use Rattle.mir.specs.declared.BasicBlockId.{BasicBlockId}
use Rattle.mir.specs.declared.Counts.{Counts}
use Rattle.mir.specs.Blocks.{new_block}
use Rattle.mir.specs.Locals.{local_ty}
use Rattle.body_tables.proofs.Building.{block_made}
use Rattle.lower_spec.specs.Results.{OptBlock}
use Rattle.pattern_matching.specs.Walking.{Ctx, Out, Walk}
use Rattle.pattern_walk_spec.specs.Answers.{Begins, Lowers, Walks}
use Rattle.pattern_walk_spec.proofs.Following.{begins_grown, block_onward}
use Rattle.pattern_walk_spec.proofs.Sequences.{lowers_walks, ready_after, placed_after}
use Rattle.pattern_entering.proofs.Visiting.{Reached, reached_placed}
use Rattle.pattern_nodes.specs.Arguments.{RestThere}
use Rattle.pattern_nodes.proofs.Known.{limits}
use Rattle.pattern_walk_laws.specs.Walk.{Walkable}
use Rattle.state.specs.State.{Body}
use Rattle.state.specs.Promises.{Ready}

module _ {image : List ℕ} {tables : Tables} {bindings : List ℕ} {t : Body} {c : Counts} {current : BasicBlockId} {els : OptBlock} {place : Place} (W : Walkable image tables bindings t c current els place) where
  -- where a part goes on
  pub walkable_after : {defined : Ctx → Walk Out} {c₁ : Counts} {then : BasicBlockId} {other : OptBlock} {t₁ : Body} {v v₁ : List ℕ} →
      Walks defined c current els t v (Ok (c₁, then, other)) t₁ v₁ → Walkable image tables bindings t₁ c₁ then other place
  walkable_after F = record {
    image_valid = W.image_valid;
    whole = W.whole;
    locals_of_bindings = W.locals_of_bindings;
    ready = ready_after F W.ready;
    begins = F.onward.begins;
    placed = placed_after F W.ready W.placed;
  }

  -- where one that visits no pattern does
  pub walkable_behind : {defined : Ctx → Walk Out} {c₁ : Counts} {then : BasicBlockId} {other : OptBlock} {t₁ : Body} →
      Lowers defined c current els t (Ok (c₁, then, other)) t₁ → Walkable image tables bindings t₁ c₁ then other place
  walkable_behind F = walkable_after (lowers_walks [] F)

  -- at a place that was reached
  pub walkable_at : {to : Place} → Reached place to → Walkable image tables bindings t c current els to
  walkable_at R = record {
    image_valid = W.image_valid;
    whole = W.whole;
    locals_of_bindings = W.locals_of_bindings;
    ready = W.ready;
    begins = W.begins;
    placed = reached_placed R W.placed;
  }

  -- without an else
  pub walkable_sure : Walkable image tables bindings t c current None place
  walkable_sure = record {
    image_valid = W.image_valid;
    whole = W.whole;
    locals_of_bindings = W.locals_of_bindings;
    ready = W.ready;
    begins = record { start = W.begins.start; else = tt };
    placed = W.placed;
  }

  -- with one block more
  pub walkable_block : {c₁ : Counts} {m : BasicBlockId} → Some (c₁, m) ≡ new_block c → Walkable image tables bindings t c₁ current els place × (m.0 < c₁.blocks)
  walkable_block is =
      let more = block_onward c is W.begins in (
        record {
          image_valid = W.image_valid;
          whole = W.whole;
          locals_of_bindings = W.locals_of_bindings;
          ready = (block_made t c current.0 is W.ready).goes.0;
          begins = begins_grown more.0 W.begins;
          placed = record { root = le_trans W.placed.root more.0.locals; named = W.placed.named; within = W.placed.within };
        },
        more.1.begins.start,
      )

  -- what `place_ty` asks for
  pub asks_type : ((valid image ≡ true) × Whole image tables × (place.local.0 < 512) × (place.len ≤ 16)) × Named image (local_ty (get_or t.locals place.local.0 0))
  asks_type = ((W.image_valid, W.whole, le_trans W.placed.root W.ready.local_count, W.placed.within), W.placed.named)

  -- what `visit`, and reading a row, a variant or a word of the list ask for
  pub asks_visit : {p : ℕ} → p < pattern_count image → p < 512
  asks_visit h = omega (arith, h, (limits image W.image_valid).patterns)

  pub asks_row : {p : ℕ} → p < pattern_count image → Whole image tables × (p < tables.patterns.count)
  asks_row h = (W.whole, rw W.whole.pattern_count_lem h)

  pub asks_variant : {w : ℕ} → w < variant_count image → Whole image tables × (w < tables.variants.count)
  asks_variant h = (W.whole, rw W.whole.variant_count_lem h)

  pub asks_word : {i : ℕ} → i < list_count image → Whole image tables × (i < tables.list.count)
  asks_word h = (W.whole, rw W.whole.list_count_lem h)

  -- what `set_goto` asks for
  pub asks_goto : current.0 < 512
  asks_goto = le_trans W.begins.start W.ready.block_count_lem

  -- what `bind` asks for, of a binding that is there
  pub asks_bind : {b : ℕ} → b < binding_count image → (b < length bindings) × Ready t c × Begins c current els
  asks_bind h = (rw W.locals_of_bindings h, W.ready, W.begins)

  -- what `rest_bound` asks for
  pub asks_rest : (rest : ℕ) {n : ℕ} → RestThere image rest → n ≤ list_count image →
      ((valid image ≡ true) × Whole image tables × RestThere image rest × (length bindings ≡ binding_count image) × (n < 8192)) × (Ready t c × Begins c current els)
  asks_rest rest r h =
      ((W.image_valid, W.whole, r, W.locals_of_bindings, omega (arith, h, (limits image W.image_valid).list)), (W.ready, W.begins))
