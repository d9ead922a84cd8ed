-- The public calls on a body and its scopes: every image, body and number is taken, or refused by document 01's number. Assumes nothing: these are
-- definitions.
use Rattle.std.specs.Prelude.{Ok, Err}
use Rattle.std.specs.Prelude.{ℕ, Bool, true, cond, ◌&&◌, List}
use Rattle.image.specs.Tables.{type_count, variant_count, tables_of}
use Rattle.image.specs.Valid.{valid}
use Rattle.mir.specs.declared.BasicBlockId.{BasicBlockId}
use Rattle.mir.specs.declared.Counts.{Counts}
use Rattle.state.specs.State.{Body, State, decode}
use Rattle.state.specs.Steps.{try_scope}
use Rattle.body_row_rules.specs.Bodies.{is_block, is_type_word, body_holds}
use Rattle.lower_spec.specs.Results.{OptBlock}
use Rattle.lower_spec.specs.Temps.{temp}
use Rattle.lower_spec.specs.Merging.{merge_blocks}
use Rattle.drop_scopes_spec.specs.Dropping.{At, drop_until_scope, pop_and_drop, pop_assume_dropped}
use Rattle.handed.specs.Handed.{merge_holds}
use Rattle.calls_spec.specs.Calls.{Called, call, by_step}
use Rattle.body_calls_spec.specs.Results.{Opened}
use Rattle.body_calls_spec.specs.declared.Unopened.{Unopened}

-- the body and its scopes may be handed in beside the image
abbrev pub body_taken : List ℕ → Body → Counts → Bool
body_taken image b c = body_holds (type_count image) (variant_count image) b.blocks b.statements b.locals b.scopes b.entries c

-- a call on an image and a body: `names` says whether the call's own numbers name something
abbrev pub body_call : {A : Type 0} → List ℕ → Body → Counts → Bool → Called A → Called A
body_call image b c names step = call (valid image) (body_taken image b c && names) step

-- the tables' places, where image and body are taken
unfoldable pub opened_of : List ℕ → Body → Counts → Opened
opened_of image b c = cond (valid image) (cond (body_taken image b c) (Ok (tables_of image)) (Err Unopened.BadCall)) (Err Unopened.BadImage)

-- the calls, by what they do
unfoldable pub temp_call : List ℕ → Body → Counts → ℕ → BasicBlockId → Called State
temp_call image b c word block = body_call image b c (is_type_word (type_count image) word && is_block c block.0) (by_step (temp image (decode b c) word block))

unfoldable pub merge_blocks_call : List ℕ → Body → Counts → OptBlock → OptBlock → Called State
merge_blocks_call image b c x y = body_call image b c (merge_holds c x y) (by_step (merge_blocks (decode b c) x y))

unfoldable pub push_drop_scope_call : List ℕ → Body → Counts → Called State
push_drop_scope_call image b c = body_call image b c true (by_step (try_scope (decode b c)))

unfoldable pub pop_assume_dropped_call : List ℕ → Body → Counts → Called State
pop_assume_dropped_call image b c = body_call image b c true (by_step (pop_assume_dropped (decode b c)))

unfoldable pub pop_and_drop_call : List ℕ → Body → Counts → BasicBlockId → Called At
pop_and_drop_call image b c block = body_call image b c (is_block c block.0) (by_step (pop_and_drop image (decode b c) block))

unfoldable pub drop_until_scope_call : List ℕ → Body → Counts → ℕ → BasicBlockId → Called At
drop_until_scope_call image b c i block = body_call image b c (is_block c block.0) (by_step (drop_until_scope image (decode b c) i block))
