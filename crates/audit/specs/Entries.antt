-- The scopes' entries after a lowering, from scopes and entries that are handed in. Assumes nothing: these are definitions.
use Rattle.std.specs.Prelude.{None}
use Rattle.std.specs.Prelude.{ℕ, ◌-◌, List}
use Rattle.std.proofs.Math.Option.{Option, none, some}
use Rattle.image.specs.Tables.{pattern_count, binding_count}
use Rattle.image.specs.Lists.{up_from}
use Rattle.image.specs.Tree.{tree}
use Rattle.pattern_matching.specs.Walking.{Ctx, Out, Walk, ok, refused, local_place}
use Rattle.audit.specs.Started.{Lowers, start_state, start}

-- an image, the type of local 0, scopes and entries, and the entries that are wanted after the lowering of the image's last pattern, or none where it is to be refused
pub record EntriesRow : Type 0 where
  pub image : List ℕ
  pub ty : ℕ
  pub scopes : List ℕ
  pub entries : List ℕ
  pub wanted : Option (List ℕ)

-- document 01's start of its corners, but for the scopes
unfoldable pub scoped_start : EntriesRow → Ctx
scoped_start row =
    let st = start_state row.image row.ty in
    record {
      state = record { blocks = st.blocks; statements = st.statements; locals = st.locals; scopes = row.scopes; entries = row.entries };
      visits = (start row.image row.ty).visits;
    }

-- the entries behind a walk, if it is accepted
abbrev pub entries_of : Walk Out → Option (List ℕ)
entries_of (ok r) = some r.ctx.state.entries
entries_of (refused e p) = none

-- the last pattern of the image, lowered against local 0
unfoldable pub entries_by : Lowers → EntriesRow → Option (List ℕ)
entries_by lowers row =
    let image = row.image in
    entries_of (lowers image (up_from 1 (binding_count image)) (tree image (pattern_count image - 1)) (scoped_start row) (record { 0 = 0 }) None (local_place (record { 0 = 0 })))
