-- What the steps of a Bind make: the binding of its name, and its row. Assumes nothing: these are definitions.
use Rattle.std.specs.Prelude.{Some, None}
use Rattle.std.specs.Prelude.{ℕ, ◌≡◌, false, List}
use Rattle.image.specs.declared.Tables.{Tables}
use Rattle.pattern_syntax.specs.Reduced.{bytes_from}
use Rattle.pattern_typing.specs.Making.{BoundAt, Making, bind_made}
use Rattle.node_rows.specs.declared.MakingRow.{MakingRow}
use Rattle.node_rows.specs.Makings.{bound_at_in}
use Rattle.pattern_images.specs.Drafts.{Draft, binding_for}
use Rattle.pattern_images.specs.Emitting.{with_binding, binding_number}
use Rattle.pattern_images.specs.Imaging.{within_image_limits}
use Rattle.draft_tables.specs.declared.DraftCounts.{DraftCounts}
use Rattle.draft_tables.specs.Layout.{draft_in, drafted}
use Rattle.draft_binds.specs.Results.{BindingStep}
use Rattle.draft_binds.specs.Named.{HeldFor}

-- what is made of a row of a Bind
abbrev pub bind_of : List ℕ → MakingRow → Making
bind_of names row = bind_made row.ty row.a row.b (bytes_from names row.from row.to) (bound_at_in row)

-- a draft with the binding of a name, and the binding's number
abbrev pub bound_draft : List ℕ → ℕ → List ℕ → BoundAt → Draft → Draft
bound_draft sheet mode name at d = with_binding sheet (binding_for d name) mode name at d

abbrev pub bound_number : List ℕ → List ℕ → Draft → ℕ
bound_number sheet name d = binding_number sheet (binding_for d name) d

-- the table holds the binding of a name, which has its number
pub record BindingHeld (names sheet : List ℕ) (tables : Tables) (table : List ℕ) (c : DraftCounts) (mode : ℕ) (name : List ℕ) (at : BoundAt) (number : ℕ) (counts : DraftCounts) (after : List ℕ) : Type 0 where
  pub held : HeldFor names tables table c (λ s. drafted (bound_draft sheet mode name at) s) counts after
  pub height : counts.height ≡ c.height
  pub numbered : number ≡ bound_number sheet name (draft_in names table c)

-- or a limit is passed
abbrev pub BindingStepped : List ℕ → List ℕ → Tables → List ℕ → DraftCounts → ℕ → List ℕ → BoundAt → BindingStep → List ℕ → Type 0
BindingStepped names sheet tables table c mode name at (Some (number, counts)) after = BindingHeld names sheet tables table c mode name at number counts after
BindingStepped names sheet tables table c mode name at None after = within_image_limits sheet (bound_draft sheet mode name at (draft_in names table c)) ≡ false
