-- Zeros above the counts, one table after the other. Assumes nothing.
use Prim.Native.Nat.{ℕ, ◌*◌}
use mathlib.Core.Path.{◌≡◌, ap, ◌∙◌}
use mathlib.Core.Bool.{true}
use mathlib.Core.List.{List}
use lib.ListN.{length}
use Rattle.row_tables.specs.Rows.{cleared}
use Rattle.mir.specs.declared.Counts.{Counts}
use Rattle.state.specs.State.{Body, decode, encode}
use Rattle.body_row_rules.specs.Bodies.{counts_within}
use Rattle.body_row_rules.proofs.Checked.{within_of}
use Rattle.body_calls_spec.specs.Sizes.{Sized}
use Rattle.body_calls_spec.proofs.Clearing.{all_cleared}
use Rattle.mir.specs.Blocks.{block_width}
use Rattle.mir.specs.Statements.{statement_width}
use Rattle.body_tables.specs.Layout.{body_words, body_of, with_blocks, with_statements, with_locals, with_scopes, with_entries}
use Rattle.body_rules.proofs.Lengths.{lengths_of}

-- the tables of the words have their sizes, and the counts are within the limits
pub sized_words : (c : Counts) (w : List ℕ) → length w ≡ body_words → counts_within c ≡ true → Sized (body_of w) c
sized_words c w size few =
    let L = lengths_of w size in
    let W = within_of c few in
    record {
      blocks = L.blocks;
      statements = L.statements;
      locals = L.locals;
      scopes = L.scopes;
      entries = L.entries;
      block_count_lem = W.blocks;
      statement_count = W.statements;
      local_count = W.locals;
      scope_count = W.scopes;
      entry_count = W.entries;
    }

-- `clear_above`
pub five_cleared : {b b₁ b₂ b₃ b₄ b₅ : Body} (c : Counts) → Sized b c → b₁ ≡ with_blocks b (cleared b.blocks (block_width * c.blocks)) →
    b₂ ≡ with_statements b₁ (cleared b₁.statements (statement_width * c.statements)) → b₃ ≡ with_locals b₂ (cleared b₂.locals c.locals) →
    b₄ ≡ with_scopes b₃ (cleared b₃.scopes c.scopes) → b₅ ≡ with_entries b₄ (cleared b₄.entries c.entries) → b₅ ≡ encode (decode b c)
five_cleared {b = b} c S e₁ e₂ e₃ e₄ e₅ =
    e₅
    ∙ ap (λ (x : Body). with_entries x (cleared x.entries c.entries))
    (e₄ ∙ ap (λ (x : Body). with_scopes x (cleared x.scopes c.scopes)) (e₃ ∙ ap (λ (x : Body). with_locals x (cleared x.locals c.locals)) (e₂ ∙ ap (λ (x : Body). with_statements x (cleared x.statements (statement_width * c.statements))) e₁)))
    ∙ all_cleared b c S
