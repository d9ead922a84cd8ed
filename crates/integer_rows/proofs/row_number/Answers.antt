use mathlib.Core.Path.{◌≡◌, ap, ◌∙◌}
use mathlib.Core.List.{[], ◌∷◌}
use borrow.Author.Rules.{rules}
use Rattle.std.specs.Prelude.{◌==◌}
use Rattle.std.specs.List.{position}
use Rattle.std.specs.Option.{unwrap_or}
use Rattle.integer_rows.proofs.Sizes.{found, signed_row, unsigned_row}
use Rattle.integer_rows.proofs.row_number.Goals as goal

pub returns-then-signed : goal.returns-then-signed
returns-then-signed c =
    let told : c.position.result ≡ position (λ x. x == c.args.size) (1 ∷ 2 ∷ 4 ∷ 8 ∷ []) = search rules in
    signed_row (found c.args.size c.unwrap_or-row.result c.requires (c.unwrap_or-row.ensures ∙ ap (λ o. unwrap_or o 4) told)) c.if-signed.true

pub returns-else-signed : goal.returns-else-signed
returns-else-signed c =
    let told : c.position.result ≡ position (λ x. x == c.args.size) (1 ∷ 2 ∷ 4 ∷ 8 ∷ []) = search rules in
    unsigned_row (found c.args.size c.unwrap_or-row.result c.requires (c.unwrap_or-row.ensures ∙ ap (λ o. unwrap_or o 4) told)) c.if-signed.false
