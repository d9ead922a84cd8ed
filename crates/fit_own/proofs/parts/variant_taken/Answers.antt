use borrow.Author.Rules.{rules}
use Rattle.fit_own.proofs.Wording.{no_variant, some_variant}
use Rattle.fit_own.proofs.parts.variant_taken.Goals as goal

pub returns-then-v-eq65535 : goal.returns-then-v-eq65535
returns-then-v-eq65535 c = no_variant _ _ c.if-v-eq65535.true

pub returns : goal.returns
returns c = some_variant _ _ c.if-v-eq65535.false c.variant_there.ensures
