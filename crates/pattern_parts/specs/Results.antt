-- What the functions of this crate answer, as std's types. Assumes nothing: these are definitions.
use Rattle.std.specs.Prelude.{ℕ, Option, Result}
use Rattle.pattern_parts.specs.declared.adts.VariantOf.{VariantOf}
use Rattle.refusals.specs.declared.MirLowerError.{MirLowerError}

-- the type of the table at a place, or none that a pattern could need; or why a projection does not apply
abbrev pub NeededTy : Type 0
NeededTy = Result (Option ℕ) MirLowerError

-- how many fields the tuple at a place has, or why there is none
abbrev pub TupleAt : Type 0
TupleAt = Result ℕ MirLowerError

-- a reference lies at a place, or why none does
abbrev pub ReferenceAt : Type 0
ReferenceAt = Result Unit MirLowerError

-- of which sort the variant at a place is, or why there is none
abbrev pub AdtAt : Type 0
AdtAt = Result VariantOf MirLowerError
