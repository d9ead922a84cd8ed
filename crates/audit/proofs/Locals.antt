-- The auditor's page on new locals, request S-5. Each theorem is proved by one citation. Assumes nothing.
use Prim.Native.Nat.{ℕ, ◌≤◌}
use mathlib.Core.Path.{◌≡◌}
use mathlib.Core.List.{List}
use lib.ListN.{length}
use Rattle.place.specs.declared.Place.{Place}
use Rattle.mir.specs.declared.BasicBlockId.{BasicBlockId}
use Rattle.lower_spec.specs.Results.{OptBlock}
use Rattle.pattern_matching.specs.Walking.{Ctx, Out, ok}
use Rattle.pattern_matching.specs.Variants.{discriminant_test}
use Rattle.named.specs.Named.{TestLocal}
use Rattle.named.proofs.Tested.{test_local}
use Rattle.called.specs.Call.{Call, HandedOut, Accepted}
use Rattle.called.specs.Naming.{NoneUnmade}
use Rattle.called.proofs.Naming.{named_throughout}

-- Request S-5, "a local not used before": nothing in the body that an accepted call was handed, in its scopes, in the bindings' table or in the place names a local from the count
-- of locals on, and nothing in the body that it hands out does ..
pub nothing_names_a_local_from_the_count_on : (call : Call) (out : HandedOut) → Accepted call out → NoneUnmade call out
nothing_names_a_local_from_the_count_on = named_throughout

-- .. and the local that a test of an enum makes is the count: it is made live in the block of the test, and set there.
pub the_test's_local_is_the_count : (image : List ℕ) (p v : ℕ) (ctx : Ctx) (current : BasicBlockId) (els : OptBlock) (place : Place) (r : Out) → place.len ≤ 16 → length place.elems ≡ 16 →
    discriminant_test image p v ctx current els place ≡ ok r → TestLocal ctx.state current place r.ctx.state
the_test's_local_is_the_count = test_local
