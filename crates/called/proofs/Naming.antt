-- Nothing names a local from the count of locals on, in the body that an accepted call was handed and in the one that it hands out. Assumes nothing.
use Rattle.std.specs.Prelude.{Ok}
use Rattle.image.specs.Tables.{type_count, variant_count}
use Rattle.named.specs.Named.{NamedBelow}
use Rattle.named.proofs.Taken.{handed_named}
use Rattle.named.proofs.Keeping.{kept_start}
use Rattle.named.proofs.Lowered.{match_kept}
use Rattle.called.specs.Call.{Call, HandedOut, Accepted, before, pattern_of, start_of, result_of}
use Rattle.called.specs.Acceptance.{Taken}
use Rattle.called.specs.Naming.{NoneUnmade}
use Rattle.called.proofs.Walked.{taken}
use Rattle.called.proofs.Given.{Given}
use Rattle.called.proofs.Bodies.{handed, gives}

-- the body that was handed in
named_before : (call : Call) → Taken call → NamedBelow (before call)
named_before call T = handed_named (type_count call.image) (variant_count call.image) call.body call.counts call.lengths T.body

-- the theorem
pub named_throughout : (call : Call) (out : HandedOut) → Accepted call out → NoneUnmade call out
named_throughout call out accepted =
    let T : Taken call = (taken call (Ok (out.counts, out.then, out.else)) out.body out.visits tt accepted).0 in
    let G : Given call = handed call out accepted in
    record {
      handed_in = named_before call T;
      bindings = G.bound;
      place = G.root;
      handed_out = (match_kept call.image call.bindings G.bound (pattern_of call) (start_of call) call.start call.else call.place (result_of out) G.root
          (kept_start (before call) (named_before call T)) (gives call out accepted)).named;
    }
