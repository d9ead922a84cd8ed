-- What a walk does in Check and beyond it, by the ways through the code. Assumes nothing.
use Rattle.std.specs.Prelude.{Ok, Err}
use mathlib.Core.Path.{◌≡◌, refl}
use mathlib.Core.Bool.{true, false, true≢false, false≢true}
use mathlib.Core.List.{List}
use Prim.Native.Nat.{ℕ}
use Rattle.image.specs.declared.PatId.{PatId}
use Rattle.image.specs.declared.kinds.BindingMode.{BindingMode}
use Rattle.refusals.specs.declared.MirLowerError.{MirLowerError}
use Rattle.place.specs.declared.Place.{Place}
use Rattle.mir.specs.declared.BasicBlockId.{BasicBlockId}
use Rattle.mir.specs.declared.Counts.{Counts}
use Rattle.lower_spec.specs.Results.{OptBlock}
use Rattle.pattern_matching.specs.declared.MatchingMode.{MatchingMode}
use Rattle.pattern_matching.specs.Modes.{is_check}
use Rattle.pattern_matching.specs.Walking.{Ctx, Out, Walk, refused, out, in_check}
use Rattle.pattern_matching.specs.Tests.{pattern_match_binding}
use Rattle.pattern_nodes.specs.Modes.{bound}
use Rattle.pattern_switching.proofs.Cutting.{in_check_lem, not_in_check}
use Rattle.pattern_walk_spec.specs.Results.{Lowered}
use Rattle.pattern_walk_spec.specs.Answers.{Begins, Lowers}
use Rattle.pattern_walk_spec.proofs.Sequences.{lowers_skips, lowers_refuses, lowers_by}
use Rattle.pattern_leaves.specs.Modes.{other_path}
use Rattle.state.specs.State.{Body}

-- `other_path`, as the code answers it
module _ (c : Counts) (p : PatId) (current : BasicBlockId) (els : OptBlock) where
  pub other_refused : (mode : MatchingMode) → is_check mode ≡ true → Err (MirLowerError.NotSupported, p) ≡ other_path c mode p current els
  unfolding is_check other_path
  other_refused MatchingMode.Check e = refl
  other_refused MatchingMode.Bind e = absurd (false≢true e)
  other_refused MatchingMode.Assign e = absurd (false≢true e)

  pub other_done : (mode : MatchingMode) → is_check mode ≡ false → Ok (c, current, els) ≡ other_path c mode p current els
  unfolding is_check other_path
  other_done MatchingMode.Check e = absurd (true≢false e)
  other_done MatchingMode.Bind e = refl
  other_done MatchingMode.Assign e = refl

  -- and what it promises, of the body t
  pub other_lowers : (t : Body) (mode : MatchingMode) → Begins c current els →
      Lowers (λ ctx. in_check mode (refused MirLowerError.NotSupported p.0) (out ctx current els)) c current els t (other_path c mode p current els) t
  unfolding other_path
  other_lowers t MatchingMode.Check h = lowers_refuses (λ ctx. refl)
  other_lowers t MatchingMode.Bind h = lowers_skips (λ ctx. refl) h
  other_lowers t MatchingMode.Assign h = lowers_skips (λ ctx. refl) h

-- `bind`; t is the body at entry
module _ (bindings : List ℕ) (t : Body) (c : Counts) (mode : MatchingMode) (p : PatId) (b : ℕ) (how : BindingMode) (current : BasicBlockId) (els : OptBlock) (place : Place) where
  abbrev Bound : Lowered → Body → Type 0
  Bound = Lowers (λ ctx. bound bindings p.0 b how mode ctx current els place) c current els t

  abbrev filled : Ctx → Walk Out
  filled ctx = pattern_match_binding bindings p.0 p.0 b how ctx current els place

  -- nothing is bound in Check
  pub bind_skips : is_check mode ≡ true → Begins c current els → Bound (Ok (c, current, els)) t
  unfolding bound
  bind_skips check h = lowers_skips (λ ctx. in_check_lem mode (out ctx current els) (filled ctx) check) h

  -- the binding is filled beyond it
  pub bind_fills : {r : Lowered} {t' : Body} → is_check mode ≡ false → Lowers filled c current els t r t' → Bound r t'
  unfolding bound
  bind_fills beyond L = lowers_by (λ ctx. not_in_check mode (out ctx current els) (filled ctx) beyond) L
