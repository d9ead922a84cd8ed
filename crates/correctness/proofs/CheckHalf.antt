-- The first half of demand 2: of a call's two walks the one in Check leads to the block that goes on where the pattern matches, and else to
-- the else. Assumes nothing.
use Prim.Native.Nat.{ℕ}
use mathlib.Core.Path.{◌≡◌, refl}
use mathlib.Core.Bool.{true}
use mathlib.Core.Option.{some}
use mathlib.Core.List.{List, [], ◌∷◌}
use lib.ListN.{get_or}
use Rattle.image.specs.Tree.{Pat}
use Rattle.image.proofs.Bools.{all_true_at}
use Rattle.place.specs.declared.Place.{Place}
use Rattle.place.specs.declared.place_ty.PlaceTy.{PlaceTy}
use Rattle.mir.specs.declared.BasicBlockId.{BasicBlockId}
use Rattle.lower_spec.specs.Results.{OptBlock}
use Rattle.views.specs.Views.{Line, Mir, mir_of}
use Rattle.views.specs.Growing.{GoesOn}
use Rattle.pattern_matching.specs.declared.MatchingMode.{MatchingMode}
use Rattle.pattern_matching.specs.Walking.{Ctx, Out, ok}
use Rattle.pattern_matching.specs.Patterns.{pattern_match_inner}
use Rattle.meaning.specs.Values.{Value}
use Rattle.meaning.specs.Running.{Env, Scene}
use Rattle.meaning.specs.Matching.{matches, Bound}
use Rattle.meaning.specs.Fit.{types_fit, bindings_fit, fits, nothing_refused, locals_differ}
use Rattle.correctness.specs.Demand2.{place_path, Handed, Fitting, Comes}
use Rattle.correctness.proofs.Trails.{distinct_of}
use Rattle.correctness.proofs.Walking.{rest, Walked, Lands}
use Rattle.correctness.proofs.Standing.{Rooted, Stands, stands_start}
use Rattle.correctness.proofs.OfImages.{OfImage}
use Rattle.correctness.proofs.Checked.{checks}

-- a place handed in, and the value that lies there
abbrev pub scene_of : List ℕ → Place → Value → Scene
scene_of image place v = record { image = image; root = place_path place; here = v }

-- the word of its local's type
abbrev pub root_word : Ctx → Place → ℕ
root_word ctx place = get_or ctx.state.locals place.local.0 0

module _ {image bindings : List ℕ} {ctx : Ctx} {current : BasicBlockId} {els : OptBlock} {place : Place} {t : ℕ} (h : Handed image bindings ctx current els place t) (v : Value) where
  -- its local is there
  pub handed_root : Rooted (scene_of image place v) (root_word ctx place) ctx.state
  handed_root = record { there = h.root; is = refl }

  -- and it stands for the value, at its type
  pub handed_stands : Stands (scene_of image place v) (root_word ctx place) place (PlaceTy.Ty t) v
  handed_stands = stands_start (scene_of image place v) (root_word ctx place) place ctx.state t refl refl h.elements h.within h.placed h.named

-- a pattern that fits has types that do
pub fitting_types : {image bindings : List ℕ} {ctx : Ctx} {place : Place} {t : ℕ} {pat : Pat} {v : Value} → Fitting image bindings ctx place t pat v → types_fit image pat (some t) ≡ true
unfolding fits
fitting_types {image} {bindings} {ctx} {place} {t} {pat} f =
    all_true_at (types_fit image pat (some t) ∷ bindings_fit image pat ∷ nothing_refused image bindings pat ∷ locals_differ bindings place.local.0 ∷ []) 0 f.pattern

-- The walk in Check.
pub check_half : (image bindings : List ℕ) (pat : Pat) (ctx : Ctx) (current : BasicBlockId) (els : OptBlock) (place : Place) (t : ℕ) (v : Value) (r : Out) (M : Mir) (env : Env) →
    Handed image bindings ctx current els place t → Fitting image bindings ctx place t pat v → OfImage image pat →
    pattern_match_inner image bindings pat MatchingMode.Check ctx current els place ≡ ok r → GoesOn (mir_of r.ctx.state) M →
    Lands (scene_of image place v) bindings M ctx current.0 env [] r (matches image pat v)
check_half image bindings pat ctx current els place t v r M env h f d is x =
    (checks {scene = scene_of image place v} {bindings = bindings} {M = M} {word = root_word ctx place} f.image_valid f.image_bytes pat d
    ).lands t (fitting_types f) ctx current els place v (handed_root h v) (handed_stands h v) f.value h.starts r is x env

-- a walk as demand 2 says it
unfoldable pub comes : {image bindings : List ℕ} {M : Mir} {place : Place} {v : Value} {ctx ctx₁ : Ctx} {current : BasicBlockId} {env : Env} {bs : List Bound} {b : ℕ} {left : List Line} →
    Walked (scene_of image place v) bindings M ctx current.0 env bs ctx₁ b left → Comes image bindings M place v ctx current env bs b left
unfolding rest
comes {current} w =
    record {
      stops = record { env' = w.env'; entered = w.entered; run = w.run; once = distinct_of (current.0 ∷ w.entered) w.trail.distinct };
      locals = w.locals;
    }
