-- Places that a walk goes on from, and their types. Assumes nothing.
use mathlib.Core.Path.{◌≡◌, refl, ap, ◌∙◌}
use mathlib.Core.Bool.{Bool, true, false, cond}
use mathlib.Core.List.{List, [], ◌∷◌, ◌++◌}
use Prim.Native.Nat.{ℕ, zero, suc, ◌+◌, ◌<◌}
use native.Mathlib.Nat.{lt_of_lt_of_le}
use borrow.Author.Tests.{ltb-true}
use lib.Dec.{ltb}
use lib.ListN.{length, get_or, set, length-set}
use Rattle.refusals.specs.declared.MirLowerError.{MirLowerError}
use Rattle.refusals.specs.Refusals.{done, stopped}
use Rattle.place.specs.declared.Place.{Place}
use Rattle.place.specs.declared.elems.ProjectionElem.{ProjectionElem}
use Rattle.place.specs.declared.place_ty.PlaceTy.{PlaceTy}
use Rattle.place.specs.Elems.{word_of, Fits}
use Rattle.place.specs.Places.{projection_of}
use Rattle.place.specs.PlaceTypes.{projection_ty, multi_projection_ty}
use Rattle.place.proofs.Projecting.{longer}
use Rattle.mir.specs.declared.BasicBlockId.{BasicBlockId}
use Rattle.mir.specs.Locals.{local_ty}
use Rattle.lower_spec.specs.Results.{OptBlock}
use Rattle.pattern_matching.specs.declared.MatchingMode.{MatchingMode}
use Rattle.pattern_matching.specs.Walking.{Ctx, Out, Walk, Lowering, visited, project, derefed, entered}
use Rattle.pattern_matching.specs.Variants.{place_ty}
use Rattle.counting.specs.Reaching.{behind_derefs}
use Rattle.counting.proofs.Holding.{Holds, Gives, gives, stops, holds_step}
use Rattle.counting.proofs.Going.{What, Went, went_visited}

-- the place is rooted in a local of c, has room for 16 elements, and is of the type ty
pub record On (image : List ℕ) (c : Ctx) (place : Place) (ty : PlaceTy) : Type 0 where
  pub rooted : place.local.0 < length c.state.locals
  pub whole : length place.elems ≡ 16
  pub typed : place_ty image c.state place ≡ ty

-- what a walk does leaves it so
pub on_went : {image : List ℕ} {c c' : Ctx} {place : Place} {ty : PlaceTy} {m p : What → ℕ} → Went c c' m p → On image c place ty → On image c' place ty
unfolding place_ty
on_went {image = image} {place = place} g o =
    record {
      rooted = lt_of_lt_of_le o.rooted g.locals;
      whole = o.whole;
      typed = ap (λ (x : ℕ). multi_projection_ty image (local_ty x) (projection_of place)) (g.kept place.local.0 o.rooted) ∙ o.typed;
    }

-- the type one element on
multi_one : (image : List ℕ) (ty : PlaceTy) (xs : List ProjectionElem) (x : ProjectionElem) → multi_projection_ty image ty (xs ++ (x ∷ [])) ≡ projection_ty (multi_projection_ty image ty xs) image x
unfolding multi_projection_ty
multi_one image ty [] x = refl
multi_one image ty (y ∷ ys) x = multi_one image (projection_ty ty image y) ys x

-- the place one element on
pub on_project : {image : List ℕ} {c : Ctx} {place : Place} {ty : PlaceTy} (elem : ProjectionElem) → Fits elem → On image c place ty →
    Gives (λ place'. On image c place' (projection_ty ty image elem)) (project place elem)
unfolding project place_ty
on_project {image = image} {c = c} {place = place} {ty = ty} elem f o = go (ltb place.len 16) refl
  where
    place₁ : Place
    place₁ = record { local = place.local; len = place.len + 1; elems = set place.elems place.len (word_of elem) }

    root : PlaceTy
    root = local_ty (get_or c.state.locals place.local.0 0)

    on : place.len < 16 → On image c place₁ (projection_ty ty image elem)
    on l =
        record {
          rooted = o.rooted;
          whole = length-set place.elems place.len (word_of elem) ∙ o.whole;
          typed =
              ap (multi_projection_ty image root) ((longer place elem f o.whole l).elems refl)
              ∙ multi_one image root (projection_of place) elem
              ∙ ap (λ (t : PlaceTy). projection_ty t image elem) o.typed;
        }

    go : (b : Bool) → ltb place.len 16 ≡ b → Gives (λ place'. On image c place' (projection_ty ty image elem)) (cond b (done place₁) (stopped MirLowerError.Limit))
    go true e = gives (λ place'. On image c place' (projection_ty ty image elem)) place₁ (on (ltb-true place.len 16 e))
    go false e = stops (λ place'. On image c place' (projection_ty ty image elem)) MirLowerError.Limit

-- behind the derefs of a pattern
holds_derefed : {image : List ℕ} {c : Ctx} {Q : Out → Type 0} (p : ℕ) (place : Place) (ty : PlaceTy) (k : Place → Walk Out) (n : ℕ) → On image c place ty →
    ((place' : Place) → On image c place' (behind_derefs image ty n) → Holds Q (k place')) → Holds Q (derefed p place k n)
unfolding derefed behind_derefs
holds_derefed p place ty k zero o then = then place o
holds_derefed {image = image} p place ty k (suc n) o then =
    holds_step p (project place ProjectionElem.Deref) (λ place'. derefed p place' k n) (on_project ProjectionElem.Deref tt o)
    (λ place' o'. holds_derefed p place' (projection_ty ty image ProjectionElem.Deref) k n o' then)

-- a pattern is entered
pub holds_entered : {image : List ℕ} {c : Ctx} {Q : Out → Type 0} (p derefs : ℕ) (l : Lowering) (mode : MatchingMode) (current : BasicBlockId) (els : OptBlock) (place : Place) (ty : PlaceTy) →
    On image c place ty → ((place' : Place) → On image (visited c p) place' (behind_derefs image ty derefs) → Holds Q (l mode (visited c p) current els place')) →
    Holds Q (entered p derefs l mode c current els place)
unfolding entered
holds_entered {c = c} p derefs l mode current els place ty o then =
    holds_derefed p place ty (l mode (visited c p) current els) derefs (on_went (went_visited c p) o) then

-- a visit changes no state
pub on_unvisited : (p : ℕ) {image : List ℕ} {c : Ctx} {place : Place} {ty : PlaceTy} → On image (visited c p) place ty → On image c place ty
unfolding visited
on_unvisited p o = record { rooted = o.rooted; whole = o.whole; typed = o.typed }
