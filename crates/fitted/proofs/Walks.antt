-- Lowerings that refuse with a limit only, on places of a known type, and how they are entered. Assumes nothing.
use mathlib.Core.Path.{◌≡◌, sym, ap, subst, ◌∙◌}
use mathlib.Core.Bool.{Bool, true, false, cond}
use mathlib.Core.Option.{Option, some}
use mathlib.Core.List.{List, [], ◌∷◌, reverse}
use Prim.Native.Nat.{ℕ, zero, suc, ◌+◌}
use native.Mathlib.Nat.{lt_of_lt_of_le}
use lib.Dec.{leb, ltb}
use lib.ListN.{length, set, take, drop}
use Rattle.image.specs.Types.{Shape, ty_of}
use Rattle.refusals.specs.declared.MirLowerError.{MirLowerError}
use Rattle.refusals.specs.Refusals.{done, stopped}
use Rattle.place.specs.declared.Place.{Place}
use Rattle.place.specs.declared.elems.ProjectionElem.{ProjectionElem}
use Rattle.place.specs.declared.place_ty.PlaceTy.{PlaceTy}
use Rattle.place.specs.Elems.{word_of, Fits}
use Rattle.place.specs.Places.{projection_of}
use Rattle.place.specs.PlaceTypes.{projection_ty, multi_projection_ty}
use Rattle.mir.specs.declared.BasicBlockId.{BasicBlockId}
use Rattle.mir.specs.Locals.{local_ty}
use Rattle.lower_spec.specs.Results.{OptBlock}
use Rattle.pattern_matching.specs.Walking.{Ctx, Out, Walk, Lowering, next, out, project, visited, derefed, entered, in_check}
use Rattle.pattern_matching.specs.Variants.{place_ty, shape_of, needed, pattern_match_adt, fields_up_to, pattern_match_tuple_like}
use Rattle.pattern_matching.specs.Patterns.{passing}
use Rattle.counting.specs.Reaching.{behind_derefs}
use Rattle.counting.proofs.Passing.{Pass, checks, binds, mode_of}
use Rattle.counting.proofs.Typed.{On, on_project}
use Rattle.fitted.proofs.Stopping.{Fine, Fair, fine_ok, fair_done, fair_stopped, fine_next, fine_step, fine_as, fair_by}
use Rattle.fitted.proofs.Building.{Kept, kept_same, kept_on}

-- the locals of c stay in the answer
abbrev pub Stays : Ctx → Out → Type 0
Stays c r = Kept c.state r.ctx.state

-- on a place of the type ty a lowering refuses with a limit only, in Check and in Bind
pub record Good (image : List ℕ) (ty : PlaceTy) (l : Lowering) : Type 0 where
  pub goes : (pass : Pass) (c : Ctx) (current : BasicBlockId) (els : OptBlock) (place : Place) → On image c place ty → Fine (Stays c) (l (mode_of pass) c current els place)

-- a place stays of its type where the locals stay
pub on_kept : {image : List ℕ} {c c' : Ctx} {place : Place} {ty : PlaceTy} → Kept c.state c'.state → On image c place ty → On image c' place ty
unfolding place_ty
on_kept {image = image} {place = place} g o =
    record {
      rooted = lt_of_lt_of_le o.rooted g.locals;
      whole = o.whole;
      typed = ap (λ (x : ℕ). multi_projection_ty image (local_ty x) (projection_of place)) (g.kept place.local.0 o.rooted) ∙ o.typed;
    }

-- nothing is done
pub fine_out : (c : Ctx) (current : BasicBlockId) (els : OptBlock) → Fine (Stays c) (out c current els)
fine_out c current els = fine_ok (Stays c) _ (kept_same c.state)

-- a walk, and then one from where it leads
pub fine_walk : (c : Ctx) (w : Walk Out) (k : Out → Walk Out) → Fine (Stays c) w → ((r : Out) → Stays c r → Fine (Stays r.ctx) (k r)) → Fine (Stays c) (next w k)
fine_walk c w k h then = fine_next w k h (λ r g. fine_as (λ r' g'. kept_on g g') (then r g))

-- what only a walk in Check does
pub fine_check : {Q : Out → Type 0} (pass : Pass) (test skip : Walk Out) → Fine Q test → Fine Q skip → Fine Q (in_check (mode_of pass) test skip)
fine_check checks test skip g h = g
fine_check binds test skip g h = h

-- one element more is refused with a limit only
pub fair_project : (place : Place) (elem : ProjectionElem) → Fair (λ (x : Place). Unit {0}) (project place elem)
unfolding project
fair_project place elem = by (ltb place.len 16)
  where
    by : (b : Bool) →
        Fair (λ (x : Place). Unit {0}) (cond b (done (record { local = place.local; len = place.len + 1; elems = set place.elems place.len (word_of elem) })) (stopped MirLowerError.Limit))
    by true = fair_done (λ (x : Place). Unit {0}) _ tt
    by false = fair_stopped (λ (x : Place). Unit {0}) MirLowerError.Limit tt

-- and leads to a place of the type one element on
pub fair_on : {image : List ℕ} {c : Ctx} {place : Place} {ty : PlaceTy} (elem : ProjectionElem) → Fits elem → On image c place ty →
    Fair (λ place'. On image c place' (projection_ty ty image elem)) (project place elem)
fair_on {place = place} elem f o = fair_by (fair_project place elem) (on_project elem f o)

-- behind the derefs of a pattern
fine_derefed : {image : List ℕ} {c : Ctx} {Q : Out → Type 0} (p : ℕ) (place : Place) (ty : PlaceTy) (k : Place → Walk Out) (n : ℕ) → On image c place ty →
    ((place' : Place) → On image c place' (behind_derefs image ty n) → Fine Q (k place')) → Fine Q (derefed p place k n)
unfolding derefed behind_derefs
fine_derefed p place ty k zero o then = then place o
fine_derefed {image = image} p place ty k (suc n) o then =
    fine_step p (project place ProjectionElem.Deref) (λ place'. derefed p place' k n) (fair_on ProjectionElem.Deref tt o)
    (λ place' o'. fine_derefed p place' (projection_ty ty image ProjectionElem.Deref) k n o' then)

-- a pattern is entered
pub good_entered : {image : List ℕ} {ty ty' : PlaceTy} {l : Lowering} (p derefs : ℕ) → behind_derefs image ty derefs ≡ ty' → Good image ty' l → Good image ty (entered p derefs l)
unfolding entered visited
good_entered {image = image} {ty = ty} {l = l} p derefs e g =
    record {
      goes = λ pass c current els place o.
          fine_derefed p place ty (l (mode_of pass) (visited c p) current els) derefs o (λ place' o'.
          g.goes pass (visited c p) current els place' (record { rooted = o'.rooted; whole = o'.whole; typed = o'.typed ∙ e }));
    }

-- a pattern that has nothing to test and nothing to bind
pub good_passing : (image : List ℕ) (ty : PlaceTy) → Good image ty passing
good_passing image ty = record { goes = λ pass c current els place o. fine_out c current els }

-- a type that is needed is known
pub fine_needed : {image : List ℕ} {c : Ctx} {place : Place} {t : ℕ} {Q : Out → Type 0} (p : ℕ) (s : Shape) (k : Shape → Walk Out) → On image c place (PlaceTy.Ty t) → (ty_of image t).shape ≡ s →
    Fine Q (k s) → Fine Q (needed p (shape_of image (place_ty image c.state place)) k)
unfolding shape_of
fine_needed {image = image} {c = c} {place = place} {t = t} {Q = Q} p s k o e h =
    subst (λ (x : Option Shape). Fine Q (needed p x k)) (sym (ap (shape_of image) o.typed ∙ ap {B = Option Shape} some e)) h

-- each lowering of a row refuses with a limit only on the place that its element leads to; surplus ones of either are left out
abbrev pub Row : List ℕ → PlaceTy → List ProjectionElem → List Lowering → Type 0
Row image ty [] ls = Unit {0}
Row image ty (elem ∷ elems) [] = Unit {0}
Row image ty (elem ∷ elems) (l ∷ ls) = (Fits elem × Good image (projection_ty ty image elem) l) × Row image ty elems ls

-- arguments in a row
pub good_arguments : {image : List ℕ} {ty : PlaceTy} (p : ℕ) (elems : List ProjectionElem) (ls : List Lowering) → Row image ty elems ls → Good image ty (pattern_match_adt p elems ls)
unfolding pattern_match_adt
good_arguments p [] ls h = record { goes = λ pass c current els place o. fine_out c current els }
good_arguments p (elem ∷ elems) [] h = record { goes = λ pass c current els place o. fine_out c current els }
good_arguments p (elem ∷ elems) (l ∷ ls) h =
    record {
      goes = λ pass c current els place o.
          let rest : Out → Walk Out = λ r. pattern_match_adt p elems ls (mode_of pass) r.ctx r.then r.else place in
          fine_step p (project place elem) (λ place'. next (l (mode_of pass) c current els place') rest) (fair_on elem h.0.0 o) (λ place' o'.
          fine_walk c (l (mode_of pass) c current els place') rest (h.0.1.goes pass c current els place' o') (λ r g.
          (good_arguments p elems ls h.1).goes pass r.ctx r.then r.else place (on_kept g o)));
    }

-- two lowerings, one after the other on the same place
pub good_both : {image : List ℕ} {ty : PlaceTy} (l l' : Lowering) → Good image ty l → Good image ty l' →
    Good image ty (λ mode c current els place. next (l mode c current els place) (λ r. l' mode r.ctx r.then r.else place))
good_both l l' g g' =
    record {
      goes = λ pass c current els place o.
          fine_walk c (l (mode_of pass) c current els place) (λ r. l' (mode_of pass) r.ctx r.then r.else place) (g.goes pass c current els place o)
          (λ r s. g'.goes pass r.ctx r.then r.else place (on_kept s o));
    }

-- arguments before an ellipsis, and behind it
pub good_row : {image : List ℕ} {ty : PlaceTy} (p at n : ℕ) (ls : List Lowering) → leb at (length ls) ≡ true → Row image ty (fields_up_to n) (take at ls) →
    Row image ty (reverse (fields_up_to n)) (reverse (drop at ls)) → Good image ty (pattern_match_tuple_like p ls at n)
unfolding pattern_match_tuple_like
good_row {image = image} {ty = ty} p at n ls e front back =
    record {
      goes = λ pass c current els place o.
          rw e
          ((good_both (pattern_match_adt p (fields_up_to n) (take at ls)) (pattern_match_adt p (reverse (fields_up_to n)) (reverse (drop at ls)))
          (good_arguments p (fields_up_to n) (take at ls) front) (good_arguments p (reverse (fields_up_to n)) (reverse (drop at ls)) back)).goes pass c current els place o);
    }
