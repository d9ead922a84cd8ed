-- An Or refuses with a limit only, if its alternatives up to the first that cannot fail do. Assumes nothing.
use Rattle.std.specs.Prelude.{Some, None}
use mathlib.Core.Path.{◌≡◌, sym, subst}
use mathlib.Core.List.{List, [], ◌∷◌}
use Prim.Native.Nat.{ℕ}
use Rattle.place.specs.declared.Place.{Place}
use Rattle.place.specs.declared.place_ty.PlaceTy.{PlaceTy}
use Rattle.mir.specs.declared.BasicBlockId.{BasicBlockId}
use Rattle.mir.specs.declared.blocks.Terminator.{Terminator}
use Rattle.state.specs.Steps.{next_block, try_block, set_terminator}
use Rattle.lower_spec.specs.Results.{OptBlock}
use Rattle.pattern_matching.specs.declared.MatchingMode.{MatchingMode}
use Rattle.pattern_matching.specs.Walking.{Ctx, Out, Walk, ok, Lowering, next, out, with_state, else_state}
use Rattle.pattern_matching.specs.Patterns.{Alternatives, behind, alternative, alternatives, alternatives_end, or_pattern}
use Rattle.counting.proofs.Holding.{Holds}
use Rattle.counting.proofs.Passing.{Pass, checks, binds, mode_of}
use Rattle.counting.proofs.Typed.{On}
use Rattle.fitted.proofs.Stopping.{Fine, fine_ok, fine_next, fine_step, fine_as, fine_and}
use Rattle.fitted.proofs.Building.{Kept, kept_same, kept_on, kept_terminator, fair_block, fair_else}
use Rattle.fitted.proofs.Walks.{Stays, Good, on_kept, fine_out}

-- in Check a lowering leaves no block where it does not match
abbrev pub Never : List ℕ → PlaceTy → Lowering → Type 0
Never image ty l = (c : Ctx) (current : BasicBlockId) (place : Place) → On image c place ty → Holds (λ (r : Out). r.else ≡ None) (l MatchingMode.Check c current None place)

-- alternatives refuse with a limit only, up to one that cannot fail
pub data Reached (image : List ℕ) (ty : PlaceTy) : List Lowering → Type 0 where
  none_left : Reached image ty []
  the_last : {l : Lowering} {ls : List Lowering} → Good image ty l → Never image ty l → Reached image ty (l ∷ ls)
  one_more_lem : {l : Lowering} {ls : List Lowering} → Good image ty l → Reached image ty ls → Reached image ty (l ∷ ls)

-- the locals of c stay in what alternatives leave
abbrev Leaves : Ctx → Alternatives → Type 0
Leaves c a = Kept c.state a.ctx.state

-- an alternative, and what its test says of its else
fine_alternative : {image : List ℕ} {ty : PlaceTy} {l : Lowering} (E : OptBlock → Type 0) (pass : Pass) (c : Ctx) (current : BasicBlockId) (place : Place) → Good image ty l → On image c place ty →
    Fine (λ r. Stays c r × E r.else) (l MatchingMode.Check c current None place) → Fine (λ r. Stays c r × E r.else) (alternative l (mode_of pass) c current place)
fine_alternative {l = l} E checks c current place g o h =
    fine_next (l MatchingMode.Check c current None place) (λ r. ok r) h (λ r s. fine_ok (λ r. Stays c r × E r.else) r s)
fine_alternative {l = l} E binds c current place g o h =
    fine_next (l MatchingMode.Check c current None place) again h (λ r s.
    fine_next (l MatchingMode.Bind r.ctx r.then None place) (last r) (g.goes binds r.ctx r.then None place (on_kept s.0 o)) (λ r' s'.
    fine_ok (λ r. Stays c r × E r.else) (record { ctx = r'.ctx; then = r'.then; else = r.else }) (kept_on s.0 s', s.1)))
  where
    last : Out → Out → Walk Out
    last r r' = out r'.ctx r'.then r.else

    again : Out → Walk Out
    again r = next (l MatchingMode.Bind r.ctx r.then None place) (last r)

-- the walk ends behind an alternative that leaves no block
fine_last : (c c₁ : Ctx) (left : OptBlock) (rest : BasicBlockId → Walk Alternatives) → left ≡ None → Kept c.state c₁.state → Fine (Leaves c) (behind left c₁ rest)
fine_last c c₁ left rest e g =
    subst (λ (x : OptBlock). Fine (Leaves c) (behind x c₁ rest)) (sym e) (fine_ok (Leaves c) (record { ctx = c₁; left = None }) g)

-- and goes on behind one that leaves one
fine_others : (c c₁ : Ctx) (left : OptBlock) (rest : BasicBlockId → Walk Alternatives) → Kept c.state c₁.state → ((b : BasicBlockId) → Fine (Leaves c₁) (rest b)) →
    Fine (Leaves c) (behind left c₁ rest)
fine_others c c₁ None rest g h = fine_ok (Leaves c) (record { ctx = c₁; left = None }) g
fine_others c c₁ (Some b) rest g h = fine_as (λ a g'. kept_on g g') (h b)

-- all alternatives
fine_alternatives : {image : List ℕ} {ty : PlaceTy} (p : ℕ) (ls : List Lowering) → Reached image ty ls → (pass : Pass) (c : Ctx) (join current : BasicBlockId) (place : Place) → On image c place ty →
    Fine (Leaves c) (alternatives p ls (mode_of pass) c join current place)
unfolding alternatives
fine_alternatives p [] none_left pass c join current place o = fine_ok (Leaves c) (record { ctx = c; left = Some current }) (kept_same c.state)
fine_alternatives p (l ∷ ls) (the_last g never) pass c join current place o =
    fine_next (alternative l (mode_of pass) c current place) _
    (fine_alternative (λ els. els ≡ None) pass c current place g o (fine_and (g.goes checks c current None place o) (never c current place o))) (λ r s.
    fine_last c _ r.else _ s.1 (kept_on s.0 (kept_terminator r.ctx.state r.then (Terminator.Goto join))))
fine_alternatives p (l ∷ ls) (one_more_lem g h) pass c join current place o =
    fine_next (alternative l (mode_of pass) c current place) _
    (fine_alternative (λ els. Unit {0}) pass c current place g o (fine_as (λ r s. (s, tt)) (g.goes checks c current None place o))) (λ r s.
    let k = kept_on s.0 (kept_terminator r.ctx.state r.then (Terminator.Goto join)) in
    fine_others c (with_state r.ctx (set_terminator r.ctx.state r.then (Terminator.Goto join))) r.else _ k (λ b.
    fine_alternatives p ls h pass _ join b place (on_kept k o)))

-- where the last alternative does not match
fine_left : (p : ℕ) (pass : Pass) (a : Alternatives) (join : BasicBlockId) (els : OptBlock) → Fine (Stays a.ctx) (alternatives_end p (mode_of pass) a join els)
unfolding alternatives_end
fine_left p pass a join els = by pass a.left
  where
    by : (pass : Pass) (left : OptBlock) → Fine (Stays a.ctx) (alternatives_end p (mode_of pass) (record { ctx = a.ctx; left = left }) join els)
    by pass None = fine_out a.ctx join els
    by checks (Some b) =
        fine_step p (else_state a.ctx.state els) _ (fair_else a.ctx.state els) (λ st g. fine_ok (Stays a.ctx) _ (kept_on g (kept_terminator st b _)))
    by binds (Some b) = fine_ok (Stays a.ctx) _ (kept_terminator a.ctx.state b Terminator.Unreachable)

-- an Or
pub good_or : {image : List ℕ} {ty : PlaceTy} (p : ℕ) (ls : List Lowering) → Reached image ty ls → Good image ty (or_pattern p ls)
unfolding or_pattern
good_or p ls h =
    record {
      goes = λ pass c current els place o.
          fine_step p (try_block c.state) _ (fair_block c.state) (λ st g.
          fine_next (alternatives p ls (mode_of pass) (with_state c st) (next_block c.state) current place) _
          (fine_alternatives p ls h pass (with_state c st) (next_block c.state) current place (on_kept g o)) (λ a g'.
          fine_as (λ r g''. kept_on (kept_on g g') g'') (fine_left p pass a (next_block c.state) els)));
    }
