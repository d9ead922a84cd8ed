-- What each step adds to blocks, statements and visits, and one step after another. Assumes nothing.
use Rattle.std.specs.Prelude.{Some, None}
use Prim.Native.Nat.{ℕ, ◌+◌, ◌≤◌, ◌<◌}
use native.Mathlib.Nat.{le_refl, le_trans, lt_of_lt_of_le}
use native.Mathlib.Omega.{arith}
use mathlib.Core.Path.{◌≡◌, refl, ap, ◌∙◌}
use mathlib.Core.List.{List, [], ◌++◌}
use lib.ListN.{length, get_or, length-append, get_or-append}
use Rattle.image.specs.Tree.{Pat}
use Rattle.place.specs.declared.Place.{Place}
use Rattle.mir.specs.declared.BasicBlockId.{BasicBlockId}
use Rattle.mir.specs.declared.blocks.Terminator.{Terminator}
use Rattle.lower_spec.specs.Results.{OptBlock}
use Rattle.state.specs.State.{State}
use Rattle.pattern_matching.specs.Walking.{Ctx, Out, ok, with_state}
use Rattle.pattern_matching.specs.Variants.{place_ty}
use Rattle.pattern_matching.specs.Patterns.{pattern_match}
use Rattle.params_spec.specs.Params.{shut_else}
use Rattle.counting.specs.Reaching.{Reached}
use Rattle.counting.specs.Counting.{total, reached_from, visits_of, new_blocks, statements_of}
use Rattle.counting.proofs.Building.{built_terminator}
use Rattle.counting.proofs.Passing.{total_append}
use Rattle.counting.proofs.Whole.{counted, stepped}
use Rattle.param_runs.proofs.Shutting.{shut_out}
use Rattle.param_runs.proofs.Declaring.{Makes}

-- from c to c' so many blocks are new, the statements of the patterns reached, and their visits; the locals stay
pub record Tally (c c' : Ctx) (b : ℕ) (rs : List Reached) : Type 0 where
  pub blocks : length c'.state.blocks ≡ length c.state.blocks + b
  pub statements : length c'.state.statements ≡ length c.state.statements + total statements_of rs
  pub visits : (n : ℕ) → n < length c.visits → get_or c'.visits n 0 ≡ get_or c.visits n 0 + visits_of n rs
  pub listed : length c'.visits ≡ length c.visits
  pub locals : length c.state.locals ≤ length c'.state.locals
  pub kept : (i : ℕ) → i < length c.state.locals → get_or c'.state.locals i 0 ≡ get_or c.state.locals i 0

-- the visits to patterns in a row
pub visits_append : (n : ℕ) (rs rs' : List Reached) → visits_of n (rs ++ rs') ≡ visits_of n rs + visits_of n rs'
unfolding visits_of
visits_append n rs rs' = total_append _ rs rs'

-- one step after another
pub tally_seq : {c c₁ c₂ : Ctx} {b b' : ℕ} {rs rs' : List Reached} → Tally c c₁ b rs → Tally c₁ c₂ b' rs' → Tally c c₂ (b + b') (rs ++ rs')
tally_seq {c} {c₁} {rs} {rs'} f g =
    record {
      blocks = omega (arith, f.blocks, g.blocks);
      statements =
          let t = total_append statements_of rs rs' in
          omega (arith, f.statements, g.statements, t);
      visits = λ n l.
          let i : n < length c₁.visits = omega (arith, f.listed) in
          omega (arith, f.visits n l, g.visits n i, visits_append n rs rs');
      listed = g.listed ∙ f.listed;
      locals = le_trans f.locals g.locals;
      kept = λ i l. g.kept i (lt_of_lt_of_le l f.locals) ∙ f.kept i l;
    }

-- a state with other locals behind those that there were
pub tally_locals : (c : Ctx) (st : State) (types : List ℕ) → Makes c.state types st → Tally c (with_state c st) 0 []
unfolding total visits_of
tally_locals c st types m =
    record {
      blocks = let e : length st.blocks ≡ length c.state.blocks = ap (λ (x : List (List ℕ)). length x) m.blocks in omega arith;
      statements = let e : length st.statements ≡ length c.state.statements = ap (λ (x : List (List ℕ)). length x) m.statements in omega arith;
      visits = λ n l. omega arith;
      listed = refl;
      locals = let e : length st.locals ≡ length c.state.locals + length types = ap (λ (x : List ℕ). length x) m.locals ∙ length-append c.state.locals types in omega arith;
      kept = λ i l. ap (λ (x : List ℕ). get_or x i 0) m.locals ∙ get_or-append c.state.locals types 0 i l;
    }

-- nothing done
pub tally_none : (c : Ctx) → Tally c c 0 []
unfolding total visits_of
tally_none c =
    record {
      blocks = omega arith;
      statements = omega arith;
      visits = λ n l. omega arith;
      listed = refl;
      locals = le_refl _;
      kept = λ i l. refl;
    }

-- an else that is shut is no block more
tally_shut : {c c' : Ctx} {b : ℕ} {rs : List Reached} (els : OptBlock) → Tally c c' b rs → Tally c (shut_else c' els) b rs
unfolding shut_else
tally_shut None f = f
tally_shut {c'} (Some e) f =
    let built = built_terminator c'.state e Terminator.Unreachable in
    record {
      blocks = omega (arith, f.blocks, built.blocks);
      statements = omega (arith, f.statements, built.statements);
      visits = f.visits;
      listed = f.listed;
      locals = le_trans f.locals built.locals;
      kept = λ i l. built.kept i (lt_of_lt_of_le l f.locals) ∙ f.kept i l;
    }

module _ (image bindings : List ℕ) (ctx : Ctx) (current : BasicBlockId) (r : Out) where
  -- a pattern that is lowered: what document 01 counts of it
  pub tally_pattern : (pat : Pat) (place : Place) → place.local.0 < length ctx.state.locals → length place.elems ≡ 16 → pattern_match image bindings pat ctx current None place ≡ ok r →
      Tally ctx (shut_out r).ctx (new_blocks image pat (place_ty image ctx.state place) None) (reached_from image pat (place_ty image ctx.state place))
  unfolding Rattle.counting.specs.Counting.new_statements
  tally_pattern pat place rooted whole e =
      let c = counted image bindings pat ctx current None place r rooted whole e in
      let s = stepped image bindings pat ctx current None place r rooted whole e in
      tally_shut r.else
      record {
        blocks = c.blocks;
        statements = omega (arith, c.statements);
        visits = c.visits;
        listed = s.went.listed;
        locals = s.went.locals;
        kept = s.went.kept;
      }
