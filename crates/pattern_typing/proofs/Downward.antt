-- The downward pass over the nodes of a tree gives what the tree does. Assumes nothing.
use Prim.Native.Nat.{ℕ, suc, ◌≤◌}
use mathlib.Core.Path.{◌≡◌, refl, sym, ap, ◌∙◌}
use mathlib.Core.Bool.{Bool, true, false, cond}
use mathlib.Core.Option.{Option, none, some}
use mathlib.Core.List.{List, [], ◌∷◌, ◌++◌, append_assoc, append-nil}
use native.Mathlib.Omega.{arith}
use borrow.Author.Tests.{ltb-true, ltb-false}
use lib.Dec.{ltb}
use Rattle.pattern_syntax.specs.Written.{Written, written, Parts, no_parts, more, part_count}
use Rattle.pattern_syntax.specs.Closing.{ClosedNode, closed_node, closing, closing_parts}
use Rattle.pattern_typing.specs.Crossing.{by_value}
use Rattle.pattern_typing.specs.Contexts.{Context, typed, PartsRead, part_context}
use Rattle.pattern_typing.specs.Resolving.{resolved}
use Rattle.pattern_typing.specs.Failing.{lower, earlier, refused_in, refused_among}
use Rattle.pattern_typing.specs.Closed.{ClosedMaking, closed_making, makings, makings_among}
use Rattle.pattern_typing.specs.Downward.{Waiting, wait_for, next_context, behind_next, last_part, without_last, Typed, type_node, type_nodes, typing_of}

-- the lower of two positions does not go by their order
lower_comm : (a b : ℕ) → lower a b ≡ lower b a
unfolding lower
lower_comm a b = go (ltb b a) (ltb a b) refl refl
  where
    go : (p q : Bool) → ltb b a ≡ p → ltb a b ≡ q → cond p b a ≡ cond q a b
    go true true e f = absurd (omega (arith, ltb-true b a e, ltb-true a b f))
    go true false e f = refl
    go false true e f = refl
    go false false e f = omega (arith, ltb-false b a e, ltb-false a b f)

lower_is : (a b : ℕ) → (lower a b ≤ a) × (lower a b ≤ b)
unfolding lower
lower_is a b = go (ltb b a) refl
  where
    go : (p : Bool) → ltb b a ≡ p → (cond p b a ≤ a) × (cond p b a ≤ b)
    go true e = (omega (arith, ltb-true b a e), omega arith)
    go false e = (omega arith, omega (arith, ltb-false b a e))

-- it is one of them
lower_least : (a b c : ℕ) → c ≤ a → c ≤ b → c ≤ lower a b
unfolding lower
lower_least a b c h k = go (ltb b a)
  where
    go : (p : Bool) → c ≤ cond p b a
    go true = k
    go false = h

lower_assoc : (a b c : ℕ) → lower a (lower b c) ≡ lower (lower a b) c
lower_assoc a b c =
    let ab = lower_is a b in
    let bc = lower_is b c in
    let l = lower_is a (lower b c) in
    let r = lower_is (lower a b) c in
    let le = lower_least (lower a b) c (lower a (lower b c)) (lower_least a b (lower a (lower b c)) l.0 (omega arith)) (omega arith) in
    let ge = lower_least a (lower b c) (lower (lower a b) c) (omega arith) (lower_least b c (lower (lower a b) c) (omega arith) r.1) in
    omega arith

earlier_none : (a : Option ℕ) → earlier a none ≡ a
unfolding earlier
earlier_none none = refl
earlier_none (some a) = refl

earlier_comm : (a b : Option ℕ) → earlier a b ≡ earlier b a
unfolding earlier
earlier_comm none none = refl
earlier_comm none (some b) = refl
earlier_comm (some a) none = refl
earlier_comm (some a) (some b) = ap some (lower_comm a b)

earlier_assoc : (a b c : Option ℕ) → earlier a (earlier b c) ≡ earlier (earlier a b) c
unfolding earlier
earlier_assoc none b c = refl
earlier_assoc (some a) none c = refl
earlier_assoc (some a) (some b) none = refl
earlier_assoc (some a) (some b) (some c) = ap some (lower_assoc a b c)

-- a state of the pass
abbrev pub state : List Waiting → Option ℕ → List ClosedMaking → Typed
state stack refused makes = record { stack = stack; refused = refused; makes = makes }

state_same : {s : List Waiting} {a b : Option ℕ} {l m : List ClosedMaking} → a ≡ b → l ≡ m → state s a l ≡ state s b m
state_same {s} e f = λ i. record { stack = s; refused = e i; makes = f i }

module _ (sheet names : List ℕ) where
  -- nodes behind nodes
  pub type_append : (ns ms : List ClosedNode) (st : Typed) → type_nodes sheet names (ns ++ ms) st ≡ type_nodes sheet names ns (type_nodes sheet names ms st)
  unfolding type_nodes
  type_append [] ms st = refl
  type_append (n ∷ ns) ms st = ap (type_node sheet names n) (type_append ns ms st)

  -- what is made of a tree, read at a context, and what it refuses
  abbrev after : Written → Context → List Waiting → Option ℕ → List ClosedMaking → Typed
  after w c s r l = state s (earlier (refused_in sheet names w c) r) (makings sheet names w c ++ l)

  abbrev after_parts : Parts → PartsRead → List Waiting → Option ℕ → List ClosedMaking → Typed
  after_parts ps reads s r l = state s (earlier (refused_among sheet names ps reads) r) (makings_among sheet names ps reads ++ l)

  mutual
    unfolding closing closing_parts type_nodes type_node part_count wait_for next_context behind_next last_part without_last refused_in refused_among makings makings_among earlier

    pub tree_typed : (w : Written) (s : List Waiting) (r : Option ℕ) (l : List ClosedMaking) → type_nodes sheet names (closing w) (state s r l) ≡ after w (next_context sheet s) (behind_next s) r l
    tree_typed (written at n ps) s r l =
        let c = next_context sheet s in
        let R = resolved sheet names at n (part_count ps) c in
        let node = closed_node at n (part_count ps) in
        let first = type_append (closing_parts ps) (node ∷ []) (state s r l) in
        let rest = parts_typed ps R.reads (behind_next s) (earlier R.refused_at r) (closed_making R.making (part_count ps) ∷ l) in
        let own = R.refused_at in
        let among = refused_among sheet names ps R.reads in
        let order : earlier among (earlier own r) ≡ earlier (earlier own among) r =
        earlier_assoc among own r ∙ ap (λ (o : Option ℕ). earlier o r) (earlier_comm among own) in
        let joined : makings_among sheet names ps R.reads ++ (closed_making R.making (part_count ps) ∷ l) ≡ (makings_among sheet names ps R.reads ++ (closed_making R.making (part_count ps) ∷ [])) ++ l =
        sym (append_assoc (makings_among sheet names ps R.reads) (closed_making R.making (part_count ps) ∷ []) l) in
        first ∙ (rest ∙ state_same order joined)

    pub parts_typed : (ps : Parts) (reads : PartsRead) (s : List Waiting) (r : Option ℕ) (l : List ClosedMaking) → type_nodes sheet names (closing_parts ps) (state (wait_for reads (part_count ps) s) r l) ≡ after_parts ps reads s r l
    parts_typed no_parts reads s r l = refl
    parts_typed (more ps w) reads s r l =
        let c = part_context sheet reads (part_count ps) in
        let under = wait_for reads (part_count ps) s in
        let first = type_append (closing_parts ps) (closing w) (state (wait_for reads (suc (part_count ps)) s) r l) in
        let last = tree_typed w (wait_for reads (suc (part_count ps)) s) r l in
        let rest = parts_typed ps reads s (earlier (refused_in sheet names w c) r) (makings sheet names w c ++ l) in
        let own = refused_in sheet names w c in
        let among = refused_among sheet names ps reads in
        let order : earlier among (earlier own r) ≡ earlier (earlier own among) r =
        earlier_assoc among own r ∙ ap (λ (o : Option ℕ). earlier o r) (earlier_comm among own) in
        let joined : makings_among sheet names ps reads ++ (makings sheet names w c ++ l) ≡ (makings_among sheet names ps reads ++ makings sheet names w c) ++ l =
        sym (append_assoc (makings_among sheet names ps reads) (makings sheet names w c) l) in
        first ∙ (ap (type_nodes sheet names (closing_parts ps)) last ∙ (rest ∙ state_same order joined))

  -- the nodes of a pattern that is read at the expected type
  pub pattern_typed : (w : Written) (expected : ℕ) → type_nodes sheet names (closing w) (typing_of expected) ≡ state [] (refused_in sheet names w (typed expected by_value)) (makings sheet names w (typed expected by_value))
  unfolding typing_of wait_for next_context behind_next last_part without_last part_context
  pattern_typed w expected =
      let c = typed expected by_value in
      tree_typed w (typing_of expected).stack none []
      ∙ state_same (earlier_none (refused_in sheet names w c)) (append-nil (makings sheet names w c))
