-- A Slice's rest, by the ways through the code. Assumes nothing.
use Rattle.std.specs.Prelude.{Ok}
use mathlib.Core.Path.{◌≡◌, refl, sym, ap, ◌∙◌}
use mathlib.Core.Bool.{true, false, cond, ◌&&◌, ◌||◌, false≢true}
use mathlib.Core.List.{List}
use Prim.Native.Nat.{ℕ, ◌<◌}
use borrow.Author.Tests.{ltb-true, ne_eqb, eq-eqb}
use lib.Dec.{eqb, leb, ltb}
use Rattle.image.specs.declared.PatId.{PatId}
use Rattle.image.specs.declared.kinds.BindingMode.{BindingMode}
use Rattle.image.specs.declared.kinds.PatKind.{PatKind}
use Rattle.image.specs.declared.rows.PatRow.{PatRow}
use Rattle.image.specs.Tables.{pattern_count, binding_count}
use Rattle.image.specs.Kinds.{pat_kind, binding_mode}
use Rattle.image.specs.Patterns.{pattern_shape_holds, pattern_holds}
use Rattle.image.specs.Rows.{pat_at}
use Rattle.image.specs.Rules.{names_type}
use Rattle.image.specs.Tree.{Head, Pat, node_by, node, tree, tree?}
use Rattle.image.specs.Valid.{valid}
use Rattle.image.proofs.Bools.{and_left, and_right}
use Rattle.image.proofs.Known.{pattern_holds_lem}
use Rattle.image.proofs.Trees.{tree_node}
use Rattle.place.specs.declared.Place.{Place}
use Rattle.mir.specs.declared.BasicBlockId.{BasicBlockId}
use Rattle.mir.specs.declared.Counts.{Counts}
use Rattle.state.specs.State.{Body}
use Rattle.lower_spec.specs.Results.{OptBlock}
use Rattle.pattern_matching.specs.declared.MatchingMode.{MatchingMode}
use Rattle.pattern_matching.specs.Modes.{is_check}
use Rattle.pattern_matching.specs.Walking.{Ctx, Out, Walk, out}
use Rattle.pattern_matching.specs.Slices.{RestOf, rest_bound}
use Rattle.pattern_matching.specs.Patterns.{rest_by, rest_of}
use Rattle.pattern_walk_spec.specs.Results.{Lowered}
use Rattle.pattern_walk_spec.specs.Answers.{Begins, Lowers}
use Rattle.pattern_walk_spec.proofs.Sequences.{lowers_skips, lowers_by}
use Rattle.pattern_parts.specs.Parts.{is_bind, rest_filled}

-- a rest that is there
pub rest_there : (rest n : ℕ) → eqb rest 65535 || ltb rest n ≡ true → (rest ≡ 65535 → ⊥) → rest < n
rest_there rest n e absent = ltb-true rest n (rw (ne_eqb rest 65535 absent) at e)

-- what a node is as a rest
node_rest : (kind : PatKind) (g : ℕ → Pat) (image : List ℕ) (h : Head) (row : PatRow) →
    rest_by (node_by kind g image h row) ≡ cond (is_bind kind) (RestOf.binds h.number row.a (binding_mode row.c)) RestOf.ignores
unfolding rest_by node_by is_bind
node_rest PatKind.Missing g image h row = refl
node_rest PatKind.Rest g image h row = refl
node_rest PatKind.NotNull g image h row = refl
node_rest PatKind.Wild g image h row = refl
node_rest PatKind.Tuple g image h row = refl
node_rest PatKind.Or g image h row = refl
node_rest PatKind.Record g image h row = refl
node_rest PatKind.Range g image h row = refl
node_rest PatKind.Slice g image h row = refl
node_rest PatKind.Path g image h row = refl
node_rest PatKind.Lit g image h row = refl
node_rest PatKind.Bind g image h row = refl
node_rest PatKind.TupleStruct g image h row = refl
node_rest PatKind.Ref g image h row = refl
node_rest PatKind.Expr g image h row = refl
node_rest PatKind.Box g image h row = refl
node_rest PatKind.Deref g image h row = refl
node_rest PatKind.Unknown g image h row = refl

-- a Bind's row names a binding
bind_names : (kind : PatKind) (image : List ℕ) (row : PatRow) → is_bind kind ≡ true → pattern_shape_holds kind image row ≡ true → row.a < binding_count image
unfolding is_bind pattern_shape_holds
bind_names PatKind.Missing image row e h = absurd (false≢true e)
bind_names PatKind.Rest image row e h = absurd (false≢true e)
bind_names PatKind.NotNull image row e h = absurd (false≢true e)
bind_names PatKind.Wild image row e h = absurd (false≢true e)
bind_names PatKind.Tuple image row e h = absurd (false≢true e)
bind_names PatKind.Or image row e h = absurd (false≢true e)
bind_names PatKind.Record image row e h = absurd (false≢true e)
bind_names PatKind.Range image row e h = absurd (false≢true e)
bind_names PatKind.Slice image row e h = absurd (false≢true e)
bind_names PatKind.Path image row e h = absurd (false≢true e)
bind_names PatKind.Lit image row e h = absurd (false≢true e)
bind_names PatKind.Bind image row e h = ltb-true row.a (binding_count image) (and_left (ltb row.a (binding_count image)) (leb row.c 2) (and_left (ltb row.a (binding_count image) && leb row.c 2) (leb row.d 2) h))
bind_names PatKind.TupleStruct image row e h = absurd (false≢true e)
bind_names PatKind.Ref image row e h = absurd (false≢true e)
bind_names PatKind.Expr image row e h = absurd (false≢true e)
bind_names PatKind.Box image row e h = absurd (false≢true e)
bind_names PatKind.Deref image row e h = absurd (false≢true e)
bind_names PatKind.Unknown image row e h = absurd (false≢true e)

-- the pattern `rest` of a valid image
module _ (image : List ℕ) (rest : ℕ) (v : valid image ≡ true) (there : rest < pattern_count image) {row : PatRow} (at : row ≡ pat_at image rest) where
  -- the binding that it names is there
  pub rest_names : is_bind (pat_kind row.kind) ≡ true → row.a < binding_count image
  unfolding pattern_holds
  rest_names e =
      bind_names (pat_kind row.kind) image row e
      (rw at
      (and_right (names_type image (pat_at image rest).ty && leb (pat_at image rest).derefs 16) (pattern_shape_holds (pat_kind (pat_at image rest).kind) image (pat_at image rest)) (pattern_holds_lem image rest v there)))

  -- what it is as a rest
  rest_is_lem : (rest ≡ 65535 → ⊥) → rest_of (tree? (tree image) rest) ≡ cond (is_bind (pat_kind row.kind)) (RestOf.binds rest row.a (binding_mode row.c)) RestOf.ignores
  unfolding rest_of tree? node
  rest_is_lem present = rw (ne_eqb rest 65535 present, tree_node image rest v there, at) (node_rest (pat_kind (pat_at image rest).kind) (tree image) image _ (pat_at image rest))

-- `rest_bound`: b₀ is the body at entry
module _ (image bindings : List ℕ) (b₀ : Body) (c : Counts) (mode : MatchingMode) (p : PatId) (rest front end : ℕ) (current : BasicBlockId) (els : OptBlock) (place : Place) where
  abbrev by : RestOf → Ctx → Walk Out
  by x ctx = rest_bound x bindings p.0 front end mode ctx current els place

  abbrev Bound : Lowered → Body → Type 0
  Bound = Lowers (by (rest_of (tree? (tree image) rest))) c current els b₀

  -- there is no rest
  pub rest_none : Begins c current els → rest ≡ 65535 → Bound (Ok (c, current, els)) b₀
  unfolding rest_of tree? rest_bound
  rest_none start e = lowers_skips (λ ctx. rw (eq-eqb rest 65535 e) refl) start

  -- in Check
  pub rest_in_check : Begins c current els → is_check mode ≡ true → Bound (Ok (c, current, els)) b₀
  rest_in_check start e = lowers_skips (λ ctx. same mode e (rest_of (tree? (tree image) rest)) ctx) start
    where
      same : (mode : MatchingMode) → is_check mode ≡ true → (x : RestOf) (ctx : Ctx) → out ctx current els ≡ rest_bound x bindings p.0 front end mode ctx current els place
      same MatchingMode.Check e RestOf.none ctx = unfold rest_bound in refl
      same MatchingMode.Check e RestOf.ignores ctx = unfold rest_bound in refl
      same MatchingMode.Check e (RestOf.binds q b how) ctx = unfold rest_bound in refl
      same MatchingMode.Bind e x ctx = absurd (false≢true (unfold is_check in e))
      same MatchingMode.Assign e x ctx = absurd (false≢true (unfold is_check in e))

  module _ (v : valid image ≡ true) (there : rest < pattern_count image) (present : rest ≡ 65535 → ⊥) {row : PatRow} (at : row ≡ pat_at image rest) where
    -- a rest that does not bind
    pub rest_ignored : Begins c current els → is_bind (pat_kind row.kind) ≡ false → Bound (Ok (c, current, els)) b₀
    unfolding rest_bound
    rest_ignored start e = lowers_skips (λ ctx. rw (rest_is_lem image rest v there at present, e) refl) start

    -- beyond Check, a rest that binds
    pub rest_binds : {how : BindingMode} {r : Lowered} {b₁ : Body} → is_check mode ≡ false → is_bind (pat_kind row.kind) ≡ true → how ≡ binding_mode row.c →
        Lowers (λ ctx. rest_filled bindings p.0 rest row.a how front end ctx current els place) c current els b₀ r b₁ → Bound r b₁
    rest_binds {how = how} beyond e same F =
        lowers_by (λ ctx. filled mode beyond how ctx ∙ ap (λ (x : RestOf). by x ctx) (ap (RestOf.binds rest row.a) same ∙ sym is)) F
      where
        is : rest_of (tree? (tree image) rest) ≡ RestOf.binds rest row.a (binding_mode row.c)
        is = rest_is_lem image rest v there at present ∙ rw e refl

        filled : (mode : MatchingMode) → is_check mode ≡ false → (how : BindingMode) (ctx : Ctx) →
            rest_filled bindings p.0 rest row.a how front end ctx current els place ≡ rest_bound (RestOf.binds rest row.a how) bindings p.0 front end mode ctx current els place
        filled MatchingMode.Check e how ctx = absurd (false≢true (sym (unfold is_check in e)))
        filled MatchingMode.Bind e how ctx = unfold rest_filled rest_bound in refl
        filled MatchingMode.Assign e how ctx = unfold rest_filled rest_bound in refl
