-- The ways through resolving a node. Assumes nothing.
use Rattle.std.specs.Prelude.{Some, None}
use Rattle.std.proofs.lemmas.Option.{same_Some}
use Prim.Native.Nat.{ℕ, ◌-◌, ◌≤◌}
use mathlib.Core.Path.{◌≡◌, refl, sym, ap, ◌∙◌}
use mathlib.Core.Bool.{Bool, true, false, cond, ◌||◌}
use mathlib.Core.Option.{Option, none, some}
use mathlib.Core.List.{List}
use native.Mathlib.Omega.{arith}
use borrow.Author.Tests.{eqb-true, eqb-false, le-leb}
use lib.Dec.{eqb, leb}
use Rattle.pattern_syntax.specs.Written.{Name}
use Rattle.name_tables.specs.Names.{name_row_at}
use Rattle.pattern_typing.specs.Crossing.{Crossed, crossed}
use Rattle.pattern_typing.specs.Contexts.{unseen_parts, same_parts}
use Rattle.pattern_typing.specs.Making.{or_absent}
use Rattle.pattern_typing.specs.Resolving.{Resolved, refused_here, resolved_to, where_named, path_made, resolved_path, Marked, mode_of, annotation_of, binding_made, resolved_ident}
use Rattle.node_rows.specs.declared.NodeRow.{NodeRow}
use Rattle.node_rows.specs.Nodes.{number_in, name_in}
use Rattle.node_rows.specs.Makings.{making_of, bound_at_in}
use Rattle.type_parts.specs.declared.CrossedType.{CrossedType}
use Rattle.type_parts.specs.Parts.{crossed_of, parts_of}
use Rattle.name_resolving.specs.declared.Resolution.{Resolution}
use Rattle.name_resolving.specs.Gives.{refused_of, resolved_of, Gives, GivesAlways, refused_row, named_as, marked_in, bound_at_of, bind_resolution, path_resolution}

-- a word that is no number is read as none, and none is written as that word
pub or_absent_lem : (w : ℕ) → or_absent (number_in w) ≡ w
unfolding or_absent number_in
or_absent_lem w = go (eqb w 65535) refl
  where
    go : (b : Bool) → eqb w 65535 ≡ b → or_absent (cond b none (some w)) ≡ w
    go true e = sym (eqb-true w 65535 e)
    go false e = refl

pub always : {names : List ℕ} {r : Resolution} {many : ℕ} {wanted : List ℕ → Resolved} → GivesAlways r many wanted → Gives names r many wanted
always {names} A = record { same = λ text. A.same text names; parts = A.parts }

-- a position that is refused
pub refused_gives : (names : List ℕ) {r : Resolution} (many at : ℕ) (wanted : List ℕ → Resolved) → r ≡ refused_row many at → ((text : List ℕ) → wanted text ≡ refused_here at) → Gives names r many wanted
unfolding resolved_of refused_of making_of parts_of
refused_gives names many at wanted e w = rw e (record { same = λ text. sym (w text); parts = refl })

module _ (table : List ℕ) where
  pub none_named : (o : Option ℕ) → None ≡ named_as table o → o ≡ none
  unfolding named_as
  none_named none e = refl
  none_named (some row) e = absurd (let z : ◌≡◌ {A = ℕ} 0 1 = cc in omega arith)

  pub where_found : (o : Option ℕ) {kind number : ℕ} (n : Name) (go : ℕ → Resolved) → Some (kind, number) ≡ named_as table o → where_named table o n go ≡ go number
  unfolding named_as where_named
  where_found none n go e = absurd (let z : ◌≡◌ {A = ℕ} 0 1 = cc in omega arith)
  where_found (some row) {kind} {number} n go e = let same : (name_row_at table row).number ≡ number = sym (ap (λ (p : ℕ × ℕ). p.1) (same_Some _ _ e)) in ap go same

  pub where_lacking : (o : Option ℕ) (n : Name) (go : ℕ → Resolved) → None ≡ named_as table o → where_named table o n go ≡ refused_here n.at
  unfolding where_named
  where_lacking o n go e = rw (none_named o e)

  pub path_found : (o : Option ℕ) {kind number : ℕ} (n : Name) (c : Crossed) → Some (kind, number) ≡ named_as table o → resolved_path table o n c ≡ resolved_to (path_made c kind number) unseen_parts
  unfolding named_as resolved_path
  path_found none n c e = absurd (let z : ◌≡◌ {A = ℕ} 0 1 = cc in omega arith)
  path_found (some row) {kind} {number} n c e =
      let k : (name_row_at table row).kind ≡ kind = sym (ap (λ (p : ℕ × ℕ). p.0) (same_Some _ _ e)) in
      let v : (name_row_at table row).number ≡ number = sym (ap (λ (p : ℕ × ℕ). p.1) (same_Some _ _ e)) in
      rw (k, v)

  pub path_lacking : (o : Option ℕ) (n : Name) (c : Crossed) → None ≡ named_as table o → resolved_path table o n c ≡ refused_here n.at
  unfolding resolved_path
  path_lacking o n c e = rw (none_named o e)

  -- a name that the table has
  pub ident_found : (sheet : List ℕ) (o : Option ℕ) {kind number : ℕ} (m : Marked) (t mode many : ℕ) → Some (kind, number) ≡ named_as table o → resolved_ident sheet table o m t mode many ≡ cond (m.reference || m.mutable || leb 1 many) (refused_here m.called.at) (resolved_to (path_made (crossed sheet t mode) kind number) unseen_parts)
  unfolding named_as resolved_ident
  ident_found sheet none m t mode many e = absurd (let z : ◌≡◌ {A = ℕ} 0 1 = cc in omega arith)
  ident_found sheet (some row) m t mode many e = rw (path_found (some row) m.called (crossed sheet t mode) e)

-- `ref` or `mut` stands before a name
pub marked : (more many : ℕ) → (more ≡ 0 → ⊥) → (eqb more 1 || eqb more 3) || leb 2 more || leb 1 many ≡ true
marked more many ne = go (eqb more 1) refl
  where
    either : (b : Bool) → b || true || leb 1 many ≡ true
    either true = refl
    either false = refl

    go : (b : Bool) → eqb more 1 ≡ b → (b || eqb more 3) || leb 2 more || leb 1 many ≡ true
    go true e = refl
    go false e =
        let large : 2 ≤ more = omega (arith, eqb-false more 1 e, ne) in
        rw (le-leb 2 more large) (either (eqb more 3))

-- a name alone that is a variant or a constant
pub ident_path : (table sheet spelled : List ℕ) (node : NodeRow) (o : Option ℕ) {kind number : ℕ} (t mode : ℕ) → Some (kind, number) ≡ named_as table o → node.more ≡ 0 → node.parts ≡ 0 → resolved_ident sheet table o (marked_in spelled node) t mode node.parts ≡ resolved_to (path_made (crossed sheet t mode) kind number) unseen_parts
ident_path table sheet spelled node o t mode e m p = ident_found table sheet o (marked_in spelled node) t mode node.parts e ∙ rw (m, p)

-- a binding's row stands for it, bound at a type or at an array
pub bind_gives : (names : List ℕ) (node : NodeRow) (t mode element many copy : ℕ) {r : Resolution} → r ≡ bind_resolution node t mode element many copy → Gives names r node.parts (λ text. resolved_to (binding_made (marked_in names node) t mode (bound_at_of t element many copy)) (same_parts t mode))
unfolding resolved_of refused_of making_of bound_at_in parts_of mode_of annotation_of name_in
bind_gives names node t mode element many copy e = rw e (record { same = λ text. refl; parts = refl })

pub path_gives : (names : List ℕ) (parts kind number : ℕ) (c : CrossedType) {r : Resolution} → r ≡ path_resolution parts c kind number → Gives names r parts (λ text. resolved_to (path_made (crossed_of c) kind number) unseen_parts)
unfolding resolved_of refused_of making_of parts_of path_made
path_gives names parts kind number c e = rw e (record { same = λ text. refl; parts = refl })

-- what is given is what is wanted
pub gives_as : {names : List ℕ} {r : Resolution} {many : ℕ} {given : List ℕ → Resolved} (wanted : List ℕ → Resolved) → ((text : List ℕ) → wanted text ≡ given text) → Gives names r many given → Gives names r many wanted
gives_as wanted e G = record { same = λ text. G.same text ∙ sym (e text); parts = G.parts }
