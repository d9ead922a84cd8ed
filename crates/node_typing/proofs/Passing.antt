-- The ways through the pass over the rows. Assumes nothing.
use Rattle.std.specs.Prelude.{None}
use Prim.Native.Nat.{ℕ, suc, ◌+◌, ◌*◌, ◌-◌, ◌≤◌, ◌<◌}
use mathlib.Core.Path.{◌≡◌, sym, ap, ◌∙◌}
use mathlib.Core.Bool.{true}
use mathlib.Core.List.{List, [], ◌∷◌}
use native.Mathlib.Omega.{arith}
use native.Mathlib.Numerals.{add-one}
use lib.ListN.{length}
use Rattle.row_tables.specs.Rows.{stored}
use Rattle.row_tables.proofs.Tables.{past_stored}
use Rattle.type_sheets.specs.Sheets.{sheet_holds}
use Rattle.pattern_typing.specs.Contexts.{Context}
use Rattle.pattern_typing.specs.Failing.{earlier}
use Rattle.pattern_typing.specs.Resolving.{Resolved, resolved}
use Rattle.pattern_typing.specs.Downward.{Waiting, wait_for, next_context, behind_next, Typed, typed_by, type_node, type_nodes}
use Rattle.pattern_typing.proofs.Downward.{type_append}
use Rattle.node_rows.specs.declared.NodeRow.{NodeRow}
use Rattle.node_rows.specs.Nodes.{node_row_at, node_of, closed_node_of, nodes_in}
use Rattle.node_rows.specs.Makings.{making_row_at, making_of, closed_making_of}
use Rattle.type_parts.specs.Parts.{parts_of}
use Rattle.name_resolving.specs.Results.{Refused}
use Rattle.name_resolving.specs.declared.Resolution.{Resolution}
use Rattle.name_resolving.specs.Gives.{refused_of, resolved_of, Gives}
use Rattle.node_resolving.proofs.Kept.{reads_known}
use Rattle.node_typing.specs.declared.steps.TypedRow.{TypedRow}
use Rattle.typing_state.specs.Parents.{stack_of, Stacked}
use Rattle.node_typing.specs.Rows.{making_words, StackKnown, resolved_at, RowTyped, untyped, NodesTyped}
use Rattle.node_typing.proofs.Stored.{making_stored, makings_from, rows_past, from_first}
use Rattle.node_typing.proofs.Known.{next_known, wait_known, behind_known}

module _ (sheet names spelled nodes : List ℕ) where
  -- one row, by what its calls leave
  pub row_typed : (i : ℕ) {before after : List ℕ} {stack : List Waiting} {left waiting : List ℕ} {depth behind next : ℕ} {node : NodeRow} {c : Context} {r : Resolution} → i < 16384 → length before ≡ 196608 → node ≡ node_row_at nodes i → c ≡ next_context sheet stack → Gives spelled r node.parts (λ text. resolved sheet names node.at (node_of text spelled node) node.parts c) → after ≡ stored before (12 * i) (making_words r.making) → Stacked left behind (behind_next stack) depth → Stacked waiting next (wait_for (parts_of r.reads) node.parts (stack_of left behind)) (behind + 1) → RowTyped sheet names spelled nodes i before after stack waiting depth (record { depth = next; refused = r.refused })
  unfolding resolved_of closed_making_of
  row_typed i {before} {after} {stack} {left} {waiting} {depth} {behind} {next} {node} {c} {r} h long n e G a L W =
      let G' = rw (n, e) at G in
      let row : making_row_at after i ≡ r.making = rw a (making_stored before i r.making (omega arith)) in
      let up : 12 * i + 12 ≡ 12 * (i + 1) = omega arith in
      record {
        made =
            λ text.
            let same : making_of text spelled r.making ≡ (resolved_at sheet names spelled nodes i stack text).making = ap (λ (x : Resolved). x.making) (G'.same text) in
            rw (row, same, G'.parts);
        above = rw a (past_stored before (12 * i) (making_words r.making) (12 * (i + 1)) (omega arith) (omega arith));
        refuses = λ text. ap (λ (x : Resolved). x.refused_at) (G'.same text);
        waits =
            λ text.
            let same : parts_of r.reads ≡ (resolved_at sheet names spelled nodes i stack text).reads = ap (λ (x : Resolved). x.reads) (G'.same text) in
            W.same ∙ rw (L.same, same, n);
        deep = omega (arith, L.within, W.within);
      }

  module _ (n : ℕ) (start : List Waiting) where
    -- the pass after the rows from i on
    abbrev reached : List ℕ → List ℕ → List ℕ → Refused → ℕ → ℕ → Typed
    reached text makings waiting refused depth i =
        record { stack = stack_of waiting depth; refused = refused_of refused; makes = makings_from text spelled makings i (n - i) }

    -- what is left to type from here leads where the whole does
    pub record Passing (makings waiting : List ℕ) (refused : Refused) (depth i : ℕ) : Type 0 where
      pub within : i ≤ n
      pub deep : depth + i ≤ n + 1
      pub known : StackKnown sheet (stack_of waiting depth)
      pub left : (text : List ℕ) → type_nodes sheet names (nodes_in text spelled nodes i) (reached text makings waiting refused depth i) ≡ type_nodes sheet names (nodes_in text spelled nodes n) (untyped start)

    pub pass_begins : (makings waiting : List ℕ) (depth : ℕ) → depth ≤ 1 → stack_of waiting depth ≡ start → StackKnown sheet (stack_of waiting depth) → Passing makings waiting None depth n
    unfolding makings_from refused_of
    pass_begins makings waiting depth h e k =
        let none_yet : n - n ≡ 0 = omega arith in
        record { within = omega arith; deep = omega arith; known = k; left = λ text. rw (none_yet, e) }

    module _ (held : sheet_holds sheet ≡ true) where
      -- one row more
      pub row_passed : {makings waiting : List ℕ} {refused : Refused} {depth : ℕ} (i : ℕ) {makings' waiting' : List ℕ} {refused' : Refused} {r : TypedRow} → Passing makings waiting refused depth (suc i) → RowTyped sheet names spelled nodes i makings makings' (stack_of waiting depth) waiting' depth r → refused_of refused' ≡ earlier (refused_of r.refused) (refused_of refused) → Passing makings' waiting' refused' r.depth i
      unfolding nodes_in type_nodes type_node makings_from closed_node_of
      row_passed {makings} {waiting} {refused} {depth} i {makings'} {waiting'} {refused'} {r} P T f =
          let stack = stack_of waiting depth in
          let context = next_known sheet held stack P.known in
          let node = node_row_at nodes i in
          let reads = reads_known sheet held names node.at (node_of [] spelled node) node.parts (next_context sheet stack) context in
          record {
            within = omega (arith, P.within);
            deep = omega (arith, P.deep, T.deep);
            known = rw (T.waits []) (wait_known sheet (resolved_at sheet names spelled nodes i stack []).reads node.parts (behind_next stack) reads (behind_known sheet stack P.known));
            left =
                λ text.
                let R = resolved_at sheet names spelled nodes i stack text in
                let rest : makings_from text spelled makings' (suc i) (n - suc i) ≡ makings_from text spelled makings (suc i) (n - suc i) =
                rows_past text spelled makings' makings (suc i) (suc i) (n - suc i) (omega arith) (rw (← add-one i) T.above) in
                let more : n - i ≡ suc (n - suc i) = omega (arith, P.within) in
                let state : reached text makings' waiting' refused' r.depth i ≡ typed_by R node.parts (reached text makings waiting refused depth (suc i)) =
                rw (more, T.waits text, f, T.refuses text, T.made text, rest) in
                ap (type_nodes sheet names (nodes_in text spelled nodes i)) state
                ∙ (sym (type_append sheet names (nodes_in text spelled nodes i) (closed_node_of text spelled node ∷ []) (reached text makings waiting refused depth (suc i))) ∙ P.left text);
          }

    -- no row is left
    pub pass_ends : {makings waiting : List ℕ} {refused : Refused} {depth : ℕ} → Passing makings waiting refused depth 0 → (waiting₀ : List ℕ) (first : ℕ) → stack_of waiting₀ first ≡ start → NodesTyped sheet names spelled nodes n waiting₀ first makings refused
    unfolding nodes_in type_nodes
    pass_ends {makings} {waiting} {refused} {depth} P waiting₀ first e =
        let all : n - 0 ≡ n = omega arith in
        record {
          makes = λ text. rw e (from_first text spelled makings n ∙ (rw all at (ap (λ (s : Typed). s.makes) (P.left text))));
          refuses = λ text. rw e (ap (λ (s : Typed). s.refused) (P.left text));
        }
