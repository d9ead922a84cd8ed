-- The ways through a token's move: a name, one behind `::`, a char, an integer that is a field, another mark. Assumes nothing.
use Prim.Native.Nat.{ℕ, ◌+◌, ◌*◌, ◌-◌, ◌<◌, ◌≤◌}
use mathlib.Core.Path.{◌≡◌, refl, sym, ap, ◌∙◌}
use mathlib.Core.Bool.{Bool, true, false, cond, false≢true, true≢false}
use mathlib.Core.List.{List, ◌++◌}
use native.Mathlib.Omega.{arith}
use lib.Dec.{eqb}
use lib.ListN.{length, take, drop, length-append}
use borrow.Author.Tests.{eq-eqb, eqb-true}
use Rattle.text_chars.specs.Bytes.{ascii}
use Rattle.pattern_grammar.specs.Lexemes.{Spot, Identifier, Lexeme, name, scalar, mark, path_sep_mark, integer_mark}
use Rattle.pattern_syntax.specs.Written.{Name}
use Rattle.pattern_syntax.specs.Reduced.{bytes_from, ident_bytes}
use Rattle.parsing_machine.specs.declared.ReadState.{ReadState}
use Rattle.parsing_machine.specs.declared.ReadState.TheVariants.{AtSep}
use Rattle.parsing_machine.specs.Moves.{Held, Move, holds, name_move, scalar_move, mark_move}
use Rattle.parsing_moves.specs.declared.HeldRow.{HeldRow}
use Rattle.parsing_moves.specs.declared.NodeMove.{NodeMove}
use Rattle.parsing_moves.specs.declared.NodeMove.TheVariants.{Holds}
use Rattle.parsing_moves.specs.Rows.{plain_held, held_in, move_of, is_index, spot_of, DecidesMark}
use Rattle.parsing_moves.specs.Roles.{role, DecidesScalar}
use Rattle.parsing_names.specs.Naming.{NamesHeld}
use Rattle.token_spans.specs.Spans.{lexeme_spot, Lies}
use Rattle.token_rows.specs.declared.TokenRow.{TokenRow}
use Rattle.token_rows.specs.TokenRows.{spot_from, lexeme_of}
use Rattle.spelled_names.specs.Spelling.{Spelled}
use Rattle.spelled_names.proofs.Cutting.{bytes_below, bytes_split, bytes_later, same_range}
use Rattle.token_moves.specs.TokenMoves.{move_at, pending, pending_behind, holds_path, PathEnds, Readable, MovesOn}
use Rattle.token_moves.proofs.Paths.{keeps_path, move_pending, mark_apart, name_owes, scalar_owes, scalar_keeps}
use Rattle.token_moves.proofs.States.{behind_sep, in_record_lem, held_path_lem, pending_same}

length_bytes : (text : List ℕ) (from to : ℕ) → from ≤ to → to ≤ length text → length (bytes_from text from to) ≡ to - from
unfolding bytes_from
length_bytes text from to h g = lib.Seq.length-take-le (to - from) (drop from text) (omega (arith, lib.ListN.length-drop from text))

-- a mark that is read leaves a path held if one was, and the mark is `::`
kept_at :
    (text names : List ℕ) (s : ReadState) (h : HeldRow) (top m : ℕ) (q : Spot) (made : NodeMove)
    → move_of text names made ≡ mark_move text s (held_in text names s h) top m q → (s' : ReadState) (h' : HeldRow) → made ≡ Holds s' h' → holds_path s' ≡ true
    → (holds_path s ≡ true) × (holds s' (held_in text names s' h') ≡ holds AtSep (held_in text names s h))
unfolding move_of keeps_path
kept_at text names s h top m q made e s' h' f p =
    let g : holds s' (held_in text names s' h') ≡ mark_move text s (held_in text names s h) top m q = rw f at e in
    let k = (mark_apart text s (held_in text names s h) top m q).kept (sym (ap keeps_path g) ∙ p) in
    (k.0, g ∙ k.1)

same_state : (s t : ReadState) (h g : Held) → holds s h ≡ holds t g → s ≡ t
same_state s t h g e = cc

same_held : (s t : ReadState) (h g : Held) → holds s h ≡ holds t g → h ≡ g
same_held s t h g e = cc

-- so it is the same path
mark_ends :
    (text : List ℕ) (s : ReadState) (h : HeldRow) (top m : ℕ) (q : Spot) (named : ℕ) (made : NodeMove)
    → PathEnds s h named → ((names : List ℕ) → move_of text names made ≡ mark_move text s (held_in text names s h) top m q)
    → (s' : ReadState) (h' : HeldRow) → made ≡ Holds s' h' → PathEnds s' h' named
mark_ends text s h top m q named made ends e s' h' f p =
    let there = (kept_at text text s h top m q made (e text) s' h' f p).0 in
    let old = ends there in
    let same : (names : List ℕ) → bytes_from names h'.from h'.to ≡ bytes_from names h.from h.to = λ names.
    let k = (kept_at text names s h top m q made (e names) s' h' f p).1 in
    ap (λ (x : Held). x.name.bytes) (sym (held_path_lem text names s' h' p) ∙ (same_held s' AtSep _ _ k ∙ held_path_lem text names s h there)) in
    let r = same_range h.from h.to h'.from h'.to old.0 same in
    (omega (arith, r.0, r.1, old.0), r.1 ∙ old.1)

-- what is left to be copied, by what the move is
owing : (text names : List ℕ) (made : NodeMove) (v : Move) → move_of text names made ≡ v → pending_behind made ≡ move_pending v
owing text names made v e = sym (pending_same text names made) ∙ ap move_pending e

module _ (text before : List ℕ) (named : ℕ) (s : ReadState) (h : HeldRow) (top : ℕ) (token : TokenRow) (ready : Readable text named s h (lexeme_of token)) where
  -- a name
  module _ (sort : token.sort ≡ 0) where
    abbrev called : Identifier
    called = record { own = token.own; spot = spot_from token.from token.to }

    name_lex : lexeme_of token ≡ name called
    unfolding lexeme_of
    name_lex = rw sort

    name_spot : lexeme_spot (lexeme_of token) ≡ spot_from token.from token.to
    unfolding lexeme_spot
    name_spot = ap lexeme_spot name_lex

    pub own_from_lem : token.from ≤ token.own
    own_from_lem = (ready.lies.own called name_lex).0

    pub own_to : token.own < token.to
    own_to = (ready.lies.own called name_lex).1

    pub to_inside : token.to ≤ length text
    to_inside = omega (arith, ready.lies.inside, ap (λ (q : Spot). q.to) name_spot)

    pub name_room : named + pending s ≤ token.from
    name_room = omega (arith, ready.room, ap (λ (q : Spot). q.from) name_spot)

    pub sep_room : (k : ℕ) → k ≡ role s → k ≡ 2 → named + 2 + (token.to - token.own) ≤ 16384
    sep_room k e f =
        let p = (behind_sep s (eq-eqb (role s) 2 (sym e ∙ f))).1 in
        omega (arith, p, name_room, own_from_lem, own_to, to_inside, ready.short)

    pub own_room : named + (token.to - token.own) ≤ 16384
    own_room = omega (arith, name_room, own_from_lem, own_to, to_inside, ready.short)

    pub sep_end : (end : ℕ) (after : List ℕ) → Spelled before named (ascii "::" ++ bytes_from text token.own token.to) end after → end ≡ named + 2 + (token.to - token.own)
    unfolding ascii
    sep_end end after d = omega (arith, d.long, length_bytes text token.own token.to (omega (arith, own_to)) to_inside)

    pub own_end : (end : ℕ) (after : List ℕ) → Spelled before named (bytes_from text token.own token.to) end after → end ≡ named + (token.to - token.own)
    own_end end after d = omega (arith, d.long, length_bytes text token.own token.to (omega (arith, own_to)) to_inside)

    -- what is said of every name
    module _ (made : NodeMove) (start end : ℕ) (after : List ℕ) (w : NamesHeld s h top token.from start end made) (grows : named ≤ end) (small : end ≤ token.to) (below : take named after ≡ take named before) where
      name_on :
          (bytes_from after start end ≡ bytes_from text token.own token.to)
          → (eqb (role s) 2 ≡ true → (names : List ℕ) → take end names ≡ take end after → bytes_from names h.from end ≡ bytes_from names h.from h.to ++ (ascii "::" ++ bytes_from text token.own token.to))
          → ((s' : ReadState) (h' : HeldRow) → made ≡ Holds s' h' → PathEnds s' h' end)
          → MovesOn text before named s h top (lexeme_of token) made end after
      unfolding move_at ident_bytes
      name_on there path ends =
          let moved : (names : List ℕ) → take end names ≡ take end after → move_of text names made ≡ name_move text s (held_in text names s h) top called = λ names e.
          w.decides text names called refl (bytes_below end names after start end (omega arith) e ∙ there) (λ r. path r names e) in
          let owed = owing text after made _ (moved after refl) ∙ name_owes text s (held_in text after s h) top called in
          record {
            below = below;
            grows = grows;
            moves = λ names e. moved names e ∙ sym (ap (move_at text s (held_in text names s h) top) name_lex);
            ends = ends;
            room = omega (arith, owed, small, ap (λ (q : Spot). q.to) name_spot);
          }

    -- its bytes alone
    pub name_read :
        (k : ℕ) (made : NodeMove) (end : ℕ) (after : List ℕ) → k ≡ role s → eqb k 2 ≡ false → Spelled before named (bytes_from text token.own token.to) end after
        → NamesHeld s h top token.from named end made → MovesOn text before named s h top (lexeme_of token) made end after
    name_read k made end after e z d w =
        let no : eqb (role s) 2 ≡ false = sym (ap (λ x. eqb x 2) e) ∙ z in
        let long = own_end end after d in
        name_on made named end after w (omega (arith, long)) (omega (arith, long, name_room, own_from_lem, own_to)) d.below d.there
        (λ r. absurd (false≢true (sym no ∙ r)))
        (λ s' h' f p.
        let g = w.ends s' h' f in
        let b : h'.from ≡ named = g.0 ∙ ap (λ x. cond x h.from named) no in
        (omega (arith, b, g.1, long, own_to), g.1))

    -- `::` and its bytes
    pub path_read :
        (k : ℕ) (made : NodeMove) (end : ℕ) (after : List ℕ) → k ≡ role s → k ≡ 2 → Spelled before named (ascii "::" ++ bytes_from text token.own token.to) end after
        → NamesHeld s h top token.from (named + 2) end made → MovesOn text before named s h top (lexeme_of token) made end after
    unfolding ascii
    path_read k made end after e z d w =
        let yes : eqb (role s) 2 ≡ true = eq-eqb (role s) 2 (sym e ∙ z) in
        let sep = behind_sep s yes in
        let old = ready.path sep.0 in
        let two = sep.1 in
        let long = sep_end end after d in
        name_on made (named + 2) end after w (omega (arith, long)) (omega (arith, long, two, name_room, own_from_lem, own_to)) d.below
        (bytes_later after named 2 end ∙ ap (drop 2) d.there)
        (λ r names f.
        bytes_split names h.from h.to end (omega (arith, old.0)) (omega (arith, old.1, long))
        ∙ ap (λ (x : List ℕ). bytes_from names h.from h.to ++ x)
        (ap (λ x. bytes_from names x end) old.1 ∙ (bytes_below end names after named end (omega arith) f ∙ d.there)))
        (λ s' h' f p.
        let g = w.ends s' h' f in
        let b : h'.from ≡ h.from = g.0 ∙ ap (λ x. cond x h.from (named + 2)) yes in
        (omega (arith, b, g.1, long, old.0, old.1), g.1))

  -- a char
  module _ (sort : token.sort ≡ 1) where
    scalar_lex : lexeme_of token ≡ scalar (token.own * 65536 + token.mark) (spot_from token.from token.to)
    unfolding lexeme_of
    scalar_lex = rw sort

    scalar_spot : lexeme_spot (lexeme_of token) ≡ spot_from token.from token.to
    unfolding lexeme_spot
    scalar_spot = ap lexeme_spot scalar_lex

    pub scalar_read : (made : NodeMove) → DecidesScalar s token.mark token.own token.from made → MovesOn text before named s h top (lexeme_of token) made named before
    unfolding move_at move_of keeps_path
    scalar_read made w =
        let v : ℕ = token.own * 65536 + token.mark in
        let q : Spot = spot_from token.from token.to in
        let moved : (names : List ℕ) → move_of text names made ≡ scalar_move s v q = λ names. w text names token.to in
        let owed = owing text before made _ (moved before) ∙ scalar_owes s v q in
        record {
          below = refl;
          grows = omega arith;
          moves = λ names e. moved names ∙ sym (ap (move_at text s (held_in text names s h) top) scalar_lex);
          ends = λ s' h' f p.
              let g : holds s' (held_in text before s' h') ≡ scalar_move s v q = rw f at (moved before) in
              absurd (true≢false (sym p ∙ (ap keeps_path g ∙ scalar_keeps s v q)));
          room = omega (arith, owed, ready.room, ready.lies.long);
        }

  -- a mark
  module _ (not-name : eqb token.sort 0 ≡ false) (not-char : eqb token.sort 1 ≡ false) where
    abbrev spot : Spot
    spot = spot_from token.from token.to

    mark_lex : lexeme_of token ≡ mark token.mark spot
    unfolding lexeme_of
    mark_lex = rw (not-name, not-char)

    mark_spot : lexeme_spot (lexeme_of token) ≡ spot
    unfolding lexeme_spot
    mark_spot = ap lexeme_spot mark_lex

    pub mark_inside : token.to ≤ length text
    mark_inside = omega (arith, ready.lies.inside, ap (λ (q : Spot). q.to) mark_spot)

    pub mark_long : token.from ≤ token.to
    mark_long = omega (arith, ready.lies.long, ap (λ (q : Spot). q.from) mark_spot, ap (λ (q : Spot). q.to) mark_spot)

    pub mark_room : named + pending s ≤ token.from
    mark_room = omega (arith, ready.room, ap (λ (q : Spot). q.from) mark_spot)

    pub index_room : named + (token.to - token.from) ≤ 16384
    index_room = omega (arith, mark_room, mark_long, mark_inside, ready.short)

    pub mark_word : token.from < 65535
    mark_word = omega (arith, mark_long, mark_inside, ready.short)

    pub index_end : (end : ℕ) (after : List ℕ) → Spelled before named (bytes_from text token.from token.to) end after → end ≡ named + (token.to - token.from)
    index_end end after d = omega (arith, d.long, length_bytes text token.from token.to mark_long mark_inside)

    -- an integer that is a field
    pub index_read :
        (made : NodeMove) (end : ℕ) (after : List ℕ) → token.mark ≡ 11 → eqb (role s) 4 ≡ true → Spelled before named (bytes_from text token.from token.to) end after
        → DecidesMark text s h top token.mark token.from token.to named end made → MovesOn text before named s h top (lexeme_of token) made end after
    unfolding move_at
    index_read made end after e r d w =
        let long = index_end end after d in
        let moved : (names : List ℕ) → take end names ≡ take end after → move_of text names made ≡ mark_move text s (held_in text names s h) top token.mark spot = λ names f.
        w names (λ _. bytes_below end names after named end (omega arith) f ∙ d.there) in
        let a = (mark_apart text s (held_in text after s h) top token.mark spot).owes in
        let z : ◌≡◌ {A = ℕ} (cond (eqb token.mark path_sep_mark) 2 0) 0 = ap (λ x. cond (eqb x path_sep_mark) 2 0) e in
        let owed = owing text after made _ (moved after refl) in
        record {
          below = d.below;
          grows = omega (arith, long);
          moves = λ names f. moved names f ∙ sym (ap (move_at text s (held_in text names s h) top) mark_lex);
          ends = λ s' h' f p.
              absurd (true≢false (sym (kept_at text after s h top token.mark spot made (moved after refl) s' h' f p).0 ∙ in_record_lem s r));
          room = omega (arith, owed, a, z, long, mark_room, mark_long, ap (λ (q : Spot). q.to) mark_spot);
        }

    -- `::` has two bytes
    sep_long : cond (eqb token.mark path_sep_mark) 2 0 + token.from ≤ token.to
    sep_long = by (eqb token.mark path_sep_mark) refl
      where
        by : (b : Bool) → eqb token.mark path_sep_mark ≡ b → cond b 2 0 + token.from ≤ token.to
        by true e =
            let p = ready.lies.path spot (mark_lex ∙ ap (λ x. mark x spot) (eqb-true token.mark path_sep_mark e)) in
            omega (arith, p)
        by false e = omega (arith, mark_long)

    -- another
    pub mark_read :
        (made : NodeMove) → is_index s token.mark ≡ false → DecidesMark text s h top token.mark token.from token.to 0 0 made
        → MovesOn text before named s h top (lexeme_of token) made named before
    unfolding move_at
    mark_read made i w =
        let moved : (names : List ℕ) → move_of text names made ≡ mark_move text s (held_in text names s h) top token.mark spot = λ names.
        w names (λ e. absurd (false≢true (sym i ∙ e))) in
        let a = (mark_apart text s (held_in text before s h) top token.mark spot).owes in
        let owed = owing text before made _ (moved before) in
        record {
          below = refl;
          grows = omega arith;
          moves = λ names f. moved names ∙ sym (ap (move_at text s (held_in text names s h) top) mark_lex);
          ends = mark_ends text s h top token.mark spot named made ready.path moved;
          room = omega (arith, owed, a, sep_long, mark_room, ap (λ (q : Spot). q.to) mark_spot);
        }
