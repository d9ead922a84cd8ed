-- What is made of the nodes of a well formed tree, one after another with a stack, is what the tree's own definition adds: its words on top of the
-- stack, and the same draft. Assumes nothing.
use Prim.Native.Nat.{ℕ, ◌+◌, ◌*◌}
use mathlib.Core.Path.{◌≡◌, refl, sym, ap, subst, ◌∙◌}
use mathlib.Core.Bool.{true, ◌&&◌}
use mathlib.Core.Option.{Option, none, some, some-ne-none}
use mathlib.Core.List.{List, [], ◌∷◌, ◌++◌, append_assoc, append-nil}
use native.Mathlib.Nat.{mul-zero, mul-suc}
use native.Mathlib.Omega.{arith}
use lib.ListN.{length, length-append}
use Rattle.image.proofs.Bools.{and_left, and_right}
use Rattle.pattern_syntax.specs.Written.{Written, written, Parts, no_parts, more, part_count}
use Rattle.pattern_syntax.specs.Formed.{node_formed, Stand, in_pattern, stands_in, may_stand, rest_place, node_in, rest_part_formed, formed, parts_formed}
use Rattle.pattern_typing.specs.Contexts.{Context, typed, PartsRead, part_context}
use Rattle.pattern_typing.specs.Closed.{ClosedMaking, closed_making, makings, makings_among}
use Rattle.pattern_typing.specs.Failing.{earlier, refused_in, refused_among}
use Rattle.pattern_typing.specs.Resolving.{resolved}
use Rattle.pattern_images.specs.Drafts.{Draft, empty_draft, Made}
use Rattle.pattern_images.specs.Emitting.{made, emit_node, emitted, emitted_parts}
use Rattle.draft_stack.specs.Stack.{Stacked, words_taken, words_put, stacked_on, emit_one, emit_up, may_have_parts, parts_stand}
use Rattle.draft_stack.proofs.Stacks.{words_put_lem, emit_append, first_stands, stand_append, emit_top}
use Rattle.draft_stack.proofs.Fitting.{stand_words, context_suits, parts_suit, Suited, node_suited}

none_first : (a b : Option ℕ) → earlier a b ≡ none → a ≡ none
unfolding earlier
none_first none b e = refl
none_first (some a) none e = e
none_first (some a) (some b) e = absurd (some-ne-none _ e)

none_second : (a b : Option ℕ) → earlier a b ≡ none → b ≡ none
unfolding earlier
none_second none b e = e
none_second (some a) none e = refl
none_second (some a) (some b) e = absurd (some-ne-none _ e)

module _ (sheet : List ℕ) where
  -- a row of makings from a stack and a draft on: what it leaves on the stack, so many words, and that each finds its parts
  pub record Raises (ms : List ClosedMaking) (stack : List ℕ) (d : Draft) (m : Made) (many : ℕ) : Type 0 where
    pub same : emit_up sheet ms stack d ≡ stacked_on stack m
    pub long : length m.stands ≡ many
    pub stand : parts_stand ms (length stack) ≡ true

  -- nothing at all
  raises_none : (stack : List ℕ) (d : Draft) → Raises [] stack d (made d []) 0
  unfolding emit_up parts_stand
  raises_none stack d = record { same = ap (λ (s : List ℕ). record { stack = s; draft = d }) (sym (append-nil stack)); long = refl; stand = refl }

  -- one row behind another
  raises_both : (xs ys : List ClosedMaking) (stack : List ℕ) (d : Draft) (m n : Made) (j k : ℕ) → Raises xs stack d m j → Raises ys (stack ++ m.stands) m.draft n k → Raises (xs ++ ys) stack d (made n.draft (m.stands ++ n.stands)) (j + k)
  raises_both xs ys stack d m n j k first second =
      record {
        same =
            emit_append sheet xs ys stack d
            ∙ ap (λ (u : Stacked). emit_up sheet ys u.stack u.draft) first.same
            ∙ second.same
            ∙ ap (λ (s : List ℕ). record { stack = s; draft = n.draft }) (append_assoc stack m.stands n.stands);
        long = omega (arith, length-append m.stands n.stands, first.long, second.long);
        stand =
            stand_append sheet xs ys stack d first.stand
            (subst (λ (u : Stacked). parts_stand ys (length u.stack) ≡ true) (sym first.same) second.stand);
      }

  -- a making behind what its parts left
  raises_node : (xs : List ClosedMaking) (m : ClosedMaking) (stack : List ℕ) (d : Draft) (parts : Made) (put : ℕ) → Raises xs stack d parts (words_taken m) → may_have_parts m.makes m.parts ≡ true → words_put m.makes (words_taken m) ≡ put → Raises (xs ++ m ∷ []) stack d (emit_node sheet m.makes m.parts parts.stands parts.draft) put
  unfolding emit_up parts_stand
  raises_node xs m stack d parts put first fine puts =
      record {
        same =
            emit_append sheet xs (m ∷ []) stack d
            ∙ ap (λ (u : Stacked). emit_one sheet m u.stack u.draft) first.same
            ∙ emit_top sheet m stack parts.stands parts.draft first.long;
        long = words_put_lem sheet m.makes m.parts parts.stands parts.draft ∙ ap (words_put m.makes) first.long ∙ puts;
        stand =
            stand_append sheet xs (m ∷ []) stack d first.stand
            (subst (λ (u : Stacked). parts_stand (m ∷ []) (length u.stack) ≡ true) (sym first.same)
            (first_stands sheet m [] (stack ++ parts.stands) parts.draft fine (omega (arith, length-append stack parts.stands, first.long)) refl));
      }

  module _ (names : List ℕ) where
    mutual
      unfolding formed node_in refused_in makings emitted words_taken parts_suit part_count

      -- a tree: its words and its draft
      pub raises_tree : (w : Written) (s : Stand) (context : Context) (stack : List ℕ) (d : Draft) → formed w s ≡ true → context_suits s context (node_in w) ≡ true → refused_in sheet names w context ≡ none → Raises (makings sheet names w context) stack d (emitted sheet names w context d) (stand_words s)
      raises_tree (written at n ps) s context stack d f c free =
          let r = resolved sheet names at n (part_count ps) context in
          let stands = may_stand n s in
          let counts = node_formed n (part_count ps) in
          let rests = rest_part_formed (rest_place n) ps in
          let below = parts_formed ps (stands_in n) in
          let inside = refused_among sheet names ps r.reads in
          let suited : Suited sheet n ps (stand_words s) r =
          node_suited sheet names at ps n s context
          (and_left stands counts (and_left (stands && counts) rests (and_left (stands && counts && rests) below f)))
          (and_right stands counts (and_left (stands && counts) rests (and_left (stands && counts && rests) below f)))
          (and_right (stands && counts) rests (and_left (stands && counts && rests) below f))
          c (none_first r.refused_at inside free) in
          let parts = raises_parts ps (stands_in n) r.reads stack d (and_right (stands && counts && rests) below f) suited.reads (none_second r.refused_at inside free) in
          let taken = ap (λ (k : ℕ). k * part_count ps) suited.each in
          raises_node (makings_among sheet names ps r.reads) (closed_making r.making (part_count ps)) stack d (emitted_parts sheet names ps r.reads d) (stand_words s)
          (subst (Raises (makings_among sheet names ps r.reads) stack d (emitted_parts sheet names ps r.reads d)) (sym taken) parts)
          suited.fine (ap (words_put r.making) taken ∙ suited.puts)

      -- parts: the words of one after those of the other
      raises_parts : (ps : Parts) (s : Stand) (reads : PartsRead) (stack : List ℕ) (d : Draft) → parts_formed ps s ≡ true → parts_suit sheet s reads ps ≡ true → refused_among sheet names ps reads ≡ none → Raises (makings_among sheet names ps reads) stack d (emitted_parts sheet names ps reads d) (stand_words s * part_count ps)
      raises_parts no_parts s reads stack d f c free = subst (Raises [] stack d (made d [])) (sym (mul-zero (stand_words s))) (raises_none stack d)
      raises_parts (more ps w) s reads stack d f c free =
          let context = part_context sheet reads (part_count ps) in
          let here = refused_in sheet names w context in
          let before = refused_among sheet names ps reads in
          let first = emitted_parts sheet names ps reads d in
          subst (Raises (makings_among sheet names ps reads ++ makings sheet names w context) stack d _) (sym (mul-suc (stand_words s) (part_count ps)))
          (raises_both (makings_among sheet names ps reads) (makings sheet names w context) stack d first (emitted sheet names w context first.draft) (stand_words s * part_count ps) (stand_words s)
          (raises_parts ps s reads stack d (and_left (parts_formed ps s) (formed w s) f) (and_right (context_suits s context (node_in w)) (parts_suit sheet s reads ps) c) (none_second here before free))
          (raises_tree w s context (stack ++ first.stands) first.draft (and_right (parts_formed ps s) (formed w s) f) (and_left (context_suits s context (node_in w)) (parts_suit sheet s reads ps) c) (none_first here before free)))

    -- the theorem: a pattern of a type
    pub emitted_upward : (w : Written) (t mode : ℕ) (stack : List ℕ) (d : Draft) → formed w in_pattern ≡ true → refused_in sheet names w (typed t mode) ≡ none → emit_up sheet (makings sheet names w (typed t mode)) stack d ≡ stacked_on stack (emitted sheet names w (typed t mode) d)
    emitted_upward w t mode stack d f free = (raises_tree w in_pattern (typed t mode) stack d f (unfold context_suits in refl) free).same

    -- each of its nodes finds its parts
    pub tree_parts_stand : (w : Written) (t mode : ℕ) → formed w in_pattern ≡ true → refused_in sheet names w (typed t mode) ≡ none → parts_stand (makings sheet names w (typed t mode)) 0 ≡ true
    tree_parts_stand w t mode f free = (raises_tree w in_pattern (typed t mode) [] empty_draft f (unfold context_suits in refl) free).stand
