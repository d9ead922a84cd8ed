-- Every text is read to its end or to a failure. Assumes nothing.
use Prim.Native.Nat.{ℕ, zero, suc, ◌+◌, ◌<◌, ◌≤◌}
use mathlib.Core.Path.{◌≡◌, refl, sym, ap, subst, ◌∙◌}
use mathlib.Core.Bool.{Bool, true, false, cond, false≢true}
use mathlib.Core.Logic.{◌⊎◌, inl, inr, ◌↔◌}
use mathlib.Core.List.{List, [], ◌∷◌, ◌++◌}
use native.Mathlib.Omega.{arith}
use borrow.Author.Tests.{eqb-true, lt-ltb, le-ltb}
use lib.Dec.{eqb, ltb}
use lib.ListN.{length}
use Rattle.pattern_words.specs.declared.Kind.{Kind}
use Rattle.pattern_words.proofs.Spelling.{either}
use Rattle.pattern_tokens.specs.Tokens.{token_at}
use Rattle.pattern_grammar.specs.Lexemes.{Spot, Lexeme, name, scalar, mark, end_mark, fails_mark, lexeme_at, of_kind, lexeme, Source, strictly}
use Rattle.pattern_grammar.specs.Trees.{Pattern, tuple_at, struct_at, slice_at, closer}
use Rattle.pattern_grammar.specs.Admitted.{admitted}
use Rattle.pattern_grammar.specs.Machine.{ForPattern, whole_text, for_item, for_field, Reading, begin, expect, read_amp, read_ref, read_mut, read_name, read_bound, read_path, read_sep, read_minus, read_literal, read_dots, read_from, read_to, read_to_path, read_alt, read_brace, read_label, read_index, read_field, read_etc, done, failed, starts, bounds, behind, ends, behind_path, behind_field, on_mark, step, feed, fresh, rest_stands}
use Rattle.pattern_grammar.specs.Parsed.{is_last, lexemes_from, lexemes, parsed}
use Rattle.pattern_grammar.proofs.Verdicts.{written_as, read_iff, Refused, refused}
use Rattle.pattern_grammar.proofs.Progress.{is_end, advances, end_there}

-- a reading is over
pub data Over : Reading → Type 0 where
  whole : (p : Pattern) (e : Spot) → Over (done p e)
  broken : (at : ℕ) → Over (failed at)

over_if : {x y : Reading} (b : Bool) → Over x → Over y → Over (cond b x y)
over_if true h g = h
over_if false h g = g

behind_end : (o : ForPattern) (text : Source) (p : Pattern) (q : Spot) → Over (behind text p o end_mark q)
unfolding behind closer
behind_end whole_text text p q = whole p q
behind_end (for_item (tuple_at c) is s) text p q = broken q.from
behind_end (for_item (struct_at n c) is s) text p q = broken q.from
behind_end (for_item (slice_at c) is s) text p q = broken q.from
behind_end (for_field h fs key c s) text p q = broken q.from

behind_fails : (o : ForPattern) (text : Source) (p : Pattern) (q : Spot) → Over (behind text p o fails_mark q)
unfolding behind closer
behind_fails whole_text text p q = broken q.from
behind_fails (for_item (tuple_at c) is s) text p q = broken q.from
behind_fails (for_item (struct_at n c) is s) text p q = broken q.from
behind_fails (for_item (slice_at c) is s) text p q = broken q.from
behind_fails (for_field h fs key c s) text p q = broken q.from

ends_end : (o : ForPattern) (q : Spot) → Over (ends o end_mark q)
unfolding ends closer
ends_end whole_text q = broken q.from
ends_end (for_item (tuple_at c) is s) q = broken q.from
ends_end (for_item (struct_at n c) is s) q = broken q.from
ends_end (for_item (slice_at c) is s) q = broken q.from
ends_end (for_field h fs key c s) q = broken q.from

-- the end of the text
end_over : (r : Reading) (text : Source) (q : Spot) → Over (on_mark text r end_mark q)
unfolding on_mark starts bounds behind_field
end_over (begin o) text q = ends_end o q
end_over (expect s) text q = broken q.from
end_over (read_amp a s) text q = broken q.from
end_over (read_ref i r) text q = broken q.from
end_over (read_mut i r u) text q = broken q.from
end_over (read_name n s) text q = behind_end _ text _ q
end_over (read_bound b s) text q = behind_end _ text _ q
end_over (read_path p c n s) text q = behind_end _ text _ q
end_over (read_sep p c i) text q = broken q.from
end_over (read_minus c i) text q = broken q.from
end_over (read_literal v s) text q = behind_end _ text _ q
end_over (read_dots d l) text q = over_if (rest_stands text l end_mark) (behind_end _ text _ q) (broken d.from)
end_over (read_from a d l) text q = behind_end _ text _ q
end_over (read_to h l) text q = broken q.from
end_over (read_to_path p h l) text q = behind_end _ text _ q
end_over (read_alt c) text q = behind_end c.waiting text c.pattern q
end_over (read_brace h fs s) text q = broken q.from
end_over (read_label n h fs s) text q = broken q.from
end_over (read_index i h fs s) text q = broken q.from
end_over (read_field f h fs s) text q = broken q.from
end_over (read_etc d h fs s) text q = broken q.from
end_over (done p e) text q = broken q.from
end_over (failed at) text q = broken at

-- what is no token
fails_over : (r : Reading) (text : Source) (q : Spot) → Over (on_mark text r fails_mark q)
unfolding on_mark starts bounds behind_path behind_field
fails_over (begin o) text q = broken q.from
fails_over (expect s) text q = broken q.from
fails_over (read_amp a s) text q = broken q.from
fails_over (read_ref i r) text q = broken q.from
fails_over (read_mut i r u) text q = broken q.from
fails_over (read_name n s) text q = broken q.from
fails_over (read_bound b s) text q = broken q.from
fails_over (read_path p c n s) text q = broken q.from
fails_over (read_sep p c i) text q = broken q.from
fails_over (read_minus c i) text q = broken q.from
fails_over (read_literal v s) text q = broken q.from
fails_over (read_dots d l) text q = over_if (rest_stands text l fails_mark) (behind_fails _ text _ q) (broken d.from)
fails_over (read_from a d l) text q = broken q.from
fails_over (read_to h l) text q = broken q.from
fails_over (read_to_path p h l) text q = broken q.from
fails_over (read_alt c) text q = behind_fails c.waiting text c.pattern q
fails_over (read_brace h fs s) text q = broken q.from
fails_over (read_label n h fs s) text q = broken q.from
fails_over (read_index i h fs s) text q = broken q.from
fails_over (read_field f h fs s) text q = broken q.from
fails_over (read_etc d h fs s) text q = broken q.from
fails_over (done p e) text q = broken q.from
fails_over (failed at) text q = broken at

last_over : (t : Lexeme) (text : Source) (r : Reading) → is_last t ≡ true → Over (step text r t)
unfolding is_last step
last_over (name n) text r e = absurd (false≢true e)
last_over (scalar v q) text r e = absurd (false≢true e)
last_over (mark m q) text r e = by (either (eqb m end_mark) (eqb m fails_mark) e)
  where
    by : ((eqb m end_mark ≡ true) ⊎ (eqb m fails_mark ≡ true)) → Over (on_mark text r m q)
    by (inl h) = subst (λ x. Over (on_mark text r x q)) (sym (eqb-true m end_mark h)) (end_over r text q)
    by (inr h) = subst (λ x. Over (on_mark text r x q)) (sym (eqb-true m fails_mark h)) (fails_over r text q)

-- with so many tokens a text is read from a position on
read_over :
    (n : ℕ) (text : List ℕ) (at : ℕ) (r : Reading) → length text < n + at → at ≤ length text → Over (feed (strictly text) (lexemes_from n text at) r)
unfolding lexemes_from feed
read_over zero text at r h g = absurd (omega arith)
read_over (suc n) text at r h g = by (is_last (lexeme (token_at text at))) refl (λ l m. read_over n text (token_at text at).to _ l m) (advances text at)
  where
    by :
        (b : Bool) → is_last (lexeme (token_at text at)) ≡ b
        → (length text < n + (token_at text at).to → (token_at text at).to ≤ length text
        → Over (feed (strictly text) (lexemes_from n text (token_at text at).to) (step (strictly text) r (lexeme (token_at text at)))))
        → ((is_last (lexeme (token_at text at)) ≡ true) ⊎ ((at < (token_at text at).to) × ((token_at text at).to ≤ length text)))
        → Over (feed (strictly text) (cond b [] (lexemes_from n text (token_at text at).to)) (step (strictly text) r (lexeme (token_at text at))))
    by true e down a = last_over (lexeme (token_at text at)) (strictly text) r e
    by false e down (inl l) = absurd (false≢true (sym e ∙ l))
    by false e down (inr a) =
        let l = a.0 in
        let m = a.1 in
        down (omega arith) m

-- every text has a tree or a position
pub text_over : (text : List ℕ) → Over (parsed text)
unfolding parsed lexemes
text_over text = over_if (ltb 16384 (length text)) (broken 16384) (read_over (suc (length text)) text 0 fresh (omega arith) (omega arith))

-- a text of more than 16,384 bytes is refused there, whatever is in it
pub text_long : (text : List ℕ) → 16384 < length text → parsed text ≡ failed 16384
unfolding parsed
text_long text h = rw (lt-ltb 16384 (length text) h) refl

short_text : (text : List ℕ) → length text ≤ 16384 → parsed text ≡ feed (strictly text) (lexemes text) fresh
unfolding parsed
short_text text h = rw (le-ltb 16384 (length text) h) refl

-- another is read as a tree where its tokens are what the tree is written as, and the tree is admitted: no other tree is, by `one-tree`
pub text_read :
    (text : List ℕ) (p : Pattern) (e : Spot) → length text ≤ 16384 → (parsed text ≡ done p e) ↔ ((written_as p e ≡ lexemes text) × (admitted (strictly text) p ≡ true))
text_read text p e h =
    let both = read_iff (strictly text) (lexemes text) p e in
    (λ r. both.0 (sym (short_text text h) ∙ r), λ w. short_text text h ∙ both.1 w)

-- or refused at the first token with which no admitted text begins
pub text_refused : (text : List ℕ) (at : ℕ) → length text ≤ 16384 → parsed text ≡ failed at → Refused text (lexemes text) at
text_refused text at h e = refused text (lexemes text) at (sym (short_text text h) ∙ e)

same_head : (x y : Lexeme) (xs ys : List Lexeme) → x ∷ xs ≡ y ∷ ys → (x ≡ y) × (xs ≡ ys)
same_head x y xs ys e = (ap (head_or x) e, ap tail e)
  where
    head_or : Lexeme → List Lexeme → Lexeme
    head_or d [] = d
    head_or d (z ∷ zs) = z

    tail : List Lexeme → List Lexeme
    tail [] = []
    tail (z ∷ zs) = zs

none_in : (xs ys : List Lexeme) (t : Lexeme) → [] ≡ xs ++ t ∷ ys → ⊥
none_in [] ys t e =
    let z : ◌≡◌ {A = ℕ} 0 1 = cc in
    omega arith
none_in (x ∷ xs) ys t e =
    let z : ◌≡◌ {A = ℕ} 0 1 = cc in
    omega arith

kind_from : (k : Kind) (s : Spot) → lexeme_at (of_kind k s) ≡ s.from
unfolding lexeme_at of_kind
kind_from (Kind.Name at) s = refl
kind_from (Kind.Char v) s = refl
kind_from Kind.Ref s = refl
kind_from Kind.Mut s = refl
kind_from Kind.True s = refl
kind_from Kind.False s = refl
kind_from Kind.Underscore s = refl
kind_from Kind.Integer s = refl
kind_from Kind.OpenParen s = refl
kind_from Kind.CloseParen s = refl
kind_from Kind.OpenBracket s = refl
kind_from Kind.CloseBracket s = refl
kind_from Kind.OpenBrace s = refl
kind_from Kind.CloseBrace s = refl
kind_from Kind.Comma s = refl
kind_from Kind.Or s = refl
kind_from Kind.And s = refl
kind_from Kind.AndAnd s = refl
kind_from Kind.Bind s = refl
kind_from Kind.Minus s = refl
kind_from Kind.Colon s = refl
kind_from Kind.PathSep s = refl
kind_from Kind.DotDot s = refl
kind_from Kind.DotDotEq s = refl
kind_from Kind.End s = refl
kind_from Kind.Fails s = refl

end_from :
    (n : ℕ) (xs ys : List Lexeme) (text : List ℕ) (at : ℕ) (q : Spot)
    → at ≤ length text → lexemes_from n text at ≡ xs ++ mark end_mark q ∷ ys → q.from ≡ length text
unfolding lexemes_from lexeme is_end lexeme_at
end_from zero xs ys text at q h e = absurd (none_in xs ys (mark end_mark q) e)
end_from (suc n) [] ys text at q h e =
    let t = (same_head _ _ _ _ e).0 in
    sym (ap lexeme_at t) ∙ (kind_from (token_at text at).kind _ ∙ end_there text at h (ap is_end t))
end_from (suc n) (x ∷ xs) ys text at q h e = by (is_last (lexeme (token_at text at))) refl (λ m f. end_from n xs ys text (token_at text at).to q m f) (advances text at) (same_head _ _ _ _ e).1
  where
    by :
        (b : Bool) → is_last (lexeme (token_at text at)) ≡ b
        → ((token_at text at).to ≤ length text → lexemes_from n text (token_at text at).to ≡ xs ++ mark end_mark q ∷ ys → q.from ≡ length text)
        → ((is_last (lexeme (token_at text at)) ≡ true) ⊎ ((at < (token_at text at).to) × ((token_at text at).to ≤ length text)))
        → cond b [] (lexemes_from n text (token_at text at).to) ≡ xs ++ mark end_mark q ∷ ys
        → q.from ≡ length text
    by true l down a f = absurd (none_in xs ys (mark end_mark q) f)
    by false l down (inl m) f = absurd (false≢true (sym l ∙ m))
    by false l down (inr m) f = down m.1 f

-- the end among a text's tokens is at the text's length
pub end_position : (text : List ℕ) (xs ys : List Lexeme) (q : Spot) → lexemes text ≡ xs ++ mark end_mark q ∷ ys → q.from ≡ length text
unfolding lexemes
end_position text xs ys q e = end_from (suc (length text)) xs ys text 0 q (omega arith) e
