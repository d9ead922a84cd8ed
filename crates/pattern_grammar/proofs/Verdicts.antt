-- What the machine's answer means: the one admitted tree that is written as the tokens, or the first token with which none begins. Assumes
-- nothing.
use Prim.Native.Nat.{ℕ}
use mathlib.Core.Path.{◌≡◌, refl, sym, ap, ◌∙◌}
use mathlib.Core.Bool.{true, false, true≢false, false≢true}
use mathlib.Core.Logic.{◌⊎◌, inl, inr, ◌↔◌}
use mathlib.Core.Option.{some}
use mathlib.Core.List.{List, [], ◌∷◌, ◌++◌}
use Rattle.pattern_grammar.specs.Lexemes.{Spot, Lexeme, mark, end_mark, lexeme_at, Source, strictly, loosely}
use Rattle.pattern_grammar.specs.Trees.{Pattern, pattern_t}
use Rattle.pattern_grammar.specs.Admitted.{admitted}
use Rattle.pattern_grammar.specs.Machine.{Reading, done, failed, step, feed, fresh, is_failed}
use Rattle.pattern_grammar.proofs.Complete.{complete}
use Rattle.pattern_grammar.proofs.Sound.{goes_or_not, feed_failed, feed_join, feed_going, sound, none_begins}
use Rattle.pattern_grammar.proofs.Viable.{completion, viable}
use Rattle.pattern_grammar.proofs.Kept.{read_admitted}
use Rattle.pattern_grammar.proofs.Settled.{settled, settled_written, settled_admitted}
use Rattle.pattern_grammar.proofs.Positions.{IsOver, is_dots, own_at, Why, by_grammar, over_wide, rest_behind, of_own, judged}

-- a whole text in tokens: a tree, and the text's end
abbrev pub written_as : Pattern → Spot → List Lexeme
written_as p e = pattern_t p (mark end_mark e ∷ [])

-- the tokens are read as a tree where they are what it is written as, and it is admitted
pub read_iff :
    (text : Source) (ts : List Lexeme) (p : Pattern) (e : Spot) → (feed text ts fresh ≡ done p e) ↔ ((written_as p e ≡ ts) × (admitted text p ≡ true))
read_iff text ts p e =
    (λ h. (sound text ts p e h, read_admitted text ts p e h), λ w. sym (ap (λ x. feed text x fresh) w.0) ∙ complete text p e w.1)

-- tokens with which the text of an admitted tree begins
pub record Beginning (text : Source) (ts : List Lexeme) : Type 0 where
  pub tree : Pattern
  pub end : Spot
  pub more : List Lexeme
  pub written : written_as tree end ≡ ts ++ more
  pub sure : admitted text tree ≡ true

-- what has not failed is such a beginning
pub goes_begins : (text : Source) (ts : List Lexeme) → is_failed (feed text ts fresh) ≡ false → Beginning text ts
goes_begins text ts e =
    let f = viable (feed text ts fresh) text e in
    let whole : feed text (ts ++ completion (feed text ts fresh)) fresh ≡ done f.tree f.end = feed_join ts (completion (feed text ts fresh)) text fresh ∙ f.reads in
    record {
      tree = f.tree;
      end = f.end;
      more = completion (feed text ts fresh);
      written = sound text (ts ++ completion (feed text ts fresh)) f.tree f.end whole;
      sure = read_admitted text (ts ++ completion (feed text ts fresh)) f.tree f.end whole;
    }

-- why a token fails, and so where: it fails there by the grammar alone, which has no text that begins so; it is an integer over 16 bytes; it is a
-- `..` behind `&`; or the rest or the `a..` before it may not stand there, and the position is theirs
pub data Cause (text : List ℕ) (before : List Lexeme) (token : Lexeme) (at : ℕ) : Type 0 where
  ungrammatical :
      at ≡ lexeme_at token → ((p : Pattern) (e : Spot) (us : List Lexeme) → ¬ (written_as p e ≡ before ++ token ∷ us)) → Cause text before token at
  integer_over : at ≡ lexeme_at token → IsOver text token → Cause text before token at
  dots_behind_reference : at ≡ lexeme_at token → is_dots token ≡ true → Cause text before token at
  last_read : own_at (feed (strictly text) before fresh) ≡ some at → Cause text before token at

-- the token that fails: what is before it begins the text of an admitted tree, and with it none begins so
pub record Refused (text : List ℕ) (ts : List Lexeme) (at : ℕ) : Type 0 where
  pub before : List Lexeme
  pub token : Lexeme
  pub behind : List Lexeme
  pub split : ts ≡ before ++ token ∷ behind
  pub begun : Beginning (strictly text) before
  pub none : (p : Pattern) (e : Spot) (us : List Lexeme) → admitted (strictly text) p ≡ true → ¬ (written_as p e ≡ before ++ token ∷ us)
  pub cause : Cause text before token at

-- where a reading fails
record FailsAt (text : Source) (ts : List Lexeme) (r : Reading) (at : ℕ) : Type 0 where
  before : List Lexeme
  token : Lexeme
  behind : List Lexeme
  split : ts ≡ before ++ token ∷ behind
  goes : is_failed (feed text before r) ≡ false
  fails : step text (feed text before r) token ≡ failed at

same : (a b : ℕ) → failed a ≡ failed b → a ≡ b
same a b e = cc

fails_at_lem : (ts : List Lexeme) (text : Source) (r : Reading) (at : ℕ) → is_failed r ≡ false → feed text ts r ≡ failed at → FailsAt text ts r at
unfolding feed is_failed
fails_at_lem [] text r at g e = absurd (false≢true (sym g ∙ ap is_failed e))
fails_at_lem (t ∷ ts) text r at g e = go (λ h. fails_at_lem ts text (step text r t) at h e) (goes_or_not (step text r t))
  where
    later : FailsAt text ts (step text r t) at → FailsAt text (t ∷ ts) r at
    later f = record {
      before = t ∷ f.before;
      token = f.token;
      behind = f.behind;
      split = ap (t ∷◌) f.split;
      goes = f.goes;
      fails = f.fails;
    }

    go : (is_failed (step text r t) ≡ false → FailsAt text ts (step text r t) at) → ((is_failed (step text r t) ≡ false) ⊎ ((a : ℕ) × (step text r t ≡ failed a))) → FailsAt text (t ∷ ts) r at
    go down (inl h) = later (down h)
    go down (inr f) = record {
      before = [];
      token = t;
      behind = ts;
      split = refl;
      goes = g;
      fails = f.1 ∙ ap failed (same f.0 at (sym (feed_failed ts text f.0) ∙ (sym (ap (feed text ts) f.1) ∙ e)));
    }

joined : (xs : List Lexeme) (t : Lexeme) (us : List Lexeme) → (xs ++ t ∷ []) ++ us ≡ xs ++ t ∷ us
joined [] t us = refl
joined (x ∷ xs) t us = ap (x ∷◌) (joined xs t us)

-- with a token that fails no text begins so
none_so :
    (text : Source) (before : List Lexeme) (t : Lexeme) (at : ℕ)
    → step text (feed text before fresh) t ≡ failed at
    → (p : Pattern) (e : Spot) (us : List Lexeme) → admitted text p ≡ true → ¬ (written_as p e ≡ before ++ t ∷ us)
unfolding feed
none_so text before t at f p e us a w =
    none_begins text (before ++ t ∷ []) us at p e (feed_join before (t ∷ []) text fresh ∙ f) a (w ∙ sym (joined before t us))

-- until it fails a text is read as by the grammar alone
alike :
    (ts : List Lexeme) (text : List ℕ) (r : Reading)
    → is_failed (feed (strictly text) ts r) ≡ false → feed (loosely text) ts r ≡ feed (strictly text) ts r
unfolding feed
alike [] text r e = refl
alike (t ∷ ts) text r e =
    ap (feed (loosely text) ts) ((judged t text r).agree (feed_going ts (strictly text) (step (strictly text) r t) e))
    ∙ alike ts text (step (strictly text) r t) e

is_failed_lem : (r : Reading) → is_failed r ≡ true → (at : ℕ) × (r ≡ failed at)
is_failed_lem r e = by (goes_or_not r)
  where
    by : ((is_failed r ≡ false) ⊎ ((at : ℕ) × (r ≡ failed at))) → (at : ℕ) × (r ≡ failed at)
    by (inl f) = absurd (true≢false (sym e ∙ f))
    by (inr f) = f

caused :
    (text : List ℕ) (before : List Lexeme) (t : Lexeme) (at : ℕ)
    → is_failed (feed (strictly text) before fresh) ≡ false
    → Why (lexeme_at t) (own_at (feed (strictly text) before fresh)) (IsOver text t) (is_dots t) (step (loosely text) (feed (strictly text) before fresh) t) at
    → Cause text before t at
caused text before t at g (by_grammar e f) =
    let failing = is_failed_lem _ f in
    ungrammatical e
    (λ p end us w. none_so (loosely text) before t failing.0 (ap (λ r. step (loosely text) r t) (alike before text fresh g) ∙ failing.1)
    (settled p) end us (settled_admitted p text) (settled_written p (mark end_mark end ∷ []) ∙ w))
caused text before t at g (over_wide e f) = integer_over e f
caused text before t at g (rest_behind e f) = dots_behind_reference e f
caused text before t at g (of_own e) = last_read e

-- a refusal is at the first token with which no admitted text begins
pub refused : (text : List ℕ) (ts : List Lexeme) (at : ℕ) → feed (strictly text) ts fresh ≡ failed at → Refused text ts at
unfolding is_failed
refused text ts at e =
    let f = fails_at_lem ts (strictly text) fresh at refl e in
    record {
      before = f.before;
      token = f.token;
      behind = f.behind;
      split = f.split;
      begun = goes_begins (strictly text) f.before f.goes;
      none = none_so (strictly text) f.before f.token at f.fails;
      cause =
          caused text f.before f.token at f.goes ((judged f.token text (feed (strictly text) f.before fresh)).place at f.fails);
    }
