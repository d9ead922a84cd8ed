-- Where a pattern is read: its nodes, each with what it is read at, and the first of those that are refused. Assumes nothing: these are definitions.
use Rattle.std.specs.Prelude.{ℕ, ◌≤◌, ◌≡◌, List}
use Rattle.std.proofs.Math.Option.{Option, some}
use Rattle.pattern_syntax.specs.Written.{Node, Written, written, Parts, more, part_count}
use Rattle.pattern_typing.specs.Contexts.{Context, PartsRead, part_context}
use Rattle.pattern_typing.specs.Resolving.{resolved}

-- what the parts of a pattern that is read at a context are read at
unfoldable pub reads_parts : List ℕ → List ℕ → Written → Context → PartsRead
reads_parts sheet names (written at n ps) context = (resolved sheet names at n (part_count ps) context).reads

-- where a node itself is refused with 20, if it is
unfoldable pub own_refusal : List ℕ → List ℕ → Written → Context → Option ℕ
own_refusal sheet names (written at n ps) context = (resolved sheet names at n (part_count ps) context).refused_at

mutual
  -- reading a pattern at a context, a second one is read at a second context: the pattern itself, or one inside it
  pub data ReadsInside (sheet names : List ℕ) : Written → Context → Written → Context → Type 0 where
    itself : {w : Written} {c : Context} → ReadsInside sheet names w c w c
    inside :
        {at : ℕ} {n : Node} {ps : Parts} {c k : Context} {v : Written}
        → ReadsAmong sheet names ps (reads_parts sheet names (written at n ps) c) v k → ReadsInside sheet names (written at n ps) c v k

  pub data ReadsAmong (sheet names : List ℕ) : Parts → PartsRead → Written → Context → Type 0 where
    in_last :
        {ps : Parts} {w v : Written} {reads : PartsRead} {k : Context}
        → ReadsInside sheet names w (part_context sheet reads (part_count ps)) v k → ReadsAmong sheet names (more ps w) reads v k
    in_earlier :
        {ps : Parts} {w v : Written} {reads : PartsRead} {k : Context} → ReadsAmong sheet names ps reads v k → ReadsAmong sheet names (more ps w) reads v k

-- a node that is read inside is refused there
pub record RefusedInside (sheet names : List ℕ) (w : Written) (context : Context) (at : ℕ) : Type 0 where
  pub node : Written
  pub read : Context
  pub place : ReadsInside sheet names w context node read
  pub own : own_refusal sheet names node read ≡ some at

-- some node is refused at the position, and no other before it: "the first path or record field .., variant or constant .., or subpattern .."
pub record FirstRefused (sheet names : List ℕ) (w : Written) (context : Context) (at : ℕ) : Type 0 where
  pub one : RefusedInside sheet names w context at
  pub first : (other : ℕ) → RefusedInside sheet names w context other → at ≤ other
