-- What a table of names holds when bytes have been put behind those in use. Assumes nothing: these are definitions.
use Rattle.std.specs.Prelude.{ℕ, ◌+◌, ◌≡◌, List, length, take}
use Rattle.pattern_syntax.specs.Reduced.{bytes_from}

-- the bytes stand behind the first so many, which stay, and up to `end`
pub record Spelled (before : List ℕ) (named : ℕ) (bytes : List ℕ) (end : ℕ) (after : List ℕ) : Type 0 where
  pub below : take named after ≡ take named before
  pub there : bytes_from after named end ≡ bytes
  pub long : end ≡ named + length bytes
