-- How a name binds by its marks: 1 `ref`, 2 `mut`, 3 `ref mut`. Assumes nothing: these are definitions.
use Rattle.std.specs.Prelude.{ℕ, cond, ◌||◌, eqb, leb}

-- how a name with these marks binds, and its annotation
abbrev pub mode_word : ℕ → ℕ → ℕ
mode_word more mode = cond (eqb more 1 || eqb more 3) (cond (leb 2 more) 2 1) (cond (leb 2 more) 0 mode)

abbrev pub annotation_word : ℕ → ℕ
annotation_word more = cond (eqb more 1 || eqb more 3) 2 (cond (leb 2 more) 1 0)
