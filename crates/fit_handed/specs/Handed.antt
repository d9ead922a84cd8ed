-- What a call of the fit test is handed, where its numbers name something. Assumes nothing: these are definitions.
use Rattle.std.specs.Prelude.{ℕ, Bool, ◌&&◌, List, eqb, ltb, length}

-- with so many bindings, patterns and types: the bindings' table is as long as it must be, and the pattern p and the type t are there
unfoldable pub handed : ℕ → ℕ → ℕ → List ℕ → ℕ → ℕ → Bool
handed bindingsThere patterns types bindings p t = eqb (length bindings) bindingsThere && ltb p patterns && ltb t types
