-- What comes of parameters, and which of them are lowered. Assumes nothing: these are definitions.
use Rattle.std.specs.Prelude.{None}
use Rattle.std.specs.Prelude.{ℕ, Bool, false, List, eqb, get_or}
use Rattle.image.specs.Tree.{Pat}
use Rattle.pattern_matching.specs.Walking.{Out}
use Rattle.params_spec.specs.Params.{ParamsOut}
use Rattle.cases_spec.specs.Cases.{if_bind}

-- what comes of parameters is what a walk with no else gives
abbrev pub returned : ParamsOut → Out
returned r = record { ctx = r.ctx; then = r.then; else = None }

-- the pattern of a parameter is a Bind whose binding's local is the parameter's own, l: it needs nothing, and every other one is lowered
unfoldable pub own_local : List ℕ → Pat → ℕ → Bool
own_local bindings pat l = if_bind pat (λ h b s how. eqb l (get_or bindings b 65535)) false
