-- The public call on parameters: every image, list, body and number is taken, or refused by document 01's number. Assumes nothing: these are definitions.
use Rattle.std.specs.Prelude.{Some, None, Ok, Err}
use Rattle.std.specs.Prelude.{ℕ, zero, suc, ◌+◌, ◌*◌, ◌/◌, ◌≡◌, Bool, true, false, not, ◌&&◌, List, [], ◌∷◌, eqb, ltb, leb, length, get_or}
use Rattle.std.proofs.Math.Option.{Option, none, some}
use Rattle.refusals.specs.Refusals.{Refusal, breaks_a_rule, names_nothing, refusal_at}
use Rattle.image.specs.Lists.{all_true}
use Rattle.image.specs.Tables.{type_count, pattern_count, binding_count}
use Rattle.image.specs.Tree.{tree}
use Rattle.image.specs.Valid.{valid}
use Rattle.mir.specs.declared.BasicBlockId.{BasicBlockId}
use Rattle.mir.specs.declared.Counts.{Counts}
use Rattle.state.specs.State.{Body, counts_of}
use Rattle.calls_spec.specs.Calls.{Called, bad_image, bad_call, refused_at, accepted, call, leaves}
use Rattle.calls_spec.specs.Promises.{Way}
use Rattle.body_calls_spec.specs.Calls.{body_taken}
use Rattle.pattern_matching.specs.Walking.{Ctx}
use Rattle.pattern_walk_spec.specs.Calls.{by_walk, start_ctx, Visits}
use Rattle.handed.specs.Handed.{bindings_hold, start_holds}
use Rattle.params_spec.specs.Results.{SelfParam}
use Rattle.params_spec.specs.Results.{ParamsCall}
use Rattle.params_spec.specs.Params.{Param, ParamsOut, plain_binding, lower_params_and_bindings}
use Rattle.body_calls_spec.specs.declared.PatternCallError.{PatternCallError}

-- so many parameters of a list, from the word k on: two words for each, its pattern and its type
unfoldable pub params_from : List ℕ → ℕ → ℕ → List Param
params_from words k zero = []
params_from words k (suc n) = record { pattern = get_or words k 65535; ty = get_or words (k + 1) 65535 } ∷ params_from words (k + 2) n

-- how many parameters a list has
abbrev pub param_count : List ℕ → ℕ
param_count words = length words / 2

-- the parameters of a list
abbrev pub params_of : List ℕ → List Param
params_of words = params_from words 0 (param_count words)

-- each names a pattern and a type
unfoldable pub params_named : List ℕ → List Param → Bool
params_named image [] = true
params_named image (q ∷ qs) = ltb q.pattern (pattern_count image) && ltb q.ty (type_count image) && params_named image qs

-- "At most 64 parameters", of two words each, each of which names a pattern and a type
unfoldable pub list_formed : List ℕ → List ℕ → Bool
list_formed image words = leb (param_count words) 64 && eqb (2 * param_count words) (length words) && params_named image (params_of words)

-- document 02: a parameter "is itself a Bind of that same binding, with no subpattern and annotation 0 or 1"; none is no such Bind
unfoldable pub binds_receiver : ℕ → Option ℕ → Bool
binds_receiver b none = false
binds_receiver b (some x) = eqb x b

-- no parameter is; only the parameters' own patterns are looked at, not those below
unfoldable pub none_binds_receiver : List ℕ → ℕ → List Param → Bool
none_binds_receiver image b [] = true
none_binds_receiver image b (q ∷ qs) = not (binds_receiver b (plain_binding (tree image q.pattern))) && none_binds_receiver image b qs

-- the same of self's binding; without self nothing is looked at
unfoldable pub receiver_apart : List ℕ → SelfParam → List Param → Bool
receiver_apart image None params = true
receiver_apart image (Some (b, ty)) params = none_binds_receiver image b.0 params

-- a list that is taken: "A call in which one is so is now number 1"
unfoldable pub list_holds : List ℕ → SelfParam → List ℕ → Bool
list_holds image self words = list_formed image words && receiver_apart image self (params_of words)

-- self names a binding and a type
unfoldable pub self_named : List ℕ → SelfParam → Bool
self_named image None = true
self_named image (Some (b, ty)) = ltb b.0 (binding_count image) && ltb ty (type_count image)

-- all else that the call is handed names something
unfoldable pub params_hold : List ℕ → SelfParam → List ℕ → List ℕ → Counts → BasicBlockId → Bool
params_hold image self bindings blocks c current =
    all_true (self_named image self ∷ bindings_hold (binding_count image) c bindings ∷ start_holds blocks c current ∷ [])

-- `lower_params_and_bindings`
unfoldable pub params_call : List ℕ → List ℕ → SelfParam → List ℕ → Body → Counts → BasicBlockId → Called ParamsOut
params_call image words self bindings b c current =
    call (valid image && list_holds image self words) (body_taken image b c && params_hold image self bindings b.blocks c current)
    (by_walk (lower_params_and_bindings image self (params_of words) bindings (start_ctx b c) current))

-- the answer: the counts, the block to go on from and the first parameter's local, which is the next one when the call comes
abbrev pub params_answer : Counts → Called ParamsOut → ParamsCall
params_answer c bad_image = Err PatternCallError.BadImage
params_answer c bad_call = Err PatternCallError.BadCall
params_answer c (refused_at e p) = Err (PatternCallError.Refused e (record { 0 = p }))
params_answer c (accepted r) = Ok (counts_of r.ctx.state, r.then, record { 0 = c.locals })

-- document 01's three numbers, where it is a refusal
abbrev pub params_refusal : ParamsCall → Option Refusal
params_refusal (Ok (c, then, first)) = none
params_refusal (Err (PatternCallError.Refused e p)) = some (refusal_at e p.0)
params_refusal (Err PatternCallError.BadCall) = some names_nothing
params_refusal (Err PatternCallError.BadImage) = some breaks_a_rule

-- how the call answers, and the context that an accepted walk leaves
abbrev pub params_way : Way ParamsOut ParamsCall
params_way = record { state_of = λ r. r.ctx.state; answer = params_answer; numbers = params_refusal }

abbrev pub params_ctx : ParamsOut → Ctx
params_ctx r = r.ctx

-- the bindings' locals after the call: "as handed in" after a refusal
abbrev pub bindings_after : List ℕ → Called ParamsOut → List ℕ
bindings_after bindings = leaves bindings bindings (λ r. r.bindings)

-- the call's promise, with the visits' table and the bindings' locals: m before and m' after
pub record GivesParams (m : List ℕ) (b : Body) (v : List ℕ) (c : Counts) (defined : Called ParamsOut) (r : ParamsCall) (m' : List ℕ) (b' : Body) (v' : List ℕ) : Type 0 where
  pub visits : Visits params_way params_ctx b v c defined r b' v'
  pub locals : m' ≡ bindings_after m defined

-- The contract, of what the call is handed, m, b and v being the bindings' locals, the body and the visits then, its answer r, and these three when it returns.
abbrev pub ParamsGives : List ℕ → List ℕ → SelfParam → Counts → BasicBlockId → List ℕ → Body → List ℕ → ParamsCall → List ℕ → Body → List ℕ → Type 0
ParamsGives image words self c current m b v = GivesParams m b v c (params_call image words self m b c current)
