-- Which locals a call of `pattern_match` is handed and hands out. Assumes nothing: these are definitions.
use Rattle.std.specs.Prelude.{◌<◌, length}
use Rattle.named.specs.Named.{NamedBelow, WordsBelow}
use Rattle.called.specs.Call.{Call, HandedOut, before, after}

-- none that is not made yet: a body and its scopes, the bindings' table and the place name only locals below the count
pub record NoneUnmade (call : Call) (out : HandedOut) : Type 0 where
  pub handed_in : NamedBelow (before call)
  pub bindings : WordsBelow call.bindings (length (before call).locals)
  pub place : call.place.local.0 < length (before call).locals
  pub handed_out : NamedBelow (after out)
