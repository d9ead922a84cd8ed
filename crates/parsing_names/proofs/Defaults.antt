-- What a default arm answers, for each state that it stands for. Assumes nothing.
use mathlib.Core.Path.{◌≡◌, refl}
use mathlib.Core.List.{[], ◌∷◌}
use types.Run.{OneOf, miss}
use denote.Enum.Declared as Declared
use Rattle.parsing_machine.specs.declared.ReadState.{ReadState}
use Rattle.parsing_machine.specs.declared.ReadState.TheVariants.{Begin, Expect, BehindAmp, BehindRef, BehindMut, AtName, AtBound, AtPath, AtSep, AtMinus, AtLiteral, AtDots, AtFrom, AtTo, AtToPath, AtAlt, AtBrace, AtLabel, AtIndex, AtField, AtEtc}
use Rattle.parsing_machine.specs.contracts.ReadState as read-state
use Rattle.parsing_moves.specs.Roles.{role}

pub waits_for_no_name : (state : ReadState) → OneOf (5 ∷ 6 ∷ 7 ∷ 9 ∷ 10 ∷ 14 ∷ 15 ∷ 17 ∷ 18 ∷ 19 ∷ 20 ∷ []) (Declared.tag_of read-state.the_type state) → 5 ≡ role state
unfolding role
waits_for_no_name Begin h = absurd (miss (5 ∷ 6 ∷ 7 ∷ 9 ∷ 10 ∷ 14 ∷ 15 ∷ 17 ∷ 18 ∷ 19 ∷ 20 ∷ []) 0 tt h)
waits_for_no_name Expect h = absurd (miss (5 ∷ 6 ∷ 7 ∷ 9 ∷ 10 ∷ 14 ∷ 15 ∷ 17 ∷ 18 ∷ 19 ∷ 20 ∷ []) 1 tt h)
waits_for_no_name BehindAmp h = absurd (miss (5 ∷ 6 ∷ 7 ∷ 9 ∷ 10 ∷ 14 ∷ 15 ∷ 17 ∷ 18 ∷ 19 ∷ 20 ∷ []) 2 tt h)
waits_for_no_name BehindRef h = absurd (miss (5 ∷ 6 ∷ 7 ∷ 9 ∷ 10 ∷ 14 ∷ 15 ∷ 17 ∷ 18 ∷ 19 ∷ 20 ∷ []) 3 tt h)
waits_for_no_name BehindMut h = absurd (miss (5 ∷ 6 ∷ 7 ∷ 9 ∷ 10 ∷ 14 ∷ 15 ∷ 17 ∷ 18 ∷ 19 ∷ 20 ∷ []) 4 tt h)
waits_for_no_name AtName h = refl
waits_for_no_name AtBound h = refl
waits_for_no_name AtPath h = refl
waits_for_no_name AtSep h = absurd (miss (5 ∷ 6 ∷ 7 ∷ 9 ∷ 10 ∷ 14 ∷ 15 ∷ 17 ∷ 18 ∷ 19 ∷ 20 ∷ []) 8 tt h)
waits_for_no_name AtMinus h = refl
waits_for_no_name AtLiteral h = refl
waits_for_no_name AtDots h = absurd (miss (5 ∷ 6 ∷ 7 ∷ 9 ∷ 10 ∷ 14 ∷ 15 ∷ 17 ∷ 18 ∷ 19 ∷ 20 ∷ []) 11 tt h)
waits_for_no_name AtFrom h = absurd (miss (5 ∷ 6 ∷ 7 ∷ 9 ∷ 10 ∷ 14 ∷ 15 ∷ 17 ∷ 18 ∷ 19 ∷ 20 ∷ []) 12 tt h)
waits_for_no_name AtTo h = absurd (miss (5 ∷ 6 ∷ 7 ∷ 9 ∷ 10 ∷ 14 ∷ 15 ∷ 17 ∷ 18 ∷ 19 ∷ 20 ∷ []) 13 tt h)
waits_for_no_name AtToPath h = refl
waits_for_no_name AtAlt h = refl
waits_for_no_name AtBrace h = absurd (miss (5 ∷ 6 ∷ 7 ∷ 9 ∷ 10 ∷ 14 ∷ 15 ∷ 17 ∷ 18 ∷ 19 ∷ 20 ∷ []) 16 tt h)
waits_for_no_name AtLabel h = refl
waits_for_no_name AtIndex h = refl
waits_for_no_name AtField h = refl
waits_for_no_name AtEtc h = refl
