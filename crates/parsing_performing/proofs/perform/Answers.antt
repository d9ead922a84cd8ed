use borrow.Author.Rules.{rules}
use native.Mathlib.Omega.{arith}
use Rattle.parsing_rests.proofs.Opens.{parts_wide}
use Rattle.parsing_performing.proofs.Made.{by_form, by_any, by_over, made_halts, made_holds, made_before, made_range, made_rest, made_passes, room_opens, room_two, room_behind_lem, room_shuts, room_range, room_before, room_range_before, room_open, room_passes, room_field, room_last}
use Rattle.parsing_performing.proofs.perform.Goals as goal

pub open_node-requires : goal.open_node-requires
open_node-requires c = room_opens _ _ c.in-Opens.is c.requires.0

pub open_two-requires : goal.open_two-requires
open_two-requires c = room_two _ _ c.in-OpensTwo.is c.requires.0

pub open_behind-requires : goal.open_behind-requires
open_behind-requires c = room_behind_lem _ _ c.in-OpensBehind.is c.requires.0

pub shut_node-requires : goal.shut_node-requires
shut_node-requires c = (room_shuts _ _ c.in-Shuts.is c.requires.0, c.requires.1)

pub shut_before-requires : goal.shut_before-requires
shut_before-requires c = (room_before _ _ c.in-ShutsBefore.is c.requires.0, c.requires.1)

pub shut_range-requires : goal.shut_range-requires
shut_range-requires c = (room_range _ _ c.in-ShutsRange.is c.requires.0, c.requires.1)

pub shut_range_before-requires : goal.shut_range_before-requires
shut_range_before-requires c = (room_range_before _ _ c.in-ShutsRangeBefore.is c.requires.0, c.requires.1)

pub open_range-requires : goal.open_range-requires
open_range-requires c = (room_open _ _ c.in-ShutsOpenRange.is c.requires.0, c.requires.1)

pub rest_read-requires : goal.rest_read-requires
rest_read-requires c = (omega (arith, c.requires.0), parts_wide c.requires.1)

pub behind_alt-requires : goal.behind_alt-requires
behind_alt-requires c = (room_passes _ _ c.in-PassesOn.is c.requires.0, parts_wide c.requires.1)

pub add_field-requires : goal.add_field-requires
add_field-requires c = (room_field _ _ c.in-AddsField.is c.requires.0, c.requires.1)

pub add_last_field-requires : goal.add_last_field-requires
add_last_field-requires c = (room_last _ _ c.in-AddsLastField.is c.requires.0, c.requires.1)

pub returns-in-Halts : goal.returns-in-Halts
returns-in-Halts c = record { performs = made_halts c.in-Halts.is; holds = rw c.in-Halts.is tt }

pub returns-in-Holds : goal.returns-in-Holds
returns-in-Holds c = record { performs = made_holds c.in-Holds.is c.hold.ensures; holds = rw c.in-Holds.is c.hold.ensures }

pub returns-in-Opens : goal.returns-in-Opens
returns-in-Opens c = record { performs = by_over c.in-Opens.is c.open_node.ensures; holds = rw c.in-Opens.is tt }

pub returns-in-OpensTwo : goal.returns-in-OpensTwo
returns-in-OpensTwo c = record { performs = by_over c.in-OpensTwo.is c.open_two.ensures; holds = rw c.in-OpensTwo.is tt }

pub returns-in-OpensBehind : goal.returns-in-OpensBehind
returns-in-OpensBehind c = record { performs = by_any c.in-OpensBehind.is c.open_behind.ensures; holds = rw c.in-OpensBehind.is tt }

pub returns-in-Mutates : goal.returns-in-Mutates
returns-in-Mutates c = record { performs = by_over c.in-Mutates.is c.make_mut.ensures; holds = rw c.in-Mutates.is tt }

pub returns-in-Shuts : goal.returns-in-Shuts
returns-in-Shuts c = record { performs = by_any c.in-Shuts.is c.shut_node.ensures; holds = rw c.in-Shuts.is tt }

pub returns-in-ShutsBefore : goal.returns-in-ShutsBefore
returns-in-ShutsBefore c = record { performs = made_before c.in-ShutsBefore.is c.shut_before.ensures; holds = rw c.in-ShutsBefore.is tt }

pub returns-in-ShutsRange : goal.returns-in-ShutsRange
returns-in-ShutsRange c = record { performs = by_any c.in-ShutsRange.is c.shut_range.ensures; holds = rw c.in-ShutsRange.is tt }

pub returns-in-ShutsRangeBefore : goal.returns-in-ShutsRangeBefore
returns-in-ShutsRangeBefore c = record { performs = by_form c.in-ShutsRangeBefore.is c.shut_range_before.ensures; holds = rw c.in-ShutsRangeBefore.is tt }

pub returns-in-ShutsOpenRange : goal.returns-in-ShutsOpenRange
returns-in-ShutsOpenRange c = record { performs = made_range c.in-ShutsOpenRange.is c.open_range.ensures; holds = rw c.in-ShutsOpenRange.is tt }

pub returns-in-ShutsRest : goal.returns-in-ShutsRest
returns-in-ShutsRest c = record { performs = made_rest c.in-ShutsRest.is c.rest_read.ensures; holds = rw c.in-ShutsRest.is tt }

pub returns-in-PassesOn : goal.returns-in-PassesOn
returns-in-PassesOn c = record { performs = made_passes c.in-PassesOn.is c.behind_alt.ensures; holds = rw c.in-PassesOn.is tt }

pub returns-in-ShutsTop : goal.returns-in-ShutsTop
returns-in-ShutsTop c = record { performs = by_any c.in-ShutsTop.is c.shut_top.ensures; holds = rw c.in-ShutsTop.is tt }

pub returns-in-AddsField : goal.returns-in-AddsField
returns-in-AddsField c = record { performs = by_any c.in-AddsField.is c.add_field.ensures; holds = rw c.in-AddsField.is tt }

pub returns-in-AddsLastField : goal.returns-in-AddsLastField
returns-in-AddsLastField c = record { performs = by_any c.in-AddsLastField.is c.add_last_field.ensures; holds = rw c.in-AddsLastField.is tt }
