use borrow.Author.Rules.{rules}
use mathlib.Core.Path.{refl, ap}
use lib.Dec.{eqb}
use borrow.Author.Tests.{eq-eqb, ne_eqb}
use Rattle.parsing_names.proofs.ByRole.{name_begins, name_in_record, name_bound, name_of_bound, name_of_field, path_of_bound, path_goes_on, no_name_lem}
use Rattle.parsing_names.proofs.Naming.{held_name_lem, held_path_lem, held_none}
use Rattle.parsing_names.proofs.name_move.Goals as goal

pub returns-then-top-eq12 : goal.returns-then-top-eq12
returns-then-top-eq12 c = held_name_lem (λ text names n f b p. name_in_record text names _ _ _ n _ _ _ _ _ c.role_of.ensures f b c.in-1.is (eq-eqb _ 12 c.if-top-eq12.true) c.holds_name-then-top-eq12.ensures) c.role_of.ensures (ap (λ x. eqb x 2) c.in-1.is) c.holds_name-then-top-eq12.ensures

pub returns-then-top-eq5 : goal.returns-then-top-eq5
returns-then-top-eq5 c = held_path_lem (λ text names n f b p. path_of_bound text names _ _ _ n _ _ _ _ _ c.role_of.ensures f b c.in-2.is (eq-eqb _ 5 c.if-top-eq5.true) p c.holds_name-then-top-eq5.ensures) c.role_of.ensures c.in-2.is c.holds_name-then-top-eq5.ensures

pub returns-in-0 : goal.returns-in-0
returns-in-0 c = held_name_lem (λ text names n f b p. name_begins text names _ _ _ n _ _ _ _ _ c.role_of.ensures f b c.in-0.is c.holds_name.ensures) c.role_of.ensures (ap (λ x. eqb x 2) c.in-0.is) c.holds_name.ensures

pub returns-else-top-eq12 : goal.returns-else-top-eq12
returns-else-top-eq12 c = held_name_lem (λ text names n f b p. name_bound text names _ _ _ n _ _ _ _ _ c.role_of.ensures f b c.in-1.is (ne_eqb _ 12 c.if-top-eq12.false) c.holds_name-in-1.ensures) c.role_of.ensures (ap (λ x. eqb x 2) c.in-1.is) c.holds_name-in-1.ensures

pub returns-else-top-eq5 : goal.returns-else-top-eq5
returns-else-top-eq5 c = held_path_lem (λ text names n f b p. path_goes_on text names _ _ _ n _ _ _ _ _ c.role_of.ensures f b c.in-2.is (ne_eqb _ 5 c.if-top-eq5.false) p c.holds_name-in-2.ensures) c.role_of.ensures c.in-2.is c.holds_name-in-2.ensures

pub returns-in-3 : goal.returns-in-3
returns-in-3 c = held_name_lem (λ text names n f b p. name_of_bound text names _ _ _ n _ _ _ _ _ c.role_of.ensures f b c.in-3.is c.holds_name-in-3.ensures) c.role_of.ensures (ap (λ x. eqb x 2) c.in-3.is) c.holds_name-in-3.ensures

pub returns-in-4 : goal.returns-in-4
returns-in-4 c = held_name_lem (λ text names n f b p. name_of_field text names _ _ _ n _ _ _ _ _ c.role_of.ensures f b c.in-4.is c.holds_name-in-4.ensures) c.role_of.ensures (ap (λ x. eqb x 2) c.in-4.is) c.holds_name-in-4.ensures

pub returns-in_default : goal.returns-in_default
returns-in_default c = let w = c.in_default.in_default-own.rest in held_none (λ text names n f b p. no_name_lem text names _ _ _ n _ _ _ _ _ c.role_of.ensures f b (ne_eqb _ 0 w.0.0.0.0.1) (ne_eqb _ 1 w.0.0.0.1) (ne_eqb _ 2 w.0.0.1) (ne_eqb _ 3 w.0.1) (ne_eqb _ 4 w.1) refl) refl
