use borrow.Enum.Refused.{opened}
use borrow.Author.Rules.{rules}
use mathlib.Core.Path.{refl, sym, ◌∙◌}
use Rattle.pattern_nodes.specs.Leaves.{leaf_pattern}
use Rattle.pattern_leaves.proofs.Leafing.{range_holds, path_holds_lem, literal_holds, leaf_lowers, leaf_refused, leaf_passed, leaf_path}
use Rattle.pattern_leaves.proofs.Defaults.{incomplete}
use Rattle.pattern_leaves.proofs.kinds.pattern_match_leaf.Goals as goal

pub pattern_match_range-requires : goal.pattern_match_range-requires
pattern_match_range-requires c =
    let ends = range_holds c.args.image.now c.args.row (sym c.in-Range.is ∙ c.from.ensures) c.requires.image_value.3 refl in
    record { image_value = (c.requires.image_value.0, c.requires.image_value.1, c.requires.image_value.2, ends.0, ends.1); ready = c.requires.ready }

pub path_leaf-requires : goal.path_leaf-requires
path_leaf-requires c = record { whole = (c.requires.image_value.1, path_holds_lem c.args.image.now c.args.row (sym c.in-Path.is ∙ c.from.ensures) c.requires.image_value.3 refl c.from-in-Path.ensures, c.requires.image_value.4); ready = c.requires.ready }

pub pattern_match_lit-requires : goal.pattern_match_lit-requires
pattern_match_lit-requires c = record { image_value = (c.requires.image_value.0, c.requires.image_value.1, c.requires.image_value.2, literal_holds c.args.image.now c.args.row (sym c.in-Lit.is ∙ c.from.ensures) c.requires.image_value.3 refl); ready = c.requires.ready }

pub returns-in-Wild : goal.returns-in-Wild
unfolding leaf_pattern
returns-in-Wild c = leaf_passed c.args.image.now c.args.bindings.now _ _ c.args.mode c.args.p c.args.row _ _ c.args.place (sym c.in-Wild.is ∙ c.from.ensures) refl c.requires.ready.1

pub returns-in-Range : goal.returns-in-Range
unfolding leaf_pattern
returns-in-Range c = leaf_lowers c.args.image.now c.args.bindings.now _ _ c.args.mode c.args.p c.args.row _ _ c.args.place (sym c.in-Range.is ∙ c.from.ensures) _ refl c.pattern_match_range.ensures

pub returns-in-Path : goal.returns-in-Path
returns-in-Path c = leaf_path c.args.image.now c.args.bindings.now _ _ c.args.mode c.args.p c.args.row _ _ c.args.place (sym c.in-Path.is ∙ c.from.ensures) refl c.from-in-Path.ensures c.path_leaf.ensures

pub returns-in-Lit : goal.returns-in-Lit
unfolding leaf_pattern
returns-in-Lit c = leaf_lowers c.args.image.now c.args.bindings.now _ _ c.args.mode c.args.p c.args.row _ _ c.args.place (sym c.in-Lit.is ∙ c.from.ensures) _ refl c.pattern_match_lit.ensures

pub returns-in-Expr : goal.returns-in-Expr
unfolding leaf_pattern
returns-in-Expr c = leaf_refused c.args.image.now c.args.bindings.now _ _ c.args.mode c.args.p c.args.row _ _ c.args.place (sym c.in-Expr.is ∙ c.from.ensures) refl

pub returns-in-Box : goal.returns-in-Box
unfolding leaf_pattern
returns-in-Box c = leaf_refused c.args.image.now c.args.bindings.now _ _ c.args.mode c.args.p c.args.row _ _ c.args.place (sym c.in-Box.is ∙ c.from.ensures) refl

pub returns-in-Deref : goal.returns-in-Deref
unfolding leaf_pattern
returns-in-Deref c = leaf_refused c.args.image.now c.args.bindings.now _ _ c.args.mode c.args.p c.args.row _ _ c.args.place (sym c.in-Deref.is ∙ c.from.ensures) refl

pub returns-in_default : goal.returns-in_default
returns-in_default c = leaf_refused c.args.image.now c.args.bindings.now _ _ c.args.mode c.args.p c.args.row _ _ c.args.place c.from.ensures (incomplete _ _ _ _ _ (opened c.in_default.in_default-own.keys8))
