use Rattle.fit_shapes.proofs.places.+type_behind.Given as goal

abbrev pub decreases-type_behind : goal.decreases-type_behind
decreases-type_behind l = l.derefs
