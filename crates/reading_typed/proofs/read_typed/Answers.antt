use Rattle.std.specs.Prelude.{Some, None}
use borrow.Author.Rules.{rules}
use Rattle.reading_typed.proofs.Passing.{refused_typed, image_ready, image_typed, limit_typed}
use Rattle.reading_typed.proofs.read_typed.Goals as goal

pub returns-in-Some : goal.returns-in-Some
returns-in-Some c = refused_typed c.type_nodes.ensures _ c.requires.1 _ _ c.in-Some.is

pub make_image-requires : goal.make_image-requires
make_image-requires c = (image_ready c.type_nodes.ensures _ c.requires.1 c.requires.0 c.in_default.is, (search rules, (c.requires.1.few, search rules)))

pub returns-in-Some-make_image : goal.returns-in-Some-make_image
returns-in-Some-make_image c = image_typed c.type_nodes.ensures _ c.requires.1 _ _ _ c.in_default.is c.requires.0.ruled (rw c.in-Some-make_image.is at c.make_image.ensures)

pub returns-in-None : goal.returns-in-None
returns-in-None c = limit_typed c.type_nodes.ensures _ c.requires.1 _ _ c.in_default.is (rw c.in-None.is at c.make_image.ensures)
