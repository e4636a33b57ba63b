use Rattle.std.proofs.Common.{ap}
use Rattle.minelib_writing.specs.Texts.{text_named}
use Rattle.minelib_text.proofs.laws.even_zones.Goals as goal

pub returns : goal.returns
returns c plan listed cones even name = ap (text_named name) (c.even_zones.ensures plan listed cones even)
