use Rattle.std.proofs.Common.{◌∷◌, [], refl}
use Rattle.command_io.proofs.Again.{pieces_again}
use Rattle.command_io.proofs.laws.joined_text_comes_back.Goals as goal

pub returns-clause-by_lf : goal.returns-clause-by_lf
returns-clause-by_lf c = pieces_again c.args.text.now (45 ∷ 45 ∷ 10 ∷ []) c.args.rest.now c.requires.ended c.requires.uncut refl refl

pub returns-clause-by_cr_lf : goal.returns-clause-by_cr_lf
returns-clause-by_cr_lf c =
    pieces_again c.args.text.now (45 ∷ 45 ∷ 13 ∷ 10 ∷ []) c.args.rest.now c.requires.ended c.requires.uncut refl refl

pub returns-clause-at_the_end : goal.returns-clause-at_the_end
returns-clause-at_the_end c = pieces_again c.args.text.now (45 ∷ 45 ∷ []) [] c.requires.ended c.requires.uncut refl refl
