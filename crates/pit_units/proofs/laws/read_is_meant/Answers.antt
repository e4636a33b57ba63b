use Rattle.pit_units.proofs.Standing.{read_stands, stands_read}
use Rattle.pit_units.proofs.laws.read_is_meant.Goals as goal

pub returns : goal.returns
returns c = λ max text m few. (read_stands max text m few, stands_read max text m few)
