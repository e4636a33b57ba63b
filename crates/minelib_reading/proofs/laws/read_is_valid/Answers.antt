use Rattle.minelib_reading.proofs.models.ValidRead.{read_valid}
use Rattle.minelib_reading.proofs.laws.read_is_valid.Goals as goal

pub returns : goal.returns
returns c = read_valid
