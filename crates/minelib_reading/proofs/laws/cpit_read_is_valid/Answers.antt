use Rattle.minelib_reading.proofs.models.ValidRead.{read_cpit_valid}
use Rattle.minelib_reading.proofs.laws.cpit_read_is_valid.Goals as goal

pub returns : goal.returns
returns c = read_cpit_valid
