use Rattle.mine_instance.proofs.ValueFacts.{values_found}
use Rattle.mine_instance.proofs.values.lazy.LazyValues.new.Goals as goal

pub returns-clause-of_model : goal.returns-clause-of_model
returns-clause-of_model c = λ plan rows n are is same. values_found c.args.worths c.args.positions.items plan rows n are is same
