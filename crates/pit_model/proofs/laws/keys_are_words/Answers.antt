use Rattle.pit_model.proofs.KeyFacts.{key_back, key_found}
use Rattle.pit_model.proofs.laws.keys_are_words.Goals as goal

pub returns : goal.returns
returns c = λ cell k. (key_found cell k, key_back cell k)
