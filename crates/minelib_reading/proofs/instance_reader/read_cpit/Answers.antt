use Rattle.pit_units.proofs.BothWays.{found_of, only_of}
use Rattle.minelib_reading.specs.encoded.EncodedTexts.{EncodeCpit}
use Rattle.minelib_reading.proofs.instance_reader.read_cpit.Goals as goal

pub returns-clause-found : goal.returns-clause-found
returns-clause-found c =
    found_of (EncodeCpit c.args.n c.args.text.now) _ _ (λ cpit is. (c.cpits_are_encoded.ensures c.args.n c.args.text.now cpit).0 is)
    c.denoted_cpit.ensures.denoted

pub returns-clause-only : goal.returns-clause-only
returns-clause-only c = λ cpit encodes.
    only_of cpit _ _ ((c.cpits_are_encoded.ensures c.args.n c.args.text.now cpit).1 encodes) c.denoted_cpit.ensures.denoted
