use Rattle.pit_units.proofs.BothWays.{found_of, only_of}
use Rattle.minelib_reading.specs.encoded.EncodedTexts.{EncodeInstance}
use Rattle.minelib_reading.proofs.instance_reader.read_instance.Goals as goal

pub returns-clause-found : goal.returns-clause-found
returns-clause-found c =
    let encoded = c.instances_are_encoded.ensures c.args.blocks.now c.args.prec.now c.args.pcpsp.now in
    found_of (EncodeInstance c.args.blocks.now c.args.prec.now c.args.pcpsp.now) _ _ (λ i is. (encoded i).0 is) c.denoted_instance.ensures.denoted

pub returns-clause-only : goal.returns-clause-only
returns-clause-only c = λ i encodes.
    only_of i _ _ ((c.instances_are_encoded.ensures c.args.blocks.now c.args.prec.now c.args.pcpsp.now i).1 encodes) c.denoted_instance.ensures.denoted
