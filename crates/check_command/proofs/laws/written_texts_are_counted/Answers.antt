use Rattle.std.proofs.Common.{◌≡◌, Ok}
use Rattle.check_command.specs.Counts.{counted}
use Rattle.check_command.specs.WrittenTexts.{own_counts, texts_of}
use Rattle.check_command.proofs.WrittenCounts.{counted_back, reported_back}
use Rattle.mine_instance.specs.Instance.{Instance}
use Rattle.mine_instance.specs.WellFormed.{IsWellFormed}
use Rattle.mine_instance.specs.Valid.{IsValid}
use Rattle.mine_instance.specs.cpit.OfCpit.{cpit}
use Rattle.check_command.proofs.laws.written_texts_are_counted.Goals as goal

pub returns : goal.returns
returns c =
    let back : (i : Instance) → IsValid i → IsWellFormed i → counted (texts_of i) ≡ Ok (own_counts i) =
    λ i valid kept. counted_back i valid (c.written_is_read.ensures i valid kept)
    (c.written_cpit_is_read.ensures (cpit i) (c.a_valid_instance_has_a_cpit.ensures i valid) (c.a_well_formed_instance_has_a_well_formed_cpit.ensures i kept)) in
    record { counted = back; reported = λ i old new valid kept reported. reported_back i old new (back i valid kept) reported }
