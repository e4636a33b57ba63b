use Rattle.std.proofs.Common.{◌∙◌, ◌-◌, refl, arith}
use Rattle.precedence.proofs.bits.Looking.{set_apart, set_each}
use Rattle.precedence.proofs.lanes.looking.add_bits.Goals as goal

pub invariant_of-strips : goal.invariant_of-strips
invariant_of-strips c =
    let strips = c.args.strips.now in
    let k = c.len-count.result - 1 in
    let value = c.index_mut.ensures.value in
    let r = c.index_mut.result.now in
    record {
      each = strips.each ∙ set_each strips.strips.items _ k (omega arith) r value refl refl;
      apart = set_apart strips.strips.items _ k (omega arith) r value refl refl strips.apart;
    }
