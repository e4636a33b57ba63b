use Rattle.std.proofs.Common.{◌<◌, None, Some, arith, refl}
use Rattle.zone_csv.proofs.ZoneFacts.{few_blocks, own_blocks, reader_returns, zone_fails, zone_states}
use Rattle.zone_csv.specs.Zone.{blocks_of, fault_of}
use Rattle.zone_csv.proofs.zone_reader.ZoneReader.new.Goals as goal

pub returns-clause-says : goal.returns-clause-says
unfolding blocks_of fault_of
returns-clause-says c = rw (c.new.ensures.records, c.grid.ensures.value) refl

pub returns-clause-encoded : goal.returns-clause-encoded
returns-clause-encoded c = λ blocks.
    let says = reader_returns c.args.plan.now.grid c.args.zone c.args.text.items _ (returns-clause-says c) blocks None in
    let small : c.args.zone < 64 = omega (arith, c.grid.ensures.kept.zones) in
    let is = c.grid.ensures.kept.grid in
    let states = zone_states c.args.plan.now.grid c.args.zone (is.0.1.0, is.1.1.0, is.2.1.0) small c.args.text.items blocks in
    (λ h. states.0 (says.0 h), λ h. says.1 (states.1 h))

pub returns-clause-invalid : goal.returns-clause-invalid
returns-clause-invalid c = λ blocks fault.
    let says = reader_returns c.args.plan.now.grid c.args.zone c.args.text.items _ (returns-clause-says c) blocks (Some fault) in
    let small : c.args.zone < 64 = omega (arith, c.grid.ensures.kept.zones) in
    let is = c.grid.ensures.kept.grid in
    let fails = zone_fails c.args.plan.now.grid c.args.zone (is.0.1.0, is.1.1.0, is.2.1.0) small c.args.text.items blocks fault in
    (λ h. fails.0 (says.0 h), λ h. says.1 (fails.1 h))

pub returns-clause-few : goal.returns-clause-few
returns-clause-few c = few_blocks c.args.plan.now.grid c.args.zone c.args.text.items

pub returns-clause-own : goal.returns-clause-own
returns-clause-own c =
    let small : c.args.zone < 64 = omega (arith, c.grid.ensures.kept.zones) in
    own_blocks c.args.plan.now.grid c.args.zone c.args.text.items small
