use Rattle.std.proofs.Common.{arith}
use Rattle.devices.proofs.Giving.{gave_after}
use Rattle.devices.proofs.feeds.filling.pull_after.Goals as goal

pub returns-clause-gave : goal.returns-clause-gave
returns-clause-gave g c =
    gave_after c.pull.result c.args.filled _ _ c.args.buffer.now c.pull.new.buffer _ _ (omega (arith, c.requires.room)) c.pull.auto.buffer
    c.pull.ensures.within c.pull.ensures.gives
