-- A feed that was not read completely, as the program reports it.
use Rattle.std.proofs.Common.{◌≡◌, ◌∙◌, Err, refl, sym}
use Rattle.std.specs.Prelude.{Result}
use Rattle.devices.specs.declared.feeds.slurp.SlurpFault.{SlurpFault}
use Rattle.devices.specs.declared.feeds.slurp.SlurpFault.TheVariants as slurp
use Rattle.command_io.specs.Refused.{unread}
use Rattle.command_io.specs.declared.refused.Refused.{Refused}
use Rattle.command_io.specs.declared.refused.Refused.TheVariants.{FeedFailed}
use Rattle.command_io.specs.declared.refused.source.Source.{Source}

-- it is reported as failed only if it failed
pub as_failed : {B : Type 0} (source : Source) (fault : SlurpFault) (why : Refused) (answer : Result B Refused) → why ≡ unread source fault
    → answer ≡ Err why → answer ≡ Err (FeedFailed source) → fault ≡ slurp.FeedFailed
as_failed source slurp.FeedFailed why answer e was is = refl
as_failed source slurp.TooLong why answer e was is = let clash = sym was ∙ is in absurd cc
as_failed source slurp.OutOfMemory why answer e was is = let clash = sym was ∙ is in absurd cc
