-- The result of reading the text of a feed to its end.
use Rattle.std.specs.Prelude.{Result, Ok, Err}
use Rattle.pit_units.specs.declared.or_memory.OrMemory.{OrMemory}
use Rattle.pit_units.specs.declared.or_memory.OrMemory.TheVariants as memory
use Rattle.devices.specs.declared.feeds.fed_fault.FedFault.{FedFault}
use Rattle.devices.specs.declared.feeds.fed_fault.FedFault.TheVariants.{Unread, Text}
use Rattle.devices.specs.declared.feeds.slurp.SlurpFault.{SlurpFault}
use Rattle.devices.specs.declared.feeds.slurp.SlurpFault.TheVariants.{OutOfMemory}

module _ {F : Type 0} where
  -- an error of the text, or out of memory
  abbrev pub fed_fault : OrMemory F → FedFault F
  fed_fault (memory.Fault fault) = Text fault
  fed_fault memory.OutOfMemory = Unread OutOfMemory

  -- whether the feed was read to its end, whatever its text states
  abbrev pub end_by : FedFault F → Result (Unit {0}) SlurpFault
  end_by (Unread fault) = Err fault
  end_by (Text fault) = Ok tt

  abbrev pub feed_end : {A : Type 0} → Result A (FedFault F) → Result (Unit {0}) SlurpFault
  feed_end (Ok x) = Ok tt
  feed_end (Err fault) = end_by fault

  -- what the text states, or its error, has this property, if the feed was read to its end
  abbrev pub IfFed : {A : Type 0} → Result A (FedFault F) → (Result A F → Type 0) → Type 0
  IfFed (Ok x) Has = Has (Ok x)
  IfFed (Err (Text fault)) Has = Has (Err fault)
  IfFed (Err (Unread fault)) Has = Unit {0}
