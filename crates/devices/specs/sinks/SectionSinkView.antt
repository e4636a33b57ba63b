-- What contracts see of a vector to which texts are appended.
use Rattle.std.specs.Prelude.{ℕ, List, Bool, Some}
use Rattle.devices.specs.sinks.SinkState.{SinkState}

pub record SectionSinkView : Type 0 where
  -- whether a text was begun
  pub begun : Bool
  -- the bytes before the text, which never change
  pub before : List ℕ
  -- the bytes of the text
  pub taken : List ℕ
  -- the number of bytes that it can hold in all without allocating memory
  pub room : ℕ
  -- the number of calls whose memory was refused
  pub failures : ℕ

-- its state as a sink
abbrev pub section_sink_state : SectionSinkView → SinkState
section_sink_state s = record { begun = s.begun; before = s.before; taken = Some s.taken; failures = s.failures }
