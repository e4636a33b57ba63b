use Rattle.std.proofs.Common.{◌≡◌, take}
use Rattle.devices.specs.ShownBytes.{bytes_of}
use Rattle.devices.proofs.shown_bytes.shown.Given as goal

abbrev pub invariant-loop-byte : goal.invariant-loop-byte
invariant-loop-byte l = bytes_of l.shown ≡ take l.byte-index l.bytes
