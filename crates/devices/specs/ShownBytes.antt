-- Bytes for contracts alone.
use Rattle.std.specs.Prelude.{ℕ, List, [], ◌∷◌, ◌++◌}
use Rattle.devices.specs.declared.shown_bytes.ShownBytes.{ShownBytes}
use Rattle.devices.specs.declared.shown_bytes.ShownBytes.TheVariants.{None, More'}

abbrev pub bytes_of : ShownBytes → List ℕ
bytes_of None = []
bytes_of (More' byte marker before) = bytes_of before ++ byte ∷ []
