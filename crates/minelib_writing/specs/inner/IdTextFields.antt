-- The number of identifiers that texts represent.
use Rattle.std.specs.Prelude.{◌≡◌, ℕ, ◌-◌, ◌<◌, length}
use Rattle.std.specs.List.{range_with_len}
use Rattle.minelib_writing.specs.declared.id_text.IdText.TheInside.{Inside}
use Rattle.minelib_writing.specs.inner.Spaced.{spaced, AreStarts}

-- each identifier has a start, and the last has an end
abbrev pub ids_in : Inside → ℕ
ids_in t = length t.starts.items - 1

pub record KeepsTexts (t : Inside) : Type 0 where
  pub text : t.text.items ≡ spaced (range_with_len 0 (ids_in t))
  pub starts : AreStarts t.starts.items
  pub some : 0 < length t.starts.items
