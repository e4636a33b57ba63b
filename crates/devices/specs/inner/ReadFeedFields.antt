-- The bytes that an input has left, compared with the bytes that it had at first.
use Rattle.std.specs.Prelude.{◌≡◌, ℕ, List, Option, Some, None, drop, ⊤}

-- it gave the first n bytes, if it reported its bytes at first
abbrev pub HasGiven : ℕ → Option (List ℕ) → Option (List ℕ) → Type 0
HasGiven n None now = ⊤
HasGiven n (Some first) now = now ≡ Some (drop n first)
