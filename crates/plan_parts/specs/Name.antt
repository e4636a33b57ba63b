-- A NAME: 1 to 64 bytes, each an ASCII letter, a digit, `_`, `-` or `.`.
use Rattle.std.specs.Prelude.{ℕ, Bool, List, length, nat_le, ◌&&◌, ◌||◌, ◌==◌}
use Rattle.std.specs.List.{list_all}
use Rattle.plan_parts.specs.declared.ranges.TheConstants.{MAX_NAME_BYTES}

-- an ASCII letter, a digit, `_`, `-` or `.`
abbrev pub is_name_byte : ℕ → Bool
is_name_byte b =
    (nat_le 97 b && nat_le b 122) || (nat_le 65 b && nat_le b 90) || (nat_le 48 b && nat_le b 57) || (b == 95) || (b == 45) || (b == 46)

-- 1 to 64 such bytes
abbrev pub is_name : List ℕ → Bool
is_name bytes = nat_le 1 (length bytes) && nat_le (length bytes) MAX_NAME_BYTES && list_all is_name_byte bytes
