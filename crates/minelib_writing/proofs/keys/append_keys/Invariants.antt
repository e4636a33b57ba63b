use Rattle.std.proofs.Common.{◌≡◌, ◌++◌, ◌∷◌, [], take}
use Rattle.std.specs.List.{flat_map}
use Rattle.minelib_lines.specs.KeyParts.{text_in}
use Rattle.minelib_lines.specs.HeaderTable.{key_line}
use Rattle.minelib_writing.proofs.keys.append_keys.Given as goal

-- The lines so far are appended.
abbrev pub invariant-loop-key : goal.invariant-loop-key
invariant-loop-key l =
    l.out.items ≡ l.initial.out.items ++ flat_map (λ k. key_line k (text_in l.values k) ++ 10 ∷ []) (take l.key-index l.keys)
