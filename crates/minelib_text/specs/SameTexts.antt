-- Instances that have the same texts.
use Rattle.std.specs.Prelude.{◌≡◌}
use Rattle.mine_instance.specs.Instance.{Instance}
use Rattle.minelib_writing.specs.Texts.{text_named}
use Rattle.minelib_lines.specs.declared.text_name.TextName.{TextName}

-- each text of one is that of the other
abbrev pub HaveSameTexts : Instance → Instance → Type 0
HaveSameTexts i j = (name : TextName) → text_named name i ≡ text_named name j
