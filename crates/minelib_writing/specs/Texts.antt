-- The files of an instance by name.
use Rattle.std.specs.Prelude.{ℕ, List}
use Rattle.mine_instance.specs.cpit.OfCpit.{cpit}
use Rattle.mine_instance.specs.Instance.{Instance}
use Rattle.minelib_writing.specs.Written.{text_blocks, text_prec, text_upit, text_pcpsp, text_cpit}
use Rattle.minelib_lines.specs.declared.text_name.TextName.{TextName}
use Rattle.minelib_lines.specs.declared.text_name.TextName.TheVariants as text

-- the contents of the file with this name; the CPIT file is the file of the instance's CPIT
abbrev pub text_named : TextName → Instance → List ℕ
text_named text.Blocks i = text_blocks i
text_named text.Prec i = text_prec i
text_named text.Upit i = text_upit i
text_named text.Pcpsp i = text_pcpsp i
text_named text.Cpit i = text_cpit (cpit i)
