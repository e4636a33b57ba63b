-- The files of an instance by name, and their extensions.
use Rattle.std.specs.Prelude.{ℕ, List, [], ◌∷◌, codes}
use Rattle.minelib_lines.specs.declared.text_name.TextName.{TextName}
use Rattle.minelib_lines.specs.declared.text_name.TextName.TheVariants as text

-- in the order of writing
abbrev pub all_texts : List TextName
all_texts = text.Blocks ∷ text.Prec ∷ text.Upit ∷ text.Pcpsp ∷ text.Cpit ∷ []

abbrev pub ending_of : TextName → List ℕ
ending_of text.Blocks = codes "blocks"
ending_of text.Prec = codes "prec"
ending_of text.Upit = codes "upit"
ending_of text.Pcpsp = codes "pcpsp"
ending_of text.Cpit = codes "cpit"
