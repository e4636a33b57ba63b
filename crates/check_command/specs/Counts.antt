-- The counts of an instance's files.
use Rattle.std.specs.Prelude.{◌≡◌, ℕ, List, [], ◌∷◌, ◌++◌, length, sum_by, codes, Option, None, Some, Result, Ok}
use Rattle.std.specs.Fmt.{decimal}
use Rattle.pit_units.specs.Steps.{◌>>=◌}
use Rattle.minelib_reading.specs.Denotes.{cpit_denoted, denoted}
use Rattle.text_lines.specs.declared.text_fault.TextFault.{TextFault}
use Rattle.mine_instance.specs.Instance.{Instance}
use Rattle.check_command.specs.declared.counts.Counts.{Counts}

-- the counts of an instance, with the number of coefficients of its constrained pit limit problem, if there is one
abbrev pub counts_of : Instance → Option ℕ → Counts
counts_of i cpit = record {
  blocks = length i.blocks;
  arcs = sum_by length i.preds;
  coefficients = length i.coefs;
  limits = length i.limits;
  cpit = cpit;
}

-- the files of an instance, and of its constrained pit limit problem, if there is one
pub record Texts : Type 0 where
  pub blocks : List ℕ
  pub prec : List ℕ
  pub pcpsp : List ℕ
  pub cpit : Option (List ℕ)

-- the number of limits, and the number of coefficients of the constrained pit limit problem, if there is one
abbrev pub limits_words : ℕ → Option ℕ → List ℕ
limits_words limits None = decimal limits
limits_words limits (Some coefficients) = decimal limits ++ (codes " cpit " ++ decimal coefficients)

-- the words of the counts, with this number of coefficients of the constrained pit limit problem
abbrev pub words_with : Counts → Option ℕ → List ℕ
words_with c coefficients =
    codes "blocks " ++ (decimal c.blocks ++ (codes " arcs " ++ (decimal c.arcs ++ (codes " coefficients " ++ (decimal c.coefficients
    ++ (codes " limits " ++ limits_words c.limits coefficients))))))

-- the line of the counts, without its end
abbrev pub counts_words : Counts → List ℕ
counts_words c = words_with c c.cpit

-- the number of coefficients of the constrained pit limit problem of n blocks, if it has a text; or the text's first invalid line
unfoldable pub cpit_counted : ℕ → Option (List ℕ) → Result (Option ℕ) TextFault
cpit_counted n None = Ok None
cpit_counted n (Some text) = do
  c ← cpit_denoted n text
  Ok (Some (length c.coefs))

-- the counts of the instance that three texts denote, and of the problem that a fourth one denotes; or the first invalid line
unfoldable pub counted : Texts → Result Counts TextFault
counted texts = do
  i ← denoted texts.blocks texts.prec texts.pcpsp
  coefs ← cpit_counted (length i.blocks) texts.cpit
  Ok (counts_of i coefs)

-- the line with the counts of these texts, with its end
abbrev pub IsLineOf : Texts → List ℕ → Type 0
IsLineOf texts line = (counts : Counts) × (counted texts ≡ Ok counts) × (line ≡ counts_words counts ++ 10 ∷ [])

-- the same, and the line was appended
abbrev pub ReportsCounts : Texts → List ℕ → List ℕ → Type 0
ReportsCounts texts old new = (line : List ℕ) × IsLineOf texts line × (new ≡ old ++ line)
