-- The files that a compile writes for an instance, as a check reads them, and what the check reports.
use Rattle.std.specs.Prelude.{◌≡◌, ℕ, List, [], ◌∷◌, ◌++◌, Some, length, sum_by}
use Rattle.mine_instance.specs.Instance.{Instance}
use Rattle.mine_instance.specs.cpit.OfCpit.{cpit}
use Rattle.minelib_lines.specs.declared.text_name.TextName.TheVariants.{Blocks, Prec, Pcpsp, Cpit}
use Rattle.minelib_writing.specs.Texts.{text_named}
use Rattle.check_command.specs.Counts.{Texts, counts_words}
use Rattle.check_command.specs.declared.counts.Counts.{Counts}

-- all files except the UPIT, which a check does not read
abbrev pub texts_of : Instance → Texts
texts_of i = record {
  blocks = text_named Blocks i;
  prec = text_named Prec i;
  pcpsp = text_named Pcpsp i;
  cpit = Some (text_named Cpit i);
}

-- the numbers of blocks, arcs, coefficients and limits of the instance, and of the coefficients of its CPIT
abbrev pub own_counts : Instance → Counts
own_counts i = record {
  blocks = length i.blocks;
  arcs = sum_by length i.preds;
  coefficients = length i.coefs;
  limits = length i.limits;
  cpit = Some (length (cpit i).coefs);
}

-- the line with these counts was appended
abbrev pub ReportsCountsOf : Instance → (out_old out_new : List ℕ) → Type 0
ReportsCountsOf i out_old out_new = out_new ≡ out_old ++ (counts_words (own_counts i) ++ 10 ∷ [])
