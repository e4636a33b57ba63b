-- The counts of an instance's files, one file after the other.
use Rattle.std.specs.Prelude.{ℕ, List, None, Some, Result, Ok}
use Rattle.pit_units.specs.Steps.{◌>>=◌}
use Rattle.minelib_reading.specs.FedCounts.{arcs_counted, blocks_counted, model_counted}
use Rattle.minelib_lines.specs.declared.problem.Problem.TheVariants as problem
use Rattle.text_lines.specs.Reading.{in_file}
use Rattle.text_lines.specs.declared.text_fault.LineFault.{LineFault}
use Rattle.text_lines.specs.declared.text_fault.TextFault.{TextFault}
use Rattle.text_lines.specs.declared.text_fault.TextFile.{TextFile}
use Rattle.text_lines.specs.declared.text_fault.TextFile.TheVariants.{Blocks, Prec, Pcpsp, Cpit}
use Rattle.check_command.specs.declared.counts.Counts.{Counts}

-- before the first file
abbrev pub no_counts : Counts
no_counts = record { blocks = 0; arcs = 0; coefficients = 0; limits = 0; cpit = None }

-- the counts so far, and the counts of this file's text
unfoldable pub counted_in : TextFile → Counts → List ℕ → Result Counts LineFault
counted_in Blocks c text = blocks_counted text >>= λ n. Ok (record c { blocks = n })
counted_in Prec c text = arcs_counted c.blocks text >>= λ arcs. Ok (record c { arcs = arcs })
counted_in Pcpsp c text =
    model_counted problem.Pcpsp c.blocks text >>= λ x. Ok (record c { coefficients = x.0; limits = x.1 })
counted_in Cpit c text = model_counted problem.Cpit c.blocks text >>= λ x. Ok (record c { cpit = Some x.0 })

-- the same, unless a line of an earlier file is invalid
unfoldable pub counted_on : TextFile → Result Counts TextFault → List ℕ → Result Counts TextFault
counted_on file so_far text = so_far >>= λ c. in_file file (counted_in file c text)
