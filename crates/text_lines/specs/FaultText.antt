-- The text of an invalid line of an instance's texts.
use Rattle.std.specs.Prelude.{ℕ, List, ◌++◌, codes, decimal}
use Rattle.text_lines.specs.declared.text_fault.TextFault.{TextFault}
use Rattle.text_lines.specs.declared.text_fault.TextFile.{TextFile}
use Rattle.text_lines.specs.declared.text_fault.TextFile.TheVariants as file
use Rattle.text_lines.specs.declared.text_fault.TextKind.{TextKind}
use Rattle.text_lines.specs.declared.text_fault.TextKind.TheVariants as kind

-- a file by the ending of its name
abbrev pub file_ending : TextFile → List ℕ
file_ending file.Blocks = codes "blocks"
file_ending file.Prec = codes "prec"
file_ending file.Pcpsp = codes "pcpsp"
file_ending file.Cpit = codes "cpit"

abbrev pub text_kind_name : TextKind → List ℕ
text_kind_name kind.Fields = codes "Fields"
text_kind_name kind.Number = codes "Number"
text_kind_name kind.TooFine = codes "TooFine"
text_kind_name kind.Range = codes "Range"
text_kind_name kind.Order = codes "Order"
text_kind_name kind.Count = codes "Count"
text_kind_name kind.Twice = codes "Twice"
text_kind_name kind.Key = codes "Key"
text_kind_name kind.Missing = codes "Missing"
text_kind_name kind.Name = codes "Name"

-- `FILE line N: K`
abbrev pub text_fault_text : TextFault → List ℕ
text_fault_text fault = file_ending fault.file ++ (codes " line " ++ (decimal fault.line ++ (codes ": " ++ text_kind_name fault.kind)))
