use Rattle.std.proofs.Common.{rules}
use Rattle.minelib_lines.specs.KeyParts.{text_in}
use Rattle.minelib_lines.specs.HeaderTable.{key_lines}
use Rattle.minelib_writing.specs.Written.{section_lines}
use Rattle.minelib_writing.proofs.KeptFacts.{on_ok_three}
use Rattle.minelib_writing.proofs.SectionsWritten.{continues, lines_cut_before}
use Rattle.minelib_writing.proofs.files.ModelFileText.write.Goals as goal

pub returns : goal.returns
returns g c =
    let file = c.args.self.now in
    let keys = key_lines (text_in file.header) file.keys.now in
    let sections = section_lines (g.V.Parted.lines file.values) (g.C.Parted.lines file.coefs) (g.L.Parted.lines file.limits) in
    record {
      writes = continues _ _ keys sections c.write_sections.result c.in_ok-write_keys.ensures c.write_sections.ensures.writes;
      kept = on_ok_three c.write_sections.result (λ values coefs limits. (values, coefs, limits))
          c.write_sections.ensures.values c.write_sections.ensures.coefs c.write_sections.ensures.limits;
    }

-- the keys were cut off, and so are the lines after them
pub returns-in_err-write_keys-clause-writes : goal.returns-in_err-write_keys-clause-writes
returns-in_err-write_keys-clause-writes g c =
    let file = c.args.self.now in
    let keys = key_lines (text_in file.header) file.keys.now in
    let sections = section_lines (g.V.Parted.lines file.values) (g.C.Parted.lines file.coefs) (g.L.Parted.lines file.limits) in
    let cut = lines_cut_before keys sections c.in_err-write_keys.ensures in search rules
