use Rattle.std.proofs.Common.{rules}
use Rattle.text_lines.specs.TextLines.{fields_of}
use Rattle.minelib_reading.proofs.models.LineCases.{section_taken}
use Rattle.minelib_reading.proofs.model.draft.ModelDraft.admit_section.Goals as goal

pub returns-then-count_fields-ne0 : goal.returns-then-count_fields-ne0
returns-then-count_fields-ne0 g c = rw (section_taken c.args.self.now c.args.section (fields_of c.args.values.now)) (search rules)
