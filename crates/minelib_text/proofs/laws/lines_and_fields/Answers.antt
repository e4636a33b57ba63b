use Rattle.minelib_text.proofs.LinesOfText.{lines_again, last_again, blanks_fall, field_falls}
use Rattle.minelib_text.proofs.laws.lines_and_fields.Goals as goal

pub returns : goal.returns
returns c = record { lines = lines_again; last_line = last_again; blanks = blanks_fall; field = field_falls }
