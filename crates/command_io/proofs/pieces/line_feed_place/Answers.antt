use Rattle.std.proofs.Common.{sym}
use Rattle.text_lines.proofs.Cuts.{byte_placed}
use Rattle.command_io.proofs.pieces.line_feed_place.Goals as goal

pub returns : goal.returns
returns c = sym (byte_placed 10 c.args.text.now c.memchr.result c.memchr.ensures)
