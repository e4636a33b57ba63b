use Rattle.std.proofs.Common.{◌≡◌, ℕ, ◌-◌, List, Option, None, Some, length, take, drop, subst}
use Rattle.std.proofs.lemmas.List.{take_rest}
use Rattle.memchr.specs.Find.{IsLastByte, is_byte}
use Rattle.text_lines.proofs.LineEnds.{none_following, none_at_all}
use Rattle.text_lines.proofs.waiting.lines_end.Goals as goal

-- the last of the bytes from the position on
last_from : (bytes : List ℕ) (from : ℕ) (found last : Option ℕ) → found ≡ last
    → IsLastByte (is_byte 10) (take (length bytes - from) (drop from bytes)) found → IsLastByte (is_byte 10) (drop from bytes) last
last_from bytes from found last is reported =
    subst (λ rest. IsLastByte (is_byte 10) rest last) (take_rest bytes from)
    (subst (λ r. IsLastByte (is_byte 10) (take (length bytes - from) (drop from bytes)) r) is reported)

pub returns-in-Some-clause-following : goal.returns-in-Some-clause-following
returns-in-Some-clause-following c =
    let bytes = c.args.bytes.now in
    none_following bytes c.args.from c.in-Some.place
    (last_from bytes c.args.from c.memrchr.result (Some c.in-Some.place) c.in-Some.is c.memrchr.ensures)

pub returns-in-None-clause-following : goal.returns-in-None-clause-following
returns-in-None-clause-following c =
    let bytes = c.args.bytes.now in
    none_at_all bytes c.args.from c.requires.prefix (last_from bytes c.args.from c.memrchr.result None c.in-None.is c.memrchr.ensures)
