use Rattle.std.proofs.Common.{◌≡◌, true, length}
use Rattle.std.proofs.lemmas.List.Elements.{All-nil}
use Rattle.minelib_reading.specs.HeaderNumbers.{count_in, with_key}
use Rattle.minelib_reading.specs.ModelDraft.{is_heading}
use Rattle.minelib_lines.specs.declared.header_key.HeaderKey.TheVariants as key
use Rattle.minelib_reading.proofs.keys.HeaderFacts.{numbers_below}
use Rattle.minelib_reading.proofs.model.draft.ModelDraft.admit_header.Goals as goal

pub invariant_of-self-2 : goal.invariant_of-self-2
invariant_of-self-2 g c =
    let d = c.self.inside in
    let kept = c.self.invariant in
    let number = c.in_ok-number.number in
    let heading : is_heading d.section ≡ true = cc (c.if-not-is_heading.false, c.is_heading.ensures) in
    rw c.with-self-inside.ensures (record {
      few = kept.few;
      numbers = numbers_below d.header c.args.key number c.in_ok-number.ensures.below kept.numbers;
      heading = kept.heading;
      width = rw (kept.heading heading)
          (All-nil (λ of_block. length of_block ≡ count_in (with_key d.header c.args.key number) key.Destinations));
    })
