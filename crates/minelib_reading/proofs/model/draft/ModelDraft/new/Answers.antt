use Rattle.std.proofs.Common.{◌≡◌, length, rules}
use Rattle.std.proofs.lemmas.List.Elements.{All-nil}
use Rattle.minelib_reading.specs.HeaderNumbers.{count_in}
use Rattle.minelib_reading.specs.ModelDraft.{blank_header}
use Rattle.minelib_lines.specs.declared.header_key.HeaderKey.TheVariants as key
use Rattle.minelib_reading.proofs.keys.HeaderFacts.{blank_below}
use Rattle.minelib_reading.proofs.model.draft.ModelDraft.new.Goals as goal

pub invariant_of-result : goal.invariant_of-result
invariant_of-result g c = rw (c.blank_header.ensures, c.requires.no_values) (record {
  few = c.requires.few;
  numbers = blank_below c.args.problem;
  heading = search rules;
  width = All-nil (λ of_block. length of_block ≡ count_in (blank_header c.args.problem) key.Destinations);
})
