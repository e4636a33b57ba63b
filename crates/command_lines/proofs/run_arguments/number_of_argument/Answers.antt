use Rattle.std.proofs.Common.{subst}
use Rattle.std.specs.Str.Parse.{ExplainsUnsignedError, HasUnsignedDigitsIfOk, ParsesUnsigned}
use Rattle.clap.specs.Words.{found_of, rows_of}
use Rattle.command_lines.proofs.Numbers.{ReadsNumber, out_of_range, reads_number}
use Rattle.command_lines.proofs.run_arguments.number_of_argument.Goals as goal
use Rattle.command_lines.proofs.run_arguments.number_of_argument.Goals.{After-get_one}

reads : (c : After-get_one) → ReadsNumber (rows_of (found_of c.args.found.now)) c.args.id.now c.args.most c.get_one.result
reads c =
    reads_number (λ bs r. ParsesUnsigned 64 10 bs r × ExplainsUnsignedError 10 bs r × HasUnsignedDigitsIfOk bs r)
    (found_of c.args.found.now) c.args.id.now c.args.most c.get_one.result c.ranges.most.fits
    (λ u x g. g.0) c.get_one.ensures.none c.get_one.ensures.value

pub returns-in_err-number : goal.returns-in_err-number
returns-in_err-number c =
    let rows = rows_of (found_of c.args.found.now) in
    let none = subst (ReadsNumber rows c.args.id.now c.args.most) c.in_err-number.was (reads (goal.at.returns-in_err-number c).After-get_one) in
    rw c.from_residual.ensures none

pub returns-then-number-lt1 : goal.returns-then-number-lt1
returns-then-number-lt1 c =
    let rows = rows_of (found_of c.args.found.now) in
    let has = subst (ReadsNumber rows c.args.id.now c.args.most) c.in_ok-number.was (reads (goal.at.returns-then-number-lt1 c).After-get_one) in
    out_of_range rows c.args.id.now c.args.most c.in_ok-number.number has c.then-number-lt1.either

pub returns : goal.returns
returns c =
    let rows = rows_of (found_of c.args.found.now) in
    let has = subst (ReadsNumber rows c.args.id.now c.args.most) c.in_ok-number.was (reads (goal.at.returns c).After-get_one) in
    (has.0, has.1, has.2, c.if-number-lt1.false, c.if-number-most.false)
