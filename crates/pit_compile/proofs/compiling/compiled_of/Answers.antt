use Rattle.std.proofs.Common.{◌≡◌, ◌≤◌, List, None, sym, ◌∙◌, ap, subst, arith, length, All}
use Rattle.std.proofs.lemmas.Result.{err_from_is_err_and}
use Rattle.devices.specs.feeds.FeedState.{all_remaining}
use Rattle.lane.specs.MessageKinds.{row_count}
use Rattle.lane.specs.declared.message.Taken.{Taken}
use Rattle.mine_instance.specs.OfModel.{instance}
use Rattle.precedence.specs.Identifier.{blocks_of_rows}
use Rattle.run_threads.specs.Refusing.{HasFailed}
use Rattle.pit_compile.specs.inner.ReadAnswers.{refusal_in}
use Rattle.pit_compile.specs.Compiling.{IsNotCompiled}
use Rattle.pit_compile.specs.Verdict.{AreApart}
use Rattle.pit_compile.proofs.Compiles.{AreRowsOfTexts, compiles, repeat_refused}
use Rattle.pit_compile.proofs.PlainRows.{blocks_are}
use Rattle.pit_compile.proofs.Readers.{all_read, as_many, not_read}
use Rattle.pit_compile.proofs.RowFacts.{AreZoneFiles, few_sents}
use Rattle.pit_compile.proofs.AfterStartFacts.{read_after, repeat_after}
use Rattle.pit_compile.proofs.compiling.compiled_of.Goals as goal
use Rattle.pit_compile.proofs.compiling.compiled_of.Goals.{In_err-require_read, In_ok-rows}
use Rattle.pit_compile.proofs.compiling.compiled_of.Given.{Over}

pub require_read-requires : goal.require_read-requires
require_read-requires g c =
    let handed = c.args.handed in
    let many = as_many g.F.Feed.state c.args.plan.now.grid 0 c.args._given
    handed.answers.items handed.gathered.sent c.requires.handed.read in
    let borrowed = ap length c.as_slice.ensures.value in
    omega (arith, many.0, borrowed, c.requires.fit.few_files)

-- why the first file that was not read was not
refused : (g : Over) (c : In_err-require_read g)
    → IsNotCompiled c.args.plan.now (all_remaining g.F.Feed.state c.args._given)
    (HasFailed g.F.Feed.state c.args._given) c.in_err-require_read.field-0.0
refused g c =
    not_read g.F.Feed.state c.args.plan.now c.args._given c.args.handed.answers.items c.args.handed.gathered.sent c.in_err-require_read.field-0.0 c.requires.handed.read
    (ap (refusal_in 0) (sym c.as_slice.ensures.value) ∙ c.in_err-require_read.ensures.refused)

pub returns-in_err-require_read-clause-refused : goal.returns-in_err-require_read-clause-refused
returns-in_err-require_read-clause-refused g c =
    let p = err_from_is_err_and c.from_residual.result c.from_residual.ensures.1 in
    rw (p.1, p.2) (refused g (goal.at.returns-in_err-require_read-clause-refused g c).In_err-require_read)

pub returns-in_err-require_read-clause-following : goal.returns-in_err-require_read-clause-following
returns-in_err-require_read-clause-following g c =
    let p = err_from_is_err_and c.from_residual.result c.from_residual.ensures.1 in
    rw (p.1, p.2) (read_after 0 c.as_slice.result.now c.in_err-require_read.field-0.0 c.in_err-require_read.ensures.refused)

pub returns-in_err-instance-clause-following : goal.returns-in_err-instance-clause-following
returns-in_err-instance-clause-following g c =
    let p = err_from_is_err_and c.from_residual-in_err-instance.result c.from_residual-in_err-instance.ensures.1 in
    rw (p.1, p.2) (repeat_after _ c.in_err-instance.field-0.0 c.in_err-instance.ensures.refused)

pub collect-requires-clause-files : goal.collect-requires-clause-files
collect-requires-clause-files g c =
    let handed = c.args.handed in
    let many = as_many g.F.Feed.state c.args.plan.now.grid 0 c.args._given
    handed.answers.items handed.gathered.sent c.requires.handed.read in
    many.1 ∙ c.requires.fit.files_fit

pub collect-requires-clause-few : goal.collect-requires-clause-few
collect-requires-clause-few g c =
    let grid = c.args.plan.now.grid in
    let handed = c.args.handed in
    let files : AreZoneFiles = record { few = c.zone_files.ensures.few; own = c.zone_files.ensures.own } in
    let none : refusal_in 0 handed.answers.items ≡ None = ap (refusal_in 0) (sym c.as_slice.ensures.value)
    ∙ c.in_ok-require_read.ensures.read in
    let read = all_read g.F.Feed.state grid c.args._given handed.answers.items
    handed.gathered.sent c.requires.handed.read none in
    subst (λ (sents : List (List Taken)). All (λ sent. row_count sent ≤ 1000000) sents) (sym read.sent) (few_sents grid files 0 read.texts)

-- what the collected rows say of the model
model : (g : Over) (c : In_ok-rows g)
    → AreRowsOfTexts c.args.plan.now (all_remaining g.F.Feed.state c.args._given) c.args.handed.gathered.sent c.in_ok-rows.rows
model g c =
    let few : length c.args.plan.now.cones ≤ 64 = omega (arith, c.requires.fit.files_fit, c.requires.fit.few_files) in
    compiles g.F.Feed.state c.args.plan.now c.args._given c.args.handed.answers.items c.args.handed.gathered.sent c.in_ok-rows.rows
    (record { few = c.zone_files.ensures.few; own = c.zone_files.ensures.own })
    c.requires.fit.files_fit few c.requires.handed.read
    (ap (refusal_in 0) (sym c.as_slice.ensures.value) ∙ c.in_ok-require_read.ensures.read) c.in_ok-rows.ensures

pub instance_of_rows-requires : goal.instance_of_rows-requires
instance_of_rows-requires g c = (model g (goal.at.instance_of_rows-requires g c).In_ok-rows).model

pub returns-in_err-instance-clause-refused : goal.returns-in_err-instance-clause-refused
returns-in_err-instance-clause-refused g c =
    let p = err_from_is_err_and c.from_residual-in_err-instance.result c.from_residual-in_err-instance.ensures.1 in
    rw (p.1, p.2) (repeat_refused c.args.plan.now _ (HasFailed g.F.Feed.state c.args._given) _ _ c.in_err-instance.field-0.0
    (model g (goal.at.returns-in_err-instance-clause-refused g c).In_ok-rows) c.in_err-instance.ensures.refused)

pub returns-clause-done : goal.returns-clause-done
returns-clause-done g c =
    let plan = c.args.plan.now in
    let made = model g (goal.at.returns-clause-done g c).In_ok-rows in
    let blocks = ap blocks_of_rows made.rows_are ∙ blocks_are plan made.texts in
    record {
      texts = made.texts;
      given = made.given;
      accepted = record {
        no_fault = made.no_fault;
        apart = subst AreApart blocks c.in_ok-instance.ensures.apart;
      };
      passed = record { sent = made.sent; takers = c.requires.handed.takers; capacity_is = c.requires.handed.capacity; whole = c.requires.handed.whole };
      instance_is = c.in_ok-instance.ensures.value ∙ ap (instance plan) blocks;
    }
