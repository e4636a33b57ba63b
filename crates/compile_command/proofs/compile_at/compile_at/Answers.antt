use Rattle.std.proofs.Common.{◌∙◌, ap, map, string_bytes}
use Rattle.command_io.specs.RunState.{Inputs}
use Rattle.command_io.specs.World.{World}
use Rattle.plan_parts.specs.Destinations.{formulas_of}
use Rattle.compile_command.proofs.AtBase.{are_there, no_compile, reports_rows}
use Rattle.compile_command.proofs.compile_at.compile_at.Goals as goal

pub returns-clause-there : goal.returns-clause-there
returns-clause-there g c = λ zero.
    are_there c.args.base.now _ c.in-Ok.sinks c.compile_with-status.new.sinks g.F.Slot.File.AtPath.path _ _ _ _ _ _
    (λ name. ap (λ s. s.path) (c.in-Ok.ensures.sinks name)) c.show_all.ensures (c.compile_with-status.ensures.ends.done zero)

pub returns-clause-ends : goal.returns-clause-ends
returns-clause-ends g c =
    let ends = c.compile_with-status.ensures.ends in
    let inputs : Inputs = record {
      plan = c.args.plan.now;
      formulas = formulas_of c.args.destinations.now;
      zones = map string_bytes c.args.zones.now;
      settings = c.args.settings;
    } in
    let old : World = record {
      reports = g.F.Slot.FileSlot.reports;
      opened = g.O.Opener.opened c.world.inside.files;
      made = g.F.FileSlots.made c.world.inside.slots;
      starts = c.world.inside.starts;
      text = c.world.inside.text.items;
      lines = c.world.inside.lines.items;
    } in
    let made = c.compile_with-status.ensures.made ∙ c.in-Ok.ensures.made in
    rw (← c.world.view_is) (record {
      done = λ zero.
          reports_rows c.args.base.now inputs c.in-Ok.sinks c.compile_with-status.new.sinks old c.compile_with-status.new.world
          c.in-Ok.ensures.sinks made (ends.done zero);
      quiet = ends.quiet;
      kept = ends.kept;
      refused = λ bad.
          let reported = ends.refused bad in (
            reported.0,
            no_compile c.args.base.now inputs c.in-Ok.sinks c.compile_with-status.new.sinks old c.compile_with-status.new.world
                c.in-Ok.ensures.sinks made g.O.Opened.Feed.state reported.0 reported.1,
            reported.2,
          );
    })
