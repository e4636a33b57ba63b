use Rattle.compile_command.proofs.Slots.{five_after}
use Rattle.compile_command.proofs.instance_files.sinks_of.Goals as goal
use Rattle.minelib_lines.specs.declared.text_name.TextName.TheVariants.{Blocks, Prec, Upit, Pcpsp, Cpit}

pub returns-clause-made : goal.returns-clause-made
returns-clause-made g c =
    let at = c.in_ok-paths.ensures in
    five_after _ _ _ _ _ _ _ _ _ _ _ _ _ _ _ _ (at Blocks) (at Prec) (at Upit) (at Pcpsp) (at Cpit) c.slot.ensures.made
    c.slot-2.ensures.made c.slot-3.ensures.made c.slot-4.ensures.made c.slot-5.ensures.made
