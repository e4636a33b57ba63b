use Rattle.lane.proofs.Progress.{some_thread_can_continue, steps_run_out, runs_end}
use Rattle.lane.proofs.laws.the_lane_never_gets_stuck.Goals as goal

pub returns : goal.returns
returns c = record { states = some_thread_can_continue; steps = steps_run_out; runs = runs_end }
