use Rattle.lane.proofs.Steps.{split_is_no_event, join_is_no_event, send_is_an_event, receive_is_an_event}
use Rattle.lane.proofs.Rules.{make_is_the_opening, look_finds_nothing}
use Rattle.lane.proofs.laws.steps_are_events.Goals as goal

pub returns : goal.returns
returns c = record {
  make = make_is_the_opening;
  split = split_is_no_event;
  join = join_is_no_event;
  send = send_is_an_event;
  receive = receive_is_an_event;
  look = look_finds_nothing;
}
