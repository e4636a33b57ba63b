use Rattle.std.proofs.Common.{◌≡◌, length, map, take, Some, true}
use Rattle.compile_command.proofs.pipe_form.borrowed.Given as goal

abbrev pub invariant-loop-zone : goal.invariant-loop-zone
invariant-loop-zone l = record {
  count : length l.feeds.items ≡ l.zone-index;
  remaining : map (λ f. Some f.remaining.now) l.feeds.items ≡ map Some (take l.zone-index l.zones);
  sure : map (λ _. true) l.feeds.items ≡ map (λ _. true) (take l.zone-index l.zones);
}
