-- The result of writing lists as the result of a run, and the text of the lists.
use Rattle.std.proofs.Common.{◌≡◌, ℕ, List, Result, Ok, Err, ap, inl, inr}
use Rattle.std.specs.Prelude.{MatchResult}
use Rattle.devices.specs.sinks.SinkState.{SinkState, IsCutOff, IsWritten}
use Rattle.devices.specs.sinks.SinkSteps.{refusals}
use Rattle.devices.specs.declared.sinks.sink.SinkFault.{SinkFault}
use Rattle.fewer_arcs.specs.Reduced.{reduced}
use Rattle.mine_instance.specs.Instance.{Instance}
use Rattle.minelib_writing.specs.Written.{text_prec, text_preds}
use Rattle.refusals.specs.declared.refusal.Refusal.{Refusal}
use Rattle.pit_units.specs.declared.or_memory.OrMemory.{OrMemory}
use Rattle.pit_units.specs.declared.or_memory.OrMemory.TheVariants as write
use Rattle.thin_command.specs.Thin.{IsStopped, thin_text}
use Rattle.thin_command.specs.inner.Answered.{in_sink}

module _ (text : List ℕ) (old new : SinkState) where
  pub sink_ok : (r : Result ℕ (OrMemory SinkFault)) (n : ℕ)
      → MatchResult r (λ _. IsWritten text old new) (λ fault. IsCutOff (refusals fault) text old new) → in_sink r ≡ Ok n → IsWritten text old new
  sink_ok (Ok m) n written e = written
  sink_ok (Err (write.Fault fault)) n cut e = absurd cc
  sink_ok (Err write.OutOfMemory) n cut e = absurd cc

  pub sink_err : (r : Result ℕ (OrMemory SinkFault)) (why : Refusal)
      → MatchResult r (λ _. IsWritten text old new) (λ fault. IsCutOff (refusals fault) text old new) → in_sink r ≡ Err why → IsStopped text old new why
  sink_err (Ok m) why written e = absurd cc
  sink_err (Err (write.Fault fault)) why cut e = inl (cc, cut)
  sink_err (Err write.OutOfMemory) why cut e = inr (cc, cut)

pub thin_is : (i : Instance) (lists : List (List ℕ)) → lists ≡ reduced i.preds → text_preds lists ≡ thin_text i
unfolding text_prec
thin_is i lists e = ap text_preds e
