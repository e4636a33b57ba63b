-- The program's errors: the words of the error's line, and the exit status.
use Rattle.std.specs.Prelude.{◌≡◌, ℕ, ◌++◌, List, codes}
use Rattle.std.specs.Fmt.{decimal}
use Rattle.devices.specs.declared.feeds.slurp.SlurpFault.{SlurpFault}
use Rattle.devices.specs.declared.feeds.slurp.SlurpFault.TheVariants as slurp
use Rattle.refusals.specs.FaultText.{refusal_text}
use Rattle.refusals.specs.declared.refusal.Refusal.{Refusal}
use Rattle.refusals.specs.declared.refusal.Refusal.TheVariants as refusal
use Rattle.pit_model.specs.FaultText.{plan_fault_text}
use Rattle.pit_model.specs.declared.plan_fault.PlanFault.{PlanFault}
use Rattle.pit_units.specs.declared.or_memory.OrMemory.{OrMemory}
use Rattle.pit_units.specs.declared.or_memory.OrMemory.TheVariants as or_memory
use Rattle.text_lines.specs.FaultText.{file_ending, text_fault_text}
use Rattle.devices.specs.feeds.FeedState.{FeedState}
use Rattle.devices.specs.feeds.ReadWhole.{FailsAsFed}
use Rattle.text_lines.specs.declared.text_fault.TextFault.{TextFault}
use Rattle.command_io.specs.declared.refused.Refused.{Refused}
use Rattle.command_io.specs.declared.refused.Refused.TheVariants.{NotUtf8, FeedFailed, TooLong, Plan, Text, Run}
use Rattle.command_io.specs.declared.refused.source.Source.{Source}
use Rattle.command_io.specs.declared.refused.source.Source.TheVariants as source

-- a zone file by its number, a file of an instance by its extension
abbrev pub source_text : Source → List ℕ
source_text source.Input = codes "input"
source_text source.Plan = codes "plan"
source_text (source.Zone file) = codes "file " ++ decimal file
source_text (source.Text file) = file_ending file

-- a source and its error; for an invalid record or line, or a failed run, that error's own words
abbrev pub refused_text : Refused → List ℕ
refused_text NotUtf8 = codes "command line: NotUtf8"
refused_text (FeedFailed source) = source_text source ++ codes ": FeedFailed"
refused_text (TooLong source) = source_text source ++ codes ": TooLong"
refused_text (Plan fault) = plan_fault_text fault
refused_text (Text fault) = text_fault_text fault
refused_text (Run refusal) = refusal_text refusal

-- 1 for an invalid model, 2 for settings, 3 for a feed or a sink that failed, 4 if a thread or memory was refused
abbrev pub run_status : Refusal → ℕ
run_status (refusal.Settings kind) = 2
run_status refusal.NoThread = 4
run_status (refusal.FeedFailed file) = 3
run_status (refusal.TooLong file) = 1
run_status (refusal.Row file fault) = 1
run_status (refusal.Same first again) = 1
run_status (refusal.SinkFailed which) = 3
run_status refusal.OutOfMemory = 4

-- the same for the whole program: also 1 for an invalid plan or text, 2 for arguments, 3 for a source that cannot be read
abbrev pub status_of : Refused → ℕ
status_of NotUtf8 = 2
status_of (FeedFailed source) = 3
status_of (TooLong source) = 1
status_of (Plan fault) = 1
status_of (Text fault) = 1
status_of (Run refusal) = run_status refusal

-- a source that failed, or was too long; or memory was refused
abbrev pub unread : Source → SlurpFault → Refused
unread source slurp.FeedFailed = FeedFailed source
unread source slurp.TooLong = TooLong source
unread source slurp.OutOfMemory = Run refusal.OutOfMemory

-- the fault of a plan, or of a text; or memory was refused
abbrev pub plan_refused : OrMemory PlanFault → Refused
plan_refused (or_memory.Fault fault) = Plan fault
plan_refused or_memory.OutOfMemory = Run refusal.OutOfMemory

abbrev pub text_refused : OrMemory TextFault → Refused
text_refused (or_memory.Fault fault) = Text fault
text_refused or_memory.OutOfMemory = Run refusal.OutOfMemory

-- this source was not read: it refused a pull, or gave a byte more than this limit; or memory was refused
abbrev pub IsUnread : Source → (limit : ℕ) → (old new : FeedState) → Refused → Type 0
IsUnread source limit old new refused = (fault : SlurpFault) × FailsAsFed limit old new fault × (refused ≡ unread source fault)
