-- Why a run fails, for any knowledge of its settings, zone files and devices.
use Rattle.refusals.specs.declared.refusal.Refusal.{Refusal}
use Rattle.refusals.specs.declared.refusal.Refusal.TheVariants.{Settings, NoThread, FeedFailed, TooLong, Row, Same, SinkFailed, OutOfMemory}
use Rattle.refusals.specs.declared.settings_fault.SettingsFault.{SettingsFault}

-- a fault of the settings has the property `invalid`, a verdict on the zone files the property `verdict`, and a failed device
-- implies `device`; a thread or memory may be refused at any time
abbrev pub RunRefused : (SettingsFault → Type 0) → (Refusal → Type 0) → Type 0 → Refusal → Type 0
RunRefused invalid verdict device (Settings kind) = invalid kind
RunRefused invalid verdict device NoThread = Unit {0}
RunRefused invalid verdict device (FeedFailed file) = device
RunRefused invalid verdict device (TooLong file) = verdict (TooLong file)
RunRefused invalid verdict device (Row file fault) = verdict (Row file fault)
RunRefused invalid verdict device (Same first again) = verdict (Same first again)
RunRefused invalid verdict device (SinkFailed which) = device
RunRefused invalid verdict device OutOfMemory = Unit {0}
