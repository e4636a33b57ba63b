-- The text of each error of a run.
use Rattle.std.specs.Prelude.{ℕ, List, ◌++◌, codes, decimal}
use Rattle.minelib_lines.specs.TextNames.{ending_of}
use Rattle.zone_csv.specs.FaultText.{row_fault_text}
use Rattle.refusals.specs.declared.refusal.Refusal.{Refusal}
use Rattle.refusals.specs.declared.refusal.Refusal.TheVariants as refusal
use Rattle.refusals.specs.declared.refusal.RowAt.{RowAt}
use Rattle.refusals.specs.declared.settings_fault.SettingsFault.{SettingsFault}
use Rattle.refusals.specs.declared.settings_fault.SettingsFault.TheVariants as settings

abbrev pub settings_name : SettingsFault → List ℕ
settings_name settings.Files = codes "Files"
settings_name settings.Valuers = codes "Valuers"
settings_name settings.Capacity = codes "Capacity"
settings_name settings.Destinations = codes "Destinations"

-- `file F row N`
abbrev pub row_text : RowAt → List ℕ
row_text at = codes "file " ++ (decimal at.file ++ (codes " row " ++ decimal at.row))

-- the text of an error. An invalid row has its file and the text of its fault; a repeated cell has the later row and then the
-- earlier one; a sink has the extension of its file
abbrev pub refusal_text : Refusal → List ℕ
refusal_text (refusal.Settings kind) = codes "settings: " ++ settings_name kind
refusal_text refusal.NoThread = codes "NoThread"
refusal_text (refusal.FeedFailed file) = codes "file " ++ (decimal file ++ codes ": FeedFailed")
refusal_text (refusal.TooLong file) = codes "file " ++ (decimal file ++ codes ": TooLong")
refusal_text (refusal.Row file fault) = codes "file " ++ (decimal file ++ (codes " " ++ row_fault_text fault))
refusal_text (refusal.Same first again) = row_text again ++ (codes " repeats " ++ row_text first)
refusal_text (refusal.SinkFailed which) = codes "sink " ++ (ending_of which ++ codes ": SinkFailed")
refusal_text refusal.OutOfMemory = codes "OutOfMemory"
