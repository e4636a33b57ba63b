-- The results of a check's steps: the text of one file, and the counts of all.
use Rattle.std.specs.Prelude.{◌≡◌, ◌⊎◌, ℕ, List, [], ◌∷◌, ◌++◌, Result}
use Rattle.devices.specs.feeds.FeedState.{FeedState}
use Rattle.devices.specs.files.Opening.{Opening, Unopened}
use Rattle.text_lines.specs.declared.text_fault.TextFault.{TextFault}
use Rattle.text_lines.specs.declared.text_fault.TextFile.{TextFile}
use Rattle.text_lines.specs.declared.text_fault.TextFile.TheVariants.{Cpit}
use Rattle.check_command.specs.Checked.{AreTexts, HasText, path_of}
use Rattle.check_command.specs.Counts.{Texts, counted}
use Rattle.check_command.specs.inner.CountSteps.{counted_on}
use Rattle.check_command.specs.declared.counts.Counts.{Counts}

module _ (base : List ℕ) {F T : Type 0} (state : F → FeedState) (path : T → List ℕ) where
  -- only this file was opened, and its text has this property
  abbrev pub HasTextWith : TextFile → (Has : List ℕ → Type 0) → (old new : List Opening) → Type 0
  HasTextWith file Has old new = (text : List ℕ) × HasText base state path file text old new × Has text

  -- only this file was opened, and its text was counted after earlier files; or it is a `cpit` that could not be opened
  abbrev pub CountsOn : TextFile → (old new : List Opening) → (before after : Result Counts TextFault) → Type 0
  CountsOn file old new before after =
      HasTextWith file (λ text. after ≡ counted_on file before text) old new
      ⊎ ((file ≡ Cpit) × (new ≡ old ++ Unopened (path_of base file) ∷ []) × (after ≡ before))

  -- these are the counts of the files' texts
  abbrev pub CountsAll : (old new : List Opening) → Result Counts TextFault → Type 0
  CountsAll old new answer = (texts : Texts) × AreTexts base state path texts old new × (counted texts ≡ answer)
