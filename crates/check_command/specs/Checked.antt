-- What a check reports about the files of BASE, and why it reports no counts.
use Rattle.std.specs.Prelude.{◌≡◌, ◌≢◌, ℕ, ◌≤◌, ◌⊎◌, List, [], ◌∷◌, ◌++◌, Option, Some, None, Err, IfSome, length}
use Rattle.devices.specs.feeds.FeedState.{FeedState}
use Rattle.devices.specs.feeds.FeedSteps.{remaining_after}
use Rattle.devices.specs.feeds.FileFeedView.{file_state}
use Rattle.devices.specs.feeds.ReadWhole.{IsReadWhole}
use Rattle.devices.specs.files.Opening.{Opening, OpensFeed, Unopened}
use Rattle.devices.specs.declared.feeds.slurp.TheConstants.{LARGEST_LIMIT}
use Rattle.text_lines.specs.FaultText.{file_ending}
use Rattle.text_lines.specs.declared.text_fault.TextFault.{TextFault}
use Rattle.text_lines.specs.declared.text_fault.TextFile.{TextFile}
use Rattle.text_lines.specs.declared.text_fault.TextFile.TheVariants.{Blocks, Prec, Pcpsp, Cpit}
use Rattle.check_command.specs.Counts.{ReportsCounts, Texts, counted}
use Rattle.refusals.specs.declared.refusal.Refusal.TheVariants.{OutOfMemory}
use Rattle.command_io.specs.FilePath.{path_to}
use Rattle.command_io.specs.Refused.{IsUnread}
use Rattle.command_io.specs.declared.refused.Refused.{Refused}
use Rattle.command_io.specs.declared.refused.Refused.TheVariants.{FeedFailed, Run}
use Rattle.command_io.specs.declared.refused.Refused.TheVariants as refusal
use Rattle.command_io.specs.declared.refused.source.Source.TheVariants as source

-- the path of this file of the instance
abbrev pub path_of : List ℕ → TextFile → List ℕ
path_of base file = path_to base (file_ending file)

-- memory was refused, and no file was tried
abbrev pub IsUntried : (old new : List Opening) → Refused → Type 0
IsUntried old new refused = (refused ≡ Run OutOfMemory) × (new ≡ old)

module _ (base : List ℕ) where
  -- the file could not be opened, which is no error for a `cpit`
  abbrev pub IsMissing : TextFile → (old new : List Opening) → Refused → Type 0
  IsMissing file old new refused =
      (file ≢ Cpit) × (new ≡ old ++ Unopened (path_of base file) ∷ []) × (refused ≡ FeedFailed (source.Text file))

  -- by the states of feeds, and by the paths at which files were opened
  module _ {F T : Type 0} (state : F → FeedState) (path : T → List ℕ) where
    -- a file was opened at this file's path
    abbrev pub IsThere : TextFile → Type 0
    IsThere file = (opened : T) × (path opened ≡ path_of base file)

    -- a feed that was in this state when its file was opened: it stands behind the bytes that it gave
    abbrev pub IsFeedOf : FeedState → F → Type 0
    IsFeedOf first feed = (state feed).remaining ≡ remaining_after (state feed).given first.remaining

    -- by the openings before and after: only this file was opened, and this is its text, whose length is the number of bytes that
    -- its feed gave to its end
    pub record HasText (file : TextFile) (text : List ℕ) (old new : List Opening) : Type 0 where
      pub first : FeedState
      pub opened : OpensFeed (path_of base file) old new first
      pub feed : F
      pub of_file : IsFeedOf first feed
      pub read : IsReadWhole first (state feed) text
      pub short : length text ≤ LARGEST_LIMIT
      pub ended : IfSome (state feed).remaining (λ bytes. bytes ≡ [])
      pub there : IsThere file

    -- the same, or there is no text and the file could not be opened
    abbrev pub HasTextIfThere : TextFile → Option (List ℕ) → (old new : List Opening) → Type 0
    HasTextIfThere file (Some text) old new = HasText file text old new
    HasTextIfThere file None old new = new ≡ old ++ Unopened (path_of base file) ∷ []

    -- only the files were opened, one after the other, and these are their texts
    pub record AreTexts (texts : Texts) (old new : List Opening) : Type 0 where
      pub after_blocks : List Opening
      pub after_prec : List Opening
      pub after_pcpsp : List Opening
      pub blocks : HasText Blocks texts.blocks old after_blocks
      pub prec : HasText Prec texts.prec after_blocks after_prec
      pub pcpsp : HasText Pcpsp texts.pcpsp after_prec after_pcpsp
      pub cpit : HasTextIfThere Cpit texts.cpit after_pcpsp new

    -- only this file was opened, and it was read to its end
    abbrev pub IsRead : TextFile → (old new : List Opening) → Type 0
    IsRead file old new = (text : List ℕ) × HasText file text old new

    -- the files before this one were opened and read, one after the other
    abbrev pub AreReadBefore : TextFile → (old new : List Opening) → Type 0
    AreReadBefore Blocks old new = new ≡ old
    AreReadBefore Prec old new = IsRead Blocks old new
    AreReadBefore Pcpsp old new = (mid : List Opening) × IsRead Blocks old mid × IsRead Prec mid new
    AreReadBefore Cpit old new =
        (first : List Opening) × (second : List Opening) × IsRead Blocks old first × IsRead Prec first second × IsRead Pcpsp second new

    -- only this file was opened, and it was not read: its feed failed, or it is too long; or memory was refused
    abbrev pub FailsIn : TextFile → (old new : List Opening) → Refused → Type 0
    FailsIn file old new refused =
        (first : FeedState) × OpensFeed (path_of base file) old new first
        × ((feed : F) × IsFeedOf first feed × IsUnread (source.Text file) LARGEST_LIMIT first (state feed) refused) × IsThere file

    -- the first file that cannot be opened or read, or is too long
    pub record IsUnreadAt (file : TextFile) (old new : List Opening) (refused : Refused) : Type 0 where
      pub mid : List Opening
      pub before : AreReadBefore file old mid
      pub fails : FailsIn file mid new refused ⊎ IsMissing file mid new refused

    -- memory was refused after the files before this one were read, or after all were, and no other file was opened
    abbrev pub IsStopped : (old new : List Opening) → Type 0
    IsStopped old new = ((file : TextFile) × AreReadBefore file old new) ⊎ ((texts : Texts) × AreTexts texts old new)

    -- why the files are not counted: a file is not read, whatever the content of earlier files; or all are read, and this is the
    -- first invalid line of the texts; or memory was refused after files were read
    abbrev pub IsFoundIn : (old new : List Opening) → Refused → Type 0
    IsFoundIn old new refused =
        ((file : TextFile) × IsUnreadAt file old new refused)
        ⊎ (((fault : TextFault) × (refused ≡ refusal.Text fault) × ((texts : Texts) × AreTexts texts old new × (counted texts ≡ Err fault)))
        ⊎ ((refused ≡ Run OutOfMemory) × IsStopped old new))

    -- only the files were opened, one after the other, and the line with the counts of their texts was appended
    abbrev pub ReportsFiles : (old new : List Opening) → (out_old out_new : List ℕ) → Type 0
    ReportsFiles old new out_old out_new = (texts : Texts) × AreTexts texts old new × ReportsCounts texts out_old out_new

  -- the same for files that were opened at these paths, whatever their content
  abbrev pub ReportsOpenedFiles : {T : Type 0} → (T → List ℕ) → (out_old out_new : List ℕ) → Type 0
  ReportsOpenedFiles path out_old out_new = (opened : List Opening) × ReportsFiles file_state path [] opened out_old out_new

  -- why such files are not counted
  abbrev pub IsFoundInOpenedFiles : {T : Type 0} → (T → List ℕ) → Refused → Type 0
  IsFoundInOpenedFiles path refused = (opened : List Opening) × IsFoundIn file_state path [] opened refused

-- a check ends with status 0 if its counts were appended; else with 1, 3 or 4
abbrev pub IsCheckStatus : ℕ → Type 0
IsCheckStatus status = (status ≡ 0) ⊎ ((status ≡ 1) ⊎ ((status ≡ 3) ⊎ (status ≡ 4)))
