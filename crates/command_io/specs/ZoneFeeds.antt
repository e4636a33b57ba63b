-- Zone files that are opened in order, or the first one that cannot be opened.
use Rattle.std.specs.Prelude.{◌≡◌, ℕ, ◌⊎◌, List, [], ◌∷◌, ◌++◌, length, slice_get, Option, Some}
use Rattle.devices.specs.files.Opening.{Opening, Unopened, all_opened}
use Rattle.refusals.specs.declared.refusal.Refusal.TheVariants.{OutOfMemory}
use Rattle.command_io.specs.declared.refused.Refused.{Refused}
use Rattle.command_io.specs.declared.refused.Refused.TheVariants.{FeedFailed, Run}
use Rattle.command_io.specs.declared.refused.source.Source.TheVariants.{Zone}

-- for the openings before and after
module _ (old new : List Opening) where
  -- only the files at these paths were opened, in order; `remainders` has the bytes that each reported
  pub record AreOpened (paths : List (List ℕ)) (remainders : List (Option (List ℕ))) : Type 0 where
    pub each : length remainders ≡ length paths
    pub opened : new ≡ old ++ all_opened paths remainders

  -- the files before this one were opened, this one could not be opened, and no later file was tried
  pub record IsFirstUnopened (paths : List (List ℕ)) (file : ℕ) : Type 0 where
    pub remainders : List (Option (List ℕ))
    pub before : length remainders ≡ file
    pub path : List ℕ
    pub stands : slice_get paths file ≡ Some path
    pub opened : new ≡ old ++ (all_opened paths remainders ++ Unopened path ∷ [])

  -- the first of these paths that cannot be opened; or memory was refused after some of the first files were opened
  abbrev pub AreNotOpened : List (List ℕ) → Refused → Type 0
  AreNotOpened paths refused =
      ((file : ℕ) × (refused ≡ FeedFailed (Zone file)) × IsFirstUnopened paths file)
      ⊎ ((refused ≡ Run OutOfMemory) × ((remainders : List (Option (List ℕ))) × (new ≡ old ++ all_opened paths remainders)))
