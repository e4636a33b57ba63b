-- What a reader did with its zone file: the messages that it sent into the lane, and its result.
use Rattle.std.specs.Prelude.{◌≡◌, ℕ, ◌+◌, ◌<◌, ◌≤◌, List, [], ◌∷◌, length, Option, Some, None, IfSome, Result, Ok, Err}
use Rattle.lane.specs.Message.{sent_from}
use Rattle.lane.specs.declared.message.Taken.{Taken}
use Rattle.plan_parts.specs.declared.grid.Grid.{Grid}
use Rattle.zone_csv.specs.Zone.{blocks_of, fault_of}
use Rattle.zone_csv.specs.declared.row_fault.RowFault.{RowFault}
use Rattle.devices.specs.feeds.FeedState.{FeedState}
use Rattle.devices.specs.declared.feeds.fed_fault.FedFault.{FedFault}
use Rattle.devices.specs.declared.feeds.fed_fault.FedFault.TheVariants.{Unread, Text}
use Rattle.devices.specs.declared.feeds.slurp.SlurpFault.TheVariants.{FeedFailed, TooLong, OutOfMemory}
use Rattle.run_threads.specs.MostBytes.{most_bytes}
use Rattle.run_threads.specs.Refusing.{HasRefused}

-- the result of a reader: an error of its feed or of the text, if there was one, or out of memory
abbrev pub ReadAnswer : Type 0
ReadAnswer = Result (Unit {0}) (FedFault RowFault)

-- the reader read a text up to its first fault `fault`, and sent the blocks before the fault. If the feed reports its bytes, the text is
-- these bytes
pub record IsReadTo (grid : Grid) (file : ℕ) (remaining : Option (List ℕ)) (fault : Option RowFault) (sent : List Taken) : Type 0 where
  pub text : List ℕ
  pub given : IfSome remaining (λ bytes. text ≡ bytes)
  pub short : length text ≤ most_bytes
  pub fault_is : fault_of grid file text ≡ fault
  pub sent_is : sent ≡ sent_from file 0 (blocks_of grid file text)

-- `state` is the ghost member of a feed
module _ {F : Type 0} (state : F → FeedState) where
  -- the result of the reader of a feed, and the messages that it sent
  abbrev pub IsRead : Grid → ℕ → F → ReadAnswer → List Taken → Type 0
  IsRead grid file feed (Ok done) sent = IsReadTo grid file (state feed).remaining None sent
  IsRead grid file feed (Err (Text fault)) sent = IsReadTo grid file (state feed).remaining (Some fault) sent
  IsRead grid file feed (Err (Unread TooLong)) sent = IfSome (state feed).remaining (λ bytes. most_bytes < length bytes)
  IsRead grid file feed (Err (Unread FeedFailed)) sent = HasRefused state feed
  IsRead grid file feed (Err (Unread OutOfMemory)) sent = Unit {0}

  -- the same for each of these feeds; the first belongs to file k
  abbrev pub AreRead : Grid → ℕ → List F → List ReadAnswer → List (List Taken) → Type 0
  AreRead grid k [] [] [] = Unit {0}
  AreRead grid k (feed ∷ feeds) (answer ∷ answers) (sent ∷ sents) =
      IsRead grid k feed answer sent × AreRead grid (k + 1) feeds answers sents
  AreRead grid k [] [] (s ∷ ss) = ⊥
  AreRead grid k [] (a ∷ as') ss = ⊥
  AreRead grid k (f ∷ fs) [] ss = ⊥
  AreRead grid k (f ∷ fs) (a ∷ as') [] = ⊥
