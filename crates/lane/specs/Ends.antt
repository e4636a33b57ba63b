-- What contracts see of the ends of a lane.
use Rattle.std.specs.Prelude.{◌≡◌, ℕ, zero, suc, ◌+◌, List, [], ◌∷◌, length, vec_len}
use Rattle.std.specs.Global.{Vec}
use Rattle.atomic_table.specs.declared.badge.Badge.{Badge}
use Rattle.atomic_table.specs.Seated.{TableId}
use Rattle.crossbeam_channel.specs.declared.flavors.array.Key.{Key}
use Rattle.lane.specs.declared.message.Taken.{Taken}

-- a lane: its channel, and the channel's capacity
abbrev pub Lane : Type 0
Lane = TableId × Badge (Key Taken) × ℕ

-- a put end: its lane, its file, and what it has sent
pub record PutEndView : Type 0 where
  pub lane : Lane
  pub file : ℕ
  pub sent : List Taken

-- a take end: its lane, its number, and what it has taken
pub record TakeEndView : Type 0 where
  pub lane : Lane
  pub taker : ℕ
  pub took : List Taken

-- the closer of a lane
pub record CloserView : Type 0 where
  pub lane : Lane
  pub files : ℕ
  pub takers : ℕ

-- a lane that was given up, and the number of takers for which a Quit was put
pub record GivenUpView : Type 0 where
  pub lane : Lane
  pub quits : ℕ

-- a lane that was stopped or given up, and how many marks were put, each of which ends a taker
pub record EndedView : Type 0 where
  pub lane : Lane
  pub marks : ℕ

-- a stopped lane, with what each file sent
pub record StoppedView : Type 0 where
  pub lane : Lane
  pub takers : ℕ
  pub sent : List (List Taken)

-- the ends of the lane, each with its number, from number k on, in order
abbrev pub AreEndsFrom : {E : Type 0} → (E → Lane) → (E → ℕ) → Lane → ℕ → ℕ → List E → Type 0
AreEndsFrom lane_of number lane all k [] = k ≡ all
AreEndsFrom lane_of number lane all k (e ∷ es) = (lane_of e ≡ lane) × (number e ≡ k) × AreEndsFrom lane_of number lane all (k + 1) es

-- the put ends of the lane's files from number k on, in order
abbrev pub ArePutsFrom : Lane → ℕ → ℕ → List PutEndView → Type 0
ArePutsFrom lane files k ps = AreEndsFrom (λ p. p.lane) (λ p. p.file) lane files k ps

-- the take ends of the lane's takers from number k on, in order
abbrev pub AreTakesFrom : Lane → ℕ → ℕ → List TakeEndView → Type 0
AreTakesFrom lane takers k ts = AreEndsFrom (λ t. t.lane) (λ t. t.taker) lane takers k ts

-- the n ends that are made, with numbers from k on
abbrev pub ends_from : {E : Type 0} → (ℕ → E) → ℕ → ℕ → List E
ends_from make k zero = []
ends_from make k (suc n) = make k ∷ ends_from make (k + 1) n

-- n put ends of the lane that have sent nothing, of the files from number k on
abbrev pub first_puts : Lane → ℕ → ℕ → List PutEndView
first_puts lane k n = ends_from (λ file. record { lane = lane; file = file; sent = [] }) k n

-- n take ends of the lane that have taken nothing, of the takers from number k on
abbrev pub first_takes : Lane → ℕ → ℕ → List TakeEndView
first_takes lane k n = ends_from (λ taker. record { lane = lane; taker = taker; took = [] }) k n

-- a lane that was opened for this number of files and valuers, and with this capacity: its closer, its put ends and its take ends
pub record IsOpened (all_files valuers room : ℕ) (closer : CloserView) (put_ends : Vec PutEndView) (take_ends : Vec TakeEndView) : Type 0 where
  -- the closer knows the lane's size
  pub files : closer.files ≡ all_files
  pub takers : closer.takers ≡ valuers
  pub capacity : closer.lane.2 ≡ room
  -- one put end for each file, in order
  pub puts : ArePutsFrom closer.lane all_files 0 put_ends.items
  pub first_puts : put_ends.items ≡ first_puts closer.lane 0 all_files
  pub put_count : length put_ends.items ≡ all_files
  pub put_len : vec_len put_ends ≡ all_files
  -- one take end for each valuer, in order
  pub takes : AreTakesFrom closer.lane valuers 0 take_ends.items
  pub first_takes : take_ends.items ≡ first_takes closer.lane 0 valuers
  pub take_count : length take_ends.items ≡ valuers
  pub take_len : vec_len take_ends ≡ valuers
