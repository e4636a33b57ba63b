-- What contracts see of a sink over a file.
use Rattle.std.specs.Prelude.{◌≡◌, ℕ, List, Bool, true, false, Option, IsTrue}
use Rattle.devices.specs.files.Reported.{empty_report, held_report}
use Rattle.devices.specs.sinks.SinkState.{SinkState}

pub record FileSinkView : Type 0 where
  -- the path of its file
  pub path : List ℕ
  -- whether it still has the slot that creates its file
  pub has_slot : Bool
  -- whether its file was created
  pub begun : Bool
  -- the bytes that the file holds, if the file reports them
  pub held : Option (List ℕ)
  -- the number of calls that it refused so far
  pub failures : ℕ

-- a sink for the file at this path, not begun yet; the flag decides whether the file reports its bytes
abbrev pub unbegun : Bool → List ℕ → FileSinkView
unbegun reports path = record { path = path; has_slot = true; begun = false; held = empty_report reports; failures = 0 }

-- its state as a sink, with the path of its file as the bytes before its text, which never change: so a text is at its path
abbrev pub file_sink_state : FileSinkView → SinkState
file_sink_state s = record { begun = s.begun; before = s.path; taken = s.held; failures = s.failures }

-- once a sink is begun, there is a file at its path
abbrev pub HasFile : {F : Type 0} → (F → List ℕ) → (begun : Bool) → (path : List ℕ) → Type 0
HasFile {F} path_of begun path = IsTrue begun → ((file : F) × (path_of file ≡ path))

-- its file was created empty at this path, and holds these bytes, as far as files report their paths and bytes
abbrev pub HoldsNewFile : {F : Type 0} → (F → List ℕ) → (F → Option (List ℕ)) → Bool → List ℕ → Option (List ℕ) → Type 0
HoldsNewFile {F} path_of contents reports path held =
    (file : F) × (path_of file ≡ path) × (held_report reports (contents file) ≡ empty_report reports) × (held ≡ held_report reports (contents file))
