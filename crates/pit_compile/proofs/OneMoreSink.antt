-- The sinks, where that of one text more was written to.
use Rattle.std.proofs.Common.{◌≡◌, ℕ, ◌+◌, ◌<◌, List, [], ◌∷◌, ◌++◌, All, AllPairs, Result, Ok, Err, take, drop, get_or, length, refl, ap, sym, subst, ◌∙◌, arith}
use Rattle.std.specs.List.{AllByRecursion}
use Rattle.std.proofs.lemmas.List.{drop_more, get_or-drop, get_or-take, length-drop, length-take, take-append-drop}
use Rattle.std.proofs.lemmas.List.Elements.{All-from_get_or, All-from_recursion, All-head, All-more, All-rest, recursion_from_All}
use Rattle.std.proofs.lemmas.List.Kept.{AllPairs-cons}
use Rattle.mine_instance.specs.Instance.{Instance}
use Rattle.devices.specs.sinks.SinkState.{SinkState, IsWritten, IsCutOff}
use Rattle.minelib_lines.specs.TextNames.{all_texts}
use Rattle.minelib_writing.specs.Texts.{text_named}
use Rattle.devices.specs.sinks.Writes.{Writes}
use Rattle.minelib_lines.specs.declared.text_name.TextName.{TextName}
use Rattle.minelib_lines.specs.declared.text_name.TextName.TheVariants.{Blocks}
use Rattle.devices.specs.declared.sinks.sink.SinkFault.{SinkFault}
use Rattle.pit_units.specs.declared.or_memory.OrMemory.{OrMemory}
use Rattle.pit_units.specs.declared.or_memory.OrMemory.TheVariants as write
use Rattle.pit_compile.specs.SinkAnswers.{AreCutOff}
use Rattle.pit_compile.specs.inner.SinkWriting.{in_sink}
use Rattle.pit_compile.specs.SinkBorrowed.{with_sink}
use Rattle.pit_compile.specs.Sinks.{sink_states, AreCutOffAt}
use Rattle.refusals.specs.declared.refusal.Refusal.{Refusal}
use Rattle.refusals.specs.declared.refusal.Refusal.TheVariants.{SinkFailed, OutOfMemory}
use Rattle.pit_compile.specs.declared.sinks.Sinks.{Sinks}

-- the text at a place in the order of writing
abbrev pub name_at : ℕ → TextName
name_at k = get_or all_texts k Blocks

-- the sink of this text holds it
abbrev pub IsHeld : Instance → (TextName → SinkState) → (TextName → SinkState) → TextName → Type 0
IsHeld i old new name = IsWritten (text_named name i) (old name) (new name)

-- the sink of this text is as it was
abbrev pub IsAsItWas : (TextName → SinkState) → (TextName → SinkState) → TextName → Type 0
IsAsItWas old new name = new name ≡ old name

-- what holds of all texts holds of each
pub of_each : (P : TextName → Type 0) → All P all_texts → (name : TextName) → P name
of_each P h = each (recursion_from_All P all_texts h)
  where
    each : AllByRecursion P all_texts → (name : TextName) → P name
    each all Blocks = all.0
    each all name = assumption

module _ {S : Type 0} (state : S → SinkState) (i : Instance) (old : TextName → SinkState) (sinks : Sinks S) (sink : S) where
  abbrev Held : Sinks S → TextName → Type 0
  Held now = IsHeld i old (sink_states state now)

  abbrev Same : Sinks S → TextName → Type 0
  Same now = IsAsItWas old (sink_states state now)

  -- with this sink for a text, that of another one tells what it told
  abbrev IsStill : TextName → TextName → Type 0
  IsStill name = IsAsItWas (sink_states state sinks) (sink_states state (with_sink sinks name sink))

  abbrev AreApart : TextName → TextName → Type 0
  AreApart name other = IsStill name other × IsStill other name

  -- each two of these texts, by steps that compute
  abbrev ArePairsApart : List TextName → Type 0
  ArePairsApart [] = Unit {0}
  ArePairsApart (name ∷ names) = AllByRecursion (AreApart name) names × ArePairsApart names

  pairs_apart : (names : List TextName) → ArePairsApart names → AllPairs AreApart names
  pairs_apart [] h = λ place other d below within. absurd (omega arith)
  pairs_apart (name ∷ names) h =
      AllPairs-cons AreApart name names (All-from_recursion (AreApart name) names h.0) (pairs_apart names h.1)

  all_apart : AllPairs AreApart all_texts
  all_apart = pairs_apart all_texts assumption

  reports : (name : TextName) → sink_states state (with_sink sinks name sink) name ≡ state sink
  reports Blocks = refl
  reports name = refl

  -- the sink of the text at this place told `was`, and this one stands in its place
  module _ (k : ℕ) (lt : k < length all_texts) (name : TextName) (at : name ≡ name_at k) (was : SinkState)
      (is : was ≡ sink_states state sinks name)
      (before : All (Held sinks) (take k all_texts)) (following : All (Same sinks) (drop k all_texts)) where
    abbrev now : Sinks S
    now = with_sink sinks (name_at k) sink

    from_here : drop k all_texts ≡ name_at k ∷ drop (k + 1) all_texts
    from_here = drop_more all_texts k Blocks lt

    still_before : All (IsStill (name_at k)) (take k all_texts)
    still_before = All-from_get_or (IsStill (name_at k)) (take k all_texts) Blocks (λ place within.
        let low : place < k = omega (arith, length-take k all_texts) in
        subst (IsStill (name_at k)) (sym (get_or-take k all_texts place Blocks low)) (all_apart place k Blocks low lt).1)

    still_after : All (IsStill (name_at k)) (drop (k + 1) all_texts)
    still_after = All-from_get_or (IsStill (name_at k)) (drop (k + 1) all_texts) Blocks (λ place within.
        let there : k + 1 + place < length all_texts = omega (arith, length-drop (k + 1) all_texts) in
        subst (IsStill (name_at k)) (sym (get_or-drop (k + 1) all_texts place Blocks))
        (all_apart k (k + 1 + place) Blocks (omega arith) there).0)

    held : All (Held now) (take k all_texts)
    held place d within =
        let text = get_or (take k all_texts) place d in
        subst (IsWritten (text_named text i) (old text)) (sym (still_before place d within)) (before place d within)

    same : All (Same now) (drop (k + 1) all_texts)
    same place d within =
        let rest = All-rest (Same sinks) (name_at k) (drop (k + 1) all_texts) (drop k all_texts) from_here following in
        still_after place d within ∙ rest place d within

    -- what holds of the step from what it told to what this one tells, holds from the old state to the new one
    moved : (P : TextName → SinkState → SinkState → Type 0) → P name was (state sink)
        → P (name_at k) (old (name_at k)) (sink_states state now (name_at k))
    moved P h =
        let as_it_was = All-head (Same sinks) (name_at k) (drop (k + 1) all_texts) (subst (All (Same sinks)) from_here following) in
        let started : was ≡ old (name_at k) = is ∙ ap (sink_states state sinks) at ∙ as_it_was in
        subst (P (name_at k) (old (name_at k))) (sym (reports (name_at k)))
        (subst (λ states. P (name_at k) states (state sink)) started (subst (λ text. P text was (state sink)) at h))

    pub wrote : IsWritten (text_named name i) was (state sink)
        → All (Held (with_sink sinks name sink)) (take (k + 1) all_texts) × All (Same (with_sink sinks name sink)) (drop (k + 1) all_texts)
    wrote h =
        subst (λ text. All (Held (with_sink sinks text sink)) (take (k + 1) all_texts)
        × All (Same (with_sink sinks text sink)) (drop (k + 1) all_texts)) (sym at)
        (All-more (Held now) all_texts k Blocks lt held (moved (λ text. IsWritten (text_named text i)) h), same)

    cut : (more : ℕ) → IsCutOff more (text_named name i) was (state sink)
        → AreCutOffAt name more i old (sink_states state (with_sink sinks name sink))
    cut more h =
        subst (λ text. AreCutOffAt text more i old (sink_states state (with_sink sinks text sink))) (sym at)
        record {
          before = take k all_texts;
          following = drop (k + 1) all_texts;
          order = sym (take-append-drop k all_texts) ∙ ap (λ rest. take k all_texts ++ rest) from_here;
          written = held;
          cut = moved (λ text. IsCutOff more (text_named text i)) h;
          still = same;
        }

    pub refused : (written : Result (Unit {0}) (OrMemory SinkFault)) (refusal : Refusal)
        → Writes (text_named name i) was (state sink) written
        → Err refusal ≡ in_sink name written → AreCutOff i old (sink_states state (with_sink sinks name sink)) refusal
    refused (Ok done) refusal h e = absurd (cc)
    refused (Err (write.Fault fault)) refusal h e = let is : refusal ≡ SinkFailed name = cc in rw is (cut 1 h)
    refused (Err write.OutOfMemory) refusal h e = let is : refusal ≡ OutOfMemory = cc in rw is (name, cut 0 h)

pub accepted : {text : List ℕ} {old new : SinkState} (name : TextName) (written : Result (Unit {0}) (OrMemory SinkFault)) (done : Unit {0})
    → Writes text old new written → Ok done ≡ in_sink name written → IsWritten text old new
accepted name (Ok other) done h e = h
accepted name (Err (write.Fault fault)) done h e = absurd (cc)
accepted name (Err write.OutOfMemory) done h e = absurd (cc)
