-- The effect of writing more on a sink and a buffer, and the contents of a sink that was cut off.
use Rattle.std.proofs.Common.{◌≡◌, ℕ, ◌+◌, List, [], ◌++◌, Option, Some, None, refl, sym, ◌∙◌, ap, append_assoc, inl, inr, arith}
use Rattle.devices.specs.Device.{added, holding}
use Rattle.devices.specs.sinks.SinkState.{SinkState, IsCutOff, IsBegunAsBefore}
use Rattle.devices.specs.sinks.SinkSteps.{IsAppended, IsAppendCut}

-- bytes added in two steps
pub added-added : (a b : List ℕ) (t : Option (List ℕ)) → added b (added a t) ≡ added (a ++ b) t
added-added a b None = refl
added-added a b (Some bytes) = ap Some (append_assoc bytes a b)

still_self : (s : SinkState) → IsBegunAsBefore s s
still_self s = record { begun = refl; before = refl }

still_after : (old between new : SinkState) → IsBegunAsBefore old between → IsBegunAsBefore between new → IsBegunAsBefore old new
still_after old between new first then = record { begun = then.begun ∙ first.begun; before = then.before ∙ first.before }

-- the buffer took the text, and the sink is unchanged
pub buffered : {before after : List ℕ} {s : SinkState} (text : List ℕ) → after ≡ before ++ text
    → IsAppended text before after s s
buffered {before} {s = s} text e = record {
  taken = ap (λ bytes. added bytes s.taken) e ∙ sym (added-added before text s.taken);
  works = refl;
  still = still_self s;
}

-- no call was made: the sink is unchanged
pub nothing_put : (text before : List ℕ) (s : SinkState) → IsAppendCut 0 text before s s
nothing_put text before s = record {
  prefix = record { rest = before ++ text; joined = added-added before text s.taken };
  fails = omega arith;
  still = still_self s;
}

-- the text was to continue
pub cut_before : {n : ℕ} {a before : List ℕ} {old new : SinkState} (b : List ℕ) → IsAppendCut n a before old new
    → IsAppendCut n (a ++ b) before old new
cut_before {a = a} {new = new} b cut = record {
  prefix = record {
    rest = cut.prefix.rest ++ b;
    joined = sym (added-added a b _) ∙ ap (added b) cut.prefix.joined ∙ added-added cut.prefix.rest b new.taken;
  };
  fails = cut.fails;
  still = cut.still;
}

module _ {a b before mid : List ℕ} {old between new : SinkState} where
  -- one text was written, and then another
  pub written_then : {after : List ℕ} → IsAppended a before mid old between → IsAppended b mid after between new
      → IsAppended (a ++ b) before after old new
  written_then first then = record {
    taken = then.taken ∙ ap (added b) first.taken ∙ added-added a b _;
    works = then.works ∙ first.works;
    still = still_after old between new first.still then.still;
  }

  -- one text was written, and the next was cut off
  pub cut_then : {n : ℕ} → IsAppended a before mid old between → IsAppendCut n b mid between new
      → IsAppendCut n (a ++ b) before old new
  cut_then {n = n} first cut = record {
    prefix = record {
      rest = cut.prefix.rest;
      joined = sym (ap (added b) first.taken ∙ added-added a b _) ∙ cut.prefix.joined;
    };
    fails = cut.fails ∙ ap (λ failures. failures + n) first.works;
    still = still_after old between new first.still cut.still;
  }

-- a sink that failed to begin was cut off before the text
pub cut_at_begin : (text : List ℕ) (old new : SinkState) → IsCutOff 1 [] old new → IsCutOff 1 text old new
cut_at_begin text old new cut = record {
  stands = elim cut.stands [
    | inl untouched ↦ inl untouched
    | inr empty ↦ inr (record {
      begun = empty.begun;
      taken = record {
        rest = empty.taken.rest ++ text;
        joined = sym (held old.taken) ∙ ap (added text) empty.taken.joined ∙ added-added empty.taken.rest text new.taken;
      };
    })
  ];
  before = cut.before;
  fails = cut.fails;
}
  where
    held : (t : Option (List ℕ)) → added text (holding [] t) ≡ holding text t
    held None = refl
    held (Some bytes) = refl
