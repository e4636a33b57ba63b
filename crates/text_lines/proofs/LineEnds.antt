-- No byte ends a line after the last one that does.
use Rattle.std.proofs.Common.{◌≡◌, ◌≢◌, ℕ, ◌+◌, ◌<◌, ◌∙◌, List, true, Option, Some, None, length, get_or, take, drop, ap, sym, subst, arith, length-drop}
use Rattle.std.proofs.lemmas.List.{get_or-drop, take-append-drop}
use Rattle.std.proofs.lemmas.List.Elements.{All-append, All-from_get_or}
use Rattle.std.proofs.Math.Seq.{take-append_seam}
use Rattle.memchr.specs.Find.{IsLastByte, is_byte}
use Rattle.text_lines.specs.inner.Waiting.{NoLineEnd, WaitingView, Held}

-- a byte that fails the test ends no line
other : (b : ℕ) → (is_byte 10 b ≡ true → ⊥) → b ≢ 10
other b fails = λ e. fails (ap (is_byte 10) e)

module _ (bytes : List ℕ) (from : ℕ) where
  pub none_following : (place : ℕ) → IsLastByte (is_byte 10) (drop from bytes) (Some place) → NoLineEnd (drop (from + place + 1) bytes)
  none_following place last =
      All-from_get_or (λ b. b ≢ 10) (drop (from + place + 1) bytes) 0 (λ i within.
      let at : get_or (drop from bytes) (place + 1 + i) 0 ≡ get_or (drop (from + place + 1) bytes) i 0 =
      get_or-drop from bytes (place + 1 + i) 0
      ∙ ap (λ k. get_or bytes k 0) (let e : from + (place + 1 + i) ≡ from + place + 1 + i = omega arith in e)
      ∙ sym (get_or-drop (from + place + 1) bytes i 0) in
      let high : place + 1 + i < length (drop from bytes) =
      omega (arith, within, length-drop from bytes, length-drop (from + place + 1) bytes) in
      other _ (λ e. last.0.after (place + 1 + i) (omega arith) high (ap (is_byte 10) at ∙ e)))

  pub none_at_all : NoLineEnd (take from bytes) → IsLastByte (is_byte 10) (drop from bytes) None → NoLineEnd bytes
  none_at_all prefix nowhere =
      subst NoLineEnd (take-append-drop from bytes)
      (All-append (λ b. b ≢ 10) (take from bytes) (drop from bytes) prefix
      (All-from_get_or (λ b. b ≢ 10) (drop from bytes) 0 (λ i within. other _ (nowhere i (omega arith) within))))

-- the bytes held before have no line end
pub prefix_held : (n before : ℕ) (old new : WaitingView) (remaining more : Option (List ℕ)) → NoLineEnd old.held → Held n old new remaining more
    → before ≡ length old.held → NoLineEnd (take before new.held)
prefix_held n before old new remaining more unended held same = rw (same, held.held, take-append_seam old.held held.bytes) unended
