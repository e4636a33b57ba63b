-- Lines that encode the items of a list, and files with one line for each item.
use Rattle.std.specs.Prelude.{List, Ok, Result, slice_index_or, ℕ}
use Rattle.std.proofs.Common.{All, [], ap, append-nil, append_assoc, arith, length, length-append, refl, subst, suc, sym, zero, ◌++◌, ◌+◌, ◌<◌, ◌∙◌, ◌∷◌, ◌≡◌}
use Rattle.std.proofs.lemmas.List.Elements.{All-head, All-tail}
use Rattle.pit_units.proofs.Exactly.{Exactly, as_, done, then_}
use Rattle.pit_units.specs.Steps.{◌>>=◌}
use Rattle.text_lines.proofs.LinesRead.{at, line_then}
use Rattle.text_lines.specs.Reading.{IsFirstFault, read_lines}
use Rattle.text_lines.specs.TextLines.{Line}
use Rattle.text_lines.specs.declared.text_fault.LineFault.{LineFault}
use Rattle.text_lines.specs.declared.text_fault.TextKind.{TextKind}
use Rattle.minelib_reading.specs.encoded.EncodedLines.{AreLines, IsFirstInvalidLine}

-- another line with another item
pub line_more : {A : Type 0} (Encodes : ℕ → List ℕ → A → Type 0) (n : ℕ) (lines : List Line) (items : List A) (line : Line) (item : A)
    → AreLines Encodes n lines items → Encodes (n + length items) line.text item → AreLines Encodes n (lines ++ line ∷ []) (items ++ item ∷ [])
line_more Encodes n [] [] line item are here = let e : n + 0 ≡ n = omega arith in (subst (λ k. Encodes k line.text item) e here, tt)
line_more Encodes n (l ∷ lines) (i ∷ items) line item are here =
    let e : n + length (i ∷ items) ≡ n + 1 + length items = omega arith in
    (are.0, line_more Encodes (n + 1) lines items line item are.1 (subst (λ k. Encodes k line.text item) e here))
line_more Encodes n lines items line item are here = absurd are

-- what each line shows of its item, by the item's number
pub each_item : {A : Type 0} (Encodes : ℕ → List ℕ → A → Type 0) (P : ℕ → A → Type 0)
    → ((n : ℕ) (text : List ℕ) (item : A) → Encodes n text item → P n item)
    → (n : ℕ) (lines : List Line) (items : List A) → AreLines Encodes n lines items
    → (k : ℕ) (d : A) → k < length items → P (n + k) (slice_index_or items k d)
each_item Encodes P shows n [] [] are k d inside = absurd (omega (arith, inside))
each_item Encodes P shows n (line ∷ lines) (item ∷ items) are zero d inside =
    subst (λ place. P place item) (omega arith) (shows n line.text item are.0)
each_item Encodes P shows n (line ∷ lines) (item ∷ items) are (suc k) d inside =
    let place : n + 1 + k ≡ n + suc k = omega arith in
    subst (λ place. P place (slice_index_or items k d)) place
    (each_item Encodes P shows (n + 1) lines items are.1 k d (omega (arith, inside)))
each_item Encodes P shows n lines items are k d inside = absurd are

-- a weaker rule, for items with a property
pub lines_weaker : {A : Type 0} (Encodes Shows : ℕ → List ℕ → A → Type 0) (P : A → Type 0)
    → ((n : ℕ) (text : List ℕ) (item : A) → P item → Encodes n text item → Shows n text item)
    → (n : ℕ) (lines : List Line) (items : List A) → All P items → AreLines Encodes n lines items → AreLines Shows n lines items
lines_weaker Encodes Shows P less n [] [] all are = tt
lines_weaker Encodes Shows P less n (line ∷ lines) (item ∷ items) all are = (
  less n line.text item (All-head P item items all) are.0,
  lines_weaker Encodes Shows P less (n + 1) lines items (All-tail P item items all) are.1,
)
lines_weaker Encodes Shows P less n lines items all are = absurd are

-- files with one line for each item: what lines encode is read, by the number of earlier items
module _ {A : Type 0} (item : ℕ → List ℕ → Result A TextKind) (Encodes : ℕ → List ℕ → A → Type 0)
    (exact : (n : ℕ) (line : List ℕ) → Exactly (item n line) (Encodes n line)) where
  abbrev with_item : List A → List ℕ → Result (List A) TextKind
  with_item items line = item (length items) line >>= λ x. Ok (items ++ x ∷ [])

  abbrev After : List A → List Line → List A → Type 0
  After items lines all = (rest : List A) × AreLines Encodes (length items) lines rest × (all ≡ items ++ rest)

  following : (items : List A) (lines : List Line) → Exactly (read_lines with_item items lines) (After items lines)
  following items [] = as_ (done items) (λ all is. ([], tt, is ∙ sym (append-nil items))) none
    where
      none : (all : List A) → After items [] all → all ≡ items
      none all ([], are, is) = is ∙ append-nil items
      none all (x ∷ rest, are, is) = absurd are
  following items (line ∷ lines) =
      as_ (then_ (at line.number (then_ (exact (length items) line.text) (λ x. done (items ++ x ∷ [])))) (λ next. following next lines)) to from
    where
      Steps : List A → Type 0
      Steps all =
          (next : List A) × ((x : A) × Encodes (length items) line.text x × (next ≡ items ++ x ∷ [])) × After next lines all

      count : (x : A) → length (items ++ x ∷ []) ≡ length items + 1
      count x = omega (arith, length-append items (x ∷ []))

      to : (all : List A) → Steps all → After items (line ∷ lines) all
      to all (next, (x, encodes, is), (rest, are, joined)) = (
        x ∷ rest,
        (encodes, subst (λ n. AreLines Encodes n lines rest) (ap length is ∙ count x) are),
        joined ∙ ap (λ prefix. prefix ++ rest) is ∙ append_assoc items (x ∷ []) rest,
      )

      from : (all : List A) → After items (line ∷ lines) all → Steps all
      from all ([], are, is) = absurd are
      from all (x ∷ rest, are, is) = (
        items ++ x ∷ [],
        (x, are.0, refl),
        (rest, subst (λ n. AreLines Encodes n lines rest) (sym (count x)) are.1, is ∙ sym (append_assoc items (x ∷ []) rest)),
      )

  pub items_exact : (lines : List Line) → Exactly (read_lines with_item [] lines) (AreLines Encodes 0 lines)
  items_exact lines =
      as_ (following [] lines) (λ all h. subst (AreLines Encodes 0 lines) (sym h.2) h.1) (λ all are. (all, are, refl))

  -- and the first line that is not read encodes no item
  pub first_unencoded : (lines : List Line) (fault : LineFault) → IsFirstFault with_item [] lines fault
      → IsFirstInvalidLine Encodes lines fault.line
  first_unencoded lines fault first = record {
    before = first.before;
    bad = first.bad;
    following = first.following;
    cut = first.cut;
    place = first.place;
    items = first.state;
    encoded = (items_exact first.before).reported first.state first.stated;
    encodes_none = λ x encodes.
        let read : with_item first.state first.bad.text ≡ Ok (first.state ++ x ∷ []) =
        ap (λ r. r >>= λ x. Ok (first.state ++ x ∷ [])) ((exact (length first.state) first.bad.text).back x encodes) in
        absurd (cc (read, first.fails));
  }

-- lines that encode items, each of which is stated after the earlier ones
pub items_state : {A S : Type 0} (admit : S → List ℕ → Result S TextKind) (Encodes : ℕ → List ℕ → A → Type 0) (state : List A → S) (all : List A)
    → ((done : List A) (x : A) (rest : List A) (line : List ℕ) → all ≡ done ++ x ∷ rest → Encodes (length done) line x
    → admit (state done) line ≡ Ok (state (done ++ x ∷ [])))
    → (i : ℕ) (done rest : List A) (lines : List Line) → i ≡ length done → all ≡ done ++ rest → AreLines Encodes i lines rest
    → read_lines admit (state done) lines ≡ Ok (state all)
items_state admit Encodes state all each i done [] [] count cut are = ap (λ xs. Ok (state xs)) (sym (cut ∙ append-nil done))
items_state admit Encodes state all each i done (x ∷ rest) (line ∷ lines) count cut are =
    line_then admit (state done) (state (done ++ x ∷ [])) (state all) line lines
    (each done x rest line.text cut (subst (λ k. Encodes k line.text x) count are.0))
    (items_state admit Encodes state all each (i + 1) (done ++ x ∷ []) rest lines (omega (arith, length-append done (x ∷ []), count))
    (cut ∙ sym (append_assoc done (x ∷ []) rest)) are.1)
items_state admit Encodes state all each i done rest lines count cut are = absurd are
