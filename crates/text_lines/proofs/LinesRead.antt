-- Lines that are read one after the other, and the first invalid one.
use Rattle.std.specs.Prelude.{◌≡◌, ℕ, List, [], ◌∷◌, ◌++◌, Result, Ok, Err}
use Rattle.std.proofs.Common.{refl, sym, ◌∙◌, ap}
use Rattle.pit_units.proofs.Exactly.{Exactly, same}
use Rattle.text_lines.specs.Reading.{IsFirstFault, at_line, read_lines}
use Rattle.pit_units.specs.Steps.{◌>>=◌}
use Rattle.text_lines.specs.TextLines.{Line}
use Rattle.text_lines.specs.declared.text_fault.LineFault.{LineFault}
use Rattle.text_lines.specs.declared.text_fault.TextKind.{TextKind}

-- a line, whatever its number
pub at : {S : Type 0} {r : Result S TextKind} {P : S → Type 0} (number : ℕ) → Exactly r P → Exactly (at_line number r) P
at {S} {r} {P} number all = record { reported = λ y e. all.reported y (reported r y e); back = λ y h. ap (at_line number) (all.back y h) }
  where
    reported : (r : Result S TextKind) (y : S) → at_line number r ≡ Ok y → r ≡ Ok y
    reported (Ok x) y e = ap Ok (same x y e)
    reported (Err kind) y e = absurd cc

module _ {S : Type 0} (admit : S → List ℕ → Result S TextKind) where
  -- a valid line, and then more
  pub line_then : (s t u : S) (line : Line) (more : List Line) → admit s line.text ≡ Ok t → read_lines admit t more ≡ Ok u
      → read_lines admit s (line ∷ more) ≡ Ok u
  line_then s t u line more is following = rw is following

  -- valid lines, and then more
  pub read_both : (s t : S) (lines more : List Line) → read_lines admit s lines ≡ Ok t
      → read_lines admit s (lines ++ more) ≡ read_lines admit t more
  read_both s t [] more e = let same : s ≡ t = cc in ap (λ s. read_lines admit s more) same
  read_both s t (line ∷ lines) more e = by (λ next e. read_both next t lines more e) (admit s line.text) refl e
    where
      by : ((next : S) → read_lines admit next lines ≡ Ok t → read_lines admit next (lines ++ more) ≡ read_lines admit t more)
          → (r : Result S TextKind) → admit s line.text ≡ r → read_lines admit s (line ∷ lines) ≡ Ok t
          → read_lines admit s (line ∷ lines ++ more) ≡ read_lines admit t more
      by deeper (Ok next) is e = rw is (deeper next (rw is at e))
      by deeper (Err kind) is e = absurd (let never = rw is at e in cc)

  pub lines_then : (s t u : S) (lines more : List Line) → read_lines admit s lines ≡ Ok t → read_lines admit t more ≡ Ok u
      → read_lines admit s (lines ++ more) ≡ Ok u
  lines_then s t u lines more first following = read_both s t lines more first ∙ following

  -- if lines are rejected, one of them is the first invalid one
  pub first_fault : (lines : List Line) (s : S) (fault : LineFault) → read_lines admit s lines ≡ Err fault → IsFirstFault admit s lines fault
  first_fault [] s fault e = absurd cc
  first_fault (line ∷ lines) s fault e = by (λ next e. first_fault lines next fault e) (admit s line.text) refl e
    where
      by : ((next : S) → read_lines admit next lines ≡ Err fault → IsFirstFault admit next lines fault) → (r : Result S TextKind)
          → admit s line.text ≡ r → (at_line line.number r >>= λ next. read_lines admit next lines) ≡ Err fault
          → IsFirstFault admit s (line ∷ lines) fault
      by deeper (Ok next) is e =
          let later = deeper next e in
          record {
            before = line ∷ later.before;
            bad = later.bad;
            following = later.following;
            cut = ap (λ lines. line ∷ lines) later.cut;
            place = later.place;
            state = later.state;
            stated = line_then s next later.state line later.before is later.stated;
            fails = later.fails;
          }
      by deeper (Err kind) is e =
          let found : LineFault = record { line = line.number; kind = kind } in
          let same : found ≡ fault = cc in
          record {
            before = [];
            bad = line;
            following = lines;
            cut = refl;
            place = sym (ap (λ (f : LineFault). f.line) same);
            state = s;
            stated = refl;
            fails = is ∙ ap (λ (f : LineFault). Err f.kind) same;
          }

-- lines read into a state that stores more than their contents
pub kept_beside : {S T : Type 0} (state : S → T) (admit : S → List ℕ → Result S TextKind) (other : T → List ℕ → Result T TextKind)
    → ((s : S) (line : List ℕ) → other (state s) line ≡ (admit s line >>= λ next. Ok (state next)))
    → (s : S) (lines : List Line) → read_lines other (state s) lines ≡ (read_lines admit s lines >>= λ last. Ok (state last))
kept_beside state admit other same s [] = refl
kept_beside {S} {T} state admit other same s (line ∷ lines) =
    ap (λ r. at_line line.number r >>= λ next. read_lines other next lines) (same s line.text)
    ∙ by (λ next. kept_beside state admit other same next lines) (admit s line.text)
  where
    by : ((next : S) → read_lines other (state next) lines ≡ (read_lines admit next lines >>= λ last. Ok (state last))) → (r : Result S TextKind)
        → (at_line line.number (r >>= λ next. Ok (state next)) >>= λ next. read_lines other next lines)
        ≡ ((at_line line.number r >>= λ next. read_lines admit next lines) >>= λ last. Ok (state last))
    by deeper (Ok next) = deeper next
    by deeper (Err kind) = refl
