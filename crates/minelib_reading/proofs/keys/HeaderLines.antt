-- The lines of a header, one for each key: what a line adds to earlier lines.
use Rattle.std.specs.Prelude.{AllPairs, List, is_some, not, pos, unwrap_or, ℕ, ◌≢◌, ◌⊎◌}
use Rattle.std.proofs.Common.{All, [], ap, arith, false, inl, inr, refl, subst, sym, true, ◌++◌, ◌+◌, ◌∙◌, ◌∷◌, ◌≡◌}
use Rattle.std.proofs.lemmas.List.Elements.{All-nil, All-push, Contains-append_left, Contains-push}
use Rattle.std.proofs.lemmas.List.Quantifiers.{all_pairs_push}
use Rattle.std.specs.List.{Contains}
use Rattle.pit_units.specs.EncodedNumbers.{EncodesBelow, EncodesInteger, EncodesNumber}
use Rattle.plan_parts.specs.declared.ranges.TheConstants.{MAX_DESTINATIONS, MAX_PERIODS, MAX_RATE, MAX_RESOURCES}
use Rattle.text_lines.specs.TextLines.{Line}
use Rattle.minelib_lines.specs.HeaderKeys.{has_key}
use Rattle.minelib_lines.specs.declared.header_key.HeaderKey.{HeaderKey}
use Rattle.minelib_lines.specs.declared.header_key.HeaderKey.TheVariants as key
use Rattle.minelib_lines.specs.declared.problem.Problem.{Problem}
use Rattle.minelib_reading.proofs.keys.HeaderFacts.{KeepsOwn, each_given, each_with, first_given, name_kept, number_kept, own_kept, own_single}
use Rattle.minelib_reading.proofs.lines.ItemLines.{line_more, lines_weaker}
use Rattle.minelib_reading.specs.HeaderNumbers.{count_in, is_complete, is_given, with_key}
use Rattle.minelib_reading.specs.ModelDraft.{blank_header, name_with}
use Rattle.minelib_reading.specs.StatedModel.{header_stated}
use Rattle.minelib_reading.specs.declared.model.key.Header.{Header}
use Rattle.minelib_reading.specs.encoded.EncodedLines.{AreLines}
use Rattle.minelib_reading.specs.encoded.EncodedModel.{AreHeaderLines, EncodesKey, IsHeaderLine, IsSingle}

-- the header's lines so far: one for each given key
pub record Heads (problem : Problem) (n : ℕ) (name : List ℕ) (h : Header) (lines : List Line) : Type 0 where
  pub keys : List HeaderKey
  pub encoded : AreLines (λ _ line k. IsHeaderLine problem n (header_stated name h) line k) 0 lines keys
  pub once : AllPairs (λ k j. k ≢ j) keys
  pub given : All (λ k. is_given k h ≡ true) keys
  pub all : (k : HeaderKey) → has_key problem k ≡ true → is_given k h ≡ true → Contains keys k
  pub own : KeepsOwn problem h

-- another key does not change the value of this key
count_kept : (h : Header) (k j : HeaderKey) (number : ℕ) → k ≢ j → count_in (with_key h k number) j ≡ count_in h j
count_kept h k j number differ =
    ap (λ found. unwrap_or found 0) (number_kept h k j number differ)

-- nor what its value encodes
encodes_kept : (problem : Problem) (n : ℕ) (k j : HeaderKey) (value name : List ℕ) (h : Header) (number : ℕ) (text : List ℕ) → k ≢ j
    → EncodesKey problem n (header_stated name h) j text → EncodesKey problem n (header_stated (name_with k value name) (with_key h k number)) j text
encodes_kept problem n k key.Name value name h number text differ s = (s.0 ∙ sym (name_kept k value name differ), s.1)
encodes_kept problem n k key.Type value name h number text differ s = s
encodes_kept problem n k key.Blocks value name h number text differ s = s
encodes_kept problem n k key.Periods value name h number text differ s =
    subst (EncodesInteger 1 MAX_PERIODS text) (sym (count_kept h k key.Periods number differ)) s
encodes_kept problem n k key.Destinations value name h number text differ s =
    subst (EncodesInteger 1 MAX_DESTINATIONS text) (sym (count_kept h k key.Destinations number differ)) s
encodes_kept problem n k key.Resources value name h number text differ s =
    subst (EncodesBelow (MAX_RESOURCES + 1) text) (sym (count_kept h k key.Resources number differ)) s
encodes_kept problem n k key.General value name h number text differ s = s
encodes_kept problem n k key.Rate value name h number text differ s =
    subst (λ m. EncodesNumber 6 (pos 0) MAX_RATE text (pos m)) (sym (count_kept h k key.Rate number differ)) s

-- a given key is the line's key, or was given before
given_by : (h : Header) (k : HeaderKey) (n : ℕ) (j : HeaderKey) → is_given j (with_key h k n) ≡ true → (k ≡ j) ⊎ (is_given j h ≡ true)
given_by h k n j is =
    each_with (λ j number. is_some number ≡ true → (k ≡ j) ⊎ (is_given j h ≡ true)) h k n (λ _. inl refl) (λ j differ is. inr is) j is

given_still : (h : Header) (k : HeaderKey) (n : ℕ) (j : HeaderKey) → is_given j h ≡ true → is_given j (with_key h k n) ≡ true
given_still h k n j was =
    each_with (λ j number. is_given j h ≡ true → is_some number ≡ true) h k n (λ _. refl) (λ j differ was. was) j was

pub heads_none : (problem : Problem) (n : ℕ) → Heads problem n [] (blank_header problem) []
heads_none problem n = record {
  keys = [];
  encoded = tt;
  once = λ i j d less within. absurd (omega arith);
  given = All-nil (λ k. is_given k (blank_header problem) ≡ true);
  all = λ k has is. absurd (let none = first_given problem k ∙ ap not has in cc);
  own = λ k given. refl;
}

pub heads_more : (problem : Problem) (n : ℕ) (k : HeaderKey) (value name : List ℕ) (h : Header) (number : ℕ) (lines : List Line) (line : Line)
    → is_given k h ≡ false → IsHeaderLine problem n (header_stated (name_with k value name) (with_key h k number)) line.text k
    → Heads problem n name h lines → Heads problem n (name_with k value name) (with_key h k number) (lines ++ line ∷ [])
heads_more problem n k value name h number lines line new here heads = record {
  keys = heads.keys ++ k ∷ [];
  encoded = line_more (λ _ text j. IsHeaderLine problem n (header_stated (name_with k value name) next) text j) 0 lines heads.keys line k
      (lines_weaker (λ _ text j. IsHeaderLine problem n (header_stated name h) text j)
      (λ _ text j. IsHeaderLine problem n (header_stated (name_with k value name) next) text j) (λ j. is_given j h ≡ true)
      (λ _ text j given l. still j (differs j given) l) 0 lines heads.keys heads.given heads.encoded)
      here;
  once = all_pairs_push (λ m l. m ≢ l) heads.keys k heads.once (λ i d within same. differs _ (heads.given i d within) (sym same));
  given = All-push (λ j. is_given j next ≡ true) heads.keys k (λ i d within. given_still h k number _ (heads.given i d within))
      (each_with (λ j found. k ≡ j → is_some found ≡ true) h k number (λ _. refl) (λ j other same. absurd (other same)) k refl);
  all = λ m has is. elim (given_by h k number m is) [
    | inl same ↦ subst (Contains (heads.keys ++ k ∷ [])) same (Contains-push heads.keys k)
    | inr was ↦ Contains-append_left heads.keys (k ∷ []) m (heads.all m has was)
  ];
  own = own_kept problem h k number new heads.own;
}
  where
    next : Header
    next = with_key h k number

    -- the key of the line was not given before
    differs : (j : HeaderKey) → is_given j h ≡ true → k ≢ j
    differs j is same = let was : is_given k h ≡ true = subst (λ m. is_given m h ≡ true) (sym same) is in absurd cc

    still : {text : List ℕ} (j : HeaderKey) → k ≢ j → IsHeaderLine problem n (header_stated name h) text j
        → IsHeaderLine problem n (header_stated (name_with k value name) next) text j
    still j differ l = record {
      value = l.value;
      is_key = l.is_key;
      of_problem = l.of_problem;
      says = encodes_kept problem n k j value name h number l.value differ l.says;
    }

-- the lines of a complete header
pub record WholeHeader (problem : Problem) (n : ℕ) (name : List ℕ) (h : Header) (lines : List Line) : Type 0 where
  pub complete : is_complete h ≡ true
  pub single : IsSingle problem (count_in h key.Destinations)
  pub encoded : AreHeaderLines problem n lines (header_stated name h)

pub heads_whole : (problem : Problem) (n : ℕ) (name : List ℕ) (h : Header) (lines : List Line) → is_complete h ≡ true
    → Heads problem n name h lines → WholeHeader problem n name h lines
heads_whole problem n name h lines complete heads = record {
  complete = complete;
  single = own_single problem h heads.own;
  encoded = record {
    keys = heads.keys;
    encoded = heads.encoded;
    once = heads.once;
    all = λ k has. heads.all k has (each_given h complete k);
  };
}
