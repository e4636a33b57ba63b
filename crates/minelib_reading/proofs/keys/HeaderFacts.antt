-- A header after a key and its number were added, key by key.
use Rattle.std.specs.Prelude.{◌≡◌, ◌≢◌, ℕ, zero, suc, ◌<◌, ◌==◌, ◌⊎◌, Bool, true, false, List, ◌∷◌, length, map, not, Option, Some, None, is_some, unwrap_or, slice_index_or, if◌then◌else◌}
use Rattle.std.specs.List.{Contains, list_all, range_with_len}
use Rattle.std.proofs.Common.{refl, sym, ◌∙◌, ap, subst, arith, inl, inr, eq-eqb, set, get_or}
use Rattle.std.proofs.lemmas.Bool.{eqb-true}
use Rattle.std.proofs.lemmas.List.Elements.{All-contains}
use Rattle.std.proofs.lemmas.List.FromFn.{fill_by_all}
use Rattle.std.proofs.lemmas.List.Sums.{AllPass-from_list_all, list_all-from_AllPass}
use Rattle.minelib_lines.specs.HeaderKeys.{has_key, header_keys, place}
use Rattle.minelib_reading.specs.HeaderNumbers.{number_of, with_key, count_in, is_given, is_complete}
use Rattle.minelib_reading.specs.ModelDraft.{blank_header, name_with}
use Rattle.minelib_reading.specs.encoded.EncodedModel.{IsSingle}
use Rattle.minelib_reading.specs.inner.ModelParts.{number_limit}
use Rattle.minelib_reading.specs.declared.model.key.Header.{Header}
use Rattle.minelib_lines.specs.declared.header_key.HeaderKey.{HeaderKey}
use Rattle.minelib_lines.specs.declared.header_key.TheConstants.{KEYS}
use Rattle.minelib_lines.specs.declared.header_key.HeaderKey.TheVariants as key
use Rattle.minelib_lines.specs.declared.problem.Problem.{Problem}
use Rattle.minelib_lines.specs.declared.problem.Problem.TheVariants.{Pcpsp, Cpit}

-- the key at a place
abbrev key_at : ℕ → HeaderKey
key_at i = slice_index_or header_keys i key.Name

key_there : (k : HeaderKey) → key_at (place k) ≡ k
key_there key.Name = refl
key_there k = refl

one_place : (j k : HeaderKey) → place j ≡ place k → j ≡ k
one_place j k same = sym (key_there j) ∙ ap key_at same ∙ key_there k

-- the number of each key after another was added
entry : (h : Header) (k : HeaderKey) (n : ℕ) (j : HeaderKey)
    → number_of (with_key h k n) j ≡ (if place j == place k then Some n else number_of h j)
unfolding with_key
entry h k n key.Name = refl
entry h k n j = refl

-- if the new number and the old number of each other key have a property, the number of each key has it
pub each_with : (P : HeaderKey → Option ℕ → Type 0) (h : Header) (k : HeaderKey) (n : ℕ) → P k (Some n)
    → ((j : HeaderKey) → k ≢ j → P j (number_of h j)) → (j : HeaderKey) → P j (number_of (with_key h k n) j)
each_with P h k n here others j = subst (P j) (sym (entry h k n j)) (by (place j == place k) refl)
  where
    by : (t : Bool) → (place j == place k) ≡ t → P j (if t then Some n else number_of h j)
    by true e = subst (λ i. P i (Some n)) (one_place k j (sym (eqb-true (place j) (place k) e))) here
    by false e = others j (λ same.
        (let there : (place j == place k) ≡ true = eq-eqb (place j) (place k) (ap (λ i. place i) (sym same)) in absurd cc))

-- the number that was added
pub with_same : (h : Header) (k : HeaderKey) (n : ℕ) → number_of (with_key h k n) k ≡ Some n
with_same h k n = each_with (λ j number. k ≡ j → number ≡ Some n) h k n (λ _. refl) (λ j other same. absurd (other same)) k refl

-- another key changes neither the number of this key, nor the name
pub number_kept : (h : Header) (k j : HeaderKey) (n : ℕ) → k ≢ j → number_of (with_key h k n) j ≡ number_of h j
number_kept h k j n differ =
    each_with (λ j found. k ≢ j → found ≡ number_of h j) h k n (λ other. absurd (other refl)) (λ j _ _. refl) j differ

pub name_kept : (k : HeaderKey) (value name : List ℕ) → k ≢ key.Name → name_with k value name ≡ name
name_kept key.Name value name differ = absurd (differ refl)
name_kept k value name differ = refl

pub count_there : (h : Header) (n : ℕ) (k : HeaderKey) → count_in (with_key h k n) k ≡ n
count_there h n k = ap (λ number. unwrap_or number 0) (with_same h k n)

-- before the first line, exactly the keys that the problem's files do not have are given
pub first_given : (problem : Problem) (k : HeaderKey) → is_given k (blank_header problem) ≡ not (has_key problem k)
unfolding with_key
first_given Pcpsp key.Name = refl
first_given Pcpsp k = refl
first_given Cpit key.Name = refl
first_given Cpit k = refl

-- numbers are below the limits of their keys
pub numbers_below : (h : Header) (k : HeaderKey) (n : ℕ) → n < number_limit k → ((j : HeaderKey) → count_in h j < number_limit j)
    → (j : HeaderKey) → count_in (with_key h k n) j < number_limit j
numbers_below h k n here were = each_with (λ j number. unwrap_or number 0 < number_limit j) h k n here (λ j _. were j)

pub blank_below : (problem : Problem) (k : HeaderKey) → count_in (blank_header problem) k < number_limit k
unfolding with_key
blank_below Pcpsp key.Name = omega arith
blank_below Pcpsp k = omega arith
blank_below Cpit key.Name = omega arith
blank_below Cpit k = omega arith

-- an array with another number at the place of a key
pub key_set : (xs : List (Option ℕ)) (k : HeaderKey) (n : ℕ) → length xs ≡ KEYS
    → record { numbers = set xs (place k) (Some n) } ≡ with_key (record { numbers = xs }) k n
unfolding with_key
key_set xs k n count =
    ap (λ numbers. record { numbers = numbers })
    (ap (λ ys. set ys (place k) (Some n)) (fill_by_all at xs KEYS None count (λ i h. refl)) ∙ here k)
  where
    at : ℕ → Option ℕ
    at i = get_or xs i None

    here : (k : HeaderKey) → set (map at (range_with_len 0 KEYS)) (place k) (Some n) ≡ (with_key (record { numbers = xs }) k n).numbers
    here key.Name = refl
    here k = refl

-- all keys were read if all their numbers are there
pub all_numbers : (xs : List (Option ℕ)) → length xs ≡ KEYS
    → list_all (λ number. is_some number) xs ≡ is_complete (record { numbers = xs })
all_numbers xs count = ap (λ ys. list_all (λ number. is_some number) ys) (fill_by_all (λ i. get_or xs i None) xs KEYS None count (λ i h. refl))

-- each key is among all
pub each_key : (k : HeaderKey) → Contains header_keys k
each_key k = (place k, inside k, there k)
  where
    inside : (k : HeaderKey) → place k < length header_keys
    inside key.Name = omega arith
    inside k = omega arith

    there : (k : HeaderKey) → slice_index_or header_keys (place k) k ≡ k
    there key.Name = refl
    there k = refl

-- a header with all keys has each key
pub each_given : (h : Header) → is_complete h ≡ true → (k : HeaderKey) → is_given k h ≡ true
each_given h all k =
    All-contains (λ j. is_given j h ≡ true) header_keys k (AllPass-from_list_all (λ j. is_given j h) header_keys all) (each_key k)

pub all_given : (h : Header) → ((k : HeaderKey) → is_given k h ≡ true) → is_complete h ≡ true
all_given h all = list_all-from_AllPass (λ k. is_given k h) header_keys (λ i d inside. all (get_or header_keys i d))

pub contains_cases : (k : HeaderKey) (keys : List HeaderKey) (j : HeaderKey) (i : ℕ) → i < length (k ∷ keys)
    → slice_index_or (k ∷ keys) i j ≡ j
    → (k ≡ j) ⊎ Contains keys j
contains_cases k keys j zero inside is = inl is
contains_cases k keys j (suc i) inside is = inr (i, omega arith, is)

-- keys that the problem's files do not have are as before the first line
abbrev pub KeepsOwn : Problem → Header → Type 0
KeepsOwn problem h = (k : HeaderKey) → is_given k (blank_header problem) ≡ true → number_of h k ≡ number_of (blank_header problem) k

pub own_kept : (problem : Problem) (h : Header) (k : HeaderKey) (n : ℕ) → is_given k h ≡ false → KeepsOwn problem h
    → KeepsOwn problem (with_key h k n)
own_kept problem h k n new kept =
    each_with (λ j found. is_given j (blank_header problem) ≡ true → found ≡ number_of (blank_header problem) j) h k n
    (λ given. (let was : is_given k h ≡ true = ap is_some (kept k given) ∙ given in absurd cc)) (λ j _. kept j)

-- a CPIT has one destination
pub own_single : (problem : Problem) (h : Header) → KeepsOwn problem h → IsSingle problem (count_in h key.Destinations)
unfolding with_key
own_single Pcpsp h own = tt
own_single Cpit h own = rw (own key.Destinations refl) refl
