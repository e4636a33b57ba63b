-- What joined threads gave back, by what they promised.
use Rattle.std.proofs.Common.{◌≡◌, ℕ, zero, suc, ◌+◌, List, [], ◌∷◌, ◌++◌, true, false, length, map, drop, get_or, refl, sym, ap, ◌∙◌, subst, arith, All, append_assoc, inl, inr, ⊎_elim, true≢false, ◌||◌}
use Rattle.std.proofs.lemmas.List.{map-append, length-map}
use Rattle.std.specs.List.{AllZip, list_any}
use Rattle.std.proofs.lemmas.Bool.{cases_Bool, or_parts}
use Rattle.std.proofs.lemmas.List.Elements.{All-nil, All-cons, All-head, All-rest, All-tail}
use Rattle.devices.specs.feeds.FeedState.{FeedState}
use Rattle.lane.specs.Ends.{Lane, PutEndView, TakeEndView, ArePutsFrom, AreTakesFrom, ends_from, first_puts, first_takes}
use Rattle.lane.specs.MessageKinds.{is_done}
use Rattle.plan_parts.specs.PlanFormulas.{formulas_of_plan}
use Rattle.plan_parts.specs.Plan.{PlanParts}
use Rattle.valuers.specs.Valuing.{items_by}
use Rattle.rows.specs.ItemsView.{items_in, PackedView}
use Rattle.valuers.specs.declared.valuer.ValuerResult.{ValuerResult as ResultBy}
use Rattle.run_threads.specs.inner.Promises.{KeepsRead, KeepsValued, AreUnsentFrom, IsPartly}
use Rattle.run_threads.specs.Full.{IsOneFull}
use Rattle.run_threads.specs.Reading.{AreRead}
use Rattle.run_threads.specs.declared.file_reading.FileRead.{FileRead}

-- one more item joins those before it, and leaves the rest
pub map_step : {X Y : Type 0} (f : X → Y) (old : List X) (x : X) (y : Y) (l rest all : List Y) → l ≡ y ∷ rest → f x ≡ y
    → map f old ++ l ≡ all
    → map f (old ++ x ∷ []) ++ rest ≡ all
map_step f old x y l rest all is same h =
    rw (map-append f old (x ∷ []), append_assoc (map f old) (f x ∷ []) rest, same, sym is) h

pub same_lengths : {X Y Z : Type 0} (f : X → Z) (g : Y → Z) (xs : List X) (ys : List Y) → map f xs ≡ map g ys → length xs ≡ length ys
same_lengths f g xs ys same = sym (length-map xs f) ∙ ap length same ∙ length-map ys g

pub partly_more : {A B : Type 0} (R : A → B → Type 0) (all : List A) (done : List B) (x : A) (rest : List A) (y : B)
    → IsPartly R all done (x ∷ rest) → R x y → IsPartly R all (done ++ y ∷ []) rest
partly_more R [] [] x rest y same kept = absurd (let n = ap length same in let z : ⊥ = omega arith in z)
partly_more {A = A} R (a ∷ all) [] x rest y same kept =
    let P : A → Type 0 = λ w. R w y in
    (subst P (ap (λ l. get_or l 0 x) (sym same)) kept, ap (drop 1) same)
partly_more R [] (b ∷ done) x rest y h kept = h
partly_more R (a ∷ all) (b ∷ done) x rest y h kept = (h.0, partly_more R all done x rest y h.1 kept)

pub partly_all : {A B : Type 0} (R : A → B → Type 0) (all : List A) (done : List B) → IsPartly R all done [] → AllZip R all done
partly_all R [] [] same = tt
partly_all R (a ∷ all) [] same = absurd (let n = ap length same in let z : ⊥ = omega arith in z)
partly_all R [] (b ∷ done) h = h
partly_all R (a ∷ all) (b ∷ done) h = (h.0, partly_all R all done h.1)

pub first_unsent : (lane : Lane) (k n : ℕ) → AreUnsentFrom k (first_puts lane k n)
first_unsent lane k zero = tt
first_unsent lane k (suc n) = (refl, refl, first_unsent lane (k + 1) n)

pub unsent_rest : (k : ℕ) (e : PutEndView) (l rest : List PutEndView) → l ≡ e ∷ rest → AreUnsentFrom k l
    → (e.file ≡ k) × (e.sent ≡ []) × AreUnsentFrom (k + 1) rest
unsent_rest k e l rest is h = subst (AreUnsentFrom k) is h

-- what holds of the end with each number holds of all ends that are made
pub all_made : {E : Type 0} (P : E → Type 0) (make : ℕ → E) → ((k : ℕ) → P (make k)) → (k n : ℕ) → All P (ends_from make k n)
all_made P make each k zero = All-nil P
all_made P make each k (suc n) = All-cons P (make k) (ends_from make (k + 1) n) (each k) (all_made P make each (k + 1) n)

-- what holds of all ends holds of the first of them, which threads were given
pub of_given : {H E : Type 0} (P : E → Type 0) (end : H → E) (hs : List H) (rest all : List E) → map end hs ++ rest ≡ all → All P all
    → All (λ h. P (end h)) hs
of_given P end [] rest all is h = All-nil (λ h. P (end h))
of_given P end (x ∷ xs) rest all is h =
    let following = map end xs ++ rest in
    let whole : All P (end x ∷ following) = subst (All P) (sym is) h in
    All-cons (λ h. P (end h)) x xs (All-head P (end x) following whole) (of_given P end xs rest following refl (All-tail P (end x) following whole))

-- the readers of one plan, whatever their handles are
module _ {H F : Type 0} (state : F → FeedState) (feed : H → F) (plan : H → PlanParts) (end : H → PutEndView)
    (p : PlanParts) (lane : Lane) (files : ℕ) where
  abbrev Kept : H → FileRead → Type 0
  Kept h r = KeepsRead state (plan h).grid (feed h) (end h) r.ended r.answer

  pub puts_of : (k n : ℕ) → k + n ≡ files → (hs : List H) (rs : List FileRead) → AllZip Kept hs rs → map end hs ≡ first_puts lane k n
      → ArePutsFrom lane files k (map (λ r. r.ended) rs)
  puts_of k zero sum [] [] kept ends = omega arith
  puts_of k (suc n) sum [] [] kept ends = absurd (let l = ap length ends in let z : ⊥ = omega arith in z)
  puts_of k zero sum (h ∷ hs) (r ∷ rs) kept ends = absurd (let l = ap length ends in let z : ⊥ = omega arith in z)
  puts_of k (suc n) sum (h ∷ hs) (r ∷ rs) kept ends =
      let here = ap (λ l. get_or l 0 (end h)) ends in
      (kept.0.0 ∙ ap (λ e. e.lane) here, kept.0.1 ∙ ap (λ e. e.file) here, puts_of (k + 1) n (omega arith) hs rs kept.1 (ap (drop 1) ends))
  puts_of k n sum _ _ kept ends = absurd kept

  pub read_of : (k n : ℕ) (hs : List H) (rs : List FileRead) → AllZip Kept hs rs → All (λ h. plan h ≡ p) hs
      → map end hs ≡ first_puts lane k n
      → AreRead state p.grid k (map feed hs) (map (λ r. r.answer) rs) (map (λ (e : PutEndView). e.sent) (map (λ r. r.ended) rs))
  read_of k n [] [] kept plans ends = tt
  read_of k zero (h ∷ hs) (r ∷ rs) kept plans ends = absurd (let l = ap length ends in let z : ⊥ = omega arith in z)
  read_of k (suc n) (h ∷ hs) (r ∷ rs) kept plans ends =
      let Same : H → Type 0 = λ w. plan w ≡ p in
      let number : (end h).file ≡ k = ap (λ l. (get_or l 0 (end h)).file) ends in (
        rw (number, All-head Same h hs plans) at kept.0.2,
        read_of (k + 1) n hs rs kept.1 (All-rest Same h hs (h ∷ hs) refl plans)
            (ap (drop 1) ends),
      )
  read_of k n _ _ kept plans ends = absurd kept

abbrev ValuerResult : Type 0
ValuerResult = ResultBy PackedView

-- the valuers of one plan
module _ {H : Type 0} (plan : H → PlanParts) (end : H → TakeEndView) (p : PlanParts) (lane : Lane) (takers : ℕ) where
  abbrev KeptValues : H → ValuerResult → Type 0
  KeptValues h r = KeepsValued (formulas_of_plan (plan h)) (end h) r.taker r.items r.memory

  pub takes_of : (k n : ℕ) → k + n ≡ takers → (hs : List H) (rs : List ValuerResult) → AllZip KeptValues hs rs
      → map end hs ≡ first_takes lane k n
      → AreTakesFrom lane takers k (map (λ r. r.taker) rs)
  takes_of k zero sum [] [] kept ends = omega arith
  takes_of k (suc n) sum [] [] kept ends = absurd (let l = ap length ends in let z : ⊥ = omega arith in z)
  takes_of k zero sum (h ∷ hs) (r ∷ rs) kept ends = absurd (let l = ap length ends in let z : ⊥ = omega arith in z)
  takes_of k (suc n) sum (h ∷ hs) (r ∷ rs) kept ends =
      let here = ap (λ l. get_or l 0 (end h)) ends in (
        ap (λ t. t.lane) kept.0.0 ∙ ap (λ e. e.lane) here,
        ap (λ t. t.taker) kept.0.0
            ∙ ap (λ e. e.taker) here,
        takes_of (k + 1) n (omega arith) hs rs kept.1 (ap (drop 1) ends),
      )
  takes_of k n sum _ _ kept ends = absurd kept

  pub done_of : (hs : List H) (rs : List ValuerResult) → AllZip KeptValues hs rs
      → All (λ (t : TakeEndView). is_done t.took ≡ true) (map (λ r. r.taker) rs)
  done_of [] [] kept = All-nil (λ (t : TakeEndView). is_done t.took ≡ true)
  done_of (h ∷ hs) (r ∷ rs) kept =
      All-cons (λ (t : TakeEndView). is_done t.took ≡ true) r.taker (map (λ r. r.taker) rs) kept.0.1 (done_of hs rs kept.1)
  done_of _ _ kept = absurd kept

  pub valued_of : (k n : ℕ) (hs : List H) (rs : List ValuerResult) → AllZip KeptValues hs rs → All (λ h. plan h ≡ p) hs
      → map end hs ≡ first_takes lane k n
      → list_any (λ r. r.memory) rs ≡ false → items_in (map (λ r. r.items) rs) ≡ map (items_by (formulas_of_plan p))
      (map (λ (t : TakeEndView). t.took) (map (λ r. r.taker) rs))
  valued_of k n [] [] kept plans ends fine = refl
  valued_of k zero (h ∷ hs) (r ∷ rs) kept plans ends fine = absurd (let l = ap length ends in let z : ⊥ = omega arith in z)
  valued_of k (suc n) (h ∷ hs) (r ∷ rs) kept plans ends fine =
      let Same : H → Type 0 = λ w. plan w ≡ p in
      let fresh : (end h).took ≡ [] = ap (λ l. (get_or l 0 (end h)).took) ends in
      let here : r.items.items ≡ items_by (formulas_of_plan p) r.taker.took =
      rw (fresh, All-head Same h hs plans) at kept.0.2 (or_parts r.memory _ fine).0 in
      let rest : items_in (map (λ r. r.items) rs) ≡ map (items_by (formulas_of_plan p)) (map (λ (t : TakeEndView). t.took) (map (λ r. r.taker) rs)) =
      valued_of (k + 1) n hs rs kept.1 (All-rest Same h hs (h ∷ hs) refl plans) (ap (drop 1) ends) (or_parts r.memory _ fine).1 in
      ap (λ w. w ∷ items_in (map (λ r. r.items) rs)) here ∙ ap (λ w. items_by (formulas_of_plan p) r.taker.took ∷ w) rest
  valued_of k n _ _ kept plans ends fine = absurd kept

  pub full_of : (hs : List H) (rs : List ValuerResult) → AllZip KeptValues hs rs → All (λ h. plan h ≡ p) hs
      → list_any (λ r. r.memory) rs ≡ true → IsOneFull (length (formulas_of_plan p)) (map (λ r. r.items) rs)
  full_of [] [] kept plans some = absurd (true≢false (sym some))
  full_of (h ∷ hs) (r ∷ rs) kept plans some =
      let Same : H → Type 0 = λ w. plan w ≡ p in
      ⊎_elim (λ here. inl (rw (All-head Same h hs plans) at kept.0.3 here))
      (λ there. inr (full_of hs rs kept.1 (All-rest Same h hs (h ∷ hs) refl plans)
      (sym (ap (λ b. b || list_any (λ r. r.memory) rs) there) ∙ some)))
      (cases_Bool r.memory)
  full_of _ _ kept plans some = absurd kept
