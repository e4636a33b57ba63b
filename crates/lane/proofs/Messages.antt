-- Lists of messages, with one message appended.
use Rattle.std.proofs.Common.{◌≡◌, ⊎_elim, ℕ, zero, suc, ◌+◌, ◌<◌, ◌≤◌, Bool, true, false, cond, ◌||◌, List, [], ◌∷◌, ◌++◌, length, map, slice_get, Some, None, refl, sym, ap, ◌∙◌, subst, arith, count_by, append-nil}
use Rattle.std.specs.List.{AllByRecursion}
use Rattle.std.specs.List.Sorted.{IsStrictlyIncreasing}
use Rattle.std.proofs.lemmas.Bool.{cases_Bool, eqb-true, eq-eqb, true≢false, or_parts}
use Rattle.std.proofs.lemmas.List.Elements.{All-from_recursion, filter-append}
use Rattle.std.proofs.lemmas.List.Kept.{AllPairs-from_increasing}
use Rattle.std.proofs.lemmas.List.Quantifiers.{all_pairs_push}
use Rattle.std.proofs.Math.Bool.{or-false}
use Rattle.lane.specs.declared.message.Taken.{Taken}
use Rattle.lane.specs.declared.message.Taken.TheVariants.{Row, End, Stop}
use Rattle.lane.specs.Message.{is_of, of, position, IsEndedFrom}
use Rattle.lane.specs.MessageKinds.{is_row, is_end, is_stop, is_quit, is_mark, row_count, has_end, is_done, ends_in_mark}
use Rattle.lane.specs.MessageOrders.{IsFrom, MarksLast, StopsLast}
use Rattle.lane.specs.Lawful.{IsPlaced}
use Rattle.lane.proofs.Lists.{all_more, count_front}

pub rising_more : (xs : List ℕ) (y : ℕ) → IsStrictlyIncreasing xs → AllByRecursion (λ x. x < y) xs → IsStrictlyIncreasing (xs ++ y ∷ [])
rising_more xs y h b k within =
    all_pairs_push (λ a c. a < c) xs y (AllPairs-from_increasing xs h)
    (All-from_recursion (λ x. x < y) xs b) k (k + 1) 0 (omega arith) within

pub of_yes : (f : ℕ) (ms : List Taken) (m : Taken) → is_of f m ≡ true → of f (ms ++ m ∷ []) ≡ of f ms ++ m ∷ []
of_yes f ms m e = filter-append (is_of f) ms (m ∷ []) ∙ ap (λ (b : Bool). of f ms ++ cond b (m ∷ []) []) e

pub of_no : (f : ℕ) (ms : List Taken) (m : Taken) → is_of f m ≡ false → of f (ms ++ m ∷ []) ≡ of f ms
of_no f ms m e = filter-append (is_of f) ms (m ∷ []) ∙ (ap (λ (b : Bool). of f ms ++ cond b (m ∷ []) []) e ∙ append-nil (of f ms))

pub front_yes : (f : ℕ) (m : Taken) (ms : List Taken) → is_of f m ≡ true → of f (m ∷ ms) ≡ m ∷ of f ms
front_yes f m ms e = ap (λ (b : Bool). cond b (m ∷ of f ms) (of f ms)) e

pub front_no : (f : ℕ) (m : Taken) (ms : List Taken) → is_of f m ≡ false → of f (m ∷ ms) ≡ of f ms
front_no f m ms e = ap (λ (b : Bool). cond b (m ∷ of f ms) (of f ms)) e

-- a message is of one file
pub one_file : (f j : ℕ) (m : Taken) → is_of f m ≡ true → is_of j m ≡ true → j ≡ f
one_file f j (Row g p b) e d = sym (eqb-true g j d) ∙ eqb-true g f e
one_file f j (End g n) e d = sym (eqb-true g j d) ∙ eqb-true g f e
one_file f j _ e d = absurd (cc)

pub of_one : (f j : ℕ) (m : Taken) → is_of f m ≡ true → (j ≡ f → ⊥) → is_of j m ≡ false
of_one f j m e ne =
    ⊎_elim (λ (d : is_of j m ≡ true). absurd (ne (one_file f j m e d))) (λ (d : is_of j m ≡ false). d) (cases_Bool (is_of j m))

pub mark_of_none : (j : ℕ) (m : Taken) → is_mark m ≡ true → is_of j m ≡ false
mark_of_none j (Row g p b) e = absurd (cc)
mark_of_none j (End g n) e = absurd (cc)
mark_of_none j _ e = refl

pub of_is_no_mark : (f : ℕ) (m : Taken) → is_of f m ≡ true → (is_stop m ≡ false) × (is_quit m ≡ false)
of_is_no_mark f (Row g p b) e = (refl, refl)
of_is_no_mark f (End g n) e = (refl, refl)
of_is_no_mark f _ e = absurd (cc)

pub from_more : (f k : ℕ) (ms : List Taken) (m : Taken) (n : ℕ) → k + length ms ≡ n → IsFrom f k ms → has_end ms ≡ false
    → IsFrom f n (m ∷ []) → IsFrom f k (ms ++ m ∷ [])
from_more f k [] m n s h e last = subst (λ i. IsFrom f i (m ∷ [])) (let z : n ≡ k = omega arith in z) last
from_more f k (Row g p c ∷ ms) m n s h e last = (h.0, h.1, from_more f (k + 1) ms m n (omega arith) h.2 e last)
from_more f k (End g j ∷ ms) m n s h e last = absurd (true≢false e)
from_more f k (_ ∷ ms) m n s h e last = absurd h

-- a list with no end mark is all rows
pub rows_all : (f k : ℕ) (ms : List Taken) → IsFrom f k ms → has_end ms ≡ false → row_count ms ≡ length ms
rows_all f k [] h e = refl
rows_all f k (Row g p c ∷ ms) h e = omega (arith, count_front is_row (Row g p c) ms, rows_all f (k + 1) ms h.2 e)
rows_all f k (End g n ∷ ms) h e = absurd (true≢false e)
rows_all f k (_ ∷ ms) h e = absurd h

pub ended_from : (f k : ℕ) (ms : List Taken) → IsFrom f k ms → has_end ms ≡ true → IsEndedFrom f k ms
ended_from f k [] h e = absurd (cc)
ended_from f k (Row g p c ∷ ms) h e = (h.0, h.1, ended_from f (k + 1) ms h.2 e)
ended_from f k (End g n ∷ ms) h e = h
ended_from f k (_ ∷ ms) h e = absurd h

-- which message is at a position of a file's list, and that an end mark is last
pub from_place : (f k : ℕ) (ms : List Taken) (i : ℕ) (m : Taken) → IsFrom f k ms → slice_get ms i ≡ Some m → (is_of f m ≡ true)
    × (position m ≡ k + i) × (is_end m ≡ true → length ms ≡ suc i)
from_place f k [] i m h e = absurd (cc)
from_place f k (Row g p c ∷ ms) zero m h e =
    subst (λ (x : Taken). (is_of f x ≡ true) × (position x ≡ k + 0) × (is_end x ≡ true → suc (length ms) ≡ 1))
    (let q : Row g p c ≡ m = cc in q) (eq-eqb g f h.0, omega (arith, h.1), λ t. absurd (true≢false (sym t)))
from_place f k (Row g p c ∷ ms) (suc i) m h e =
    let r = from_place f (k + 1) ms i m h.2 e in (r.0, omega (arith, r.1), λ t. ap suc (r.2 t))
from_place f k (End g n ∷ ms) zero m h e =
    subst (λ (x : Taken). (is_of f x ≡ true) × (position x ≡ k + 0) × (is_end x ≡ true → suc (length ms) ≡ 1))
    (let q : End g n ≡ m = cc in q) (eq-eqb g f h.0, omega (arith, h.1), λ _. ap (λ (l : List Taken). suc (length l)) h.2)
from_place f k (End g n ∷ ms) (suc i) m h e = let q : slice_get ms i ≡ None = ap (λ (l : List Taken). slice_get l i) h.2 in absurd (cc)
from_place f k (_ ∷ ms) i m h e = absurd h

pub placed_pos : (sent : ℕ → List Taken) (taken : ℕ → ℕ) (f : ℕ) (m : Taken) → IsPlaced sent taken m → is_of f m ≡ true
    → (position m < taken f) × (slice_get (sent f) (position m) ≡ Some m)
placed_pos sent taken f (Row g p b) h e = let q : g ≡ f =
    eqb-true g f e in (subst (λ k. p < taken k) q h.0, subst (λ k. slice_get (sent k) p ≡ Some (Row g p b)) q h.1)
placed_pos sent taken f (End g n) h e = let q : g ≡ f =
    eqb-true g f e in (subst (λ k. n < taken k) q h.0, subst (λ k. slice_get (sent k) n ≡ Some (End g n)) q h.1)
placed_pos sent taken f _ h e = absurd (cc)

pub placed_all : (sent : ℕ → List Taken) (taken : ℕ → ℕ) (m : Taken)
    → ((f : ℕ) → is_of f m ≡ true → (position m < taken f) × (slice_get (sent f) (position m) ≡ Some m)) → IsPlaced sent taken m
placed_all sent taken (Row g p b) h = h g (eq-eqb g g refl)
placed_all sent taken (End g n) h = h g (eq-eqb g g refl)
placed_all sent taken _ h = tt

pub placed_later : (sent sent' : ℕ → List Taken) (taken taken' : ℕ → ℕ)
    → ((f p : ℕ) (m : Taken) → slice_get (sent f) p ≡ Some m → slice_get (sent' f) p ≡ Some m) → ((f : ℕ) → taken f ≤ taken' f) → (m : Taken)
    → IsPlaced sent taken m → IsPlaced sent' taken' m
placed_later sent sent' taken taken' keeps grows m h =
    placed_all sent' taken' m (λ f e. let p = placed_pos sent taken f m h e in (omega (arith, p.0, grows f), keeps f (position m) m p.1))

below_cases : (P : ℕ → Type 0) (m : Taken) (rest : List Taken) (b : Bool) → (b ≡ true → P (position m))
    → AllByRecursion P (map position rest) → AllByRecursion P (map position (cond b (m ∷ rest) rest))
below_cases P m rest true h r = (h refl, r)
below_cases P m rest false h r = r

-- the positions taken of a file are among those that left
pub placed_below : (sent : ℕ → List Taken) (taken : ℕ → ℕ) (f : ℕ) (ms : List Taken) → AllByRecursion (IsPlaced sent taken) ms
    → AllByRecursion (λ p. p < taken f) (map position (of f ms))
placed_below sent taken f [] h = tt
placed_below sent taken f (m ∷ ms) h =
    below_cases (λ p. p < taken f) m (of f ms) (is_of f m) (λ e. (placed_pos sent taken f m h.0 e).0) (placed_below sent taken f ms h.1)

pub marks_more : (ms : List Taken) (m : Taken) → is_done ms ≡ false → MarksLast (ms ++ m ∷ [])
marks_more [] m e = ((λ _. refl), tt)
marks_more (x ∷ ms) m e = let o = or_parts (is_mark x) (is_done ms) e in ((λ t. absurd (true≢false (sym t ∙ o.0))), marks_more ms m o.1)

pub counted_none : (b : Bool) (n : ℕ) → cond {A = ℕ} b 1 0 + n ≡ 0 → (b ≡ false) × (n ≡ 0)
counted_none true n e = absurd (omega arith)
counted_none false n e = (refl, omega arith)

-- if there is no Stop, anything may follow
pub stops_none : (ms : List Taken) (m : Taken) → count_by is_stop ms ≡ 0 → StopsLast (ms ++ m ∷ [])
stops_none [] m e = ((λ _. tt), tt)
stops_none (x ∷ ms) m e = let c = counted_none (is_stop x) (count_by is_stop ms)
    (sym (count_front is_stop x ms) ∙ e) in ((λ t. absurd (true≢false (sym t ∙ c.0))), stops_none ms m c.1)

pub stops_more : (ms : List Taken) → StopsLast ms → StopsLast (ms ++ Stop ∷ [])
stops_more [] h = ((λ _. tt), tt)
stops_more (x ∷ ms) h = ((λ t. all_more (λ m. is_stop m ≡ true) ms Stop (h.0 t) refl), stops_more ms h.1)

-- if a mark is last, a taker is done exactly if its last message is a mark
pub done_is_last : (ms : List Taken) → MarksLast ms → is_done ms ≡ ends_in_mark ms
done_is_last [] h = refl
done_is_last (m ∷ []) h = or-false (is_mark m)
done_is_last (m ∷ n ∷ ms) h = ap (λ (b : Bool). b || is_done (n ∷ ms)) (unmarked_before (is_mark m) refl) ∙ done_is_last (n ∷ ms) h.1
  where
    unmarked_before : (b : Bool) → is_mark m ≡ b → is_mark m ≡ false
    unmarked_before true e = absurd (let z : (n ∷ ms) ≡ [] = h.0 e in cc)
    unmarked_before false e = e

pub ended_has_end : (f k : ℕ) (ms : List Taken) → IsEndedFrom f k ms → has_end ms ≡ true
ended_has_end f k [] h = absurd h
ended_has_end f k (Row g p c ∷ ms) h = ended_has_end f (k + 1) ms h.2
ended_has_end f k (End g n ∷ ms) h = refl
ended_has_end f k (_ ∷ ms) h = absurd h
