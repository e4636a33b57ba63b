-- Which pass has which part, while parts change and move.
use Rattle.std.proofs.Common.{◌≡◌, ◌≢◌, ◌⊎◌, ⊎_elim, inl, inr, ℕ, zero, suc, ◌+◌, ◌<◌, Bool, cond, ◌==◌, replicate, List, [], ◌∷◌, ◌++◌, length, set, slice_get, Some, refl, sym, ap, ◌∙◌, subst, arith}
use Rattle.std.specs.List.{AllByRecursion}
use Rattle.std.proofs.lemmas.Bool.{cases_eq, eq-eqb, ne_eqb}
use native.Mathlib.Decide.{ℕ_discrete}
use mathlib.Core.Option.{some, some-injective, some-ne-none}
use lib.ListN.{get_elem?}
use Rattle.atomic_table.proofs.Lists.{at_set, at_last, at_longer, set_here, set_else}
use Rattle.lane.specs.declared.message.Taken.{Taken}
use Rattle.lane.specs.declared.part.Part.{Part}
use Rattle.lane.specs.declared.part.Part.TheVariants.{Put, Take}
use Rattle.lane.specs.Machine.{Size, State, opening}
use Rattle.lane.specs.Rule.{Role, Putter, Taker, Closer, same_role, IsRole, part_of, role_of, Has, IsSeated, AreSeated, parts_from, put_parts, take_parts, all_parts}
use Rattle.lane.specs.Steps.{IsFree}

-- a part in a view has the property that all of them have
pub at_part : (P : Part → Type 0) (part : Part) (v : List Part) → Has part v → AllByRecursion P v → P part
at_part P part [] h all = absurd h
at_part P part (x ∷ v) h all = ⊎_elim (λ (e : part ≡ x). subst P (sym e) all.0) (λ (in' : Has part v). at_part P part v in' all.1) h

pub has_left : (part : Part) (v u : List Part) → Has part v → Has part (v ++ u)
has_left part [] u h = absurd h
has_left part (x ∷ v) u h = ⊎_elim (λ (e : part ≡ x). inl e) (λ (in' : Has part v). inr (has_left part v u in')) h

pub has_right : (part : Part) (v u : List Part) → Has part u → Has part (v ++ u)
has_right part [] u h = h
has_right part (x ∷ v) u h = inr (has_right part v u h)

pub all_joined : (P : Part → Type 0) (v u : List Part) → AllByRecursion P v → AllByRecursion P u → AllByRecursion P (v ++ u)
all_joined P [] u h k = k
all_joined P (x ∷ v) u h k = (h.0, all_joined P v u h.1 k)

-- the part of a list, and what is true of the parts of empty lists
pub has_part : (part : ℕ → List Taken → Part) (k : ℕ) (lists : List (List Taken)) (i j : ℕ) (l : List Taken) → i + k ≡ j
    → slice_get lists i ≡ Some l → Has (part j l) (parts_from part k lists)
has_part part k [] i j l s e = absurd (cc)
has_part part k (x ∷ lists) zero j l s e = let q : l ≡ x = cc in inl (λ a. part ((let z : j ≡ k = omega arith in z) a) (q a))
has_part part k (x ∷ lists) (suc i) j l s e = inr (has_part part (k + 1) lists i j l (omega arith) e)

new_parts : (P : Part → Type 0) (part : ℕ → List Taken → Part) (k m : ℕ) → ((j : ℕ) → j < k + m → P (part j []))
    → AllByRecursion P (parts_from part k (replicate m []))
new_parts P part k zero f = tt
new_parts P part k (suc m) f = (f k (omega arith), new_parts P part (k + 1) m (λ j l. f j (omega arith)))

new_list : (n i : ℕ) → i < n → slice_get {X = List Taken} (replicate n []) i ≡ Some []
new_list zero i l = absurd (omega arith)
new_list (suc n) zero l = refl
new_list (suc n) (suc i) l = new_list n i (omega arith)

-- the index of an element is within the list
pub at_within : {A : Type 0} (l : List A) (i : ℕ) (a : A) → get_elem? l i ≡ some a → i < length l
at_within [] i a e = absurd (some-ne-none a (sym e))
at_within (x ∷ l) zero a e = omega arith
at_within (x ∷ l) (suc i) a e = omega (arith, at_within l i a e)

-- what is true of each element at its index stays true if one changes or one is appended
pub every_set : {A : Type 0} (P : ℕ → A → Type 0) (l : List A) (i : ℕ) (a : A) → P i a
    → ((j : ℕ) (b : A) → (j ≡ i → ⊥) → get_elem? l j ≡ some b → P j b) → (j : ℕ) (b : A) → get_elem? (set l i a) j ≡ some b → P j b
every_set P l i a here else j b e =
    ⊎_elim (λ (x : (j ≡ i) × (a ≡ b)). subst (P j) x.1 (subst (λ k. P k a) (sym x.0) here))
    (λ (x : (j ≢ i) × (get_elem? l j ≡ some b)). else j b x.0 x.1) (at_set l i j a b e)

pub every_more : {A : Type 0} (P : ℕ → A → Type 0) (l : List A) (a : A) → P (length l) a
    → ((j : ℕ) (b : A) → get_elem? l j ≡ some b → P j b) → (j : ℕ) (b : A) → get_elem? (l ++ a ∷ []) j ≡ some b → P j b
every_more P [] a new old zero b e = subst (P 0) (some-injective a b e) new
every_more P [] a new old (suc j) b e = absurd (some-ne-none b (sym e))
every_more P (x ∷ l) a new old zero b e = old 0 b e
every_more P (x ∷ l) a new old (suc j) b e = every_more (λ k. P (suc k)) l a new (λ k c. old (suc k) c) j b e

-- what is true of the element at an index, if one element changes
some_set : {A : Type 0} (P Q : A → Type 0) (l : List A) (i : ℕ) (a b : A) → get_elem? l i ≡ some a → (P a → Q b) → (j : ℕ)
    → ((j ≡ i → ⊥) → (c : A) → P c → Q c) → (c : A) × (get_elem? l j ≡ some c) × P c
    → (c : A) × (get_elem? (set l i b) j ≡ some c) × Q c
some_set P Q l i a b at here j else old =
    ⊎_elim
    (λ (e : j ≡ i). (
      b,
      ap (get_elem? (set l i b)) e ∙ set_here l i b (at_within l i a at),
      here (subst P (some-injective old.0 a (sym old.1 ∙ (ap (get_elem? l) e ∙ at))) old.2),
    ))
    (λ (ne : j ≡ i → ⊥). (old.0, set_else l i j b ne ∙ old.1, else ne old.0 old.2))
    (cases_eq j i)

pub role_of_part : (n : Size) (s : State) (r : Role) → role_of (part_of n s r) ≡ Some r
role_of_part n s (Putter f) = refl
role_of_part n s (Taker w) = refl
role_of_part n s Closer = refl

-- a part is of one role
pub one_role : (n m : Size) (s t : State) (r q : Role) → part_of n s r ≡ part_of m t q → r ≡ q
one_role n m s t r q e = let x : Some r ≡ Some q = sym (role_of_part n s r) ∙ (ap role_of e ∙ role_of_part m t q) in cc

-- a seated part of a role is as the state specifies it
pub seated_as : (n : Size) (s : State) (seat : Role → ℕ) (pass : ℕ) (part : Part) (role : Role) → IsSeated n s seat pass part
    → role_of part ≡ Some role → IsRole n role × (part ≡ part_of n s role) × (seat role ≡ pass)
seated_as n s seat pass part role h named =
    let name : h.0 ≡ role = let x : Some h.0 ≡ Some role = sym (role_of_part n s h.0) ∙ (sym (ap role_of h.2) ∙ named) in cc in
    (subst (IsRole n) name h.1, h.2 ∙ ap (part_of n s) name, ap seat (sym name) ∙ h.3)

-- a view stays seated if the part of each role in it stays, and its seat moves with it
still : (n : Size) (s t : State) (seat new : Role → ℕ) (pass pass' : ℕ) (v : List Part)
    → ((r : Role) → seat r ≡ pass → Has (part_of n s r) v → (part_of n t r ≡ part_of n s r) × (new r ≡ pass'))
    → AllByRecursion (IsSeated n s seat pass) v → AllByRecursion (IsSeated n t new pass') v
still n s t seat new pass pass' [] f h = tt
still n s t seat new pass pass' (x ∷ v) f h =
    let q = h.0 in
    let kept = f q.0 q.3 (inl (sym q.2)) in
    ((q.0, q.1, q.2 ∙ sym kept.0, kept.1), still n s t seat new pass pass' v (λ r e stands. f r e (inr stands)) h.1)

free_of : (n : Size) (s : State) (role r : Role) (v : List Part) → IsFree role v → Has (part_of n s r) v → r ≡ role → ⊥
free_of n s role r v f stands e =
    at_part (λ x. role_of x ≡ Some role → ⊥) (part_of n s r) v stands f (role_of_part n s r ∙ ap (λ (a : Role). Some a) e)

-- the part of one role changes, and no other part does
pub changed : (n : Size) (s t : State) (seat : Role → ℕ) (views : List (List Part)) (pass : ℕ) (role : Role) (rest : List Part)
    → AreSeated n s seat views → get_elem? views pass ≡ some (part_of n s role ∷ rest) → IsRole n role → IsFree role rest
    → ((r : Role) → (r ≡ role → ⊥) → part_of n t r ≡ part_of n s r)
    → AreSeated n t seat (set views pass (part_of n t role ∷ rest))
changed n s t seat views pass role rest h at is free same =
    let mine = h.only pass (part_of n s role ∷ rest) at in
    let here = (seated_as n s seat pass (part_of n s role) role mine.0 (role_of_part n s role)).2 in
    record {
      only = every_set (λ j. AllByRecursion (IsSeated n t seat j)) views pass (part_of n t role ∷ rest) (
        (role, is, refl, here),
        still n s t seat seat pass pass rest (λ r e stands. (same r (free_of n s role r rest free stands), e)) mine.1,
      )
          (λ j u ne e. still n s t seat seat j j u (λ r q _. (same r (λ x. ne (sym q ∙ (ap seat x ∙ here))), q)) (h.only j u e));
      stands = λ r is_r. some_set (Has (part_of n s r)) (Has (part_of n t r)) views pass (part_of n s role ∷ rest)
          (part_of n t role ∷ rest) at (stand r) (seat r)
          (λ ne v. subst (λ p. Has p v) (sym (same r (λ e. ne (ap seat e ∙ here))))) (h.stands r is_r);
    }
  where
    stand : (r : Role) → Has (part_of n s r) (part_of n s role ∷ rest) → Has (part_of n t r) (part_of n t role ∷ rest)
    stand r q = ⊎_elim
        (λ (e : part_of n s r ≡ part_of n s role). inl (ap (part_of n t) (one_role n n s s r role e)))
        (λ (in' : Has (part_of n s r) rest). inr (subst (λ p. Has p rest) (sym (same r (free_of n s role r rest free in'))) in'))
        q

-- one number for the role, and another for every other role
either : {P : Type 0} → Dec P → ℕ → ℕ → ℕ
either (yes p) new old = new
either (no ne) new old = old

either_new : {P : Type 0} (d : Dec P) (new old : ℕ) → P → either d new old ≡ new
unfolding either
either_new (yes p) new old h = refl
either_new (no ne) new old h = absurd (ne h)

either_old : {P : Type 0} (d : Dec P) (new old : ℕ) → (P → ⊥) → either d new old ≡ old
unfolding either
either_old (yes p) new old h = absurd (h p)
either_old (no ne) new old h = refl

role_cases : {P : Type 0} → Dec P → P ⊎ (P → ⊥)
role_cases (yes p) = inl p
role_cases (no ne) = inr ne

-- a part moves to a new pass
pub given : (n : Size) (s : State) (seat : Role → ℕ) (views : List (List Part))
    (pass : ℕ) (role : Role) (first part : Part) (rest : List Part)
    → AreSeated n s seat views → get_elem? views pass ≡ some (first ∷ part ∷ rest) → role_of part ≡ Some role → IsFree role (first ∷ rest)
    → (new : Role → ℕ) × AreSeated n s new (set views pass (first ∷ rest) ++ (part ∷ []) ∷ [])
given n s seat views pass role first part rest h at named free =
    let left : List Part = first ∷ rest in
    let vs : List (List Part) = set views pass left in
    let same : (r : Role) → Dec (r ≡ role) = λ r. same_role ℕ_discrete r role in
    let new : Role → ℕ = λ r. either (same r) (length vs) (seat r) in
    let moved : new role ≡ length vs = either_new (same role) (length vs) (seat role) refl in
    let old = h.only pass (first ∷ part ∷ rest) at in
    let mine = seated_as n s seat pass part role old.1.0 named in
    let other : (r : Role) → (r ≡ role → ⊥) → new r ≡ seat r = λ r. either_old (same r) (length vs) (seat r) in (
      new,
      record {
        only = every_more (λ j. AllByRecursion (IsSeated n s new j)) vs (part ∷ [])
            ((role, mine.0, mine.1, moved), tt)
            (every_set (λ j. AllByRecursion (IsSeated n s new j)) views pass left
            (still n s s seat new pass pass left (λ r e stands. (refl, other r (free_of n s role r left free stands) ∙ e)) (old.0, old.1.1))
            (λ j u ne e. still n s s seat new j j u
            (λ r q _. (refl, other r (λ x. ne (sym q ∙ (ap seat x ∙ mine.2))) ∙ q)) (h.only j u e)));
        stands = λ r is_r. ⊎_elim
            (λ (e : r ≡ role). (
              part ∷ [],
              ap (get_elem? (vs ++ (part ∷ []) ∷ [])) (ap new e ∙ moved)
                  ∙ at_last vs (part ∷ []) (length vs) refl,
              inl (ap (part_of n s) e ∙ sym mine.1),
            ))
            (λ (ne : r ≡ role → ⊥).
            let kept = some_set (Has (part_of n s r)) (Has (part_of n s r)) views pass (first ∷ part ∷ rest) left at
            (⊎_elim (λ (a : part_of n s r ≡ first). inl a)
            (⊎_elim (λ (a : part_of n s r ≡ part). absurd (ne (one_role n n s s r role (a ∙ mine.1))))
            (λ (a : Has (part_of n s r) rest). inr a)))
            (seat r) (λ _ v q. q) (h.stands r is_r) in (
              kept.0,
              ap (get_elem? (vs ++ (part ∷ []) ∷ [])) (other r ne) ∙ at_longer vs ((part ∷ []) ∷ []) (seat r) kept.0 kept.1,
              kept.2,
            ))
            (role_cases (same r));
      },
    )

-- one pass takes over the parts of another
pub joined : (n : Size) (s : State) (seat : Role → ℕ) (views : List (List Part)) (pass other : ℕ) (v u : List Part)
    → AreSeated n s seat views → get_elem? views pass ≡ some v → (other ≡ pass → ⊥) → get_elem? views other ≡ some u
    → (new : Role → ℕ) × AreSeated n s new (set (set views pass (v ++ u)) other [])
joined n s seat views pass other v u h at apart at' =
    let both : List Part = v ++ u in
    let vs : List (List Part) = set views pass both in
    let new : Role → ℕ = λ r. cond (seat r == other) pass (seat r) in
    let moved : (r : Role) → seat r ≡ other → new r ≡ pass = λ r e. ap (λ (b : Bool). cond b pass (seat r)) (eq-eqb (seat r) other e) in
    let kept : (r : Role) → (seat r ≡ other → ⊥) → new r ≡ seat r =
    λ r e. ap (λ (b : Bool). cond b pass (seat r)) (ne_eqb (seat r) other e) in
    let stay : (j : ℕ) (w : List Part) → (j ≡ other → ⊥) → get_elem? views j ≡ some w → AllByRecursion (IsSeated n s new j) w =
    λ j w ne e. still n s s seat new j j w (λ r q _. (refl, kept r (λ x. ne (sym q ∙ x)) ∙ q)) (h.only j w e) in
    let all : AllByRecursion (IsSeated n s new pass) both =
    all_joined (IsSeated n s new pass) v u (stay pass v (λ e. apart (sym e)) at)
    (still n s s seat new other pass u (λ r q _. (refl, moved r q)) (h.only other u at')) in (
      new,
      record {
        only = every_set (λ j. AllByRecursion (IsSeated n s new j)) vs other [] tt
            (λ j w ne e. every_set (λ i x. (i ≡ other → ⊥) → AllByRecursion (IsSeated n s new i) x) views pass both (λ _. all)
            (λ i x _ e' ne'. stay i x ne' e') j w e ne);
        stands = λ r is_r. let o = h.stands r is_r in ⊎_elim
            (λ (e : seat r ≡ other). (
              both,
              ap (get_elem? (set vs other [])) (moved r e)
                  ∙ (set_else vs other pass [] (λ e. apart (sym e)) ∙ set_here views pass both (at_within views pass _ at)),
              has_right (part_of n s r) v u
                  (subst (Has (part_of n s r)) (some-injective _ _ (sym o.1 ∙ (ap (get_elem? views) e ∙ at'))) o.2),
            ))
            (λ (ne : seat r ≡ other → ⊥).
            let p = some_set (Has (part_of n s r)) (Has (part_of n s r)) views pass v both at (has_left (part_of n s r) v u) (seat r)
            (λ _ w q. q) o in
            (p.0, ap (get_elem? (set vs other [])) (kept r ne) ∙ (set_else vs other (seat r) [] ne ∙ p.1), p.2))
            (cases_eq (seat r) other);
      },
    )

module _ (n : Size) where
  has_new : (r : Role) → IsRole n r → Has (part_of n opening r) (all_parts n.files n.takers n.capacity)
  has_new (Putter f) l = inr (has_left _ (put_parts n.capacity 0 (replicate n.files [])) (take_parts n.capacity 0 (replicate n.takers []))
      (has_part (λ i l. Put i n.capacity l) 0 (replicate n.files []) f f [] (omega arith) (new_list n.files f l)))
  has_new (Taker w) l = inr (has_right _ (put_parts n.capacity 0 (replicate n.files [])) (take_parts n.capacity 0 (replicate n.takers []))
      (has_part (λ i l. Take i n.capacity l) 0 (replicate n.takers []) w w [] (omega arith) (new_list n.takers w l)))
  has_new Closer l = inl refl

  -- the first pass has all parts
  pub opened : (views : List (List Part)) (v : List Part) → get_elem? views 0 ≡ some v
      → ((pass : ℕ) (u : List Part) → get_elem? views pass ≡ some u → (pass ≡ 0 → ⊥) → u ≡ [])
      → AreSeated n opening (λ r. 0) (set views 0 (all_parts n.files n.takers n.capacity) ++ [] ∷ [])
  opened views v at others =
      let parts : List Part = all_parts n.files n.takers n.capacity in
      let vs : List (List Part) = set views 0 parts in
      record {
        only = every_more (λ j. AllByRecursion (IsSeated n opening (λ r. 0) j)) vs [] tt
            (every_set (λ j. AllByRecursion (IsSeated n opening (λ r. 0) j)) views 0 parts (
              (Closer, tt, refl, refl),
              all_joined (IsSeated n opening (λ r. 0) 0)
                  (put_parts n.capacity 0 (replicate n.files [])) (take_parts n.capacity 0 (replicate n.takers []))
                  (new_parts (IsSeated n opening (λ r. 0) 0) (λ i l. Put i n.capacity l) 0 n.files
                  (λ j l. (Putter j, omega arith, refl, refl)))
                  (new_parts (IsSeated n opening (λ r. 0) 0) (λ i l. Take i n.capacity l) 0 n.takers
                  (λ j l. (Taker j, omega arith, refl, refl))),
            )
            (λ j u ne e. subst (AllByRecursion (IsSeated n opening (λ r. 0) j)) (sym (others j u e ne)) tt));
        stands = λ r is. (parts, at_longer vs ([] ∷ []) 0 parts (set_here views 0 parts (at_within views 0 v at)), has_new r is);
      }
