-- The turns of sheets that have so many tests to make, and those that an allowance pays for. Assumes nothing.
use Prim.Native.Nat.{ℕ, zero, suc, ◌+◌, ◌*◌, ◌/◌, ◌≤◌, ◌<◌, min, zero-le}
use Rattle.std.specs.Prelude.{◌≡◌, Bool, true, false, List, [], ◌∷◌, ◌++◌, map, ◌⊎◌, eqb, get_or, take, drop}
use Rattle.std.proofs.Math.Path.{refl, ap}
use Rattle.std.proofs.Common.{sym, ap₂, ◌∙◌, subst, append-nil, append_assoc, inl, inr, ⊎_elim, add-one, eq-or-lt_of_le, le_of_suc-le-suc, not-suc-le-zero, le_antisymm, mul_comm, div-lt_iff_lt-mul, length-take, take-append-drop, take_all, take_at, take-take, ext_get_or}
use native.Mathlib.Omega.{arith}
use Rattle.std.proofs.Math.Nat.{min-eq_right, mul-suc}
use borrow.Author.Tests.{ltb-true, ltb-false, eqb-true, lt-ltb, eq-eqb, ne_eqb}
use Rattle.std.proofs.Math.Dec.{ltb}
use Rattle.std.proofs.Math.ListN.{length, length-append}
use Rattle.std.proofs.lemmas.List.{length-map}
use Rattle.sets.specs.Decides.{decided, dec_le, dec_lt}
use Rattle.sets.specs.Lists.{◌among◌, among-append, here, later, keep, only, flat, up_to, keep_append, keep_snoc, flat_append, flat_snoc, among-take, among-keep, among-flat, among-up_to, length-up_to, get_or-up_to, map_up_to_suc, map_up_to_same, no_members}
use Rattle.sets.specs.Counting.{one, keep_shorter}
use Rattle.semantics.specs.Definitions.Sharing.{round, in_all, turns, turns_at}

-- the turns of r rounds, and of the first p sheets once more
abbrev pub done : (many : List ℕ) (r p : ℕ) → List ℕ
done many r p = flat (round many) (up_to r) ++ keep (λ q. ltb r (get_or many q 0)) (up_to p)

-- ---- the turns, one after the other
pub done_more : (many : List ℕ) (r p : ℕ) → done many r (p + 1) ≡ done many r p ++ only (ltb r (get_or many p 0)) p
unfolding up_to
done_more many r p =
    let f : ℕ → Bool = λ q. ltb r (get_or many q 0) in
    ap (λ n. done many r n) (add-one p) ∙ ap (λ l. flat (round many) (up_to r) ++ l) (keep_snoc f (up_to p) p)
    ∙ sym (append_assoc (flat (round many) (up_to r)) (keep f (up_to p)) (only (f p) p))

rounds_more : (many : List ℕ) (r : ℕ) → flat (round many) (up_to (suc r)) ≡ flat (round many) (up_to r) ++ round many r
unfolding up_to
rounds_more many r = flat_snoc (round many) (up_to r) r

-- ---- no sheet has more tests than all together, so later rounds have no turns
few : (many : List ℕ) (q : ℕ) → get_or many q 0 ≤ in_all many
unfolding in_all
few [] q = zero-le
few (n ∷ ns) zero = omega arith
few (n ∷ ns) (suc q) = omega (arith, few ns q)

module _ (many : List ℕ) (r : ℕ) (most : (q : ℕ) → q < length many → get_or many q 0 ≤ r) where
  over : (n : ℕ) → r ≤ n → round many n ≡ []
  over n h =
      (no_members (round many n)).1 (λ q m.
      let (k, e) = (among-keep (λ q. ltb n (get_or many q 0)) (up_to (length many))).0 m in
      let l = ltb-true n (get_or many q 0) e in
      let b = most q ((among-up_to (length many)).0 k) in
      omega arith)

  ended : (n : ℕ) → r ≤ n → flat (round many) (up_to n) ≡ flat (round many) (up_to r)
  ended zero h = ap (λ m. flat (round many) (up_to m)) (omega arith)
  ended (suc n) h =
      ⊎_elim (λ e. ap (λ m. flat (round many) (up_to m)) (sym e))
      (λ l. rounds_more many n ∙ ap₂ ◌++◌ (ended n (le_of_suc-le-suc l)) (over n (le_of_suc-le-suc l)) ∙ append-nil (flat (round many) (up_to r)))
      (eq-or-lt_of_le h)

pub later_rounds : (many : List ℕ) (n : ℕ) → in_all many ≤ n → flat (round many) (up_to n) ≡ turns many
unfolding turns
later_rounds many n h = ended many (in_all many) (λ q _. few many q) n h

-- ---- the turns begin so
up_to_begins : (m n : ℕ) → m ≤ n → (rest : List ℕ) × (up_to n ≡ up_to m ++ rest)
unfolding up_to
up_to_begins m zero h = ([], ap up_to (let e : 0 ≡ m = omega arith in e) ∙ sym (append-nil (up_to m)))
up_to_begins m (suc n) h =
    ⊎_elim (λ e. ([], ap up_to (sym e) ∙ sym (append-nil (up_to m))))
    (λ l.
    let (rest, e) = up_to_begins m n (le_of_suc-le-suc l) in
    (rest ++ n ∷ [], ap (λ k. k ++ n ∷ []) e ∙ append_assoc (up_to m) rest (n ∷ [])))
    (eq-or-lt_of_le h)

pub done_begins : (many : List ℕ) (r p : ℕ) → p ≤ length many → (rest : List ℕ) × (turns many ≡ done many r p ++ rest)
done_begins many r p h =
    let f : ℕ → Bool = λ q. ltb r (get_or many q 0) in
    let n = in_all many + suc r in
    let (later, e) = up_to_begins (suc r) n (omega arith) in
    let (others, d) = up_to_begins p (length many) h in
    let rounds = flat (round many) (up_to r) in
    let first = keep f (up_to p) in
    let this : round many r ≡ first ++ keep f others = ap (keep f) d ∙ keep_append f (up_to p) others in
    let after = flat (round many) later in (
      keep f others ++ after,
      sym (later_rounds many n (omega arith)) ∙ ap (flat (round many)) e ∙ flat_append (round many) (up_to (suc r)) later
          ∙ ap (λ l. l ++ after) (rounds_more many r ∙ ap (λ l. rounds ++ l) this ∙ sym (append_assoc rounds first (keep f others)))
          ∙ append_assoc (rounds ++ first) (keep f others) after,
    )

-- ---- how many of them a sheet has
pub turns-append : (l m : List ℕ) (q : ℕ) → turns_at (l ++ m) q ≡ turns_at l q + turns_at m q
unfolding turns_at
turns-append l m q = ap length (keep_append (eqb q) l m) ∙ length-append (keep (eqb q) l) (keep (eqb q) m)

turn_own : (b : Bool) (q : ℕ) → turns_at (only b q) q ≡ one b
unfolding turns_at keep
turn_own true q = rw (eq-eqb q q refl)
turn_own false q = refl

turn_other : (b : Bool) (p q : ℕ) → (q ≡ p → ⊥) → turns_at (only b p) q ≡ 0
unfolding turns_at keep
turn_other true p q n = rw (ne_eqb q p n)
turn_other false p q n = refl

module _ (f : ℕ → Bool) (q : ℕ) where
  first_more : (p : ℕ) → turns_at (keep f (up_to (suc p))) q ≡ turns_at (keep f (up_to p)) q + turns_at (only (f p) p) q
  unfolding up_to
  first_more p = ap (λ l. turns_at l q) (keep_snoc f (up_to p) p) ∙ turns-append (keep f (up_to p)) (only (f p) p) q

  first_waits : (p : ℕ) → p ≤ q → turns_at (keep f (up_to p)) q ≡ 0
  unfolding turns_at keep up_to
  first_waits zero h = refl
  first_waits (suc p) h = omega (arith, first_more p, first_waits p (omega arith), turn_other (f p) p q (λ e. omega arith))

  first-had : (p : ℕ) → q < p → turns_at (keep f (up_to p)) q ≡ one (f q)
  first-had zero h = absurd (not-suc-le-zero h)
  first-had (suc p) h =
      ⊎_elim (λ e. subst (λ p. turns_at (keep f (up_to (suc p))) q ≡ one (f q)) e (omega (arith, first_more q, first_waits q (omega arith), turn_own (f q) q)))
      (λ l. omega (arith, first_more p, first-had p l, turn_other (f p) p q (λ e. omega arith)))
      (eq-or-lt_of_le (le_of_suc-le-suc h))

one_more : (r m : ℕ) → min r m + one (ltb r m) ≡ min (suc r) m
one_more r m = go (ltb r m) refl
  where
    go : (b : Bool) → ltb r m ≡ b → min r m + one b ≡ min (suc r) m
    go true e = let l = ltb-true r m e in omega arith
    go false e = let l = ltb-false r m e in omega arith

rounds_had : (many : List ℕ) (r q : ℕ) → q < length many → turns_at (flat (round many) (up_to r)) q ≡ min r (get_or many q 0)
unfolding turns_at keep flat up_to
rounds_had many zero q h = omega arith
rounds_had many (suc r) q h =
    ap (λ l. turns_at l q) (rounds_more many r) ∙ turns-append (flat (round many) (up_to r)) (round many r) q
    ∙ ap₂ ◌+◌ (rounds_had many r q h) (first-had (λ q. ltb r (get_or many q 0)) q (length many) h) ∙ one_more r (get_or many q 0)

-- as many as the sheet has, but no more than the rounds
module _ (many : List ℕ) (r p q : ℕ) where
  had : q < p → p ≤ length many → turns_at (done many r p) q ≡ min (r + 1) (get_or many q 0)
  had h k =
      let f : ℕ → Bool = λ q. ltb r (get_or many q 0) in
      turns-append (flat (round many) (up_to r)) (keep f (up_to p)) q
      ∙ ap₂ ◌+◌ (rounds_had many r q (omega arith)) (first-had f q p h) ∙ one_more r (get_or many q 0) ∙ ap (λ n. min n (get_or many q 0)) (sym (add-one r))

  waits : p ≤ q → q < length many → turns_at (done many r p) q ≡ min r (get_or many q 0)
  waits h k =
      let f : ℕ → Bool = λ q. ltb r (get_or many q 0) in
      omega (arith, turns-append (flat (round many) (up_to r)) (keep f (up_to p)) q, rounds_had many r q k, first_waits f q p h)

  -- so many of the sheet's tests l
  pub done-had : q < p → p ≤ length many → (l : List ℕ) → length l ≡ get_or many q 0 → turns_at (done many r p) q ≡ length (take (r + 1) l)
  done-had h k l e = had h k ∙ ap (min (r + 1)) (sym e) ∙ sym (length-take (r + 1) l)

  pub done_waits : p ≤ q → q < length many → (l : List ℕ) → length l ≡ get_or many q 0 → turns_at (done many r p) q ≡ length (take r l)
  done_waits h k l e = waits h k ∙ ap (min r) (sym e) ∙ sym (length-take r l)

-- ---- "until the allowance is spent or all are finished"
pub done_spent : (many : List ℕ) (r p allowance : ℕ) → p ≤ length many → length (done many r p) ≡ allowance → take allowance (turns many) ≡ done many r p
done_spent many r p allowance h e =
    let (rest, b) = done_begins many r p h in
    ap (take allowance) b ∙ take_at (done many r p) rest allowance e

pub done_all : (many : List ℕ) (r allowance : ℕ) → ((q : ℕ) → q < length many → get_or many q 0 ≤ r) → length (done many r 0) ≤ allowance
    → take allowance (turns many) ≡ done many r 0
unfolding keep up_to
done_all many r allowance most h =
    let n = in_all many + r in
    let e : turns many ≡ done many r 0 =
    sym (later_rounds many n (omega arith)) ∙ ended many r most n (omega arith) ∙ sym (append-nil (flat (round many) (up_to r))) in
    ap (take allowance) e ∙ take_all allowance (done many r 0) h

-- ---- the turns in all
pub among-turns : (many : List ℕ) {q : ℕ} → q among turns many → q < length many
unfolding turns
among-turns many m =
    let (r, _, n) = (among-flat (round many) (up_to (in_all many))).0 m in
    (among-up_to (length many)).0 ((among-keep _ (up_to (length many))).0 n).0

-- a sheet has as many turns as tests
pub turns-whole : (many : List ℕ) (q : ℕ) → q < length many → turns_at (turns many) q ≡ get_or many q 0
unfolding turns
turns-whole many q h = rounds_had many (in_all many) q h ∙ min-eq_right (few many q)

sums_add : (f g : ℕ → ℕ) (l : List ℕ) → in_all (map (λ q. f q + g q) l) ≡ in_all (map f l) + in_all (map g l)
unfolding in_all
sums_add f g [] = refl
sums_add f g (x ∷ l) = omega (arith, sums_add f g l)

sum_more : (f : ℕ → ℕ) (n : ℕ) → in_all (map f (up_to (suc n))) ≡ in_all (map f (up_to n)) + f n
unfolding in_all
sum_more f n = ap in_all (map_up_to_suc f n) ∙ go (map f (up_to n))
  where
    go : (l : List ℕ) → in_all (l ++ f n ∷ []) ≡ in_all l + f n
    go [] = omega arith
    go (x ∷ l) = omega (arith, go l)

sum-none : (n : ℕ) → in_all (map (turns_at []) (up_to n)) ≡ 0
unfolding in_all up_to turns_at keep
sum-none zero = refl
sum-none (suc n) = sum_more (turns_at []) n ∙ omega (arith, sum-none n)

-- a turn counts once
sum-before : (x n : ℕ) → n ≤ x → in_all (map (turns_at (x ∷ [])) (up_to n)) ≡ 0
unfolding in_all up_to
sum-before x zero h = refl
sum-before x (suc n) h = sum_more (turns_at (x ∷ [])) n ∙ omega (arith, sum-before x n (omega arith), turn_other true x n (λ e. omega arith))

sum_one : (x n : ℕ) → x < n → in_all (map (turns_at (x ∷ [])) (up_to n)) ≡ 1
sum_one x zero h = absurd (not-suc-le-zero h)
sum_one x (suc n) h =
    sum_more (turns_at (x ∷ [])) n ∙ ⊎_elim
    (λ e. let own = subst (λ n. turns_at (x ∷ []) n ≡ 1) e (turn_own true x) in omega (arith, sum-before x n (omega arith), own))
    (λ l. omega (arith, sum_one x n l, turn_other true x n (λ e. omega arith)))
    (eq-or-lt_of_le (le_of_suc-le-suc h))

pub add_up : (n : ℕ) (l : List ℕ) → ((q : ℕ) → q among l → q < n) → in_all (map (turns_at l) (up_to n)) ≡ length l
add_up n [] b = sum-none n
add_up n (x ∷ l) b =
    ap in_all (map_up_to_same (turns_at (x ∷ l)) (λ q. turns_at (x ∷ []) q + turns_at l q) n (λ q _. turns-append (x ∷ []) l q))
    ∙ sums_add (turns_at (x ∷ [])) (turns_at l) (up_to n) ∙ ap₂ ◌+◌ (sum_one x n (b x here)) (add_up n l (λ q m. b q (later m))) ∙ omega arith

-- as many turns as tests in all
pub turns_long : (many : List ℕ) → length (turns many) ≡ in_all many
turns_long many =
    let n = length many in
    let each : map (λ q. get_or many q 0) (up_to n) ≡ many =
    ext_get_or 0 _ many (length-map (up_to n) (λ q. get_or many q 0) ∙ length-up_to n)
    (λ i h. get_or-up_to (λ q. get_or many q 0) 0 n i (omega (arith, length-map (up_to n) (λ q. get_or many q 0), length-up_to n))) in
    sym (add_up n (turns many) (λ q. among-turns many))
    ∙ ap in_all (map_up_to_same (turns_at (turns many)) (λ q. get_or many q 0) n (turns-whole many) ∙ each)

-- ---- the turns that the allowance pays for
-- "a larger allowance"
pub more-turns : (a b : ℕ) (l : List ℕ) (p : ℕ) → a ≤ b → turns_at (take a l) p ≤ turns_at (take b l) p
more-turns a b l p h =
    omega (arith, ap (λ z. turns_at z p) (take-append-drop a (take b l)), turns-append (take a (take b l)) (drop a (take b l)) p, ap (λ z. turns_at z p) (take-take a b l h))

module _ (many : List ℕ) (a : ℕ) where
  -- the tests used, of a sheet
  abbrev pub used : (p : ℕ) → ℕ
  used p = turns_at (take a (turns many)) p

  -- and in all: "The tests used [..] never pass the allowance"; "until the allowance is spent or all are finished"
  pub spent_in_all : (length (take a (turns many)) ≤ a) × (length (take a (turns many)) ≤ in_all many)
      × ((length (take a (turns many)) ≡ a) ⊎ (length (take a (turns many)) ≡ in_all many))
  spent_in_all =
      let e = length-take a (turns many) in
      let n = turns_long many in (
        omega arith,
        omega arith,
        ⊎_elim (λ h. inl (omega arith)) (λ h. inr (omega arith)) (decided (dec_le a (in_all many))),
      )

  below : (q : ℕ) → q among take a (turns many) → q < length many
  below q m = among-turns many (among-take a (turns many) m)

  -- "for each sheet and in all"
  pub turns_add_up : in_all (map (turns_at (take a (turns many))) (up_to (length many))) ≡ length (take a (turns many))
  turns_add_up = add_up (length many) (take a (turns many)) below

  -- where there is no sheet there are no turns
  beyond : (p : ℕ) → length many ≤ p → used p ≡ 0
  unfolding turns_at
  beyond p h =
      ap length ((no_members (keep (eqb p) (take a (turns many)))).1 (λ q m.
      let (n, e) = (among-keep (eqb p) (take a (turns many))).0 m in
      let same = eqb-true p q e in
      let under = below q n in
      omega arith))

  -- a sheet has no more turns than tests
  pub turns_few : (p : ℕ) → used p ≤ get_or many p 0
  turns_few p =
      ⊎_elim
      (λ h.
      omega (
        arith,
        turns-whole many p h,
        ap (λ z. turns_at z p) (take-append-drop a (turns many)),
        turns-append (take a (turns many)) (drop a (turns many)) p,
      ))
      (λ h. omega (arith, beyond p (omega arith)))
      (decided (dec_lt p (length many)))

  -- ---- "goes round the unfinished sheets in their order, one test each"
  -- a sheet of more than r tests has had no more than r: its turn in round r is not paid for
  unpaid : (r p : ℕ) → p < length many → r < get_or many p 0 → used p ≤ r → a ≤ length (done many r p)
  unpaid r p h l few =
      let n = length (done many r (p + 1)) in
      let longer : n ≡ length (done many r p) + 1 =
      ap length (done_more many r p) ∙ length-append (done many r p) (only (ltb r (get_or many p 0)) p)
      ∙ ap (λ b. length (done many r p) + length (only b p)) (lt-ltb r (get_or many p 0) l) in
      let had-more : turns_at (take n (turns many)) p ≡ min (r + 1) (get_or many p 0) =
      ap (λ z. turns_at z p) (done_spent many r (p + 1) n (omega arith) refl) ∙ had many r (p + 1) p (omega arith) (omega arith) in
      ⊎_elim (λ k. k) (λ k. absurd (omega (arith, more-turns n a (turns many) p (omega arith)))) (decided (dec_le a (length (done many r p))))

  rounds_long : (r : ℕ) → length (flat (round many) (up_to r)) ≤ length many * r
  unfolding flat up_to
  rounds_long zero = zero-le
  rounds_long (suc r) =
      omega (
        arith,
        rounds_long r,
        ap length (rounds_more many r),
        length-append (flat (round many) (up_to r)) (round many r),
        keep_shorter (λ q. ltb r (get_or many q 0)) (up_to (length many)),
        length-up_to (length many),
        mul-suc (length many) r,
      )

  done_long : (r p : ℕ) → length (done many r p) ≤ length many * r + p
  done_long r p =
      let f : ℕ → Bool = λ q. ltb r (get_or many q 0) in
      omega (arith, rounds_long r, length-append (flat (round many) (up_to r)) (keep f (up_to p)), keep_shorter f (up_to p), length-up_to p)

  -- a sheet left unfinished
  module _ (p : ℕ) (h : p < length many) (unfinished : used p < get_or many p 0) where
    before_next : a ≤ length (done many (used p) p)
    before_next = unpaid (used p) p h unfinished (omega arith)

    no_more : (q : ℕ) → used q ≤ turns_at (done many (used p) p) q
    no_more q =
        let n = length (done many (used p) p) in
        subst (λ z. used q ≤ turns_at z q) (done_spent many (used p) p n (omega arith) refl) (more-turns a n (turns many) q before_next)

    -- no later sheet has had more tests, and none more than one more
    pub none_later_ahead : (q : ℕ) → p ≤ q → used q ≤ used p
    none_later_ahead q k =
        ⊎_elim (λ l. omega (arith, no_more q, waits many (used p) p q k l)) (λ l. omega (arith, beyond q (omega arith)))
        (decided (dec_lt q (length many)))

    pub none_far_ahead : (q : ℕ) → used q ≤ used p + 1
    none_far_ahead q =
        ⊎_elim (λ l. omega (arith, no_more q, had many (used p) p q l (omega arith))) (λ l. omega (arith, none_later_ahead q (omega arith)))
        (decided (dec_lt q p))

    pub fair : a < length many * (used p + 1)
    fair = omega (arith, before_next, done_long (used p) p, mul-suc (length many) (used p))

    -- "a sheet left unfinished has had at least the allowance divided by the number of sheets, rounded down"
    pub fair_quotient : a / length many ≤ used p
    fair_quotient =
        let some : 0 < length many = omega arith in
        let under : a < (used p + 1) * length many = rw (mul_comm (used p + 1) (length many)) fair in
        le_of_suc-le-suc (rw add-one at ((div-lt_iff_lt-mul some).1 under))

  -- of two sheets left unfinished the earlier has had as many tests as the later, or one more
  pub one_turn_each : (p q : ℕ) → p < q → q < length many → used p < get_or many p 0 → used q < get_or many q 0 → (used q ≤ used p) × (used p ≤ used q + 1)
  one_turn_each p q h l n m = (none_later_ahead p (omega arith) n q (omega arith), none_far_ahead q l m p)

-- a sheet alone has all of them
pub turns_alone : (m t : ℕ) → t ≤ m → turns_at (take t (turns (m ∷ []))) 0 ≡ t
unfolding in_all up_to
turns_alone m t h = omega (arith, turns_add_up (m ∷ []) t, length-take t (turns (m ∷ [])), turns_long (m ∷ []))

-- ---- the numbers of tests are the only ones of which the sentences hold
pub record InTurn (many : List ℕ) (a : ℕ) (tests : ℕ → ℕ) : Type 0 where
  -- "until the allowance is spent or all are finished"
  pub in_all : in_all (map tests (up_to (length many))) ≡ min a (in_all many)
  -- no more than it has
  pub each : (p : ℕ) → p < length many → tests p ≤ get_or many p 0
  -- "goes round the unfinished sheets in their order, one test each": beside a sheet left unfinished none has more than one more, and no later one more
  pub behind : (p q : ℕ) → p < length many → q < length many → tests p < get_or many p 0 → (tests q ≤ tests p + 1) × (p ≤ q → tests q ≤ tests p)

pub in_turn : (many : List ℕ) (a : ℕ) → InTurn many a (used many a)
in_turn many a = record {
  in_all = turns_add_up many a ∙ length-take a (turns many) ∙ ap (min a) (turns_long many);
  each = λ p _. turns_few many a p;
  behind = λ p q h _ n. (none_far_ahead many a p h n q, none_later_ahead many a p h n q);
}

-- numbers that are nowhere more are no more in all, and less where one is less
sum_le : (f g : ℕ → ℕ) (n : ℕ) → ((q : ℕ) → q < n → f q ≤ g q) → in_all (map f (up_to n)) ≤ in_all (map g (up_to n))
unfolding in_all up_to
sum_le f g zero h = zero-le
sum_le f g (suc n) h = omega (arith, sum_more f n, sum_more g n, h n (omega arith), sum_le f g n (λ q l. h q (omega arith)))

sum_lt : (f g : ℕ → ℕ) (n p : ℕ) → ((q : ℕ) → q < n → f q ≤ g q) → p < n → f p < g p → in_all (map f (up_to n)) < in_all (map g (up_to n))
sum_lt f g zero p h l m = absurd (not-suc-le-zero l)
sum_lt f g (suc n) p h l m =
    ⊎_elim
    (λ e. let last = subst (λ q. f q < g q) e m in omega (arith, sum_more f n, sum_more g n, sum_le f g n (λ q k. h q (omega arith))))
    (λ k. omega (arith, sum_more f n, sum_more g n, h n (omega arith), sum_lt f g n p (λ q j. h q (omega arith)) k m))
    (eq-or-lt_of_le (le_of_suc-le-suc l))

module _ (many : List ℕ) (a : ℕ) where
  -- with fewer tests at a sheet, and so no more at any, there would be fewer in all
  not_fewer : (f g : ℕ → ℕ) → InTurn many a f → InTurn many a g → (p : ℕ) → p < length many → g p ≤ f p
  not_fewer f g i j p h = ⊎_elim (λ l. absurd (lower l)) (λ n. omega arith) (decided (dec_lt (f p) (g p)))
    where
      nowhere-more : f p < g p → (q : ℕ) → q < length many → f q ≤ g q
      nowhere-more l q k =
          ⊎_elim
          (λ m. absurd
          (let (one_less, order) = i.behind p q h k (omega (arith, j.each p h)) in
          let (less_one, reverse) = j.behind q p k h (omega (arith, i.each q k)) in
          ⊎_elim (λ o. omega (arith, order o)) (λ o. omega (arith, reverse (omega arith))) (decided (dec_le p q))))
          (λ n. omega arith)
          (decided (dec_lt (g q) (f q)))

      lower : f p < g p → ⊥
      lower l = omega (arith, sum_lt f g (length many) p (nowhere-more l) h l, i.in_all, j.in_all)

  pub in_turn_only : (tests : ℕ → ℕ) → InTurn many a tests → (p : ℕ) → p < length many → tests p ≡ used many a p
  in_turn_only tests i p h = le_antisymm (not_fewer (used many a) tests (in_turn many a) i p h) (not_fewer tests (used many a) i (in_turn many a) p h)

-- the turns so far, sheet by sheet
pub done_adds : (many : List ℕ) (r p : ℕ) → p ≤ length many → in_all (map (turns_at (done many r p)) (up_to (length many))) ≡ length (done many r p)
done_adds many r p h =
    let (rest, e) = done_begins many r p h in
    add_up (length many) (done many r p) (λ q m. among-turns many (subst (λ l. q among l) (sym e) ((among-append (done many r p)).1 (inl m))))
