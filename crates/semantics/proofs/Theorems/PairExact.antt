-- The third section of a sheet is refused with a number and a place exactly where its bytes are as PairCases.antt says. Assumes nothing.
use Rattle.std.specs.Prelude.{ℕ, zero, suc, ◌+◌, ◌≤◌, ◌<◌, ◌≡◌, refl, List, [], ◌↔◌, ◌⊎◌, leb, length}
use Rattle.std.proofs.Common.{sym, ◌∙◌, subst}
use Rattle.std.proofs.Math.Path.{ap}
use Rattle.std.proofs.Math.Logic.{inl, inr, ⊎_elim}
use native.Mathlib.Omega.{arith}
use Rattle.sets.specs.Decides.{is_true, dec_eq, dec_le}
use Rattle.semantics.specs.Definitions.Reading.{Reading, field, refused, ◌then◌, require, times}
use Rattle.semantics.specs.Definitions.Sheet.{Opposites, Sheet, atoms, with_pairs, good_pair, byte_at, count_at, pair_at, front, nothing_follows, pairs_at, sections, most_pairs}
use Rattle.semantics.specs.Fields.{pairs_from}
use Rattle.semantics.specs.Theorems.Reading.{then_field, then_refused, require-passes, test_refused, last_refused}
use Rattle.semantics.specs.Theorems.Turns.{Yields, stops_at, refused_exactly, yields_exactly}
use Rattle.semantics.proofs.Theorems.Fields.{count_field, pair_field}
use Rattle.semantics.proofs.Theorems.Places.{front_number}
use Rattle.semantics.specs.Theorems.Pairs.{GoodPair}
use Rattle.semantics.proofs.Theorems.Pairs.{dec_good_pair}
use Rattle.semantics.specs.Theorems.PairCases.{pair_place, pair_by, Stands, GoodAt, GoodBefore, CountStands, NoCount, TooMany, CutShort, BadPair, ExtraBytes, PairsRefuse}

module _ (s : List ℕ) where
  -- ---- the count
  count_reads : (at : ℕ) → CountStands s at → count_at s most_pairs at ≡ field (byte_at s at) (at + 1)
  unfolding count_at
  count_reads at (l, few) =
      require-passes 1 (length s) _ (is_true (dec_le (at + 1) (length s)) l)
      ∙ require-passes 2 at (field (byte_at s at) (at + 1)) (is_true (dec_le (byte_at s at) most_pairs) few)

  count_refused : (at number place : ℕ) → count_at s most_pairs at ≡ refused number place ↔ (NoCount s at number place ⊎ TooMany s at number place)
  unfolding count_at
  count_refused at number place =
      let there = test_refused (dec_le (at + 1) (length s)) 1 (length s) (require (leb (byte_at s at) most_pairs) 2 at (field (byte_at s at) (at + 1))) number place in
      let few = last_refused (dec_le (byte_at s at) most_pairs) 2 at (byte_at s at) (at + 1) number place in (
        λ e. ⊎_elim
            (λ (h, n, p). inl (record { no_byte = omega arith; numbered = n; placed = p }))
            (λ (l, d). let (h, n, p) = few.0 d in inr (record { some_byte = l; many = omega arith; numbered = n; placed = p }))
            (there.0 e),
        ⊎_elim
            (λ h. let none = h.no_byte in there.1 (inl ((λ l. omega arith), h.numbered, h.placed)))
            (λ h. let many = h.many in there.1 (inr (h.some_byte, few.1 ((λ l. omega arith), h.numbered, h.placed)))),
      )

  module _ (atoms at : ℕ) where
    -- ---- one pair, the pair i after the earlier ones
    abbrev step : List Opposites → ℕ → Reading Opposites
    step = pair_at s atoms

    abbrev pairs_before : (i : ℕ) → List Opposites
    pairs_before i = pairs_from s i (at + 1)

    abbrev judged : (i : ℕ) → Reading Opposites
    judged i = require (good_pair atoms (pairs_before i) (pair_by s at i)) 15 (pair_place at i) (field (pair_by s at i) (pair_place at i + 2))

    abbrev PairYields : (i : ℕ) → Type 0
    PairYields i = Yields step (pair_by s at) (pair_place at) i

    -- it is read exactly where it is there and good
    good_yields : (i : ℕ) → Stands s at i × GoodAt s atoms at i → PairYields i
    unfolding pair_at
    good_yields i (l, g) =
        let z : pair_place at i + 2 ≡ pair_place at (suc i) = omega arith in
        require-passes 1 (length s) (judged i) (is_true (dec_le (pair_place at i + 2) (length s)) l)
        ∙ require-passes 15 (pair_place at i) (field (pair_by s at i) (pair_place at i + 2)) (is_true (dec_good_pair atoms (pairs_before i) (pair_by s at i)) g)
        ∙ ap (field (pair_by s at i)) z

    yields_good : (i : ℕ) (v : Opposites) (next : ℕ) → step (pairs_before i) (pair_place at i) ≡ field v next → Stands s at i × GoodAt s atoms at i
    yields_good i v next e =
        let (ev, en, l, t) = pair_field s atoms (pairs_before i) (pair_place at i) next v e in
        (omega arith, subst (GoodPair atoms (pairs_before i)) ev ((dec_good_pair atoms (pairs_before i) v).yes t))

    known : (i : ℕ) (v : Opposites) (next : ℕ) → step (pairs_before i) (pair_place at i) ≡ field v next → PairYields i
    known i v next e = good_yields i (yields_good i v next e)

    -- it is not all there, or it is bad, and it is refused so
    abbrev CutOrBad : (i number place : ℕ) → Type 0
    CutOrBad i number place =
        ((Stands s at i → ⊥) × (number ≡ 1) × (place ≡ length s))
        ⊎ (Stands s at i × ((GoodAt s atoms at i → ⊥) × (number ≡ 15) × (place ≡ pair_place at i)))

    pair_refused : (i number place : ℕ) → step (pairs_before i) (pair_place at i) ≡ refused number place ↔ CutOrBad i number place
    unfolding pair_at
    pair_refused i number place =
        let there = test_refused (dec_le (pair_place at i + 2) (length s)) 1 (length s) (judged i) number place in
        let good = last_refused (dec_good_pair atoms (pairs_before i) (pair_by s at i)) 15 (pair_place at i) (pair_by s at i) (pair_place at i + 2) number place in (
          λ e. ⊎_elim inl (λ (l, d). inr (l, good.0 d)) (there.0 e),
          ⊎_elim (λ h. there.1 (inl h)) (λ (l, h). there.1 (inr (l, good.1 h))),
        )

    -- ---- the pairs
    abbrev all_pairs : ℕ → ℕ → Reading (List Opposites)
    all_pairs n from = times n [] step from

    after_count : CountStands s at → pairs_at s atoms at ≡ all_pairs (byte_at s at) (pair_place at 0)
    unfolding pairs_at
    after_count counted =
        let z : at + 1 ≡ pair_place at 0 = omega arith in
        ap (λ r. r then all_pairs) (count_reads at counted) ∙ ap (all_pairs (byte_at s at)) z

    count_stands : (n next : ℕ) → count_at s most_pairs at ≡ field n next → CountStands s at
    count_stands n next e =
        let (same, _, few, l) = count_field s most_pairs at n next e in
        (l, omega arith)

    -- they are read exactly where all counted ones are there and good
    abbrev AllRead : (pairs : List Opposites) (end : ℕ) → Type 0
    AllRead pairs end = CountStands s at × GoodBefore s atoms at (byte_at s at) × (pairs ≡ pairs_before (byte_at s at)) × (end ≡ pair_place at (byte_at s at))

    pairs-read : (pairs : List Opposites) (end : ℕ) → pairs_at s atoms at ≡ field pairs end ↔ AllRead pairs end
    unfolding pairs_at
    pairs-read pairs end =
        let exactly = yields_exactly step (pair_by s at) (pair_place at) known (byte_at s at) pairs end in (
          λ e.
              let (n, next, c, _) = then_field (count_at s most_pairs at) all_pairs e in
              let counted = count_stands n next c in
              let (g, same, last) = exactly.0 (sym (after_count counted) ∙ e) in
              (counted, λ j l. yields_good j _ _ (g j l), same, last),
          λ (counted, g, same, last). after_count counted ∙ exactly.1 (λ j l. good_yields j (g j l), same, last),
        )

    module _ (number place : ℕ) where
      -- ---- the count or a pair is refused
      abbrev Refused : Type 0
      Refused = pairs_at s atoms at ≡ refused number place

      at_count : NoCount s at number place ⊎ TooMany s at number place → Refused
      unfolding pairs_at
      at_count h = (then_refused (count_at s most_pairs at) all_pairs number place).1 (inl ((count_refused at number place).1 h))

      at_pair : CountStands s at → (i : ℕ) → i < byte_at s at → GoodBefore s atoms at i → CutOrBad i number place → Refused
      at_pair counted i l g h =
          after_count counted
          ∙ stops_at step (pair_by s at) (pair_place at) (byte_at s at) i l (λ j k. good_yields j (g j k)) ((pair_refused i number place).1 h)

      cut_short : CutShort s atoms at number place → Refused
      cut_short h = at_pair h.counted h.pair h.of_count h.good_before (inl (h.cut, h.numbered, h.placed))

      bad-pair : BadPair s atoms at number place → Refused
      bad-pair h = at_pair h.counted h.pair h.of_count h.good_before (inr (h.stands, (h.not_good, h.numbered, h.placed)))

      so_refused : Refused → PairsRefuse s atoms at number place
      unfolding pairs_at
      so_refused e =
          ⊎_elim
          (λ c. ⊎_elim inl (λ h. inr (inl h)) ((count_refused at number place).0 c))
          (λ (n, next, c, _).
          let counted = count_stands n next c in
          let (i, l, g, r) = (refused_exactly step (pair_by s at) (pair_place at) known (byte_at s at) number place).0 (sym (after_count counted) ∙ e) in
          let good : GoodBefore s atoms at i = λ j k. yields_good j _ _ (g j k) in
          inr (inr (⊎_elim
          (λ (h, m, p). inl (record { counted = counted; pair = i; of_count = l; good_before = good; cut = h; numbered = m; placed = p }))
          (λ (t, (h, m, p)). inr (inl (record { counted = counted; pair = i; of_count = l; good_before = good; stands = t; not_good = h; numbered = m; placed = p })))
          ((pair_refused i number place).0 r))))
          ((then_refused (count_at s most_pairs at) all_pairs number place).0 e)

    -- the pairs that stand end within the bytes
    good_within : (n : ℕ) → at + 1 ≤ length s → GoodBefore s atoms at n → pair_place at n ≤ length s
    good_within zero l g = omega arith
    good_within (suc n) l g = let (h, _) = g n (omega arith) in omega arith

  -- ---- the whole, after names and rules
  abbrev ending : Sheet → List Opposites → ℕ → Reading Sheet
  ending x pairs end = nothing_follows s (with_pairs x pairs) end

  abbrev third : Sheet → ℕ → Reading Sheet
  third x at = pairs_at s (atoms x) at then ending x

  module _ (x : Sheet) (at number place : ℕ) where
    extra : (pairs : List Opposites) (end : ℕ) → ending x pairs end ≡ refused number place ↔ ((end ≡ length s → ⊥) × (number ≡ 6) × (place ≡ end))
    extra pairs end = last_refused (dec_eq end (length s)) 6 end (with_pairs x pairs) end number place

    refuses : PairsRefuse s (atoms x) at number place → third x at ≡ refused number place
    refuses =
        let n = byte_at s at in
        let both = then_refused (pairs_at s (atoms x) at) (ending x) number place in
        ⊎_elim (λ h. both.1 (inl (at_count (atoms x) at number place (inl h)))) (⊎_elim
        (λ h. both.1 (inl (at_count (atoms x) at number place (inr h)))) (⊎_elim
        (λ h. both.1 (inl (cut_short (atoms x) at number place h))) (⊎_elim
        (λ h. both.1 (inl (bad-pair (atoms x) at number place h)))
        (λ h.
        let more = h.more in
        let d = (pairs-read (atoms x) at (pairs_from s n (at + 1)) (pair_place at n)).1 (h.counted, h.all_good, refl, refl) in
        both.1 (inr (pairs_from s n (at + 1), pair_place at n, d, (extra _ _).1 ((λ e. omega arith), h.numbered, h.placed)))))))

    refused_so : third x at ≡ refused number place → PairsRefuse s (atoms x) at number place
    refused_so e =
        ⊎_elim (so_refused (atoms x) at number place)
        (λ (pairs, end, d, r).
        let (counted, g, _, last) = (pairs-read (atoms x) at pairs end).0 d in
        let (h, m, p) = (extra pairs end).0 r in
        let more : pair_place at (byte_at s at) < length s = omega (arith, good_within (atoms x) at (byte_at s at) counted.0 g, h) in
        inr (inr (inr (inr (record { counted = counted; all_good = g; more = more; numbered = m; placed = p ∙ last })))))
        ((then_refused (pairs_at s (atoms x) at) (ending x) number place).0 e)

    -- where names and rules are read, up to the place `at`
    pub third_refused : front s ≡ field x at → sections s ≡ refused number place ↔ PairsRefuse s (atoms x) at number place
    unfolding sections
    third_refused e =
        let after = ap (λ r. r then third) e in
        (λ d. refused_so (sym after ∙ d), λ h. after ∙ refuses h)

  pub sections_refused : (number place : ℕ) → sections s ≡ refused number place
      ↔ ((front s ≡ refused number place) ⊎ ((x : Sheet) × (at : ℕ) × (front s ≡ field x at) × PairsRefuse s (atoms x) at number place))
  unfolding sections
  sections_refused number place =
      let both = then_refused (front s) third number place in (
        λ e. ⊎_elim inl (λ (x, at, d, r). inr (x, at, d, refused_so x at number place r)) (both.0 e),
        ⊎_elim (λ e. both.1 (inl e)) (λ (x, at, d, h). both.1 (inr (x, at, d, refuses x at number place h))),
      )

  -- ---- by number
  -- the two cases with a number over 5
  late : {atoms at number place : ℕ} → 5 < number → PairsRefuse s atoms at number place → BadPair s atoms at number place ⊎ ExtraBytes s atoms at number place
  late l =
      ⊎_elim (λ c. absurd (omega (arith, c.numbered))) (⊎_elim
      (λ c. absurd (omega (arith, c.numbered))) (⊎_elim
      (λ c. absurd (omega (arith, c.numbered)))
      (λ c. c)))

  over_five : (number place : ℕ) → 5 < number → sections s ≡ refused number place
      → (x : Sheet) × (at : ℕ) × (front s ≡ field x at) × (BadPair s (atoms x) at number place ⊎ ExtraBytes s (atoms x) at number place)
  over_five number place l e =
      ⊎_elim
      (λ d. absurd (omega (arith, front_number s number place d)))
      (λ (x, at, d, h). (x, at, d, late l h))
      ((sections_refused number place).0 e)

  -- 15 for a bad pair, and for nothing else
  pub fifteen_exactly : (place : ℕ) → sections s ≡ refused 15 place ↔ ((x : Sheet) × (at : ℕ) × (front s ≡ field x at) × BadPair s (atoms x) at 15 place)
  fifteen_exactly place = (
    λ e. let (x, at, d, h) = over_five 15 place (omega arith) e in (x, at, d, ⊎_elim (λ c. c) (λ c. absurd (omega (arith, c.numbered))) h),
    λ (x, at, d, h). (third_refused x at 15 place d).1 (inr (inr (inr (inl h)))),
  )

  -- 6 for extra bytes, and for nothing else
  pub six_exactly : (place : ℕ) → sections s ≡ refused 6 place ↔ ((x : Sheet) × (at : ℕ) × (front s ≡ field x at) × ExtraBytes s (atoms x) at 6 place)
  six_exactly place = (
    λ e. let (x, at, d, h) = over_five 6 place (omega arith) e in (x, at, d, ⊎_elim (λ c. absurd (omega (arith, c.numbered))) (λ c. c) h),
    λ (x, at, d, h). (third_refused x at 6 place d).1 (inr (inr (inr (inr h)))),
  )
