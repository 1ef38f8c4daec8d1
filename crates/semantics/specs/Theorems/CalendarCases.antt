-- When a calendar is accepted, and when it is refused with which number and place, said of its bytes without reading steps; every calendar is
-- accepted or refused so. Assumes nothing.
use Rattle.std.specs.Prelude.{ℕ, zero, suc, ◌+◌, ◌*◌, ◌≤◌, ◌<◌, ◌≡◌, refl, List, map, ◌⊎◌, length}
use Rattle.std.proofs.Common.{sym, inl, inr, ⊎_elim, eq-or-lt_of_le, le_of_suc-le-suc, not-suc-le-zero, arith}
use Rattle.sets.specs.Decides.{decided, dec_le}
use Rattle.sets.specs.Lists.{up_to}
use Rattle.semantics.specs.Definitions.Sheet.{byte_at}
use Rattle.semantics.specs.Definitions.Calendar.{most_entries, Entry, entry_from}
use Rattle.semantics.specs.Theorems.InForce.{Proper, dec_proper}

-- ---- what the bytes c of a calendar are, where the sheet has so many rules
-- "a count byte [..], then entries of five bytes": the place of the entry i, and the entry there
abbrev pub entry_place : (i : ℕ) → ℕ
entry_place i = 1 + 5 * i

abbrev pub entry_by : (c : List ℕ) (i : ℕ) → Entry
entry_by c i = entry_from c (entry_place i)

abbrev pub entries_of_bytes : (c : List ℕ) (n : ℕ) → List Entry
entries_of_bytes c n = map (entry_by c) (up_to n)

-- all bytes of the entry i are there
abbrev pub Stands : (c : List ℕ) (i : ℕ) → Type 0
Stands c i = entry_place i + 5 ≤ length c

abbrev pub ProperAt : (c : List ℕ) (rules i : ℕ) → Type 0
ProperAt c rules i = Proper rules (entry_by c i)

-- "entry by entry": every entry before the entry i is there and proper
abbrev pub GoodBefore : (c : List ℕ) (rules i : ℕ) → Type 0
GoodBefore c rules i = (j : ℕ) → j < i → Stands c j × ProperAt c rules j

-- "a count byte 0 to 64" is there
abbrev pub CountStands : (c : List ℕ) → Type 0
CountStands c = (1 ≤ length c) × (byte_at c 0 ≤ most_entries)

-- "own shortness [..] get 1": there is no count byte
pub record NoCount (c : List ℕ) (number place : ℕ) : Type 0 where
  pub no_bytes : length c ≡ 0
  pub numbered : number ≡ 1
  pub placed : place ≡ 0

-- "too many entries get 2"
pub record TooMany (c : List ℕ) (number place : ℕ) : Type 0 where
  pub some_bytes : 1 ≤ length c
  pub many : most_entries < byte_at c 0
  pub numbered : number ≡ 2
  pub placed : place ≡ 0

-- "own shortness [..] get 1": a counted entry is not all there, and those before it are good
pub record CutShort (c : List ℕ) (rules number place : ℕ) : Type 0 where
  pub counted : CountStands c
  pub entry : ℕ
  pub of_count : entry < byte_at c 0
  pub good_before : GoodBefore c rules entry
  pub cut : Stands c entry → ⊥
  pub numbered : number ≡ 1
  pub placed : place ≡ length c

-- "11 with the entry's place, [..] entry by entry after its bytes are present"
pub record BadEntry (c : List ℕ) (rules number place : ℕ) : Type 0 where
  pub counted : CountStands c
  pub entry : ℕ
  pub of_count : entry < byte_at c 0
  pub good_before : GoodBefore c rules entry
  pub stands : Stands c entry
  pub not_proper : ProperAt c rules entry → ⊥
  pub numbered : number ≡ 11
  pub placed : place ≡ entry_place entry

-- "extra bytes get [..] 6": the counted entries are all good, and bytes follow them
pub record ExtraBytes (c : List ℕ) (rules number place : ℕ) : Type 0 where
  pub counted : CountStands c
  pub all_good : GoodBefore c rules (byte_at c 0)
  pub more : entry_place (byte_at c 0) < length c
  pub numbered : number ≡ 6
  pub placed : place ≡ entry_place (byte_at c 0)

-- refused with this number and this place, of which the five cases say when
abbrev pub CalendarRefuses : (c : List ℕ) (rules number place : ℕ) → Type 0
CalendarRefuses c rules number place =
    NoCount c number place ⊎ (TooMany c number place ⊎ (CutShort c rules number place ⊎ (BadEntry c rules number place ⊎ ExtraBytes c rules number place)))

-- accepted: the bytes are a count and that many entries, all good, and nothing more
pub record CalendarAccepts (c : List ℕ) (rules : ℕ) (entries : List Entry) (end : ℕ) : Type 0 where
  pub counted : CountStands c
  pub all_good : GoodBefore c rules (byte_at c 0)
  pub whole : length c ≡ entry_place (byte_at c 0)
  pub entries_lie : entries ≡ entries_of_bytes c (byte_at c 0)
  pub ends : end ≡ length c

-- ---- no calendar is left out
module _ (c : List ℕ) (rules : ℕ) where
  -- the first n entries are good, or the first that is not is cut or bad
  abbrev FirstNotGood : (n : ℕ) → Type 0
  FirstNotGood n = (i : ℕ) × (i < n) × GoodBefore c rules i × ((Stands c i → ⊥) ⊎ (Stands c i × (ProperAt c rules i → ⊥)))

  good_or_not : (n : ℕ) → GoodBefore c rules n ⊎ FirstNotGood n
  good_or_not zero = inl (λ j l. absurd (not-suc-le-zero l))
  good_or_not (suc n) =
      ⊎_elim (λ g. ⊎_elim (λ s. ⊎_elim
      (λ p. inl (λ j l. ⊎_elim (λ e. rw e (s, p)) (λ m. g j m) (eq-or-lt_of_le (le_of_suc-le-suc l))))
      (λ p. inr (n, omega arith, g, inr (s, p)))
      (decided (dec_proper rules (entry_by c n))))
      (λ s. inr (n, omega arith, g, inl s))
      (decided (dec_le (entry_place n + 5) (length c))))
      (λ (i, l, g, w). inr (i, omega arith, g, w))
      (good_or_not n)

  good_long : (n : ℕ) → 1 ≤ length c → GoodBefore c rules n → entry_place n ≤ length c
  good_long zero l g = omega arith
  good_long (suc n) l g = let (s, _) = g n (omega arith) in omega arith

  abbrev pub AcceptsOrRefuses : Type 0
  AcceptsOrRefuses =
      ((entries : List Entry) × (end : ℕ) × CalendarAccepts c rules entries end) ⊎ ((number : ℕ) × (place : ℕ) × CalendarRefuses c rules number place)

  all_good_is : CountStands c → GoodBefore c rules (byte_at c 0) → AcceptsOrRefuses
  all_good_is counted g =
      let n = byte_at c 0 in
      ⊎_elim
      (λ e. inl (entries_of_bytes c n, length c, record { counted = counted; all_good = g; whole = sym e; entries_lie = refl; ends = refl }))
      (λ l. inr (6, entry_place n, inr (inr (inr (inr (record { counted = counted; all_good = g; more = l; numbered = refl; placed = refl }))))))
      (eq-or-lt_of_le (good_long n counted.0 g))

  not_good_is : CountStands c → FirstNotGood (byte_at c 0) → AcceptsOrRefuses
  not_good_is counted (i, l, g, w) =
      ⊎_elim
      (λ s.
      let h : CutShort c rules 1 (length c) =
      record { counted = counted; entry = i; of_count = l; good_before = g; cut = s; numbered = refl; placed = refl } in
      inr (1, length c, inr (inr (inl h))))
      (λ (s, p).
      let h : BadEntry c rules 11 (entry_place i) =
      record { counted = counted; entry = i; of_count = l; good_before = g; stands = s; not_proper = p; numbered = refl; placed = refl } in
      inr (11, entry_place i, inr (inr (inr (inl h)))))
      w

  -- every calendar is accepted or refused so
  pub calendar_decided : AcceptsOrRefuses
  calendar_decided =
      ⊎_elim (λ l. ⊎_elim (λ few. ⊎_elim (all_good_is (l, few)) (not_good_is (l, few)) (good_or_not (byte_at c 0)))
      (λ many. inr (2, 0, inr (inl (record { some_bytes = l; many = omega arith; numbered = refl; placed = refl }))))
      (decided (dec_le (byte_at c 0) most_entries)))
      (λ none. inr (1, 0, inl (record { no_bytes = omega arith; numbered = refl; placed = refl })))
      (decided (dec_le 1 (length c)))
