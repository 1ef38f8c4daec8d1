-- K4: exactly when a shared call is denied, with which number, place and position, and exactly when it is granted, and with what. Assumes nothing.
use Rattle.std.specs.Prelude.{ℕ, ◌+◌, ◌*◌, ◌≤◌, ◌<◌, ◌≡◌, refl, true, List, [], ◌↔◌, ◌⊎◌, length, get_or, take}
use Rattle.std.proofs.Common.{sym, ap, ◌∙◌, subst, inl, inr, arith, zero-add, length-take, get_or-take}
use Rattle.std.proofs.Math.Logic.{⊎_elim}
use borrow.Author.Tests.{lt-ltb, le-leb, lt-leb}
use Rattle.sets.specs.Decides.{decided, dec_eq, dec_le}
use Rattle.semantics.specs.Definitions.Setting.{Setting}
use Rattle.semantics.specs.Definitions.Returned.{accepted, refusal}
use Rattle.semantics.specs.Definitions.Check.{of_sheet}
use Rattle.semantics.specs.Definitions.Listing.{View}
use Rattle.semantics.specs.Definitions.Calls.{records_need}
use Rattle.semantics.specs.Definitions.Sharing.{met_in, turns_at, Share, Shares, paid, shares_of, granted, denied, ◌and_so◌, of_sheets, share_into, shares_into, most_sheets, share_call}
use Rattle.semantics.specs.Theorems.Returned.{limited_fits, limited_short, fits_limited, short_limited}
use Rattle.allowance.specs.SheetBySheet.{granted_same, denied_same, not_both, so_granted, so_denied, each_granted, each_denied, granted_exactly, denied_exactly}
use Rattle.allowance.specs.Shares.{no_sheet, shares_long, share-at}

-- ---- the sheets, each read
-- the settings of the first n sheets, all of which are accepted
pub record AllRead (n : ℕ) (sheets : List (List ℕ)) (ss : List Setting) : Type 0 where
  pub long : length ss ≡ n
  pub reads : (q : ℕ) → q < n → of_sheet (get_or sheets q []) ≡ accepted (get_or ss q no_sheet)

-- "the first refusal, sheet by sheet": the sheet at that position of the first n is refused so, and those before it are accepted
pub record SheetRefused (n : ℕ) (sheets : List (List ℕ)) (number place position : ℕ) : Type 0 where
  pub there : position < n
  pub earlier : (q : ℕ) → q < position → (s : Setting) × (of_sheet (get_or sheets q []) ≡ accepted s)
  pub refuses : of_sheet (get_or sheets position []) ≡ refusal number place

module _ (n : ℕ) (sheets : List (List ℕ)) (enough : n ≤ length sheets) where
  first_n : length (take n sheets) ≡ n
  first_n = omega (arith, length-take n sheets)

  pub sheets_granted : (ss : List Setting) → (of_sheets (take n sheets) ≡ granted ss) ↔ AllRead n sheets ss
  sheets_granted ss =
      let (there, back) = granted_exactly (λ _ sheet. of_sheet sheet) 0 (take n sheets) ss [] no_sheet in (
        λ e. let (l, f) = there e in record {
          long = l ∙ first_n;
          reads = λ q h. ap of_sheet (sym (get_or-take n sheets q [] h)) ∙ f q (omega (arith, first_n));
        },
        λ r. back (
          r.long ∙ sym first_n,
          λ q h.
              let l : q < n = omega (arith, first_n) in
              ap of_sheet (get_or-take n sheets q [] l) ∙ r.reads q l,
        ),
      )

  pub sheets_denied : (number place position : ℕ) → (of_sheets (take n sheets) ≡ denied number place position) ↔ SheetRefused n sheets number place position
  sheets_denied number place position =
      let (there, back) = denied_exactly (λ _ sheet. of_sheet sheet) 0 (take n sheets) [] number place position in (
        λ e. let (r, h, at, f, d) = there e in
            let same : r ≡ position = sym (zero-add r) ∙ sym at in
            let l : r < n = omega (arith, first_n) in
            record {
              there = subst (λ r. r < n) same l;
              earlier = λ q k.
                  let (s, c) = f q (omega arith) in
                  (s, ap of_sheet (sym (get_or-take n sheets q [] (omega arith))) ∙ c);
              refuses = subst (λ r. of_sheet (get_or sheets r []) ≡ refusal number place) same (ap of_sheet (sym (get_or-take n sheets r [] l)) ∙ d);
            },
        λ r. back (
          position,
          omega (arith, first_n, r.there),
          sym (zero-add position),
          λ q k.
              let (s, c) = r.earlier q k in
              (s, ap of_sheet (get_or-take n sheets q [] (omega (arith, r.there))) ∙ c),
          ap of_sheet (get_or-take n sheets position [] r.there) ∙ r.refuses,
        ),
      )

-- ---- the views reached, into buffers of so many words
-- the views of the sheet at a position, of the turns that the allowance pays for
abbrev pub reached : (allowance : ℕ) → List Setting → (position : ℕ) → List View
reached a ss q = met_in (get_or ss q no_sheet) (turns_at (paid a ss) q)

module _ (words : List ℕ) (a : ℕ) (ss : List Setting) where
  -- those of the first n sheets fit
  abbrev pub FitTo : ℕ → Type 0
  FitTo n = (q : ℕ) → q < n → 4 * length (reached a ss q) ≤ get_or words q 0

  -- "Here 9 is given, with the number of views reached, when those don't fit": those of the sheet at that position don't, and those before it do
  pub record Short (n number place position : ℕ) : Type 0 where
    pub there : position < n
    pub earlier : FitTo position
    pub short : get_or words position 0 < 4 * place
    pub views : place ≡ length (reached a ss position)
    pub nine : number ≡ 9

  abbrev each : List Share
  each = (shares_of a ss).each

  d : Share
  d = record { finished = true; tests = 0; views = [] }

  views_at : (q : ℕ) → q < length ss → length (get_or each q d).views ≡ length (reached a ss q)
  views_at q h = ap (λ (x : Share). length x.views) (share-at a ss q h d no_sheet)

  fits : (q : ℕ) → q < length ss → {x : Share} → share_into words (0 + q) (get_or each q d) ≡ accepted x → 4 * length (reached a ss q) ≤ get_or words q 0
  fits q h e =
      let x = get_or each q d in
      let (_, room) = limited_fits (records_need (length x.views)) (get_or words (0 + q) 0) (length x.views) x e in
      omega (arith, views_at q h, ap (λ p. get_or words p 0) (zero-add q))

  fitting : (q : ℕ) → q < length ss → 4 * length (reached a ss q) ≤ get_or words q 0 → share_into words (0 + q) (get_or each q d) ≡ accepted (get_or each q d)
  fitting q h room =
      let x = get_or each q d in
      fits_limited (records_need (length x.views)) (get_or words (0 + q) 0) (length x.views) x
      (omega (arith, views_at q h, ap (λ p. get_or words p 0) (zero-add q)))

  pub into_granted : (v : Shares) → (shares_into words (shares_of a ss) ≡ granted v) ↔ (FitTo (length ss) × (v ≡ shares_of a ss))
  into_granted v =
      let n = shares_long a ss in (
        λ e. let (xs, f, same) = so_granted _ (λ _. granted (shares_of a ss)) e in
            let (_, all) = (granted_exactly (share_into words) 0 each xs d d).0 f in
            (λ q h. fits q h (all q (omega arith)), sym (granted_same same)),
        λ (f, same).
            let all = each_granted (share_into words) 0 each each d d refl (λ q h. let l : q < length ss = omega arith in fitting q l (f q l)) in
            rw all (ap granted (sym same)),
      )

  pub into_denied : (number place position : ℕ) → (shares_into words (shares_of a ss) ≡ denied number place position) ↔ Short (length ss) number place position
  into_denied number place position =
      let n = shares_long a ss in (
        λ e. ⊎_elim
            (λ f.
            let (r, h, at, before, e) = (denied_exactly (share_into words) 0 each d number place position).0 f in
            let same : r ≡ position = sym (zero-add r) ∙ sym at in
            let l : r < length ss = omega arith in
            let x = get_or each r d in
            let (few, nine, told) = limited_short (records_need (length x.views)) (get_or words (0 + r) 0) (length x.views) x e in
            subst (Short (length ss) number place) same (record {
              there = l;
              earlier = λ q k. fits q (omega arith) (before q k).1;
              short = omega (arith, ap (λ p. get_or words p 0) (zero-add r));
              views = told ∙ views_at r l;
              nine = nine;
            }))
            (λ (xs, _, no_more). absurd (not_both {r = granted (shares_of a ss)} refl no_more))
            ((so_denied _ (λ _. granted (shares_of a ss)) number place position).0 e),
        λ s.
            let l = s.there in
            let x = get_or each position d in
            let refuses : share_into words (0 + position) x ≡ refusal number place =
            short_limited (records_need (length x.views)) (get_or words (0 + position) 0) (length x.views) x
            (omega (arith, views_at position l, s.views, s.short, ap (λ p. get_or words p 0) (zero-add position)))
            ∙ ap (refusal 9) (views_at position l ∙ sym s.views) ∙ ap (λ n. refusal n place) (sym s.nine) in
            let first =
            each_denied (share_into words) 0 each d position number place (omega arith)
            (λ q k. (get_or each q d, fitting q (omega arith) (s.earlier q k))) refuses in
            rw first (ap (denied number place) (zero-add position)),
      )

-- ---- the call
-- "up to four sheets"
abbrev pub OneToFour : ℕ → Type 0
OneToFour count = (0 < count) × (count ≤ most_sheets)

abbrev pub NoneOrMore : ℕ → Type 0
NoneOrMore count = (count ≡ 0) ⊎ (most_sheets < count)

within : (count : ℕ) → OneToFour count ⊎ NoneOrMore count
within count =
    ⊎_elim (λ none. inr (inl none))
    (λ some. ⊎_elim (λ few. inl (omega arith, few)) (λ many. inr (inr (omega arith))) (decided (dec_le count most_sheets)))
    (decided (dec_eq count 0))

module _ (count : ℕ) (sheets : List (List ℕ)) (allowance : ℕ) (words : List ℕ) where
  -- granted: all sheets are accepted and all views reached fit
  pub record Granted (ss : List Setting) : Type 0 where
    pub some : OneToFour count
    pub read : AllRead count sheets ss
    pub fit : FitTo words allowance ss count

  -- denied: for the number of sheets, then by a sheet, then for want of words
  abbrev pub Denied : (number place position : ℕ) → Type 0
  Denied number place position =
      (NoneOrMore count × (number ≡ 14) × (place ≡ 0) × (position ≡ 0)) ⊎ (OneToFour count
      × (SheetRefused count sheets number place position ⊎ ((ss : List Setting) × AllRead count sheets ss × Short words allowance ss count number place position)))

  outside : NoneOrMore count → share_call count sheets allowance words ≡ denied 14 0 0
  unfolding share_call
  outside = ⊎_elim (λ e. rw e) (λ l. rw (lt-leb count most_sheets l, lt-ltb 0 count (omega arith)))

  inside : OneToFour count → share_call count sheets allowance words ≡ (of_sheets (take count sheets) and_so λ ss. shares_into words (shares_of allowance ss))
  unfolding share_call
  inside (some, few) = rw (lt-ltb 0 count some, le-leb count most_sheets few)

module _ (count : ℕ) (sheets : List (List ℕ)) (four : length sheets ≡ most_sheets) (allowance : ℕ) (words : List ℕ) where
  pub share_granted : (v : Shares) → (share_call count sheets allowance words ≡ granted v) ↔ ((ss : List Setting) × Granted count sheets allowance words ss × (v ≡ shares_of allowance ss))
  share_granted v = (
    λ e. ⊎_elim
        (λ i.
        let (ss, f, g) = so_granted (of_sheets (take count sheets)) _ (sym (inside count sheets allowance words i) ∙ e) in
        let read = (sheets_granted count sheets (omega (arith, i.1)) ss).0 f in
        let (fit, same) = (into_granted words allowance ss v).0 g in
        (ss, record { some = i; read = read; fit = subst (FitTo words allowance ss) read.long fit }, same))
        (λ o. absurd (not_both e (outside count sheets allowance words o)))
        (within count),
    λ (ss, g, same).
        let read = (sheets_granted count sheets (omega (arith, g.some.1)) ss).1 g.read in
        inside count sheets allowance words g.some
        ∙ ap (λ r. r and_so λ ss. shares_into words (shares_of allowance ss)) read
        ∙ (into_granted words allowance ss v).1 (subst (FitTo words allowance ss) (sym g.read.long) g.fit, same),
  )

  pub share_denied : (number place position : ℕ) → (share_call count sheets allowance words ≡ denied number place position) ↔ Denied count sheets allowance words number place position
  share_denied number place position = (
    λ e. ⊎_elim
        (λ i.
        inr (
          i,
          ⊎_elim
              (λ f. inl ((sheets_denied count sheets (omega (arith, i.1)) number place position).0 f))
              (λ (ss, f, g).
              let read = (sheets_granted count sheets (omega (arith, i.1)) ss).0 f in
              inr (ss, read, subst (λ n. Short words allowance ss n number place position) read.long ((into_denied words allowance ss number place position).0 g)))
              ((so_denied (of_sheets (take count sheets)) _ number place position).0 (sym (inside count sheets allowance words i) ∙ e)),
        ))
        (λ o. let (n, p, i) = denied_same (sym e ∙ outside count sheets allowance words o) in inl (o, n, p, i))
        (within count),
    ⊎_elim
        (λ (o, number_is, place_is, position-is). outside count sheets allowance words o ∙ cc)
        (λ (i, why).
        let open_call = inside count sheets allowance words i in
        let rest : List Setting → _ = λ ss. shares_into words (shares_of allowance ss) in
        open_call ∙ (so_denied (of_sheets (take count sheets)) rest number place position).1
        (⊎_elim (λ f. inl ((sheets_denied count sheets (omega (arith, i.1)) number place position).1 f))
        (λ (ss, read, short). inr (
          ss,
          (sheets_granted count sheets (omega (arith, i.1)) ss).1 read,
          (into_denied words allowance ss number place position).1 (subst (λ n. Short words allowance ss n number place position) (sym read.long) short),
        ))
        why)),
  )
