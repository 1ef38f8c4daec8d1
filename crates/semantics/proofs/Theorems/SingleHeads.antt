-- Document 02, K6: for rules with at most one head atom, the least model grown and the constraints judge stability as the search over subsets
-- does; and so for every sheet of such rules, every guess and set, with or without the day's masks, and at a minute. Assumes nothing.
use Rattle.std.specs.Prelude.{ℕ, ◌^◌, ◌≤◌, ◌≡◌, refl, true, ◌&&◌, List, map, ◌↔◌, eqb}
use Rattle.std.proofs.Math.Path.{sym}
use Rattle.std.proofs.Common.{ap, ◌∙◌, subst, ⊎_elim, arith}
use Rattle.std.specs.Int.Count.{ones}
use Rattle.sets.specs.Decides.{Decides, decided, is_true, dec_one, dec_iff, dec_and, dec_eq, dec_le}
use Rattle.sets.specs.Lists.{◌among◌, keep, up_to, among-append, among-map, among-keep, dec_every}
use Rattle.sets.specs.Sets.{◌∈◌, ◌⊆◌, ◌⊂◌, Meets, ∅, size}
use Rattle.sets.specs.Members.{some-member, ∈-∅, ∅-⊆, ⊆_trans, ⊆_antisym}
use Rattle.sets.specs.One.{only_one}
use Rattle.semantics.specs.Definitions.Rules.{Rule}
use Rattle.semantics.specs.Definitions.Reading.{field}
use Rattle.semantics.specs.Definitions.Sheet.{Sheet, rule_of_masks, epistemic_rules}
use Rattle.semantics.specs.Definitions.Reduct.{holds_by}
use Rattle.semantics.specs.Definitions.Setting.{Setting, add}
use Rattle.semantics.specs.Definitions.Check.{opposed, unpaired, setting, opened, of_sheet}
use Rattle.semantics.specs.Definitions.Returned.{Returned}
use Rattle.semantics.specs.Definitions.Stable.{negations_hold, positive, reduct_at, stable, stable_sets}
use Rattle.semantics.specs.Definitions.Verdict.{belief_sets}
use Rattle.semantics.specs.Definitions.Day.{day_constraints, under, allowed, under_masks, of_day}
use Rattle.semantics.specs.Definitions.Calendar.{Entry, at_minute, of_minute}
use Rattle.semantics.specs.Definitions.LeastModel.{single_heads, least_model, constraints_of, by_least_model}
use Rattle.semantics.specs.Theorems.Reduct.{among-reduct, rule_reduces}
use Rattle.semantics.specs.Theorems.Stable.{NegationsHold, Satisfies, Model, Stable}
use Rattle.semantics.proofs.Theorems.Stable.{dec_negations, dec_model, dec_stable, among-positive}
use Rattle.semantics.specs.Theorems.Constraints.{Constraints}
use Rattle.semantics.proofs.Theorems.Day.{day_empty, stable-under}
use Rattle.semantics.proofs.Theorems.Opposites.{opposed_empty}
use Rattle.semantics.proofs.Theorems.Source.{sheet_accepted}
use Rattle.semantics.proofs.Theorems.DaySource.{masks_accepted}
use Rattle.semantics.proofs.Theorems.Minute.{minute_among}
use Rattle.semantics.proofs.Theorems.CalendarCalls.{minute_accepted}
use Rattle.semantics.specs.Theorems.LeastModel.{Closed}
use Rattle.semantics.proofs.Theorems.LeastModel.{least_is}
use Rattle.semantics.specs.Theorems.SingleHeads.{SingleHeads, Positive, SingleHeadSetting, SingleHeadSheet, SingleHeadSource}

pub negations_hold_lem : {q : List Rule} → Positive q → (r : Rule) → r among q → (x : ℕ) → NegationsHold x r
negations_hold_lem plain_only r m x =
    let (n, nn) = plain_only r m in
    ((λ b. ∈-∅ (subst (λ z. b.common ∈ z) n b.left)), subst (λ z. z ⊆ x) (sym nn) ∅-⊆)

-- a set of at most one member is within what it meets
met_within : {h x : ℕ} → size h ≤ 1 → Meets h x → h ⊆ x
met_within {h} {x} l q = record { into = λ m. subst (λ z. z ∈ x) (only_one l q.left m) q.right }

-- ---- closed sets and models
-- a closed set satisfies the rules that have a head
pub closed_satisfies : {q : List Rule} {x : ℕ} → Closed q x → (r : Rule) → r among q → (r.head ≡ ∅ → ⊥) → Satisfies x r
closed_satisfies c r m ne b =
    let (a, k) = some-member r.head (omega arith) in
    record { common = a; left = k; right = (c r m b.0).into k }

pub among-constraints : (p : List Rule) {r : Rule} → r among constraints_of p ↔ ((r among p) × (r.head ≡ ∅))
among-constraints p {r} = (
  λ m. let (k, t) = (among-keep (λ r. eqb r.head ∅) p).0 m in (k, (dec_eq r.head ∅).yes t),
  λ q. (among-keep (λ r. eqb r.head ∅) p).1 (q.0, is_true (dec_eq r.head ∅) q.1),
)

-- so with the constraints it is a model
pub closed_model : {q : List Rule} {x : ℕ} → Closed q x → Model (constraints_of q) x → Model q x
closed_model {q} c k r m =
    ⊎_elim (λ e. k r ((among-constraints q).1 (m, e))) (λ ne. closed_satisfies c r m ne) (decided (dec_eq r.head ∅))

module _ {q : List Rule} (plain_only : Positive q) (single : SingleHeads q) where
  -- where a rule has one head atom, that atom is the one that holds
  pub model_closed : {x : ℕ} → Model q x → Closed q x
  model_closed {x} k r m w = met_within (single r m) (k r m (w, negations_hold_lem plain_only r m x))

  -- so the least model is within every model
  pub least_within : {x : ℕ} → Model q x → least_model q ⊆ x
  least_within k = (least_is q).least (model_closed k)

  -- and where there is a model, it is one: it satisfies the constraints too
  pub least_model_lem : {x : ℕ} → Model q x → Model q (least_model q)
  least_model_lem {x} k =
      closed_model (least_is q).closed (λ r m b.
      let (l, e) = (among-constraints q).0 m in
      let y = k r l (⊆_trans b.0 (least_within k), negations_hold_lem plain_only r l x) in
      absurd (∈-∅ (subst (λ z. y.common ∈ z) e y.left)))

  -- a set is a subset-minimal model exactly when it is the least model and the constraints are satisfied
  pub minimal_exactly : (i : ℕ) → ((least_model q ≡ i) × Model (constraints_of q) i) ↔ (Model q i × ((j : ℕ) → j ⊂ i → Model q j → ⊥))
  minimal_exactly i = (
    λ (e, k). (
      closed_model (subst (Closed q) e (least_is q).closed) k,
      λ j s m. s.differ (⊆_antisym s.within (subst (λ z. z ⊆ j) e (least_within m))),
    ),
    λ (m, minimal). (
      ⊎_elim (λ e. e) (λ ne. absurd (minimal (least_model q) (record { within = least_within m; differ = ne }) (least_model_lem m))) (decided (dec_eq (least_model q) i)),
      λ r k. m r ((among-constraints q).0 k).0,
    ),
  )

-- ---- the reduced rules
module _ (p : List Rule) where
  -- they are the rules of the program whose negations hold, without these
  pub among_reduced : (i : ℕ) {q : Rule} → q among reduct_at i p ↔ ((r : Rule) × (r among p) × NegationsHold i r × (q ≡ positive r))
  unfolding reduct_at
  among_reduced i = among-positive (NegationsHold i) (negations_hold i) (dec_negations i) p

  pub reduced_positive : (i : ℕ) → Positive (reduct_at i p)
  reduced_positive i q m = let (_, _, _, e) = (among_reduced i).0 m in (ap (λ z. z.nots) e, ap (λ z. z.not_nots) e)

  -- closed under them, by the rules of the program itself
  pub reduced_closed : (i x : ℕ) → Closed (reduct_at i p) x ↔ ((r : Rule) → r among p → NegationsHold i r → r.plain ⊆ x → r.head ⊆ x)
  reduced_closed i x = (
    λ c r m n. c (positive r) ((among_reduced i).1 (r, m, n, refl)),
    λ c q m. let (r, l, n, e) = (among_reduced i).0 m in subst (λ z. z.plain ⊆ x → z.head ⊆ x) (sym e) (c r l n),
  )

  module _ (single : SingleHeads p) where
    pub reduced_single : (i : ℕ) → SingleHeads (reduct_at i p)
    reduced_single i q m = let (r, k, _, e) = (among_reduced i).0 m in subst (λ z. size z.head ≤ 1) (sym e) (single r k)

    -- "stability can be judged by growing the least model of the reduced rules from the empty set and comparing, constraints included"
    pub stable_by_least_model : (i : ℕ) → Stable p i ↔ ((least_model (reduct_at i p) ≡ i) × Model (constraints_of (reduct_at i p)) i)
    stable_by_least_model i =
        let both = minimal_exactly (reduced_positive i) (reduced_single i) i in (
          λ st. both.1 (st.model, st.minimal),
          λ h. let (m, minimal) = both.0 h in record { model = m; minimal = minimal },
        )

    pub dec_by_least_model : (i : ℕ) → Decides (Stable p i) (by_least_model p i)
    unfolding by_least_model
    dec_by_least_model i =
        let q = reduct_at i p in
        dec_iff ((stable_by_least_model i).1, (stable_by_least_model i).0) (dec_and (dec_eq (least_model q) i) (dec_model (constraints_of q) i))

    -- "shown equal to the subset search"
    pub by_least_model_lem : (i : ℕ) → by_least_model p i ≡ stable p i
    by_least_model_lem i = dec_one (dec_by_least_model i) (dec_stable p i)

-- ---- settings: every guess
-- constraints have no head atom
pub add-single : (s : Setting) (cs : List Rule) → Constraints cs → SingleHeadSetting s → SingleHeadSetting (add cs s)
unfolding ones
add-single s cs empty single g r m =
    ⊎_elim (single g r) (λ k. let z : size r.head ≡ 0 = ap size (empty r k) in omega arith) ((among-append (s.program g)).0 m)

module _ (s : Setting) (single : SingleHeadSetting s) where
  -- "for every such sheet, guess and set", of the setting of a sheet or any other
  pub guess_and_set : (g i : ℕ) → by_least_model (s.program g) i ≡ stable (s.program g) i
  guess_and_set g i = by_least_model_lem (s.program g) (single g) i

  -- the belief sets of a guess are the sets that pass
  pub beliefs_by_least_model : (g : ℕ) → belief_sets s g ≡ keep (by_least_model (s.program g)) (up_to (2 ^ s.atoms))
  unfolding belief_sets stable_sets
  beliefs_by_least_model g = sym (λ j. keep (λ i. guess_and_set g i j) (up_to (2 ^ s.atoms)))

  -- "with [..] day masks": the day's constraints are among the constraints
  module _ (ins outs : ℕ) where
    pub under-single : SingleHeadSetting (under ins outs s)
    under-single = add-single s (day_constraints ins outs) (day_empty ins outs) single

    -- or the masks are tested beside it
    pub masks_then_least_model : (g i : ℕ) → allowed ins outs i && by_least_model (s.program g) i ≡ stable ((under ins outs s).program g) i
    masks_then_least_model g i = ap (λ b. allowed ins outs i && b) (guess_and_set g i) ∙ sym (stable-under ins outs (s.program g) i)

-- ---- sheets
pub dec_single_heads : (x : Sheet) → Decides (SingleHeadSheet x) (single_heads x)
dec_single_heads x = dec_every _ _ (epistemic_rules x) (λ r _. dec_le (size r.objective.head) 1)

module _ (x : Sheet) (single : single_heads x ≡ true) where
  -- the reduct keeps heads
  rules-single : SingleHeadSetting (unpaired x)
  rules-single g q m =
      let s = unpaired x in
      let (r, k, _, e) = (among-reduct s.atoms (holds_by s.negations g) (epistemic_rules x)).0 m in
      let head : q.head ≡ r.objective.head = ap (λ z. z.head) e ∙ (rule_reduces s.atoms (holds_by s.negations g) r).head in
      subst (λ h. size h ≤ 1) (sym head) ((dec_single_heads x).yes single r k)

  -- and the pairs have none
  pub sheet-single : SingleHeadSetting (setting x)
  sheet-single = add-single (unpaired x) (map opposed x.pairs) (opposed_empty x.pairs) rules-single

  -- "shown equal to the subset search for every such sheet, guess and set"
  pub for_every_guess_and_set : (g i : ℕ) → by_least_model ((setting x).program g) i ≡ stable ((setting x).program g) i
  for_every_guess_and_set = guess_and_set (setting x) sheet-single

  -- ", with or without day masks"
  pub with_day_masks : (ins outs g i : ℕ) → by_least_model ((under ins outs (setting x)).program g) i ≡ stable ((under ins outs (setting x)).program g) i
  with_day_masks ins outs = guess_and_set (under ins outs (setting x)) (under-single (setting x) sheet-single ins outs)

  -- the sheet at a minute (K1) is such a sheet too
  pub minute_single : (entries : List Entry) (minute : ℕ) → single_heads (at_minute entries minute x) ≡ true
  minute_single entries minute =
      is_true (dec_single_heads (at_minute entries minute x)) (λ r m.
      let (masks, k, e) = (among-map rule_of_masks (at_minute entries minute x).rules).0 m in
      (dec_single_heads x).yes single r ((among-map rule_of_masks x.rules).1 (masks, minute_among entries minute x masks k, e)))

-- ---- the sources of the calls
pub masks-source : (from : Returned Setting) → SingleHeadSource from → (ins outs : ℕ) → SingleHeadSource (under_masks from ins outs)
masks-source from single ins outs s e =
    let (t, d, _, same) = (masks_accepted from ins outs s).0 e in
    subst SingleHeadSetting (sym same) (under-single t (single t d) ins outs)

-- of the bytes of a sheet
module _ (sheet : List ℕ) (x : Sheet) (end : ℕ) (opens : opened sheet ≡ field x end) (single : single_heads x ≡ true) where
  same-sheet : {y : Sheet} {place : ℕ} → opened sheet ≡ field y place → x ≡ y
  same-sheet {y} {place} e = let both : field x end ≡ field y place = sym opens ∙ e in cc

  pub sheet-source : SingleHeadSource (of_sheet sheet)
  sheet-source s e =
      let (y, _, o, same) = (sheet_accepted sheet s).0 e in
      subst SingleHeadSetting (ap setting (same-sheet o) ∙ sym same) (sheet-single x single)

  pub day_source : (ins outs : ℕ) → SingleHeadSource (of_day sheet ins outs)
  day_source ins outs = masks-source (of_sheet sheet) sheet-source ins outs

  pub minute_source : (calendar : List ℕ) (minute : ℕ) → SingleHeadSource (of_minute sheet calendar minute)
  minute_source calendar minute s e =
      let (y, entries, both, _, same) = (minute_accepted sheet calendar minute s).0 e in
      subst SingleHeadSetting (ap (λ z. setting (at_minute entries minute z)) (same-sheet both.opens) ∙ sym same)
      (sheet-single (at_minute entries minute x) (minute_single x single entries minute))
