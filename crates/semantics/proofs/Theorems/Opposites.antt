-- Document 02, K7: "A pair acts as a constraint with both atoms plain [..] in every definition including ruling out." Of any sheet and guess: the
-- belief sets are those of the sheet without its pairs that have not both atoms of a pair; T and F don't move; and the guess is contradicted where
-- it was, or where both atoms of a pair are in T. Assumes nothing.
use Rattle.std.specs.Prelude.{ℕ, ◌^◌, ◌<◌, ◌≡◌, refl, true, ◌||◌, List, [], ◌∷◌, ◌++◌, map, ◌↔◌, ◌⊎◌, length}
use Rattle.std.proofs.Common.{sym, ap, ◌∙◌, subst, inl, inr, ⊎_elim, arith}
use Rattle.std.proofs.lemmas.List.{map-append}
use Rattle.sets.specs.Decides.{Decides, is_true, dec_or, dec_self}
use Rattle.sets.specs.Lists.{◌among◌, here, later, some, among-flat, among-map, among-keep, dec_some}
use Rattle.sets.specs.Sets.{◌∈◌, ◌⊆◌, Meets, ∅, single, Below, AllBelow}
use Rattle.sets.specs.Members.{∈-∅, ∅-⊆, ∈-single, ∈-∪, ∪-⊆, below_power}
use Rattle.semantics.specs.Definitions.Sheet.{Opposites, Sheet, atoms, with_pairs, rule_of_masks, epistemic_rules, atoms_of}
use Rattle.semantics.specs.Definitions.Setting.{setting_of, add, k}
use Rattle.semantics.specs.Definitions.Check.{opposed, unpaired, setting, opened, of_sheet}
use Rattle.semantics.specs.Definitions.Stable.{is_model}
use Rattle.semantics.specs.Definitions.Verdict.{belief_sets}
use Rattle.semantics.specs.Definitions.Propagation.{Pair, sure, contradicted}
use Rattle.semantics.specs.Definitions.Day.{under}
use Rattle.semantics.specs.Definitions.Reading.{field}
use Rattle.semantics.specs.Definitions.Returned.{accepted}
use Rattle.semantics.specs.Words.{eight_masks, pairs_written}
use Rattle.semantics.specs.Theorems.Stable.{Model}
use Rattle.semantics.proofs.Theorems.Stable.{dec_model}
use Rattle.semantics.proofs.Theorems.Closure.{dec_sure}
use Rattle.semantics.specs.Theorems.Contradicted.{pair_of}
use Rattle.semantics.specs.Theorems.Constraints.{Constraints, SureConstraint}
use Rattle.semantics.proofs.Theorems.Constraints.{add_none, belief_add, propagated-add, contradicted-add}
use Rattle.semantics.proofs.Theorems.Written.{setting-written, ∅_below, masks_below}
use Rattle.semantics.proofs.Theorems.Pairs.{none_disjoint}
use Rattle.semantics.specs.Theorems.Layout.{sheet_bytes, sheet_of, Fits}
use Rattle.semantics.proofs.Theorems.Layout.{accepted_fits}
use Rattle.semantics.proofs.Theorems.Fitting.{fits_accepted}
use Rattle.semantics.proofs.Theorems.Source.{sheet_accepted}
use Rattle.semantics.specs.Theorems.WorldView.{WorldView}
use Rattle.semantics.specs.Theorems.ModalReduct.{WorldViewSet}
use Rattle.semantics.proofs.Theorems.ModalReduct.{definition_4}
use Rattle.semantics.proofs.Theorems.Day.{among-under, contradicted-under}
use Rattle.semantics.specs.Theorems.Opposites.{BothIn}
use Rattle.semantics.specs.Theorems.Opposites as defined

-- ---- the constraint that a pair is
pub both_plain : (p : Opposites) (i : ℕ) → (opposed p).plain ⊆ i ↔ BothIn p i
both_plain p i =
    let both = ∪-⊆ (single p.first) (single p.second) i in (
      λ w. let (f, s) = both.0 w in (f.into ((∈-single p.first p.first).1 refl), s.into ((∈-single p.second p.second).1 refl)),
      λ (f, s). both.1 (
        record { into = λ {a} m. subst (λ z. z ∈ i) (sym ((∈-single a p.first).0 m)) f },
        record { into = λ {a} m. subst (λ z. z ∈ i) (sym ((∈-single a p.second).0 m)) s },
      ),
    )

module _ (pairs : List Opposites) where
  pub opposed_empty : Constraints (map opposed pairs)
  opposed_empty r m = let (p, _, e) = (among-map opposed pairs).0 m in ap (λ z. z.head) e

  -- not both atoms of one of the pairs
  abbrev NeverBoth : ℕ → Type 0
  NeverBoth = defined.NeverBoth pairs

  pub opposed_model : (i : ℕ) → Model (map opposed pairs) i ↔ NeverBoth i
  opposed_model i = (
    λ m p k b. ∈-∅ (m (opposed p) ((among-map opposed pairs).1 (p, k, refl)) ((both_plain p i).1 b, none)).left,
    λ f r k (plain, _).
        let (p, l, e) = (among-map opposed pairs).0 k in
        absurd (f p l ((both_plain p i).0 (subst (λ z. z.plain ⊆ i) e plain))),
  )
    where
      none : (Meets ∅ i → ⊥) × (∅ ⊆ i)
      none = (λ m. ∈-∅ m.left, ∅-⊆)

  -- such a constraint is sure exactly where both atoms are in T
  abbrev BothSure : Pair → Type 0
  BothSure = defined.BothSure pairs

  pub opposed-sure : (x : Pair) → SureConstraint (map opposed pairs) x ↔ BothSure x
  opposed-sure x = (
    λ (r, m, (plain, _, _)).
        let (p, l, e) = (among-map opposed pairs).0 m in
        (p, l, (both_plain p x.T).0 (subst (λ z. z.plain ⊆ x.T) e plain)),
    λ (p, l, b). (opposed p, (among-map opposed pairs).1 (p, l, refl), ((both_plain p x.T).1 b, ∅-⊆, ∅-⊆)),
  )

-- its masks have atoms of the sheet only
pub opposed_below : (n : ℕ) (pairs : List Opposites) → ((a : ℕ) → a among atoms_of pairs → a < n) → AllBelow n (pairs_written pairs)
unfolding atoms_of
opposed_below n pairs below r m =
    let (c, k, e) = (among-map eight_masks (map opposed pairs)).0 m in
    let (p, l, d) = (among-map opposed pairs).0 k in
    let atom : (a : ℕ) → a among (p.first ∷ p.second ∷ []) → a < n = λ a h. below a ((among-flat (λ q. q.first ∷ q.second ∷ []) pairs).1 (p, l, h)) in
    let plain : (opposed p).plain < 2 ^ n = (below_power n (opposed p).plain).1 (λ a h.
    ⊎_elim (λ o. subst (λ z. z < n) (sym ((∈-single a p.first).0 o)) (atom p.first here))
    (λ o. subst (λ z. z < n) (sym ((∈-single a p.second).0 o)) (atom p.second (later here)))
    ((∈-∪ a (single p.first) (single p.second)).0 h)) in
    subst (Below n) (sym (e ∙ ap eight_masks d)) (masks_below n (opposed p) (∅_below n) plain (∅_below n) (∅_below n))

-- ---- of a sheet
-- without pairs, what document 01 says of it
pub no_pairs : (x : Sheet) → x.pairs ≡ [] → setting x ≡ unpaired x
no_pairs x e = ap (λ ps. add (map opposed ps) (unpaired x)) e ∙ add_none (unpaired x)

-- the sheet with pairs has the setting of the sheet without them with the constraints added
pub pairs-added : (x : Sheet) → setting x ≡ add (map opposed x.pairs) (setting (with_pairs x []))
pairs-added x = ap (add (map opposed x.pairs)) (sym (add_none (unpaired x)))

-- of an accepted sheet: the bytes of its names and rules alone have that setting
pub unpaired-bytes : (s : List ℕ) (x : Sheet) (end : ℕ) → opened s ≡ field x end → of_sheet (sheet_bytes x.names x.rules []) ≡ accepted (unpaired x)
unpaired-bytes s x end e =
    let f = accepted_fits s x end e in
    let says = sheet_of x.names x.rules [] in
    let bytes = sheet_bytes x.names x.rules [] in
    let fits : Fits x.names x.rules [] = record { front_fits = f.front_fits; few_pairs = omega arith; disjoint = none_disjoint (atoms x) } in
    (sheet_accepted bytes (unpaired x)).1 (says, length bytes, fits_accepted x.names x.rules [] fits, sym (add_none (unpaired x)))

-- with the pairs among the rules the setting is the same
pub pairs_as_rules : (x : Sheet) → setting_of (atoms x) (map rule_of_masks (x.rules ++ pairs_written x.pairs)) ≡ setting x
pairs_as_rules x =
    ap (setting_of (atoms x)) (map-append rule_of_masks x.rules (pairs_written x.pairs))
    ∙ setting-written (atoms x) (epistemic_rules x) (map opposed x.pairs)

module _ (x : Sheet) (g : ℕ) where
  -- of the belief sets those without both atoms of a pair
  pub believed_exactly : {i : ℕ} → i among belief_sets (setting x) g ↔ ((i among belief_sets (unpaired x) g) × NeverBoth x.pairs i)
  believed_exactly {i} =
      let cs = map opposed x.pairs in
      let same = belief_add cs (opposed_empty x.pairs) (unpaired x) g in
      let kept = among-keep (is_model cs) (belief_sets (unpaired x) g) in (
        λ m. let (k, t) = kept.0 (subst (λ l. i among l) same m) in (k, (opposed_model x.pairs i).0 ((dec_model cs i).yes t)),
        λ (k, f). subst (λ l. i among l) (sym same) (kept.1 (k, is_true (dec_model cs i) ((opposed_model x.pairs i).1 f))),
      )

  -- no belief set has both atoms of a pair
  pub never_both : {i : ℕ} → i among belief_sets (setting x) g → NeverBoth x.pairs i
  never_both m = (believed_exactly.0 m).1

  -- nor under the day's masks
  pub never_both_under : (ins outs : ℕ) {i : ℕ} → i among belief_sets (under ins outs (setting x)) g → NeverBoth x.pairs i
  never_both_under ins outs m = never_both ((among-under ins outs (setting x) g).0 m).0

  -- T and F are those of before
  pub same_closure : pair_of (unpaired x) g ≡ pair_of (setting x) g
  same_closure = propagated-add (map opposed x.pairs) (opposed_empty x.pairs) (atoms x) ((unpaired x).program g)

  -- contradicted: as before, or both atoms of a pair are in T
  pub contradicted_exactly : (contradicted (setting x) g ≡ true) ↔ ((contradicted (unpaired x) g ≡ true) ⊎ BothSure x.pairs (pair_of (setting x) g))
  contradicted_exactly =
      let cs = map opposed x.pairs in
      let s = unpaired x in
      let before : Decides ((contradicted s g ≡ true) ⊎ SureConstraint cs (pair_of s g)) (contradicted s g || some (sure (pair_of s g)) cs) =
      dec_or (dec_self (contradicted s g)) (dec_some _ _ cs (λ r _. dec_sure (pair_of s g) r)) in
      let d = subst (Decides _) (sym (contradicted-add cs (opposed_empty x.pairs) s g)) before in
      let sure = opposed-sure x.pairs (pair_of s g) in (
        λ e. ⊎_elim inl (λ q. inr (subst (BothSure x.pairs) same_closure (sure.0 q))) (d.yes e),
        λ q. is_true d (⊎_elim inl (λ b. inr (sure.1 (subst (BothSure x.pairs) (sym same_closure) b))) q),
      )

  -- a guess with both atoms of a pair in T is contradicted
  pub both_in_t : (p : Opposites) → p among x.pairs → BothIn p (pair_of (setting x) g).T → contradicted (setting x) g ≡ true
  both_in_t p m b = contradicted_exactly.1 (inr (p, m, b))

  -- nor is it less under the day's masks
  pub both_in_t_under : (ins outs : ℕ) (p : Opposites) → p among x.pairs → BothIn p (pair_of (setting x) g).T → contradicted (under ins outs (setting x)) g ≡ true
  both_in_t_under ins outs p m b = contradicted-under ins outs (setting x) g ∙ rw (both_in_t p m b)

-- the world views of 000, Definition 4, of a sheet's rules and pairs: exactly the belief sets of the world views of its setting
pub definition_4_pairs : (x : Sheet) (w : List ℕ) → WorldViewSet (atoms x) (map rule_of_masks (x.rules ++ pairs_written x.pairs)) w
    ↔ ((g : ℕ) × (g < 2 ^ k (setting x)) × WorldView (setting x) g × (belief_sets (setting x) g ≡ w))
definition_4_pairs x w =
    let rules = map rule_of_masks (x.rules ++ pairs_written x.pairs) in
    subst (λ s. WorldViewSet (atoms x) rules w ↔ ((g : ℕ) × (g < 2 ^ k s) × WorldView s g × (belief_sets s g ≡ w))) (pairs_as_rules x) (definition_4 (atoms x) rules w)
