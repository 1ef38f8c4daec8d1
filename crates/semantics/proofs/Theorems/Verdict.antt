-- 000, Definitions 1 and 5: a guess is verified exactly when it is reduct-verifiable. Assumes nothing.
use Rattle.std.specs.Prelude.{ℕ, ◌^◌, ◌≤◌, ◌<◌, ◌≡◌, refl, Bool, true, false, not, ◌&&◌, List, ◌↔◌, eqb, length}
use Rattle.std.proofs.Common.{sym, ap, ◌∙◌, subst, true≢false, ⊎_elim, arith}
use Rattle.std.proofs.Math.Bool.{not-not}
use Rattle.sets.specs.Decides.{Decides, decided, dec_iff, dec_not, dec_and, dec_eq}
use Rattle.sets.specs.Lists.{◌among◌, null, dec_some, dec_member, dec_null}
use Rattle.sets.specs.Pairwise.{sorted_same}
use Rattle.sets.specs.Sets.{◌∈◌, Below, ◌∈?◌}
use Rattle.sets.specs.Members.{dec_∈, ∈_below, ∈_ext, ∈-⋂, ∈-⋃, ∈_set_of_dec, set_of_below}
use Rattle.semantics.specs.Definitions.Guesses.{Negation, not_known, may_be}
use Rattle.semantics.specs.Definitions.Setting.{Setting, k, negation}
use Rattle.semantics.specs.Definitions.Verdict.{belief_sets, known_in, possible_in, found_has, guess_found, Verdict, empty, other, verified, judge, verdict, is_empty, is_other, is_verified}
use Rattle.semantics.proofs.Theorems.Stable.{among_belief_sets, belief_sets_rising, belief_sets_few}
use Rattle.semantics.specs.Theorems.Verdict.{Satisfied, Verifiable, SetsOf, Verified}

-- ---- known is what is in every set of W, possible what is in some
module _ (s : Setting) (w : List ℕ) (within : Below s.atoms w) (first : (i : ℕ) × (i among w)) where
  pub known_is : (a : ℕ) → a ∈ known_in s w ↔ ((i : ℕ) → i among w → a ∈ i)
  known_is a = (
    λ m. ((∈-⋂ a s.atoms w).0 m).1,
    λ f. (∈-⋂ a s.atoms w).1 (∈_below (within first.0 first.1) (f first.0 first.1), f),
  )

  dec_satisfied : (e : Negation) → Decides (Satisfied w e) (found_has (known_in s w) (possible_in w) e)
  dec_satisfied (not_known a) = dec_iff (one_without, λ p m. p.2 ((known_is a).0 m p.0 p.1)) (dec_not (dec_∈ a (known_in s w)))
    where
      one_without : (a ∈ known_in s w → ⊥) → (i : ℕ) × (i among w) × (a ∈ i → ⊥)
      one_without n =
          ⊎_elim (λ p. p)
          (λ q. absurd (n ((known_is a).1 (λ i m. ⊎_elim (λ h. h) (λ h. absurd (q (i, m, h))) (decided (dec_∈ a i))))))
          (decided (dec_some (λ i. not (a ∈? i)) (λ i. a ∈ i → ⊥) w (λ i _. dec_not (dec_∈ a i))))
  dec_satisfied (may_be a) = dec_iff (∈-⋃ a w) (dec_∈ a (possible_in w))

  -- the guess found has exactly the negations that W satisfies
  pub found_exact : (j : ℕ) → j < k s → (j ∈ guess_found s w) ↔ Satisfied w (negation s j)
  unfolding guess_found
  found_exact j l =
      let m = ∈_set_of_dec (λ j. Satisfied w (negation s j)) _ (λ j. dec_satisfied (negation s j)) (k s) in
      (λ q. (m.0 q).1, λ q. m.1 (l, q))

pub found_below : (s : Setting) (w : List ℕ) → guess_found s w < 2 ^ k s
unfolding guess_found
found_below s w = set_of_below _ (k s)

-- ---- the three verdicts, by whether W is empty and whether the guess found is the one given
module _ (f n p m : ℕ) where
  tests : (none differs : Bool) → (is_empty (judge none differs f n p m) ≡ none) × (is_verified (judge none differs f n p m) ≡ not none && not differs) × (is_other (judge none differs f n p m) ≡ not none && differs)
  tests true differs = (refl, refl, refl)
  tests false true = (refl, refl, refl)
  tests false false = (refl, refl, refl)

  says : (none differs : Bool) → (is_verified (judge none differs f n p m) ≡ true → judge none differs f n p m ≡ verified n p m) × (is_other (judge none differs f n p m) ≡ true → judge none differs f n p m ≡ other f)
  says true differs = ((λ e. absurd (true≢false (sym e))), λ e. absurd (true≢false (sym e)))
  says false true = ((λ e. absurd (true≢false (sym e))), λ e. refl)
  says false false = ((λ e. refl), λ e. absurd (true≢false (sym e)))

module _ (s : Setting) (g : ℕ) where
  pub belief_below : Below s.atoms (belief_sets s g)
  belief_below i m = ((among_belief_sets s g).0 m).0

  -- a reduct-verifiable guess is the guess found
  pub verifiable_found : g < 2 ^ k s → Verifiable s g → guess_found s (belief_sets s g) ≡ g
  verifiable_found l v =
      let w = belief_sets s g in
      let x = found_exact s w belief_below v.non_empty in
      ∈_ext (guess_found s w) g (λ j. (
        λ m. let h = ∈_below (found_below s w) m in (v.exact j h).1 ((x j h).0 m),
        λ m. let h = ∈_below l m in (x j h).1 ((v.exact j h).0 m),
      ))

  -- and the guess found is reduct-verifiable
  found_verifiable : (i : ℕ) × (i among belief_sets s g) → guess_found s (belief_sets s g) ≡ g → Verifiable s g
  found_verifiable first e = record {
    non_empty = first;
    exact = λ j h. subst (λ x. (j ∈ x) ↔ Satisfied (belief_sets s g) (negation s j)) e (found_exact s (belief_sets s g) belief_below first j h);
  }

  -- 000, Definition 5: 'verified' exactly when reduct-verifiable
  pub definition_5 : g < 2 ^ k s → Decides (Verifiable s g) (is_verified (verdict s g))
  unfolding verdict
  definition_5 l =
      let w = belief_sets s g in
      rw ((tests _ _ _ _ (null w) (not (eqb (guess_found s w) g))).1, not-not (eqb (guess_found s w) g))
      (dec_iff (
        λ p. found_verifiable p.0 p.1,
        λ v. (v.non_empty, verifiable_found l v),
      ) (dec_and (dec_member w) (dec_eq (guess_found s w) g)))

  -- and then it says what is known, what is possible, and how many belief sets there are
  pub verified_verdict : is_verified (verdict s g) ≡ true → verdict s g ≡ verified (known_in s (belief_sets s g)) (possible_in (belief_sets s g)) (length (belief_sets s g))
  unfolding verdict
  verified_verdict = (says _ _ _ _ (null (belief_sets s g)) (not (eqb (guess_found s (belief_sets s g)) g))).0

  -- and these are no more than there are sets of atoms
  pub verified_few : {known possible sets : ℕ} → verdict s g ≡ verified known possible sets → sets ≤ 2 ^ s.atoms
  verified_few {known} {possible} {sets} e =
      let d : verified known possible sets ≡ verified _ _ (length (belief_sets s g)) = sym e ∙ verified_verdict (ap is_verified e) in
      let n : sets ≡ length (belief_sets s g) = cc in
      subst (λ m. m ≤ 2 ^ s.atoms) (sym n) (belief_sets_few s g)

  -- 'empty' exactly when no set is stable
  pub dec_empty : Decides ((i : ℕ) × (i among belief_sets s g) → ⊥) (is_empty (verdict s g))
  unfolding verdict
  dec_empty =
      let w = belief_sets s g in
      rw (tests _ _ _ _ (null w) (not (eqb (guess_found s w) g))).0 (dec_null w)

  pub empty_verdict : is_empty (verdict s g) ≡ true → verdict s g ≡ empty
  empty_verdict = go (verdict s g)
    where
      go : (v : Verdict) → is_empty v ≡ true → v ≡ empty
      go empty e = refl
      go (other found) e = absurd (true≢false (sym e))
      go (verified known possible sets) e = absurd (true≢false (sym e))

  -- 'other' exactly when some set is stable and the guess found differs; the verdict then names it
  pub dec_other : Decides (((i : ℕ) × (i among belief_sets s g)) × (guess_found s (belief_sets s g) ≡ g → ⊥)) (is_other (verdict s g))
  unfolding verdict
  dec_other =
      let w = belief_sets s g in
      rw (tests _ _ _ _ (null w) (not (eqb (guess_found s w) g))).2 (dec_and (dec_member w) (dec_not (dec_eq (guess_found s w) g)))

  -- that is, when some set is stable and the guess is not reduct-verifiable
  pub dec_unverifiable : g < 2 ^ k s → Decides (((i : ℕ) × (i among belief_sets s g)) × (Verifiable s g → ⊥)) (is_other (verdict s g))
  dec_unverifiable l = dec_iff (λ p. (p.0, λ v. p.1 (verifiable_found l v)), λ p. (p.0, λ e. p.1 (found_verifiable p.0 e))) dec_other

  pub other_verdict : is_other (verdict s g) ≡ true → verdict s g ≡ other (guess_found s (belief_sets s g))
  unfolding verdict
  other_verdict = (says _ _ _ _ (null (belief_sets s g)) (not (eqb (guess_found s (belief_sets s g)) g))).1

-- ---- what a verdict says
pub sets_of : (s : Setting) (g : ℕ) → SetsOf s g (belief_sets s g)
sets_of s g = record { stable_exactly = among_belief_sets s g; rising = belief_sets_rising s g }

-- no other list is
pub sets-only : {s : Setting} {g : ℕ} {w : List ℕ} → SetsOf s g w → w ≡ belief_sets s g
sets-only {s} {g} {w} o =
    let b = sets_of s g in
    sorted_same ◌<◌ (λ i j l m. omega arith) w (belief_sets s g) o.rising b.rising (λ i. (
      λ m. b.stable_exactly.1 (o.stable_exactly.0 m),
      λ m. o.stable_exactly.1 (b.stable_exactly.0 m),
    ))

pub verified_means : (s : Setting) (g : ℕ) {known possible sets : ℕ} → g < 2 ^ k s → verdict s g ≡ verified known possible sets → Verified s g known possible sets
verified_means s g l d =
    let t : is_verified (verdict s g) ≡ true = ap is_verified d in
    let v = (definition_5 s g l).yes t in
    let (a, b, c) = values (sym d ∙ verified_verdict s g t) in
    record {
      verifiable = v;
      models = sets_of s g;
      known_exactly = λ x. subst (λ z. x ∈ z ↔ ((i : ℕ) → i among belief_sets s g → x ∈ i)) (sym a) (known_is s (belief_sets s g) (belief_below s g) v.non_empty x);
      possible_exactly = λ x. subst (λ z. x ∈ z ↔ ((i : ℕ) × (i among belief_sets s g) × (x ∈ i))) (sym b) (∈-⋃ x (belief_sets s g));
      number = c;
    }
  where
    values : {n p m n' p' m' : ℕ} → verified n p m ≡ verified n' p' m' → (n ≡ n') × (p ≡ p') × (m ≡ m')
    values e = (cc, cc, cc)
