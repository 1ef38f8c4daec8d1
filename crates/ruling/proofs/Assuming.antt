-- What a guess assumes, lane by lane: a negation is in the guess exactly when its number is. Assumes nothing.
use Prim.Native.Nat.{ℕ, ◌+◌, ◌*◌, ◌<◌}
use mathlib.Core.Path.{◌≡◌, sym, ap, subst}
use mathlib.Core.Bool.{Bool}
use mathlib.Core.List.{List}
use mathlib.Core.Logic.{◌↔◌, ⊎_elim}
use native.Mathlib.Omega.{arith}
use Rattle.sets.specs.Decides.{Decides, unequal, is_true, decided, dec_iff, dec_not, dec_eq}
use Rattle.sets.specs.Lists.{get_or-among}
use Rattle.sets.specs.Sets.{◌∈◌, Meets, ◌∖◌, ∅, full, single}
use Rattle.sets.specs.Members.{dec_∈, ∈-∅, ∈-∖, ∈-full, ∈-single, ∈-set_of}
use Rattle.semantics.specs.Definitions.Guesses.{Negation, not_known, may_be, assumed}
use Rattle.semantics.specs.Definitions.Setting.{k, negation}
use Rattle.semantics.specs.Definitions.Verdict.{found_has}
use Rattle.semantics.specs.Theorems.Negations.{atom_of}
use Rattle.semantics.proofs.Theorems.Negations.{definition_3, dec_assumed}
use Rattle.semantics.specs.Theorems.Literals.{Assumes}
use Rattle.guess.specs.declared.outline.Outline.{Outline}
use Rattle.guess.specs.Programs.{unmasked_in, Outlines}
use Rattle.guess.specs.Negations.{found_by}
use Rattle.guess.specs.Numbered.{rules_of, found_is}
use Rattle.ruling.specs.declared.assumed.Numbers.{Numbers}
use Rattle.ruling.specs.Assumed.{NumbersOf, AssumedIn}
use Rattle.ruling.proofs.Sides.{Assumed}

-- the guess found where all atoms but a are known, and none possible, has "not K a" alone
has-unknown : (n a : ℕ) (e : Negation) → atom_of e < n → Decides (e ≡ not_known a) (found_has (full n ∖ single a) ∅ e)
has-unknown n a (not_known c) l =
    dec_iff (
      λ h. ⊎_elim (ap not_known) (λ q. absurd (h ((∈-∖ c (full n) (single a)).1 ((∈-full c n).1 l, λ y. q ((∈-single c a).0 y))))) (decided (dec_eq c a)),
      λ e m. let q : c ≡ a = ap atom_of e in ((∈-∖ c (full n) (single a)).0 m).1 ((∈-single c a).1 q),
    ) (dec_not (dec_∈ c (full n ∖ single a)))
has-unknown n a (may_be c) l = dec_iff (λ h. absurd (∈-∅ h), λ e. unequal cc) (dec_∈ c ∅)

-- where all atoms are known and a alone is possible, it has "M a" alone
has_maybe : (n a : ℕ) (e : Negation) → atom_of e < n → Decides (e ≡ may_be a) (found_has (full n) (single a) e)
has_maybe n a (not_known c) l = dec_iff (λ h. absurd (h ((∈-full c n).1 l)), λ e. unequal cc) (dec_not (dec_∈ c (full n)))
has_maybe n a (may_be c) l = dec_iff (λ h. ap may_be ((∈-single c a).0 h), λ e. (∈-single c a).1 (ap atom_of e)) (dec_∈ c (single a))

module _ {x : Outline} {words : List ℕ} (o : Outlines x words) where
  -- negation j is on an atom of the sheet
  atom_below : (j : ℕ) → j < k (unmasked_in x words) → atom_of (negation (unmasked_in x words) j) < x.atoms
  atom_below j l = ((definition_3 (rules_of x words) x.atoms).0 (get_or-among (unmasked_in x words).negations (not_known 0) j l)).0

  -- a guess that has a number of the set found assumes the negation that is found
  module _ (known possible g : ℕ) (e : Negation)
      (only : (j : ℕ) → j < k (unmasked_in x words) → Decides (negation (unmasked_in x words) j ≡ e) (found_has known possible (negation (unmasked_in x words) j))) where
    abbrev has : ℕ → Bool
    has j = found_has known possible (negation (unmasked_in x words) j)

    meets-found : Meets (found_by x known possible) g ↔ Assumes x.atoms (rules_of x words) g e
    meets-found = (
      λ m.
          let (l, h) = (∈-set_of has m.common (k (unmasked_in x words))).0 (subst (λ z. m.common ∈ z) (found_is o known possible) m.left) in
          is_true d (m.common, l, (m.right, (only m.common l).yes h)),
      λ a.
          let (j, l, q) = d.yes a in
          record { common = j; left = subst (λ z. j ∈ z) (sym (found_is o known possible)) ((∈-set_of has j (k (unmasked_in x words))).1 (l, is_true (only j l) q.1)); right = q.0 },
    )
      where
        d : Decides ((j : ℕ) × (j < k (unmasked_in x words)) × ((j ∈ g) × (negation (unmasked_in x words) j ≡ e))) (assumed (unmasked_in x words).negations g e)
        d = dec_assumed (unmasked_in x words).negations g e

  pub lane_assumes : {numbers : Numbers} {u p : List ℕ} {w b : ℕ} → NumbersOf x x.atoms numbers → AssumedIn numbers.unknown w 16 u → AssumedIn numbers.maybe w 16 p → b < 64
      → Assumed x words (64 * w + b) b u p
  lane_assumes {w = w} {b = b} s v m l = record {
    unknown = λ {a} h.
        let f = (v.word (up h)).lane l in
        let e = s.unknown h in
        let q = meets-found (full x.atoms ∖ single a) ∅ (64 * w + b) (not_known a) (λ j i. has-unknown x.atoms a _ (atom_below j i)) in
        (λ y. q.0 (subst (λ z. Meets z (64 * w + b)) e (f.0 y)), λ y. f.1 (subst (λ z. Meets z (64 * w + b)) (sym e) (q.1 y)));
    maybe = λ {a} h.
        let f = (m.word (up h)).lane l in
        let e = s.maybe h in
        let q = meets-found (full x.atoms) (single a) (64 * w + b) (may_be a) (λ j i. has_maybe x.atoms a _ (atom_below j i)) in
        (λ y. q.0 (subst (λ z. Meets z (64 * w + b)) e (f.0 y)), λ y. f.1 (subst (λ z. Meets z (64 * w + b)) (sym e) (q.1 y)));
  }
    where
      up : {a : ℕ} → a < x.atoms → a < 16
      up h = omega (arith, o.few_atoms)
