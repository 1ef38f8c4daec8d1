-- A guess clashes with T and F where it lacks a negation that they ask for or has one that they do not allow. Assumes nothing.
use Prim.Native.Nat.{ℕ, ◌^◌, ◌<◌}
use mathlib.Core.Path.{◌≡◌, sym, ap, ◌∙◌, subst}
use mathlib.Core.Bool.{Bool, not, ◌&&◌, not-not}
use mathlib.Core.List.{List}
use mathlib.Core.Logic.{◌↔◌, inl, inr, ⊎_elim}
use lib.ListN.{length}
use Rattle.sets.specs.Decides.{Decides, decided, dec_one, dec_iff, dec_not, dec_and}
use Rattle.sets.specs.Lists.{◌among◌, only, up_to, all_flat, among-append, among-only, among-up_to, get_or-among, dec_any}
use Rattle.sets.specs.Sets.{◌∈◌, ◌⊆◌, ◌∈?◌, ◌⊆?◌, ◌∖◌, full}
use Rattle.sets.specs.Members.{dec_∈, dec_⊆, ∈_below, ∈-∖, ∈-full, ∈_set_of_dec}
use Rattle.semantics.specs.Definitions.Guesses.{Negation, not_known, may_be, numbered}
use Rattle.semantics.specs.Definitions.Verdict.{found_has}
use Rattle.semantics.specs.Definitions.Propagation.{Pair}
use Rattle.semantics.specs.Theorems.Negations.{atom_of}
use Rattle.semantics.specs.Theorems.Contradicted.{Clash}
use Rattle.semantics.proofs.Theorems.Contradicted.{dec_clash}
use Rattle.guess.specs.declared.outline.Outline.{Outline}
use Rattle.guess.specs.Negations.{negations_in, negations_by, found_by}
use Rattle.propagation.specs.Pairs.{Clashes}

-- "the guess found has "not K a" where a is not known and "M a" where a is possible"
abbrev Found : (known possible : ℕ) → Negation → Type 0
Found known possible (not_known a) = a ∈ known → ⊥
Found known possible (may_be a) = a ∈ possible

dec_found : (known possible : ℕ) (e : Negation) → Decides (Found known possible e) (found_has known possible e)
dec_found known possible (not_known a) = dec_not (dec_∈ a known)
dec_found known possible (may_be a) = dec_∈ a possible

-- each negation is on an atom
on-atoms : (n k m : ℕ) (e : Negation) → e among negations_in n k m → atom_of e < n
unfolding negations_in
on-atoms n k m = all_flat (λ e. atom_of e < n) _ (up_to n) (λ a h e q.
    let l = (among-up_to n).0 h in
    ⊎_elim (λ o. subst (λ z. atom_of z < n) (sym ((among-only (a ∈? k)).0 o).1) l) (λ o. subst (λ z. atom_of z < n) (sym ((among-only (a ∈? m)).0 o).1) l)
    ((among-append (only (a ∈? k) (not_known a))).0 q))

-- the atoms below n that are not in F
abbrev outside : ℕ → Pair → ℕ
outside n y = full n ∖ y.F

-- no clash: the negation is in the guess where T and F ask for it, and only where they allow it
allowed : (n j g : ℕ) (y : Pair) (e : Negation) → atom_of e < n
    → ((Found (outside n y) y.T e → j ∈ g) × (j ∈ g → Found y.T (outside n y) e)) ↔ (Clash j g e y → ⊥)
allowed n j g y (not_known a) l = (
  λ p. ⊎_elim (λ q. p.1 q.0 q.1) (λ q. q.0 (p.0 (λ o. ((∈-∖ a (full n) y.F).0 o).1 q.1))),
  λ c. (
    λ o. ⊎_elim (λ m. m) (λ m. absurd (o ((∈-∖ a (full n) y.F).1 ((∈-full a n).1 l, λ f. c (inr (m, f)))))) (decided (dec_∈ j g)),
    λ m t. c (inl (m, t)),
  ),
)
allowed n j g y (may_be a) l = (
  λ p. ⊎_elim (λ q. ((∈-∖ a (full n) y.F).0 (p.1 q.0)).1 q.1) (λ q. q.0 (p.0 q.1)),
  λ c. (
    λ t. ⊎_elim (λ m. m) (λ m. absurd (c (inr (m, t)))) (decided (dec_∈ j g)),
    λ m. (∈-∖ a (full n) y.F).1 ((∈-full a n).1 l, λ f. c (inl (m, f))),
  ),
)

module _ (x : Outline) (g : ℕ) (y : Pair) where
  abbrev es : List Negation
  es = negations_by x

  abbrev out : ℕ
  out = outside x.atoms y

  ∈-found : (known possible : ℕ) {j : ℕ} → j ∈ found_by x known possible ↔ ((j < length es) × Found known possible (numbered es j))
  ∈-found known possible = ∈_set_of_dec (λ j. Found known possible (numbered es j)) _ (λ j. dec_found known possible (numbered es j)) (length es)

  -- the negations that the guess has to have, and those that it may have
  abbrev least : ℕ
  least = found_by x out y.T

  abbrev most : ℕ
  most = found_by x y.T out

  at_each : (j : ℕ) → j < length es
      → ((Found out y.T (numbered es j) → j ∈ g) × (j ∈ g → Found y.T out (numbered es j))) ↔ (Clash j g (numbered es j) y → ⊥)
  at_each j l = allowed x.atoms j g y (numbered es j) (on-atoms x.atoms x.k_atoms x.m_atoms _ (get_or-among es (not_known 0) j l))

  between : g < 2 ^ length es → ((least ⊆ g) × (g ⊆ most)) ↔ (Clashes es g y → ⊥)
  between h = (
    λ p q. let (j, l, c) = q in (at_each j l).0 ((λ f. p.0.into ((∈-found out y.T).1 (l, f))), λ m. ((∈-found y.T out).0 (p.1.into m)).1) c,
    λ n. (
      record { into = λ {a = j} m. let (l, f) = (∈-found out y.T).0 m in ((at_each j l).1 (λ c. n (j, l, c))).0 f },
      record { into = λ {a = j} m. let l = ∈_below h m in (∈-found y.T out).1 (l, ((at_each j l).1 (λ c. n (j, l, c))).1 m) },
    ),
  )

  dec_between : g < 2 ^ length es → Decides (Clashes es g y) (not (least ⊆? g && g ⊆? most))
  dec_between h =
      let d = dec_any (λ j. Clash j g (numbered es j) y) _ (length es) (λ j _. dec_clash j g (numbered es j) y) in
      let e = dec_one (dec_iff (between h) (dec_and (dec_⊆ least g) (dec_⊆ g most))) (dec_not d) in
      subst (Decides (Clashes es g y)) (sym (ap not e ∙ not-not _)) d

  -- as the code finds them
  pub dec_clashes : g < 2 ^ length es → {all o l m : ℕ} {b b' : Bool} → all ≡ full x.atoms → o ≡ all ∖ y.F → l ≡ found_by x o y.T → m ≡ found_by x y.T o
      → b ≡ (l ⊆? g) → b' ≡ (g ⊆? m) → Decides (Clashes es g y) (not (b && b'))
  dec_clashes h is_all is-out is-least is-most above below = rw (above, below, is-least, is-most, is-out, is_all) (dec_between h)
