-- What a good pair is, that the reading's test decides it, and that pairs are good one after the other exactly when their atoms are atoms of
-- the sheet and no atom stands twice among them. Assumes nothing.
use Prim.Native.Nat.{ℕ, zero, suc, ◌+◌, ◌*◌, ◌≤◌, ◌<◌}
use Rattle.std.specs.Prelude.{◌≡◌, List, [], ◌∷◌, ◌++◌, eqb, length, get_or, drop}
use Rattle.std.proofs.Math.Path.{refl, sym, ap, ap₂}
use Rattle.std.proofs.Common.{◌∙◌, subst, append_assoc, inr, length-take, length-drop, get_or-take, get_or-drop}
use native.Mathlib.Omega.{arith}
use Rattle.sets.specs.Decides.{Decides, dec_and, dec_not, dec_eq, dec_lt, dec_iff}
use Rattle.sets.specs.Lists.{◌among◌, here, later, nowhere, all_append, all_cons, some, flat, up_to, flat_snoc, flat_append, get_or-among, among_place, among-append, dec_some}
use Rattle.sets.specs.Pairwise.{Distinct, pairwise_append, pairwise_across, pairwise_suffix}
use Rattle.semantics.specs.Definitions.Reading.{field, times}
use Rattle.semantics.specs.Definitions.Sheet.{Opposites, atoms_of, good_pair, byte_at, pair_from, pair_at}
use Rattle.semantics.specs.Fields.{bytes_from, pairs_from}
use Rattle.semantics.specs.Theorems.Reading.{times_field}
use Rattle.semantics.proofs.Theorems.Fields.{bytes_from-more, pairs_from-more, pair_field}
use Rattle.semantics.specs.Theorems.Pairs.{GoodPair, Disjoint}

pub dec_member : (a : ℕ) (l : List ℕ) → Decides (a among l) (some (eqb a) l)
dec_member a l = dec_iff (λ (b, m, e). subst (λ z. z among l) (sym e) m, λ m. (a, m, refl)) (dec_some (eqb a) (λ b. a ≡ b) l (λ b _. dec_eq a b))

pub dec_good_pair : (atoms : ℕ) (earlier : List Opposites) (p : Opposites) → Decides (GoodPair atoms earlier p) (good_pair atoms earlier p)
dec_good_pair atoms earlier p =
    dec_iff (
      λ (a, (b, (c, (d, e)))). record { first_below = a; second_below = b; differ = c; first_new = d; second_new = e },
      λ g. (g.first_below, (g.second_below, (g.differ, (g.first_new, g.second_new)))),
    )
    (dec_and (dec_lt p.first atoms) (dec_and (dec_lt p.second atoms) (dec_and (dec_not (dec_eq p.first p.second))
    (dec_and (dec_not (dec_member p.first (atoms_of earlier))) (dec_not (dec_member p.second (atoms_of earlier)))))))

pub none_disjoint : (atoms : ℕ) → Disjoint atoms []
unfolding atoms_of flat
none_disjoint atoms = record { below = λ a m. absurd (nowhere m); once = tt }

-- one good pair more
disjoint_more : (atoms : ℕ) (earlier : List Opposites) (p : Opposites) → Disjoint atoms earlier → GoodPair atoms earlier p → Disjoint atoms (earlier ++ p ∷ [])
unfolding atoms_of
disjoint_more atoms earlier p h g =
    let two : List ℕ = p.first ∷ p.second ∷ [] in
    let all : atoms_of (earlier ++ p ∷ []) ≡ atoms_of earlier ++ two = flat_snoc (λ q. q.first ∷ q.second ∷ []) earlier p in
    let none : (a : ℕ) → a among [] → a < atoms = λ a m. absurd (nowhere m) in
    let new : (y : ℕ) → y among two → y among atoms_of earlier → ⊥ =
    all_cons (λ y. y among atoms_of earlier → ⊥) g.first_new (all_cons (λ y. y among atoms_of earlier → ⊥) g.second_new (λ y m. absurd (nowhere m))) in
    record {
      below = rw all (all_append (λ a. a < atoms) (atoms_of earlier) h.below (all_cons (λ a. a < atoms) g.first_below (all_cons (λ a. a < atoms) g.second_below none)));
      once = rw all (pairwise_append _ (atoms_of earlier) two h.once
          (all_cons (λ y. p.first ≡ y → ⊥) g.differ (λ y m. absurd (nowhere m)), (λ y m. absurd (nowhere m), tt))
          (λ x y m k e. new y k (subst (λ z. z among atoms_of earlier) e m)));
    }

-- each pair is good after the earlier ones
pub disjoint_good : (atoms : ℕ) (earlier : List Opposites) (p : Opposites) (more : List Opposites) → Disjoint atoms (earlier ++ p ∷ more)
    → GoodPair atoms earlier p
unfolding atoms_of flat
disjoint_good atoms earlier p more h =
    let rest : List ℕ = p.first ∷ p.second ∷ atoms_of more in
    let all : atoms_of (earlier ++ p ∷ more) ≡ atoms_of earlier ++ rest = flat_append (λ q. q.first ∷ q.second ∷ []) earlier (p ∷ more) in
    let once = subst Distinct all h.once in
    let below : (a : ℕ) → a among rest → a < atoms = λ a m. h.below a (subst (λ l. a among l) (sym all) ((among-append (atoms_of earlier)).1 (inr m))) in
    let new : (a : ℕ) → a among rest → a among atoms_of earlier → ⊥ = λ a m k. pairwise_across _ (atoms_of earlier) rest once a a k m refl in
    record {
      first_below = below p.first here;
      second_below = below p.second (later here);
      differ = (pairwise_suffix _ (atoms_of earlier) rest once).0 p.second here;
      first_new = new p.first here;
      second_new = new p.second (later here);
    }

-- what was read is so
pub pairs_disjoint : (s : List ℕ) (atoms n at next : ℕ) (v : List Opposites) → times n [] (pair_at s atoms) at ≡ field v next → Disjoint atoms v
pairs_disjoint s atoms n at next v e =
    times_field (pair_at s atoms) (λ _ vs _. Disjoint atoms vs)
    (λ i vs p v n h q. disjoint_more atoms vs v h ((dec_good_pair atoms vs v).yes (pair_field s atoms vs p n v q).3))
    n at (none_disjoint atoms) e

-- ---- in the bytes
module _ (s : List ℕ) where
  -- the atoms of n pairs from a place are the bytes there
  pub atoms-bytes : (n at : ℕ) → at + 2 * n ≤ length s → atoms_of (pairs_from s n at) ≡ bytes_from s (2 * n) at
  unfolding atoms_of flat up_to
  atoms-bytes zero at h = refl
  atoms-bytes (suc n) at h =
      let p = pair_from s (at + 2 * n) in
      let z : 2 * suc n ≡ suc (suc (2 * n)) = omega arith in
      let place : at + suc (2 * n) ≡ at + 2 * n + 1 = omega arith in
      ap atoms_of (pairs_from-more s n at) ∙ flat_snoc (λ q. q.first ∷ q.second ∷ []) (pairs_from s n at) p
      ∙ ap (λ l. l ++ p.first ∷ p.second ∷ []) (atoms-bytes n at (omega arith))
      ∙ sym (append_assoc (bytes_from s (2 * n) at) (p.first ∷ []) (p.second ∷ []))
      ∙ ap₂ (λ l b. l ++ b ∷ []) (sym (bytes_from-more s (2 * n) at (omega arith))) (ap (byte_at s) (sym place))
      ∙ sym (bytes_from-more s (suc (2 * n)) at (omega arith)) ∙ ap (λ m. bytes_from s m at) (sym z)

  -- the n bytes from a place
  byte_among : (n at i : ℕ) → at + n ≤ length s → i < n → byte_at s (at + i) among bytes_from s n at
  byte_among n at i h l =
      let there : i < length (bytes_from s n at) = omega (arith, length-take n (drop at s), length-drop at s) in
      let byte : get_or (bytes_from s n at) i 0 ≡ byte_at s (at + i) = get_or-take n (drop at s) i 0 l ∙ get_or-drop at s i 0 in
      subst (λ b. b among bytes_from s n at) byte (get_or-among (bytes_from s n at) 0 i there)

  among_byte : (n at : ℕ) {b : ℕ} → b among bytes_from s n at → (i : ℕ) × (i < n) × (b ≡ byte_at s (at + i))
  among_byte n at m =
      let (i, l, e) = among_place (bytes_from s n at) 0 m in
      let few : i < n = omega (arith, length-take n (drop at s)) in
      (i, few, sym e ∙ get_or-take n (drop at s) i 0 few ∙ get_or-drop at s i 0)

  -- an atom is one of them
  pub dec_taken : (n at a : ℕ) → at + n ≤ length s → Decides ((i : ℕ) × (i < n) × (a ≡ byte_at s (at + i))) (some (eqb a) (bytes_from s n at))
  dec_taken n at a h =
      dec_iff (among_byte n at, λ (i, l, e). subst (λ b. b among bytes_from s n at) (sym e) (byte_among n at i h l)) (dec_member a (bytes_from s n at))

  -- each byte of disjoint pairs is an atom of the sheet
  pub bytes-atoms : (atoms n at : ℕ) → at + 2 * n ≤ length s → Disjoint atoms (pairs_from s n at) → (i : ℕ) → i < 2 * n → byte_at s (at + i) < atoms
  bytes-atoms atoms n at h disjoint i l =
      disjoint.below (byte_at s (at + i)) (subst (λ m. byte_at s (at + i) among m) (sym (atoms-bytes n at h)) (byte_among (2 * n) at i h l))
