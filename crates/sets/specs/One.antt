-- Sets of one member, and of at most one. Assumes nothing.
use Rattle.std.specs.Prelude.{ℕ, ◌-◌, ◌/◌, ◌%◌, ◌≤◌, ◌<◌, ◌≡◌, refl, not, [], ◌∷◌, eqb}
use Rattle.std.proofs.Common.{sym, ap, ◌∙◌, subst, ⊎_elim, arith}
use mathlib.Core.List.Memᴰ
use Rattle.std.proofs.Math.Arith.{bin_ind}
use Rattle.std.specs.Int.Bits.{and_step, and_self}
use Rattle.std.specs.Int.Count.{ones_step}
use Rattle.sets.specs.Decides.{decided, dec_eq, dec_not}
use Rattle.sets.specs.Lists.{all_cons, nowhere, dec_some}
use Rattle.sets.specs.Sets.{◌∈◌, ◌∩◌, ∅, single, size, members_of}
use Rattle.sets.specs.Members.{some-member, ∈_ext, ∈-single}
use Rattle.sets.specs.Size.{size_below, size-least, size-most, among-members_of}

-- r is one member of x, alone
abbrev pub OneOf : (x r : ℕ) → Type 0
OneOf x r = (a : ℕ) × (a ∈ x) × (r ≡ single a)

-- two members of a set of at most one are the same
pub only_one : {x a b : ℕ} → size x ≤ 1 → a ∈ x → b ∈ x → a ≡ b
only_one {x} {a} {b} l m n =
    ⊎_elim (λ e. e)
    (λ d.
    let both = size-least x (a ∷ b ∷ []) ((λ c k e. d (e ∙ Memᴰ.eq_of_singleton k)), ((λ c k. absurd (nowhere k)), tt))
    (all_cons (λ c. c ∈ x) m (all_cons (λ c. c ∈ x) n (λ c k. absurd (nowhere k)))) in
    absurd (omega (arith, both)))
    (decided (dec_eq a b))

-- a set of several has a member other than a
pub another : {x : ℕ} (a : ℕ) → 1 < size x → (b : ℕ) × (b ∈ x) × (b ≡ a → ⊥)
another {x} a l =
    ⊎_elim (λ (b, m, n). (b, (among-members_of x).0 m, n))
    (λ none.
    let all = size-most x (a ∷ []) (λ b m. ⊎_elim (λ e. Memᴰ.head e) (λ n. absurd (none (b, (among-members_of x).1 m, n))) (decided (dec_eq b a))) in
    absurd (omega (arith, all)))
    (decided (dec_some (λ b. not (eqb b a)) (λ b. b ≡ a → ⊥) (members_of x) (λ b _. dec_not (dec_eq b a))))

-- x ∩ (x - 1) is x without its lowest member: where that is empty, x has at most one
pub lowest_alone : (x : ℕ) → x ∩ (x - 1) ≡ ∅ → size x ≤ 1
lowest_alone = bin_ind (λ x. x ∩ (x - 1) ≡ ∅ → size x ≤ 1) (λ e. omega (arith, size_below 0 0 (omega arith))) step
  where
    step : (x : ℕ) → ((x / 2) ∩ (x / 2 - 1) ≡ ∅ → size (x / 2) ≤ 1) → x ∩ (x - 1) ≡ ∅ → size x ≤ 1
    step x ih e =
        ⊎_elim (λ o.
        let half : (x - 1) / 2 ≡ x / 2 = omega arith in
        let none : x / 2 ≡ 0 = omega (arith, and_step x (x - 1), ap (λ (y : ℕ). (x / 2) ∩ y) half, and_self (x / 2)) in
        omega (arith, ones_step x, size_below 0 (x / 2) (omega arith)))
        (λ o.
        let half : (x - 1) / 2 ≡ x / 2 - 1 = omega arith in
        let h = ih (omega (arith, and_step x (x - 1), ap (λ (y : ℕ). (x / 2) ∩ y) half)) in
        omega (arith, ones_step x))
        (decided (dec_eq (x % 2) 1))

-- a set of at most one member, with a member, is that member alone
pub alone : {x : ℕ} → 0 < x → size x ≤ 1 → OneOf x x
alone {x} p l =
    let (a, m) = some-member x p in
    (a, m, ∈_ext x (single a) (λ b. (λ n. (∈-single b a).1 (only_one l n m), λ n. subst (λ c. c ∈ x) (sym ((∈-single b a).0 n)) m)))

pub size-single : (a : ℕ) → size (single a) ≡ 1
size-single a =
    let most = size-most (single a) (a ∷ []) (λ b m. Memᴰ.head ((∈-single b a).0 m)) in
    let least = size-least (single a) (a ∷ []) ((λ b k. absurd (nowhere k)), tt) (all_cons (λ b. b ∈ single a) ((∈-single a a).1 refl) (λ b k. absurd (nowhere k))) in
    omega (arith, most, least)
