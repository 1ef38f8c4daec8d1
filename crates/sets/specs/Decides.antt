-- Tests and the questions that they decide. Assumes nothing.
use Rattle.std.specs.Prelude.{ℕ, ◌≤◌, ◌<◌, ◌≡◌, refl, Bool, true, false, not, ◌&&◌, ◌||◌, cond, ◌↔◌, ◌⊎◌, T, eqb, leb, ltb}
use Rattle.std.proofs.Common.{sym, ◌∙◌, true≢false, inl, inr, ⊎_elim, arith, eqb-true, leb-true, leb-false, ltb-true, ltb-false}
use Rattle.std.proofs.lemmas.Bool.{eqb-false}

-- Anything, where unequal constructors would be equal: `cc` then finds that 0 is 1.
pub unequal : {A : Type 0} → ◌≡◌ {A = ℕ} 0 1 → A
unequal e = absurd (omega arith)

-- b is the answer to the question P.
pub record Decides (P : Type 0) (b : Bool) : Type 0 where
  pub yes : b ≡ true → P
  pub no : b ≡ false → P → ⊥

pub dec_true : {P : Type 0} → P → Decides P true
dec_true p = record { yes = λ _. p; no = λ e. absurd (true≢false e) }

pub dec_false : {P : Type 0} → (P → ⊥) → Decides P false
dec_false n = record { yes = λ e. absurd (true≢false (sym e)); no = λ _. n }

-- ---- what an answer gives
module _ {P : Type 0} where
  pub is_true : {b : Bool} → Decides P b → P → b ≡ true
  is_true {b = true} d p = refl
  is_true {b = false} d p = absurd (d.no refl p)

  pub is_false : {b : Bool} → Decides P b → (P → ⊥) → b ≡ false
  is_false {b = true} d n = absurd (n (d.yes refl))
  is_false {b = false} d n = refl

  -- of a test that is computed
  pub passed : {b : Bool} → Decides P b → T b → P
  passed {b = true} d t = d.yes refl
  passed {b = false} d t = absurd t

  pub decided : {b : Bool} → Decides P b → P ⊎ (P → ⊥)
  decided {b = true} d = inl (d.yes refl)
  decided {b = false} d = inr (d.no refl)

  -- two answers to one question are the same
  pub dec_one : {a b : Bool} → Decides P a → Decides P b → a ≡ b
  dec_one {a = true} d e = sym (is_true e (d.yes refl))
  dec_one {a = false} d e = sym (is_false e (d.no refl))

-- ---- answers put together
pub dec_iff : {P Q : Type 0} {b : Bool} → P ↔ Q → Decides P b → Decides Q b
dec_iff f d = record { yes = λ e. f.0 (d.yes e); no = λ e q. d.no e (f.1 q) }

pub dec_not : {P : Type 0} {b : Bool} → Decides P b → Decides (P → ⊥) (not b)
dec_not {b = true} d = dec_false (λ n. n (d.yes refl))
dec_not {b = false} d = dec_true (d.no refl)

-- where P is needed to answer Q
pub dec_and_then : {P Q : Type 0} {a b : Bool} → Decides P a → (P → Decides Q b) → Decides (P × Q) (a && b)
dec_and_then {a = true} d e = let p = d.yes refl in dec_iff (λ q. (p, q), λ r. r.1) (e p)
dec_and_then {a = false} d e = dec_false (λ r. d.no refl r.0)

pub dec_and : {P Q : Type 0} {a b : Bool} → Decides P a → Decides Q b → Decides (P × Q) (a && b)
dec_and d e = dec_and_then d (λ _. e)

pub dec_or : {P Q : Type 0} {a b : Bool} → Decides P a → Decides Q b → Decides (P ⊎ Q) (a || b)
dec_or {a = true} d e = dec_true (inl (d.yes refl))
dec_or {a = false} d e = dec_iff (inr, ⊎_elim (λ p. absurd (d.no refl p)) (λ q. q)) e

pub dec_imp : {P Q : Type 0} {a b : Bool} → Decides P a → Decides Q b → Decides (P → Q) (not a || b)
dec_imp {a = true} d e = dec_iff (λ q _. q, λ f. f (d.yes refl)) e
dec_imp {a = false} d e = dec_true (λ p. absurd (d.no refl p))

-- Q where P, and R where not
pub dec_if : {P Q R : Type 0} {a b c : Bool} → Decides P a → Decides Q b → Decides R c → Decides ((P × Q) ⊎ ((P → ⊥) × R)) (cond a b c)
dec_if {a = true} d e f = dec_iff (λ q. inl (d.yes refl, q), ⊎_elim (λ p. p.1) (λ p. absurd (p.0 (d.yes refl)))) e
dec_if {a = false} d e f = dec_iff (λ r. inr (d.no refl, r), ⊎_elim (λ p. absurd (d.no refl p.0)) (λ p. p.1)) f

-- ---- first answers
pub dec_self : (b : Bool) → Decides (b ≡ true) b
dec_self b = record { yes = λ e. e; no = λ e f. true≢false (sym f ∙ e) }

pub dec_eq : (a b : ℕ) → Decides (a ≡ b) (eqb a b)
dec_eq a b = record { yes = eqb-true a b; no = eqb-false a b }

pub dec_le : (a b : ℕ) → Decides (a ≤ b) (leb a b)
dec_le a b = record { yes = leb-true a b; no = λ e l. omega (arith, leb-false a b e) }

pub dec_lt : (a b : ℕ) → Decides (a < b) (ltb a b)
dec_lt a b = record { yes = ltb-true a b; no = λ e l. omega (arith, ltb-false a b e) }

-- the answer of a decision
abbrev pub does : {P : Type 0} → Dec P → Bool
does (yes p) = true
does (no n) = false

pub dec_does : {P : Type 0} (d : Dec P) → Decides P (does d)
dec_does (yes p) = dec_true p
dec_does (no n) = dec_false n
