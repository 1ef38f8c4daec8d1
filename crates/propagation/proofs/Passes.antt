-- A pass over the rules, turn by turn, and passes until one adds nothing. Assumes nothing.
use Prim.Native.Nat.{ℕ, zero, suc, ◌+◌, ◌-◌, ◌≤◌}
use mathlib.Core.Path.{◌≡◌, refl, sym, ap, ◌∙◌, subst}
use mathlib.Core.List.{List}
use mathlib.Core.Logic.{◌↔◌, ◌⊎◌, inl, inr, ⊎_elim}
use native.Mathlib.Omega.{arith}
use native.Mathlib.Numerals.{add-one}
use Rattle.sets.specs.Decides.{decided}
use Rattle.sets.specs.Sets.{◌∈◌, ◌∩◌, ◌∪◌, ◌∖◌, ∅, full}
use Rattle.sets.specs.Members.{∈-∅, ∈-∩, ∈-∪, ∈-∖, ∈_ext, ∈-full}
use Rattle.semantics.specs.Words.{rule_in, program_in}
use Rattle.semantics.specs.Definitions.Rules.{Rule}
use Rattle.semantics.specs.Definitions.Propagation.{Pair, step, steps, propagated}
use Rattle.semantics.specs.Theorems.Closure.{EntersT, EntersF, LeastClosed}
use Rattle.semantics.proofs.Theorems.Closure.{dec_dead, step_t, step_f, propagated_is}
use Rattle.propagation.specs.Pairs.{EntersBy, SupportedBy}
use Rattle.propagation.proofs.Programs.{Some, some-none, some_more}

-- The first j rules have been passed: t has T and what enters it by them, kept what they keep out of F.
pub record Passed (words : List ℕ) (x : Pair) (j t kept : ℕ) : Type 0 where
  pub entered : (a : ℕ) → a ∈ t ↔ ((a ∈ x.T) ⊎ Some words (λ r. EntersBy x r a) j)
  pub supported : (a : ℕ) → a ∈ kept ↔ Some words (λ r. SupportedBy x r a) j

module _ (words : List ℕ) (x : Pair) where
  pub passed_none : Passed words x 0 x.T ∅
  passed_none = record {
    entered = λ a. (inl, ⊎_elim (λ m. m) (λ q. absurd (some-none words _ q)));
    supported = λ a. ((λ m. absurd (∈-∅ m)), λ q. absurd (some-none words _ q));
  }

  pub passed-more : (j : ℕ) {t kept e k : ℕ} → Passed words x j t kept → ((a : ℕ) → a ∈ e ↔ EntersBy x (rule_in words j) a)
      → ((a : ℕ) → a ∈ k ↔ SupportedBy x (rule_in words j) a) → Passed words x (j + 1) (t ∪ e) (kept ∪ k)
  passed-more j {t} {kept} {e} {k} h f g = record {
    entered = λ a.
        let s = some_more words (λ r. EntersBy x r a) j in
        let b = h.entered a in (
          λ m. ⊎_elim (λ q. ⊎_elim inl (λ u. inr (s.1 (inl u))) (b.0 q)) (λ q. inr (s.1 (inr ((f a).0 q)))) ((∈-∪ a t e).0 m),
          λ m. (∈-∪ a t e).1 (⊎_elim (λ q. inl (b.1 (inl q))) (λ q. ⊎_elim (λ u. inl (b.1 (inr u))) (λ u. inr ((f a).1 u)) (s.0 q)) m),
        );
    supported = λ a.
        let s = some_more words (λ r. SupportedBy x r a) j in (
          λ m. s.1 (⊎_elim (λ q. inl ((h.supported a).0 q)) (λ q. inr ((g a).0 q)) ((∈-∪ a kept k).0 m)),
          λ m. (∈-∪ a kept k).1 (⊎_elim (λ q. inl ((h.supported a).1 q)) (λ q. inr ((g a).1 q)) (s.0 m)),
        );
  }

  -- all rules passed: a step
  pub passed_all : (n rules : ℕ) {t kept all rest : ℕ} → Passed words x rules t kept → all ≡ full n → rest ≡ all ∖ kept
      → ◌≡◌ {A = Pair} (record { T = t ∩ all; F = (x.F ∪ rest) ∩ all }) (step n (program_in words rules) x)
  passed_all n rules {t} {kept} h d e =
      rw (e, d) (λ i. record { T = ∈_ext (t ∩ full n) (step n p x).T in_t i; F = ∈_ext ((x.F ∪ full n ∖ kept) ∩ full n) (step n p x).F in_f i })
    where
      p : List Rule
      p = program_in words rules

      enters : {a : ℕ} → ((a ∈ x.T) ⊎ Some words (λ r. EntersBy x r a) rules) ↔ ((a ∈ x.T) ⊎ EntersT p x a)
      enters = (⊎_elim inl (λ q. let (r, m, e) = q in inr (r, m, e.0, e.1, e.2)), ⊎_elim inl (λ q. inr (q.0, q.1, (q.2, q.3, q.4))))

      in_t : (a : ℕ) → a ∈ t ∩ full n ↔ a ∈ (step n p x).T
      in_t a = (
        λ m. let (q, l) = (∈-∩ a t (full n)).0 m in (step_t n p x).1 ((∈-full a n).0 l, enters.0 ((h.entered a).0 q)),
        λ m. let (l, q) = (step_t n p x).0 m in (∈-∩ a t (full n)).1 ((h.entered a).1 (enters.1 q), (∈-full a n).1 l),
      )

      dead-rules : (a : ℕ) → (a ∈ kept → ⊥) → EntersF p x a
      dead-rules a n r m k = ⊎_elim (λ d. d) (λ d. absurd (n ((h.supported a).1 (r, m, (k, d))))) (decided (dec_dead x r))

      not_kept : (a : ℕ) → EntersF p x a → a ∈ kept → ⊥
      not_kept a f m = let (r, k, (q, d)) = (h.supported a).0 m in d (f r k q)

      in_f : (a : ℕ) → a ∈ (x.F ∪ full n ∖ kept) ∩ full n ↔ a ∈ (step n p x).F
      in_f a = (
        λ m.
            let (q, l) = (∈-∩ a (x.F ∪ full n ∖ kept) (full n)).0 m in
            (step_f n p x).1 ((∈-full a n).0 l, ⊎_elim inl (λ u. inr (dead-rules a ((∈-∖ a (full n) kept).0 u).1)) ((∈-∪ a x.F (full n ∖ kept)).0 q)),
        λ m.
            let (l, q) = (step_f n p x).0 m in
            let o = (∈-full a n).1 l in
            (∈-∩ a (x.F ∪ full n ∖ kept) (full n)).1 ((∈-∪ a x.F (full n ∖ kept)).1 (⊎_elim inl (λ u. inr ((∈-∖ a (full n) kept).1 (o, not_kept a u))) q), o),
      )

-- ---- passes
module _ (n : ℕ) (p : List Rule) where
  pub steps_first : record { T = ∅; F = ∅ } ≡ steps n p 0
  unfolding steps
  steps_first = refl

  pub steps_next : (i : ℕ) {x y : Pair} → x ≡ steps n p i → y ≡ step n p x → y ≡ steps n p (i + 1)
  unfolding steps
  steps_next i e d = d ∙ ap (step n p) e ∙ ap (steps n p) (sym (add-one i))

  stays : (i : ℕ) {x : Pair} → x ≡ steps n p i → step n p x ≡ x → (d : ℕ) → x ≡ steps n p (d + i)
  unfolding steps
  stays i e f zero = let z : i ≡ 0 + i = omega arith in e ∙ ap (steps n p) z
  stays i e f (suc d) =
      let z : suc (d + i) ≡ suc d + i = omega arith in
      sym f ∙ ap (step n p) (stays i e f d) ∙ ap (steps n p) z

  -- a pass that added nothing
  pub steps_last : (i m : ℕ) {x y : Pair} → i ≤ m → x ≡ steps n p i → y ≡ step n p x → y.T ≡ x.T → y.F ≡ x.F → x ≡ steps n p m
  steps_last i m l e d t f =
      let z : m - i + i ≡ m = omega arith in
      stays i e (sym d ∙ λ k. record { T = t k; F = f k }) (m - i) ∙ ap (steps n p) z

  -- where as many passes lead as the definition has steps
  pub reached : {x : Pair} → x ≡ propagated n p → LeastClosed n p x
  reached e = subst (LeastClosed n p) (sym e) (propagated_is n p)
