-- One check more of what was read: a number that has to be below a bound. Assumes nothing.
use Prim.Native.Nat.{ℕ, ◌^◌, ◌≤◌, ◌<◌}
use mathlib.Core.Path.{◌≡◌, refl, sym, ap, subst, ◌∙◌}
use mathlib.Core.List.{List}
use mathlib.Core.Logic.{inl, inr, ⊎_elim}
use native.Mathlib.Omega.{arith}
use Rattle.sets.specs.Decides.{decided, dec_lt}
use Rattle.semantics.specs.Definitions.Setting.{Setting, k}
use Rattle.semantics.specs.Definitions.Returned.{Returned}
use Rattle.semantics.specs.Definitions.Calls.{provided_below, for_guess, for_atom}
use Rattle.semantics.proofs.Theorems.Source.{below_accepted, below_refused}
use Rattle.guess.specs.declared.outline.Outline.{Outline}
use Rattle.guess.specs.Programs.{setting_in, Outlines}
use Rattle.std.specs.Prelude.{Ok, Err}
use Rattle.answers.specs.Refusals.{number_of}
use Rattle.answers.specs.declared.reason.Reason.{Reason}
use Rattle.answers.specs.declared.reason.Reason.TheVariants.{NoGuess, NoAtom}
use Rattle.answers.specs.declared.refusal.Refusal.{Refusal}
use Rattle.source.specs.Sources.{Source, ReadsOn, CheckedBy}
use Rattle.source.proofs.Read.{reads_accepted, reads_refused}

-- its bound, which the code has from the outline, and its refusal
pub record Limit : Type 0 where
  pub bound : Setting → ℕ
  pub kept : Outline → ℕ
  pub same : (x : Outline) (words : List ℕ) → Outlines x words → kept x ≡ bound (setting_in x words)
  pub reason : Reason

abbrev pub guesses : Limit
guesses = record { bound = λ s. 2 ^ k s; kept = λ x. 2 ^ x.negations; same = λ x words o. ap (λ n. 2 ^ n) o.counted; reason = NoGuess }

abbrev pub atoms : Limit
atoms = record { bound = λ s. s.atoms; kept = λ x. x.atoms; same = λ x words o. refl; reason = NoAtom }

module _ (l : Limit) (n : ℕ) (r : Source) where
  abbrev check : Returned Setting → Returned Setting
  check from = provided_below l.bound (number_of l.reason) from n

  pub still_refused : {q : Refusal} → r ≡ Err q → ReadsOn check r (Err q)
  still_refused {q} e from words h = (below_refused l.bound (number_of l.reason) from n (number_of q.reason) q.place).1 (inl (reads_refused from words r h e))

  module _ {x : Outline} (e : r ≡ Ok x) where
    pub not_below : l.kept x ≤ n → ReadsOn check r (Err (record { reason = l.reason; place = 0 }))
    not_below high from words h =
        let (o, d) = reads_accepted from words r h e in
        (below_refused l.bound (number_of l.reason) from n (number_of l.reason) 0).1 (inr (setting_in x words, d, subst (λ b. b ≤ n) (l.same x words o) high, refl, refl))

    pub below : n < l.kept x → ReadsOn check r (Ok x)
    below low from words h =
        let (o, d) = reads_accepted from words r h e in
        (o, (below_accepted l.bound (number_of l.reason) from n (setting_in x words)).1 (record { of = d; below = subst (λ b. n < b) (l.same x words o) low }))

-- what the code does for a check is that check of what was read, where its refusals are the refusals themselves
module _ (l : Limit) (n : ℕ) {gives : Refusal → Refusal → Type 0} (itself : (q e : Refusal) → gives q e → e ≡ q) where
  reads_on : (r : Source) {r' : Source} → CheckedBy gives l.kept l.reason n r r' → ReadsOn (check l n r) r r'
  reads_on (Err q) d = subst (λ z. ReadsOn (check l n (Err q)) (Err q) z) (sym (d.refused refl)) (still_refused l n (Err q) refl)
  reads_on (Ok x) d = ⊎_elim
      (λ low. subst (λ z. ReadsOn (check l n (Ok x)) (Ok x) z) (sym (d.below refl low)) (below l n (Ok x) refl low))
      (λ high. let (e, is, g) = d.beyond refl (omega (arith, high)) in
      subst (λ z. ReadsOn (check l n (Ok x)) (Ok x) z) (sym (is ∙ ap Err (itself _ _ g))) (not_below l n (Ok x) refl (omega (arith, high))))
      (decided (dec_lt n (l.kept x)))

module _ (n : ℕ) {gives : Refusal → Refusal → Type 0} (itself : (q e : Refusal) → gives q e → e ≡ q) (r : Source) {r' : Source} where
  pub reads_guess : CheckedBy gives (λ x. 2 ^ x.negations) NoGuess n r r' → ReadsOn (λ from. for_guess from n) r r'
  unfolding for_guess
  reads_guess d = reads_on guesses n itself r d

  pub reads_atom : CheckedBy gives (λ x. x.atoms) NoAtom n r r' → ReadsOn (λ from. for_atom from n) r r'
  unfolding for_atom
  reads_atom d = reads_on atoms n itself r d
