-- A refusal of a reading, by its number and place, as the code answers it. Assumes nothing.
use Rattle.std.specs.Prelude.{ℕ, zero, suc, ◌≡◌, ◌≤◌, refl, eqb, Bool, true}
use Rattle.std.proofs.Common.{arith}
use Rattle.std.proofs.lemmas.Bool.{eqb-true}
use Rattle.sets.specs.Decides.{dec_self}
use Rattle.sets.specs.Lists.{every, dec_every, up_to, among-up_to}
use Rattle.answers.specs.Refusals.{number_of, reason_of}
use Rattle.answers.specs.declared.refusal.Refusal.{Refusal}

abbrev pub refusal_of : (number place : ℕ) → Refusal
refusal_of number place = record { reason = reason_of number; place = place }

-- a number of the documents is the number of its reason
abbrev kept : ℕ → Bool
kept i = eqb (number_of (reason_of (suc i))) (suc i)

all_kept : every kept (up_to 15) ≡ true
unfolding every up_to
all_kept = refl

pub numbered : (n : ℕ) → 1 ≤ n → n ≤ 15 → number_of (reason_of n) ≡ n
numbered zero low high = absurd (omega arith)
numbered (suc i) low high =
    let each = (dec_every kept (λ i. kept i ≡ true) (up_to 15) (λ i _. dec_self (kept i))).yes all_kept in
    eqb-true _ _ (each i ((among-up_to 15).1 (omega arith)))
