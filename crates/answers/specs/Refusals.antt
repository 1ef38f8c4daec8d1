-- "When an answer is an enum, a definition gives this paper's number and values for each of its cases": the numbers of the refusals. Assumes nothing.
use Rattle.std.specs.Prelude.{ℕ, ◌≡◌, refl, cond, eqb}
use Rattle.std.proofs.Common.{sym, ap, ◌∙◌}
use Rattle.answers.specs.declared.reason.Reason.{Reason}
use Rattle.answers.specs.declared.reason.Reason.TheVariants.{EndsTooSoon, OverLimit, BadName, RepeatedName, BadMask, ExtraBytes, ManyNegations, NoGuess, ShortBuffer, NoAtom, BadEntry, NoMinute, BadDay, BadCount, BadPair}

-- the number that the documents give
abbrev pub number_of : Reason → ℕ
number_of EndsTooSoon = 1
number_of OverLimit = 2
number_of BadName = 3
number_of RepeatedName = 4
number_of BadMask = 5
number_of ExtraBytes = 6
number_of ManyNegations = 7
number_of NoGuess = 8
number_of ShortBuffer = 9
number_of NoAtom = 10
number_of BadEntry = 11
number_of NoMinute = 12
number_of BadDay = 13
number_of BadCount = 14
number_of BadPair = 15

-- the reason of a number; of one that the documents do not have, the last
abbrev pub reason_of : ℕ → Reason
reason_of n =
    cond (eqb n 1) EndsTooSoon (
    cond (eqb n 2) OverLimit (
    cond (eqb n 3) BadName (
    cond (eqb n 4) RepeatedName (
    cond (eqb n 5) BadMask (
    cond (eqb n 6) ExtraBytes (
    cond (eqb n 7) ManyNegations (
    cond (eqb n 8) NoGuess (
    cond (eqb n 9) ShortBuffer (
    cond (eqb n 10) NoAtom (
    cond (eqb n 11) BadEntry (
    cond (eqb n 12) NoMinute (
    cond (eqb n 13) BadDay (
    cond (eqb n 14) BadCount (
    BadPair))))))))))))))

-- no two reasons have the same number
pub reason-number : (r : Reason) → reason_of (number_of r) ≡ r
reason-number EndsTooSoon = refl
reason-number OverLimit = refl
reason-number BadName = refl
reason-number RepeatedName = refl
reason-number BadMask = refl
reason-number ExtraBytes = refl
reason-number ManyNegations = refl
reason-number NoGuess = refl
reason-number ShortBuffer = refl
reason-number NoAtom = refl
reason-number BadEntry = refl
reason-number NoMinute = refl
reason-number BadDay = refl
reason-number BadCount = refl
reason-number BadPair = refl

pub number_fixed : {r q : Reason} → number_of r ≡ number_of q → r ≡ q
number_fixed {r} {q} e = sym (reason-number r) ∙ ap reason_of e ∙ reason-number q
