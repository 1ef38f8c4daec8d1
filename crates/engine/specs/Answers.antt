-- "When an answer is an enum, a definition gives this paper's number and values for each of its cases": the number of a refusal is that of its
-- reason. Assumes nothing.
use Rattle.std.specs.Prelude.{ℕ, ◌≡◌, refl, Result, Ok, Err}
use Rattle.std.proofs.Common.{sym, ap, ◌∙◌}
use Rattle.answers.specs.Refusals.{number_of, reason_of, reason-number}
use Rattle.answers.specs.declared.refusal.Refusal.{Refusal}
use Rattle.answers.specs.declared.tally.Tally.{Tally as Counts}
use Rattle.semantics.specs.Definitions.Check.{Numbers, numbers}
use Rattle.semantics.specs.Definitions.Returned.{Returned, accepted, refusal}
use Rattle.semantics.specs.Definitions.Verdict as meant
use Rattle.semantics.specs.Definitions.Listing.{Tally, tallied}
use Rattle.semantics.specs.Definitions.Query as asks
use Rattle.verdict.specs.declared.Verdict.{Verdict}
use Rattle.verdict.specs.declared.Verdict.TheVariants as verdicts
use Rattle.verdict.specs.Verdicts.{verdict_of}
use Rattle.engine.specs.declared.Checked.{Checked}
use Rattle.engine.specs.declared.Queried.{Queried}
use Rattle.engine.specs.declared.Queried.TheVariants as queries

-- what a call answers: its values, or a refusal
abbrev pub OrRefused : Type 0 → Type 0
OrRefused A = Result A Refusal

-- "The check of an accepted sheet answers with the numbers of atoms, of rules and of negations"
abbrev pub checked : OrRefused Checked → Returned Numbers
checked (Ok x) = accepted (numbers x.atoms x.rules x.negations)
checked (Err q) = refusal (number_of q.reason) q.place

-- ""empty""; ""other", with the guess found"; ""verified", with known, possible and the number of sets"
abbrev pub judged : OrRefused Verdict → Returned meant.Verdict
judged (Ok v) = accepted (verdict_of v)
judged (Err q) = refusal (number_of q.reason) q.place

-- "with the count"
abbrev pub counted : OrRefused ℕ → Returned ℕ
counted (Ok n) = accepted n
counted (Err q) = refusal (number_of q.reason) q.place

-- "The result has views, covered, ruled, tested, empty, other."
abbrev pub listed : OrRefused Counts → Returned Tally
listed (Ok t) = accepted (tallied t.views t.covered t.ruled t.tested t.empty t.other)
listed (Err q) = refusal (number_of q.reason) q.place

-- ""yes"", ""no"", ""open"", ""none""
abbrev pub asked : Queried → asks.Answer
asked queries.Yes = asks.Yes
asked queries.No = asks.No
asked queries.Open = asks.Open
asked queries.None = asks.None

abbrev pub queried : OrRefused Queried → Returned asks.Answer
queried (Ok x) = accepted (asked x)
queried (Err q) = refusal (number_of q.reason) q.place

-- What an answer means fixes it: no two answers mean the same.
refused_by : {A : Type 0} → (number place : ℕ) → OrRefused A
refused_by number place = Err (record { reason = reason_of number; place = place })

refused_back : {A : Type 0} (q : Refusal) → refused_by {A = A} (number_of q.reason) q.place ≡ Err q
unfolding refused_by
refused_back q = ap (λ r. Err (record { reason = r; place = q.place })) (reason-number q.reason)

answer_checked : Returned Numbers → OrRefused Checked
answer_checked (accepted v) = Ok (record { atoms = v.atoms; rules = v.rules; negations = v.negations })
answer_checked (refusal number place) = refused_by number place

answer_judged : Returned meant.Verdict → OrRefused Verdict
answer_judged (accepted meant.empty) = Ok verdicts.Empty
answer_judged (accepted (meant.other found)) = Ok (verdicts.Other found)
answer_judged (accepted (meant.verified known possible sets)) = Ok (verdicts.Verified known possible sets)
answer_judged (refusal number place) = refused_by number place

answer_counted : Returned ℕ → OrRefused ℕ
answer_counted (accepted count) = Ok count
answer_counted (refusal number place) = refused_by number place

answer_listed : Returned Tally → OrRefused Counts
answer_listed (accepted t) = Ok (record { views = t.views; covered = t.covered; ruled = t.ruled; tested = t.tested; empty = t.empty; other = t.other })
answer_listed (refusal number place) = refused_by number place

answer_queried : Returned asks.Answer → OrRefused Queried
answer_queried (accepted asks.Yes) = Ok queries.Yes
answer_queried (accepted asks.No) = Ok queries.No
answer_queried (accepted asks.Open) = Ok queries.Open
answer_queried (accepted asks.None) = Ok queries.None
answer_queried (refusal number place) = refused_by number place

checked_back : (r : OrRefused Checked) → answer_checked (checked r) ≡ r
unfolding answer_checked
checked_back (Ok x) = refl
checked_back (Err q) = refused_back q

judged_back : (r : OrRefused Verdict) → answer_judged (judged r) ≡ r
unfolding answer_judged
judged_back (Ok verdicts.Empty) = refl
judged_back (Ok (verdicts.Other found)) = refl
judged_back (Ok (verdicts.Verified known possible sets)) = refl
judged_back (Err q) = refused_back q

counted_back : (r : OrRefused ℕ) → answer_counted (counted r) ≡ r
unfolding answer_counted
counted_back (Ok n) = refl
counted_back (Err q) = refused_back q

listed_back : (r : OrRefused Counts) → answer_listed (listed r) ≡ r
unfolding answer_listed
listed_back (Ok t) = refl
listed_back (Err q) = refused_back q

queried_back : (r : OrRefused Queried) → answer_queried (queried r) ≡ r
unfolding answer_queried
queried_back (Ok queries.Yes) = refl
queried_back (Ok queries.No) = refl
queried_back (Ok queries.Open) = refl
queried_back (Ok queries.None) = refl
queried_back (Err q) = refused_back q

pub checked_fixed : (r q : OrRefused Checked) → checked r ≡ checked q → r ≡ q
checked_fixed r q e = sym (checked_back r) ∙ ap answer_checked e ∙ checked_back q

pub judged_fixed : (r q : OrRefused Verdict) → judged r ≡ judged q → r ≡ q
judged_fixed r q e = sym (judged_back r) ∙ ap answer_judged e ∙ judged_back q

pub counted_fixed : (r q : OrRefused ℕ) → counted r ≡ counted q → r ≡ q
counted_fixed r q e = sym (counted_back r) ∙ ap answer_counted e ∙ counted_back q

pub listed_fixed : (r q : OrRefused Counts) → listed r ≡ listed q → r ≡ q
listed_fixed r q e = sym (listed_back r) ∙ ap answer_listed e ∙ listed_back q

pub queried_fixed : (r q : OrRefused Queried) → queried r ≡ queried q → r ≡ q
queried_fixed r q e = sym (queried_back r) ∙ ap answer_queried e ∙ queried_back q
