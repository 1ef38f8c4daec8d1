-- "When an answer is an enum, a definition gives this paper's number and values for each of its cases". Assumes nothing.
use Rattle.std.specs.Prelude.{◌≡◌, refl, [], ◌∷◌, get_or, Result, Ok, Err}
use Rattle.std.proofs.Common.{sym, ap, ◌∙◌}
use Rattle.answers.specs.Refusals.{number_of, reason_of, reason-number}
use Rattle.answers.specs.declared.reason.Reason.{Reason}
use Rattle.semantics.specs.Definitions.Sharing.{Numbers, Carried, granted, denied}
use Rattle.semantics.specs.Definitions.Sharing as meant
use Rattle.sharing.specs.declared.result.Share.{Share}
use Rattle.sharing.specs.declared.result.Shares.{Shares}
use Rattle.sharing.specs.declared.result.SharedRefusal.{SharedRefusal}

-- what the call answers: the shares, or a refusal
abbrev pub Shared : Type 0
Shared = Result Shares SharedRefusal

-- of a sheet
abbrev pub numbers_from : Share → Numbers
numbers_from x = record { finished = x.finished; tests = x.tests; views = x.views }

-- "The tests used, carried in the result for each sheet and in all"
abbrev pub carried_by : Shares → Carried
carried_by r = record { tests = r.tests; each = numbers_from r.first ∷ numbers_from r.second ∷ numbers_from r.third ∷ numbers_from r.fourth ∷ [] }

-- "the first refusal, sheet by sheet, is returned with the sheet's position from 0"
abbrev pub shared : Shared → meant.Shared Carried
shared (Ok r) = granted (carried_by r)
shared (Err r) = denied (number_of r.refusal.reason) r.refusal.place r.position

-- What an answer means fixes it: no two answers mean the same.
share_from : Numbers → Share
share_from n = record { finished = n.finished; tests = n.tests; views = n.views }

answer_shared : meant.Shared Carried → Shared
answer_shared (granted c) = Ok (record {
  tests = c.tests;
  first = share_from (get_or c.each 0 meant.absent);
  second = share_from (get_or c.each 1 meant.absent);
  third = share_from (get_or c.each 2 meant.absent);
  fourth = share_from (get_or c.each 3 meant.absent);
})
answer_shared (denied number place position) = Err (record { refusal = record { reason = reason_of number; place = place }; position = position })

shared_back : (r : Shared) → answer_shared (shared r) ≡ r
unfolding answer_shared share_from
shared_back (Ok r) = refl
shared_back (Err r) =
    ap (λ (q : Reason). Err (record { refusal = record { reason = q; place = r.refusal.place }; position = r.position })) (reason-number r.refusal.reason)

pub shared_fixed : (r q : Shared) → shared r ≡ shared q → r ≡ q
shared_fixed r q e = sym (shared_back r) ∙ ap answer_shared e ∙ shared_back q
