-- `search::note_rules` meets its contract. Assumes nothing.
use mathlib.Core.Path.{refl}
use native.Mathlib.Omega.{arith}
use Rattle.search.specs.Shared.{found-shared}
use Rattle.search.specs.Tried.{tried_iff}
use Rattle.search.proofs.note_rules.Goals as goal

pub returns-clause-tried : goal.returns-clause-tried
returns-clause-tried c =
    let any = c.share.ensures in
    let found = c.find_stable.ensures in
    tried_iff (found-shared c.relevant.ensures refl (omega (arith, found.plane_len_unchanged, any.any_len_unchanged, c.requires.1)) any.shared_until found.plane) c.note_words.ensures
