-- `calendar::force::in_force` meets its contract. Assumes nothing.
use mathlib.Core.Path.{◌∙◌, ap}
use Rattle.calendar.specs.Entries.{entries_in}
use Rattle.calendar.specs.Force.{held_from}
use Rattle.calendar.proofs.Gathered.{numbered, held_in_force}
use Rattle.calendar.proofs.force.in_force.Goals as goal

pub unrestricted-always-requires : goal.unrestricted-always-requires
unrestricted-always-requires c = c.requires.few_rules

pub with_held-requires : goal.with_held-requires
with_held-requires c = numbered c.requires

pub returns : goal.returns
returns c =
    let a = c.args in
    c.with_held.ensures ∙ ap (λ set. held_from set a.minute (entries_in a.entries.now)) c.unrestricted-always.ensures
    ∙ held_in_force (entries_in a.entries.now) a.rules a.minute c.requires.all_proper
