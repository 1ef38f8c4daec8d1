-- `calendar::minutes::minutes_of_change` meets its contract. Assumes nothing.
use Prim.Native.Nat.{ℕ}
use mathlib.Core.List.{List}
use mathlib.Core.Path.{◌≡◌, refl, sym, ap, ◌∙◌, subst}
use native.Mathlib.Omega.{arith}
use lib.ListN.{take}
use Rattle.semantics.specs.Definitions.Calendar.{last_minute, rules_in_force}
use Rattle.calendar.specs.declared.hours.Entry.{Entry as Held}
use Rattle.calendar.specs.Entries.{entries_in, Entries}
use Rattle.calendar.specs.Force.{held_from, unrestricted}
use Rattle.calendar.specs.Next.{next_of}
use Rattle.calendar.proofs.Gathered.{numbered, held_in_force}
use Rattle.calendar.proofs.Between.{next_after, Listed, begun, turned, ended}
use Rattle.calendar.proofs.minutes.minutes_of_change.Goals as goal

held : {rules : ℕ} {es : List Held} → Entries rules es → (minute : ℕ) {always set : ℕ} → always ≡ unrestricted (entries_in es) rules
    → set ≡ held_from always minute (entries_in es) → set ≡ rules_in_force (entries_in es) rules minute
held {rules} {es} p minute free e = e ∙ ap (λ a. held_from a minute (entries_in es)) free ∙ held_in_force (entries_in es) rules minute p.all_proper

pub unrestricted-always-requires : goal.unrestricted-always-requires
unrestricted-always-requires c = c.requires.0.few_rules

pub with_held-before-requires : goal.with_held-before-requires
with_held-before-requires c = numbered c.requires.0

-- the rules in force, as they are gathered

pub loop-minute-init : goal.loop-minute-init
loop-minute-init c =
    let a = c.args in
    (refl, omega arith, begun (entries_in a.entries.now) a.rules (held c.requires.0 last_minute c.unrestricted-always.ensures c.with_held-before.ensures))

pub with_held-held-requires : goal.with_held-held-requires
with_held-held-requires c = numbered c.requires.0

pub add-count-requires : goal.add-count-requires
add-count-requires c = let inv = c.loop-minute.invariant in omega (arith, inv.0, inv.1, c.requires.1)

pub loop-minute-smaller : goal.loop-minute-smaller
loop-minute-smaller c =
    let a = c.args in
    let m = c.loop-minute.minute in
    omega (arith, c.next-minute.ensures, next_after m (entries_in a.entries.now) (omega arith))

pub loop-minute-preserved : goal.loop-minute-preserved
loop-minute-preserved c =
    let a = c.args in
    let es = entries_in a.entries.now in
    let l = c.loop-minute in
    let w = c.add-count in
    let next = c.next-minute.ensures in
    let so = turned es a.rules c.requires.0.all_proper l.invariant.2 (omega arith) (held c.requires.0 l.minute c.unrestricted-always.ensures c.with_held-held.ensures) in
    let set = c.with_held-held.result in
    let listed = subst (Listed es a.rules (next_of l.minute es) set) (sym w.ensures.out_after) so in (
      w.ensures.out_len_unchanged ∙ l.invariant.0,
      omega (arith, next, next_after l.minute es (omega arith), w.ensures.upper_bound, l.invariant.1),
      subst (λ m. Listed es a.rules m set (take w.result w.new.out)) (sym next) listed,
    )

pub shape_of-out : goal.shape_of-out
shape_of-out c = c.loop-minute.invariant.0

pub returns : goal.returns
returns c =
    let a = c.args in
    let l = c.loop-minute in
    record {
      out_len_unchanged = l.invariant.0;
      upper_bound = omega (arith, l.invariant.1, l.invariant.2.week, c.requires.1);
      out_after = ended (entries_in a.entries.now) a.rules l.invariant.2 c.loop-minute-test.false;
    }
