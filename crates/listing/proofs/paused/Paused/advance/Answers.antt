-- `listing::paused::Paused::advance` meets its contract. Assumes nothing.
use Prim.Native.Nat.{ℕ, ◌^◌, ◌≤◌}
use mathlib.Core.Path.{◌≡◌, refl, sym, ap, ◌∙◌, subst}
use mathlib.Core.Bool.{false, not}
use mathlib.Core.List.{List}
use native.Mathlib.Omega.{arith}
use lib.ListN.{length, get_or}
use Rattle.semantics.specs.Definitions.Setting.{Setting}
use Rattle.semantics.specs.Definitions.Check.{most_negations}
use Rattle.semantics.specs.Walk.{advance}
use Rattle.semantics.specs.Theorems.Tally.{AtMost}
use Rattle.guess.specs.Programs.{setting_in}
use Rattle.listing.specs.declared.paused.Paused.{Paused}
use Rattle.records.specs.Outcomes.{tally_from}
use Rattle.listing.specs.Walks.{walked_in}
use Rattle.listing.specs.Pauses.{waits}
use Rattle.listing.proofs.Pausing.{no_rules, Seen, covers, seen_now, seen-before, seen_as, stays, tests, passes, further}
use Rattle.listing.proofs.paused.Paused.advance.Goals as goal
use Rattle.listing.proofs.paused.Paused.advance.Goals.{Joined-is_none, then-is_none+else-covered_by, else-is_none, in-Some+else-tally-most, in_default}

-- the guess is looked at
seen : (c : Joined-is_none) →
    let a = c.args in
    Seen a.x a.words.now (get_or a.order.now a.self.at 0) a.self a.program.now a.records.now c.if-is_none.self c.if-is_none.program
seen c =
    let a = c.args in
    let pre = c.requires in
    let g = get_or a.order.now a.self.at 0 in
    let q = a.self in
    elim c.if-is_none.branch [
      | then-is_none+else-covered_by w ↦
          seen_as a.x a.words.now g q a.program.now a.records.now w.self-is w.program-is
          (seen_now a.x a.words.now g q a.program.now a.records.now _ _ w.look-self.ensures.program_len_unchanged (sym w.covered_by.ensures ∙ w.if-covered_by.false) (omega (arith, pre.at_most.1)) w.look-self.ensures.looked)
      | else-is_none w ↦
          seen_as a.x a.words.now g q a.program.now a.records.now w.self-is w.program-is
          (seen-before a.x a.words.now g q a.program.now a.records.now (c.is_none.ensures ∙ ap not w.if-is_none.false) pre.tested_le_most.1)
    ]

-- the guess is counted: p, once q advanced over it
abbrev Counted : (s : Setting) (most g : ℕ) (q : Paused) (records : List ℕ) (p : Paused) (records' : List ℕ) → Type 0
Counted s most g q records p records' =
    (waits p ≡ false) × (length records' ≡ length records) × ((p.tally.tested ≤ most) × (walked_in p.tally records' ≡ advance s (walked_in q.tally records) g))

came : (P : Paused → List ℕ → Type 0) {p p' : Paused} {r r' : List ℕ} → p ≡ p' → r ≡ r' → P p' r' → P p r
came P {p} {p'} {r} {r'} d e h = subst (λ z. P z r) (sym d) (subst (λ z. P p' z) (sym e) h)

counted : (c : goal.Joined-self) →
    let a = c.args in
    Seen a.x a.words.now (get_or a.order.now a.self.at 0) a.self a.program.now a.records.now c.if-is_none.self c.if-is_none.program →
    Counted (setting_in a.x a.words.now) a.most (get_or a.order.now a.self.at 0) a.self a.records.now c.match-self.self c.match-self.records
counted c l =
    let a = c.args in
    let few = c.requires.tested_le_most.0 in
    let g = get_or a.order.now a.self.at 0 in
    let is = Counted (setting_in a.x a.words.now) a.most g a.self a.records.now in
    elim c.match-self.branch [
      | in-Some+else-tally-most w ↦ came is w.self-is w.records-is (
        w.test-self.ensures.at_value.1,
        w.test-self.ensures.records_len_unchanged,
        tests a.x a.words.now g a.self a.program.now a.records.now a.most l w.in-Some.rules w.in-Some.is w.if-tally-most.false few w.test-self.result _ w.test-self.ensures.at_value.2 w.test-self.ensures.records_after,
      )
      | in_default w ↦
          let free = no_rules c.if-is_none.self.waiting w.in_default.not-Some in
          came is w.self-is w.records-is (free, refl, passes a.x a.words.now g a.self a.program.now a.records.now a.most l free few)
    ]

pub covered_by-requires : goal.covered_by-requires
covered_by-requires c = let pre = c.requires.at_most in (omega (arith, pre.1), pre.2)

pub count-next-requires : goal.count-next-requires
count-next-requires c = c.requires.at_most.0

pub shape_of-records-then-covered_by : goal.shape_of-records-then-covered_by
shape_of-records-then-covered_by c = refl

pub returns-then-covered_by : goal.returns-then-covered_by
returns-then-covered_by c =
    let a = c.args in
    let pre = c.requires in
    let g = get_or a.order.now a.self.at 0 in
    let p : Paused = record { at = a.self.at; tally = c.count-next.result; waiting = a.self.waiting } in
    let seen = sym c.covered_by.ensures ∙ c.if-covered_by.true in
    let covered = covers a.x a.words.now g a.self a.program.now a.records.now c.count-next.result a.most seen (omega (arith, pre.at_most.1)) pre.tested_le_most.0 c.count-next.ensures in
    record {
      program_len_unchanged = refl;
      records_len_unchanged = refl;
      advanced = further a.x a.words.now g a.self a.program.now a.records.now a.most p a.program.now a.records.now (c.is_none.ensures ∙ ap not c.if-is_none.true) covered;
    }

pub look-self-requires : goal.look-self-requires
look-self-requires c =
    let pre = c.requires in
    record {
      outlines = (pre.outlines.0, pre.outlines.2, pre.outlines.3);
      waits_value = (c.is_none.ensures ∙ ap not c.if-is_none.true, pre.at_most.0);
    }

pub shape_of-program-then-tally-most : goal.shape_of-program-then-tally-most
shape_of-program-then-tally-most c = (seen (goal.at.shape_of-program-then-tally-most c).Joined-is_none).same_length

pub returns-then-tally-most : goal.returns-then-tally-most
returns-then-tally-most c =
    let a = c.args in
    let l = seen (goal.at.returns-then-tally-most c).Joined-is_none in
    record {
      program_len_unchanged = l.same_length;
      records_len_unchanged = refl;
      advanced = stays a.x a.words.now (get_or a.order.now a.self.at 0) a.self a.program.now a.records.now a.most l c.in-Some.rules c.in-Some.is c.if-tally-most.true;
    }

pub test-self-requires : goal.test-self-requires
test-self-requires c =
    let pre = c.requires in
    let l = seen (goal.at.test-self-requires c).Joined-is_none in
    let (same, ready) = l.where_waits c.in-Some.rules c.in-Some.is in
    record {
      outlines = (pre.outlines.0, pre.outlines.2, omega (arith, l.same_length, pre.outlines.3));
      at_most = (subst (λ t. AtMost (tally_from t) (2 ^ most_negations)) (sym same) pre.at_most.0, omega (arith, ap (λ t. t.views) same, pre.at_most.1), ready);
    }

pub shape_of-program : goal.shape_of-program
shape_of-program c = (seen (goal.at.shape_of-program c).Joined-is_none).same_length

pub shape_of-records : goal.shape_of-records
shape_of-records c = (counted c (seen (goal.at.shape_of-records c).Joined-is_none)).1

pub returns : goal.returns
returns c =
    let a = c.args in
    let l = seen (goal.at.returns c).Joined-is_none in
    let k = counted c l in record {
      program_len_unchanged = l.same_length;
      records_len_unchanged = k.1;
      advanced = further a.x a.words.now (get_or a.order.now a.self.at 0) a.self a.program.now a.records.now a.most c.match-self.self _ c.match-self.records k.0 k.2;
    }
