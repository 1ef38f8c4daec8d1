-- `search::smaller::smaller` meets its contract. It ends since each call decides one more atom of i. Assumes nothing.
use Rattle.std.proofs.Common.{◌<◌, ◌∙◌, subst, get_or, arith}
use Rattle.std.proofs.lemmas.Option.{MatchOption-at_none, MatchOption-at_some}
use Rattle.sets.specs.Sets.{◌∈◌, ◌∪◌, size}
use Rattle.sets.specs.Members.{∈-∅, ∈-∩}
use Rattle.search.specs.Search.{undecided, into-j, into-out, search_full, search_is, search_holds, search_none, search_splits, search_ends}
use Rattle.search.proofs.smaller.+smaller.Goals as goal
use Rattle.search.proofs.smaller.+smaller.Goals.{then-these-ne0+then-fails+in-Some, then-these-ne0+then-fails+in_default, then-these-ne0+else-fails, else-these-ne0}

pub returns-then-j-i : goal.returns-then-j-i
returns-then-j-i t c = search_full c.if-j-i.true

pub smaller-with-requires : goal.smaller-with-requires
smaller-with-requires t c =
    let l = c.loop-r in
    let a = c.args in
    let p = c.requires in
    let o = MatchOption-at_some _ _ _ c.in-Some.is (rw c.minus-undecided.ensures at c.choose.ensures) in
    let u = into-j a.i a.j a.out _ o p.1 p.2 in
    (subst (λ z. size (undecided a.i (a.j ∪ c.in-Some.a) a.out) < z) c.decreases u.0, (p.0, u.1, u.2))

pub smaller-without-requires : goal.smaller-without-requires
smaller-without-requires t c =
    let l = c.loop-r in
    let a = c.args in
    let p = c.requires in
    let o = MatchOption-at_some _ _ _ c.in-Some.is (rw c.minus-undecided.ensures at c.choose.ensures) in
    let u = into-out a.i a.j a.out _ o p.2 in
    (subst (λ z. size (undecided a.i a.j (a.out ∪ c.in-Some.a)) < z) c.decreases u.0, (p.0, p.1, u.1))

pub loop-r-preserved : goal.loop-r-preserved
loop-r-preserved t c =
    let l = c.loop-r in
    let a = c.args in
    let s = l.invariant.1 in (
      omega arith,
      elim c.if-these-ne0.branch [
        | then-these-ne0+then-fails+in-Some w ↦ search_is (w.left-is ∙ w.minus-left.ensures) w.found-is
            (search_splits s (w.fails.ensures.yes w.if-fails.true) (MatchOption-at_some _ _ _ w.in-Some.is (rw c.minus-undecided.ensures at w.choose.ensures)) w.minus.ensures w.smaller-with.ensures w.smaller-without.ensures)
        | then-these-ne0+then-fails+in_default w ↦ search_is (w.left-is ∙ w.minus-left.ensures) w.found-is
            (search_none s (omega arith) (w.fails.ensures.yes w.if-fails.true) (MatchOption-at_none _ _ w.in_default.is (rw c.minus-undecided.ensures at w.choose.ensures)))
        | then-these-ne0+else-fails w ↦ search_is w.left-is w.found-is (search_holds s (λ _ _ _. w.fails.ensures.no w.if-fails.false))
        | else-these-ne0 w ↦ search_is w.left-is w.found-is
            (search_holds s (λ b m o _. ∈-∅ (subst (λ z. b ∈ z) w.if-these-ne0.false ((∈-∩ b l.left (get_or a.on.now l.r 0)).1 (m, o)))))
      ],
    )

-- those found in the loop, and those that are left:
-- in these no rule that is on fails in j, which is such a subset
pub returns : goal.returns
returns t c =
    let p = c.requires in
    search_ends c.loop-r.invariant.1 (omega arith) (record { within = p.1; differ = c.if-j-i.false }) p.2
