-- The rules at a set as the lanes read them, in words: they say for which guesses the set is stable. Assumes nothing.
use Prim.Native.Nat.{ℕ, ◌^◌, ◌≤◌, ◌<◌}
use mathlib.Core.Path.{◌≡◌, refl, sym, ap, ◌∙◌, subst}
use mathlib.Core.List.{List}
use mathlib.Core.Logic.{◌↔◌, ⊎_elim}
use lib.ListN.{length, take}
use lib.Seq.{length-take-le, get_or-take}
use Rattle.sets.specs.Decides.{decided}
use Rattle.sets.specs.Lists.{◌among◌, up_to, among-map, among-up_to, map_up_to_same}
use Rattle.sets.specs.Sets.{◌⊆◌, Meets}
use Rattle.sets.specs.Members.{dec_meets}
use Rattle.semantics.specs.AtSet.{need, GatheredRule, StableBy}
use Rattle.semantics.proofs.Theorems.Need.{need_by_set}
use Rattle.guess.specs.declared.outline.Outline.{Outline}
use Rattle.guess.specs.Programs.{unmasked_in, Outlines}
use Rattle.guess.specs.Negations.{found_by}
use Rattle.guess.specs.Numbered.{found_is}
use Rattle.lanes.specs.declared.rule.Rule.{Rule}
use Rattle.lanes.specs.Cube.{InCube}
use Rattle.lanes.specs.Stable.{StableFor}
use Rattle.std.specs.Prelude.{Option, Some, None}
use Rattle.gather.specs.Gathers.{rule_from, rule_at, rules_at, at_set, GatheredAt}

-- ---- what the set needs, as the code finds it
pub need_is : {x : Outline} {words : List ℕ} → Outlines x words → (i : ℕ) → i < 2 ^ x.atoms → found_by x i i ≡ need (unmasked_in x words) i
need_is {x} {words} o i h = found_is o i i ∙ sym (need_by_set (unmasked_in x words) i h)

-- ---- a rule in the room, by its number
among_room : (room : List Rule) (n : ℕ) {e : GatheredRule} → e among rules_at room n ↔ ((r : ℕ) × (r < n) × (e ≡ rule_at room r))
unfolding rules_at
among_room room n = (
  λ m. let (r, k, e) = (among-map (rule_at room) (up_to n)).0 m in (r, (among-up_to n).0 k, e),
  λ p. (among-map (rule_at room) (up_to n)).1 (p.0, (among-up_to n).1 p.1, p.2),
)

-- by the rules in the room
pub stable_in : (room : List Rule) (n i g : ℕ) → StableFor room n i g ↔ StableBy (rules_at room n) i g
stable_in room n i g = (
  λ t. record {
    model = λ e m z o. let (r, h, q) = (among_room room n).0 m in
        t.model.rule r h (subst (λ (y : GatheredRule). y.head ≡ 0) q z)
        (subst (λ (y : GatheredRule). InCube y.misses y.holds g) q (record { apart = o.apart; within = o.within }));
    minimal = λ j l f. t.minimal j l (λ r h o w. w.head
        (f (rule_at room r) ((among_room room n).1 (r, h, refl)) (record { apart = o.apart; within = o.within }) w.body));
  },
  λ t. record {
    model = record { rule = λ r h z o. t.model (rule_at room r) ((among_room room n).1 (r, h, refl)) z (record { apart = o.apart; within = o.within }) };
    minimal = λ j l f. t.minimal j l (λ e m o b.
        let (r, h, q) = (among_room room n).0 m in
        ⊎_elim (λ w. w) (λ w. absurd (f r h
        (subst (λ (y : GatheredRule). InCube y.misses y.holds g) q (record { apart = o.apart; within = o.within }))
        (record { body = subst (λ (y : GatheredRule). y.plain ⊆ j) q b; head = subst (λ (y : GatheredRule). Meets y.head j → ⊥) q w })))
        (decided (dec_meets e.head j)));
  },
)

same_first : (room : List Rule) (n : ℕ) → rules_at (take n room) n ≡ rules_at room n
unfolding rules_at
same_first room n = map_up_to_same (rule_at (take n room)) (rule_at room) n (λ j k. ap rule_from (get_or-take n room j _ k))

-- and so by those gathered
pub stable-at : (room : List Rule) {n : ℕ} {es : List GatheredRule} (i g : ℕ) → n ≤ length room → rules_at room n ≡ es
    → StableFor (take n room) (length (take n room)) i g ↔ StableBy es i g
stable-at room {n} {es} i g h e =
    subst (λ k. StableFor (take n room) k i g ↔ StableBy es i g) (sym (length-take-le n room h))
    (subst (λ z. StableFor (take n room) n i g ↔ StableBy z i g) (same_first room n ∙ e) (stable_in (take n room) n i g))

-- ---- what was gathered
module _ (x : Outline) (words : List ℕ) (i : ℕ) (room : List Rule) (r : Option ℕ) (is : GatheredAt x words i room r) where
  pub none-stable : r ≡ None → (g : ℕ) → StableBy (at_set x words i) i g → ⊥
  none-stable e = subst (GatheredAt x words i room) e is

  pub some-rules : {n : ℕ} → r ≡ Some n → (n ≤ x.rules) × (rules_at room n ≡ at_set x words i)
  some-rules e = subst (GatheredAt x words i room) e is
