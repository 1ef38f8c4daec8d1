-- The numbers for which a set is stable, by three tests: no empty head, support, no smaller model. Assumes nothing.
use Rattle.std.specs.Prelude.{ℕ, ◌+◌, ◌*◌, ◌<◌, List}
use Rattle.std.proofs.Common.{⊎_elim}
use Rattle.sets.specs.Decides.{decided}
use Rattle.sets.specs.Sets.{◌∈◌, ◌∖◌, ∅, single}
use Rattle.sets.specs.Members.{∈-∅, ∅-⊆, dec_∈, ∖-⊂}
use Rattle.lanes.specs.declared.rule.Rule.{Rule}
use Rattle.lanes.specs.Lanes.{Lanes, lanes_self, lanes_iff, lanes_minus}
use Rattle.lanes.specs.Stable.{HeadsMeet, StableFor, LanesOn}
use Rattle.search.specs.Smaller.{Small}
use Rattle.search.specs.Supported.{Kept, less_passes}

module _ (rules : List Rule) (on : List ℕ) (n i w lanes : ℕ) {model : ℕ} (p : Lanes (λ b. (b ∈ lanes) × HeadsMeet rules n (64 * w + b)) model) where
  module _ (s : LanesOn rules w model n on) {left : ℕ} (k : Kept rules on i n model left) where
    -- in a lane that is not left the set without one atom is a model of the rules that are on
    struck : {b : ℕ} → b < 64 → b ∈ model → (b ∈ left → ⊥) → StableFor rules n i (64 * w + b) → ⊥
    struck {b} l m f t =
        let (a, h, u) = k.struck m f in
        t.minimal (i ∖ single a) (∖-⊂ h) (λ r q o. (less_passes u).rule r q (((s.rule q).lane l).1 (m, o)))

    pub stable-some : {small : ℕ} → Lanes (λ b. (b ∈ left) × Small rules on n i ∅ ∅ b) small → Lanes (λ b. (b ∈ lanes) × StableFor rules n i (64 * w + b)) (left ∖ small)
    stable-some q =
        lanes_iff (λ b l. (
          λ u. let m = k.within u.0 in let (h, d) = (p.lane l).0 m in (
            h,
            record {
              model = d;
              minimal = λ j z f. u.1 (u.0, record { set = j; from = ∅-⊆; within = z; apart = λ m. ∈-∅ m.right; passes = record { rule = λ r h o. f r h (((s.rule h).lane l).0 o).1 } });
            },
          ),
          λ u. let m = (p.lane l).1 (u.0, u.1.model) in (
            ⊎_elim (λ y. y) (λ y. absurd (struck l m y u.1)) (decided (dec_∈ b left)),
            λ v. let t = v.1 in u.1.minimal t.set t.within (λ r h o. t.passes.rule r h (((s.rule h).lane l).1 (m, o))),
          ),
        )) (lanes_minus lanes_self q)
