-- The nogoods kept. Assumes nothing.
use Rattle.std.specs.Prelude.{ℕ, ◌≡◌, List, replicate}
use Rattle.std.specs.List.{All}
use Rattle.std.proofs.lemmas.List.Elements.{All-same, All-replicate}
use Rattle.semantics.specs.Definitions.Rules.{Rule}
use Rattle.stable.specs.Nogoods.{Excludes, none_excluded}
use Rattle.stable.specs.declared.kept.Nogoods.{Nogoods}
use Rattle.stable.specs.declared.kept.TheConstants.{KEPT}

-- each of them excludes only sets that are not stable or that the masks don't allow
abbrev pub NogoodsHold : (ins outs : ℕ) → List Rule → Nogoods → Type 0
NogoodsHold ins outs p nogoods = All (λ r. Excludes ins outs p r.has r.lacks) nogoods.kept

-- where each is the set of atom 0, to be had and to be lacked, they exclude nothing
pub none_yet : (ins outs : ℕ) (p : List Rule) (nogoods : Nogoods) → nogoods.kept ≡ replicate KEPT (record { has = 1; lacks = 1 }) → NogoodsHold ins outs p nogoods
none_yet ins outs p nogoods e =
    All-same (λ r. Excludes ins outs p r.has r.lacks) nogoods.kept (replicate KEPT (record { has = 1; lacks = 1 })) e
    (All-replicate (λ r. Excludes ins outs p r.has r.lacks) KEPT (record { has = 1; lacks = 1 }) (none_excluded ins outs p))
