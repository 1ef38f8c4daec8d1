-- `guess::outline::outline_of` meets its contract. Assumes nothing.
use Prim.Native.Nat.{◌+◌}
use mathlib.Core.Path.{◌≡◌, refl, sym, ap, ap₂, ◌∙◌}
use mathlib.Core.List.{map}
use native.Mathlib.Omega.{arith}
use Rattle.sets.specs.Sets.{size}
use Rattle.semantics.specs.Definitions.Sheet.{rule_of_masks}
use Rattle.semantics.specs.Definitions.Setting.{setting_of, k}
use Rattle.semantics.specs.Words.{rules_in}
use Rattle.semantics.specs.Theorems.Subjects.{k-size}
use Rattle.guess.proofs.outline.outline_of.Goals as goal

-- the members of the two sets are the negations
counted : (c : goal.After-size-2) →
    c.size.result + c.size-2.result ≡ k (setting_of c.args.atoms (map rule_of_masks (rules_in c.args.words.now c.args.rules)))
counted c =
    let a = c.args in
    ap₂ ◌+◌ (c.size.ensures ∙ ap size c.in_masks-k_atoms.ensures) (c.size-2.ensures ∙ ap size c.in_masks-m_atoms.ensures)
    ∙ sym (k-size a.atoms (rules_in a.words.now a.rules) c.requires.below)

pub returns : goal.returns
returns c =
    let p = c.requires in
    let many = counted c in record {
      atoms_value = (refl, refl, refl, refl);
      outlines = record {
        few_atoms = p.few_atoms;
        few_rules = p.few_rules;
        stand = p.stand;
        below = p.below;
        k-atoms = c.in_masks-k_atoms.ensures;
        m-atoms = c.in_masks-m_atoms.ensures;
        counted = many;
        few_negations = omega (arith, p.few_negations);
      };
    }
