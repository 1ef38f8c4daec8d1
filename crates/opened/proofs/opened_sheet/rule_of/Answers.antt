-- `opened::opened_sheet::rule_of` meets its contract. Assumes nothing.
use Rattle.opened.specs.Fetched.{few_bytes, by_number}
use Rattle.opened.proofs.opened_sheet.rule_of.Goals as goal

pub rule_from-requires : goal.rule_from-requires
rule_from-requires c = few_bytes _ _ _ c.requires

pub returns : goal.returns
returns c = let a = c.args in by_number _ a.sheet.rules_at a.sheet.rules c.requires a.number c.rule_from.ensures
