-- `candidates::candidates` meets its contract. Assumes nothing.
use Rattle.gather.proofs.Digesting.{exactly, as_many}
use Rattle.candidates.proofs.Struck.{none_allowed, none_models, supported_left}
use Rattle.candidates.proofs.candidates.Goals as goal

pub returns-then-allowed-eq0 : goal.returns-then-allowed-eq0
returns-then-allowed-eq0 c = none_allowed c.requires.0 (exactly c.requires.1) (as_many c.requires.1) c.args.w c.cube-allowed.ensures c.if-allowed-eq0.true

pub returns-then-models-eq0 : goal.returns-then-models-eq0
returns-then-models-eq0 c = none_models c.requires.0 (exactly c.requires.1) (as_many c.requires.1) c.args.w c.cube-allowed.ensures c.objective_models-models.ensures c.if-models-eq0.true

pub returns : goal.returns
returns c = supported_left c.requires.0 (exactly c.requires.1) (as_many c.requires.1) c.args.w c.cube-allowed.ensures c.objective_models-models.ensures c.supported_sets-by.ensures c.all_supported.ensures
