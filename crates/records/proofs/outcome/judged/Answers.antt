-- `records::outcome::judged` meets its contract. Assumes nothing.
use native.Mathlib.Omega.{arith}
use lib.Pow.{pow_mono}
use Rattle.semantics.specs.Words.{program_in}
use Rattle.records.proofs.Judging.{sets-fit}
use Rattle.records.proofs.outcome.judged.Goals as goal

pub overflow_cast-result : goal.overflow_cast-result
overflow_cast-result c =
    let few = sets-fit c.args.x c.args.guess (program_in c.args.program.now c.args.rules) c.judge.ensures c.in-Verified.is in
    omega (arith, few, pow_mono c.requires.2.0)
