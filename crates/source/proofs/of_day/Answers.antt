-- `source::of_day` meets its contract. Assumes nothing.
use mathlib.Core.Path.{refl, sym, ◌∙◌}
use native.Mathlib.Omega.{arith}
use Rattle.semantics.specs.Definitions.Check.{opened}
use Rattle.sheet.specs.Opened.{opened_as}
use Rattle.source.proofs.Opened.{few_atoms, few_loaded, day_reads, day_reads_bad, day_reads_refused}
use Rattle.std.proofs.lemmas.Result.{err_from_is_err_and}
use Rattle.source.proofs.of_day.Goals as goal

pub masks_fit-requires : goal.masks_fit-requires
masks_fit-requires c = few_atoms c.args.sheet.now (sym c.open.ensures ∙ c.in_ok-x.was)

pub returns-then-not-masks_fit : goal.returns-then-not-masks_fit
returns-then-not-masks_fit c =
    let a = c.args in
    let told = sym c.open.ensures ∙ c.in_ok-x.was in
    record {
      words_len_unchanged = refl;
      reads = day_reads_bad a.sheet.now a.words.now a.ins a.outs told (sym c.masks_fit.ensures ∙ c.if-not-masks_fit.true);
    }

pub load-rules-requires : goal.load-rules-requires
load-rules-requires c =
    let sheet = c.args.sheet.now in
    let told = sym c.open.ensures ∙ c.in_ok-x.was in
    (opened_as (opened sheet) told, omega (arith, few_loaded sheet (opened_as (opened sheet) told), c.requires))

pub returns : goal.returns
returns c =
    let told = sym c.open.ensures ∙ c.in_ok-x.was in
    let fits = sym c.masks_fit.ensures ∙ c.if-not-masks_fit.false in
    let loaded = c.load-rules.ensures in
    record {
      words_len_unchanged = loaded.out_len_unchanged;
      reads = day_reads c.args.sheet.now _ c.args.ins c.args.outs (opened_as (opened c.args.sheet.now) told) fits _ loaded.value loaded.loads (omega (arith, loaded.out_len_unchanged, c.requires));
    }

pub returns-in_err-x-clause-reads : goal.returns-in_err-x-clause-reads
returns-in_err-x-clause-reads c =
    let a = c.args in
    let p = err_from_is_err_and c.from_residual.result c.from_residual.ensures.1 in
    rw (p.1, p.2) (day_reads_refused a.sheet.now a.words.now a.ins a.outs (sym c.open.ensures ∙ c.in_err-x.was))
