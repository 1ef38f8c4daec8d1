-- `engine::in_order::list_from` meets its contract. Assumes nothing.
use mathlib.Core.Path.{◌≡◌, refl, subst}
use native.Mathlib.Omega.{arith}
use mathlib.Core.List.{List}
use Prim.Native.Nat.{ℕ}
use lib.ListN.{length}
use Rattle.semantics.specs.Definitions.Returned.{refusal}
use Rattle.semantics.specs.Definitions.Calls.{list_call, records_of}
use Rattle.records.specs.Records.{views_in_long}
use Rattle.guess.specs.declared.outline.Outline.{Outline}
use Rattle.guess.specs.Programs.{Outlines}
use Rattle.std.specs.Prelude.{Ok}
use Rattle.source.specs.Sources.{Source, Outlined}
use Rattle.std.proofs.lemmas.Result.{err_from_is_err_and}
use Rattle.engine.proofs.Laws.{list_returned, list_short, list_turned_back, kept, filled}
use borrow.Author.Rules.{rules}
use Rattle.engine.proofs.in_order.list_from.Goals as goal

outline : (r : Source) {x : Outline} {words : List ℕ} → Outlined r words → r ≡ Ok x → Outlines x words
outline r {x} {words} h e = subst (λ z. Outlined z words) e h

pub list_in_order-t-requires : goal.list_in_order-t-requires
list_in_order-t-requires c = (outline c.args.source c.requires c.in_ok-x.was, search rules)

pub returns-then-out-t : goal.returns-then-out-t
returns-then-out-t c =
    let a = c.args in
    let w = c.list_in_order-t in
    let many = views_in_long w.new.records w.result.views in record {
      out_len_unchanged = refl;
      lists = λ from h. kept (λ v. v.tally) records_of a.out.now (subst (λ n. list_call from (length a.out.now) ≡ refusal 9 n) many
          (list_short from a.words.now a.source h (length a.out.now) c.in_ok-x.was _ _ w.ensures.result_value w.ensures.views_after (omega (arith, many, c.if-out-t.true))));
    }

pub returns : goal.returns
returns c =
    let a = c.args in
    let w = c.list_in_order-t in
    let many = views_in_long w.new.records w.result.views in record {
      out_len_unchanged = search rules;
      lists = λ from h. filled (λ v. v.tally) records_of a.out.now
          (list_returned from a.words.now a.source h (length a.out.now) c.in_ok-x.was _ _ w.ensures.result_value w.ensures.views_after
          (omega (arith, many, c.if-out-t.false)))
          refl c.write_records.ensures;
    }

pub returns-in_err-x-clause-lists : goal.returns-in_err-x-clause-lists
returns-in_err-x-clause-lists c =
    let a = c.args in
    let p = err_from_is_err_and c.from_residual.result c.from_residual.ensures.1 in
    rw (p.1, p.2) (λ from h. kept (λ v. v.tally) records_of a.out.now (list_turned_back from a.words.now a.source h (length a.out.now) c.in_err-x.was))
