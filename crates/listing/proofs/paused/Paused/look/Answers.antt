-- `listing::paused::Paused::look` meets its contract. Assumes nothing.
use mathlib.Core.Path.{◌≡◌, refl, sym, ap, subst, ◌∙◌}
use mathlib.Core.Bool.{true, true≢false}
use Prim.Native.Nat.{◌≤◌}
use Rattle.std.specs.Prelude.{is_some}
use Rattle.semantics.specs.Words.{program_room, program_in}
use Rattle.guess.specs.Programs.{unmasked_in}
use Rattle.sets.specs.Decides.{dec_self}
use Rattle.guess.specs.Numbered.{few_of, guess_below}
use Rattle.guess.specs.Settings.{contradicted_by}
use borrow.Author.Rules.{rules}
use Rattle.listing.proofs.paused.Paused.look.Goals as goal

pub contradicted-requires : goal.contradicted-requires
contradicted-requires c =
    let pre = c.requires.outlines in
    (search rules, few_of pre.0, guess_below pre.0 pre.1)

pub returns-then-contradicted : goal.returns-then-contradicted
returns-then-contradicted c =
    let a = c.args in
    let pre = c.requires in record {
      program_len_unchanged = c.reduct-rules.ensures.out_len_unchanged;
      looked = record {
        same_at = refl;
        where_waits = λ rules e. absurd (true≢false (sym (ap is_some e) ∙ pre.waits_value.0));
        where_ruled = λ _. (
          sym (contradicted_by pre.outlines.0 a.guess c.reduct-rules.ensures.result_after) ∙ sym c.contradicted.ensures ∙ c.if-contradicted.true,
          c.count-next.ensures,
        );
      };
    }

pub returns : goal.returns
returns c =
    let a = c.args in
    let pre = c.requires in
    let reduct = c.reduct-rules.ensures in record {
      program_len_unchanged = reduct.out_len_unchanged;
      looked = record {
        same_at = refl;
        where_waits = λ rules e.
            let is : c.reduct-rules.result ≡ rules = cc in (
              refl,
              sym (contradicted_by pre.outlines.0 a.guess reduct.result_after) ∙ sym c.contradicted.ensures ∙ c.if-contradicted.false,
              subst (λ n. n ≤ program_room) is reduct.upper_bound,
              subst (λ n. program_in c.reduct-rules.new.out n ≡ (unmasked_in a.x a.words.now).program a.guess) is reduct.result_after,
            );
        where_ruled = λ e. absurd ((dec_self true).no e refl);
      };
    }
