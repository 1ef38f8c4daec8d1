-- A turn of a sheet. Assumes nothing.
use Prim.Native.Nat.{ℕ, zero, suc, ◌+◌, ◌^◌, ◌≤◌, ◌<◌}
use mathlib.Core.Path.{◌≡◌, sym, ap, ◌∙◌, subst}
use mathlib.Core.List.{List, [], ◌∷◌}
use native.Mathlib.Nat.{not-suc-le-zero, le_of_suc-le-suc}
use native.Mathlib.Omega.{arith}
use lib.ListN.{length, get_or, set, length-set}
use lib.Seq.{get_or-set_same, get_or-set_other}
use Rattle.semantics.specs.Definitions.Setting.{k}
use Rattle.semantics.specs.Definitions.Check.{most_negations}
use Rattle.semantics.specs.Definitions.Order.{order as order_of}
use Rattle.semantics.specs.Definitions.Sharing.{tests_of, met_in, finished_in, in_all}
use Rattle.semantics.specs.Theorems.Tests.{StandsAt}
use Rattle.order.specs.Table.{table_width}
use Rattle.order.specs.Ordered.{table-members, table_enumerates}
use Rattle.guess.specs.declared.outline.Outline.{Outline}
use Rattle.guess.specs.Programs.{setting_in, Outlines}
use Rattle.source.specs.Sources.{Source}
use Rattle.listing.specs.declared.paused.Paused.{Paused}
use Rattle.records.specs.Records.{views_in}
use Rattle.listing.specs.Pauses.{fresh, waits, Along, Stands}
use Rattle.listing.proofs.Reaching.{few_counts, at_end}
use Rattle.sharing.specs.Held.{unread, setting_at, Goes, Has, spent_in, Turned}

-- where a listing stands in the built-in order is what its sheet has
pub has_of : {x : Outline} {words : List ℕ} → Outlines x words → (l : List ℕ) → l ≡ order_of table_width → (t : ℕ) (p : Paused) (records : List ℕ) → Stands (setting_in x words) l t p records
    → Has (setting_in x words) t p records
unfolding tests_of met_in finished_in
has_of {x} {words} o l is t p records stands =
    let s = setting_in x words in
    let few : k s ≤ table_width = omega (arith, o.counted, o.few_negations) in
    let h : StandsAt s (order_of (k s)) t p.tally.tested (views_in records p.tally.views) (waits p) =
    subst (λ m. StandsAt s m t p.tally.tested (views_in records p.tally.views) (waits p)) (table-members is few) stands in
    record {
      tests_are = h.tests_are;
      views_are = h.met_are;
      waits_where = h.waits_where;
    }

-- past the last entry it has all its tests
pub has_end : {x : Outline} {words : List ℕ} → Outlines x words → (l : List ℕ) → l ≡ order_of table_width → (p : Paused) (program records : List ℕ) → Along x words l p program records
    → p.at ≡ length l → Has (setting_in x words) (2 ^ most_negations) p records
has_end o l is p program records along end =
    let en = table_enumerates is o.few_negations in
    let few : p.tally.tested ≤ 2 ^ most_negations = omega (arith, few_counts l o en along) in
    has_of o l is (2 ^ most_negations) p records (at_end l o en (2 ^ most_negations) along end few)

-- all tests, once one sheet has others
pub spent_set : (l : List Paused) (p : ℕ) (y : Paused) → p < length l → spent_in (set l p y) + (get_or l p fresh).tally.tested ≡ spent_in l + y.tally.tested
unfolding in_all
spent_set [] p y h = absurd (not-suc-le-zero h)
spent_set (x ∷ l) zero y h = omega arith
spent_set (x ∷ l) (suc p) y h = omega (arith, spent_set l p y (le_of_suc-le-suc h))

module _ (sources : List Source) (words : List (List ℕ)) (order : List ℕ) (p t : ℕ) (states : List Paused) (programs records : List (List ℕ)) where
  pub turned : p < length states → p < length programs → p < length records → (y : Paused) (program' records' : List ℕ)
      → Goes (get_or sources p unread) (get_or words p []) order y program' records' → Has (setting_at sources words p) t y records'
      → Turned sources words order p t states (set states p y) programs (set programs p program') records (set records p records')
  turned in-states in-programs in-records y program' records' goes has = record {
    long = length-set states p y;
    goes = came3 (Goes (get_or sources p unread) (get_or words p []) order) state program (record_at_lem) goes;
    has = subst (λ z. Has (setting_at sources words p) t z (get_or (set records p records') p [])) (sym state)
        (subst (λ z. Has (setting_at sources words p) t y z) (sym record_at_lem) has);
    other_states = λ q d. get_or-set_other states p q y fresh d;
    other_programs = λ q d. get_or-set_other programs p q program' [] d;
    other_records = λ q d. get_or-set_other records p q records' [] d;
    in_all = spent_set states p y in-states ∙ ap (λ z. spent_in states + z.tally.tested) (sym state);
  }
    where
      state : get_or (set states p y) p fresh ≡ y
      state = get_or-set_same states p y fresh in-states

      program : get_or (set programs p program') p [] ≡ program'
      program = get_or-set_same programs p program' [] in-programs

      record_at_lem : get_or (set records p records') p [] ≡ records'
      record_at_lem = get_or-set_same records p records' [] in-records

      came3 : (P : Paused → List ℕ → List ℕ → Type 0) {a a' : Paused} {b b' c c' : List ℕ} → a ≡ a' → b ≡ b' → c ≡ c' → P a' b' c' → P a b c
      came3 P {a} {a'} {b} {b'} {c} {c'} d e f h = subst (λ z. P z b c) (sym d) (subst (λ z. P a' z c) (sym e) (subst (λ z. P a' b' z) (sym f) h))
