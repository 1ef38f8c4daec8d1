-- The sheets as they are read, and the whole call. Assumes nothing.
use Prim.Native.Nat.{ℕ, ◌≤◌, ◌<◌}
use mathlib.Core.Path.{◌≡◌, refl, sym, ap, ◌∙◌, subst}
use mathlib.Core.List.{List, []}
use native.Mathlib.Nat.{zero-add}
use native.Mathlib.Omega.{arith}
use borrow.Author.Tests.{lt-ltb, le-ltb, le-leb, lt-leb}
use lib.ListN.{length, get_or, take, length-map}
use lib.Seq.{length-take-le, get_or-take}
use Rattle.sets.specs.Lists.{up_to, length-up_to, get_or-up_to}
use Rattle.semantics.specs.Definitions.Setting.{Setting}
use Rattle.semantics.specs.Definitions.Returned.{Returned, accepted}
use Rattle.semantics.specs.Definitions.Check.{of_sheet}
use Rattle.semantics.specs.Definitions.Sharing.{shares_of, granted, denied, ◌and_so◌, of_sheets, shares_into, share_call}
use Rattle.allowance.specs.SheetBySheet.{each_granted, each_denied}
use Rattle.guess.specs.declared.outline.Outline.{Outline}
use Rattle.source.specs.Sources.{Source}
use Rattle.std.specs.Prelude.{Ok, Some, None}
use Rattle.answers.specs.Refusals.{number_of}
use Rattle.source.specs.Sources.{Reads}
use Rattle.sharing.specs.declared.result.SharedRefusal.{SharedRefusal}
use Rattle.sharing.specs.Held.{unread, setting_from, IsRead, setting_at, settings_in, ReadTo, AllRead}
use Rattle.sharing.specs.Refusals.{AcceptedTo, FirstRefused}

-- a sheet that is accepted has the setting of its words
reads_setting : (from : Returned Setting) (source : Source) (words : List ℕ) {x : Outline} → source ≡ Ok x → Reads from source words → (from ≡ accepted (setting_from source words)) × IsRead source words
reads_setting from source words {x} e reads =
    let r = subst (λ z. Reads from z words) e reads in
    (r.1 ∙ ap (λ z. accepted (setting_from z words)) (sym e), subst (λ z. IsRead z words) (sym e) r.0)

module _ (sources : List Source) (words sheets : List (List ℕ)) (n : ℕ) (few : n ≤ length sheets) (read : ReadTo sources words sheets n) where
  first_n : length (take n sheets) ≡ n
  first_n = length-take-le n sheets few

  is_setting : (p : ℕ) → p ≤ n → AcceptedTo sources p → (q : ℕ) → q < p → of_sheet (get_or (take n sheets) q []) ≡ accepted (setting_at sources words q)
  is_setting p within all q h =
      let b : q < n = omega (arith, h, within) in
      ap of_sheet (get_or-take n sheets q [] b) ∙ (reads_setting _ (get_or sources q unread) (get_or words q []) (all q h).1 (read q b)).0

  pub all_read : FirstRefused sources n None → AllRead sources words n
  all_read all q h = (reads_setting _ (get_or sources q unread) (get_or words q []) (all q h).1 (read q h)).1

  pub sheets_granted : FirstRefused sources n None → of_sheets (take n sheets) ≡ granted (settings_in sources words n)
  sheets_granted all =
      let none = setting_at sources words 0 in
      each_granted (λ _ sheet. of_sheet sheet) 0 (take n sheets) (settings_in sources words n) [] none (length-map (up_to n) (setting_at sources words) ∙ length-up_to n ∙ sym first_n)
      (λ q h.
      let b : q < n = omega (arith, h, first_n) in
      is_setting n (omega arith) all q b ∙ ap accepted (sym (get_or-up_to (setting_at sources words) none n q b)))

  pub sheets_denied : {r : SharedRefusal} → FirstRefused sources n (Some r)
      → of_sheets (take n sheets) ≡ denied (number_of r.refusal.reason) r.refusal.place r.position
  sheets_denied {r} (h, all, e) =
      let position = r.position in
      let number = number_of r.refusal.reason in
      each_denied (λ _ sheet. of_sheet sheet) 0 (take n sheets) [] position number r.refusal.place (omega (arith, h, first_n)) (λ p b. (setting_at sources words p, is_setting position (omega (arith, h)) all p b))
      (ap of_sheet (get_or-take n sheets position [] h) ∙ subst (λ z. Reads (of_sheet (get_or sheets position [])) z (get_or words position [])) e (read position h))
      ∙ ap (denied number r.refusal.place) (zero-add position)

-- ---- the whole call
module _ (count : ℕ) (sheets : List (List ℕ)) (allowance : ℕ) (rooms : List ℕ) where
  pub without_sheets : count ≡ 0 → share_call count sheets allowance rooms ≡ denied 14 0 0
  unfolding share_call
  without_sheets e = rw (le-ltb 0 count (omega (arith, e))) refl

  pub over-four : 4 < count → share_call count sheets allowance rooms ≡ denied 14 0 0
  unfolding share_call
  over-four h = rw (lt-ltb 0 count (omega (arith, h)), lt-leb count 4 h) refl

  pub one_to_four : 0 < count → count ≤ 4 → share_call count sheets allowance rooms ≡ (of_sheets (take count sheets) and_so λ ss. shares_into rooms (shares_of allowance ss))
  unfolding share_call
  one_to_four h k = rw (lt-ltb 0 count h, le-leb count 4 k) refl
