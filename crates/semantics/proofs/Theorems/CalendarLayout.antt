-- The layout of a calendar, said without reading: its bytes are accepted, and a list of bytes is accepted exactly when it is the layout of
-- at most 64 proper entries, and then it has these. Assumes nothing.
use Prim.Native.Nat.{ℕ, zero, suc, ◌+◌, ◌*◌, ◌/◌, ◌%◌, ◌≤◌, ◌<◌}
use Rattle.std.specs.Prelude.{◌≡◌, refl, ◌↔◌, length, drop}
use Rattle.std.proofs.Common.{sym, ◌∙◌, subst, drop-cons, ext_get_or}
use Rattle.std.proofs.Math.Path.{ap, ap₂}
use mathlib.Core.List.{List, [], ◌∷◌, ◌++◌}
use native.Mathlib.Omega.{arith}
use Rattle.std.proofs.Math.ListN.{get_or, take}
use Rattle.std.proofs.lemmas.List.{length-map}
use Rattle.std.proofs.Math.Seq.{take-add, take-suc, take-length}
use Rattle.sets.specs.Lists.{nowhere, all_cons, all_get_d, all_flat, get_or-among, flat, flat_snoc, up_to, length-up_to, get_or-up_to, map_up_to_suc}
use Rattle.semantics.specs.Definitions.Reading.{field}
use Rattle.semantics.specs.Definitions.Sheet.{byte_at, word_at}
use Rattle.semantics.specs.Definitions.Calendar.{most_entries, Entry, calendar_of}
use Rattle.semantics.specs.Theorems.InForce.{Proper, AllProper}
use Rattle.semantics.specs.Theorems.Layout.{IsBytes}
use Rattle.semantics.specs.Theorems.CalendarCases.{entry_place, entry_by, entries_of_bytes, CalendarAccepts}
use Rattle.semantics.proofs.Theorems.CalendarExact.{calendar-read, calendar_accepted_exactly}
use Rattle.semantics.specs.Theorems.CalendarLayout.{entry_bytes, calendar_bytes}

-- ---- the layout is accepted
length_entries : (es : List Entry) → length (flat entry_bytes es) ≡ 5 * length es
unfolding flat
length_entries [] = refl
length_entries (e ∷ es) = omega (arith, length_entries es)

byte_from : (es : List Entry) (i j : ℕ) → get_or (flat entry_bytes es) (5 * i + j) 0 ≡ get_or (flat entry_bytes (drop i es)) j 0
unfolding flat
byte_from es zero j = let z : 5 * 0 + j ≡ j = omega arith in ap (λ k. get_or (flat entry_bytes es) k 0) z
byte_from [] (suc i) j = refl
byte_from (e ∷ es) (suc i) j =
    let z : 5 * suc i + j ≡ suc (suc (suc (suc (suc (5 * i + j))))) = omega arith in
    ap (λ k. get_or (flat entry_bytes (e ∷ es)) k 0) z ∙ byte_from es i j

-- what stands where there is no entry
abbrev no_entry : Entry
no_entry = record { rule = 0; first = 0; end = 0 }

module _ (es : List Entry) where
  byte_of : (i j p : ℕ) → p ≡ suc (5 * i + j) → i < length es
      → byte_at (calendar_bytes es) p ≡ get_or (flat entry_bytes (get_or es i no_entry ∷ drop (suc i) es)) j 0
  byte_of i j p z l = ap (byte_at (calendar_bytes es)) z ∙ byte_from es i j ∙ ap (λ l. get_or (flat entry_bytes l) j 0) (drop-cons es i no_entry l)

  entry_there : (i : ℕ) → i < length es → entry_by (calendar_bytes es) i ≡ get_or es i no_entry
  unfolding flat
  entry_there i l =
      let e = get_or es i no_entry in
      let c = calendar_bytes es in
      let p = entry_place i in
      let r : byte_at c p ≡ e.rule = byte_of i 0 p (omega arith) l in
      let b₁ : byte_at c (p + 1) ≡ e.first % 256 = byte_of i 1 (p + 1) (omega arith) l in
      let b₂ : byte_at c (p + 1 + 1) ≡ e.first / 256 = byte_of i 2 (p + 1 + 1) (omega arith) l in
      let b₃ : byte_at c (p + 3) ≡ e.end % 256 = byte_of i 3 (p + 3) (omega arith) l in
      let b₄ : byte_at c (p + 3 + 1) ≡ e.end / 256 = byte_of i 4 (p + 3 + 1) (omega arith) l in
      let f : word_at c (p + 1) ≡ e.first = omega arith in
      let g : word_at c (p + 3) ≡ e.end = omega arith in
      rw (r, f, g)

  entries_there : es ≡ entries_of_bytes (calendar_bytes es) (length es)
  entries_there =
      let f = entry_by (calendar_bytes es) in
      let n = length es in
      ext_get_or no_entry es (entries_of_bytes (calendar_bytes es) n) (sym (length-map (up_to n) f ∙ length-up_to n))
      (λ i l. sym (get_or-up_to f no_entry n i l ∙ entry_there i l))

  module _ (rules : ℕ) (few : length es ≤ most_entries) (all : AllProper rules es) where
    laid_out_so : CalendarAccepts (calendar_bytes es) rules es (length (calendar_bytes es))
    laid_out_so =
        let len = length_entries es in
        record {
          counted = (omega arith, few);
          all_good = λ j l. (omega arith, subst (Proper rules) (sym (entry_there j l)) (all _ (get_or-among es no_entry j l)));
          whole = omega arith;
          entries_lie = entries_there;
          ends = refl;
        }

    pub calendar_laid_out : calendar_of (calendar_bytes es) rules ≡ field es (length (calendar_bytes es))
    calendar_laid_out = (calendar_accepted_exactly (calendar_bytes es) rules es (length (calendar_bytes es))).1 laid_out_so

    -- and it has bytes only, where every rule number is one byte
    pub calendar_small : rules ≤ 256 → IsBytes (calendar_bytes es)
    calendar_small l =
        small_cons (omega arith) (all_flat (λ b. b < 256) entry_bytes es (λ e m. entry_small e (all e m)))
      where
        small_cons : {b : ℕ} {s : List ℕ} → b < 256 → IsBytes s → IsBytes (b ∷ s)
        small_cons = all_cons (λ b. b < 256)

        entry_small : (e : Entry) → Proper rules e → IsBytes (entry_bytes e)
        entry_small e p =
            let r = p.on_sheet in
            let f = p.first_minute in
            let g = p.end_minute in
            small_cons (omega arith) (small_cons (omega arith) (small_cons (omega arith) (small_cons (omega arith)
            (small_cons (omega arith) (λ b m. absurd (nowhere m))))))

-- ---- what is accepted is a layout
module _ (c : List ℕ) (small : (i : ℕ) → byte_at c i < 256) where
  byte_then : (p q : ℕ) → suc p ≡ q → p < length c → drop p c ≡ byte_at c p ∷ drop q c
  byte_then p q e l = drop-cons c p 0 l ∙ ap (λ q. byte_at c p ∷ drop q c) e

  five_bytes : (p : ℕ) → p + 5 ≤ length c
      → take 5 (drop p c) ≡ byte_at c p ∷ byte_at c (p + 1) ∷ byte_at c (p + 1 + 1) ∷ byte_at c (p + 3) ∷ byte_at c (p + 3 + 1) ∷ []
  five_bytes p l =
      let b = byte_at c in
      let d₀ : drop p c ≡ b p ∷ drop (p + 1) c = byte_then p (p + 1) (omega arith) (omega arith) in
      let d₁ : drop (p + 1) c ≡ b (p + 1) ∷ drop (p + 1 + 1) c = byte_then (p + 1) (p + 1 + 1) (omega arith) (omega arith) in
      let d₂ : drop (p + 1 + 1) c ≡ b (p + 1 + 1) ∷ drop (p + 3) c = byte_then (p + 1 + 1) (p + 3) (omega arith) (omega arith) in
      let d₃ : drop (p + 3) c ≡ b (p + 3) ∷ drop (p + 3 + 1) c = byte_then (p + 3) (p + 3 + 1) (omega arith) (omega arith) in
      let d₄ : drop (p + 3 + 1) c ≡ b (p + 3 + 1) ∷ drop (p + 5) c = byte_then (p + 3 + 1) (p + 5) (omega arith) (omega arith) in
      rw (d₀, d₁, d₂, d₃, d₄)

  entry-bytes : (i : ℕ) → entry_place i + 5 ≤ length c → take 5 (drop (entry_place i) c) ≡ entry_bytes (entry_by c i)
  entry-bytes i l =
      let p = entry_place i in
      let low : byte_at c (p + 1) ≡ word_at c (p + 1) % 256 = omega (arith, small (p + 1)) in
      let high : byte_at c (p + 1 + 1) ≡ word_at c (p + 1) / 256 = omega (arith, small (p + 1)) in
      let low' : byte_at c (p + 3) ≡ word_at c (p + 3) % 256 = omega (arith, small (p + 3)) in
      let high' : byte_at c (p + 3 + 1) ≡ word_at c (p + 3) / 256 = omega (arith, small (p + 3)) in
      five_bytes p l
      ∙ ap₂ (λ a b. byte_at c p ∷ a ∷ b ∷ byte_at c (p + 3) ∷ byte_at c (p + 3 + 1) ∷ []) low high
      ∙ ap₂ (λ a b. byte_at c p ∷ word_at c (p + 1) % 256 ∷ word_at c (p + 1) / 256 ∷ a ∷ b ∷ []) low' high'

  bytes_up_to : (i : ℕ) → entry_place i ≤ length c → take (entry_place i) c ≡ byte_at c 0 ∷ flat entry_bytes (entries_of_bytes c i)
  unfolding up_to flat
  bytes_up_to zero l = take-suc c 0 0 l
  bytes_up_to (suc i) l =
      let z : entry_place (suc i) ≡ entry_place i + 5 = omega arith in
      ap (λ k. take k c) z ∙ take-add (entry_place i) 5 c ∙ ap₂ ◌++◌ (bytes_up_to i (omega arith)) (entry-bytes i (omega arith))
      ∙ ap (λ t. byte_at c 0 ∷ t) (sym (flat_snoc entry_bytes (entries_of_bytes c i) (entry_by c i)))
      ∙ ap (λ es. byte_at c 0 ∷ flat entry_bytes es) (sym (map_up_to_suc (entry_by c) i))

-- the bytes of an accepted calendar are those that its entries have by the layout
pub calendar-bytes : (c : List ℕ) → IsBytes c → (rules : ℕ) (es : List Entry) (end : ℕ) → calendar_of c rules ≡ field es end → c ≡ calendar_bytes es
calendar-bytes c small rules es end e =
    let h = (calendar_accepted_exactly c rules es end).0 e in
    sym (take-length c) ∙ ap (λ k. take k c) h.whole
    ∙ bytes_up_to c (all_get_d (λ b. b < 256) c 0 small (omega arith)) (byte_at c 0) (omega (arith, h.whole))
    ∙ ap₂ (λ b l. b ∷ flat entry_bytes l) (calendar-read c rules es end e).count_byte (sym h.entries_lie)

pub calendar_layout_exactly : (c : List ℕ) → IsBytes c → (rules : ℕ) (es : List Entry) (end : ℕ) → calendar_of c rules ≡ field es end
    ↔ ((length es ≤ most_entries) × AllProper rules es × (c ≡ calendar_bytes es) × (end ≡ length c))
calendar_layout_exactly c small rules es end = (
  λ e. let r = calendar-read c rules es end e in
      (r.few_entries, r.all_proper, calendar-bytes c small rules es end e, ((calendar_accepted_exactly c rules es end).0 e).ends),
  λ (few, all, same, last). ap (λ b. calendar_of b rules) same ∙ calendar_laid_out es rules few all ∙ ap (field es) (sym (last ∙ ap length same)),
)
