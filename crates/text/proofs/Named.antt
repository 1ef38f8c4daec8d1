-- The names of an accepted sheet, where they lie in its bytes, and the lines that name them. Assumes nothing.
use Prim.Native.Nat.{ℕ, zero, suc, ◌+◌, ◌≤◌, ◌<◌}
use mathlib.Core.Path.{◌≡◌, refl, sym, ap, ap₂, ◌∙◌}
use mathlib.Core.Bool.{Bool, true, false, cond}
use mathlib.Core.List.{List, [], ◌∷◌, ◌++◌, map, append_assoc}
use native.Mathlib.Nat.{le_of_suc-le-suc, not-suc-le-zero}
use native.Mathlib.Numerals.{add-one}
use native.Mathlib.Omega.{arith}
use borrow.Author.Tests.{le-leb}
use lib.ListN.{length, get_or, drop, length-drop}
use lib.Seq.{length-take-le}
use Rattle.sets.specs.Lists.{◌among◌, here, later, keep, flat, flat_snoc, up_to, among-up_to, get_or-among}
use Rattle.sets.specs.Sets.{◌∈?◌}
use Rattle.semantics.specs.Definitions.Reading.{field}
use Rattle.semantics.specs.Definitions.Sheet.{Sheet, byte_at, most_atoms, longest_name}
use Rattle.semantics.specs.Definitions.Check.{opened, said}
use Rattle.semantics.specs.Definitions.Returned.{accepted}
use Rattle.semantics.specs.Definitions.Program.{bytes, decimal, names_of, view_line, set_line}
use Rattle.semantics.specs.Fields.{name_from, after_name, names_from, after_names}
use Rattle.semantics.proofs.Theorems.Fields.{after_names-more, after_names_rises}
use Rattle.semantics.proofs.Theorems.Accepted.{accepted_lies}
use Rattle.semantics.proofs.Theorems.Layout.{accepted_fits}
use Rattle.semantics.proofs.Theorems.Source.{said_accepted}
use Rattle.text.specs.Names.{atoms_in, name_field, member_field, member_fields}
use Rattle.text.specs.Lines.{view_read, set_read}
use Rattle.text.proofs.Fields.{spaced}

module _ (s : List ℕ) where
  -- ---- one atom more
  pub no_members : (set : ℕ) → member_fields s set 0 ≡ []
  unfolding member_fields flat up_to
  no_members set = refl

  pub member-more : (set a : ℕ) → member_fields s set (a + 1) ≡ member_fields s set a ++ member_field s set a
  unfolding member_fields up_to
  member-more set a = ap (member_fields s set) (add-one a) ∙ flat_snoc (member_field s set) (up_to a) a

  pub place_more : (a : ℕ) {p : ℕ} → p ≡ after_names s a 1 → p + 1 + byte_at s p ≡ after_names s (a + 1) 1
  place_more a e = ap (after_name s) e ∙ sym (after_names-more s a 1) ∙ ap (λ n. after_names s n 1) (sym (add-one a))

  -- ---- name a of n
  name_lies : (n p a : ℕ) → a < n → get_or (names_from s n p) a [] ≡ name_from s (after_names s a p)
  unfolding names_from after_names
  name_lies zero p a h = absurd (not-suc-le-zero h)
  name_lies (suc n) p zero h = refl
  name_lies (suc n) p (suc a) h = name_lies n (after_name s p) a (le_of_suc-le-suc h)

  -- a name that is there and short enough
  pub name_there : (p : ℕ) → byte_at s p ≤ longest_name → after_name s p ≤ length s → name_field s p ≡ 32 ∷ name_from s p
  name_there p h l = rw (le-leb (byte_at s p) longest_name h) (rw (le-leb (after_name s p) (length s) l))

  pub name_long : (p : ℕ) → after_name s p ≤ length s → length (name_from s p) ≡ byte_at s p
  name_long p l = length-take-le (byte_at s p) (drop (p + 1) s) (omega (arith, length-drop (p + 1) s))

-- fields that stand where a test passes
kept_fields : (f : ℕ → List ℕ) (t : ℕ → Bool) (h : ℕ → List ℕ) (l : List ℕ) → ((a : ℕ) → a among l → f a ≡ cond (t a) (32 ∷ h a) [])
    → flat f l ≡ spaced (map h (keep t l))
unfolding flat keep
kept_fields f t h [] e = refl
kept_fields f t h (a ∷ l) e = go (t a) (e a here) (kept_fields f t h l (λ b m. e b (later m)))
  where
    go : (b : Bool) → f a ≡ cond b (32 ∷ h a) [] → flat f l ≡ spaced (map h (keep t l))
        → f a ++ flat f l ≡ spaced (map h (cond b (a ∷ keep t l) (keep t l)))
    go true d ih = ap₂ ◌++◌ d ih
    go false d ih = ap₂ ◌++◌ d ih

module _ (s : List ℕ) (x : Sheet) (end : ℕ) (e : opened s ≡ field x end) where
  name_field_lem : (a : ℕ) → a < length x.names → name_field s (after_names s a 1) ≡ 32 ∷ get_or x.names a []
  name_field_lem a h =
      let lies = accepted_lies s x end e in
      let p = after_names s a 1 in
      let n = length x.names in
      let name : get_or x.names a [] ≡ name_from s p = ap (λ l. get_or l a []) lies.names_lie ∙ name_lies s n 1 a h in
      let there : after_name s p ≤ length s =
      omega (arith, after_names_rises s (suc a) n 1 h, after_names-more s a 1, lies.rules_begin, lies.whole) in
      let short = ((accepted_fits s x end e).front_fits.good_names (get_or x.names a []) (get_or-among x.names [] a h)).not_long in
      let few : byte_at s p ≤ longest_name = omega (arith, short, ap length name, name_long s p there) in
      name_there s p few there ∙ ap (λ l. 32 ∷ l) (sym name)

  atoms-counted : atoms_in s ≡ length x.names
  atoms-counted =
      let lies = accepted_lies s x end e in
      let few : byte_at s 0 ≤ most_atoms = omega (arith, lies.atoms_byte, (accepted_fits s x end e).front_fits.few_names) in
      rw (le-leb (byte_at s 0) most_atoms few) lies.atoms_byte

  names-spaced : (set : ℕ) → member_fields s set (atoms_in s) ≡ spaced (names_of x.names set)
  unfolding member_fields names_of
  names-spaced set =
      ap (member_fields s set) atoms-counted
      ∙ kept_fields (member_field s set) (λ a. a ∈? set) (λ a. get_or x.names a []) (up_to (length x.names))
      (λ a m. ap (λ z. cond (a ∈? set) z []) (name_field_lem a ((among-up_to (length x.names)).0 m)))

-- ---- the lines read off the bytes
module _ (s : List ℕ) (names : List (List ℕ)) (e : said (λ x. x.names) s ≡ accepted names) where
  named : (set : ℕ) → member_fields s set (atoms_in s) ≡ spaced (names_of names set)
  named set =
      let (x, end, d, same) = (said_accepted (λ x. x.names) s names).0 e in
      names-spaced s x end d set ∙ ap (λ l. spaced (names_of l set)) (sym same)

  pub view_says : (guess sets known : ℕ) → view_read s guess sets known ≡ view_line names guess sets known
  unfolding flat
  view_says guess sets known =
      let front = bytes "view" ++ 32 ∷ decimal guess in
      let fields = spaced (names_of names known) in
      ap (λ z. front ++ 32 ∷ decimal sets ++ z ++ 10 ∷ []) (named known)
      ∙ ap (λ z. z ++ 10 ∷ []) (append_assoc front (32 ∷ decimal sets) fields ∙ append_assoc (bytes "view") (32 ∷ decimal guess) (32 ∷ decimal sets ++ fields))

  pub set_says : (set : ℕ) → set_read s set ≡ set_line names set
  set_says set = ap (λ z. bytes "set" ++ z ++ 10 ∷ []) (named set)
