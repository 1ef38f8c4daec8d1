-- The layout of a sheet, said without reading: its bytes, and which names, rules and pairs fit; those of an accepted sheet do. Assumes nothing.
use Rattle.std.specs.Prelude.{ℕ, ◌+◌, ◌*◌, ◌≤◌, ◌<◌, ◌≡◌, List, [], ◌∷◌, ◌++◌, get_or}
use Rattle.std.proofs.Common.{sym, inl, arith}
use Rattle.std.proofs.Math.Path.{ap, subst}
use Rattle.std.proofs.Math.ListN.{length}
use Rattle.sets.specs.Decides.{dec_not}
use Rattle.sets.specs.Lists.{◌among◌, nowhere, all_snoc, null, same_list, up_to, among_place, among-map, dec_some, dec_same}
use Rattle.sets.specs.Pairwise.{Distinct, pairwise_snoc}
use Rattle.semantics.specs.Definitions.Reading.{field, times}
use Rattle.semantics.specs.Definitions.Sheet.{Sheet, byte_at, name_byte, name_byte_at, name_at, longest_name}
use Rattle.semantics.specs.Definitions.Check.{opened}
use Rattle.semantics.specs.Fields.{rule_from}
use Rattle.semantics.specs.Theorems.Reading.{require_field, field_same, times_field, times-length}
use Rattle.semantics.specs.Theorems.Names.{GoodName, NameByte, Letter, Allowed, dec_between, dec_allowed}
use Rattle.semantics.proofs.Theorems.Fields.{name_read, rules_field}
use Rattle.semantics.proofs.Theorems.Pairs.{pairs_disjoint}
use Rattle.semantics.proofs.Theorems.Accepted.{accepted_read}
use Rattle.semantics.specs.Theorems.Layout.{IsBytes, Fits}

-- so by their places
pub places_bytes : (s : List ℕ) → ((i : ℕ) → byte_at s i < 256) → IsBytes s
places_bytes s h b m =
    let (i, _, e) = among_place s 0 m in
    subst (λ c. c < 256) e (h i)

-- the first bytes of a name
record Begun (bs : List ℕ) : Type 0 where
  first : 1 ≤ length bs → Letter (get_or bs 0 0)
  bytes : (b : ℕ) → b among bs → NameByte b

begun_more : (bs : List ℕ) (b : ℕ) → Begun bs → Allowed (null bs) b → Begun (bs ++ b ∷ [])
begun_more [] b h a = record { first = λ _. a; bytes = all_snoc NameByte [] b h.bytes (inl a) }
begun_more (c ∷ bs) b h a = record { first = λ _. h.first (omega arith); bytes = all_snoc NameByte (c ∷ bs) b h.bytes a }

module _ (s : List ℕ) where
  name_byte_allowed : (earlier : List ℕ) (at v next : ℕ) → name_byte_at s earlier at ≡ field v next → Allowed (null earlier) v
  unfolding name_byte_at
  name_byte_allowed earlier at v next e =
      let (t, d) = require_field (name_byte (null earlier) (byte_at s at)) 3 at (field (byte_at s at) (at + 1)) e in
      let a = (dec_allowed (null earlier) (byte_at s at)).yes t in
      subst (Allowed (null earlier)) (sym (field_same d).0) a

  name_good : (earlier : List (List ℕ)) (at next : ℕ) (v : List ℕ) → name_at s earlier at ≡ field v next
      → GoodName v × ((y : List ℕ) → y among earlier → v ≡ y → ⊥)
  name_good earlier at next v e =
      let (t, _, d, u) = name_read s earlier at next v e in
      let (low, high) = (dec_between 1 longest_name (byte_at s at)).yes t in
      let len = times-length (name_byte_at s) (byte_at s at) (at + 1) d in
      let b = times_field (name_byte_at s) (λ _ vs _. Begun vs) (λ i vs p v n h q. begun_more vs v h (name_byte_allowed vs p v n q))
      (byte_at s at) (at + 1) (record { first = λ l. absurd (omega arith); bytes = λ b m. absurd (nowhere m) }) d in
      let new = (dec_not (dec_some (same_list v) (λ y. v ≡ y) earlier (λ y _. dec_same v y))).yes u in
      (record { not_empty = omega arith; not_long = omega arith; first = b.first (omega arith); bytes = b.bytes }, λ y m q. new (y, m, q))

  names_good : (n at next : ℕ) (v : List (List ℕ)) → times n [] (name_at s) at ≡ field v next → ((n : List ℕ) → n among v → GoodName n) × Distinct v
  names_good n at next v e =
      times_field (name_at s) (λ _ vs _. ((n : List ℕ) → n among vs → GoodName n) × Distinct vs)
      (λ i vs p v n h q. let (g, new) = name_good vs p n v q in (all_snoc GoodName vs v h.0 g, pairwise_snoc _ vs v h.1 (λ y m e. new y m (sym e))))
      n at ((λ n m. absurd (nowhere m)), tt) e

  pub accepted_fits : (x : Sheet) (end : ℕ) → opened s ≡ field x end → Fits x.names x.rules x.pairs
  unfolding up_to
  accepted_fits x end e =
      let (r, few) = accepted_read s x end e in
      let f = r.front_read in
      let (good, differ) = names_good (length x.names) 1 f.counted_at x.names f.names-read in
      let (lie, _, below) = rules_field s (length x.names) (length x.rules) x.rules_at r.pairs_counted x.rules f.rules-read in
      record {
        front_fits = record {
          few_names = f.few_atoms;
          good_names = good;
          distinct = differ;
          few_rules = f.few_rules;
          whole-rules = λ l m.
              let (i, _, q) = (among-map (λ i. rule_from s (x.rules_at + 16 * i)) (up_to (length x.rules))).0 (subst (λ z. l among z) lie m) in
              ap length q;
          masks_below = below;
          few_negations = few;
        };
        few_pairs = r.few_pairs;
        disjoint = pairs_disjoint s (length x.names) (length x.pairs) (r.pairs_counted + 1) end x.pairs r.pairs-read;
      }
