-- Text appended to a buffer: nothing, one byte, one text after another. Assumes nothing.
use Prim.Native.Nat.{ℕ, ◌+◌, ◌≤◌, ◌<◌}
use mathlib.Core.Path.{◌≡◌, refl, sym, ap, ◌∙◌}
use mathlib.Core.List.{List, [], ◌∷◌, ◌++◌, append-nil, append_assoc}
use native.Mathlib.Numerals.{add-one}
use native.Mathlib.Omega.{arith}
use lib.ListN.{length, take, drop, set, length-append, take-append-drop}
use lib.Seq.{length-take-le, take-suc-set, drop-set-lt, drop-drop, take_at, drop_at}
use Rattle.text.specs.Appended.{Appended, Counts}

pub nothing : (at : ℕ) (l : List ℕ) → Appended at [] l l at
nothing at l = record { next = omega arith; front = sym (append-nil (take at l)); rest = refl }

pub one_byte : (at b : ℕ) (l : List ℕ) → at < length l → Appended at (b ∷ []) l (set l at b) (at + 1)
one_byte at b l h = record { next = omega arith; front = rw add-one (take-suc-set l at b h); rest = drop-set-lt (at + 1) l at b (omega arith) }

-- the part that the text fills lent, and given back
pub placed : (at : ℕ) (text l : List ℕ) → at + length text ≤ length l → Appended at text l (take at l ++ (text ++ drop (length text) (drop at l))) (at + length text)
placed at text l h =
    let rest = drop (length text) (drop at l) in
    let long : length (take at l ++ text) ≡ at + length text = length-append (take at l) text ∙ omega (arith, length-take-le at l (omega arith)) in
    let whole = append_assoc (take at l) text rest in
    record {
      next = refl;
      front = ap (take (at + length text)) (sym whole) ∙ take_at (take at l ++ text) rest (at + length text) long;
      rest = ap (drop (at + length text)) (sym whole) ∙ drop_at (take at l ++ text) rest (at + length text) long ∙ drop-drop (length text) at l;
    }

pub and_then : {at r r' : ℕ} {t t' l m o : List ℕ} → Appended at t l m r → Appended r t' m o r' → Appended at (t ++ t') l o r'
and_then {at} {r} {r'} {t} {t'} {l} {m} {o} p q =
    let past : (z : List ℕ) → drop r' z ≡ drop (length t') (drop r z) = λ z. ap (λ n. drop n z) q.next ∙ sym (drop-drop (length t') r z) in
    record {
      next = omega (arith, p.next, q.next, length-append t t');
      front = q.front ∙ ap (λ z. z ++ t') p.front ∙ append_assoc (take at l) t t';
      rest = q.rest ∙ past m ∙ ap (drop (length t')) p.rest ∙ sym (past l);
    }

pub same_text : {at r : ℕ} {t t' l m : List ℕ} → t ≡ t' → Appended at t l m r → Appended at t' l m r
same_text {at} {r} {t} {t'} {l} {m} e p = rw e at p

-- the text ends within the buffer
pub counts : {at r : ℕ} {t l m : List ℕ} → at ≤ length l → Appended at t l m r → Counts r m
counts {at} {r} {t} {l} {m} h p =
    let long : r ≡ length (take r m) = p.next ∙ omega (arith, ap length p.front, length-append (take at l) t, length-take-le at l h) in
    (omega (arith, long, ap length (take-append-drop r m), length-append (take r m) (drop r m)), long)
