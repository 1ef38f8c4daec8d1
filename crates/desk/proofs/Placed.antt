-- Words at the front of a buffer, and words as bytes there. Assumes nothing.
use Prim.Native.Nat.{ℕ, ◌+◌, ◌*◌, ◌-◌, ◌/◌, ◌%◌, ◌<◌}
use mathlib.Core.Path.{◌≡◌, refl, sym, ap, ap₂, ◌∙◌}
use mathlib.Core.List.{List, [], ◌∷◌, ◌++◌, append_assoc}
use native.Mathlib.Numerals.{add-one}
use native.Mathlib.Omega.{arith}
use lib.ListN.{length, get_or, take, drop, length-append}
use lib.Seq.{length-take-le, take-suc, take_at, drop_at, drop-drop}
use Rattle.sets.specs.Lists.{flat}
use Rattle.semantics.specs.Definitions.Returned.{written}
use Rattle.semantics.specs.Definitions.Desk.{bytes_of}
use Rattle.semantics.proofs.Theorems.Desk.{bytes_long}
use Rattle.records.proofs.Placed.{part, part-written}

-- ---- words as bytes
bytes-append : (a b : List ℕ) → bytes_of (a ++ b) ≡ bytes_of a ++ bytes_of b
unfolding flat
bytes-append [] b = refl
bytes-append (w ∷ a) b = ap (λ l. w % 256 ∷ w / 256 ∷ l) (bytes-append a b)

-- the buffer with the bytes of the first i words at its front
abbrev pub holds : (words out : List ℕ) → ℕ → List ℕ
holds words out i = bytes_of (take i words) ++ drop (2 * i) out

pub none_held : (words out : List ℕ) → out ≡ holds words out 0
unfolding flat
none_held words out = refl

-- and of one word more
pub one_more : (words out : List ℕ) {now : List ℕ} (i : ℕ) → i < length words → now ≡ holds words out i
    → take (2 * i) now ++ ((get_or words i 0 % 256 ∷ get_or words i 0 / 256 ∷ []) ++ drop 2 (drop (2 * i) now)) ≡ holds words out (i + 1)
unfolding flat
one_more words out {now} i h e =
    let w = get_or words i 0 in
    let front = bytes_of (take i words) in
    let rest = drop (2 * i) out in
    let long : length front ≡ 2 * i = bytes_long (take i words) ∙ ap (λ n. 2 * n) (length-take-le i words (omega arith)) in
    let first : take (2 * i) now ≡ front = ap (take (2 * i)) e ∙ take_at front rest (2 * i) long in
    let behind : drop (2 * i) now ≡ rest = ap (drop (2 * i)) e ∙ drop_at front rest (2 * i) long in
    let next : 2 * i + 2 ≡ 2 * (i + 1) = omega arith in
    let more : take (i + 1) words ≡ take i words ++ w ∷ [] = rw add-one (take-suc words i 0 h) in
    ap₂ (λ x y. x ++ (w % 256 ∷ w / 256 ∷ drop 2 y)) first behind
    ∙ ap (λ y. front ++ (w % 256 ∷ w / 256 ∷ y)) (drop-drop 2 (2 * i) out ∙ ap (λ n. drop n out) next)
    ∙ sym (append_assoc front (w % 256 ∷ w / 256 ∷ []) (drop (2 * (i + 1)) out))
    ∙ ap (λ l. l ++ drop (2 * (i + 1)) out) (sym (bytes-append (take i words) (w ∷ [])) ∙ ap bytes_of (sym more))

-- ---- six words as bytes, and then others, into a part of the buffer
-- the part from a place on lent, and given back
pub both : (out cs ws : List ℕ) (at : ℕ) {once after : List ℕ} → length (bytes_of cs) ≡ at → once ≡ written (bytes_of cs) out
    → after ≡ written (bytes_of ws) (part at once)
    → take at once ++ (after ++ drop (length once - at) (drop at once)) ≡ written (bytes_of (cs ++ ws)) out
both out cs ws at {once} {after} l e g =
    let n = length (bytes_of ws) in
    let front : take at once ≡ bytes_of cs = ap (take at) e ∙ take_at (bytes_of cs) (drop (length (bytes_of cs)) out) at l in
    let behind : drop (at + n) once ≡ drop (length (bytes_of (cs ++ ws))) out =
    sym (drop-drop n at once) ∙ ap (drop n) (ap (drop at) e ∙ drop_at (bytes_of cs) (drop (length (bytes_of cs)) out) at l)
    ∙ drop-drop n (length (bytes_of cs)) out
    ∙ ap (λ m. drop m out) (sym (ap length (bytes-append cs ws) ∙ length-append (bytes_of cs) (bytes_of ws))) in
    part-written at once (bytes_of ws) g ∙ ap₂ (λ x y. x ++ (bytes_of ws ++ y)) front behind
    ∙ sym (append_assoc (bytes_of cs) (bytes_of ws) _) ∙ sym (ap (λ b. b ++ drop (length (bytes_of (cs ++ ws))) out) (bytes-append cs ws))
