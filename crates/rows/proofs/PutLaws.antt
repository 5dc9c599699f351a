-- Writing a row field by field gives the same bytes as writing it at once. This holds for any widths of the fields.
use Rattle.std.specs.Prelude.{List, [], ◌∷◌, ◌++◌, ◌≡◌, ℕ, ◌+◌, ◌-◌, ◌<◌, ◌≤◌, length, take, drop}
use Rattle.std.proofs.Common.{append_assoc, ⊎_elim, sym, ap, ◌∙◌, arith, le-leb, length-append, length-drop}
use Rattle.std.proofs.Common.{length-take-le, take_at, drop_at, drop-drop}
use Rattle.std.proofs.lemmas.Bool.{lt-leb}
use Rattle.std.proofs.Math.Seq.{paste-zero}
use Rattle.model.specs.Lists.{total}
use Rattle.model.specs.Image.{Format, size, row_in_bytes, bytes_of, row_bytes}
use Rattle.laws.specs.Tests.{le_or_lt}
use Rattle.laws.specs.Fields.{bytes_length, row_length}
use Rattle.laws.specs.Rows.{Lawful}
use Rattle.fields.specs.Edits.{put_bytes}

-- One put.

pub put_in : (s : List ℕ) (at : ℕ) (a : List ℕ) → at + length a ≤ length s → put_bytes s at a ≡ take at s ++ a ++ drop (at + length a) s
unfolding put_bytes
put_in s at a h = rw (le-leb (at + length a) (length s) h)

pub put_out : (s : List ℕ) (at : ℕ) (a : List ℕ) → length s < at + length a → put_bytes s at a ≡ s
unfolding put_bytes
put_out s at a h = rw (lt-leb (at + length a) (length s) h)

pub put_length : (s : List ℕ) (at : ℕ) (a : List ℕ) → length (put_bytes s at a) ≡ length s
put_length s at a = ⊎_elim inside past (le_or_lt (at + length a) (length s))
  where
    inside : at + length a ≤ length s → length (put_bytes s at a) ≡ length s
    inside h =
        let head : length (take at s) ≡ at = length-take-le at s (omega arith) in
        rw (put_in s at a h, length-append, length-append, head, length-drop) (omega arith)

    past : length s < at + length a → length (put_bytes s at a) ≡ length s
    past h = ap length (put_out s at a h)

-- Two puts, the second right behind the first.
pub put_put : (s : List ℕ) (at : ℕ) (a b : List ℕ) → at + (length a + length b) ≤ length s
    → put_bytes (put_bytes s at a) (at + length a) b ≡ put_bytes s at (a ++ b)
put_put s at a b h =
    let near : at ≤ length s = omega arith in
    let first : at + length a ≤ length s = omega arith in
    let head : length (take at s ++ a) ≡ at + length a = rw (length-append, length-take-le at s near) in
    let q : List ℕ = take at s ++ a ++ drop (at + length a) s in
    let made : put_bytes s at a ≡ q = put_in s at a first in
    let as_long : length q ≡ length s = ap length (sym made) ∙ put_length s at a in
    let second : at + length a + length b ≤ length q = omega arith in
    let front : take (at + length a) q ≡ take at s ++ a = take_at (take at s ++ a) (drop (at + length a) s) (at + length a) head in
    let behind : drop (at + length a) q ≡ drop (at + length a) s = drop_at (take at s ++ a) (drop (at + length a) s) (at + length a) head in
    let further : (t : List ℕ) → drop (length b) (drop (at + length a) t) ≡ drop (at + length a + length b) t =
    λ t. drop-drop (length b) (at + length a) t in
    let back : drop (at + length a + length b) q ≡ drop (at + length a + length b) s = rw (← further q, behind, further s) in
    let both : at + length (a ++ b) ≡ at + length a + length b = simp length-append (omega arith) in
    let whole : at + length (a ++ b) ≤ length s = omega arith in
    rw (made, put_in q (at + length a) b second, front, back, put_in s at (a ++ b) whole, both, append_assoc (take at s) a b)

-- The fields of a row, put into s one after the other from k bytes behind the offset at on, make r.
pub data Put : List ℕ → List ℕ → List ℕ → ℕ → ℕ → List ℕ → Type 0 where
  none : {s : List ℕ} {at k : ℕ} → Put [] [] s at k s
  first : {ws vs s q r : List ℕ} {at w v : ℕ} → q ≡ put_bytes s at (bytes_of w v) → Put ws vs q at w r → Put (w ∷ ws) (v ∷ vs) s at 0 r
  then : {ws vs s q r : List ℕ} {at k w v : ℕ} → q ≡ put_bytes s (at + k) (bytes_of w v) → Put ws vs q at (k + w) r → Put (w ∷ ws) (v ∷ vs) s at k r

pub fields_put : {ws vs s r : List ℕ} {at k : ℕ} → Put ws vs s at k r → length vs ≡ length ws → at + k + total ws ≤ length s
    → r ≡ put_bytes s (at + k) (row_bytes ws vs)
fields_put {s = s} {at = at} {k = k} none counted h = paste-zero s (at + k) [] ∙ sym (put_in s (at + k) [] (omega arith))
fields_put {s = s} {at = at} (first {ws} {vs} {q = q} {w = w} {v = v} e p) counted h =
    let rest_counted : length vs ≡ length ws = omega arith in
    let wide : length (bytes_of w v) ≡ w = bytes_length w v in
    let long : length (row_bytes ws vs) ≡ total ws = row_length ws vs rest_counted in
    let whole : at + (length (bytes_of w v) + length (row_bytes ws vs)) ≤ length s = omega arith in
    let same_long : length q ≡ length s = ap length e ∙ put_length s at (bytes_of w v) in
    let rest : at + w + total ws ≤ length q = omega arith in
    let behind : at + w ≡ at + length (bytes_of w v) = omega arith in
    fields_put p rest_counted rest
    ∙ ap (λ (t : List ℕ). put_bytes t (at + w) (row_bytes ws vs)) e
    ∙ ap (λ (n : ℕ). put_bytes (put_bytes s at (bytes_of w v)) n (row_bytes ws vs)) behind
    ∙ put_put s at (bytes_of w v) (row_bytes ws vs) whole
    ∙ ap (λ (n : ℕ). put_bytes s n (bytes_of w v ++ row_bytes ws vs)) {x = at} {y = at + 0} (omega arith)
fields_put {s = s} {at = at} {k = k} (then {ws} {vs} {q = q} {w = w} {v = v} e p) counted h =
    let rest_counted : length vs ≡ length ws = omega arith in
    let wide : length (bytes_of w v) ≡ w = bytes_length w v in
    let long : length (row_bytes ws vs) ≡ total ws = row_length ws vs rest_counted in
    let whole : at + k + (length (bytes_of w v) + length (row_bytes ws vs)) ≤ length s = omega arith in
    let same_long : length q ≡ length s = ap length e ∙ put_length s (at + k) (bytes_of w v) in
    let rest : at + (k + w) + total ws ≤ length q = omega arith in
    let behind : at + (k + w) ≡ at + k + length (bytes_of w v) = omega arith in
    fields_put p rest_counted rest
    ∙ ap (λ (t : List ℕ). put_bytes t (at + (k + w)) (row_bytes ws vs)) e
    ∙ ap (λ (n : ℕ). put_bytes (put_bytes s (at + k) (bytes_of w v)) n (row_bytes ws vs)) behind
    ∙ put_put s (at + k) (bytes_of w v) (row_bytes ws vs) whole

-- A row as the code writes it.
pub row_put : {A : Type 0} (f : Format A) (law : Lawful f) (x : A) (s : List ℕ) (at offset-count : ℕ)
    → offset-count ≡ length s + 1 - size f
    → at < offset-count
    → (r : List ℕ)
    → Put f.widths (f.numbers x) s at 0 r
    → r ≡ put_bytes s at (row_in_bytes f x)
row_put f law x s at offset-count there h r p =
    fields_put p (law.counted x) (omega arith)
    ∙ ap (λ (n : ℕ). put_bytes s n (row_in_bytes f x)) {x = at + 0} {y = at} (omega arith)
