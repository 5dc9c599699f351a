-- The edits follow from what std's methods do to the parts that they are lent.
use Rattle.std.specs.Prelude.{List, [], ◌++◌, ◌≡◌, ℕ, ◌+◌, ◌-◌, ◌<◌, ◌≤◌, length, take, drop, replicate}
use Rattle.std.proofs.Common.{refl, ap, ◌∙◌, sym, arith, append_assoc, append-nil, length-drop, drop_of_length-le, length-take-le}
use Rattle.std.proofs.Common.{drop_at, take-take, take_all, le-leb}
use Rattle.std.proofs.lemmas.Bool.{lt-leb}
use Rattle.std.proofs.lemmas.List.{drop-take, take-append-le}
use Rattle.std.proofs.lemmas.List.Edits.{take-paste, length-paste}
use Rattle.std.proofs.lemmas.Slice.{put_mid-paste}
use Rattle.std.proofs.Math.Seq.{paste, take-length}
use borrow.Rule.Slice.PartMut.{put_mid}
use Rattle.fields.specs.Edits.{put_bytes, insert_bytes, remove_bytes}

module _ (s : List ℕ) (at : ℕ) (row : List ℕ) where
  pub not_replaced : length s < at + length row → s ≡ put_bytes s at row
  unfolding put_bytes
  not_replaced out = rw (lt-leb (at + length row) (length s) out)

  pub replaced : at + length row ≤ length s → (k : ℕ) (part : List ℕ) → k ≡ length row → part ≡ row → put_mid at k s part ≡ put_bytes s at row
  unfolding put_bytes
  replaced fits k part long is =
      put_mid-paste at k s part row (length row) is (sym long) refl ∙ rw (le-leb (at + length row) (length s) fits, take-length)

module _ (s : List ℕ) (at n : ℕ) where
  pub no_room : length s < at + n → (row : List ℕ) → length row ≡ n → put_bytes s at row ≡ insert_bytes s at row
  unfolding put_bytes insert_bytes
  no_room out row long = rw (long, lt-leb (at + n) (length s) out)

  pub inserted : at + n ≤ length s → (q : List ℕ) → q ≡ paste s (at + n) (drop at s) (length s - n - at)
      → (row : List ℕ) → length row ≡ n → put_bytes q at row ≡ insert_bytes s at row
  unfolding put_bytes insert_bytes
  inserted fits q e row long =
      let m : ℕ = length s - n - at in
      let below : List ℕ = take (at + n) s in
      let head : length below ≡ at + n = length-take-le (at + n) s fits in
      let in_head : at ≤ length below = omega arith in
      let low : at ≤ at + n = omega arith in
      let none : drop (at + n + m) s ≡ [] = drop_of_length-le s {i = at + n + m} (omega arith) in
      let parts : length s - n ≡ at + m = omega arith in
      let moved : drop at (take (length s - n) s) ≡ take m (drop at s) = ap (λ (i : ℕ). drop at (take i s)) parts ∙ drop-take at m s in
      let whole : q ≡ below ++ take m (drop at s) = e ∙ rw (none, append-nil) in
      let front : take at q ≡ take at s = rw (whole, take-append-le at below (take m (drop at s)) in_head, take-take at (at + n) s low) in
      let above : drop (at + n) q ≡ take m (drop at s) = rw whole (drop_at below (take m (drop at s)) (at + n) head) in
      let rest : length (drop at s) ≡ length s - at = length-drop at s in
      let same : length q ≡ length s = ap length e ∙ length-paste s (at + n) (drop at s) m (omega arith) (omega arith) in
      rw (long, le-leb (at + n) (length q) (omega arith), le-leb (at + n) (length s) fits, front, above, moved)

  pub not_removed : length s < at + n → s ≡ remove_bytes s at n
  unfolding remove_bytes
  not_removed out = rw (lt-leb (at + n) (length s) out)

  pub removed : at + n ≤ length s → (q part : List ℕ)
      → q ≡ paste s at (drop (at + n) s) (length s - (at + n))
      → part ≡ replicate (length (take (length q - (length s - n)) (drop (length s - n) q))) 0
      → put_mid (length s - n) (length q - (length s - n)) q part ≡ remove_bytes s at n
  unfolding remove_bytes
  removed fits q part e zeros =
      let m : ℕ = length s - (at + n) in
      let behind : List ℕ = drop (at + n) s in
      let in_s : at ≤ length s = omega arith in
      let all : length behind ≡ m = length-drop (at + n) s in
      let remaining : length s - n ≡ at + m = omega arith in
      let few : m ≤ length behind = omega arith in
      let front : take (length s - n) q ≡ take at s ++ behind =
      rw (remaining, e, take-paste s at behind m in_s few, take_all m behind (omega arith)) in
      let same : length q ≡ length s = ap length e ∙ length-paste s at behind m (omega arith) (omega arith) in
      let freed : length q - (length s - n) ≡ n = omega arith in
      let rest : length (drop (length s - n) q) ≡ n = length-drop (length s - n) q ∙ freed in
      let none : drop n (drop (length s - n) q) ≡ [] = drop_of_length-le (drop (length s - n) q) {i = n} (omega arith) in
      rw (
        front,
        zeros,
        freed,
        length-take-le n (drop (length s - n) q) (omega arith),
        none,
        append-nil,
        append_assoc,
        le-leb (at + n) (length s) fits,
      )
