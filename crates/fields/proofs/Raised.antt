-- The loop that moves bytes up one by one: what each turn keeps, and the bytes at its end.
use Rattle.std.specs.Prelude.{List, [], ◌++◌, ◌≡◌, refl, ℕ, suc, ◌+◌, ◌-◌, ◌<◌, ◌≤◌, length, get_or, set, take, drop}
use Rattle.std.proofs.Common.{append_assoc, append-nil, ap, ◌∙◌, arith, length-set}
use Rattle.std.proofs.Common.{length-take-le, take-suc, drop-cons, drop_of_length-le, get_or-take}
use Rattle.std.proofs.lemmas.List.{set_at, drop-take}
use Rattle.std.proofs.Math.ListN.{get_or-append}
use Rattle.std.proofs.Math.Seq.{paste, slice_empty, take-length}

-- the bytes from offset at on, except the last n, copied n bytes further up; the bytes below offset at + n are unchanged
abbrev pub raised : List ℕ → ℕ → ℕ → List ℕ
raised s n at = take (at + n) s ++ drop at (take (length s - n) s)

-- The last byte moves first, down to offset low. In q the bytes of p from offset i on, except the last n, stand n bytes further up.
pub record Raised (p : List ℕ) (n low : ℕ) (q : List ℕ) (i : ℕ) : Type 0 where
  pub made : q ≡ raised p n i
  pub fits : i + n ≤ length p
  pub within : low ≤ i
  pub same_length : length q ≡ length p

module _ (p : List ℕ) (n low : ℕ) where
  pub raised_none : low + n ≤ length p → Raised p n low p (length p - n)
  raised_none h =
      let e : length p - n + n ≡ length p = omega arith in
      let l : length p - n ≤ length p = omega arith in
      record {
        made = rw (e, take-length, slice_empty, append-nil);
        fits = omega arith;
        within = omega arith;
        same_length = refl;
      }

  raise : (j : ℕ) → suc j + n ≤ length p → set (raised p n (suc j)) (j + n) (get_or (raised p n (suc j)) j 0) ≡ raised p n j
  raise j h =
      let remaining : List ℕ = take (length p - n) p in
      let long : length (take (suc j + n) p) ≡ suc j + n = length-take-le (suc j + n) p h in
      let inside : j < length (take (suc j + n) p) = omega arith in
      let below : j < suc j + n = omega arith in
      let front : get_or (raised p n (suc j)) j 0 ≡ get_or (take (suc j + n) p) j 0 =
      get_or-append (take (suc j + n) p) (drop (suc j) remaining) 0 j inside in
      let read : get_or (raised p n (suc j)) j 0 ≡ get_or p j 0 = front ∙ get_or-take (suc j + n) p j 0 below in
      let sum : suc j + n ≡ suc (j + n) = omega arith in
      let last : j + n < length p = omega arith in
      let head : j + n ≤ length p = omega arith in
      let rest : length p - n ≤ length p = omega arith in
      let within : j < length p - n = omega arith in
      let e : length remaining ≡ length p - n = length-take-le (length p - n) p rest in
      let stays : j < length remaining = omega arith in
      let under : length (take (j + n) p) ≡ j + n = length-take-le (j + n) p head in
      rw (
        read,
        sum,
        take-suc p (j + n) 0 last,
        append_assoc,
        set_at (take (j + n) p) (get_or p (j + n) 0) (drop (suc j) remaining) (get_or p j 0) (j + n) under,
        drop-cons remaining j 0 stays,
        get_or-take (length p - n) p j 0 within,
      )

  pub raised_one : (q : List ℕ) (i : ℕ) → Raised p n low q i → low < i → Raised p n low (set q (i - 1 + n) (get_or q (i - 1) 0)) (i - 1)
  raised_one q i r more =
      let e : i ≡ suc (i - 1) = omega arith in
      let h : suc (i - 1) + n ≤ length p = omega arith in
      let m : q ≡ raised p n (suc (i - 1)) = r.made ∙ ap (λ (k : ℕ). raised p n k) e in
      record {
        made = ap (λ (s : List ℕ). set s (i - 1 + n) (get_or s (i - 1) 0)) m ∙ raise (i - 1) h;
        fits = omega arith;
        within = omega arith;
        same_length = length-set q (i - 1 + n) (get_or q (i - 1) 0) ∙ r.same_length;
      }

  pub raised_all : (q : List ℕ) (i : ℕ) → Raised p n low q i → i ≤ low → q ≡ raised p n low
  raised_all q i r done =
      let e : i ≡ low = omega arith in
      r.made ∙ ap (λ (k : ℕ). raised p n k) e

  -- the same as a paste
  pub raised_pasted : (q : List ℕ) (i : ℕ) → Raised p n low q i → i ≤ low → q ≡ paste p (low + n) (drop low p) (length p - n - low)
  raised_pasted q i r done =
      let m : ℕ = length p - n - low in
      let none : drop (low + n + m) p ≡ [] = drop_of_length-le p {i = low + n + m} (omega arith) in
      let parts : length p - n ≡ low + m = omega (arith, r.fits, r.within) in
      let moved : drop low (take (length p - n) p) ≡ take m (drop low p) =
      ap (λ (k : ℕ). drop low (take k p)) parts ∙ drop-take low m p in
      raised_all q i r done ∙ rw (moved, none, append-nil)
