-- Texts put into bytes from their end: what each leaves, and that a text put in front of another gives both texts.
use Rattle.std.specs.Prelude.{List, [], ◌∷◌, ◌++◌, ◌≡◌, refl, ℕ, suc, ◌+◌, ◌-◌, ◌<◌, ◌≤◌, ◌^◌, length, set, take, drop}
use Rattle.std.specs.Fmt.{decimal as printed}
use Rattle.std.proofs.Common.{append_assoc, sym, ap, ◌∙◌, arith, length-append, length-drop, length-set}
use Rattle.std.proofs.Common.{take-append-drop, take-take, length-take-le, drop_at}
use Rattle.std.proofs.lemmas.List.{set_split, take-append-le}
use Rattle.reporting.specs.Report.{ended_by}
use Rattle.reporting.specs.Pages.{Put}
use Rattle.reporting.proofs.Decimals.{decimal_printed}

pub put_none : (p : List ℕ) (end : ℕ) → end ≤ length p → Put p end [] p end
put_none p end h = record { fits = h; starts = omega arith; made = sym (take-append-drop end p); same_length = refl }

pub put_one : (p : List ℕ) (end v : ℕ) → 1 ≤ end → end ≤ length p → Put p end (v ∷ []) (set p (end - 1) v) (end - 1)
put_one p end v some h =
    let e : suc (end - 1) ≡ end = omega arith in
    record {
      fits = h;
      starts = omega arith;
      made = set_split p (end - 1) v (omega arith) ∙ ap (λ (k : ℕ). take (end - 1) p ++ v ∷ drop k p) e;
      same_length = length-set p (end - 1) v;
    }

pub put_more : (p : List ℕ) (end : ℕ) (x q : List ℕ) (r : ℕ) (y q' : List ℕ) (r' : ℕ)
    → Put p end x q r
    → Put q r y q' r'
    → Put p end (y ++ x) q' r'
put_more p end x q r y q' r' a b =
    let long : length (take r p) ≡ r = length-take-le r p (omega (arith, a.fits, a.starts)) in
    let front : take r' q ≡ take r' p =
    ap (take r') a.made
    ∙ take-append-le r' (take r p) (x ++ drop end p) (omega (arith, b.starts))
    ∙ take-take r' r p (omega (arith, b.starts)) in
    let back : drop r q ≡ x ++ drop end p = ap (drop r) a.made ∙ drop_at (take r p) (x ++ drop end p) r long in
    record {
      fits = a.fits;
      starts = rw length-append (omega (arith, a.starts, b.starts));
      made = b.made ∙ rw (front, back, append_assoc);
      same_length = b.same_length ∙ a.same_length;
    }

-- What is in front of a text and what is the text and what follows it say all.
pub put_written : (p : List ℕ) (end : ℕ) (text q : List ℕ) (r : ℕ) → end ≤ length p → r + length text ≡ end
    → drop r q ≡ text ++ drop end p
    → take r q ≡ take r p
    → Put p end text q r
put_written p end text q r h starts written before =
    let made : q ≡ take r p ++ (text ++ drop end p) = sym (take-append-drop r q) ∙ rw (before, written) in
    let front : length (take r p) ≡ r = length-take-le r p (omega arith) in
    record {
      fits = h;
      starts = starts;
      made = made;
      same_length = ap length made ∙ simp (length-append, length-drop) (omega arith);
    }

-- a number, with the byte behind it, which was put in first
module _ (p : List ℕ) (end n b : ℕ) (small : n < 2 ^ 64) (some : 1 ≤ end) (inside : end ≤ length p)
    (q : List ℕ) (r : ℕ) (starts : r + length (printed n) ≡ end - 1) where
  pub number_put : drop r q ≡ printed n ++ drop (end - 1) (set p (end - 1) b)
      → take r q ≡ take r (set p (end - 1) b)
      → Put p end (ended_by b n) q r
  number_put written before =
      let room : end - 1 ≤ length (set p (end - 1) b) = rw length-set (omega arith) in
      rw (decimal_printed n small)
      (put_more p end (b ∷ []) (set p (end - 1) b) (end - 1) (printed n) q r (put_one p end b some inside)
      (put_written (set p (end - 1) b) (end - 1) (printed n) q r room starts written before))
