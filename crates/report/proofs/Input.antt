-- One read after others, into the part of a buffer behind what they filled.
use Rattle.std.proofs.Common.{◌≡◌, ap, ◌∙◌, sym, ℕ, ◌+◌, ◌≤◌, List, ◌++◌, length, take, Option, length-take-le}
use Rattle.std.proofs.Math.Seq.{take-append-add}
use Rattle.std.proofs.lemmas.List.{take-append-le}
use Rattle.std.specs.Io.KnownBytes.{Consumes}
use Rattle.std.proofs.KnownBytes.{Consumes-trans}
use borrow.Rule.Slice.PartMut.{put_mid, post_of}

module _ (xs ys : List ℕ) (done k got : ℕ) (inside : done ≤ length xs) (few : got ≤ length ys) where
  filled : take (done + got) (put_mid done k xs ys) ≡ take done xs ++ take got ys
  filled =
      let front : length (take done xs) ≡ done = length-take-le done xs inside in
      ap (λ (n : ℕ). take (n + got) (put_mid done k xs ys)) (sym front)
      ∙ take-append-add (take done xs) (ys ++ post_of done k xs) got
      ∙ ap (λ (l : List ℕ). take done xs ++ l) (take-append-le got ys (post_of done k xs) few)

  pub more_read : (a b c : Option (List ℕ)) → Consumes a b (take done xs) → Consumes b c (take got ys)
      → Consumes a c (take (done + got) (put_mid done k xs ys))
  more_read a b c first then = rw filled (Consumes-trans a b c (take done xs) (take got ys) first then)
