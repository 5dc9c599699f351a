-- One table among the bytes of all tables. A row inserted, removed or replaced in its block, together with its count,
-- gives the bytes of the tables after this change. The laws name only the blocks in front of the table and those behind
-- it, so that one law serves all four tables.
use Rattle.std.specs.Prelude.{◌≡◌, ℕ, suc, ◌+◌, ◌-◌, ◌*◌, ◌≤◌, List, [], ◌∷◌, ◌++◌, length, replicate, refl}
use Rattle.std.proofs.Common.{append_assoc, ap, ◌∙◌, add-zero, add_assoc, suc-mul}
use Rattle.std.proofs.Math.Path.{sym}
use native.Mathlib.Omega.{arith}
use borrow.Author.Tests.{le-leb}
use Rattle.std.proofs.Math.ListN.{length-append}
use Rattle.std.specs.List.{AllByRecursion}
use Rattle.model.specs.Image.{Block, bytes_of, header_of, header_size, body_of}
use Rattle.laws.specs.WellFormed.{extents}
use Rattle.laws.specs.Fields.{bytes_length}
use Rattle.laws.specs.There.{Sized, body_length}
use Rattle.fields.specs.Edits.{put_bytes, insert_bytes, remove_bytes}
use Rattle.store.specs.Moves.{in_first, row_added, row_taken}
use Rattle.store.specs.Middle.{put_mid, insert_mid, remove_mid}

-- Six lists one after the other, and four.

six : (a b c u r q : List ℕ) → a ++ (b ++ (c ++ (u ++ r ++ q))) ≡ a ++ (b ++ c) ++ u ++ (r ++ q)
six a b c u r q = simp append_assoc

four : (v z q r : List ℕ) → v ++ (z ++ q) ++ r ≡ v ++ (z ++ (q ++ r))
four v z q r = simp append_assoc

-- The header as fields of four bytes: those of the blocks in front of a table, then its own, then the rest.

abbrev pub words : List ℕ → List ℕ
words [] = []
words (v ∷ vs) = bytes_of 4 v ++ words vs

words_append : (us vs : List ℕ) → words (us ++ vs) ≡ words us ++ words vs
words_append [] vs = refl
words_append (u ∷ us) vs = rw (words_append us vs, append_assoc (bytes_of 4 u) (words us) (words vs))

words_length : (vs : List ℕ) → length (words vs) ≡ length vs * 4
words_length [] = refl
words_length (v ∷ vs) = rw (length-append (bytes_of 4 v) (words vs), words_length vs, suc-mul (length vs) 4) (omega arith)

abbrev fields_of : ℕ → List Block → List ℕ
fields_of at [] = []
fields_of at (b ∷ bs) = b.used ∷ at ∷ fields_of (at + b.extent) bs

fields_length : (at : ℕ) (bs : List Block) → length (fields_of at bs) ≡ length bs * 2
fields_length at [] = refl
fields_length at (b ∷ bs) = rw (fields_length (at + b.extent) bs, suc-mul (length bs) 2) (omega arith)

header_length : (at : ℕ) (bs : List Block) → length (header_of at bs) ≡ length bs * 2 + 1
header_length at [] = refl
header_length at (b ∷ bs) = rw (header_length (at + b.extent) bs, suc-mul (length bs) 2) (omega arith)

header_split : (at : ℕ) (front bs : List Block) → header_of at (front ++ bs) ≡ fields_of at front ++ header_of (at + extents front) bs
header_split at [] bs = rw (add-zero at)
header_split at (b ∷ front) bs = rw (header_split (at + b.extent) front bs, add_assoc at b.extent (extents front))

body_split : (front bs : List Block) → body_of (front ++ bs) ≡ body_of front ++ body_of bs
body_split [] bs = refl
body_split (b ∷ front) bs = rw (body_split front bs, append_assoc b.bytes (body_of front) (body_of bs))

-- The offset at which the table starts, and the offset of its count.

module _ (front back : List Block) where
  abbrev pub start_of : ℕ
  start_of = header_size + extents front

  abbrev pub counter_of : ℕ
  counter_of = length front * 8

  -- the bytes between a table's count and its start; then all bytes, where the table has n rows in use and the bytes s
  abbrev between : ℕ → List ℕ
  between extent = words (start_of ∷ header_of (start_of + extent) back) ++ body_of front

  abbrev pub holding : ℕ → ℕ → List ℕ → List ℕ
  holding extent n s = words (fields_of header_size front) ++ (bytes_of 4 n ++ (between extent ++ (s ++ body_of back)))

  pub around : (b : Block)
      → words (header_of header_size (front ++ b ∷ back)) ++ body_of (front ++ b ∷ back) ≡ holding b.extent b.used b.bytes
  around b =
      rw (
        header_split header_size front (b ∷ back),
        words_append (fields_of header_size front) (header_of start_of (b ∷ back)),
        body_split front (b ∷ back),
      )
      (simp append_assoc)

  module _ (count : length front + length back ≡ 3) (sized : AllByRecursion Sized front) (extent : ℕ) where
    counter_here : length (words (fields_of header_size front)) ≡ counter_of
    counter_here = rw (words_length (fields_of header_size front), fields_length header_size front) (omega arith)

    abbrev ahead : ℕ → List ℕ
    ahead n = words (fields_of header_size front) ++ (bytes_of 4 n ++ between extent)

    starts_here : (n : ℕ) → length (ahead n) ≡ start_of
    starts_here n =
        let rest : length (header_of (start_of + extent) back) ≡ length back * 2 + 1 = header_length (start_of + extent) back in
        let own : length (words (start_of ∷ header_of (start_of + extent) back)) ≡ suc (length (header_of (start_of + extent) back)) * 4 =
        words_length (start_of ∷ header_of (start_of + extent) back) in
        rw (
          length-append (words (fields_of header_size front)) (bytes_of 4 n ++ between extent),
          length-append (bytes_of 4 n) (between extent),
          length-append (words (start_of ∷ header_of (start_of + extent) back)) (body_of front),
          counter_here,
          own,
          rest,
          body_length front sized,
        )
        (omega arith)

    two_pieces : (n : ℕ) (u r q : List ℕ) → holding extent n (u ++ (r ++ q)) ≡ ahead n ++ u ++ (r ++ (q ++ body_of back))
    two_pieces n u r q =
        six (words (fields_of header_size front)) (bytes_of 4 n) (between extent) u (r ++ q) (body_of back)
        ∙ ap (λ (l : List ℕ). ahead n ++ u ++ l) (append_assoc r q (body_of back))

    three_pieces : (n : ℕ) (u v z q : List ℕ) → holding extent n (u ++ (v ++ (z ++ q))) ≡ ahead n ++ u ++ (v ++ (z ++ (q ++ body_of back)))
    three_pieces n u v z q =
        six (words (fields_of header_size front)) (bytes_of 4 n) (between extent) u (v ++ (z ++ q)) (body_of back)
        ∙ ap (λ (l : List ℕ). ahead n ++ u ++ l) (four v z q (body_of back))

    u_ends : (n : ℕ) (u : List ℕ) → length (ahead n ++ u) ≡ start_of + length u
    u_ends n u = rw (length-append (ahead n) u, starts_here n)

    recount : (n m : ℕ) (s : List ℕ) → put_bytes (holding extent n s) counter_of (bytes_of 4 m) ≡ holding extent m s
    recount n m s =
        put_mid (words (fields_of header_size front)) (bytes_of 4 n) (between extent ++ (s ++ body_of back)) (bytes_of 4 m)
        counter_of counter_here (bytes_length 4 n ∙ sym (bytes_length 4 m))

    pub put_there : (n : ℕ) (u r q a : List ℕ) → length r ≡ length a
        → put_bytes (holding extent n (u ++ (r ++ q))) (start_of + length u) a ≡ holding extent n (u ++ (a ++ q))
    put_there n u r q a long =
        ap (λ (s : List ℕ). put_bytes s (start_of + length u) a) (two_pieces n u r q)
        ∙ put_mid (ahead n ++ u) r (q ++ body_of back) a (start_of + length u) (u_ends n u) long
        ∙ sym (two_pieces n u a q)

    pub insert_there : (n : ℕ) (u v z q row : List ℕ) (end : ℕ) → start_of + length u + length v ≡ end → length z ≡ length row
        → row_added (holding extent n (u ++ (v ++ (z ++ q)))) counter_of n (start_of + length u) end row
        ≡ holding extent (n + 1) (u ++ (row ++ (v ++ q)))
    unfolding row_added
    insert_there n u v z q row end ends free =
        let at : ℕ = start_of + length u in
        let long : length (ahead n ++ u ++ (v ++ (z ++ (q ++ body_of back))))
        ≡ start_of + length u + (length v + (length z + length (q ++ body_of back))) =
        rw (
          length-append (ahead n ++ u) (v ++ (z ++ (q ++ body_of back))),
          length-append v (z ++ (q ++ body_of back)),
          length-append z (q ++ body_of back),
          u_ends n u,
        ) in
        let fits : end + length row ≤ length (ahead n ++ u ++ (v ++ (z ++ (q ++ body_of back)))) = omega arith in
        let edited : in_first (end + length row) (λ p. insert_bytes p at row) (ahead n ++ u ++ (v ++ (z ++ (q ++ body_of back))))
        ≡ holding extent n (u ++ (row ++ (v ++ q))) =
        insert_mid (ahead n ++ u) v z (q ++ body_of back) row at end (u_ends n u) ends free ∙ sym (three_pieces n u row v q) in
        rw (three_pieces n u v z q, le-leb (end + length row) (length (ahead n ++ u ++ (v ++ (z ++ (q ++ body_of back))))) fits, edited)
        (recount n (n + 1) (u ++ (row ++ (v ++ q))))

    pub remove_there : (n : ℕ) (u r v q : List ℕ) (end k : ℕ) → 1 ≤ n → length r ≡ k → start_of + length u + k + length v ≡ end
        → row_taken (holding extent n (u ++ (r ++ (v ++ q)))) counter_of n (start_of + length u) end k
        ≡ holding extent (n - 1) (u ++ (v ++ (replicate k 0 ++ q)))
    unfolding row_taken
    remove_there n u r v q end k some wide ends =
        let at : ℕ = start_of + length u in
        let long : length (ahead n ++ u ++ (r ++ (v ++ (q ++ body_of back))))
        ≡ start_of + length u + (length r + (length v + length (q ++ body_of back))) =
        rw (
          length-append (ahead n ++ u) (r ++ (v ++ (q ++ body_of back))),
          length-append r (v ++ (q ++ body_of back)),
          length-append v (q ++ body_of back),
          u_ends n u,
        ) in
        let fits : end ≤ length (ahead n ++ u ++ (r ++ (v ++ (q ++ body_of back)))) = omega arith in
        let edited : in_first end (λ p. remove_bytes p at k) (ahead n ++ u ++ (r ++ (v ++ (q ++ body_of back))))
        ≡ holding extent n (u ++ (v ++ (replicate k 0 ++ q))) =
        remove_mid (ahead n ++ u) r v (q ++ body_of back) at end k (u_ends n u) wide ends ∙ sym (three_pieces n u v (replicate k 0) q) in
        rw (three_pieces n u r v q, le-leb end (length (ahead n ++ u ++ (r ++ (v ++ (q ++ body_of back))))) fits, le-leb 1 n some, edited)
        (recount n (n - 1) (u ++ (v ++ (replicate k 0 ++ q))))
