-- The laws of `Splices` for rows: a table whose block holds the rows xs and has the capacity cap.
use Rattle.std.specs.Prelude.{◌≡◌, ℕ, suc, ◌+◌, ◌-◌, ◌*◌, ◌<◌, ◌≤◌, List, [], ◌∷◌, ◌++◌, length, take, drop}
use Rattle.std.specs.Prelude.{replicate, slice_index_or, refl}
use Rattle.std.proofs.Common.{append_assoc, sym, ap, ap₂, ◌∙◌, suc-mul, mul-le-mul_right, add-one, arith}
use Rattle.std.proofs.Common.{length-append, length-drop, take-append-drop, length-take-le, drop-cons}
use Rattle.std.proofs.lemmas.List.{length-replicate, replicate-append-replicate}
use Rattle.std.specs.List.{AllByRecursion}
use Rattle.model.specs.Image.{Format, Block, size, row_in_bytes, joined}
use Rattle.laws.specs.Rows.{Lawful, row_long, joined_length}
use Rattle.laws.specs.There.{Sized}
use Rattle.fields.specs.Edits.{put_bytes}
use Rattle.store.specs.Moves.{row_added, row_taken}
use Rattle.store.specs.Splices.{start_of, counter_of, holding, put_there, insert_there, remove_there}

module _ {A : Type 0} (f : Format A) (law : Lawful f) where
  joined_append : (ys zs : List A) → joined f (ys ++ zs) ≡ joined f ys ++ joined f zs
  joined_append [] zs = refl
  joined_append (y ∷ ys) zs = rw (joined_append ys zs, append_assoc (row_in_bytes f y) (joined f ys) (joined f zs))

  -- the bytes of rows with x among them, and the bytes q behind them
  joined_mid : (ys zs : List A) (x : A) (q : List ℕ)
      → joined f (ys ++ x ∷ zs) ++ q ≡ joined f ys ++ (row_in_bytes f x ++ (joined f zs ++ q))
  joined_mid ys zs x q =
      rw (
        joined_append ys (x ∷ zs),
        append_assoc (joined f ys) (row_in_bytes f x ++ joined f zs) q,
        append_assoc (row_in_bytes f x) (joined f zs) q,
      )

  joined_end : (ys zs : List A) (q : List ℕ) → joined f (ys ++ zs) ++ q ≡ joined f ys ++ (joined f zs ++ q)
  joined_end ys zs q = rw (joined_append ys zs, append_assoc (joined f ys) (joined f zs) q)

  module _ (front back : List Block) (count : length front + length back ≡ 3) (sized : AllByRecursion Sized front) (cap : ℕ) where
    abbrev extent : ℕ
    extent = cap * size f

    -- the zeros behind n rows, and the bytes of a table with n rows in use
    abbrev gap : ℕ → List ℕ
    gap n = replicate (extent - n * size f) 0

    abbrev table_bytes : ℕ → List A → List ℕ
    table_bytes n xs = joined f xs ++ gap n

    abbrev row_start : ℕ → ℕ
    row_start n = start_of front back + n * size f

    one_more : (n : ℕ) → (n + 1) * size f ≡ n * size f + size f
    one_more n = rw (add-one, suc-mul n (size f))

    abbrev free_row : List ℕ
    free_row = replicate (size f) 0

    -- the zeros behind n rows are a free row and the zeros behind n + 1 rows
    one_free : (n : ℕ) → n < cap → gap n ≡ free_row ++ gap (n + 1)
    one_free n less =
        let more : (n + 1) * size f ≡ n * size f + size f = one_more n in
        let next : n + 1 ≤ cap = omega arith in
        let within : (n + 1) * size f ≤ extent = mul-le-mul_right (size f) next in
        let sum : extent - n * size f ≡ size f + (extent - (n + 1) * size f) = omega arith in
        ap (λ (m : ℕ). replicate {A = ℕ} m 0) sum ∙ sym (replicate-append-replicate {A = ℕ} (size f) (extent - (n + 1) * size f) 0)

    row_here : (ys : List A) → start_of front back + length (joined f ys) ≡ row_start (length ys)
    row_here ys = ap (λ (m : ℕ). start_of front back + m) (joined_length f law ys)

    rows_long : (ys zs : List A) (n : ℕ) → length ys + length zs ≡ n → length (joined f ys) + length (joined f zs) ≡ n * size f
    rows_long ys zs n all =
        sym (length-append (joined f ys) (joined f zs))
        ∙ ap length (sym (joined_append ys zs))
        ∙ joined_length f law (ys ++ zs)
        ∙ ap (λ (m : ℕ). m * size f) (length-append ys zs ∙ all)

    rows_free : (ys zs : List A) (n : ℕ) → n < cap → table_bytes n (ys ++ zs) ≡ joined f ys ++ (joined f zs ++ (free_row ++ gap (n + 1)))
    rows_free ys zs n less = ap (λ (q : List ℕ). joined f (ys ++ zs) ++ q) (one_free n less) ∙ joined_end ys zs (free_row ++ gap (n + 1))

    -- A row x inserted among n rows, removed from n + 1 rows, and written over a row y.

    added : (ys zs : List A) (x : A) (n : ℕ) → length ys + length zs ≡ n → n < cap
        → row_added (holding front back extent n (table_bytes n (ys ++ zs))) (counter_of front back) n
        (row_start (length ys)) (row_start n) (row_in_bytes f x)
        ≡ holding front back extent (n + 1) (table_bytes (n + 1) (ys ++ x ∷ zs))
    added ys zs x n all less =
        let rows : length (joined f ys) + length (joined f zs) ≡ n * size f = rows_long ys zs n all in
        let ends : start_of front back + length (joined f ys) + length (joined f zs) ≡ row_start n = omega arith in
        let free : length {A = ℕ} free_row ≡ length (row_in_bytes f x) = length-replicate (size f) 0 ∙ sym (row_long f law x) in
        ap (λ (s : List ℕ).
        row_added (holding front back extent n s) (counter_of front back) n (row_start (length ys)) (row_start n) (row_in_bytes f x))
        (rows_free ys zs n less)
        ∙ ap (λ (a : ℕ).
        row_added (holding front back extent n (joined f ys ++ (joined f zs ++ (free_row ++ gap (n + 1))))) (counter_of front back) n
        a (row_start n) (row_in_bytes f x))
        (sym (row_here ys))
        ∙ insert_there front back count sized extent n (joined f ys) (joined f zs) free_row (gap (n + 1)) (row_in_bytes f x)
        (row_start n) ends free
        ∙ ap (holding front back extent (n + 1)) (sym (joined_mid ys zs x (gap (n + 1))))

    taken : (ys zs : List A) (x : A) (n : ℕ) → length ys + length zs ≡ n → n < cap
        → row_taken (holding front back extent (n + 1) (table_bytes (n + 1) (ys ++ x ∷ zs))) (counter_of front back) (n + 1)
        (row_start (length ys)) (row_start (n + 1)) (size f)
        ≡ holding front back extent n (table_bytes n (ys ++ zs))
    taken ys zs x n all less =
        let rows : length (joined f ys) + length (joined f zs) ≡ n * size f = rows_long ys zs n all in
        let more : (n + 1) * size f ≡ n * size f + size f = one_more n in
        let ends : start_of front back + length (joined f ys) + size f + length (joined f zs) ≡ row_start (n + 1) = omega arith in
        let some : 1 ≤ n + 1 = omega arith in
        let back_to : n + 1 - 1 ≡ n = omega arith in
        ap (λ (s : List ℕ).
        row_taken (holding front back extent (n + 1) s) (counter_of front back) (n + 1)
        (row_start (length ys)) (row_start (n + 1)) (size f))
        (joined_mid ys zs x (gap (n + 1)))
        ∙ ap (λ (a : ℕ).
        row_taken (holding front back extent (n + 1) (joined f ys ++ (row_in_bytes f x ++ (joined f zs ++ gap (n + 1)))))
        (counter_of front back) (n + 1) a (row_start (n + 1)) (size f))
        (sym (row_here ys))
        ∙ remove_there front back count sized extent (n + 1) (joined f ys) (row_in_bytes f x) (joined f zs) (gap (n + 1))
        (row_start (n + 1)) (size f) some (row_long f law x) ends
        ∙ ap₂ (holding front back extent) back_to (sym (rows_free ys zs n less))

    over : (ys zs : List A) (x y : A) (n : ℕ)
        → put_bytes (holding front back extent n (table_bytes n (ys ++ y ∷ zs))) (row_start (length ys)) (row_in_bytes f x)
        ≡ holding front back extent n (table_bytes n (ys ++ x ∷ zs))
    over ys zs x y n =
        ap (λ (s : List ℕ). put_bytes (holding front back extent n s) (row_start (length ys)) (row_in_bytes f x))
        (joined_mid ys zs y (gap n))
        ∙ ap (λ (a : ℕ).
        put_bytes (holding front back extent n (joined f ys ++ (row_in_bytes f y ++ (joined f zs ++ gap n)))) a (row_in_bytes f x))
        (sym (row_here ys))
        ∙ put_there front back count sized extent n (joined f ys) (row_in_bytes f y) (joined f zs ++ gap n) (row_in_bytes f x)
        (row_long f law y ∙ sym (row_long f law x))
        ∙ ap (holding front back extent n) (sym (joined_mid ys zs x (gap n)))

    -- The same at the index k of the rows xs.

    abbrev pub whole : List A → List ℕ
    whole xs = holding front back extent (length xs) (table_bytes (length xs) xs)

    module _ (xs : List A) (k : ℕ) (x : A) where
      pub row_added_lem : k ≤ length xs → length xs < cap
          → row_added (whole xs) (counter_of front back) (length xs) (row_start k) (row_start (length xs)) (row_in_bytes f x)
          ≡ whole (take k xs ++ x ∷ drop k xs)
      row_added_lem within less =
          let long : length (take k xs) ≡ k = length-take-le k xs within in
          let rest : length (drop k xs) ≡ length xs - k = length-drop k xs in
          let all : length (take k xs) + length (drop k xs) ≡ length xs = omega arith in
          let new : length xs + 1 ≡ length (take k xs ++ x ∷ drop k xs) = sym (length-append (take k xs) (x ∷ drop k xs) ∙ omega arith) in
          ap₂ (λ (l : List A) (a : ℕ).
          row_added (holding front back extent (length xs) (table_bytes (length xs) l)) (counter_of front back) (length xs)
          (row_start a) (row_start (length xs)) (row_in_bytes f x))
          (sym (take-append-drop k xs)) (sym long)
          ∙ added (take k xs) (drop k xs) x (length xs) all less
          ∙ ap (λ (m : ℕ). holding front back extent m (table_bytes m (take k xs ++ x ∷ drop k xs))) new

    module _ (xs : List A) (k : ℕ) (d : A) (within : k < length xs) where
      long : length (take k xs) ≡ k
      long = length-take-le k xs (omega arith)

      split : xs ≡ take k xs ++ slice_index_or xs k d ∷ drop (suc k) xs
      split = sym (take-append-drop k xs) ∙ ap (λ (l : List A). take k xs ++ l) (drop-cons xs k d within)

      pub row_taken_lem : length xs ≤ cap
          → row_taken (whole xs) (counter_of front back) (length xs) (row_start k) (row_start (length xs)) (size f)
          ≡ whole (take k xs ++ drop (suc k) xs)
      row_taken_lem few =
          let rest : length (drop (suc k) xs) ≡ length xs - suc k = length-drop (suc k) xs in
          let here : length (take k xs) ≡ k = long in
          let all : length (take k xs) + length (drop (suc k) xs) ≡ length xs - 1 = omega arith in
          let less : length xs - 1 < cap = omega arith in
          let count_is : length xs ≡ length xs - 1 + 1 = omega arith in
          let new : length xs - 1 ≡ length (take k xs ++ drop (suc k) xs) = sym (length-append (take k xs) (drop (suc k) xs) ∙ all) in
          ap₂ (λ (l : List A) (a : ℕ).
          row_taken (holding front back extent (length xs) (table_bytes (length xs) l)) (counter_of front back) (length xs)
          (row_start a) (row_start (length xs)) (size f))
          split (sym here)
          ∙ ap (λ (m : ℕ).
          row_taken (holding front back extent m (table_bytes m (take k xs ++ slice_index_or xs k d ∷ drop (suc k) xs)))
          (counter_of front back) m
          (row_start (length (take k xs))) (row_start m) (size f))
          count_is
          ∙ taken (take k xs) (drop (suc k) xs) (slice_index_or xs k d) (length xs - 1) all less
          ∙ ap (λ (m : ℕ). holding front back extent m (table_bytes m (take k xs ++ drop (suc k) xs))) new

      pub row_over : (x : A) → put_bytes (whole xs) (row_start k) (row_in_bytes f x) ≡ whole (take k xs ++ x ∷ drop (suc k) xs)
      row_over x =
          let rest : length (drop (suc k) xs) ≡ length xs - suc k = length-drop (suc k) xs in
          let here : length (take k xs) ≡ k = long in
          let new : length xs ≡ length (take k xs ++ x ∷ drop (suc k) xs) =
          sym (length-append (take k xs) (x ∷ drop (suc k) xs) ∙ omega arith) in
          ap₂ (λ (l : List A) (a : ℕ).
          put_bytes (holding front back extent (length xs) (table_bytes (length xs) l)) (row_start a) (row_in_bytes f x))
          split (sym here)
          ∙ over (take k xs) (drop (suc k) xs) x (slice_index_or xs k d) (length xs)
          ∙ ap (λ (m : ℕ). holding front back extent m (table_bytes m (take k xs ++ x ∷ drop (suc k) xs))) new
